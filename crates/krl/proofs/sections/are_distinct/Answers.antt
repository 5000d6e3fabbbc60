use Rattle.krl.proofs.Words.{CaPart, refl, subst, sym, ◌∙◌, ◌∷◌, ◌≢◌}
use Rattle.krl.specs.Published.{AreDistinctCas, IsMemberOf}
use Rattle.krl.proofs.WholeSections.{another_part, first_section, no_more, no_other, others_whole}
use Rattle.krl.proofs.sections.are_distinct.Goals as goal

pub returns-then-is_some : goal.returns-then-is_some
returns-then-is_some c ids cas h e =
    let left = c.loop-section.invariant ids cas h e in
    let s = c.in-Some.section in
    let first =
    first_section ids c.loop-section.left.now s.ca s.runs.listed.now s.runs.ranges.now c.in-Some.rest.now left.0
    left.1 left.2 c.in-Some.ensures.reads in
    let others = (others_whole ids left.0 first.1 first.0 left.1 first.2).1 in (
      λ no. absurd cc,
      λ apart.
          let distinct : AreDistinctCas (first.0 ∷ first.1) = subst AreDistinctCas first.2 (left.3.0 apart) in
          let runs = c.runs_of_ca.ensures ids first.1 others first.5 in
          let other = another_part ids s.ca first.1 c.runs_of_ca.result (λ r. (r.listed.now, r.ranges.now)) runs
          (sym c.is_some.ensures ∙ c.if-is_some.true) in
          absurd (distinct.0 other.0 other.1 (other.2 ∙ first.3)),
    )

pub loop-section-preserved : goal.loop-section-preserved
loop-section-preserved c ids cas h e =
    let left = c.loop-section.invariant ids cas h e in
    let s = c.in-Some.section in
    let first =
    first_section ids c.loop-section.left.now s.ca s.runs.listed.now s.runs.ranges.now c.in-Some.rest.now left.0
    left.1 left.2 c.in-Some.ensures.reads in
    let others = (others_whole ids left.0 first.1 first.0 left.1 first.2).1 in
    let runs = c.runs_of_ca.ensures ids first.1 others first.5 in
    let apart : (q : CaPart) → IsMemberOf q first.1 → q.ca ≢ first.0.ca = λ q part same.
    no_other ids s.ca first.1 c.runs_of_ca.result (λ r. (r.listed.now, r.ranges.now)) runs
    (sym c.is_some.ensures ∙ c.if-is_some.false) q part (same ∙ sym first.3) in (
      first.1,
      others,
      first.5,
      (
        λ all. let distinct : AreDistinctCas (first.0 ∷ first.1) =
            subst AreDistinctCas first.2 (left.3.0 all) in distinct.1,
        λ all. left.3.1 (subst AreDistinctCas (sym first.2) (apart, all)),
      ),
    )

pub returns : goal.returns
returns c ids cas h e =
    let left = c.loop-section.invariant ids cas h e in
    let none = no_more ids c.loop-section.left.now left.0 left.1 left.2 c.in_default.ensures.reads in
    (λ yes. left.3.1 (subst AreDistinctCas (sym none) tt), λ all. refl)
