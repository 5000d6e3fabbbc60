use Rattle.krl.proofs.Words.{refl, subst, sym, ◌∙◌, ◌∷◌}
use Rattle.krl.specs.Fronts.{ArePartsKept, IsKeptBy, part_if_any}
use Rattle.krl.proofs.PartsKept.{find_ca, is_lost, runs_there}
use Rattle.krl.proofs.SectionLaws.{no_range}
use Rattle.krl.proofs.WholeSections.{first_section, no_more, others_whole}
use Rattle.krl.proofs.published.keeps_sections.Goals as goal

pub returns-in_default-runs_of_ca : goal.returns-in_default-runs_of_ca
returns-in_default-runs_of_ca c a b cas others h k e f =
    let left = c.loop-section.invariant a b cas others h k e f in
    let s = c.in-Some.section in
    let first =
    first_section a c.loop-section.left.now s.ca s.runs.listed.now s.runs.ranges.now c.in-Some.rest.now left.0
    left.1 left.2 c.in-Some.ensures.reads in
    let none = c.in_default-runs_of_ca.ensures b others k f in (
      λ some. absurd cc,
      λ kept.
          let all : ArePartsKept (first.0 ∷ first.1) others =
          subst (λ ps. ArePartsKept ps others) first.2 (left.3.0 kept) in
          absurd (is_lost b others first.0 s.ca first.3 none all.0),
    )

pub returns-then-not-keeps_runs : goal.returns-then-not-keeps_runs
returns-then-not-keeps_runs c a b cas others h k e f =
    let left = c.loop-section.invariant a b cas others h k e f in
    let s = c.in-Some.section in
    let first =
    first_section a c.loop-section.left.now s.ca s.runs.listed.now s.runs.ranges.now c.in-Some.rest.now left.0
    left.1 left.2 c.in-Some.ensures.reads in
    let whole = others_whole a left.0 first.1 first.0 left.1 first.2 in
    let there =
    runs_there b others first.0 s.ca c.in-Some-runs_of_ca.runs.listed.now
    c.in-Some-runs_of_ca.runs.ranges.now k first.3
    (c.in-Some-runs_of_ca.ensures b others k f) in
    let runs = c.keeps_runs.ensures first.0.runs there.0.runs (part_if_any 0x23 a)
    (part_if_any 0x23 b) whole.0.runs there.1.runs
    (no_range a) (no_range b) first.4 there.2 in (
      λ some. absurd cc,
      λ kept.
          let all : ArePartsKept (first.0 ∷ first.1) others =
          subst (λ ps. ArePartsKept ps others) first.2 (left.3.0 kept) in
          let yes_kept = runs.1 (subst (IsKeptBy first.0) there.3 all.0) in
          absurd (let bad = sym c.if-not-keeps_runs.true ∙ yes_kept in cc),
    )

pub loop-section-preserved : goal.loop-section-preserved
loop-section-preserved c a b cas others h k e f =
    let left = c.loop-section.invariant a b cas others h k e f in
    let s = c.in-Some.section in
    let first =
    first_section a c.loop-section.left.now s.ca s.runs.listed.now s.runs.ranges.now c.in-Some.rest.now left.0
    left.1 left.2 c.in-Some.ensures.reads in
    let whole = others_whole a left.0 first.1 first.0 left.1 first.2 in
    let there =
    runs_there b others first.0 s.ca c.in-Some-runs_of_ca.runs.listed.now
    c.in-Some-runs_of_ca.runs.ranges.now k first.3
    (c.in-Some-runs_of_ca.ensures b others k f) in
    let runs = c.keeps_runs.ensures first.0.runs there.0.runs (part_if_any 0x23 a)
    (part_if_any 0x23 b) whole.0.runs there.1.runs
    (no_range a) (no_range b) first.4 there.2 in
    let here : IsKeptBy first.0 (find_ca first.0 others) =
    subst (IsKeptBy first.0) (sym there.3) (runs.0 c.if-not-keeps_runs.false) in (
      first.1,
      whole.1,
      first.5,
      (
        λ kept. let all : ArePartsKept (first.0 ∷ first.1) others =
            subst (λ ps. ArePartsKept ps others) first.2 (left.3.0 kept) in all.1,
        λ kept. left.3.1 (subst (λ ps. ArePartsKept ps others) (sym first.2) (here, kept)),
      ),
    )

pub returns : goal.returns
returns c a b cas others h k e f =
    let left = c.loop-section.invariant a b cas others h k e f in
    let none = no_more a c.loop-section.left.now left.0 left.1 left.2 c.in_default.ensures.reads in
    (λ all. left.3.1 (subst (λ ps. ArePartsKept ps others) (sym none) tt), λ kept. refl)
