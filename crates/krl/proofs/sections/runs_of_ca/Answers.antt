use Rattle.krl.proofs.Words.{List, Some, ap, bytes_eq, sym, ℕ, ◌∙◌}
use Rattle.krl.specs.Fronts.{runs_under}
use Rattle.krl.proofs.WholeSections.{first_section, no_more, others_whole, runs_first, runs_later}
use Rattle.krl.proofs.sections.runs_of_ca.Goals as goal

pub returns-then-is_same : goal.returns-then-is_same
returns-then-is_same c ids cas h e =
    let left = c.loop-section.invariant ids cas h e in
    let s = c.in-Some.section in
    let first =
    first_section ids c.loop-section.left.now s.ca s.runs.listed.now s.runs.ranges.now c.in-Some.rest.now left.0
    left.1 left.2 c.in-Some.ensures.reads in
    let yes = ap (λ (ca : List ℕ). bytes_eq ca c.args.ca.now) (sym first.3) ∙ sym c.is_same.ensures
    ∙ c.if-is_same.true in
    sym (left.3 ∙ ap (runs_under ids c.args.ca.now) first.2 ∙ runs_first ids c.args.ca.now first.1 first.0 yes
    ∙ (λ i. Some (sym first.4.short i, sym first.4.long i)))

pub loop-section-preserved : goal.loop-section-preserved
loop-section-preserved c ids cas h e =
    let left = c.loop-section.invariant ids cas h e in
    let s = c.in-Some.section in
    let first =
    first_section ids c.loop-section.left.now s.ca s.runs.listed.now s.runs.ranges.now c.in-Some.rest.now left.0
    left.1 left.2 c.in-Some.ensures.reads in
    let no = ap (λ (ca : List ℕ). bytes_eq ca c.args.ca.now) (sym first.3) ∙ sym c.is_same.ensures
    ∙ c.if-is_same.false in (
      first.1,
      (others_whole ids left.0 first.1 first.0 left.1 first.2).1,
      first.5,
      left.3 ∙ ap (runs_under ids c.args.ca.now) first.2 ∙ runs_later ids c.args.ca.now first.1 first.0 no,
    )

pub returns : goal.returns
returns c ids cas h e =
    let left = c.loop-section.invariant ids cas h e in
    let none = no_more ids c.loop-section.left.now left.0 left.1 left.2 c.in_default.ensures.reads in
    sym (left.3 ∙ ap (runs_under ids c.args.ca.now) none)
