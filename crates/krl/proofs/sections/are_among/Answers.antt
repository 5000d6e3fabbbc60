use Rattle.krl.proofs.Words.{bytes_eq, list_all, list_any, ap, sym, ◌∙◌}
use Rattle.krl.proofs.WholeSections.{all_but, all_lost, first_section, no_more, others_whole}
use Rattle.krl.proofs.sections.are_among.Goals as goal

pub returns-then-not-is_key_among : goal.returns-then-not-is_key_among
returns-then-not-is_key_among c ids cas h e =
    let left = c.loop-section.invariant ids cas h e in
    let s = c.in-Some.section in
    let first =
    first_section ids c.loop-section.left.now s.ca s.runs.listed.now s.runs.ranges.now c.in-Some.rest.now left.0
    left.1 left.2 c.in-Some.ensures.reads in
    all_lost (λ p. list_any (λ k. bytes_eq k p.ca) c.args.keys.now) cas left.0 first.1 first.0 left.3 first.2
    (ap (λ ca. list_any (λ k. bytes_eq k ca) c.args.keys.now) (sym first.3) ∙ sym c.is_key_among.ensures
    ∙ c.if-not-is_key_among.true)

pub loop-section-preserved : goal.loop-section-preserved
loop-section-preserved c ids cas h e =
    let left = c.loop-section.invariant ids cas h e in
    let s = c.in-Some.section in
    let first =
    first_section ids c.loop-section.left.now s.ca s.runs.listed.now s.runs.ranges.now c.in-Some.rest.now left.0
    left.1 left.2 c.in-Some.ensures.reads in (
      first.1,
      (others_whole ids left.0 first.1 first.0 left.1 first.2).1,
      first.5,
      all_but (λ p. list_any (λ k. bytes_eq k p.ca) c.args.keys.now) cas left.0 first.1 first.0 left.3 first.2
          (ap (λ ca. list_any (λ k. bytes_eq k ca) c.args.keys.now) (sym first.3) ∙ sym c.is_key_among.ensures
          ∙ c.if-not-is_key_among.false),
    )

pub returns : goal.returns
returns c ids cas h e =
    let left = c.loop-section.invariant ids cas h e in
    let none = no_more ids c.loop-section.left.now left.0 left.1 left.2 c.in_default.ensures.reads in
    sym (left.3 ∙ ap (list_all (λ p. list_any (λ k. bytes_eq k p.ca) c.args.keys.now)) none)
