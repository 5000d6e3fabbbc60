use Rattle.krl.proofs.Words.{List, ap, header_text, refl, same_Some, subst, sym, ℕ, ◌++◌, ◌∙◌}
use Rattle.std.specs.Option.{is_some}
use Rattle.krl.specs.Published.{published_header}
use Rattle.krl.specs.Fronts.{AreSections, head_at}
use Rattle.krl.proofs.Booleans.{clash}
use Rattle.krl.proofs.FrontLaws.{head_again}
use Rattle.krl.proofs.ListedLaws.{listed_found, listed_sections, ids_if_any}
use Rattle.krl.proofs.published.read_published.Goals as goal

pub returns-in_err-head-clause-exact : goal.returns-in_err-head-clause-exact
returns-in_err-head-clause-exact c = (
  λ some. let bad = sym (ap is_some c.from_residual.ensures) ∙ some in absurd cc,
  λ is.
      let lawful = is.1.lawful in
      let bad = c.in_err-head.ensures.reads ∙ ap head_at is.1.text
      ∙ head_again is.0.head _ lawful.version lawful.date in
      absurd cc,
)

pub returns-in_err-key_ids-clause-exact : goal.returns-in_err-key_ids-clause-exact
returns-in_err-key_ids-clause-exact c = (
  λ some. let bad = sym (ap is_some c.from_residual-in_err-key_ids.ensures) ∙ some in absurd cc,
  λ is.
      let lawful = is.1.lawful in
      let head = same_Some _ _ (c.in_ok-head.ensures.reads ∙ ap head_at is.1.text
      ∙ head_again is.0.head _ lawful.version lawful.date) in
      let sections = listed_sections is.0 lawful _ (λ i. (head i).1) in
      let bad = c.in_err-key_ids.ensures.only _ is.0.cas sections.whole (ids_if_any is.0 lawful) in
      absurd cc,
)

pub returns-then-not-are_sections-clause-exact : goal.returns-then-not-are_sections-clause-exact
returns-then-not-are_sections-clause-exact c = (
  λ some. absurd cc,
  λ is.
      let lawful = is.1.lawful in
      let head = same_Some _ _ (c.in_ok-head.ensures.reads ∙ ap head_at is.1.text
      ∙ head_again is.0.head _ lawful.version lawful.date) in
      let sections = listed_sections is.0 lawful _ (λ i. (head i).1) in
      let ids = same_Some _ _ (c.in_ok-key_ids.ensures.only _ is.0.cas sections.whole (ids_if_any is.0 lawful)) in
      let are =
      c.are_sections.ensures.1 (
        is.0.cas,
        is.0.ids,
        subst (λ b. AreSections c.in_ok-head.sections.now b is.0.cas is.0.ids)
            (sym ids) sections,
      ) in
      absurd (clash c.are_sections.result are c.if-not-are_sections.true),
)

pub invariant_of-result : goal.invariant_of-result
invariant_of-result c =
    let found = c.are_sections.ensures.0 c.if-not-are_sections.false in (
      record { head = c.in_ok-head.head; cas = found.0; ids = found.1 },
      listed_found c.in_ok-head.head c.in_ok-head.sections.now c.in_ok-key_ids.key_ids.now found.0 found.1
          c.in_ok-head.ensures.version c.in_ok-head.ensures.date found.2
          (λ e. same_Some _ _ (c.in_ok-key_ids.ensures.none e)),
    )

pub returns-clause-exact : goal.returns-clause-exact
returns-clause-exact c =
    let found = c.are_sections.ensures.0 c.if-not-are_sections.false in
    let head = c.in_ok-head.head in
    let listed =
    listed_found head c.in_ok-head.sections.now c.in_ok-key_ids.key_ids.now found.0 found.1
    c.in_ok-head.ensures.version
    c.in_ok-head.ensures.date found.2 (λ e. same_Some _ _ (c.in_ok-key_ids.ensures.none e)) in (
      λ some. (
        record { head = head; cas = found.0; ids = found.1 },
        record {
          lawful = listed.lawful;
          text = c.in_ok-head.ensures.found
              ∙ ap (λ (t : List ℕ). header_text (published_header head) ++ t) listed.sections_are;
        },
      ),
      λ is. refl,
    )
