use Rattle.memory_store.proofs.Words.{Department, List, MemoryContents, Some, ap, ap₂, find, has_department_name}
use Rattle.memory_store.proofs.Words.{option_copied, state_of, sym, ℕ, ◌∙◌, ◌≡◌}
use Rattle.std.specs.Prelude.{option_and_then}
use Rattle.office.specs.Concerns.{named_department}
use Rattle.office.specs.Machine.{department_named}
use Rattle.office.proofs.Agreeing.{department_of_concerned, department_of_named}
use Rattle.memory_store.proofs.Found.{find-entries, found_lawful}
use Rattle.memory_store.proofs.store.PlainStore.department_of.Goals as goal

pub returns-in-Some-default-clause-is : goal.returns-in-Some-default-clause-is
returns-in-Some-default-clause-is c =
    let t = c.args.self.now in
    let m = c.args.message.now in
    let certificate = c.in-Some-default.certificate.now in
    let rows : c.as_slice-departments.result.now ≡ t.departments = c.as_slice-departments.ensures.value ∙ ap (λ (x : MemoryContents). x.departments) c.self.view_is in
    let found : option_copied c.named.result ≡ find (λ d. has_department_name d certificate.department) t.departments =
    c.named.ensures ∙ ap₂ (λ (name : List ℕ) (ds : List Department). find (λ d. has_department_name d name) ds) c.as_slice.ensures rows in
    found ∙ sym (find-entries certificate.department t.departments)
    ∙ sym (department_of_concerned (state_of t) m certificate (sym c.requires ∙ ap option_copied c.in-Some-default.is-0))

pub returns-in-Some-default-clause-lawful : goal.returns-in-Some-default-clause-lawful
returns-in-Some-default-clause-lawful c =
    rw (c.named.ensures, c.as_slice-departments.ensures.value) (found_lawful (λ d. has_department_name d c.as_slice.result.now) c.self.inside.departments.items c.self.invariant.departments)

pub returns-in-None-Some-clause-is : goal.returns-in-None-Some-clause-is
returns-in-None-Some-clause-is c =
    let t = c.args.self.now in
    let m = c.args.message.now in
    let name = c.in-None-Some.name.now in
    let rows : c.as_slice-departments.result.now ≡ t.departments = c.as_slice-departments.ensures.value ∙ ap (λ (x : MemoryContents). x.departments) c.self.view_is in
    let said : named_department m ≡ Some name = sym c.concerned.ensures.department ∙ ap option_copied c.in-None-Some.is-1 in
    c.named-in-None-Some.ensures ∙ ap (λ (ds : List Department). find (λ d. has_department_name d name) ds) rows
    ∙ sym (find-entries name t.departments)
    ∙ sym (department_of_named (state_of t) m (sym c.requires ∙ ap option_copied c.in-None-Some.is-0)
    ∙ ap (option_and_then (department_named (state_of t))) said)

pub returns-in-None-Some-clause-lawful : goal.returns-in-None-Some-clause-lawful
returns-in-None-Some-clause-lawful c =
    rw (c.named-in-None-Some.ensures, c.as_slice-departments.ensures.value) (found_lawful (λ d. has_department_name d c.in-None-Some.name.now) c.self.inside.departments.items c.self.invariant.departments)
