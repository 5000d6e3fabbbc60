use Rattle.memory_store.proofs.Words.{Bool, MemoryContents, State, ap, contains, length, state_of, subst, sym, ℕ, ◌+◌}
use Rattle.memory_store.proofs.Words.{◌∙◌, ◌≡◌, ◌≤◌}
use Rattle.std.specs.Prelude.{◌||◌}
use Rattle.std.proofs.Math.Path.{fun_ext}
use Rattle.krl.specs.Sets.{is_within}
use Rattle.office.specs.declared.view.Change.{Change}
use Rattle.office.specs.Decided.{HasRoom, IsLawfulChange, changed}
use Rattle.memory_store.proofs.Keeping.{with_department, with_certificate, with_signature, with_ca}
use Rattle.memory_store.proofs.store.PlainStore.make.Goals as goal

pub invariant_of-self : goal.invariant_of-self
invariant_of-self c =
    with_department _ c.in-Department.department _ c.self.invariant (subst IsLawfulChange c.in-Department.is c.requires.lawful) c.in_ok-put_department-in-Department.ensures.ok

pub invariant_of-self-in-Continue-branch-2 : goal.invariant_of-self-in-Continue-branch-2
invariant_of-self-in-Continue-branch-2 c =
    let room = subst (λ (x : Change). HasRoom x (state_of c.args.self.now)) c.in-Certificate.is c.requires.room in
    let inside_room : c.self.inside.opening.first + length c.self.inside.certificates.items ≤ c.self.inside.opening.last =
    subst (λ (t : MemoryContents). t.opening.first + length t.certificates ≤ t.opening.last) (sym c.self.view_is) room in
    rw c.in_ok-push-in-Certificate.ensures.items
    (with_certificate _ c.in-Certificate.certificate c.self.invariant (subst IsLawfulChange c.in-Certificate.is c.requires.lawful) inside_room)

pub invariant_of-self-in-Signature : goal.invariant_of-self-in-Signature
invariant_of-self-in-Signature c = rw c.sign.ensures (with_signature _ _ c.in-Signature.signature c.self.invariant)

pub invariant_of-self-in-Continue-branch-5 : goal.invariant_of-self-in-Continue-branch-5
invariant_of-self-in-Continue-branch-5 c =
    let room = subst (λ (x : Change). HasRoom x (state_of c.args.self.now)) c.in-Ca.is c.requires.room in
    let next = subst (λ (t : MemoryContents). c.in-Ca.ca.since ≡ t.opening.first + length t.certificates) (sym c.self.view_is) room.1 in
    rw c.in_ok-push-in-Ca.ensures.items (with_ca _ c.in-Ca.ca c.self.invariant next)

pub returns-in_ok-add_range-in-Range-clause-ok : goal.returns-in_ok-add_range-in-Range-clause-ok
returns-in_ok-add_range-in-Range-clause-ok c =
    let runs = c.add_range.new.self in
    let range = c.in-Range.range in
    let with_runs : MemoryContents → State = λ t. record (state_of t) { revoked = contains runs } in
    let joined : MemoryContents → ℕ → Bool = λ t n. is_within n (record { lo = range.lo; hi = range.hi }) || contains t.runs n in
    let set : contains runs ≡ joined c.args.self.now = fun_ext c.in_ok-add_range-in-Range.ensures.union ∙ ap joined c.self.view_is in
    ap with_runs c.self.view_is
    ∙ ap (λ (f : ℕ → Bool). record (state_of c.args.self.now) { revoked = f }) set
    ∙ sym (ap (λ (x : Change). changed x (state_of c.args.self.now)) c.in-Range.is)
