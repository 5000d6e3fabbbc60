use Rattle.std.proofs.Common.{◌≡◌, ◌++◌, ◌∷◌, [], List, ap, refl, subst, sym}
use Rattle.cert.specs.declared.fields.CertFields.{CertFields}
use Rattle.guard.specs.declared.approved.Approved.{Approved}
use Rattle.guard.specs.declared.verdict.Verdict.{Verdict}
use Rattle.guard.specs.Decided.{Decided}
use Rattle.guard.specs.Machine.{Question, with_rows}
use Rattle.guard.specs.Weighing.{Settles}
use Rattle.guard.proofs.Weighed.{approved_settles}
use Rattle.guard.proofs.judging.settle.Goals as goal

pub returns-in-Ok : goal.returns-in-Ok
returns-in-Ok c s q fields moment body serial read decided =
    subst (λ (rows : List Approved). Settles s c.args.rows.now.items rows q) (sym c.in-Ok.ensures.items)
    (approved_settles s c.args.rows.now.items _ q fields
    (rw (moment, body, serial, c.in_ok-body-in-Approve.ensures) refl) read
    (subst (λ (v : Verdict). Decided v (with_rows s c.args.rows.now.items) q fields) c.in-Approve.is decided))
