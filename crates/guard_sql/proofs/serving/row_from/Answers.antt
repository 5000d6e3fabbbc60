use Rattle.std.proofs.Common.{◌≡◌, ◌^◌, Err, Ok, Option, false, subst, true, ℕ}
use Rattle.std.specs.Option.{option_map}
use Rattle.sqlite.specs.Held.{state}
use Rattle.guard.specs.declared.approved.Approved.{Approved}
use Rattle.guard.specs.Retiring.{IsRowFrom}
use Rattle.guard.specs.State.{State}
use Rattle.guard_sql.specs.Damage.{SaysFirstUnless}
use Rattle.guard_sql.specs.Rows.{approved_in}
use Rattle.guard_sql.proofs.Answering.{shows_found}
use Rattle.guard_sql.proofs.Damaged.{says_approved}
use Rattle.guard_sql.proofs.Newest.{first}
use Rattle.guard_sql.proofs.serving.row_from.Goals as goal

abbrev Shown : ℕ → State → Option Approved → Type 0
Shown serial s row = IsRowFrom s serial row

pub returns-in_default-clause-says : goal.returns-in_default-clause-says
returns-in_default-clause-says g c clean low rows has =
    absurd (let wrong : false ≡ true = c.in_default.ensures.fits.1 low in cc)

pub returns-in-Ok-clause-shows : goal.returns-in-Ok-clause-shows
returns-in-Ok-clause-shows g c =
    rw c.approved_in.ensures (shows_found (Shown c.args.serial) (option_map approved_in)
    (λ s trees guard holds x is. first s c.args.serial x is) (Ok c.in-Ok.found)
    (rw c.in-Some.ensures.value at c.in-Ok.ensures.reads))

pub returns-in-Ok-clause-says : goal.returns-in-Ok-clause-says
returns-in-Ok-clause-says g c clean =
    let old = state g.S.Store c.args.conn.now in
    let new = state g.S.Store c.first_approval_from.new.conn in
    rw c.approved_in.ensures (says_approved c.args.serial old new (Ok c.in-Ok.found)
    (subst (λ (n : ℕ). SaysFirstUnless n old new (Ok c.in-Ok.found)) c.in-Some.ensures.value
    (c.in-Ok.ensures.says clean)))

pub returns-in-Err-clause-shows : goal.returns-in-Err-clause-shows
returns-in-Err-clause-shows g c =
    rw c.register_fault.ensures (shows_found (Shown c.args.serial) (option_map approved_in)
    (λ s trees guard holds x is. first s c.args.serial x is) (Err c.in-Err.fault)
    (rw c.in-Some.ensures.value at c.in-Err.ensures.reads))

pub returns-in-Err-clause-says : goal.returns-in-Err-clause-says
returns-in-Err-clause-says g c clean =
    let old = state g.S.Store c.args.conn.now in
    let new = state g.S.Store c.first_approval_from.new.conn in
    rw c.register_fault.ensures (says_approved c.args.serial old new (Err c.in-Err.fault)
    (subst (λ (n : ℕ). SaysFirstUnless n old new (Err c.in-Err.fault)) c.in-Some.ensures.value
    (c.in-Err.ensures.says clean)))
