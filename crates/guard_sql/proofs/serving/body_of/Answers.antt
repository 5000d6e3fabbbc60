use Rattle.std.proofs.Common.{◌≡◌, ◌≤◌, ◌^◌, Err, List, None, Ok, Option, false, subst, sym, true, ℕ, inl, inr}
use Rattle.std.proofs.lemmas.Bool.{cases_lt}
use Rattle.std.specs.Option.{option_map}
use Rattle.sqlite.specs.Held.{state}
use Rattle.guard.specs.State.{State, body_of}
use Rattle.guard_sql.specs.declared.approvals.ApprovalRow.{ApprovalRow}
use Rattle.guard_sql.specs.Damage.{SaysRowUnless}
use Rattle.guard_sql.proofs.Answering.{shows_at_once, shows_found}
use Rattle.guard_sql.proofs.Damaged.{says_body}
use Rattle.guard_sql.proofs.Newest.{none_under, under}
use Rattle.guard_sql.proofs.serving.body_of.Goals as goal

abbrev Shown : ℕ → State → Option (List ℕ) → Type 0
Shown serial s body = body ≡ body_of s serial

pub returns-in_default-clause-shows : goal.returns-in_default-clause-shows
returns-in_default-clause-shows g c =
    let high : 2 ^ 63 ≤ c.args.serial = elim (cases_lt c.args.serial (2 ^ 63)) [
      | inl low ↦ absurd (let wrong : false ≡ true = c.in_default.ensures.fits.1 low in cc)
      | inr ge ↦ ge
    ] in
    shows_at_once (Shown c.args.serial) None (state g.S.Store c.args.conn.now)
    (λ s guard. sym (none_under s c.args.serial guard.numbers high))

pub returns-in_default-clause-says : goal.returns-in_default-clause-says
returns-in_default-clause-says g c clean low rows has =
    absurd (let wrong : false ≡ true = c.in_default.ensures.fits.1 low in cc)

pub returns-in-Ok-clause-shows : goal.returns-in-Ok-clause-shows
returns-in-Ok-clause-shows g c =
    rw c.body_in.ensures (shows_found (Shown c.args.serial) (option_map (λ (r : ApprovalRow). r.body))
    (λ s trees guard holds x is. under s c.args.serial trees x holds is) (Ok c.in-Ok.found)
    (rw c.in-Some.ensures.value at c.in-Ok.ensures.reads))

pub returns-in-Ok-clause-says : goal.returns-in-Ok-clause-says
returns-in-Ok-clause-says g c clean =
    let old = state g.S.Store c.args.conn.now in
    let new = state g.S.Store c.find_approval.new.conn in
    rw c.body_in.ensures (says_body c.args.serial old new (Ok c.in-Ok.found)
    (subst (λ (n : ℕ). SaysRowUnless n old new (Ok c.in-Ok.found)) c.in-Some.ensures.value (c.in-Ok.ensures.says clean)))

pub returns-in-Err-clause-shows : goal.returns-in-Err-clause-shows
returns-in-Err-clause-shows g c =
    rw c.register_fault.ensures (shows_found (Shown c.args.serial) (option_map (λ (r : ApprovalRow). r.body))
    (λ s trees guard holds x is. under s c.args.serial trees x holds is) (Err c.in-Err.fault)
    (rw c.in-Some.ensures.value at c.in-Err.ensures.reads))

pub returns-in-Err-clause-says : goal.returns-in-Err-clause-says
returns-in-Err-clause-says g c clean =
    let old = state g.S.Store c.args.conn.now in
    let new = state g.S.Store c.find_approval.new.conn in
    rw c.register_fault.ensures (says_body c.args.serial old new (Err c.in-Err.fault)
    (subst (λ (n : ℕ). SaysRowUnless n old new (Err c.in-Err.fault)) c.in-Some.ensures.value (c.in-Err.ensures.says clean)))
