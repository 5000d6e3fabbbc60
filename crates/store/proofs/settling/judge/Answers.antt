use Rattle.store.proofs.Words.{List, None, Some, message_with_text, refl, state, subst, ℕ, ◌≡◌}
use Rattle.office.proofs.Texts.{read_is}
use Rattle.store.proofs.Settled.{bad_line, settles_refused, settling_still}
use Rattle.store.proofs.settling.judge.Goals as goal

pub returns-in-Err-BadLine : goal.returns-in-Err-BadLine
returns-in-Err-BadLine g c =
    let a = c.args.arrival.now in
    let is : message_with_text a.bytes ≡ None =
    subst (λ (b : List ℕ). message_with_text b ≡ None) c.as_slice.ensures
    (bad_line c.as_slice.result.now c.in-Err-BadLine.field-0 c.in-Err-BadLine.field-0-0 c.in-Err-BadLine.field-0-is
    c.in-Err-BadLine.ensures.exact) in
    settling_still (λ is_open. settles_refused a c.args.is_known (state g.S.Store c.args.conn.now) _ c.requires is_open
    (λ p asked. rw is refl)) tt

pub admit-outcome-requires-clause-read : goal.admit-outcome-requires-clause-read
admit-outcome-requires-clause-read g c =
    let m = c.in-Ok.message in
    subst (λ (b : List ℕ). message_with_text b ≡ Some m) c.as_slice.ensures
    (read_is c.as_slice.result.now m c.in-Ok.ensures.exact c.in-Ok.ensures.found.0 c.in-Ok.ensures.found.1)

pub returns-in-Ok : goal.returns-in-Ok
returns-in-Ok g c = c.admit-outcome.ensures
