use Rattle.store.proofs.Words.{Err, ExceedsTables, IsAccepted, IsAfter, IsDue, List, Ok, Outcome, RefusesDecision}
use Rattle.store.proofs.Words.{Settles, contents_of, err_from_is_err_and, kept_at, length, state, state_at, subst, sym}
use Rattle.store.proofs.Words.{ℕ, ◌≤◌}
use Rattle.office.specs.declared.arrival.Outcome.TheVariants as outcome
use Rattle.store.proofs.Causes.{fails_weaker}
use Rattle.store.proofs.Accepted.{is_due, settles_written, waits_written}
use Rattle.store.proofs.Limits.{limited}
use Rattle.store.proofs.settling.accept.Goals as goal

pub returns : goal.returns
returns g c =
    let a = c.args.arrival.now in
    let d = c.args.decision.now in
    let cas = c.args.cas.now in
    let old = state g.S.Store c.args.conn.now in
    let new = state g.S.Store c.write.new.conn in
    let part = c.in_ok-write.ensures in
    record {
      settles = λ clean _. subst (λ (x : List ℕ). Settles a (IsAccepted a d cas) old new (Ok (outcome.Accepted x)))
          (sym c.in_ok-reply.ensures) (settles_written a d cas old new c.requires.nonce (part.makes clean));
      fails = λ clean. tt;
      stays = part.stays;
      keeps = λ clean. tt;
      short = subst (λ (x : List ℕ). length x ≤ 99) (sym c.in_ok-reply.ensures) c.requires.short;
      survives = waits_written a d cas old new part.survives;
    }

pub returns-in_err-write : goal.returns-in_err-write
returns-in_err-write g c =
    let p = err_from_is_err_and c.from_residual-in_err-write.result c.from_residual-in_err-write.ensures.1 in
    let a = c.args.arrival.now in
    let d = c.args.decision.now in
    let cas = c.args.cas.now in
    let old = state g.S.Store c.args.conn.now in
    let new = state g.S.Store c.write.new.conn in
    let part = c.in_err-write.ensures in
    rw (p.1, p.2) (record {
      settles = λ clean _ p after inside. part.makes clean (state_at p, kept_at p) (is_due p a d cas old.now after) inside;
      fails = λ clean. fails_weaker {X = Outcome} (IsAfter (IsAccepted a d cas)) (IsDue d cas)
          (λ x. RefusesDecision d a cas (contents_of x.0 x.1)) (ExceedsTables a) (λ p. (state_at p, kept_at p)) old new
          (Err c.in_err-write.field-0.0) (λ p after. is_due p a d cas old.now after)
          (λ p after why. (d, cas, after.known, limited p a d cas after.history after.known c.requires.lawful why))
          (part.fault clean);
      stays = part.stays;
      keeps = λ clean. tt;
      short = tt;
      survives = waits_written a d cas old new part.survives;
    })
