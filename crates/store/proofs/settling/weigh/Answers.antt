use Rattle.store.proofs.Words.{Decided, Err, IsDecided, IsHistory, IsWeighed, List, Ok, Past, state, state_at, subst, ℕ}
use Rattle.store.proofs.Accepted.{decided_accepted}
use Rattle.store.proofs.Settled.{settling_open, settling_weaker, stopped_settles}
use Rattle.store.proofs.settling.weigh.Goals as goal

pub returns-in-Ok : goal.returns-in-Ok
returns-in-Ok g c =
    let a = c.args.arrival.now in
    let m = c.args.message.now in
    let d = c.in-Ok.decision in
    let v = c.view-view.result in
    let less : (p : Past) → IsHistory p.0 p.1 → IsWeighed a m c.args.rows.now p → IsDecided a d v.cas.now p =
    λ p history is small.
    let agrees = c.view-view.ensures.agrees (state_at p) m is.rows in
    decided_accepted p a m d v is.new
    (subst (λ (x : List ℕ). Decided (Ok d) (state_at p) x m a.moment a.nonce) c.as_slice.ensures
    (c.in-Ok.ensures.decided (state_at p) agrees))
    (c.in-Ok.ensures.room (state_at p) agrees) agrees small in
    settling_open (settling_weaker less c.accept_version-outcome.ensures)

pub returns-in-Err : goal.returns-in-Err
returns-in-Err g c =
    let a = c.args.arrival.now in
    let m = c.args.message.now in
    let rows = c.args.rows.now in
    stopped_settles a m (IsWeighed a m rows) (state g.S.Store c.args.conn.now) c.in-Err.stop c.stopped.result
    c.stopped.ensures c.requires.nonce (λ p is. is.new)
    (λ p is. subst (λ (x : List ℕ). Decided (Err c.in-Err.stop) (state_at p) x m a.moment a.nonce) c.as_slice.ensures
    (c.in-Err.ensures.decided (state_at p) (c.view-view.ensures.agrees (state_at p) m is.rows)))
