use Rattle.store.proofs.Words.{IsAsked, IsHistory, IsNew, LATEST_MOMENT, Past, false, le-ltb, lt-ltb, nat_lt, refl}
use Rattle.store.proofs.Words.{state, true, ◌∙◌, ◌≡◌}
use Rattle.store.proofs.Settled.{settles_refused, settling_open, settling_still, settling_weaker}
use Rattle.store.proofs.settling.admit.Goals as goal

pub returns-then-arrival-gt-LATEST_MOMENT : goal.returns-then-arrival-gt-LATEST_MOMENT
returns-then-arrival-gt-LATEST_MOMENT g c =
    let a = c.args.arrival.now in
    let is = c.requires.read in
    let late : nat_lt LATEST_MOMENT a.moment ≡ true = lt-ltb _ _ c.if-arrival-gt-LATEST_MOMENT.true in
    settling_still (λ is_open. settles_refused a c.args.is_known (state g.S.Store c.args.conn.now) _ c.requires.nonce
    is_open (λ p asked. rw (is, late) refl)) tt

pub returns-then-is_known : goal.returns-then-is_known
returns-then-is_known g c =
    let a = c.args.arrival.now in
    let is = c.requires.read in
    let in_time : nat_lt LATEST_MOMENT a.moment ≡ false = le-ltb _ _ c.if-arrival-gt-LATEST_MOMENT.false in
    settling_still (λ is_open. settles_refused a c.args.is_known (state g.S.Store c.args.conn.now) _ c.requires.nonce
    is_open (λ p asked. rw (is, in_time, asked.known ∙ c.if-is_known.true) refl)) tt

pub returns : goal.returns
returns g c =
    let a = c.args.arrival.now in
    let less : (p : Past) → IsHistory p.0 p.1 → IsAsked a c.args.is_known p → IsNew a c.args.message.now p =
    λ p history asked. record {
      new = asked.new;
      message = c.requires.read;
      in_time = le-ltb _ _ c.if-arrival-gt-LATEST_MOMENT.false;
      unknown = asked.known ∙ c.if-is_known.false;
    } in
    settling_open (settling_weaker less c.consider.ensures)
