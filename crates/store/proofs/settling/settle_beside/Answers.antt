use Rattle.store.proofs.Words.{IsAsked, IsFound, IsHistory, List, None, Past, Some, ap, bytes_eq, false, find}
use Rattle.store.proofs.Words.{is_kept_for, kept_at, state, sym, true, ℕ, ◌∙◌, ◌≡◌}
use Rattle.office.specs.declared.arrival.Outcome.TheVariants as outcome
use Rattle.store.proofs.OfHistory.{apart_after}
use Rattle.store.proofs.Settled.{known_found, repeat_found, repeat_other, repeat_unknown, repeated_still}
use Rattle.store.proofs.Settled.{settles_still, settling_still, settling_weaker, unknown_found}
use Rattle.store.proofs.settling.settle_beside.Goals as goal

pub returns-in_default : goal.returns-in_default
returns-in_default g c =
    let a = c.args.arrival.now in
    let less : (p : Past) → IsHistory p.0 p.1 → IsFound a c.args.found p → IsAsked a false p = λ p history is.
    let none : find (is_kept_for a.caller a.key) (kept_at p) ≡ None = sym is ∙ c.in_default.is in
    record { new = repeat_unknown a (kept_at p) none; known = unknown_found a (kept_at p) none } in
    settling_weaker less c.judge.ensures

pub returns : goal.returns
returns g c =
    let a = c.args.arrival.now in
    let k = c.in-Some.kept in
    let differs : bytes_eq k.bytes a.bytes ≡ false =
    ap (λ (x : List ℕ). bytes_eq k.bytes x) (sym c.as_slice.ensures) ∙ sym c.is.ensures.value ∙ c.if-is.false in
    let less : (p : Past) → IsHistory p.0 p.1 → IsFound a c.args.found p → IsAsked a true p = λ p history is.
    let some : find (is_kept_for a.caller a.key) (kept_at p) ≡ Some k = sym is ∙ c.in-Some.is in
    record {
      new = repeat_other a (kept_at p) k (apart_after p.0 p.1) some differs;
      known = known_found a (kept_at p) k some;
    } in
    settling_weaker less c.judge-2.ensures

pub returns-then-is : goal.returns-then-is
returns-then-is g c =
    let a = c.args.arrival.now in
    let k = c.in-Some.kept in
    let same : bytes_eq k.bytes a.bytes ≡ true =
    ap (λ (x : List ℕ). bytes_eq k.bytes x) (sym c.as_slice.ensures) ∙ sym c.is.ensures.value ∙ c.if-is.true in
    settling_still (λ is_open. settles_still a (IsFound a c.args.found) (state g.S.Store c.args.conn.now)
    (outcome.Repeated k.reply) c.requires is_open (λ p history is. repeated_still a p k.reply history
    (repeat_found a (kept_at p) k (apart_after p.0 p.1) (sym is ∙ c.in-Some.is) same))) tt
