use Rattle.store.proofs.Words.{IsAccepted, IsDecided, IsHistory, Past, arith}
use Rattle.store.proofs.Settled.{settling_weaker}
use Rattle.store.proofs.settling.accept_version.Goals as goal

pub returns : goal.returns
returns g c =
    let a = c.args.arrival.now in
    let d = c.args.decision.now in
    let cas = c.args.cas.now in
    let less : (p : Past) → IsHistory p.0 p.1 → IsDecided a d cas p → IsAccepted a d cas p =
    λ p history is. is (omega (arith, c.if-decision-gt-LAST_VERSION.false)) in
    settling_weaker less c.accept.ensures
