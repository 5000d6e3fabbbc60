use Rattle.store.proofs.Words.{Has, IsDue, RefusesDecision, RefusesRows, contents_after, contents_of, state}
use Rattle.store.proofs.Words.{with_change, with_counters, with_request}
use Rattle.store.proofs.Causes.{fails_weaker}
use Rattle.store.proofs.WrittenParts.{made, waited}
use Rattle.store.proofs.Written.{due_holds}
use Rattle.store.proofs.writes.writing.write.Goals as goal

pub returns : goal.returns
returns g c =
    let old = state g.S.Store c.args.conn.now in
    let new = state g.S.Store c.write_rows.new.conn in
    let d = c.args.decision.now in
    let a = c.args.arrival.now in
    let cas = c.args.cas.now in
    let number = c.number-number in
    let k = c.in-Some.counters in
    let row = c.in_ok-request.request in
    let rest = c.write_rows.ensures in
    record {
      makes = λ clean. made (IsDue d cas) (contents_after d a)
          (λ x. with_change number.result k.next d.change (with_request row (with_counters k x))) old new
          c.write_rows.result
          (due_holds d a cas number.result k row old c.requires.lawful number.ensures c.in-Some.ensures.value
          c.in_ok-request.ensures) (rest.makes clean);
      fault = λ clean. fails_weaker (IsDue d cas) Has (RefusesRows number.result d.change k row)
          (λ x. RefusesDecision d a cas (contents_of x.0 x.1)) (λ x. contents_of x.0 x.1) old new c.write_rows.result
          (λ x due. due.means)
          (λ x due why. rw (number.ensures, c.in-Some.ensures.value, c.in_ok-request.ensures) at why)
          (rest.fault clean);
      stays = rest.stays;
      survives = waited (IsDue d cas) old new (λ x due. (contents_of x.0 x.1, due.means)) rest.survives;
    }
