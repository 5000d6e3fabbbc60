use Rattle.office_jobs.proofs.Words.{IsAsBefore, MeetsOver, state, subst, sym}
use Rattle.store.specs.Transactions.{FailuresStay}
use Rattle.server.specs.Connections.{visit_lines}
use Rattle.office_jobs.proofs.Carried.{before_open}
use Rattle.office_jobs.proofs.Meeting.{met_over}
use Rattle.office_jobs.proofs.served.serve_over.Goals as goal

pub returns-clause-met : goal.returns-clause-met
returns-clause-met g c = λ done.
    let met = c.serve_keeping-status.ensures.met done in
    let said = visit_lines 1 met.meets.visits in
    let old = state g.S.Store c.args.store.conn in
    let new = state g.S.Store c.serve_keeping-status.result.1.conn in (
      said,
      met.lines,
      subst (λ conn. MeetsOver c.args.connections (g.L.Listener.book c.args.listener.now)
          (g.L.Listener.book c.serve_keeping-status.new.listener) (g.N.Source.remaining c.args.nonces.now)
          (g.N.Source.remaining c.serve_keeping-status.new.nonces) said old (state g.S.Store conn))
          (sym c.into_connection.ensures)
          (met_over c.args.connections _ _ _ _ _ _ _ old new (λ visits x. x)
          (λ visits x clean none. before_open old new
          (λ is. let kept : IsAsBefore old new × FailuresStay old new = x none clean is in kept.0)) met.meets),
    )
