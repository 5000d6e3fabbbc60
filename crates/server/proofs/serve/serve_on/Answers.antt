use Rattle.server.proofs.Words.{Extends, MeetsTold, arith, subst, ℕ, ◌+◌, ◌≡◌, ◌≤◌}
use Rattle.server.proofs.Extensions.{meets_extends}
use Rattle.server.proofs.Runs.{told_none, told_one_more}
use Rattle.server.proofs.serve.serve_on.Goals as goal

pub loop-served-init : goal.loop-served-init
loop-served-init g c = record {
  honest = λ h. h;
  was_open = λ h is. is;
  meets = told_none _ _ g.S.Registry _ _ _ (g.met.S.Registry.unasked c.args.store.now);
  failed = (omega arith);
  least = (omega arith);
  most = (omega arith);
}

pub loop-served-preserved : goal.loop-served-preserved
loop-served-preserved g c =
    let at = c.loop-served in
    let step = c.serve_connection-done in
    let told = c.report in
    let failed : g.N.Source.failed step.new.nonces ≤ g.N.Source.failed c.args.nonces.now + (at.served + 1) = omega
    (arith, at.invariant.failed, step.ensures.failed) in
    record {
      honest = λ h. at.invariant.honest (step.ensures.failures.honest h);
      was_open = λ h is. at.invariant.was_open (step.ensures.failures.honest h) (step.ensures.failures.was_open h is);
      meets = told_one_more at.served step.result _ _ _ _ _ _ g.S.Registry _ _ _ _ _ _ _ _ _ at.invariant.meets
          step.ensures.visit step.ensures.failures.honest step.ensures.stays_open step.ensures.failures.was_open
          (g.met.S.Registry.through _ _ _) at.invariant.least told.ensures.least told.ensures.told;
      failed = failed;
      least = (omega (arith, at.invariant.least, told.ensures.least));
      most = (omega (arith, at.invariant.most, told.ensures.most));
    }

pub returns-clause-met : goal.returns-clause-met
returns-clause-met g c done =
    let at = c.loop-served in
    let book = g.L.Listener.book in
    let remaining = g.N.Source.remaining in
    let failures = g.E.Sink.failed in
    let taken = g.E.Sink.taken in
    let all : at.served ≡ c.args.connections = omega (arith, c.loop-served-test.false, at.auto.served-end) in
    subst (λ (n : ℕ). MeetsTold n (book c.args.listener.now) (book at.listener) (remaining c.args.nonces.now)
    (remaining at.nonces) g.S.Registry c.args.store.now at.store (failures c.args.err.now) (failures at.err)
    (taken c.args.err.now) (taken at.err)) all at.invariant.meets

pub returns-clause-served : goal.returns-clause-served
returns-clause-served g c h =
    let at = c.loop-served in
    let all : at.served ≡ c.args.connections = omega (arith, c.loop-served-test.false, at.auto.served-end) in
    subst (λ (n : ℕ). Extends n (g.S.Registry.means c.args.store.now) (g.S.Registry.means at.store)) all
    (meets_extends at.served _ _ _ _ g.S.Registry _ _ at.invariant.meets.meets h)
