use Rattle.server.proofs.Words.{MeetsTold, ◌+◌, ◌≤◌}
use Rattle.server.proofs.serve.serve_on.Given as goal

-- the connections so far were handled, and each added one failure of the nonce source and of the output at most
abbrev pub invariant-loop-served : goal.invariant-loop-served
invariant-loop-served g l =
    let book = g.L.Listener.book in
    let remaining = g.N.Source.remaining in
    let register = g.S.Registry in
    let failures = g.E.Sink.failed in
    let taken = g.E.Sink.taken in
    record {
      honest : register.is_honest l.store → register.is_honest l.initial.store;
      was_open : register.is_honest l.store → register.is_open l.store → register.is_open l.initial.store;
      meets : MeetsTold l.served (book l.initial.listener) (book l.listener) (remaining l.initial.nonces)
          (remaining l.nonces) register l.initial.store l.store (failures l.initial.err) (failures l.err)
          (taken l.initial.err) (taken l.err);
      failed : g.N.Source.failed l.nonces ≤ g.N.Source.failed l.initial.nonces + l.served;
      least : failures l.initial.err ≤ failures l.err;
      most : failures l.err ≤ failures l.initial.err + l.served;
    }
