use Rattle.server.proofs.Words.{Extends, MeansKnown, MeetsTold, subst, sym}
use Rattle.server.proofs.Keeping.{extends_as, known_at_first, told_as}
use Rattle.server.proofs.serve.serve_keeping.Goals as goal

pub returns-clause-met : goal.returns-clause-met
returns-clause-met g c done =
    let first = c.new-office.ensures in
    let means = g.S.Registry.means in
    let failed = g.E.Sink.failed in
    let taken = g.E.Sink.taken in
    subst (λ (s : g.row.S.Denot). MeetsTold c.args.connections (g.L.Listener.book c.args.listener.now)
    (g.L.Listener.book c.serve_on-status.new.listener) (g.N.Source.remaining c.args.nonces.now)
    (g.N.Source.remaining c.serve_on-status.new.nonces) g.S.Registry c.args.store s (failed c.args.err.now)
    (failed c.serve_on-status.new.err) (taken c.args.err.now) (taken c.serve_on-status.new.err))
    (sym c.into_register.ensures)
    (told_as c.args.connections _ _ _ _ _ g.S.Registry _ _ c.args.store c.serve_on-status.new.store.register _ _ _ _
    (known_at_first means c.args.store _ _ _ _ first.register first.seen first.rows first.revoked) (λ o l m. m.register_means)
    (λ h. h) (λ is. is) (λ is. is)
    (subst (λ (s : g.row.S.Denot). g.S.Registry.is_as_before s c.serve_on-status.new.store.register) first.register)
    (c.serve_on-status.ensures.met done))

pub returns-clause-served : goal.returns-clause-served
returns-clause-served g c =
    let first = c.new-office.ensures in
    let means = g.S.Registry.means in
    let a = c.new-office.result in
    let b = c.serve_on-status.new.store in
    subst (λ (s : g.row.S.Denot). g.S.Registry.is_honest s → Extends c.args.connections (means c.args.store) (means s))
    (sym c.into_register.ensures)
    (λ honest. extends_as c.args.connections (MeansKnown means a.register a.known.seen a.known.rows.items a.revoked)
    (means c.args.store) (MeansKnown means b.register b.known.seen b.known.rows.items b.revoked) (means b.register)
    (known_at_first means c.args.store _ _ _ _ first.register first.seen first.rows first.revoked) (λ o l m. m.register_means)
    (c.serve_on-status.ensures.served honest))
