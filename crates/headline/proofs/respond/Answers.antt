use Rattle.std.specs.Prelude.{IsTrue}
use Rattle.sqlite.specs.Held.{state}
use Rattle.sqlite.specs.State.{HasCleanDisk}
use Rattle.store.specs.Transactions.{FailuresStay, IsAsBefore}
use Rattle.store.specs.Meaning.{Tells}
use Rattle.headline.proofs.Failed.{caused_by_disk, refused_unchanged, unchanged}
use Rattle.headline.proofs.Listed.{responded}
use Rattle.headline.proofs.Stored.{AreOpen, answers}
use Rattle.headline.proofs.respond.Goals as goal

pub returns-clause-answered : goal.returns-clause-answered
returns-clause-answered g c honest =
    let called = c.answer-response in
    answers called.result (state g.S.Store c.args.store.now.conn) (state g.S.Store called.new.registry.conn) c.args.request.now
    c.args.moment c.args.nonce.now c.what_is_open_is_stored.ensures (called.ensures.answered honest)

pub returns-clause-list : goal.returns-clause-list
returns-clause-list g c honest asks =
    let called = c.answer-response in
    responded c.the_list_is_exact.ensures c.one_ask.ensures called.result (Tells (state g.S.Store c.args.store.now.conn))
    (Tells (state g.S.Store called.new.registry.conn)) (AreOpen (state g.S.Store called.new.registry.conn)) c.args.request.now
    c.args.moment c.args.nonce.now asks (called.ensures.answered honest)

pub returns-clause-reads : goal.returns-clause-reads
returns-clause-reads g c none honest is = (c.answer-response.ensures.reads honest is none).0

pub returns-clause-refused : goal.returns-clause-refused
returns-clause-refused g c =
    let old = state g.S.Store c.args.store.now.conn in
    let new = state g.S.Store c.answer-response.new.registry.conn in
    refused_unchanged c.answer-response.result (HasCleanDisk new) (IsTrue new.is_open) (IsAsBefore old new)
    (FailuresStay old new) c.answer-response.ensures.refused

pub returns-clause-before : goal.returns-clause-before
returns-clause-before g c =
    let old = state g.S.Store c.args.store.now.conn in
    let new = state g.S.Store c.answer-response.new.registry.conn in
    unchanged c.answer-response.result (HasCleanDisk new) (IsTrue new.is_open) (IsAsBefore old new)
    (FailuresStay old new) c.answer-response.ensures.before

pub returns-clause-plain : goal.returns-clause-plain
returns-clause-plain g c plain honest =
    caused_by_disk (λ s. state g.S.Store s.conn) c.args.store.now c.answer-response.new.registry
    c.answer-response.result (c.answer-response.ensures.plain honest plain)
