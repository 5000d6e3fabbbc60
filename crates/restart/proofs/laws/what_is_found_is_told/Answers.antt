use Rattle.sqlite.specs.Held.{state}
use Rattle.restart.proofs.Opened.{blank_if_none, found_is_told, tells_former, tells_what_is_held}
use Rattle.restart.proofs.laws.what_is_found_is_told.Goals as goal

pub returns-clause-rows : goal.returns-clause-rows
returns-clause-rows g c = found_is_told (state g.S.Store c.args.conn.now) (g.met.S.Store.settled c.args.conn.now.store)

pub returns-clause-held : goal.returns-clause-held
returns-clause-held g c image new =
    let s = state g.S.Store c.args.conn.now in
    tells_what_is_held image s new.0 new.1 new.2 new.3 (found_is_told s (g.met.S.Store.settled c.args.conn.now.store))

pub returns-clause-former : goal.returns-clause-former
returns-clause-former g c image new = tells_former image (state g.S.Store c.args.conn.now) new.0 new.1 new.3

pub returns-clause-blank : goal.returns-clause-blank
returns-clause-blank g c image new = blank_if_none image (state g.S.Store c.args.conn.now) new.0 new.1 new.3
