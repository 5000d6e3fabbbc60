use Rattle.sqlite.specs.Held.{state}
use Rattle.guard_sql.proofs.Opened.{blank_if_none, found_is_had, has_what_is_held}
use Rattle.guard_sql.proofs.laws.what_is_found_is_had.Goals as goal

pub returns-clause-rows : goal.returns-clause-rows
returns-clause-rows g c = found_is_had (state g.S.Store c.args.conn.now)

pub returns-clause-held : goal.returns-clause-held
returns-clause-held g c image new =
    let s = state g.S.Store c.args.conn.now in
    has_what_is_held image s new.0 new.1 new.2 (found_is_had s)

pub returns-clause-blank : goal.returns-clause-blank
returns-clause-blank g c image new = blank_if_none image (state g.S.Store c.args.conn.now) new.0 new.1 new.2
