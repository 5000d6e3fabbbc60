use Rattle.sqlite.specs.Held.{state}
use Rattle.restart.proofs.Opened.{found_is_told, tells_what_is_held}
use Rattle.restart.proofs.laws.what_was_left_is_told.Goals as goal

pub returns : goal.returns
returns g c image new may o l kept =
    let s = state g.S.Store c.args.conn.now in
    let told = found_is_told s (g.met.S.Store.settled c.args.conn.now.store) in
    tells_what_is_held image s new.0 new.1 new.2 new.3 told o l (kept image may)
