use Rattle.std.proofs.Common.{◌+◌, Err, ap, drop, map, string_bytes, subst, subst₂, sym, take}
use Rattle.std.proofs.lemmas.List.{take_all}
use Rattle.list_jobs.specs.Asking.{AreKeysAt}
use Rattle.list_jobs.proofs.KeysRead.{first_fault, keys_more, next_path, paths_around}
use Rattle.list_jobs.proofs.asking.keys_at.Goals as goal

pub loop-path-preserved : goal.loop-path-preserved
loop-path-preserved g c =
    let Keys = AreKeysAt g.P.Surroundings c.args.around.now g.F.Read.remaining in
    let items = rw c.in-Ok-push.is at c.push.ensures.items in
    subst₂ Keys
    (next_path string_bytes c.args.paths.now c.loop-path.path-index c.path-item.result c.as_str-path.result.now
    c.loop-path-test.true c.path-item.is c.as_str-path.ensures.value)
    (sym items)
    (keys_more g.P.Surroundings c.args.around.now g.F.Read.remaining _ c.loop-path.keys.items c.as_str-path.result.now
    c.in-Ok.key c.loop-path.invariant c.in-Ok.ensures.key)

pub returns-clause-keys : goal.returns-clause-keys
returns-clause-keys g c =
    subst (λ ps. AreKeysAt g.P.Surroundings c.args.around.now g.F.Read.remaining (map string_bytes ps) c.loop-path.keys.items)
    (take_all _ _ c.loop-path-test.false) c.loop-path.invariant

pub returns-in-Err-clause-fault : goal.returns-in-Err-clause-fault
returns-in-Err-clause-fault g c =
    first_fault g.P.Surroundings c.args.around.now g.F.Read.remaining (map string_bytes c.args.paths.now)
    (map string_bytes (take c.loop-path.path-index c.args.paths.now))
    (map string_bytes (drop (c.loop-path.path-index + 1) c.args.paths.now)) c.as_str-path.result.now
    c.loop-path.keys.items c.in-Err.fault
    (paths_around string_bytes c.args.paths.now c.loop-path.path-index c.path-item.result c.as_str-path.result.now
    c.loop-path-test.true c.path-item.is c.as_str-path.ensures.value) c.loop-path.invariant c.in-Err.ensures.only
    (λ l is. c.in-Err.ensures.fault l (ap Err is))
