use Rattle.message.proofs.Words.{[], map, ◌-◌, ◌≡◌}
use Rattle.message.specs.Reading.{demands_from}
use Rattle.message.proofs.demand.demands_in.Given as goal

abbrev pub invariant-loop-n : goal.invariant-loop-n
invariant-loop-n l = demands_from l.kind (9 - l.n) l.n l.demands (map (λ x. x.now) l.pieces)
    ≡ demands_from l.kind 3 6 [] (map (λ x. x.now) l.pieces)
