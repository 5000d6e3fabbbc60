use Rattle.message.proofs.Words.{[], map, ◌-◌, ◌≡◌}
use Rattle.message.specs.Reading.{options_from}
use Rattle.message.proofs.issue.options_in.Given as goal

abbrev pub invariant-loop-n : goal.invariant-loop-n
invariant-loop-n l = options_from (10 - l.n) l.n l.options (map (λ x. x.now) l.pieces)
    ≡ options_from 3 7 [] (map (λ x. x.now) l.pieces)
