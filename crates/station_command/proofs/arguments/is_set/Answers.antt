use Rattle.std.proofs.Common.{List, Option, ap, codes, false, sym, ℕ, ◌∙◌}
use Rattle.std.specs.Option.{option_map_or}
use Rattle.std.specs.Str.{bytes_eq}
use Rattle.station_command.proofs.arguments.is_set.Goals as goal

pub returns-in-Some : goal.returns-in-Some
returns-in-Some c = c.eq.ensures
    ∙ ap (λ (o : Option (List ℕ)). option_map_or (λ text. bytes_eq text (codes "true")) o false) c.in-Some.ensures

pub returns-in-None : goal.returns-in-None
returns-in-None c =
    ap (λ (o : Option (List ℕ)). option_map_or (λ text. bytes_eq text (codes "true")) o false) c.in-None.ensures
