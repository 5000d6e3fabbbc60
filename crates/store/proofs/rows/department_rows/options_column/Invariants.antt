use Rattle.store.proofs.Words.{list_text, map, take, ◌∷◌, ◌≡◌}
use Rattle.message.specs.Texts.{demand_line}
use Rattle.store.proofs.rows.department_rows.options_column.Given as goal

abbrev pub invariant-loop-demand : goal.invariant-loop-demand
invariant-loop-demand l = l.lines ≡ list_text l.options ∷ map demand_line (take l.demand-index l.demands)
