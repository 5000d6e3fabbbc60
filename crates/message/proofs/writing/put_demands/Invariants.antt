use Rattle.message.proofs.Words.{lines_text, map, take, ◌++◌, ◌≡◌}
use Rattle.message.specs.Texts.{demand_line}
use Rattle.message.proofs.writing.put_demands.Given as goal

abbrev pub invariant-loop-demand : goal.invariant-loop-demand
invariant-loop-demand l = l.out.items ≡ l.fn.out.items ++ lines_text (map demand_line (take l.demand-index l.demands))
