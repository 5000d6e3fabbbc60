use Rattle.store.proofs.Words.{[], drop, map, ◌≡◌}
use Rattle.store.specs.Departments.{demands_of}
use Rattle.store.proofs.rows.department_rows.demands_of.Given as goal

abbrev pub invariant-loop-line : goal.invariant-loop-line
invariant-loop-line l = demands_of l.kind l.demands (map (λ x. x.now) (drop l.line-index l.lines))
    ≡ demands_of l.kind [] (map (λ x. x.now) l.lines)
