use Rattle.std.proofs.Common.{◌≡◌, take}
use Rattle.guard.specs.Decided.{questions}
use Rattle.guard.specs.Machine.{State}
use Rattle.guard.specs.Weighing.{WeighsAll}
use Rattle.guard.proofs.judging.weigh_all.Given as goal

-- the first bodies have been judged
abbrev pub invariant-loop-body : goal.invariant-loop-body
invariant-loop-body g l = record {
  honest : g.R.Register.is_honest l.register → g.R.Register.is_honest l.fn.register;
  weighs : g.R.Register.is_honest l.register → (s : State) → g.R.Register.keeps l.fn.register s
      → WeighsAll l.window.moment l.answers.items s l.rows.items (questions l.policy l.window (take l.body-index l.bodies));
  same : g.R.Register.is_honest l.register → (s : State) → g.R.Register.keeps l.fn.register s
      → g.R.Register.keeps l.register s;
  crash : g.R.Register.is_honest l.register → (s : State) → g.R.Register.keeps l.fn.register s
      → g.R.Register.leaves l.fn.register s s → g.R.Register.leaves l.register s s;
  reported : g.R.Register.reported l.register ≡ g.R.Register.reported l.fn.register;
  before : g.R.Register.is_honest l.register → g.R.Register.is_as_before l.fn.register l.register;
}
