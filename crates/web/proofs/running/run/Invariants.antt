use Rattle.std.proofs.Common.{◌+◌, ◌≤◌, length, drop, take, vec_len}
use Rattle.std.specs.Prelude.{vec_capacity}
use Rattle.web.specs.Forms.{HaveForms}
use Rattle.web.specs.Runs.{AreGivenNoChange}
use Rattle.web.proofs.Underway.{IsUnderway}
use Rattle.web.proofs.running.run.Given as goal

abbrev pub invariant-loop-exchange : goal.invariant-loop-exchange
invariant-loop-exchange g l = record {
  honest : g.R.Registry.is_honest l.registry → g.R.Registry.is_honest l.fn.registry;
  was_open : g.R.Registry.is_honest l.registry → g.R.Registry.is_open l.registry → g.R.Registry.is_open l.fn.registry;
  before : g.R.Registry.is_honest l.registry → AreGivenNoChange (take l.exchange-index l.exchanges) l.given.items
      → g.R.Registry.is_open l.registry → g.R.Registry.is_as_before l.fn.registry l.registry;
  underway : g.R.Registry.is_honest l.registry → IsUnderway (g.R.Registry.means l.fn.registry)
      (g.R.Registry.means l.registry) (g.R.Registry.is_open l.registry) l.exchanges (drop l.exchange-index l.exchanges) l.given.items;
  room : vec_len l.given + (length l.exchanges) ≤ vec_capacity l.given + l.exchange-index;
  forms : HaveForms (take l.exchange-index l.exchanges) l.given.items;
}
