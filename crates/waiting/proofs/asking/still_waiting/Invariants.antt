use Rattle.std.proofs.Common.{◌≡◌, List, take}
use Rattle.office.specs.declared.opening.Opening.{Opening}
use Rattle.office.specs.declared.arrival.Arrival.{Arrival}
use Rattle.office.specs.History.{state}
use Rattle.office.specs.Listing.{AreRevocations}
use Rattle.office.specs.Registers.{Preserves}
use Rattle.waiting.specs.Knowing.{still_waiting}
use Rattle.waiting.proofs.asking.still_waiting.Given as goal

abbrev pub invariant-loop-row : goal.invariant-loop-row
invariant-loop-row g l = record {
  preserves : Preserves g.R.Registry.is_honest g.R.Registry.is_open g.R.Registry.is_as_before
      g.R.Registry.means l.fn.register l.register;
  rows : g.R.Registry.is_honest l.register → (o : Opening) (h : List Arrival) → g.R.Registry.means l.fn.register o h
      → AreRevocations l.revocations (state o h)
      → l.kept.items ≡ still_waiting (state o h) (take l.row-index l.rows);
}
