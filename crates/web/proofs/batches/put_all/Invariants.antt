use Rattle.web.proofs.Words.{Arrival, Certificate, List, Opening, flat_map, length, line_among, state, take, ◌++◌, ◌≡◌, ◌≤◌}
use Rattle.std.proofs.Common.{◌-◌}
use Rattle.office.specs.Registers.{Preserves}
use Rattle.web.specs.Batches.{Says}
use Rattle.web.proofs.batches.put_all.Given as goal

abbrev pub invariant-batches : goal.invariant-batches
invariant-batches g l = record {
  preserves : Preserves g.R.Registry.is_honest g.R.Registry.is_open g.R.Registry.is_as_before
      g.R.Registry.means l.fn.registry l.registry;
  lines : g.R.Registry.is_honest l.registry → (o : Opening) (h : List Arrival) → g.R.Registry.means l.fn.registry o h
      → (l.place ≤ length (state o h).certificates)
      × (l.out.items ≡ l.fn.out.items ++ flat_map (line_among l.revocations) (take l.place (state o h).certificates));
  still : g.R.Registry.is_honest l.registry → g.R.Registry.is_open l.fn.registry → g.R.Registry.is_open l.registry;
  as_before : g.R.Registry.is_honest l.registry → g.R.Registry.is_as_before l.fn.registry l.registry;
  said : (cs : List Certificate) × Says l.revocations cs 0 l.place l.fn.out.items l.out.items;
}

abbrev pub decreases-batches : goal.decreases-batches
decreases-batches g l = 18446744073709551616 - l.place
