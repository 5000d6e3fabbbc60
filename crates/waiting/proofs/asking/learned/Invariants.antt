use Rattle.std.proofs.Common.{◌≡◌, ◌-◌, ◌≤◌, List, length, take}
use Rattle.office.specs.declared.opening.Opening.{Opening}
use Rattle.office.specs.declared.arrival.Arrival.{Arrival}
use Rattle.office.specs.History.{state}
use Rattle.office.specs.Listing.{waiting_rows}
use Rattle.office.specs.Registers.{Preserves}
use Rattle.waiting.proofs.asking.learned.Given as goal

abbrev pub invariant-batches : goal.invariant-batches
invariant-batches g l = record {
  preserves : Preserves g.R.Registry.is_honest g.R.Registry.is_open g.R.Registry.is_as_before
      g.R.Registry.means l.fn.register l.register;
  rows : g.R.Registry.is_honest l.register → (o : Opening) (h : List Arrival) → g.R.Registry.means l.fn.register o h
      → l.fn.known.seen ≤ length (state o h).certificates
      → l.fn.known.rows.items ≡ waiting_rows l.revocations (take l.fn.known.seen (state o h).certificates)
      → (l.place ≤ length (state o h).certificates)
      × (l.rows.items ≡ waiting_rows l.revocations (take l.place (state o h).certificates));
}

abbrev pub decreases-batches : goal.decreases-batches
decreases-batches g l = 18446744073709551616 - l.place
