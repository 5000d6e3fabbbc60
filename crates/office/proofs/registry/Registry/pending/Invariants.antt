use Rattle.office.proofs.Words.{AreRevocations, Arrival, List, Opening, Preserves, length, state, take, waiting_rows}
use Rattle.office.proofs.Words.{◌-◌, ◌≡◌, ◌≤◌}
use Rattle.office.proofs.registry.Registry.pending.Given as goal

abbrev pub invariant-batches : goal.invariant-batches
invariant-batches g l = record {
  preserves : Preserves g.Self.Registry.is_honest g.Self.Registry.is_open g.Self.Registry.is_as_before
      g.Self.Registry.means l.fn.self l.self;
  rows : g.Self.Registry.is_honest l.self → (o : Opening) (h : List Arrival) → g.Self.Registry.means l.fn.self o h
      → AreRevocations l.revocations (state o h) × (l.place ≤ length (state o h).certificates)
      × (l.rows.items ≡ waiting_rows l.revocations (take l.place (state o h).certificates));
}

abbrev pub decreases-batches : goal.decreases-batches
decreases-batches g l = 18446744073709551616 - l.place
