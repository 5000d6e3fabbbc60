use Rattle.std.proofs.Common.{◌≡◌, take}
use Rattle.memory_store.proofs.store.PlainStore.key_id_rows.Given as goal

abbrev pub invariant-loop-key_id : goal.invariant-loop-key_id
invariant-loop-key_id l = l.key_ids.items ≡ take l.key_id-index l.key_id-items
