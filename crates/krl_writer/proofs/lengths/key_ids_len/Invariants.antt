use Rattle.krl.proofs.Words.{key_id_length, sum_by, take, ◌≡◌, ◌≤◌}
use Rattle.krl_writer.proofs.lengths.key_ids_len.Given as goal

abbrev pub invariant-loop-id : goal.invariant-loop-id
invariant-loop-id l = record {
  so_far : l.len ≡ sum_by key_id_length (take l.id-index l.ids);
  small : l.len ≤ 4294967295;
}
