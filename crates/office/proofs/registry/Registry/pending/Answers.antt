use Rattle.office.proofs.Words.{Certificate, List, ap, length, state, waiting_rows, ◌++◌, ◌+◌, ◌∙◌}
use Rattle.office.proofs.Registers.{preserves_both}
use Rattle.office.proofs.Waiting.{all_batches, one_batch_more, pending_is}
use Rattle.office.proofs.registry.Registry.pending.Goals as goal

pub batches-preserved : goal.batches-preserved
batches-preserved g c = record {
  preserves = preserves_both g.met.Self.Registry.through c.batches.invariant.preserves c.certificates.ensures.preserves;
  rows = λ h o l m.
      let before = c.certificates.ensures.preserves.honest h in
      let rows = c.batches.invariant.rows before o l m in
      let batch = c.in_ok-batch.ensures.row h o l (c.batches.invariant.preserves.same before o l m) in
      let more = one_batch_more c.in_ok-revocations.revocations (state o l) c.batches.place c.in_ok-next.next c.batches.rows.items
      c.push_waiting.new.rows.items rows.1 rows.2
      (c.in_ok-next.ensures ∙ ap (λ (cs : List Certificate). c.batches.place + length cs)
      (c.deref-in-batches.ensures.value ∙ batch))
      (c.in_ok-push_waiting.ensures ∙ ap (λ (cs : List Certificate). c.batches.rows.items
      ++ waiting_rows c.in_ok-revocations.revocations cs) (c.deref.ensures.value ∙ batch)) in
      (rows.0, more.0, more.1);
}

pub returns-then-next-place-clause-row : goal.returns-then-next-place-clause-row
returns-then-next-place-clause-row g c h o l m =
    let before = c.certificates.ensures.preserves.honest h in
    let rows = c.batches.invariant.rows before o l m in
    let batch = c.in_ok-batch.ensures.row h o l (c.batches.invariant.preserves.same before o l m) in
    pending_is c.in_ok-revocations.revocations (state o l) rows.0 c.push_waiting.new.rows.items
    (all_batches c.in_ok-revocations.revocations (state o l) c.batches.place c.in_ok-next.next c.batches.rows.items
    c.push_waiting.new.rows.items rows.1 rows.2
    (c.in_ok-next.ensures ∙ ap (λ (cs : List Certificate). c.batches.place + length cs)
    (c.deref-in-batches.ensures.value ∙ batch))
    (c.in_ok-push_waiting.ensures ∙ ap (λ (cs : List Certificate). c.batches.rows.items
    ++ waiting_rows c.in_ok-revocations.revocations cs) (c.deref.ensures.value ∙ batch))
    c.if-next-place.true)
