use Rattle.std.proofs.Common.{◌+◌, ◌++◌, ◌∙◌, List, ap, length}
use Rattle.office.specs.declared.certificate.Certificate.{Certificate}
use Rattle.office.specs.History.{state}
use Rattle.office.specs.Listing.{waiting_rows}
use Rattle.office.proofs.Registers.{preserves_both}
use Rattle.office.proofs.Waiting.{all_batches, one_batch_more, place_is_end}
use Rattle.waiting.proofs.asking.learned.Goals as goal

pub batches-preserved : goal.batches-preserved
batches-preserved g c = record {
  preserves = preserves_both g.met.R.Registry.through c.batches.invariant.preserves c.certificates.ensures.preserves;
  rows = λ h o l m within known.
      let before = c.certificates.ensures.preserves.honest h in
      let rows = c.batches.invariant.rows before o l m within known in
      let batch = c.in_ok-batch.ensures.row h o l (c.batches.invariant.preserves.same before o l m) in
      one_batch_more c.args.revocations.now (state o l) c.batches.place c.in_ok-next.next c.batches.rows.items
      c.push_waiting.new.rows.items rows.0 rows.1
      (c.in_ok-next.ensures ∙ ap (λ (cs : List Certificate). c.batches.place + length cs)
      (c.deref-in-batches.ensures.value ∙ batch))
      (c.in_ok-push_waiting.ensures ∙ ap (λ (cs : List Certificate). c.batches.rows.items
      ++ waiting_rows c.args.revocations.now cs) (c.deref.ensures.value ∙ batch));
}

pub returns-then-next-place-clause-row : goal.returns-then-next-place-clause-row
returns-then-next-place-clause-row g c h o l m within known =
    let before = c.certificates.ensures.preserves.honest h in
    let rows = c.batches.invariant.rows before o l m within known in
    let batch = c.in_ok-batch.ensures.row h o l (c.batches.invariant.preserves.same before o l m) in
    let behind = c.in_ok-next.ensures ∙ ap (λ (cs : List Certificate). c.batches.place + length cs)
    (c.deref-in-batches.ensures.value ∙ batch) in
    let more = c.in_ok-push_waiting.ensures ∙ ap (λ (cs : List Certificate). c.batches.rows.items
    ++ waiting_rows c.args.revocations.now cs) (c.deref.ensures.value ∙ batch) in (
      place_is_end c.args.revocations.now (state o l) c.batches.place c.in_ok-next.next c.batches.rows.items
          c.push_waiting.new.rows.items rows.0 rows.1 behind more c.if-next-place.true,
      all_batches c.args.revocations.now (state o l) c.batches.place c.in_ok-next.next c.batches.rows.items
          c.push_waiting.new.rows.items rows.0 rows.1 behind more c.if-next-place.true,
    )
