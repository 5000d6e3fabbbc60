use Rattle.web.proofs.Words.{preserves_both, state}
use Rattle.std.proofs.Common.{[], append-nil, arith, sym, ◌++◌, ◌∙◌}
use Rattle.office.proofs.Registers.{preserves_none}
use Rattle.web.proofs.Formed.{both_said, none_said}
use Rattle.web.proofs.Reported.{all_said, one_more}
use Rattle.web.proofs.batches.put_all.Goals as goal

pub batches-preserved : goal.batches-preserved
batches-preserved g c = record {
  preserves = preserves_both g.met.R.Registry.through c.batches.invariant.preserves c.put_batch.ensures.preserves;
  lines = λ h o l m.
      let before = c.put_batch.ensures.preserves.honest h in
      let said = c.batches.invariant.lines before o l m in
      one_more c.args.revocations.now (state o l) c.batches.place c.in_ok-next.next c.args.out.now.items
      c.batches.out.items c.put_batch.new.out.items said.0 said.1
      (c.in_ok-next.ensures.row h o l (c.batches.invariant.preserves.same before o l m));
  still = λ h _. c.in_ok-next.ensures.stays_open h;
  as_before = λ h.
      let before = c.put_batch.ensures.preserves.honest h in
      g.met.R.Registry.through c.args.registry.now c.batches.registry c.put_batch.new.registry
      (c.batches.invariant.as_before before)
      (c.put_batch.ensures.preserves.before h (c.in_ok-next.ensures.stays_open h));
  said =
      let so_far = c.batches.invariant.said in
      let more = c.in_ok-next.ensures.form in (
        so_far.0 ++ more.0,
        both_said c.args.revocations.now so_far.0 more.0 0 c.batches.place c.in_ok-next.next c.args.out.now.items
            c.batches.out.items c.put_batch.new.out.items so_far.1 more.1,
      );
}

pub returns-then-next-place-clause-row : goal.returns-then-next-place-clause-row
returns-then-next-place-clause-row g c h o l m =
    let before = c.put_batch.ensures.preserves.honest h in
    let said = c.batches.invariant.lines before o l m in
    all_said c.args.revocations.now (state o l) c.batches.place c.in_ok-next.next c.args.out.now.items
    c.batches.out.items c.put_batch.new.out.items said.0 said.1
    (c.in_ok-next.ensures.row h o l (c.batches.invariant.preserves.same before o l m)) c.if-next-place.true

pub batches-init : goal.batches-init
batches-init g c = record {
  preserves = preserves_none g.met.R.Registry.unasked c.args.registry.now;
  lines = λ h o l m. (omega arith, sym (append-nil _));
  still = λ h is. is;
  as_before = λ h. g.met.R.Registry.unasked c.args.registry.now;
  said = ([], none_said c.args.revocations.now c.args.out.now.items);
}

pub returns-then-next-place-clause-form : goal.returns-then-next-place-clause-form
returns-then-next-place-clause-form g c =
    let so_far = c.batches.invariant.said in
    let more = c.in_ok-next.ensures.form in
    let said = both_said c.args.revocations.now so_far.0 more.0 0 c.batches.place c.in_ok-next.next
    c.args.out.now.items c.batches.out.items c.put_batch.new.out.items so_far.1 more.1 in
    (so_far.0 ++ more.0, record { places = sym c.if-next-place.true ∙ said.places; lines = said.lines })
