use Rattle.web.proofs.Words.{Certificate, List, ap, flat_map, length, line_among, ◌++◌, ◌+◌, ◌∙◌}
use Rattle.web.proofs.batches.put_batch.Goals as goal

pub returns-clause-form : goal.returns-clause-form
returns-clause-form g c = (
  c.in_ok-batch.batch.items,
  record {
    places = c.in_ok-place_behind.ensures
        ∙ ap (λ (cs : List Certificate). c.args.place + length cs) c.deref-2.ensures.value;
    lines = c.in_ok-put_lines.ensures
        ∙ ap (λ (cs : List Certificate). c.args.out.now.items ++ flat_map (line_among c.args.revocations.now) cs)
        c.deref.ensures.value;
  },
)
