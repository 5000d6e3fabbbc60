use Rattle.office.proofs.Words.{Ca, List, ap, contains, is_last_reached, length, numbers, sym, ℕ, ◌&&◌, ◌∙◌, ◌≡◌}
use Rattle.std.proofs.lemmas.List.{length-map}
use Rattle.office.proofs.showing.parts_of.Goals as goal

pub returns : goal.returns
returns c =
    let cas = c.args.cas.now in
    let split = c.in_ok-split.split in
    let since : c.as_slice.result.now ≡ numbers cas = c.as_slice.ensures.value ∙ c.in_ok-since.ensures in
    let many : length split.items ≡ length cas =
    sym split.ok.0 ∙ c.in_ok-split.ensures.places ∙ ap length since ∙ length-map cas (λ (ca : Ca). ca.since) in (
      split.items,
      record {
        size = many;
        runs = c.in_ok-split.ensures.runs;
        each = λ k n there.
            c.in_ok-split.ensures.split k n (rw since (rw (length-map cas (λ (ca : Ca). ca.since)) there))
            ∙ ap (λ (x : List ℕ). is_last_reached x k n && contains c.args.serials.now n) since;
      },
      c.in_ok-zipped.ensures,
    )
