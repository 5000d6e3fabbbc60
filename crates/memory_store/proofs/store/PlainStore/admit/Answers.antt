use Rattle.memory_store.proofs.Words.{Kept, List, MemoryContents, ap, false, has_key, list_any, sym, ◌∙◌, ◌≡◌}
use Rattle.std.proofs.lemmas.Bool.{le-ltb, lt-ltb}
use Rattle.memory_store.proofs.Verdicts.{bad_moment, judges_by_decide}
use Rattle.memory_store.proofs.store.PlainStore.admit.Goals as goal

pub returns-then-arrival-gt-LATEST_MOMENT-clause-judges : goal.returns-then-arrival-gt-LATEST_MOMENT-clause-judges
returns-then-arrival-gt-LATEST_MOMENT-clause-judges c =
    bad_moment c.args.self.now c.args.arrival.now c.args.message.now c.requires.read (lt-ltb _ _ c.if-arrival-gt-LATEST_MOMENT.true)

pub returns-clause-judges : goal.returns-clause-judges
returns-clause-judges c =
    let t = c.args.self.now in
    let arrival = c.args.arrival.now in
    let kept : c.as_slice.result.now ≡ t.kept = c.as_slice.ensures.value ∙ ap (λ (x : MemoryContents). x.kept) c.self.view_is in
    let new : list_any (has_key arrival) t.kept ≡ false =
    ap (λ (ks : List Kept). list_any (has_key arrival) ks) (sym kept) ∙ sym c.is_known.ensures ∙ c.if-is_known.false in
    judges_by_decide c.decided.result t arrival c.args.message.now c.requires.read (le-ltb _ _ c.if-arrival-gt-LATEST_MOMENT.false) new c.decided.ensures.decided
