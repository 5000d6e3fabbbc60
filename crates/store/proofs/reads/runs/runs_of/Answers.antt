use Rattle.store.proofs.Words.{All, All-cons, All-nil, List, Run, RunRow, [], ap, get_or, length, map-append, run_of}
use Rattle.store.proofs.Words.{runs_of, subst, sym, take, take_all, ℕ, ◌++◌, ◌+◌, ◌<◌, ◌^◌, ◌∙◌, ◌∷◌, ◌≡◌}
use Rattle.std.proofs.lemmas.List.{take_more}
use Rattle.std.proofs.lemmas.List.Elements.{All-append}
use Rattle.store.proofs.reads.runs.runs_of.Goals as goal

one_more : (rows : List RunRow) (k : ℕ) (row : RunRow) (runs more : List Run) (run : Run) → k < length rows
    → row ≡ get_or rows k row → runs ≡ runs_of (take k rows) → run ≡ run_of row
    → more ≡ runs ++ run ∷ [] → more ≡ runs_of (take (k + 1) rows)
one_more rows k row runs more run within is so_far made longer =
    longer ∙ rw (so_far, made) (sym (map-append run_of (take k rows) (row ∷ [])))
    ∙ ap runs_of (sym (take_more rows k row within ∙ ap (λ (r : RunRow). take k rows ++ r ∷ []) (sym is)))

pub loop-row-preserved : goal.loop-row-preserved
loop-row-preserved c =
    let so_far = c.loop-row.invariant in
    let run = c.run_of.result in
    let longer = c.in_ok-push.ensures.items in
    let small = λ (r : Run). r.hi < 2 ^ 63 in
    record {
      runs_so_far = one_more c.args.rows.now c.loop-row.row-index c.row-item.result c.loop-row.runs.items
          c.push.new.self.items run c.loop-row-test.true c.row-item.is so_far.runs_so_far c.run_of.ensures.value longer;
      small_so_far = subst (All small) (sym longer) (All-append small c.loop-row.runs.items (run ∷ [])
          so_far.small_so_far (All-cons small run [] c.run_of.ensures.small (All-nil small)));
    }

pub returns : goal.returns
returns c =
    let so_far = c.loop-row.invariant in
    record {
      runs = so_far.runs_so_far ∙ ap runs_of (take_all c.loop-row.row-index c.args.rows.now c.loop-row-test.false);
      small = so_far.small_so_far;
    }
