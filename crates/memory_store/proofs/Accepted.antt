-- One more arrival over the lists.
use Rattle.memory_store.proofs.Words.{Arrival, Decision, Err, Kept, List, MemoryContents, None, Ok, Opening, Result}
use Rattle.memory_store.proofs.Words.{Shows, State, [], ap, arith, judged, reply_kept, state_of, subst, sym, ℕ, ◌++◌}
use Rattle.memory_store.proofs.Words.{◌+◌, ◌<◌, ◌∙◌, ◌∷◌, ◌≡◌, ◌≤◌}
use Rattle.std.specs.Prelude.{IsOkAnd}
use Rattle.values.specs.declared.refusal.Refusal.{Refusal}
use Rattle.office.specs.declared.arrival.Outcome.TheVariants as outcome
use Rattle.office.specs.Decided.{written}
use Rattle.office.specs.History.{First, change, kept_row, due, kept_of}
use Rattle.office.proofs.Steps.{shows_accepted}
use Rattle.memory_store.specs.Contents.{WritesDecision}

-- a decision that was written is the specified outcome
pub accepted : (t new : MemoryContents) (o : Opening) (l : List Arrival) (a : Arrival) (d : Decision) (j : Result First Refusal)
    → reply_kept t.kept a ≡ None → judged (state_of t) t.kept a ≡ j
    → d.version < 9223372036854775807
    → IsOkAnd j (λ f. (f.arrival ≡ a) × (f.reply ≡ d.reply) × (written d (state_of t) ≡ change (state_of t) f))
    → WritesDecision t a d new → Shows (state_of t) t.kept o l
    → (outcome.Accepted d.reply ≡ due o l a) × Shows (state_of new) new.kept o (l ++ a ∷ [])
accepted t new o l a d (Err x) first e small found w m = absurd found
accepted t new o l a d (Ok f) first e small found w m =
    let version : d.version ≡ (change (state_of t) f).version = ap (λ (s : State). s.version) found.2 in
    let r = shows_accepted (state_of t) t.kept o l a f first e (omega (arith, small, version)) m in
    let row : kept_row f ≡ kept_of a d.reply =
    ap (λ (x : Arrival). kept_of x f.reply) found.0 ∙ ap (λ (x : List ℕ). kept_of a x) found.1 in
    let kept : t.kept ++ kept_row f ∷ [] ≡ new.kept = ap (λ (k : Kept). t.kept ++ k ∷ []) row ∙ sym w.kept in
    let state : change (state_of t) f ≡ state_of new = sym found.2 ∙ sym w.state in (
      ap (λ (x : List ℕ). outcome.Accepted x) (sym found.1) ∙ r.0,
      subst (λ (s : State). Shows s new.kept o (l ++ a ∷ [])) state
          (subst (λ (ks : List Kept). Shows (change (state_of t) f) ks o (l ++ a ∷ [])) kept r.1),
    )
