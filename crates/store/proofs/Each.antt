-- The values of rows, read one after the other.
use Rattle.store.proofs.Words.{Damaged, Device, Err, Fault, IsRead, List, NoMemory, None, Option, Some, [], ap}
use Rattle.store.proofs.Words.{append-nil, append_assoc, drop, drop_all, drop_more, each, get_or, length, option_map}
use Rattle.store.proofs.Words.{refl, sym, ℕ, ◌++◌, ◌+◌, ◌<◌, ◌∙◌, ◌∷◌, ◌≡◌, ◌≤◌}

module _ {R X : Type 0} (value : R → Option X) (rows : List R) where
  -- these are the values of the first rows; those of the other rows follow
  abbrev pub AreFirst : ℕ → List X → Type 0
  AreFirst k first = each value rows ≡ option_map (λ xs. first ++ xs) (each value (drop k rows))

  unmapped : (o : Option (List X)) → o ≡ option_map (λ xs. [] ++ xs) o
  unmapped None = refl
  unmapped (Some xs) = refl

  moved : (first : List X) (x : X) (o : Option (List X))
      → option_map (λ xs. first ++ xs) (option_map (λ xs. x ∷ xs) o) ≡ option_map (λ xs. (first ++ x ∷ []) ++ xs) o
  moved first x None = refl
  moved first x (Some xs) = ap Some (sym (append_assoc first (x ∷ []) xs))

  parted : (k : ℕ) (row : R) → k < length rows → row ≡ get_or rows k row → drop k rows ≡ row ∷ drop (k + 1) rows
  parted k row within is = drop_more rows k row within ∙ ap (λ r. r ∷ drop (k + 1) rows) (sym is)

  pub first_none : (first : List X) → first ≡ [] → AreFirst 0 first
  first_none first none =
      unmapped (each value rows) ∙ ap (λ ys. option_map (λ xs. ys ++ xs) (each value rows)) (sym none)

  pub first_more : (k : ℕ) (first more : List X) (row : R) (x : X) → k < length rows → row ≡ get_or rows k row
      → value row ≡ Some x → more ≡ first ++ x ∷ [] → AreFirst k first → AreFirst (k + 1) more
  first_more k first more row x within is has longer so_far =
      so_far ∙ ap (λ rs. option_map (λ xs. first ++ xs) (each value rs)) (parted k row within is)
      ∙ rw (has, longer) (moved first x (each value (drop (k + 1) rows)))

  pub first_all : (k : ℕ) (first : List X) → length rows ≤ k → AreFirst k first → each value rows ≡ Some first
  first_all k first past so_far =
      so_far ∙ ap (λ rs. option_map (λ xs. first ++ xs) (each value rs)) (drop_all k rows past)
      ∙ ap Some (append-nil first)

  -- a fault of reading one row is a fault of reading all of them
  pub first_fault : (k : ℕ) (first : List X) (row : R) (f : Fault) → k < length rows → row ≡ get_or rows k row
      → IsRead (value row) (Err f) → AreFirst k first → IsRead (each value rows) (Err f)
  first_fault k first row NoMemory within is read so_far = tt
  first_fault k first row Damaged within is read so_far =
      so_far ∙ ap (λ rs. option_map (λ xs. first ++ xs) (each value rs)) (parted k row within is) ∙ rw read refl
  first_fault k first row Device within is read so_far = absurd read
