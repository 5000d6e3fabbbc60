-- Finding the part of a CA in another list.
use Rattle.krl.proofs.Words.{AllByRecursion, Bool, CaPart, List, None, Option, Some, [], ap, bytes_eq, cond, false}
use Rattle.krl.proofs.Words.{refl}
use Rattle.krl.proofs.Words.{same_Some, subst, true, ℕ, ◌∙◌, ◌∷◌, ◌≡◌}
use Rattle.std.specs.Prelude.{find}
use Rattle.std.specs.Option.{option_map}
use Rattle.krl.specs.Fronts.{AreSplit, IsKeptBy, IsWhole, listed_bytes, part_if_any, ranges_bytes, runs_under}

-- the part for the same CA
abbrev pub find_ca : CaPart → List CaPart → Option CaPart
find_ca p others = find (λ q. bytes_eq q.ca p.ca) others

-- a part that is found is whole, as all parts of the list are
found_whole : (ids : List ℕ) (p : CaPart) (others : List CaPart) (q : CaPart) → AllByRecursion (IsWhole ids) others
    → find_ca p others ≡ Some q → IsWhole ids q
found_whole ids p [] q h e = absurd cc
found_whole ids p (o ∷ others) q h e = by_test (bytes_eq o.ca p.ca) (found_whole ids p others q h.1) e
  where
    by_test : (b : Bool) → (find_ca p others ≡ Some q → IsWhole ids q) → cond b (Some o) (find_ca p others) ≡ Some q
        → IsWhole ids q
    by_test true more e = subst (IsWhole ids) (same_Some _ _ e) h.0
    by_test false more e = more e

-- if no runs are found, the part is missing
pub is_lost : (ids : List ℕ) (others : List CaPart) (p : CaPart) (ca : List ℕ) → ca ≡ p.ca
    → None ≡ runs_under ids ca others → IsKeptBy p (find_ca p others) → ⊥
is_lost ids others p ca same none kept =
    by_found (find_ca p others) (none ∙ ap (λ c. runs_under ids c others) same) kept
  where
    by_found : (o : Option CaPart)
        → None ≡ option_map {U = List ℕ × List ℕ} (λ q. (listed_bytes q, ranges_bytes ids q)) o
        → IsKeptBy p o → ⊥
    by_found None none kept = kept
    by_found (Some q) none kept = cc

-- the runs that are found are those of the part
pub runs_there : (ids : List ℕ) (others : List CaPart) (p : CaPart) (ca l m : List ℕ)
    → AllByRecursion (IsWhole ids) others
    → ca ≡ p.ca → Some (l, m) ≡ runs_under ids ca others
    → (q : CaPart) × IsWhole ids q × AreSplit l m q.runs (part_if_any 0x23 ids) × (find_ca p others ≡ Some q)
runs_there ids others p ca l m h same some =
    by_found (find_ca p others) refl (some ∙ ap (λ c. runs_under ids c others) same)
  where
    by_found : (o : Option CaPart) → find_ca p others ≡ o
        → Some (l, m) ≡ option_map {U = List ℕ × List ℕ} (λ q. (listed_bytes q, ranges_bytes ids q)) o
        → (q : CaPart) × IsWhole ids q × AreSplit l m q.runs (part_if_any 0x23 ids) × (find_ca p others ≡ Some q)
    by_found None is some = absurd cc
    by_found (Some q) is some =
        let both = same_Some _ _ some in (
          q,
          found_whole ids p others q h is,
          record { short = ap (λ (x : List ℕ × List ℕ). x.0) both; long = ap (λ (x : List ℕ × List ℕ). x.1) both },
          is,
        )
