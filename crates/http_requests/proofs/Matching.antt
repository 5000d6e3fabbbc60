-- What a found route implies about the path.
use Rattle.http_requests.proofs.Words.{AllByRecursion, Bool, Fixed, IsPath, List, None, Option, Resource, RouteKind}
use Rattle.http_requests.proofs.Words.{RouteOf, RowsOf, Some, [], and_parts, ap, cond, drop, false, first, has_slash}
use Rattle.http_requests.proofs.Words.{inl, inr, length, list_all, longest_suffix, ltb, own, param_token, path_text}
use Rattle.http_requests.proofs.Words.{refl, resource, routing, segment, step, subst, suc, true, with_suffix, zero, ℕ}
use Rattle.http_requests.proofs.Words.{◌-◌, ◌==◌, ◌∙◌, ◌∷◌, ◌≡◌, ◌⊎◌}
use Rattle.std.specs.Prelude.{⊤}
use Rattle.std.proofs.lemmas.Bool.{eqb-true}
use Rattle.matchit.specs.Rows.{catch_all_token}
use Rattle.matchit.specs.Seek.{or_else, seek, param_step}
use Rattle.matchit.specs.Seek.{same_text}

-- the property holds of each row: of the rest of its pattern, and of its key
abbrev AllRows : {K : Type 0} → (List ℕ → K → Type 0) → RowsOf K → Type 0
AllRows P rs = AllByRecursion (λ row. P row.0 row.1) rs

-- only bytes, and no parameter
abbrev are_bytes : List ℕ → Bool
are_bytes t = list_all (λ b. ltb b 256) t

-- it holds of the row that ends here
own_is : {K : Type 0} (P : List ℕ → K → Type 0) (rs : RowsOf K) (k : K) → AllRows P rs → own rs ≡ Some k → P [] k
own_is P [] k all e = absurd cc
own_is P (([], j) ∷ rest) k all e = let same : j ≡ k = cc in subst (P []) same all.0
own_is P ((x ∷ t, j) ∷ rest) k all e = own_is P rest k all.1 e

-- it holds of the rows after a byte
step_all : {K : Type 0} (P : List ℕ → K → Type 0) (b : ℕ) (rs : RowsOf K) → AllRows P rs
    → AllRows (λ t. P (b ∷ t)) (step b rs)
step_all P b [] all = tt
step_all P b (([], j) ∷ rest) all = step_all P b rest all.1
step_all P b ((x ∷ t, j) ∷ rest) all = by (x == b) refl (step_all P b rest all.1)
  where
    by : (v : Bool) → (x == b) ≡ v → AllRows (λ t. P (b ∷ t)) (step b rest)
        → AllRows (λ t. P (b ∷ t)) (cond v ((t, j) ∷ step b rest) (step b rest))
    by true e later = (subst (λ y. P (y ∷ t) j) (eqb-true x b e) all.0, later)
    by false e later = later

-- it holds of the rows with a suffix
suffix_all : {K : Type 0} (P : List ℕ → K → Type 0) (s : List ℕ) (rs : RowsOf K) → AllRows P rs
    → AllRows P (with_suffix s rs)
suffix_all P s [] all = tt
suffix_all P s ((t, j) ∷ rest) all =
    elim (same_text (segment t) s) as (λ v. AllRows P (cond v ((t, j) ∷ with_suffix s rest) (with_suffix s rest))) [
      | true ↦ (all.0, suffix_all P s rest all.1)
      | false ↦ suffix_all P s rest all.1
    ]

-- it holds of the rows after a parameter
param_all : {K : Type 0} (P : List ℕ → K → Type 0) (rs : RowsOf K) (path : List ℕ) → AllRows P rs
    → AllRows P (param_step rs path).1
unfolding param_step
param_all {K = K} P rs path all = by (ltb 0 (length (longest_suffix (segment path) rs))) (has_slash path)
  where
    by : (v w : Bool) → AllRows P (cond {A = ℕ × RowsOf K} v (
      length (segment path) - length (longest_suffix (segment path) rs),
      with_suffix (longest_suffix (segment path) rs) rs,
    ) (cond {A = ℕ × RowsOf K} w (0, []) (length path, rs))).1
    by true w = suffix_all P (longest_suffix (segment path) rs) rs all
    by false true = tt
    by false false = all

-- the result is one of the two
or_else_some : {K : Type 0} (k : K) (a b : Option K) → or_else a b ≡ Some k → (a ≡ Some k) ⊎ (b ≡ Some k)
or_else_some k None b e = inr e
or_else_some k (Some j) b e = inl e

-- the result is a row, and if its pattern has only bytes, the path is equal to it
abbrev Found : {K : Type 0} → (List ℕ → K → Type 0) → K → List ℕ → Type 0
Found P k path = (t : List ℕ) × P t k × (are_bytes t ≡ true → path ≡ t)

sound : {K : Type 0} (P : List ℕ → K → Type 0) (skip : ℕ) (rs : RowsOf K) (path : List ℕ) (k : K) → AllRows P rs
    → seek skip rs path ≡ Some k → Found P k (drop skip path)
unfolding seek
sound P zero rs [] k all e = ([], own_is P rs k all e, λ _. refl)
sound P (suc skip) rs [] k all e = ([], own_is P rs k all e, λ _. refl)
sound P (suc skip) rs (b ∷ path) k all e = sound P skip rs path k all e
sound {K = K} P zero rs (b ∷ path) k all e =
    by (sound (λ t. P (b ∷ t)) 0 (step b rs) path k (step_all P b rs all))
    (sound (λ t. P (param_token ∷ t)) n after path k (param_all _ _ (b ∷ path) (step_all P param_token rs all)))
    (or_else_some k _ _ e)
  where
    after : RowsOf K
    after = (param_step (step param_token rs) (b ∷ path)).1

    n : ℕ
    n = (param_step (step param_token rs) (b ∷ path)).0 - 1

    by : (seek 0 (step b rs) path ≡ Some k → Found (λ t. P (b ∷ t)) k path)
        → (seek n after path ≡ Some k → Found (λ t. P (param_token ∷ t)) k (drop n path))
        → (seek 0 (step b rs) path ≡ Some k) ⊎ (or_else (seek n after path) (own (step catch_all_token rs)) ≡ Some k)
        → Found P k (b ∷ path)
    by literal wild (inl f) =
        let there = literal f in
        (b ∷ there.0, there.1, λ bytes. ap (λ r. b ∷ r) (there.2 (and_parts (ltb b 256) _ bytes).1))
    by literal wild (inr f) = elim (or_else_some k _ _ f) [
      | inl g ↦ let there = wild g in (param_token ∷ there.0, there.1, λ bytes. absurd cc)
      | inr g ↦ (
        catch_all_token ∷ [],
        own_is (λ t. P (catch_all_token ∷ t)) _ k (step_all P catch_all_token rs all) g,
        λ bytes. absurd cc,
      )
    ]

-- the row of a fixed route has the route's path, which has only bytes
abbrev IsRow : List ℕ → RouteKind → Type 0
IsRow t (Fixed r) = IsPath (resource r) × (are_bytes t ≡ true) × (t ≡ path_text (resource r))
IsRow t _ = ⊤

are_rows : AllRows (λ t r. IsRow t r.value) routing
are_rows = (
  tt,
  (
    (tt, refl, refl),
    (
      tt,
      (
        tt,
        ((tt, refl, refl), ((tt, refl, refl), ((tt, refl, refl), ((tt, refl, refl), ((tt, refl, refl), tt))))),
      ),
    ),
  ),
)

-- a path that finds a fixed route is that route's path
pub fixed_path : (path : List ℕ) (r : RouteOf RouteKind) (what : Resource) → first routing path ≡ Some r
    → r.value ≡ Fixed what → IsPath (resource what) × (path ≡ path_text (resource what))
fixed_path path r what found e =
    let there = sound (λ t r. IsRow t r.value) 0 routing path r are_rows found in
    let is = subst (IsRow there.0) e there.1 in
    (is.0, there.2 is.1 ∙ is.2)
