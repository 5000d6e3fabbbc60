-- The search of a router along a path: through literal bytes, and past a parameter.
use Rattle.http_requests.proofs.Words.{AllByRecursion, List, None, RowsOf, Some, [], ap, append-nil, arith, cond, drop}
use Rattle.http_requests.proofs.Words.{drop-append_seam, false, get_or, has_slash, length, length-append}
use Rattle.http_requests.proofs.Words.{longest_suffix, lt-ltb, ltb, nat_eq, nat_tests, own, param_token, pointwise}
use Rattle.http_requests.proofs.Words.{refl, segment, step, subst, suc, true, with_suffix, zero, ℕ, ◌++◌, ◌-◌, ◌<◌}
use Rattle.http_requests.proofs.Words.{◌==◌, ◌∙◌, ◌∷◌, ◌≡◌}
use Rattle.std.proofs.lemmas.Bool.{and_right}
use Rattle.matchit.specs.Seek.{seek, param_step, cuts}

-- the rows after these bytes
abbrev pub steps : {K : Type 0} → List ℕ → RowsOf K → RowsOf K
steps [] rs = rs
steps (b ∷ w) rs = steps w (step b rs)

-- if the rows after a byte match the rest of a path, the rows match the path
lit_step : {K : Type 0} (b : ℕ) (rs : RowsOf K) (p : List ℕ) (k : K) → seek 0 (step b rs) p ≡ Some k
    → seek 0 rs (b ∷ p) ≡ Some k
unfolding seek
lit_step b rs p k e = rw e refl

-- the same for several bytes
pub lits : {K : Type 0} (w : List ℕ) (rs : RowsOf K) (p : List ℕ) (k : K) → seek 0 (steps w rs) p ≡ Some k
    → seek 0 rs (w ++ p) ≡ Some k
lits [] rs p k e = e
lits (b ∷ w) rs p k e = lit_step b rs (w ++ p) k (lits w (step b rs) p k e)

-- without rows there are none after a parameter
param_nothing : {K : Type 0} (p : List ℕ) → (param_step {K = K} [] p).1 ≡ []
unfolding param_step
param_nothing {K = K} p =
    elim (has_slash p) as (λ v. (cond {A = ℕ × RowsOf K} v (0, []) (length p, [])).1 ≡ [])
    [ true ↦ refl | false ↦ refl ]

-- a search among no rows finds none
seek_nothing : {K : Type 0} (n : ℕ) (p : List ℕ) → seek {K = K} n [] p ≡ None
unfolding seek
seek_nothing n [] = refl
seek_nothing (suc n) (b ∷ p) = seek_nothing n p
seek_nothing {K = K} zero (b ∷ p) =
    simp (
      seek_nothing {K = K} 0 p,
      param_nothing {K = K} (b ∷ p),
      seek_nothing {K = K} ((param_step {K = K} [] (b ∷ p)).0 - 1) p,
    )

-- skipping bytes is searching without them
seek_drop : {K : Type 0} (n : ℕ) (rs : RowsOf K) (p : List ℕ) → seek n rs p ≡ seek 0 rs (drop n p)
unfolding seek
seek_drop zero rs p = refl
seek_drop (suc n) rs [] = refl
seek_drop (suc n) rs (b ∷ p) = seek_drop n rs p

-- at the end of the path the row that ends here is found
pub at_end : {K : Type 0} (rs : RowsOf K) → seek 0 rs [] ≡ own rs
unfolding seek
at_end rs = refl

-- ---- parameters

abbrev pub HasNoSlash : List ℕ → Type 0
HasNoSlash c = AllByRecursion (λ b. (b == 47) ≡ false) c

-- a possible value of a parameter: at least one byte, and no slash, and the first one isn't a parameter's token
pub record IsPart (c : List ℕ) : Type 0 where
  pub some : 0 < length c
  pub clear : HasNoSlash c
  pub byte : get_or c 0 0 < 256

-- a segment that begins with bytes without a slash continues after them
segment_past : (c rest : List ℕ) → HasNoSlash c → segment (c ++ rest) ≡ c ++ segment rest
segment_past [] rest clear = refl
segment_past (b ∷ c) rest clear = rw clear.0 (ap (λ s. b ∷ s) (segment_past c rest clear.1))

slash_in : (c : List ℕ) → HasNoSlash c → has_slash c ≡ false
slash_in [] clear = refl
slash_in (b ∷ c) clear = rw clear.0 (slash_in c clear.1)

-- no suffix of such bytes is a slash
no_slash_end : (n : ℕ) (c : List ℕ) → HasNoSlash c → pointwise nat_eq (47 ∷ []) (drop n c) ≡ false
no_slash_end zero [] clear = refl
no_slash_end (suc n) [] clear = refl
no_slash_end zero (b ∷ c) clear =
    let apart : (47 == b) ≡ false = grind (arith, nat_tests, clear.0) in
    rw apart refl
no_slash_end (suc n) (b ∷ c) clear = no_slash_end n c clear.1

-- bytes without a slash don't end in one
pub cuts_none : (c : List ℕ) → HasNoSlash c → cuts c (47 ∷ []) ≡ false
cuts_none c clear = and_right (ltb 1 (length c)) _ (no_slash_end (length c - 1) c clear)

-- a slash after at least one byte is a proper suffix
pub cuts_slash : (c : List ℕ) → 0 < length c → cuts (c ++ 47 ∷ []) (47 ∷ []) ≡ true
cuts_slash c some =
    let size = length-append c (47 ∷ []) in
    let e : length (c ++ 47 ∷ []) - 1 ≡ length c = omega (arith, size) in
    let d = ap (λ n. drop n (c ++ 47 ∷ [])) e ∙ drop-append_seam c (47 ∷ []) in
    rw (lt-ltb 1 (length (c ++ 47 ∷ [])) (omega (arith, size)), d) refl

-- a parameter and the bytes after it, if no literal byte matches
param_found : {K : Type 0} (rs after : RowsOf K) (c rest : List ℕ) (k : K) → IsPart c
    → ((x : ℕ) → x < 256 → step x rs ≡ []) → param_step (step param_token rs) (c ++ rest) ≡ (length c, after)
    → seek 0 after rest ≡ Some k → seek 0 rs (c ++ rest) ≡ Some k
unfolding seek
param_found rs after [] rest k part miss step_is found = absurd (omega (arith, part.some))
param_found {K = K} rs after (x ∷ p) rest k part miss step_is found =
    let less : length (x ∷ p) - 1 ≡ length p = omega arith in
    let past : seek (length p) after (p ++ rest) ≡ seek 0 after rest =
    seek_drop (length p) after (p ++ rest) ∙ ap (seek 0 after) (drop-append_seam p rest) in
    rw (miss x part.byte, seek_nothing {K = K} 0 (p ++ rest), step_is, less, past, found) refl

-- a parameter that extends to a slash
pub to_slash : {K : Type 0} (rs : RowsOf K) (c rest : List ℕ) (k : K) → IsPart c → ((x : ℕ) → x < 256 → step x rs ≡ [])
    → longest_suffix (c ++ 47 ∷ []) (step param_token rs) ≡ 47 ∷ []
    → seek 0 (with_suffix (47 ∷ []) (step param_token rs)) (47 ∷ rest) ≡ Some k → seek 0 rs (c ++ 47 ∷ rest) ≡ Some k
unfolding param_step
to_slash rs c rest k part miss longest found =
    let after = with_suffix (47 ∷ []) (step param_token rs) in
    let cut : segment (c ++ 47 ∷ rest) ≡ c ++ 47 ∷ [] = segment_past c (47 ∷ rest) part.clear in
    let size : length (c ++ 47 ∷ []) - 1 ≡ length c = omega (arith, length-append c (47 ∷ [])) in
    param_found rs after c (47 ∷ rest) k part miss (rw (cut, longest) (ap (λ n. (n, after)) size)) found

-- a parameter that extends to the end
pub to_end : {K : Type 0} (rs : RowsOf K) (c : List ℕ) (k : K) → IsPart c → ((x : ℕ) → x < 256 → step x rs ≡ [])
    → longest_suffix c (step param_token rs) ≡ [] → own (step param_token rs) ≡ Some k → seek 0 rs c ≡ Some k
unfolding param_step
to_end rs c k part miss longest found =
    let whole : segment c ≡ c = rw append-nil at (segment_past c [] part.clear) in
    let clear = slash_in c part.clear in
    subst (λ q. seek 0 rs q ≡ Some k) (append-nil c)
    (param_found rs (step param_token rs) c [] k part miss (rw (append-nil c, whole, longest, clear) refl)
    (at_end (step param_token rs) ∙ found))
