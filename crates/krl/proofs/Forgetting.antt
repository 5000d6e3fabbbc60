-- When one list forgets nothing of another, in terms of CAs and key ids.
use Rattle.krl.proofs.Words.{AllByRecursion, AreRuns, AreRunsFrom, Bool, CaPart, List, None, Option, Run, Some, []}
use Rattle.krl.proofs.Words.{ap, arith, bytes_eq, cond, contains, false, inl, inr, is_idle, is_within}
use Rattle.krl.proofs.Words.{key_blob, length, or-false, refl, same_Some, subst, suc, sym, true, zero}
use Rattle.krl.proofs.Words.{ℕ, ◌+◌, ◌<◌, ◌^◌, ◌||◌, ◌∙◌, ◌∷◌, ◌≡◌, ◌≢◌, ◌≤◌, ◌⊎◌}
use Rattle.std.proofs.lemmas.Bool.{or_left}
use Rattle.std.proofs.lemmas.Slice.Eq.{bytes_eq-Decides}
use Rattle.krl.specs.Format.{revokes}
use Rattle.krl.specs.Published.{IsMemberOf, RevokesExactly, is_listed_key_id}
use Rattle.krl.specs.Contents.{AreContents, KrlContents, ForgetsNothing, IsContentsPart, KeepsEachPair, NamesKeyId}
use Rattle.krl.specs.Contents.{NamesSerial, list_of}
use Rattle.krl.specs.Fronts.{ArePartsKept, IsKeptBy}
use Rattle.krl.proofs.Booleans.{clash, is_in, is_over, or_cases, or_true}
use Rattle.krl.proofs.IdLaws.{IdsKept}
use Rattle.krl.proofs.PartsKept.{find_ca}
use Rattle.krl.proofs.Publishing.{blob_key, bytes_other, revokes_exactly}

-- ---- a key id and a serial that are in no list

zeros : ℕ → List ℕ
zeros zero = []
zeros (suc n) = 0 ∷ zeros n

length-zeros : (n : ℕ) → length (zeros n) ≡ n
unfolding zeros
length-zeros zero = refl
length-zeros (suc n) = ap suc (length-zeros n)

total : List (List ℕ) → ℕ
total [] = 1
total (i ∷ ids) = length i + total ids

positive : (ids : List (List ℕ)) → 1 ≤ total ids
unfolding total
positive [] = omega arith
positive (i ∷ ids) = let more = positive ids in omega arith

longer : (ids : List (List ℕ)) (i : List ℕ) → total ids ≤ length i → is_listed_key_id ids i ≡ false
unfolding total
longer [] i le = refl
longer (j ∷ ids) i le =
    let some = positive ids in
    let differ = bytes_other j i (λ e. let same = ap length e in omega arith) in
    rw differ (longer ids i (omega arith))

-- a key id that differs from all of these
fresh : List (List ℕ) → List ℕ
fresh ids = zeros (total ids)

not_fresh : (ids : List (List ℕ)) → is_listed_key_id ids (fresh ids) ≡ false
unfolding fresh
not_fresh ids = let size = length-zeros (total ids) in longer ids (zeros (total ids)) (omega arith)

-- a serial of more than 64 bits is in no run
none_above : (from : ℕ) (rs : List Run) → AreRunsFrom from rs → contains rs (2 ^ 64) ≡ false
none_above from [] h = refl
none_above from (r ∷ rs) h =
    let small : r.hi < 2 ^ 64 = h.2 in
    rw (is_over (2 ^ 64) r.lo r.hi small) (none_above (r.hi + 2) rs h.3)

-- ---- parts

-- the part of the CA with this blob
part_of : (blob : List ℕ) (cas : List CaPart)
    → ((p : CaPart) × IsMemberOf p cas × (key_blob p.ca ≡ blob))
    ⊎ ((p : CaPart) → IsMemberOf p cas → key_blob p.ca ≢ blob)
part_of blob [] = inr (λ p c. absurd c)
part_of blob (q ∷ cas) = by_test (bytes_eq (key_blob q.ca) blob) refl (part_of blob cas)
  where
    by_test : (b : Bool) → bytes_eq (key_blob q.ca) blob ≡ b
        → (((p : CaPart) × IsMemberOf p cas × (key_blob p.ca ≡ blob))
        ⊎ ((p : CaPart) → IsMemberOf p cas → key_blob p.ca ≢ blob))
        → ((p : CaPart) × IsMemberOf p (q ∷ cas) × (key_blob p.ca ≡ blob))
        ⊎ ((p : CaPart) → IsMemberOf p (q ∷ cas) → key_blob p.ca ≢ blob)
    by_test true same more = inl (q, inl refl, (bytes_eq-Decides (key_blob q.ca) blob).0 same)
    by_test false differ (inl found) = inl (found.0, inr found.1, found.2)
    by_test false differ (inr none) = inr (λ p c e. by_place p c e)
      where
        by_place : (p : CaPart) → IsMemberOf p (q ∷ cas) → key_blob p.ca ≡ blob → ⊥
        by_place p (inl is) e = clash (bytes_eq (key_blob q.ca) blob)
            ((bytes_eq-Decides (key_blob q.ca) blob).1 (ap (λ (x : CaPart). key_blob x.ca) is ∙ e)) differ
        by_place p (inr c) e = none p c e

-- a part that is found is in the list, and has the same CA
found_part : (p : CaPart) (others : List CaPart) (q : CaPart) → find_ca p others ≡ Some q
    → IsMemberOf q others × (q.ca ≡ p.ca)
found_part p [] q e = absurd cc
found_part p (o ∷ others) q e = by_test (bytes_eq o.ca p.ca) refl (found_part p others q) e
  where
    by_test : (b : Bool) → bytes_eq o.ca p.ca ≡ b → (find_ca p others ≡ Some q → IsMemberOf q others × (q.ca ≡ p.ca))
        → cond b (Some o) (find_ca p others) ≡ Some q → IsMemberOf q (o ∷ others) × (q.ca ≡ p.ca)
    by_test true same more e =
        let is = same_Some _ _ e in
        (inl is, ap (λ (x : CaPart). x.ca) (sym is) ∙ (bytes_eq-Decides o.ca p.ca).0 same)
    by_test false differ more e = let found = more e in (inr found.0, found.1)

not_found : (p : CaPart) (others : List CaPart) → find_ca p others ≡ None → (q : CaPart) → IsMemberOf q others
    → q.ca ≢ p.ca
not_found p [] e q c same = c
not_found p (o ∷ others) e q c same = by_test (bytes_eq o.ca p.ca) refl (not_found p others) e c
  where
    by_test : (b : Bool) → bytes_eq o.ca p.ca ≡ b
        → (find_ca p others ≡ None → (q : CaPart) → IsMemberOf q others → q.ca ≢ p.ca)
        → cond b (Some o) (find_ca p others) ≡ None → IsMemberOf q (o ∷ others) → ⊥
    by_test true there more e c = cc
    by_test false differ more e (inl is) =
        clash (bytes_eq o.ca p.ca) ((bytes_eq-Decides o.ca p.ca).1 (ap (λ (x : CaPart). x.ca) is ∙ same)) differ
    by_test false differ more e (inr c) = more e q c same

one_kept : (cas others : List CaPart) (p : CaPart) → ArePartsKept cas others → IsMemberOf p cas
    → IsKeptBy p (find_ca p others)
one_kept [] others p h c = absurd c
one_kept (q ∷ cas) others p h (inl is) = subst (λ x. IsKeptBy x (find_ca x others)) is h.0
one_kept (q ∷ cas) others p h (inr c) = one_kept cas others p h.1 c

each_kept : (cas others : List CaPart) → ((p : CaPart) → IsMemberOf p cas → IsKeptBy p (find_ca p others))
    → ArePartsKept cas others
each_kept [] others f = tt
each_kept (p ∷ cas) others f = (f p (inl refl), each_kept cas others (λ q c. f q (inr c)))

one_part : (ids : List (List ℕ)) (cas : List CaPart) (p : CaPart) → AllByRecursion (IsContentsPart ids) cas
    → IsMemberOf p cas → IsContentsPart ids p
one_part ids [] p h c = absurd c
one_part ids (q ∷ cas) p h (inl is) = subst (IsContentsPart ids) is h.0
one_part ids (q ∷ cas) p h (inr c) = one_part ids cas p h.1 c

all_runs : (ids : List (List ℕ)) (cas : List CaPart) → AllByRecursion (IsContentsPart ids) cas
    → AllByRecursion (λ p. AreRuns p.runs) cas
all_runs ids [] h = tt
all_runs ids (p ∷ cas) h = (h.0.runs, all_runs ids cas h.1)

-- a list revokes exactly what its contents name
exact : (c : KrlContents) → AreContents c → RevokesExactly (list_of c) c.cas c.ids
exact c h = revokes_exactly c.head c.cas c.ids (all_runs c.ids c.cas h.parts) h.distinct

-- a part revokes something
something : (ids : List (List ℕ)) (p : CaPart) → IsContentsPart ids p
    → (serial : ℕ) × (key_id : List ℕ) × ((contains p.runs serial || is_listed_key_id ids key_id) ≡ true)
something ids p h = by_runs p.runs refl
  where
    by_runs : (rs : List Run) → p.runs ≡ rs
        → (serial : ℕ) × (key_id : List ℕ) × ((contains p.runs serial || is_listed_key_id ids key_id) ≡ true)
    by_runs (r ∷ rs) e =
        let runs : AreRuns (r ∷ rs) = subst AreRuns e h.runs in (
          r.lo,
          [],
          ap (λ x. contains x r.lo || is_listed_key_id ids []) e
              ∙ or_left (contains (r ∷ rs) r.lo) (is_listed_key_id ids [])
              (or_left (is_within r.lo r) (contains rs r.lo) (is_in r.lo r.lo r.hi (omega arith) runs.1)),
        )
    by_runs [] e = by_ids ids refl
      where
        by_ids : (is : List (List ℕ)) → ids ≡ is
            → (serial : ℕ) × (key_id : List ℕ) × ((contains p.runs serial || is_listed_key_id ids key_id) ≡ true)
        by_ids [] f = absurd (clash (is_idle ids p) ((λ i. is_idle (f i) (record { ca = p.ca; runs = e i }))) h.busy)
        by_ids (i ∷ is) f = (
          0,
          i,
          ap (λ x. contains p.runs 0 || is_listed_key_id x i) f
              ∙ ap (λ x. contains p.runs 0 || x)
              (or_left (bytes_eq i i) (is_listed_key_id is i) ((bytes_eq-Decides i i).1 refl)) ∙ or_true (contains p.runs 0),
        )

-- ---- forgetting

module _ (o n : KrlContents) (h : AreContents o) (k : AreContents n) where
  -- under the CA of a part, the new list revokes what its own part for this CA says
  new_says : (p q : CaPart) (serial : ℕ) (key_id : List ℕ) → find_ca p n.cas ≡ Some q
      → revokes (key_blob p.ca) serial key_id (list_of n) ≡ (contains q.runs serial || is_listed_key_id n.ids key_id)
  new_says p q serial key_id found =
      let part = found_part p n.cas q found in
      ap (λ ca. revokes (key_blob ca) serial key_id (list_of n)) (sym part.1) ∙ (exact n k).own q part.0 serial key_id

  pub kept_is_enough : ArePartsKept o.cas n.cas → IdsKept o.ids n.ids → ForgetsNothing (list_of o) (list_of n)
  kept_is_enough parts ids blob serial key_id revoked = by_part (part_of blob o.cas)
    where
      by_part : (((p : CaPart) × IsMemberOf p o.cas × (key_blob p.ca ≡ blob))
          ⊎ ((p : CaPart) → IsMemberOf p o.cas → key_blob p.ca ≢ blob))
          → revokes blob serial key_id (list_of n) ≡ true
      by_part (inr none) =
          clash (revokes blob serial key_id (list_of o)) revoked ((exact o h).others blob none serial key_id)
      by_part (inl part) = by_found (find_ca part.0 n.cas) refl (one_kept o.cas n.cas part.0 parts part.1)
        where
          says : (contains part.0.runs serial || is_listed_key_id o.ids key_id) ≡ true
          says = sym ((exact o h).own part.0 part.1 serial key_id)
              ∙ ap (λ b. revokes b serial key_id (list_of o)) part.2 ∙ revoked

          by_found : (f : Option CaPart) → find_ca part.0 n.cas ≡ f → IsKeptBy part.0 f
              → revokes blob serial key_id (list_of n) ≡ true
          by_found None is kept = absurd kept
          by_found (Some q) is kept =
              ap (λ b. revokes b serial key_id (list_of n)) (sym part.2) ∙ new_says part.0 q serial key_id is
              ∙ elim (or_cases (contains part.0.runs serial) (is_listed_key_id o.ids key_id) says) [
                | inl here ↦ or_left (contains q.runs serial) (is_listed_key_id n.ids key_id) (kept serial here)
                | inr later ↦ rw (ids key_id later.1) (or_true (contains q.runs serial))
              ]

  -- the CA of each part of the old list has a part in the new one
  there : ForgetsNothing (list_of o) (list_of n) → (p : CaPart) → IsMemberOf p o.cas
      → (q : CaPart) × (find_ca p n.cas ≡ Some q)
  there f p c = by_found (find_ca p n.cas) refl
    where
      by_found : (x : Option CaPart) → find_ca p n.cas ≡ x → (q : CaPart) × (find_ca p n.cas ≡ Some q)
      by_found (Some q) is = (q, is)
      by_found None is =
          let some = something o.ids p (one_part o.ids o.cas p h.parts c) in
          let old = (exact o h).own p c some.0 some.1 ∙ some.2 in
          clash (revokes (key_blob p.ca) some.0 some.1 (list_of n)) (f (key_blob p.ca) some.0 some.1 old)
          ((exact n k).others (key_blob p.ca) (λ q d e. not_found p n.cas is q d (blob_key q.ca p.ca e)) some.0 some.1)

  pub parts_must_be_kept : ForgetsNothing (list_of o) (list_of n) → ArePartsKept o.cas n.cas
  parts_must_be_kept f = each_kept o.cas n.cas (λ p c.
      let q = there f p c in
      subst (IsKeptBy p) (sym q.1) (λ serial is.
      let id = fresh n.ids in
      let old = (exact o h).own p c serial id ∙ or_left (contains p.runs serial) (is_listed_key_id o.ids id) is in
      let new = sym (new_says p q.0 serial id q.1) ∙ f (key_blob p.ca) serial id old in
      sym (or-false (contains q.0.runs serial)) ∙ ap (λ b. contains q.0.runs serial || b) (sym (not_fresh n.ids))
      ∙ new))

  pub ids_must_be_kept : ForgetsNothing (list_of o) (list_of n) → IdsKept o.ids n.ids
  ids_must_be_kept f i is = by_cas o.cas refl
    where
      by_cas : (cas : List CaPart) → o.cas ≡ cas → is_listed_key_id n.ids i ≡ true
      by_cas [] none = clash (is_listed_key_id o.ids i) is (ap (λ ids. is_listed_key_id ids i) (h.unwritten none))
      by_cas (p ∷ cas) some =
          let c : IsMemberOf p o.cas = subst (IsMemberOf p) (sym some) (inl refl) in
          let q = there f p c in
          let part = found_part p n.cas q.0 q.1 in
          let runs = (one_part n.ids n.cas q.0 k.parts part.0).runs in
          let old = (exact o h).own p c (2 ^ 64) i ∙ rw is (or_true (contains p.runs (2 ^ 64))) in
          let new = sym (new_says p q.0 (2 ^ 64) i q.1) ∙ f (key_blob p.ca) (2 ^ 64) i old in
          ap (λ b. b || is_listed_key_id n.ids i) (sym (none_above 0 q.0.runs runs)) ∙ new

  -- if parts and key ids are kept, then so is each pair
  pairs_kept : ArePartsKept o.cas n.cas → IdsKept o.ids n.ids → KeepsEachPair o n
  pairs_kept parts ids = record {
    serials =
        λ ca serial named. by_found named.0 (find_ca named.0 n.cas) refl
        (one_kept o.cas n.cas named.0 parts named.1) ca serial named.2 named.3;
    key_ids =
        λ ca key_id named. by_id named.0 (find_ca named.0 n.cas) refl
        (one_kept o.cas n.cas named.0 parts named.1) ca key_id named.2 (ids key_id named.3);
  }
    where
      by_found : (p : CaPart) (f : Option CaPart) → find_ca p n.cas ≡ f → IsKeptBy p f → (ca : List ℕ) (serial : ℕ)
          → p.ca ≡ ca → contains p.runs serial ≡ true → NamesSerial n ca serial
      by_found p None is kept ca serial same named = absurd kept
      by_found p (Some q) is kept ca serial same named =
          let part = found_part p n.cas q is in
          (q, part.0, part.1 ∙ same, kept serial named)

      by_id : (p : CaPart) (f : Option CaPart) → find_ca p n.cas ≡ f → IsKeptBy p f → (ca key_id : List ℕ)
          → p.ca ≡ ca → is_listed_key_id n.ids key_id ≡ true → NamesKeyId n ca key_id
      by_id p None is kept ca key_id same named = absurd kept
      by_id p (Some q) is kept ca key_id same named =
          let part = found_part p n.cas q is in
          (q, part.0, part.1 ∙ same, named)

  pub pairs_must_be_kept : ForgetsNothing (list_of o) (list_of n) → KeepsEachPair o n
  pairs_must_be_kept f = pairs_kept (parts_must_be_kept f) (ids_must_be_kept f)

  pub pairs_are_enough : KeepsEachPair o n → ForgetsNothing (list_of o) (list_of n)
  pairs_are_enough pairs blob serial key_id revoked = by_part (part_of blob o.cas)
    where
      says : (q : CaPart) → IsMemberOf q n.cas → (ca : List ℕ) → q.ca ≡ ca → key_blob ca ≡ blob
          → (contains q.runs serial || is_listed_key_id n.ids key_id) ≡ true → revokes blob serial key_id (list_of n) ≡ true
      says q c ca same is named =
          ap (λ b. revokes b serial key_id (list_of n)) (sym (ap key_blob same ∙ is))
          ∙ (exact n k).own q c serial key_id ∙ named

      by_part : (((p : CaPart) × IsMemberOf p o.cas × (key_blob p.ca ≡ blob))
          ⊎ ((p : CaPart) → IsMemberOf p o.cas → key_blob p.ca ≢ blob))
          → revokes blob serial key_id (list_of n) ≡ true
      by_part (inr none) =
          clash (revokes blob serial key_id (list_of o)) revoked ((exact o h).others blob none serial key_id)
      by_part (inl part) =
          let old = sym ((exact o h).own part.0 part.1 serial key_id)
          ∙ ap (λ b. revokes b serial key_id (list_of o)) part.2 ∙ revoked in
          elim (or_cases (contains part.0.runs serial) (is_listed_key_id o.ids key_id) old) [
            | inl here ↦
                let q = pairs.serials part.0.ca serial (part.0, part.1, refl, here) in
                says q.0 q.1 part.0.ca q.2 part.2 (or_left (contains q.0.runs serial) (is_listed_key_id n.ids key_id) q.3)
            | inr later ↦
                let q = pairs.key_ids part.0.ca key_id (part.0, part.1, refl, later.1) in
                says q.0 q.1 part.0.ca q.2 part.2 (rw (q.3) (or_true (contains q.0.runs serial)))
          ]
