-- Rows found in order are those of the state, and so are their values.
use Rattle.store.proofs.Words.{Asking, Contents, Damaged, Device, Err, Fault, Global, HasCause, HasCleanDisk}
use Rattle.store.proofs.Words.{IsAscending, IsErrAnd, IsLawful, IsPermutation, IsRead, IsSortedByKey, IsUnchanged, Kept}
use Rattle.store.proofs.Words.{Less, List, Means, Never, NoMemory, None, Ok, OnlyReads, Option, Ordering, Result}
use Rattle.store.proofs.Words.{ShowsFromRows, Some, State, Survives, Vec, ap, contents_of, each, err_from_is_err_and}
use Rattle.store.proofs.Words.{inl, nat_cmp, nat_list_cmp_total, on_total, refl, same_Some, slice_cmp, sorted_unique}
use Rattle.store.proofs.Words.{subst, sym, ℕ, ◌∙◌, ◌≡◌}
use Rattle.std.specs.Cmp.{IsTotalOrder}
use Rattle.sqlite.specs.State.{State as Connection}
use Rattle.store_sql.specs.Calls.{FailsBy, Finds, Rises}
use Rattle.store.specs.Reading.{vec_of}

-- computing a value from an answer changes nothing either
pub asked : {X : Type 0} (old new : Connection) → IsUnchanged old new → (r : Result X Fault) → OnlyReads old new r
asked old new same (Ok x) = same
asked old new same (Err f) = (inl same, λ _. same)

-- a query whose rows are read
pub rows_asked : {X Given : Type 0} {P : State → List Kept → X → Type 0} {old new : Connection} {r : Result X Fault}
    → Survives old new Never → (HasCleanDisk new → IsUnchanged old new) → (HasCleanDisk new → ShowsFromRows P old new r)
    → Asking Given P old new r
rows_asked {old = old} {new = new} {r = r} survives same shows = record {
  shows = λ clean _. shows clean;
  reads = λ clean _. asked old new (same clean) r;
  survives = survives;
}

-- a query that fails
pub rows_failed : {X Given : Type 0} {P : State → List Kept → X → Type 0} {old new : Connection} {f : Fault}
    {r : Result X Fault} → Survives old new Never → (HasCleanDisk new → OnlyReads {X = Unit {0}} old new (Err f))
    → (HasCleanDisk new → (c : Contents) → Means old.now c → HasCause old new f) → IsErrAnd r (λ e. e ≡ f)
    → Asking Given P old new r
rows_failed {r = r} survives reads cause told =
    let p = err_from_is_err_and r told in
    rw (p.1, p.2) (record {
      shows = λ clean _ s kept lawful means. ((reads clean).0, cause clean (contents_of s kept) means);
      reads = λ clean _. reads clean;
      survives = survives;
    })

-- the value read is shown, if every valid state has such a value, and `Shown` holds of it
pub shows_read : {X : Type 0} (Shown : State → List Kept → X → Type 0) (old new : Connection) (value : Option X)
    (r : Result X Fault) → ((s : State) (kept : List Kept) → IsLawful s → Means old.now (contents_of s kept)
    → IsUnchanged old new × ((x : X) × (value ≡ Some x) × Shown s kept x)) → IsRead value r → ShowsFromRows Shown old new r
shows_read Shown old new value (Ok x) has read = λ s kept lawful means.
    let h = has s kept lawful means in
    (subst (Shown s kept) (same_Some _ _ (sym h.1.1 ∙ read)) h.1.2, h.0)
shows_read Shown old new value (Err NoMemory) has read = λ s kept lawful means. (inl (has s kept lawful means).0, tt)
shows_read Shown old new value (Err Damaged) has read = λ s kept lawful means.
    let some = (has s kept lawful means).1.1 in
    let none : value ≡ None = read in absurd cc
shows_read Shown old new value (Err Device) has read = absurd read

module _ {R X K : Type 0} (value : R → Option X) (of : Contents → List R) (key : R → K) (cmp : K → K → Ordering)
    (total : IsTotalOrder cmp) (values : State → List X)
    (rising : (s : State) (kept : List Kept) → IsLawful s
    → IsAscending (λ a b. cmp (key a) (key b) ≡ Less) (of (contents_of s kept)))
    (again : (s : State) (kept : List Kept) → IsLawful s → each value (of (contents_of s kept)) ≡ Some (values s)) where
  found : (s : State) (kept : List Kept) (rows : List R) → IsLawful s → IsPermutation (of (contents_of s kept)) rows
      → IsSortedByKey key cmp rows → each value rows ≡ Some (values s)
  found s kept rows lawful same sorted =
      ap (each value) (sorted_unique (λ x y. cmp (key x) (key y)) (on_total key total) (of (contents_of s kept)) rows
      (rising s kept lawful) same sorted) ∙ again s kept lawful

  pub shows_each : (old new : Connection) (rows : List R) (r : Result (Vec X Global) Fault)
      → ((c : Contents) → Means old.now c → IsUnchanged old new × IsPermutation (of c) rows)
      → ((c : Contents) → Means old.now c → IsSortedByKey key cmp rows) → IsRead (each value rows) (vec_of r)
      → ShowsFromRows (λ s kept xs. xs.items ≡ values s) old new r
  shows_each old new rows r finds sorted read =
      of_items r (shows_read (λ s kept xs. xs ≡ values s) old new (each value rows) (vec_of r) (λ s kept lawful means.
      let f = finds (contents_of s kept) means in
      (f.0, (values s, found s kept rows lawful f.1 (sorted (contents_of s kept) means), refl))) read)
    where
      of_items : (q : Result (Vec X Global) Fault) → ShowsFromRows (λ s kept xs. xs ≡ values s) old new (vec_of q)
          → ShowsFromRows (λ s kept xs. xs.items ≡ values s) old new q
      of_items (Ok xs) shows = shows
      of_items (Err f) shows = shows

-- ---- key IDs

pub shows_key_ids : (old new : Connection) (r : Result (Vec (List ℕ) Global) Fault)
    → Finds (λ k. k.revoked) old new r → Rises (λ k. k) (slice_cmp nat_cmp) old new r → FailsBy HasCause old new r
    → ShowsFromRows (λ s kept ids. ids.items ≡ s.revoked_key_ids) old new r
shows_key_ids old new (Ok ids) finds sorted fault = λ s kept lawful means.
    let f = finds (contents_of s kept) means in (
      sorted_unique (slice_cmp nat_cmp) nat_list_cmp_total s.revoked_key_ids ids.items lawful.key_ids f.1
          (sorted (contents_of s kept) means),
      f.0,
    )
shows_key_ids old new (Err e) finds sorted fault = λ s kept lawful means.
    (finds (contents_of s kept) means, fault (contents_of s kept) means)
