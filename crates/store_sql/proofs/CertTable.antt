-- The statements on the table of certificates, and why a certificate or its signature is refused.
use Rattle.store_sql.proofs.Words.{All, AllByRecursion, Applies, Binary, Blob, Bool, CertRow, Compare, Contents}
use Rattle.store_sql.proofs.Words.{Enforced, Eq, FailsBy, Fault, ForeignKey, Ge, Has, HasOne, Holds, INSERT_CERT}
use Rattle.store_sql.proofs.Words.{Insert, Int, Le, List, Lists, Means, None, Null, Refers, RefusedFor, Result, Row}
use Rattle.store_sql.proofs.Words.{SIGN_CERT, Some, State, Term, Text, Trees, Update, Values, [], accepts_terms, agree}
use Rattle.store_sql.proofs.Words.{all_has, and-true, ap, ap₂, are_typed, arith, ascending, at_places, binary}
use Rattle.store_sql.proofs.Words.{placed_cert}
use Rattle.store_sql.proofs.Words.{cert_cells, cert_places, codes, col, column, department_cells, department_places}
use Rattle.store_sql.proofs.Words.{drop, equal, everything, first_key, has_null, has_rowid, inl, inr, is_true}
use Rattle.store_sql.proofs.Words.{list_any, lit, lt-ltb, nat_cmp, not, op2, or_null, or_right, plain, pos, refl}
use Rattle.store_sql.proofs.Words.{signed_row, some_from, stamped, subst, sym, true, whole, without_rowid, ℕ}
use Rattle.store_sql.proofs.Words.{◌&&◌, ◌<◌, ◌^◌, ◌||◌, ◌∙◌, ◌∷◌, ◌≡◌}
use Rattle.store_sql.proofs.Selects.{IsTreeOf, select, number_cmp, FindSorted, select_sorted}
use Rattle.store_sql.proofs.FaultLemmas.{IsStatement, HasWriteCause}
use Rattle.store_sql.specs.Changes.{has_serial, certs_numbered, certs_within, is_cert_within, with_cert}
use Rattle.store_sql.specs.Changes.{with_cert_signature}
use Rattle.store_sql.specs.declared.sql.TheConstants.{FIND_CERT, CERTS_WITHIN}
use Rattle.store_sql.proofs.Elsewhere.{cert_apart, in_cert}
use Rattle.store_sql.proofs.CallLemmas.{IsSelect, Write, Find}
use Rattle.store_sql.proofs.Inserts.{IsInsert, insert, all_refer, each_refers, has_department, insert_fails}
use Rattle.store_sql.proofs.Inserts.{taken_number}
use Rattle.store_sql.proofs.Queries.{on_table, int_test, int_le_test, int_ge_test}
use Rattle.store_sql.proofs.Rows.{cast_int, cast_null, same_number, le_number, ge_number, own_text}
use Rattle.store_sql.proofs.NumberUpdates.{IsUpdate, update, update_fails}
use Rattle.sqlite_trees.proofs.ListLemmas.{all-filter}
use Rattle.store_sql.specs.Refusals.{IsTooLong, RefusesCert, RefusesSignature}
use Rattle.sqlite_trees.proofs.TreeLemmas.{all-put_row}
use Rattle.store_sql.proofs.Reasons.{IsPut, is_exact, never, one, size, storable, unclashed}
use Rattle.std.proofs.lemmas.Bool.{eqb-false}
use Rattle.store_sql.proofs.Edits.{of_row}
use Rattle.store_sql.proofs.Texts.{query, statement}

pub tree : IsTreeOf Holds cert_cells cert_places 3 (λ c. c.certs)
tree = record { stored = λ trees. refl; held = λ trees c h. h.certs; apart = cert_apart }

-- ---- INSERT

abbrev terms : List Term
terms = col 0 0 ∷ lit Null ∷ col 0 1 ∷ col 0 2 ∷ col 0 3 ∷ col 0 4 ∷ []

abbrev pub cert_row : CertRow → Row
cert_row x = Int (pos x.serial) ∷ Null ∷ Text x.department ∷ Text x.key_id ∷ Blob x.body ∷ or_null Blob x.signature ∷ []

insert_is : IsStatement INSERT_CERT.now (Insert 2 (Values terms 6)) 5
unfolding everything
insert_is = statement whole INSERT_CERT.now _ 5 refl refl

pub puts : IsInsert INSERT_CERT.now cert_cells cert_places 2 placed_cert terms 6 with_cert (λ c. c.certs)
    (λ x rows. cert_row x)
puts = record {
  tree = tree;
  found = refl;
  is = λ x. insert_is;
  source = cert_row;
  sourced = λ x. (
    refl,
    elim x.signature as (λ o. accepts_terms terms (stamped placed_cert (cert_cells (record x { signature = o }))) ≡ true)
        [ None ↦ refl | Some b ↦ refl ],
  );
  made = λ x rows. (simp (cast_int, cast_null), refl);
  held = λ x db after c h o put. in_cert db after c h (x ∷ c.certs) o;
}

pub put : (x : CertRow) → Write INSERT_CERT.now (cert_cells x) (with_cert x)
put = insert puts

-- ---- SELECT of one certificate

abbrev columns : List Term
columns = col 1 0 ∷ col 1 2 ∷ col 1 3 ∷ col 1 4 ∷ col 1 5 ∷ []

abbrev shown : Row → Row
shown v = column v 0 ∷ column v 1 ∷ column v 2 ∷ column v 3 ∷ column v 4 ∷ []

abbrev names : List (List ℕ)
names = codes "serial" ∷ codes "department" ∷ codes "keyid" ∷ codes "body" ∷ codes "signature" ∷ []

find_is : IsSelect whole FIND_CERT.now
    (on_table 3 (op2 (Compare Eq Binary) (col 1 0) (col 0 0) ∷ []) columns []) names 1
unfolding everything
find_is = query whole FIND_CERT.now _ _ 1 refl refl

pub find : (serial : ℕ) → Find FIND_CERT.now (Int (pos serial) ∷ []) cert_cells (certs_numbered serial)
find serial = select tree find_is (has_serial serial)
    (λ v. is_true (binary (Compare Eq Binary) (column v 0) (Int (pos serial))) && true)
    shown (λ x. and-true _ ∙ int_test (pos x.serial) (pos serial) ∙ same_number x.serial serial) (λ x. refl) (λ r. refl)
    (λ r. refl) refl (λ c. refl)

-- ---- SELECT of the certificates between two serials

abbrev within_tests : List Term
within_tests = op2 (Compare Ge Binary) (col 1 0) (col 0 0) ∷ op2 (Compare Le Binary) (col 1 0) (col 0 1) ∷ []

within_is : IsSelect whole CERTS_WITHIN.now (on_table 3 within_tests columns ((col 1 0, ascending Binary) ∷ [])) names 2
unfolding everything
within_is = query whole CERTS_WITHIN.now _ _ 2 refl refl

module _ (lo hi : ℕ) where
  abbrev ends : Row
  ends = Int (pos lo) ∷ Int (pos hi) ∷ []

  abbrev passes : Row → Bool
  passes v = is_true (binary (Compare Ge Binary) (column v 0) (Int (pos lo))) &&
      (is_true (binary (Compare Le Binary) (column v 0) (Int (pos hi))) && true)

  passes_is : (x : CertRow) → passes (cert_cells x) ≡ is_cert_within lo hi x
  passes_is x = ap₂ ◌&&◌ (int_ge_test (pos x.serial) (pos lo) ∙ ge_number x.serial lo)
      (and-true _ ∙ int_le_test (pos x.serial) (pos hi) ∙ le_number x.serial hi)

  pub within : FindSorted CERTS_WITHIN.now ends cert_cells (certs_within lo hi) (λ x. x.serial) nat_cmp
  within =
      select_sorted tree within_is (is_cert_within lo hi) passes shown passes_is (λ x. refl) (λ r. refl) (λ r. refl)
      refl (λ c. refl) (λ r. refl) (λ x y. number_cmp x.serial y.serial)

-- ---- UPDATE of the signature

abbrev pub sign_test : List Term
sign_test = op2 (Compare Eq Binary) (col 1 0) (col 0 0) ∷ []

abbrev pub sign_project : List Term
sign_project = col 1 0 ∷ col 1 0 ∷ lit Null ∷ col 1 2 ∷ col 1 3 ∷ col 1 4 ∷ col 0 1 ∷ []

sign_is : IsStatement SIGN_CERT.now (Update 2 (record { lets = []; body = on_table 3 sign_test sign_project [] })) 2
unfolding everything
sign_is = statement whole SIGN_CERT.now _ 2 refl refl

module _ (serial : ℕ) (signature : List ℕ) where
  abbrev pub sign_params : Row
  sign_params = Int (pos serial) ∷ Blob signature ∷ []

  abbrev sign_row : Row → Row
  sign_row v = column v 0 ∷ Null ∷ column v 1 ∷ column v 2 ∷ column v 3 ∷ Blob signature ∷ []

  pub signs : IsUpdate SIGN_CERT.now sign_params cert_cells cert_places 2 placed_cert sign_test sign_project (λ c. c.certs)
      (with_cert_signature serial signature) (λ x. x.serial) serial (signed_row signature) cert_row
  signs = record {
    tree = tree;
    found = refl;
    is = sign_is;
    typed = refl;
    next = sign_row;
    change = λ v. column v 0 ∷ column v 1 ∷ column v 2 ∷ column v 3 ∷ Blob signature ∷ [];
    on_row = λ r. (refl, refl, refl);
    on_struct = λ x. (refl, refl, refl);
    made = λ x. simp (cast_int, cast_null);
    held = λ db next c h o. in_cert db next c h _ o;
  }

  pub sign : Write SIGN_CERT.now sign_params (with_cert_signature serial signature)
  sign = update signs

-- ---- why a certificate is refused

own_name : (t : List ℕ) → (equal Binary (Text t) (Text t) && true) ≡ true
own_name t = and-true _ ∙ own_text t

module _ (x : CertRow) where
  abbrev its_row : Row
  its_row = cert_row x

  is_put : IsPut placed_cert its_row
  is_put = record {
    listed = inr (inr (inl refl));
    formed = (signature_typed, refl, refl, refl);
    short = λ fits. (storable _ its_row refl exact (omega arith, omega arith) fits, omega arith);
    entries = λ fits. ((λ e. cc), ((λ e. cc), ((λ e. cc), ((λ e. cc), tt))));
  }
    where
      signature_typed : (are_typed placed_cert.key 0 placed_cert.columns
          (Null ∷ Text x.department ∷ Text x.key_id ∷ Blob x.body ∷ or_null Blob x.signature ∷ []) && true) ≡ true
      signature_typed = elim x.signature as (λ o. (are_typed placed_cert.key 0 placed_cert.columns
          (Null ∷ Text x.department ∷ Text x.key_id ∷ Blob x.body ∷ or_null Blob o ∷ []) && true) ≡ true)
          [ None ↦ refl | Some b ↦ refl ]

      exact : AllByRecursion (λ v. is_exact v ≡ true) its_row
      exact =
          let last : is_exact (or_null Blob x.signature) ≡ true =
          elim x.signature as (λ o. is_exact (or_null Blob o) ≡ true) [ None ↦ refl | Some b ↦ refl ] in
          (refl, (refl, (refl, (refl, (refl, (last, tt))))))

  -- the department of the row exists
  has_own : (trees : Trees) (c : Contents) → Lists department_cells department_places (trees 1) c.departments
      → HasOne (λ d. d.name ≡ x.department) c.departments → has_department trees its_row ≡ true
  unfolding first_key
  has_own trees c h (d, here, is) =
      let it = of_row department_cells department_places (trees 1) c.departments d h here in
      let name : column it.0 1 ≡ Text x.department = ap (λ v. column v 0) it.2 ∙ ap Text is in
      or_right (has_null (2 ∷ []) its_row) _ (some_from (λ r. agree plain (1 ∷ []) r (2 ∷ []) its_row) (trees 1) it.0
      it.1 (rw name (own_name x.department)))

  -- if its department exists, no reference is broken
  referred : (s : State) (c : Contents) (next : Trees) → Means s.now c
      → HasOne (λ d. d.name ≡ x.department) c.departments → Applies whole Enforced s.now.trees
      (one s.now.trees placed_cert [] its_row) next → Refers All whole next
  referred s c next means named did =
      let db = s.now.trees in
      let departments : next 1 ≡ db 1 = did.tables.1.0 (eqb-false 1 3 refl) in
      let was = each_refers db (means.kept.sound.obeys.rules ForeignKey) in
      all_refer next (subst (λ ds. AllByRecursion (λ r. (has_null (2 ∷ []) r || list_any (λ d. agree plain (1 ∷ []) d (2 ∷ []) r) ds) ≡ true) (next 3))
      (sym departments) (subst (AllByRecursion (λ r. has_department db r ≡ true)) (sym did.rows)
      (all-put_row (λ r. has_department db r ≡ true) its_row (db 3) (has_own db c means.kept.holds.departments named)
      was)))

-- ---- why a signature is refused

module _ (serial : ℕ) (signature : List ℕ) where
  -- the department of the existing row
  own_department : (db : Trees) (x : CertRow) (r : Row) → at_places cert_places r ≡ cert_cells x → has_department db r ≡ true
      → has_department db (cert_row (signed_row signature x)) ≡ true
  own_department db x r is h =
      let c2 : column r 2 ≡ Text x.department = ap (λ v. column v 1) is in rw c2 at h

  still_refers : (s : State) (c : Contents) (x : CertRow) (r : Row) (next : Trees) → Means s.now c → Has (s.now.trees 3) r
      → at_places cert_places r ≡ cert_cells x → Applies whole Enforced s.now.trees
      (one s.now.trees placed_cert (pos serial ∷ []) (cert_row (signed_row signature x))) next → Refers All whole next
  still_refers s c x r next means here is did =
      let db = s.now.trees in
      let departments : next 1 ≡ db 1 = did.tables.1.0 (eqb-false 1 3 refl) in
      let was = each_refers db (means.kept.sound.obeys.rules ForeignKey) in
      let own = own_department db x r is (all_has (λ r. has_department db r ≡ true) (db 3) r was here) in
      all_refer next (subst (λ ds. AllByRecursion (λ r. (has_null (2 ∷ []) r || list_any (λ d. agree plain (1 ∷ []) d (2 ∷ []) r) ds) ≡ true) (next 3))
      (sym departments) (subst (AllByRecursion (λ r. has_department db r ≡ true)) (sym did.rows)
      (all-put_row (λ r. has_department db r ≡ true) (cert_row (signed_row signature x))
      (without_rowid (pos serial) (db 3)) own
      (all-filter (λ r. has_department db r ≡ true) (λ r. not (has_rowid (pos serial) r)) (db 3) was))))

-- ---- the calls

cert_long : (x : CertRow) → 10 ^ 9 < size (cert_row x) → IsTooLong (cert_cells x)
cert_long x long = omega (arith, long)

pub cert_fails : {X : Type 0} (x : CertRow) → x.serial < 2 ^ 63 → (old new : State) (r : Result X Fault)
    → FailsBy (HasWriteCause INSERT_CERT.now (cert_cells x)) old new r → RefusedFor (RefusesCert x) old new r
cert_fails x below = insert_fails puts x (RefusesCert x) (λ s. is_put x)
    (λ s c means out. never (lt-ltb x.serial (2 ^ 63) below) out)
    (λ s c means taken. inl (taken_number (λ y. y.serial) x.serial
    (drop 1 (cert_row x)) (λ y r is. ap (λ v. column v 0) is) means.kept.holds.certs taken))
    (λ s c means clash. absurd (unclashed s.now.trees placed_cert [] (cert_row x)
    ((λ e. never e refl), ((λ e. never e refl), ((λ e. never e refl), ((λ e. never e refl), tt)))) clash))
    (λ s c long. inr (inr (cert_long x long)))
    (λ s c next means did broken. inr (inl (λ named. broken (referred x s c next means named did))))

pub signature_fails : {X : Type 0} (serial : ℕ) (signature : List ℕ) → serial < 2 ^ 63 → (old new : State) (r : Result X Fault)
    → FailsBy (HasWriteCause SIGN_CERT.now (sign_params serial signature)) old new r
    → RefusedFor (RefusesSignature serial signature) old new r
signature_fails serial signature below =
    update_fails (signs serial signature) (inr (inr (inl refl))) (lt-ltb serial (2 ^ 63) below) (λ x. refl) (λ x. refl)
    cert_long ((λ e. never e refl), ((λ e. never e refl), ((λ e. never e refl), ((λ e. never e refl), tt))))
    is_put (still_refers serial signature)
