-- The statements on the tables whose rows have no number of their own, those of requests and of revoked key IDs; and
-- why they are refused.
use Rattle.store_sql.proofs.Words.{AllByRecursion, AreNumbered, Binary, Chosen, Compare, Contents, Eq, FailsBy, Fault}
use Rattle.store_sql.proofs.Words.{HasOne, Holds, INSERT_REQUEST, INSERT_REVOKED, Insert, Int, List, Lists, Means, Null}
use Rattle.store_sql.proofs.Words.{Query, RefusedFor, RequestRow, Result, Row, State, Term, Text, Values, [], agree}
use Rattle.store_sql.proofs.Words.{all_from, all_has, and-true, and_parts, ap, ap₂, arith, ascending, at_places, binary}
use Rattle.store_sql.proofs.Words.{bytes_eq-Decides, codes, col, column, equal, everything, false, first_key, fits_i64}
use Rattle.store_sql.proofs.Words.{guards, inl, inr, is_true, joined, key_id_cells, key_id_places, length, length-map}
use Rattle.store_sql.proofs.Words.{length_permutation, lit, ltb-false, nat_cmp, next_rowid, op2, pos, refl}
use Rattle.store_sql.proofs.Words.{placed_request}
use Rattle.store_sql.proofs.Words.{request_cells, request_places, placed_revoked, slice_cmp, subst, sym, true}
use Rattle.store_sql.proofs.Words.{whole, ℕ, ◌&&◌, ◌^◌, ◌∙◌, ◌∷◌, ◌≡◌, ◌≤◌}
use Rattle.sqlite_trees.specs.View.{IsStorable}
use Rattle.store_sql.proofs.Reasons.{is_exact, HasClash, IsPut, never, size, storable}
use Rattle.std.proofs.Common.{◌<◌}
use Rattle.store_sql.specs.Refusals.{IsTooLong}
use Rattle.store_sql.proofs.Selects.{IsTreeOf, select, text_cmp, FindSorted, select_all}
use Rattle.store_sql.proofs.FaultLemmas.{IsStatement, HasWriteCause}
use Rattle.store_sql.specs.Changes.{is_request_for, requests_for, with_request, is_same_key_id, revoked_as}
use Rattle.store_sql.specs.Changes.{with_revoked}
use Rattle.store_sql.specs.declared.sql.TheConstants.{FIND_REQUEST, FIND_REVOKED, EVERY_REVOKED}
use Rattle.store_sql.proofs.Elsewhere.{request_apart, in_request, key_id_apart, in_revoked}
use Rattle.store_sql.proofs.CallLemmas.{IsSelect, Write, Find}
use Rattle.store_sql.proofs.Inserts.{IsInsert, insert, insert_fails, refers_still}
use Rattle.store_sql.proofs.Queries.{on_table, text_test}
use Rattle.store_sql.proofs.Rows.{more_numbered, next_number, cast_null, ints_of}
use Rattle.sqlite_rules.proofs.PlaceLemmas.{next_is_free}
use Rattle.store_sql.specs.Refusals.{IsFull, RefusesKeyId, RefusesRequest}
use Rattle.store_sql.proofs.Edits.{of_record}
use Rattle.store_sql.proofs.Texts.{query, statement}

pub request_tree : IsTreeOf Holds request_cells request_places 4 (λ c. c.requests)
request_tree = record { stored = λ trees. refl; held = λ trees c h. h.requests; apart = request_apart }

-- ---- INSERT

abbrev request_terms : List Term
request_terms = lit Null ∷ col 0 0 ∷ col 0 1 ∷ col 0 2 ∷ col 0 3 ∷ []

abbrev pub request_row : RequestRow → List Row → Row
request_row x rows = Int (next_rowid rows) ∷ request_cells x

insert_request_is : IsStatement INSERT_REQUEST.now (Insert 3 (Values request_terms 5)) 4
unfolding everything
insert_request_is = statement whole INSERT_REQUEST.now _ 4 refl refl

pub request_puts : IsInsert INSERT_REQUEST.now request_cells request_places 3 placed_request request_terms 5 with_request
    (λ c. c.requests) request_row
request_puts = record {
  tree = request_tree;
  found = refl;
  is = λ x. insert_request_is;
  source = λ x. Null ∷ request_cells x;
  sourced = λ x. (refl, refl);
  made = λ x rows. (rw cast_null refl, refl);
  held = λ x db after c h o placed now. in_request db after c h (x ∷ c.requests) o now
      (more_numbered (db 4) (after 4) _ placed (next_number (db 4) h.requests_numbered) h.requests_numbered);
}

pub put_request : (x : RequestRow) → Write INSERT_REQUEST.now (request_cells x) (with_request x)
put_request = insert request_puts

-- ---- SELECT of one request

abbrev find_request_query : Query
find_request_query = on_table 4 (op2 (Compare Eq Binary) (col 1 1) (col 0 0)
    ∷ op2 (Compare Eq Binary) (col 1 2) (col 0 1) ∷ []) (col 1 1 ∷ col 1 2 ∷ col 1 3 ∷ col 1 4 ∷ []) []

find_request_is : IsSelect whole FIND_REQUEST.now find_request_query
    (codes "caller" ∷ codes "key" ∷ codes "message" ∷ codes "reply" ∷ []) 2
unfolding everything
find_request_is = query whole FIND_REQUEST.now _ _ 2 refl refl

pub find_request : (caller : List ℕ) (key : List ℕ) → Find FIND_REQUEST.now (Text caller ∷ Text key ∷ []) request_cells
    (requests_for caller key)
find_request caller key = select request_tree find_request_is (is_request_for caller key)
    (λ v. is_true (binary (Compare Eq Binary) (column v 0) (Text caller)) &&
    (is_true (binary (Compare Eq Binary) (column v 1) (Text key)) && true))
    (λ v. column v 0 ∷ column v 1 ∷ column v 2 ∷ column v 3 ∷ [])
    (λ x. ap₂ ◌&&◌ (text_test x.caller caller) (and-true _ ∙ text_test x.key key)) (λ x. refl) (λ r. refl) (λ r. refl)
    refl (λ c. refl)

-- ---- revoked key IDs

pub revoked_tree : IsTreeOf Holds key_id_cells key_id_places 7 (λ c. c.revoked)
revoked_tree = record { stored = λ trees. refl; held = λ trees c h. h.revoked; apart = key_id_apart }

-- ---- INSERT

abbrev revoked_terms : List Term
revoked_terms = lit Null ∷ col 0 0 ∷ []

abbrev pub revoked_row : (List ℕ) → List Row → Row
revoked_row x rows = Int (next_rowid rows) ∷ key_id_cells x

insert_revoked_is : IsStatement INSERT_REVOKED.now (Insert 5 (Values revoked_terms 2)) 1
unfolding everything
insert_revoked_is = statement whole INSERT_REVOKED.now _ 1 refl refl

pub revoked_puts : IsInsert INSERT_REVOKED.now key_id_cells key_id_places 5 placed_revoked revoked_terms 2 with_revoked
    (λ c. c.revoked) revoked_row
revoked_puts = record {
  tree = revoked_tree;
  found = refl;
  is = λ x. insert_revoked_is;
  source = λ x. Null ∷ key_id_cells x;
  sourced = λ x. (refl, refl);
  made = λ x rows. (rw cast_null refl, refl);
  held = λ x db after c h o placed now. in_revoked db after c h (x ∷ c.revoked) o now
      (more_numbered (db 7) (after 7) _ placed (next_number (db 7) h.revoked_numbered) h.revoked_numbered);
}

pub put_revoked : (x : (List ℕ)) → Write INSERT_REVOKED.now (key_id_cells x) (with_revoked x)
put_revoked = insert revoked_puts

-- ---- SELECT of one key ID

find_revoked_is : IsSelect whole FIND_REVOKED.now
    (on_table 7 (op2 (Compare Eq Binary) (col 1 1) (col 0 0) ∷ []) (col 1 1 ∷ []) []) (codes "keyid" ∷ []) 1
unfolding everything
find_revoked_is = query whole FIND_REVOKED.now _ _ 1 refl refl

pub find_revoked : (key_id : List ℕ) → Find FIND_REVOKED.now (Text key_id ∷ []) key_id_cells (revoked_as key_id)
find_revoked key_id = select revoked_tree find_revoked_is (is_same_key_id key_id)
    (λ v. is_true (binary (Compare Eq Binary) (column v 0) (Text key_id)) && true)
    (λ v. column v 0 ∷ []) (λ x. and-true _ ∙ text_test x key_id) (λ x. refl) (λ r. refl) (λ r. refl) refl (λ c. refl)

-- ---- SELECT of all key IDs

every_revoked_is : IsSelect whole EVERY_REVOKED.now (on_table 7 [] (col 1 1 ∷ []) ((col 1 1, ascending Binary) ∷ []))
    (codes "keyid" ∷ []) 0
unfolding everything
every_revoked_is = query whole EVERY_REVOKED.now _ _ 0 refl refl

pub every_revoked : FindSorted EVERY_REVOKED.now ([]) key_id_cells (λ c. c.revoked) (λ k. k) (slice_cmp nat_cmp)
every_revoked = select_all revoked_tree every_revoked_is (λ v. column v 0 ∷ []) (λ x. refl) (λ r. refl) refl
    (λ r. refl) text_cmp

-- ---- why they are refused: lemmas for every such table

-- there are as many rows as structs
pub counted : {X : Type 0} (cells : X → Row) (places : List ℕ) (rows : List Row) (xs : List X) → Lists cells places rows xs
    → length rows ≡ length xs
counted cells places rows xs h =
    let same = length_permutation _ _ h.same in
    let left = length-map xs cells in
    let right = length-map rows (at_places places) in
    omega (arith, same, left, right)

-- the next number is out of range if the table is full
pub full : {X : Type 0} (cells : X → Row) (places : List ℕ) (rows : List Row) (xs : List X) → Lists cells places rows xs
    → AreNumbered rows → fits_i64 (next_rowid rows) ≡ false → IsFull xs
full cells places rows xs h all out =
    let it = next_number rows all in
    let is : next_rowid rows ≡ pos it.0 = cc in
    let over : 2 ^ 63 ≤ it.0 = ltb-false it.0 (2 ^ 63) (subst (λ n. fits_i64 n ≡ false) is out) in
    let count = counted cells places rows xs h in
    omega (arith, over, it.2, count)

-- the next number is free
pub free : (rows : List Row) (rest : Row) → AreNumbered rows → Rattle.sqlite.specs.Tree.IsTable rows
    → Rattle.sqlite.specs.Edit.is_taken rows (Int (next_rowid rows) ∷ rest) ≡ true → {R : Type 0} → R
free rows rest all up taken = absurd (let wrong : true ≡ false = sym taken ∙ next_is_free Chosen rows rest up
    (all_from (λ r. Rattle.std.specs.Prelude.IsTrue (Rattle.sqlite_trees.specs.View.is_int (Rattle.sqlite.specs.Tree.rowid r))) rows
    (λ r here. all_has (λ r. Rattle.sqlite_trees.specs.View.is_int (Rattle.sqlite.specs.Tree.rowid r) ≡ true) rows r (ints_of rows all) here)) in cc)

pub same_text : (a b : List ℕ) → equal Binary (Text a) (Text b) ≡ true → a ≡ b
same_text a b h = (bytes_eq-Decides a b).0 (sym (text_test a b) ∙ h)

-- ---- why a request is refused

request_put : (r : RequestRow) (rows : List Row) → IsPut placed_request (request_row r rows)
unfolding joined
request_put r rows = record {
  listed = inr (inr (inr (inl refl)));
  formed = (refl, refl, refl, refl);
  short = λ fits.
      let exact : AllByRecursion (λ v. is_exact v ≡ true) (request_row r rows) =
      (refl, (refl, (refl, (refl, (refl, tt))))) in
      (storable _ (request_row r rows) refl exact (omega arith, omega arith) fits, omega arith);
  entries = λ fits.
      let key : IsStorable 0 (Text r.caller ∷ Text r.key ∷ Int (next_rowid rows) ∷ []) =
      storable _ _ refl (refl, (refl, (refl, tt))) (omega arith, omega arith) (omega (arith, fits)) in
      ((λ e. cc), ((λ e. key), ((λ e. cc), ((λ e. cc), tt))));
}

-- a request of the same caller has the request ID
request_clash : (r : RequestRow) (s : State) (c : Contents) → Means s.now c
    → HasClash s.now.trees placed_request [] (request_row r (s.now.trees 4)) → HasOne (λ k. (k.caller ≡ r.caller) × (k.key ≡ r.key)) c.requests
unfolding first_key
request_clash r s c means (i, here, on, other, there, same) =
    let it = of_record request_cells request_places (s.now.trees 4) c.requests other means.kept.holds.requests there in
    let caller : column other 1 ≡ Text it.0.caller = ap (λ v. column v 0) it.2 in
    let key : column other 2 ≡ Text it.0.key = ap (λ v. column v 1) it.2 in
    let both = all_has (λ j. guards j placed_request ≡ true → agree j.order j.columns other j.columns (request_row r (s.now.trees 4)) ≡ true
    → (equal Binary (column other 1) (Text r.caller) && (equal Binary (column other 2) (Text r.key) && true)) ≡ true) whole.indexes i
    ((λ e. never e refl), ((λ e same. same), ((λ e. never e refl), ((λ e. never e refl), tt)))) here on same in
    let first = and_parts (equal Binary (column other 1) (Text r.caller)) (equal Binary (column other 2) (Text r.key) && true) both in
    let second = and_parts (equal Binary (column other 2) (Text r.key)) true first.1 in
    let callers = same_text it.0.caller r.caller (subst (λ v. equal Binary v (Text r.caller) ≡ true) caller first.0) in
    let keys = same_text it.0.key r.key (subst (λ v. equal Binary v (Text r.key) ≡ true) key second.0) in
    (it.0, it.1, (callers, keys))

request_long : (x : RequestRow) (rows : List Row) → 10 ^ 9 < size (request_row x rows) → IsTooLong (request_cells x)
request_long x rows long = omega (arith, long)

pub request_fails : {X : Type 0} (x : RequestRow) (old new : State) (r : Result X Fault)
    → FailsBy (HasWriteCause INSERT_REQUEST.now (request_cells x)) old new r → RefusedFor (RefusesRequest x) old new r
request_fails x = insert_fails request_puts x (RefusesRequest x) (λ s. request_put x (s.now.trees 4))
    (λ s c means out. inr (inr (full request_cells request_places (s.now.trees 4) c.requests means.kept.holds.requests
    means.kept.holds.requests_numbered out)))
    (λ s c means taken. free (s.now.trees 4) (request_cells x) means.kept.holds.requests_numbered
    means.kept.holds.requests.apart taken)
    (λ s c means clash. inl (request_clash x s c means clash))
    (λ s c long. inr (inl (request_long x (s.now.trees 4) long)))
    (λ s c next means did broken. absurd (broken (refers_still means did refl refl)))

-- ---- why a revoked key ID is refused

revoked_put : (k : List ℕ) (rows : List Row) → IsPut placed_revoked (revoked_row k rows)
unfolding joined
revoked_put k rows = record {
  listed = inr (inr (inr (inr (inr (inl refl)))));
  formed = (refl, refl, refl, refl);
  short = λ fits.
      (storable _ (revoked_row k rows) refl (refl, (refl, tt)) (omega arith, omega arith) fits, omega arith);
  entries = λ fits.
      let key : IsStorable 0 (Text k ∷ Int (next_rowid rows) ∷ []) =
      storable _ _ refl (refl, (refl, tt)) (omega arith, omega arith) (omega (arith, fits)) in
      ((λ e. cc), ((λ e. cc), ((λ e. key), ((λ e. cc), tt))));
}

-- the key ID is there already
revoked_clash : (k : List ℕ) (s : State) (c : Contents) → Means s.now c
    → HasClash s.now.trees placed_revoked [] (revoked_row k (s.now.trees 7)) → HasOne (λ j. j ≡ k) c.revoked
unfolding first_key
revoked_clash k s c means (i, here, on, other, there, same) =
    let it = of_record key_id_cells key_id_places (s.now.trees 7) c.revoked other means.kept.holds.revoked there in
    let text : column other 1 ≡ Text it.0 = ap (λ v. column v 0) it.2 in
    let both = all_has (λ j. guards j placed_revoked ≡ true → agree j.order j.columns other j.columns (revoked_row k (s.now.trees 7)) ≡ true
    → (equal Binary (column other 1) (Text k) && true) ≡ true) whole.indexes i
    ((λ e. never e refl), ((λ e. never e refl), ((λ e same. same), ((λ e. never e refl), tt)))) here on same in
    let first = and_parts (equal Binary (column other 1) (Text k)) true both in
    (it.0, it.1, same_text it.0 k (subst (λ v. equal Binary v (Text k) ≡ true) text first.0))

revoked_long : (k : List ℕ) (rows : List Row) → 10 ^ 9 < size (revoked_row k rows) → IsTooLong (key_id_cells k)
revoked_long k rows long = omega (arith, long)

pub key_id_fails : {X : Type 0} (x : (List ℕ)) (old new : State) (r : Result X Fault)
    → FailsBy (HasWriteCause INSERT_REVOKED.now (key_id_cells x)) old new r → RefusedFor (RefusesKeyId x) old new r
key_id_fails x = insert_fails revoked_puts x (RefusesKeyId x) (λ s. revoked_put x (s.now.trees 7))
    (λ s c means out. inr (inr (full key_id_cells key_id_places (s.now.trees 7) c.revoked means.kept.holds.revoked
    means.kept.holds.revoked_numbered out)))
    (λ s c means taken. free (s.now.trees 7) (key_id_cells x) means.kept.holds.revoked_numbered
    means.kept.holds.revoked.apart taken)
    (λ s c means clash. inl (revoked_clash x s c means clash))
    (λ s c long. inr (inl (revoked_long x (s.now.trees 7) long)))
    (λ s c next means did broken. absurd (broken (refers_still means did refl refl)))
