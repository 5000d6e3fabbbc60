-- The statements on the table of CAs, and why a CA is refused.
use Rattle.store_sql.proofs.Words.{Binary, Blob, CaRow, Contents, FailsBy, Fault, HasOne, Holds, INSERT_CA, Insert, Int}
use Rattle.store_sql.proofs.Words.{List, Means, Null, RefusedFor, Result, Row, State, Term, Values, [], agree, all_has}
use Rattle.store_sql.proofs.Words.{and_parts, ap, arith, ascending, bytes_eq-Decides, placed_ca, ca_cells, ca_places}
use Rattle.store_sql.proofs.Words.{codes}
use Rattle.store_sql.proofs.Words.{col, column, drop, equal, everything, first_key, guards, inl, inr, joined}
use Rattle.store_sql.proofs.Words.{lit, lt-ltb, nat_cmp, pos, refl, subst, sym, true, whole, ℕ, ◌&&◌, ◌<◌}
use Rattle.store_sql.proofs.Words.{◌^◌, ◌∙◌, ◌∷◌, ◌≡◌, ◌⊎◌}
use Rattle.sqlite_trees.specs.View.{IsStorable}
use Rattle.store_sql.proofs.Selects.{IsTreeOf, number_cmp, FindSorted, select_all}
use Rattle.store_sql.proofs.FaultLemmas.{IsStatement, HasWriteCause}
use Rattle.store_sql.proofs.Rows.{cast_null, cast_int}
use Rattle.store_sql.specs.Changes.{with_ca_row}
use Rattle.store_sql.specs.declared.sql.TheConstants.{EVERY_CA}
use Rattle.store_sql.proofs.Elsewhere.{ca_apart, in_ca}
use Rattle.store_sql.proofs.CallLemmas.{IsSelect, Write}
use Rattle.store_sql.proofs.Inserts.{IsInsert, insert, insert_fails, refers_still, taken_number}
use Rattle.store_sql.proofs.Queries.{on_table, blob_test}
use Rattle.store_sql.specs.Refusals.{IsTooLong, RefusesCa}
use Rattle.store_sql.proofs.Edits.{of_record}
use Rattle.store_sql.proofs.Reasons.{HasClash, IsPut, never, size, storable}
use Rattle.store_sql.proofs.Texts.{query, statement}

pub tree : IsTreeOf Holds ca_cells ca_places 9 (λ c. c.cas)
tree = record { stored = λ trees. refl; held = λ trees c h. h.cas; apart = ca_apart }

-- ---- INSERT

abbrev terms : List Term
terms = col 0 0 ∷ lit Null ∷ col 0 1 ∷ col 0 2 ∷ []

abbrev pub ca_row : CaRow → Row
ca_row x = Int (pos x.number) ∷ Null ∷ Blob x.ca ∷ Int (pos x.since) ∷ []

insert_is : IsStatement INSERT_CA.now (Insert 6 (Values terms 4)) 3
unfolding everything
insert_is = statement whole INSERT_CA.now _ 3 refl refl

pub puts : IsInsert INSERT_CA.now ca_cells ca_places 6 placed_ca terms 4 with_ca_row (λ c. c.cas) (λ x rows. ca_row x)
puts = record {
  tree = tree;
  found = refl;
  is = λ x. insert_is;
  source = ca_row;
  sourced = λ x. (refl, refl);
  made = λ x rows. (simp (cast_int, cast_null), refl);
  held = λ x db after c h o put. in_ca db after c h (x ∷ c.cas) o;
}

pub put : (x : CaRow) → Write INSERT_CA.now (ca_cells x) (with_ca_row x)
put = insert puts

-- ---- SELECT of all

abbrev columns : List Term
columns = col 1 0 ∷ col 1 2 ∷ col 1 3 ∷ []

every_is : IsSelect whole EVERY_CA.now (on_table 9 [] columns ((col 1 0, ascending Binary) ∷ []))
    (codes "number" ∷ codes "ca" ∷ codes "since" ∷ []) 0
unfolding everything
every_is = query whole EVERY_CA.now _ _ 0 refl refl

pub every : FindSorted EVERY_CA.now ([]) ca_cells (λ c. c.cas) (λ a. a.number) nat_cmp
every = select_all tree every_is (λ v. column v 0 ∷ column v 1 ∷ column v 2 ∷ []) (λ x. refl) (λ r. refl) refl
    (λ r. refl) (λ x y. number_cmp x.number y.number)

-- ---- why a CA is refused

same_blob : (a b : List ℕ) → equal Binary (Blob a) (Blob b) ≡ true → a ≡ b
same_blob a b h = (bytes_eq-Decides a b).0 (sym (blob_test a b) ∙ h)

ca_put : (a : CaRow) → IsPut placed_ca (ca_row a)
unfolding joined
ca_put a = record {
  listed = inr (inr (inr (inr (inr (inr (inl refl))))));
  formed = (refl, refl, refl, refl);
  short = λ fits. (storable _ (ca_row a) refl (refl, (refl, (refl, (refl, tt)))) (omega arith, omega arith) fits, omega arith);
  entries = λ fits.
      let key : IsStorable 0 (Blob a.ca ∷ Int (pos a.number) ∷ []) =
      storable _ _ refl (refl, (refl, tt)) (omega arith, omega arith) (omega (arith, fits)) in
      ((λ e. cc), ((λ e. cc), ((λ e. cc), ((λ e. key), tt))));
}

-- the key is taken
ca_clash : (a : CaRow) (s : State) (c : Contents) → Means s.now c → HasClash s.now.trees placed_ca [] (ca_row a)
    → HasOne (λ d. (d.number ≡ a.number) ⊎ (d.ca ≡ a.ca)) c.cas
unfolding first_key
ca_clash a s c means (i, here, on, other, there, same) =
    let it = of_record ca_cells ca_places (s.now.trees 9) c.cas other means.kept.holds.cas there in
    let blob : column other 2 ≡ Blob it.0.ca = ap (λ v. column v 1) it.2 in
    let both = all_has (λ j. guards j placed_ca ≡ true → agree j.order j.columns other j.columns (ca_row a) ≡ true
    → (equal Binary (column other 2) (Blob a.ca) && true) ≡ true) whole.indexes i
    ((λ e. never e refl), ((λ e. never e refl), ((λ e. never e refl), ((λ e same. same), tt)))) here on same in
    let first = and_parts (equal Binary (column other 2) (Blob a.ca)) true both in
    (it.0, it.1, inr (same_blob it.0.ca a.ca (subst (λ v. equal Binary v (Blob a.ca) ≡ true) blob first.0)))

ca_long : (x : CaRow) → 10 ^ 9 < size (ca_row x) → IsTooLong (ca_cells x)
ca_long x long = omega (arith, long)

pub ca_fails : {X : Type 0} (x : CaRow) → x.number < 2 ^ 63 → (old new : State) (r : Result X Fault)
    → FailsBy (HasWriteCause INSERT_CA.now (ca_cells x)) old new r → RefusedFor (RefusesCa x) old new r
ca_fails x below = insert_fails puts x (RefusesCa x) (λ s. ca_put x)
    (λ s c means out. never (lt-ltb x.number (2 ^ 63) below) out)
    (λ s c means taken. let it = taken_number (λ y. y.number) x.number
    (drop 1 (ca_row x)) (λ y r is. ap (λ v. column v 0) is) means.kept.holds.cas taken in inl (it.0, it.1, inl it.2))
    (λ s c means clash. inl (ca_clash x s c means clash)) (λ s c long. inr (ca_long x long))
    (λ s c next means did broken. absurd (broken (refers_still means did refl refl)))
