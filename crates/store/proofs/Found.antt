-- The result of a search for rows that pass a test.
use Rattle.store.proofs.Words.{Bool, IsOneOf, List, None, Option, Some, [], arith, false, filter, is_some}
use Rattle.store.proofs.Words.{length_permutation, list_any, ne_eqb, not-true, sym, ◌∙◌, ◌∷◌, ◌≡◌}
use Rattle.std.proofs.lemmas.Bool.{not-false}
use Rattle.sqlite_keyed.proofs.ListLemmas.{filter_none, none_counted, none_from_any}

module _ {X : Type 0} (test : X → Bool) (xs : List X) where
  pub none_passes : list_any test xs ≡ false → filter test xs ≡ []
  none_passes none = filter_none test xs (none_from_any test xs none)

  -- a row is found if and only if one passes
  pub any_found : (found : Option X) → IsOneOf (filter test xs) found → is_some found ≡ list_any test xs
  any_found None is = sym (not-true (list_any test xs) (sym (rw is at (none_counted test xs))))
  any_found (Some x) is =
      sym (not-false (list_any test xs) (sym (none_counted test xs)
      ∙ ne_eqb _ _ (λ e. omega (arith, e, length_permutation (filter test xs) (x ∷ is.0) is.1))))
