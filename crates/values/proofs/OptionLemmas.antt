-- The names of options.
use Rattle.std.proofs.Common.{◌≡◌, ◌⊎◌, inl, inr, ℕ, List, [], ◌∷◌, true, false, codes, sym}
use Rattle.std.specs.List.{list_any}
use Rattle.std.specs.Str.{bytes_eq}
use Rattle.std.proofs.lemmas.Bool.{or_cases}
use Rattle.std.proofs.lemmas.Slice.Eq.{bytes_eq-Decides}
use Rattle.values.specs.declared.option_field.OptionField.TheVariants.{CriticalOptions}
use Rattle.values.specs.Options.{is_known}

same : (a b : List ℕ) → bytes_eq a b ≡ true → a ≡ b
same a b = (bytes_eq-Decides a b).0

-- a critical option is one of three
pub critical_cases : (name : List ℕ) → is_known CriticalOptions name ≡ true
    → (name ≡ codes "force-command") ⊎ ((name ≡ codes "source-address") ⊎ (name ≡ codes "verify-required"))
critical_cases name h =
    elim (or_cases (bytes_eq (codes "force-command") name)
    (list_any (λ k. bytes_eq k name) (codes "source-address" ∷ codes "verify-required" ∷ [])) h) [
      | inl a ↦ inl (sym (same _ _ a))
      | inr rest ↦ elim (or_cases (bytes_eq (codes "source-address") name)
          (list_any (λ k. bytes_eq k name) (codes "verify-required" ∷ [])) rest) [
            | inl b ↦ inr (inl (sym (same _ _ b)))
            | inr last ↦ elim (or_cases (bytes_eq (codes "verify-required") name) false last) [
              | inl c ↦ inr (inr (sym (same _ _ c)))
              | inr none ↦ cc
            ]
          ]
    ]
