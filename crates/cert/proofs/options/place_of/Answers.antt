use Rattle.std.proofs.Common.{◌≡◌, ℕ, ◌≤◌, ltb, cond, length, Some, None, unwrap_or, ap, ◌∙◌, refl, arith, inl, inr}
use Rattle.std.proofs.lemmas.Bool.{cases_lt, lt-ltb, le-ltb}
use Rattle.std.proofs.lemmas.List.Sums.{prefix_len-le-length}
use Rattle.cert.proofs.options.place_of.Goals as goal

-- a place that is found, or otherwise the end
or_end : (place end : ℕ) → place ≤ end → unwrap_or (cond (ltb place end) (Some place) None) end ≡ place
or_end place end le = elim (cases_lt place end) [
  | inl lt ↦ rw (lt-ltb place end lt) refl
  | inr ge ↦ rw (le-ltb place end ge) (omega arith)
]

pub returns-clause-place : goal.returns-clause-place
returns-clause-place c =
    let listed = c.args.listed.now in
    c.unwrap_or.ensures ∙ ap (λ o. unwrap_or o (length listed)) c.first_after.ensures
    ∙ or_end _ (length listed) (prefix_len-le-length _ listed)
