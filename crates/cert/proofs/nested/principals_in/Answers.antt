use Rattle.cert.proofs.Words.{Bool, Err, List, None, Ok, Option, Some, ap, cond, false, option_and_then}
use Rattle.cert.proofs.Words.{or_fault, refl, sym, true, ℕ, ◌∙◌, ◌≡◌}
use Rattle.std.proofs.lemmas.Result.{err_from_is_err_and}
use Rattle.cert.specs.declared.cert_fault.CertFault.TheVariants as fault
use Rattle.cert.proofs.Steps.{passes_on}
use Rattle.cert.proofs.nested.principals_in.Goals as goal

-- principals that were read, and a test of them
judged : (test : List (List ℕ) → Bool) (read : Option (List (List ℕ))) (ps : List (List ℕ)) (b : Bool)
    → or_fault fault.BadPrincipals read ≡ Ok ps → test ps ≡ b
    → or_fault fault.BadPrincipals (option_and_then (λ qs. cond (test qs) (Some qs) None) read)
    ≡ cond b (Ok ps) (Err fault.BadPrincipals)
judged test None ps b e f = absurd cc
judged test (Some qs) ps b e f =
    let same : qs ≡ ps = cc in
    ap (λ (rs : List (List ℕ)). or_fault fault.BadPrincipals (cond (test rs) (Some rs) None)) same ∙ by (test ps) b f
  where
    by : (t b : Bool) → t ≡ b
        → or_fault fault.BadPrincipals (cond t (Some ps) None) ≡ cond b (Ok ps) (Err fault.BadPrincipals)
    by true true f = refl
    by true false f = absurd cc
    by false true f = absurd cc
    by false false f = refl

pub returns-in_err-principals : goal.returns-in_err-principals
returns-in_err-principals c =
    let p = err_from_is_err_and c.from_residual.result c.from_residual.ensures.1 in
    rw (p.1, p.2) (passes_on _ _ _ _ c.in_err-principals.ensures)

pub returns-then-not-are_lawful : goal.returns-then-not-are_lawful
returns-then-not-are_lawful c =
    judged _ _ c.in_ok-principals.principals false c.in_ok-principals.ensures
    (sym c.are_lawful.ensures ∙ c.if-not-are_lawful.true)

pub returns : goal.returns
returns c =
    judged _ _ c.in_ok-principals.principals true c.in_ok-principals.ensures
    (sym c.are_lawful.ensures ∙ c.if-not-are_lawful.false)
