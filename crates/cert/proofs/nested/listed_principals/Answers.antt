use Rattle.cert.proofs.Words.{List, [], ap, arith, is_principal, or_fault, sym, ℕ, ◌++◌, ◌∙◌, ◌∷◌, ◌≡◌}
use Rattle.cert.specs.declared.cert_fault.CertFault.TheVariants.{BadPrincipals}
use Rattle.cert.proofs.Elements.{string_cut, string_fails, string_goes_on, strings_left}
use Rattle.cert.proofs.nested.listed_principals.Goals as goal

pub loop-preserved : goal.loop-preserved
loop-preserved c =
    let front = c.loop.principals in
    let pushed : c.push.new.self ≡ front ++ c.in-Some.principal.now ∷ [] = c.in_ok-push.ensures.ok
    ∙ ap (λ (t : List ℕ). front ++ t ∷ []) c.in_ok-from_slice.ensures in
    rw pushed (string_goes_on is_principal front c.loop.counter c.loop.inner c.in-Some.principal.now
    c.string.new.self _ (omega arith) c.in-Some.ensures.moves
    (sym c.is_principal.ensures ∙ c.if-not-is_principal.false) c.loop.invariant)

pub returns-in_default : goal.returns-in_default
returns-in_default c =
    let some : ¬ (c.loop.inner ≡ []) = λ e. absurd (let t = c.at_end.ensures.1 e in let f = c.if-at_end.false in cc) in
    ap (or_fault BadPrincipals) (string_cut is_principal c.loop.principals c.loop.counter c.loop.inner _ (omega arith)
    some c.in_default.ensures.moves.0 c.loop.invariant)

pub returns-then-not-is_principal : goal.returns-then-not-is_principal
returns-then-not-is_principal c =
    ap (or_fault BadPrincipals) (string_fails is_principal c.loop.principals c.loop.counter c.loop.inner
    c.in-Some.principal.now c.string.new.self _ (omega arith) c.in-Some.ensures.moves
    (sym c.is_principal.ensures ∙ c.if-not-is_principal.true) c.loop.invariant)

pub returns-then-not-at_end : goal.returns-then-not-at_end
returns-then-not-at_end c =
    let some : ¬ (c.loop.inner ≡ []) = λ e. absurd (let t = c.at_end-2.ensures.1 e in let f = c.if-not-at_end.true
    in cc) in
    ap (or_fault BadPrincipals) (strings_left is_principal c.loop.principals c.loop.counter c.loop.inner _
    (omega arith) some c.loop.invariant)
