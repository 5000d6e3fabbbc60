use Rattle.krl.proofs.Words.{List, [], ap, arith, sym, u64_text, ℕ, ◌++◌, ◌∙◌, ◌≡◌}
use Rattle.krl.proofs.parts.range_names.Goals as goal

pub returns-clause-found : goal.returns-clause-found
returns-clause-found c =
    let end : c.u64-2.new.self ≡ [] = grind (arith, c.if-not-at_end.ensures, c.if-not-at_end.false) in (
      record { lo = c.in-Some.lo; hi = c.in-Some-u64.hi },
      omega arith,
      omega arith,
      sym c.new-cursor.ensures ∙ c.in-Some.ensures.found
          ∙ ap (λ (m : List ℕ). u64_text c.in-Some.lo ++ m)
          (c.in-Some-u64.ensures.found ∙ ap (λ (r : List ℕ). u64_text c.in-Some-u64.hi ++ r) end),
      c.has.ensures,
    )
