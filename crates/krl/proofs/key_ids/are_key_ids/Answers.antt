use Rattle.krl.proofs.Words.{List, None, Some, [], ap, eqb, length, refl, same_Some, subst, sym, ℕ, ◌∙◌, ◌∷◌, ◌≢◌}
use Rattle.std.specs.Option.{option_copied}
use Rattle.krl.specs.Fronts.{AscendNext}
use Rattle.krl.proofs.Booleans.{clash}
use Rattle.krl.proofs.FrontLaws.{no_bytes}
use Rattle.krl.proofs.IdLaws.{ids_read, not_ids, one_id}
use Rattle.krl.proofs.key_ids.are_key_ids.Goals as goal

pub returns-in_default : goal.returns-in_default
returns-in_default c =
    let some : c.loop-left.left.now ≢ [] = λ none. clash c.is_empty.result
    (c.is_empty.ensures ∙ ap (λ (x : List ℕ). eqb (length x) 0) none) c.loop-left-test.true in (
      λ no. absurd cc,
      λ are. absurd
          (not_ids c.args.bytes.now c.loop-left.left.now
          (option_copied c.loop-left.last) None c.loop-left.invariant some
          c.in_default.ensures.reads (λ id next e. absurd cc) are.0 are.1),
    )

pub returns-then-not-comes_behind : goal.returns-then-not-comes_behind
returns-then-not-comes_behind c =
    let some : c.loop-left.left.now ≢ [] = λ none. clash c.is_empty.result
    (c.is_empty.ensures ∙ ap (λ (x : List ℕ). eqb (length x) 0) none) c.loop-left-test.true in (
      λ no. absurd cc,
      λ are. absurd
          (not_ids c.args.bytes.now c.loop-left.left.now (option_copied c.loop-left.last)
          (Some (c.in-Some.id.now, c.in-Some.rest.now))
          c.loop-left.invariant some c.in-Some.ensures.reads
          (λ id next e behind.
          let same = ap (λ (x : List ℕ × List ℕ). x.0) (same_Some _ _ e) in
          clash c.comes_behind.result
          (c.comes_behind.ensures.1
          (subst (λ i. AscendNext (option_copied c.loop-left.last) (i ∷ [])) (sym same) behind))
          c.if-not-comes_behind.true) are.0 are.1),
    )

pub loop-left-preserved : goal.loop-left-preserved
loop-left-preserved c =
    let some : c.loop-left.left.now ≢ [] = λ none. clash c.is_empty.result
    (c.is_empty.ensures ∙ ap (λ (x : List ℕ). eqb (length x) 0) none) c.loop-left-test.true in
    one_id _ c.loop-left.left.now c.in-Some.rest.now c.in-Some.id.now
    (option_copied c.loop-left.last) c.loop-left.invariant some
    (c.comes_behind.ensures.0 c.if-not-comes_behind.false) c.in-Some.ensures.short c.in-Some.ensures.found
    c.in-Some.ensures.reads

pub returns : goal.returns
returns c = (
  λ all. ids_read c.args.bytes.now c.loop-left.left.now (option_copied c.loop-left.last) c.loop-left.invariant
      (no_bytes c.loop-left.left.now (sym c.is_empty.ensures ∙ c.loop-left-test.false)),
  λ are. refl,
)
