use Rattle.krl.proofs.Words.{List, None, Some, [], ap, eqb, length, same_Some, subst, sym, ℕ, ◌++◌, ◌∙◌, ◌≡◌, ◌≢◌}
use Rattle.std.proofs.lemmas.Slice.Eq.{bytes_eq-Decides}
use Rattle.krl.specs.Fronts.{IsWhole, whole_text}
use Rattle.krl.proofs.Booleans.{clash}
use Rattle.krl.proofs.WholeSections.{Reads, not_whole, one_whole}
use Rattle.krl.proofs.sections.are_whole.Goals as goal
use Rattle.krl.proofs.sections.are_whole.Goals.{then-count-eq-MAX_CAS-via-then-count-eq-MAX_CAS}
use Rattle.krl.proofs.sections.are_whole.Goals.{then-count-eq-MAX_CAS-via-else-count-eq-MAX_CAS+then-not-is_same}

pub returns-in_default : goal.returns-in_default
returns-in_default c =
    let some : c.loop-left.left.now ≢ [] = λ none. clash c.is_empty.result
    (c.is_empty.ensures ∙ ap (λ (x : List ℕ). eqb (length x) 0) none) c.loop-left-test.true in (
      λ no. absurd cc,
      λ are. absurd (not_whole c.args.sections.now c.args.key_ids.now c.loop-left.left.now c.loop-left.count None
          c.loop-left.invariant some c.in_default.ensures.only (λ next e. absurd cc) are.0 are.1),
    )

pub returns-then-count-eq-MAX_CAS : goal.returns-then-count-eq-MAX_CAS
returns-then-count-eq-MAX_CAS c =
    let some : c.loop-left.left.now ≢ [] = λ none. clash c.is_empty.result
    (c.is_empty.ensures ∙ ap (λ (x : List ℕ). eqb (length x) 0) none) c.loop-left-test.true in (
      λ no. absurd cc,
      λ are. absurd (not_whole c.args.sections.now c.args.key_ids.now c.loop-left.left.now c.loop-left.count
          (Some (c.in-Some.ids.now, c.in-Some.rest.now)) c.loop-left.invariant some c.in-Some.ensures.only (λ next e.
          elim c.then-count-eq-MAX_CAS.branch [
            | then-count-eq-MAX_CAS-via-then-count-eq-MAX_CAS w ↦ w.if-count-eq-MAX_CAS.true
            | then-count-eq-MAX_CAS-via-else-count-eq-MAX_CAS+then-not-is_same w ↦
                let same = ap (λ (x : List ℕ × List ℕ). x.0) (same_Some _ _ e) in
                clash w.is_same.result (w.is_same.ensures ∙ (bytes_eq-Decides _ _).1 same) w.if-not-is_same.true
          ]) are.0 are.1),
    )

pub loop-left-preserved : goal.loop-left-preserved
loop-left-preserved c =
    let some : c.loop-left.left.now ≢ [] = λ none. clash c.is_empty.result
    (c.is_empty.ensures ∙ ap (λ (x : List ℕ). eqb (length x) 0) none) c.loop-left-test.true in
    let found = c.in-Some.ensures.found in
    let same : c.in-Some.ids.now ≡ c.args.key_ids.now =
    (bytes_eq-Decides _ _).0 (sym c.is_same.ensures ∙ c.if-not-is_same.false) in
    one_whole c.args.sections.now c.args.key_ids.now c.loop-left.left.now c.in-Some.rest.now c.loop-left.count found.0
    c.loop-left.invariant some c.if-count-eq-MAX_CAS.false (subst (λ ids. IsWhole ids found.0) same found.1)
    (found.2 ∙ ap (λ ids. whole_text ids found.0 ++ c.in-Some.rest.now) same)
    (subst (λ ids. Reads c.loop-left.left.now (Some (ids, c.in-Some.rest.now))) same c.in-Some.ensures.only)
