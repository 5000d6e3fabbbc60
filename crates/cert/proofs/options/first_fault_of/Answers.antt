use Rattle.cert.proofs.Words.{List, None, Option, OptionFault, OptionField, Pair, Some, [], ap, drop, false}
use Rattle.cert.proofs.Words.{first_fault, is_some, length, pair_fault, refl, suc, sym, take, true, ℕ, ◌++◌, ◌+◌}
use Rattle.cert.proofs.Words.{◌<◌, ◌∙◌, ◌∷◌, ◌≡◌}
use Rattle.std.proofs.Common.{add-one, drop-cons, get_or}
use Rattle.std.proofs.lemmas.List.{take_more}
use Rattle.std.specs.Option.{option_or}
use Rattle.cert.proofs.options.first_fault_of.Goals as goal

-- the first fault is that of the next pair, or of those after it
next : (field : OptionField) (ps : List Pair) (i : ℕ) (p : Pair) → i < length ps → p ≡ get_or ps i p
    → first_fault field (take i ps) (drop i ps)
    ≡ option_or (pair_fault field (take i ps) p) (first_fault field (take (i + 1) ps) (drop (i + 1) ps))
next field ps i p lt is =
    let left : drop i ps ≡ p ∷ drop (i + 1) ps = rw (add-one, drop-cons ps i p lt) (ap (λ q. q ∷ drop (suc i) ps)
    (sym is)) in
    let more : take (i + 1) ps ≡ take i ps ++ p ∷ [] = take_more ps i p lt ∙ ap (λ q. take i ps ++ q ∷ []) (sym is) in
    ap (first_fault field (take i ps)) left
    ∙ ap (λ so_far. option_or (pair_fault field (take i ps) p) (first_fault field so_far (drop (i + 1) ps))) (sym more)

later : (found rest : Option OptionFault) → is_some found ≡ false → option_or found rest ≡ rest
later None rest e = refl
later (Some fault) rest e = absurd cc

this : (found rest : Option OptionFault) → is_some found ≡ true → option_or found rest ≡ found
this None rest e = absurd cc
this (Some fault) rest e = refl

pub loop-i-preserved : goal.loop-i-preserved
loop-i-preserved c =
    sym (next c.args.field c.args.pairs.now c.loop-i.i c.index-pairs-i.result c.loop-i-test.true c.index-pairs-i.is
    ∙ later _ _ (ap is_some (sym c.fault_of-fault.ensures) ∙ sym c.is_some.ensures ∙ c.if-is_some.false))
    ∙ c.loop-i.invariant

pub returns-then-is_some : goal.returns-then-is_some
returns-then-is_some c =
    c.fault_of-fault.ensures
    ∙ sym (next c.args.field c.args.pairs.now c.loop-i.i c.index-pairs-i.result c.loop-i-test.true c.index-pairs-i.is
    ∙ this _ _ (ap is_some (sym c.fault_of-fault.ensures) ∙ sym c.is_some.ensures ∙ c.if-is_some.true))
    ∙ c.loop-i.invariant
