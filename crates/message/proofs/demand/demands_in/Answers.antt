use Rattle.message.proofs.Words.{List, None, Option, Pair, Some, [], ap, arith, line_of, map, sym, ℕ, ◌++◌, ◌+◌}
use Rattle.message.proofs.Words.{◌-◌, ◌<◌, ◌∙◌, ◌∷◌, ◌≡◌}
use Rattle.message.specs.Reading.{demand_after, pairs_from}
use Rattle.message.proofs.Steps.{all_pairs, are_pairs, no_pair, one_pair}
use Rattle.message.proofs.demand.demands_in.Goals as goal

pub loop-n-preserved : goal.loop-n-preserved
loop-n-preserved c =
    let pieces : List (List ℕ) = map (λ x. x.now) c.args.pieces.now in
    let after : List Pair → List ℕ → Option Pair = demand_after c.args.kind in
    let n : ℕ = c.loop-n.n in
    let before : List Pair = c.loop-n.demands in
    let option = c.in-Some.option in
    let left : 0 < 9 - n = omega arith in
    let is : after before (line_of n pieces) ≡ Some option =
    sym (ap (after before) c.line.ensures) ∙ sym c.in_ok-option.ensures ∙ c.in-Some.is in
    let fewer : 9 - (n + 1) ≡ 9 - n - 1 = omega arith in
    ap (λ (os : List Pair). pairs_from after (9 - (n + 1)) (n + 1) os pieces) c.in_ok-push.ensures.ok
    ∙ ap (λ (k : ℕ). pairs_from after k (n + 1) (before ++ option ∷ []) pieces) fewer
    ∙ sym (one_pair after (9 - n) n before pieces option left is) ∙ c.loop-n.invariant

pub returns-in_default : goal.returns-in_default
returns-in_default c =
    let pieces : List (List ℕ) = map (λ x. x.now) c.args.pieces.now in
    let after : List Pair → List ℕ → Option Pair = demand_after c.args.kind in
    let is : after c.loop-n.demands (line_of c.loop-n.n pieces) ≡ None =
    sym (ap (after c.loop-n.demands) c.line.ensures) ∙ sym c.in_ok-option.ensures ∙ c.in_default.is in
    let said = are_pairs after (9 - c.loop-n.n) 6 c.loop-n.n c.loop-n.demands pieces c.loop-n.invariant
    (no_pair after (9 - c.loop-n.n) c.loop-n.n c.loop-n.demands pieces is) in
    record { read = said.0; few = said.1 }

pub returns : goal.returns
returns c =
    let pieces : List (List ℕ) = map (λ x. x.now) c.args.pieces.now in
    let after : List Pair → List ℕ → Option Pair = demand_after c.args.kind in
    let none : 9 - c.loop-n.n ≡ 0 = omega arith in
    let said = are_pairs after (9 - c.loop-n.n) 6 c.loop-n.n c.loop-n.demands pieces c.loop-n.invariant
    (all_pairs after (9 - c.loop-n.n) c.loop-n.n c.loop-n.demands pieces none) in
    record { read = said.0; few = said.1 }
