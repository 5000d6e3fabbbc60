use Rattle.message.proofs.Words.{List, None, Pair, Some, [], ap, arith, line_of, map, option_after, sym, ℕ, ◌++◌, ◌+◌}
use Rattle.message.proofs.Words.{◌-◌, ◌<◌, ◌∙◌, ◌∷◌, ◌≡◌}
use Rattle.message.specs.Reading.{options_from}
use Rattle.message.proofs.Steps.{all_pairs, are_pairs, no_pair, one_pair}
use Rattle.message.proofs.issue.options_in.Goals as goal

pub loop-n-preserved : goal.loop-n-preserved
loop-n-preserved c =
    let pieces : List (List ℕ) = map (λ x. x.now) c.args.pieces.now in
    let n : ℕ = c.loop-n.n in
    let before : List Pair = c.loop-n.options in
    let option = c.in-Some.option in
    let left : 0 < 10 - n = omega arith in
    let is : option_after before (line_of n pieces) ≡ Some option =
    sym (ap (option_after before) c.line.ensures) ∙ sym c.in_ok-option.ensures ∙ c.in-Some.is in
    let fewer : 10 - (n + 1) ≡ 10 - n - 1 = omega arith in
    ap (λ (os : List Pair). options_from (10 - (n + 1)) (n + 1) os pieces) c.in_ok-push.ensures.ok
    ∙ ap (λ (k : ℕ). options_from k (n + 1) (before ++ option ∷ []) pieces) fewer
    ∙ sym (one_pair option_after (10 - n) n before pieces option left is) ∙ c.loop-n.invariant

pub returns-in_default : goal.returns-in_default
returns-in_default c =
    let pieces : List (List ℕ) = map (λ x. x.now) c.args.pieces.now in
    let is : option_after c.loop-n.options (line_of c.loop-n.n pieces) ≡ None =
    sym (ap (option_after c.loop-n.options) c.line.ensures) ∙ sym c.in_ok-option.ensures ∙ c.in_default.is in
    let said = are_pairs option_after (10 - c.loop-n.n) 7 c.loop-n.n c.loop-n.options pieces c.loop-n.invariant
    (no_pair option_after (10 - c.loop-n.n) c.loop-n.n c.loop-n.options pieces is) in
    record { read = said.0; few = said.1 }

pub returns : goal.returns
returns c =
    let pieces : List (List ℕ) = map (λ x. x.now) c.args.pieces.now in
    let none : 10 - c.loop-n.n ≡ 0 = omega arith in
    let said = are_pairs option_after (10 - c.loop-n.n) 7 c.loop-n.n c.loop-n.options pieces c.loop-n.invariant
    (all_pairs option_after (10 - c.loop-n.n) c.loop-n.n c.loop-n.options pieces none) in
    record { read = said.0; few = said.1 }
