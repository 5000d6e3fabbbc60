use Rattle.std.proofs.Common.{List, [], ap, arith, ℕ, ◌++◌, ◌∙◌, ◌∷◌, ◌≡◌}
use Rattle.lines.proofs.Subjects.{strings_go_on}
use Rattle.lines.proofs.subject.read_strings_of.Goals as goal

pub loop-preserved : goal.loop-preserved
loop-preserved c =
    let before = c.loop.strings in
    let pushed : c.push.new.self ≡ before ++ c.in-Some.string.now ∷ [] = c.in_ok-push.ensures.ok
    ∙ ap (λ (t : List ℕ). before ++ t ∷ []) c.in_ok-from_slice.ensures in
    rw pushed (strings_go_on c.part_count-count.result c.loop.counter before c.loop.cursor c.in-Some.string.now
    c.string.new.self _ (omega arith) c.in-Some.ensures.moves c.loop.invariant)
