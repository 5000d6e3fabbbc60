use Rattle.std.proofs.Common.{◌+◌, ◌≤◌, length}
use Rattle.krl.specs.Format.{IsString}
use Rattle.wire.specs.Texts.{string_text}
use Rattle.list_guard.proofs.Counted.{CountsOn}
use Rattle.list_guard.proofs.counting.key_id_count.Given as goal

-- the key IDs before the cursor are counted, and each takes at least one byte
abbrev pub invariant-loop-cursor : goal.invariant-loop-cursor
invariant-loop-cursor l =
    CountsOn string_text IsString (λ _. 1) l.bytes l.cursor l.count × (l.count + length l.cursor ≤ length l.bytes)

abbrev pub decreases-loop-cursor : goal.decreases-loop-cursor
decreases-loop-cursor l = length l.cursor
