-- The bytes that a buffered source holds.
use Rattle.std.proofs.Common.{◌≡◌, ℕ, ◌+◌, ◌-◌, ◌<◌, ◌≤◌, min, List, [], ◌++◌, length, take, drop, ap, sym, ◌∙◌, arith}
use Rattle.std.proofs.Common.{length-drop, Option, Result}
use Rattle.std.proofs.Math.Seq.{take-add}
use Rattle.std.proofs.lemmas.List.{length-take, take-take, drop-drop}
use Rattle.std.proofs.KnownBytes.{prepend_known-nil, prepend_known-read}
use Rattle.std.specs.List.{slice_range}
use Rattle.std.specs.Io.KnownBytes.{Consumes, IsAtEnd, Keeps, ReadConsumes, prepend_known}
use Rattle.wire.specs.declared.failure.Failed.{Failed}

-- nothing is held once the end is reached
pub none_held : (room : List ℕ) (at end : ℕ) → at ≡ end → slice_range room at end ≡ []
none_held room at end same = ap (λ n. take n (drop at room)) {y = 0} (omega arith)

-- if nothing is held, the underlying source is read
pub read_through : (room : List ℕ) (at end : ℕ) (old new : Option (List ℕ)) (r : Result ℕ Failed) (buf : List ℕ)
    → at ≡ end → ReadConsumes old new r buf
    → ReadConsumes (prepend_known (slice_range room at end) old) (prepend_known (slice_range room at end) new) r buf
read_through room at end old new r buf same read =
    rw (none_held room at end same, prepend_known-nil old, prepend_known-nil new) read

-- the bytes held are the first n of them, followed by the rest
held_split : (room : List ℕ) (at end n : ℕ) → at + n ≤ end
    → slice_range room at end ≡ take n (slice_range room at end) ++ slice_range room (at + n) end
held_split room at end n fits =
    let m = end - (at + n) in
    let size : end - at ≡ n + m = omega arith in
    ap (λ k. take k (drop at room)) size ∙ take-add n m (drop at room)
    ∙ ap (λ t. t ++ take m (drop n (drop at room))) (sym (take-take n (end - at) (drop at room) (omega arith)))
    ∙ ap (λ t. take n (slice_range room at end) ++ take m t) (drop-drop n at room)

-- n of the bytes held were returned: all that fit
pub read_held : (room : List ℕ) (at end n : ℕ) (buf : List ℕ) (old left : Option (List ℕ)) → at ≤ end
    → end ≤ length room → Keeps old (prepend_known (slice_range room at end) left) → (at ≡ end → IsAtEnd left)
    → n ≡ min (length (slice_range room at end)) (length buf) → take n buf ≡ take n (slice_range room at end)
    → Consumes old (prepend_known (slice_range room (at + n) end) left) (take n buf)
    × (n ≡ 0 → 0 < length buf → IsAtEnd (prepend_known (slice_range room (at + n) end) left))
read_held room at end n buf old left ordered within kept ended count front =
    let held = slice_range room at end in
    let size : length held ≡ end - at = omega (arith, length-take (end - at) (drop at room), length-drop at room) in
    let split : held ≡ take n buf ++ slice_range room (at + n) end =
    held_split room at end n (omega arith) ∙ ap (λ t. t ++ slice_range room (at + n) end) (sym front) in
    let P : Type 0 = (n ≡ 0) × (0 < length buf) in
    let read = prepend_known-read old left held (slice_range room (at + n) end) (take n buf) P
    kept split (λ p. (none_held room (at + n) end (omega arith), ended (omega arith))) in
    (read.0, λ zero some. read.1 (zero, some))
