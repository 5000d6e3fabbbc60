-- Bytes that a writer takes, or a reader gives, in successive calls.
use Rattle.std.proofs.Common.{◌≡◌, ℕ, ◌+◌, ◌≤◌, List, ◌++◌, length, take}
use Rattle.std.proofs.Common.{drop, sym, ap, ◌∙◌, append_assoc, Option, subst}
use Rattle.std.proofs.Math.Seq.{take-add, take-append-add, take-append_seam}
use Rattle.std.proofs.lemmas.List.{length-take-le, take-take, take-append-drop}
use Rattle.std.specs.Io.KnownBytes.{Appends, Consumes}
use Rattle.std.proofs.KnownBytes.{Appends-trans, Consumes-trans}
use Rattle.wire.specs.Streams.{AppendsBeginning}

-- a piece that was taken, and then a prefix of the next
pub begins_after : (old mid new : Option (List ℕ)) (a b : List ℕ) → Appends old mid a
    → AppendsBeginning mid new b → AppendsBeginning old new (a ++ b)
begins_after old mid new a b x y =
    let P : List ℕ → Type 0 = Appends old new in
    record {
      count = length a + y.count;
      grown = subst P (sym (take-append-add a b y.count)) (Appends-trans old mid new a (take y.count b) x y.grown);
    }

-- a prefix of a piece is a prefix of any longer piece that starts with it
pub begins_longer : (old new : Option (List ℕ)) (a b : List ℕ) → AppendsBeginning old new a
    → AppendsBeginning old new (a ++ b)
begins_longer old new a b x =
    let P : List ℕ → Type 0 = Appends old new in
    record {
      count = length (take x.count a);
      grown = subst P (beginning x.count a b) x.grown;
    }
  where
    beginning : (n : ℕ) (xs ys : List ℕ) → take n xs ≡ take (length (take n xs)) (xs ++ ys)
    beginning n xs ys =
        sym (take-append_seam (take n xs) (drop n xs ++ ys))
        ∙ ap (take (length (take n xs))) (sym (append_assoc (take n xs) (drop n xs) ys))
        ∙ ap (λ t. take (length (take n xs)) (t ++ ys)) (take-append-drop n xs)

-- `at` bytes, followed by n of the rest, are `at + n` bytes
pub piece_more : (at n k : ℕ) (xs : List ℕ) → at ≤ length xs → n ≤ k
    → take (at + n) xs ≡ take at xs ++ take n (take k (drop at xs))
piece_more at n k xs within most =
    let size = length-take-le at xs within in
    ap (take (at + n)) (sym (take-append-drop at xs)) ∙ ap (λ m. take (m + n) (take at xs ++ drop at xs)) (sym size)
    ∙ take-append-add (take at xs) (drop at xs) n ∙ ap (λ t. take at xs ++ t) (sym (take-take n k (drop at xs) most))

-- the first `at` bytes of a buffer were read, and then n bytes after them
pub given_more : (old mid new : Option (List ℕ)) (xs ys : List ℕ) (at n : ℕ) → take at ys ≡ take at xs
    → Consumes old mid (take at xs) → Consumes mid new (take n (drop at ys)) → Consumes old new (take (at + n) ys)
given_more old mid new xs ys at n kept first second =
    let joined : take (at + n) ys ≡ take at xs ++ take n (drop at ys) =
    take-add at n ys ∙ ap (λ l. l ++ take n (drop at ys)) kept in
    subst (Consumes old new) (sym joined) (Consumes-trans old mid new (take at xs) _ first second)
