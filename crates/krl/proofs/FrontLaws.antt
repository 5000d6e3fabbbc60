-- Text that was written at the front of bytes is read back from there.
use Rattle.krl.proofs.Words.{List, Option, Some, [], ap, arith, header_text}
use Rattle.krl.proofs.Words.{KrlHead, eqb, le-ltb, length, length-append, refl, true}
use Rattle.krl.proofs.Words.{u64_text, ℕ, ◌++◌, ◌<◌, ◌^◌, ◌∙◌, ◌∷◌, ◌≡◌}
use Rattle.std.specs.Int.{w64}
use Rattle.std.proofs.lemmas.Bool.{eqb-true}
use Rattle.std.proofs.lemmas.List.{take_at, drop_at}
use Rattle.std.proofs.lemmas.Slice.Eq.{bytes_eq-Decides}
use Rattle.wire.proofs.Laws.{number_again, wide64}
use Rattle.wire.specs.Reading.{u64_at}
use Rattle.krl.specs.Published.{published_header}
use Rattle.krl.specs.Fronts.{◌>>=◌, behind_at, head_at, head_begin, head_end}
use Rattle.krl.proofs.Texts.{header_fields}

-- a step that succeeds, and the steps after it
pub then : {A B : Type 0} (o : Option A) (x : A) (f : A → Option B) (y : Option B) → o ≡ Some x → f x ≡ y
    → (o >>= f) ≡ y
then o x f y is goes = ap (λ p. p >>= f) is ∙ goes

-- the bytes after the front
pub behind_again : (front rest : List ℕ) → behind_at front (front ++ rest) ≡ Some rest
behind_again front rest =
    let size = length front in
    let long = le-ltb (length (front ++ rest)) size (omega (arith, length-append front rest)) in
    let same = (bytes_eq-Decides front front).1 refl in
    rw (long, take_at front rest size refl, drop_at front rest size refl, same) refl

pub u64_again : (n : ℕ) (rest : List ℕ) → n < 2 ^ 64 → u64_at (u64_text n ++ rest) ≡ Some (n, rest)
u64_again n rest lt = number_again w64 (2 ^ 64) wide64 n rest lt

-- a published header in three pieces
pub head_pieces : (h : KrlHead) (rest : List ℕ) → header_text (published_header h) ++ rest
    ≡ head_begin ++ (u64_text h.version ++ (u64_text h.date ++ (head_end ++ rest)))
head_pieces h rest = header_fields (published_header h) rest

pub head_again : (h : KrlHead) (rest : List ℕ) → h.version < 2 ^ 64 → h.date < 2 ^ 64
    → head_at (header_text (published_header h) ++ rest) ≡ Some (h, rest)
unfolding head_at
head_again h rest v d =
    ap head_at (head_pieces h rest)
    ∙ then (behind_at head_begin (head_begin ++ (u64_text h.version ++ (u64_text h.date ++ (head_end ++ rest)))))
    (u64_text h.version ++ (u64_text h.date ++ (head_end ++ rest))) _ _ (behind_again head_begin _)
    (then (u64_at (u64_text h.version ++ (u64_text h.date ++ (head_end ++ rest))))
    (h.version, u64_text h.date ++ (head_end ++ rest)) _ _ (u64_again h.version _ v)
    (then (u64_at (u64_text h.date ++ (head_end ++ rest))) (h.date, head_end ++ rest) _ _ (u64_again h.date _ d)
    (then (behind_at head_end (head_end ++ rest)) rest _ _ (behind_again head_end rest) refl)))

-- a list of bytes with length 0 is empty
pub no_bytes : (xs : List ℕ) → eqb (length xs) 0 ≡ true → xs ≡ []
no_bytes [] e = refl
no_bytes (x ∷ xs) e = absurd (omega (arith, eqb-true (length (x ∷ xs)) 0 e))
