-- Messages as texts: a text is read as the message that it belongs to, and a fault is at the first bad line.
use Rattle.message.proofs.Words.{AllByRecursion, Bool, Err, IsBytes, IsBytes_from, List, Message, Ok, Result, Some, []}
use Rattle.message.proofs.Words.{all_bytes, and_from, and_parts, ap, arith, cond, eqb, false, get_or, inl, inr}
use Rattle.message.proofs.Words.{is_message, join_with_byte, join_with_byte-slice_split, length, length-slice_split}
use Rattle.message.proofs.Words.{line_of, lines_text, list_all, ltb, message_in, message_lines, message_text, ok_of}
use Rattle.message.proofs.Words.{refl, result_ok, slice_split, subst, suc, sym, take, true, zero, ℕ, ◌++◌, ◌-◌, ◌<◌}
use Rattle.message.proofs.Words.{◌∙◌, ◌∷◌, ◌≡◌, ◌≤◌}
use Rattle.std.proofs.Common.{◌↔◌}
use Rattle.std.specs.Prelude.{IsTrue, IfOk, nat_lt}
use Rattle.std.specs.List.{onto_first}
use Rattle.std.proofs.lemmas.Bool.{cases_order}
use Rattle.std.proofs.lemmas.List.{take-take}
use Rattle.std.proofs.lemmas.List.Splits.{slice_split_at}
use Rattle.message.specs.declared.message_fault.MessageFault.{MessageFault}
use Rattle.message.specs.declared.message_fault.MessageFault.TheVariants as fault
use Rattle.message.specs.Belonging.{BelongsTo}
use Rattle.message.specs.Reading.{Gives, pieces, message_at, message_of}
use Rattle.message.specs.Faults.{SharesLines, IsFirstBad}
use Rattle.message.proofs.Lines.{Shares}
use Rattle.message.proofs.Readings.{IsLine, AreBytes, IsReading}
use Rattle.message.proofs.Messages.{messages_read}

-- ---- lines and texts

-- the pieces of the text of lines are the lines, and an empty last piece
pieces_of : (ls : List (List ℕ)) → AllByRecursion IsLine ls → pieces (lines_text ls) ≡ ls ++ [] ∷ []
pieces_of [] h = refl
pieces_of (l ∷ ls) h =
    slice_split_at (λ b. eqb b 10) l 10 (lines_text ls) h.0 refl
    ∙ ap (λ (xs : List (List ℕ)). l ∷ xs) (pieces_of ls h.1)

-- lines and an empty last piece, joined by line feeds, are the text of the lines
join_lines : (ls : List (List ℕ)) → join_with_byte 10 (ls ++ [] ∷ []) ≡ lines_text ls
join_lines [] = refl
join_lines (l ∷ []) = refl
join_lines (l ∷ m ∷ ls) = ap (λ (t : List ℕ). l ++ 10 ∷ t) (join_lines (m ∷ ls))

-- a text whose pieces are these is the text of the lines
text_of : (bytes : List ℕ) (ls : List (List ℕ)) → pieces bytes ≡ ls ++ [] ∷ [] → bytes ≡ lines_text ls
text_of bytes ls e = sym (join_with_byte-slice_split 10 bytes) ∙ ap (join_with_byte 10) e ∙ join_lines ls

-- ---- bytes

abbrev are_bytes : List ℕ → Bool
are_bytes bs = list_all (λ b. nat_lt b 256) bs

bytes_split : (p : ℕ → Bool) (bs : List ℕ) → are_bytes bs ≡ true → list_all are_bytes (slice_split p bs) ≡ true
bytes_split p [] fits = refl
bytes_split p (b ∷ bs) fits =
    let both = and_parts (nat_lt b 256) (are_bytes bs) fits in
    by (p b) (slice_split p bs) both.0 (bytes_split p bs both.1)
  where
    by : (c : Bool) (ps : List (List ℕ)) → nat_lt b 256 ≡ true → list_all are_bytes ps ≡ true
        → list_all are_bytes (cond c ([] ∷ ps) (onto_first b ps)) ≡ true
    by true ps this rest = rest
    by false [] this rest = and_from _ true (and_from (nat_lt b 256) true this refl) refl
    by false (q ∷ ps) this rest =
        let parts = and_parts (are_bytes q) _ rest in
        and_from _ _ (and_from (nat_lt b 256) _ this parts.0) parts.1

bytes_at : (ps : List (List ℕ)) (i : ℕ) → list_all are_bytes ps ≡ true → are_bytes (get_or ps i []) ≡ true
bytes_at [] i fits = refl
bytes_at (p ∷ ps) zero fits = (and_parts (are_bytes p) _ fits).0
bytes_at (p ∷ ps) (suc i) fits = bytes_at ps i (and_parts (are_bytes p) _ fits).1

-- the lines of bytes are bytes
lines_fit : (bytes : List ℕ) → IsBytes bytes → AreBytes (pieces bytes)
lines_fit bytes fits n = IsBytes_from (line_of n (pieces bytes)) (by (ltb n (length (pieces bytes))))
  where
    by : (c : Bool) → are_bytes (cond c (get_or (pieces bytes) (n - 1) []) []) ≡ true
    by true = bytes_at (pieces bytes) (n - 1) (bytes_split (λ b. eqb b 10) bytes (all_bytes bytes fits))
    by false = refl

-- ---- messages

abbrev reads : IsReading 0 message_in (λ m. is_message m ≡ true) message_lines
reads = messages_read

pieces_of_message : (m : Message) → is_message m ≡ true → pieces (message_text m) ≡ message_lines m ++ [] ∷ []
pieces_of_message m is = pieces_of (message_lines m) (reads.are_lines m is)

-- a message that is read is valid, and the bytes are its text
pub message_found : (bytes : List ℕ) (m : Message) → IsBytes bytes → message_at bytes ≡ Ok m → (is_message m ≡ true)
    × (bytes ≡ message_text m)
message_found bytes m fits e =
    let is = reads.found (pieces bytes) m (lines_fit bytes fits) e in
    (is.0, text_of bytes (message_lines m) is.1)

-- the text of a valid message is read as that message
pub message_again : (m : Message) → is_message m ≡ true → message_at (message_text m) ≡ Ok m
message_again m is = reads.again (pieces (message_text m)) m is (pieces_of_message m is)

-- a message is found exactly when it is valid and the bytes are its text
pub found_exactly : (bytes : List ℕ) (m : Message) → IsBytes bytes → (message_of bytes ≡ Some m) ↔ BelongsTo bytes m
found_exactly bytes m fits = (
  λ e. message_found bytes m fits (ok_of (message_at bytes) m e),
  λ belongs. ap message_of belongs.1 ∙ ap result_ok (message_again m belongs.0),
)

-- the result of a function that reads
pub found_from : (bytes : List ℕ) (r : Result Message MessageFault) → IsBytes bytes → Gives r (message_at bytes)
    → IfOk r (λ m. IsTrue (is_message m) × (bytes ≡ message_text m))
found_from bytes (Ok m) fits given = message_found bytes m fits given
found_from bytes (Err e) fits given = tt

pub only_from : (bytes : List ℕ) (r : Result Message MessageFault) (m : Message) → IsTrue (is_message m) → bytes
    ≡ message_text m
    → Gives r (message_at bytes) → Gives r (Ok m)
only_from bytes r m is text given = subst (Gives r) (ap message_at text ∙ message_again m is) given

-- a text belongs to at most one message
pub one_message : (a b : Message) → IsTrue (is_message a) → IsTrue (is_message b) → message_text a ≡ message_text b
    → a ≡ b
one_message a b is_a is_b same =
    let e : ◌≡◌ {A = Result Message ℕ} (Ok a) (Ok b) =
    sym (message_again a is_a) ∙ ap message_at same ∙ message_again b is_b in
    cc

-- ---- the first line that fits no message

some_pieces : (bytes : List ℕ) → 0 < length (pieces bytes)
some_pieces bytes = omega (arith, length-slice_split (λ b. eqb b 10) bytes)

-- the line that is reported is the first bad one
pub first_bad : (bytes : List ℕ) (n : ℕ) → IsBytes bytes → message_at bytes ≡ Err n → IsFirstBad bytes n
first_bad bytes n fits e =
    let first = reads.fault (pieces bytes) n (lines_fit bytes fits) (some_pieces bytes) e in
    let j = first.count in
    let at : n ≡ suc j = omega (arith, first.at) in
    let m = first.some.0 in
    let before : n - 1 ≡ j = omega arith in
    record {
      counted = omega arith;
      lawless = λ a is text.
          let other : ◌≡◌ {A = Result Message ℕ} (Err n) (Ok a) = sym e ∙ ap message_at text ∙ message_again a is in
          absurd cc;
      some = (
        m,
        (
          first.some.1,
          subst (λ (k : ℕ). SharesLines k bytes (message_text m)) (sym before)
              (subst (Shares j (pieces bytes)) (sym (pieces_of_message m first.some.1)) first.some.2),
        ),
      );
      none = λ a is shared. first.none a is
          (subst (Shares (suc j) (pieces bytes)) (pieces_of_message a is)
          (subst (λ (k : ℕ). SharesLines k bytes (message_text a)) at shared));
    }

-- texts that share lines also share fewer lines
fewer : (j n : ℕ) (a b : List ℕ) → j ≤ n → SharesLines n a b → SharesLines j a b
fewer j n a b le s = (
  omega (arith, s.0),
  omega (arith, s.1),
  sym (take-take j n (pieces a) le) ∙ ap (take j) s.2 ∙ take-take j n (pieces b) le,
)

-- there is only one first bad line
one_first : (bytes : List ℕ) (i n : ℕ) → IsFirstBad bytes i → IsFirstBad bytes n → i < n → ⊥
one_first bytes i n first then less =
    let some = then.some in
    let le : i ≤ n - 1 = omega arith in
    first.none some.0 some.1.0 (fewer i (n - 1) bytes (message_text some.0) le some.1.1)

-- the first bad line is reported
pub bad_answered : (bytes : List ℕ) (n : ℕ) → IsBytes bytes → IsFirstBad bytes n → message_at bytes ≡ Err n
bad_answered bytes n fits bad = by (message_at bytes) refl
  where
    by : (r : Result Message ℕ) → message_at bytes ≡ r → r ≡ Err n
    by (Ok m) e = let is = message_found bytes m fits e in absurd (bad.lawless m is.0 is.1)
    by (Err i) e = at i (first_bad bytes i fits e)
      where
        at : (i : ℕ) → IsFirstBad bytes i → ◌≡◌ {A = Result Message ℕ} (Err i) (Err n)
        at i first = elim (cases_order i n) [
          | inl same ↦ ap (λ (k : ℕ). Err k) same
          | inr other ↦ elim other [
            | inl less ↦ absurd (one_first bytes i n first bad less)
            | inr more ↦ absurd (one_first bytes n i bad first more)
          ]
        ]

-- a line is reported exactly when it is the first bad one
pub bad_exactly : (bytes : List ℕ) (n : ℕ) → IsBytes bytes → (message_at bytes ≡ Err n) ↔ IsFirstBad bytes n
bad_exactly bytes n fits = ((λ e. first_bad bytes n fits e), λ bad. bad_answered bytes n fits bad)

-- the line that a reading function reports
pub fault_from : (bytes : List ℕ) (r : Result Message MessageFault) (n : ℕ) → IsBytes bytes → r
    ≡ Err (fault.BadLine n) → Gives r (message_at bytes) → IsFirstBad bytes n
fault_from bytes r n fits is given =
    first_bad bytes n fits (subst (λ (r : Result Message MessageFault). Gives r (message_at bytes)) is given)

pub answered_from : (bytes : List ℕ) (r : Result Message MessageFault) (n : ℕ) → IsBytes bytes → IsFirstBad bytes n
    → Gives r (message_at bytes) → Gives r (Err n)
answered_from bytes r n fits bad given = subst (Gives r) (bad_answered bytes n fits bad) given
