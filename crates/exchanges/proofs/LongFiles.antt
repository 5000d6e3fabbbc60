-- The length of a file of exchanges, and what the first bytes of a longer file show.
use Rattle.std.proofs.Common.{◌≡◌, ℕ, ◌+◌, ◌-◌, ◌*◌, ◌<◌, ◌≤◌, List, [], ◌∷◌, ◌++◌, length, take, drop, sym, ap, subst, ◌∙◌, refl, zero, suc, arith, inl, inr, append_assoc, length-append}
use Rattle.std.specs.Fmt.{decimal}
use Rattle.std.specs.List.{AllByRecursion}
use Rattle.std.proofs.Math.Seq.{take-append-add, take-append_seam}
use Rattle.std.proofs.lemmas.Bool.{cases_lt}
use Rattle.std.proofs.lemmas.Fmt.{length-decimal-le}
use Rattle.std.proofs.lemmas.List.{length-take-le, take-append-drop, take-append-le, take_all}
use Rattle.hex.specs.Hex.{encode_lower}
use Rattle.hex.proofs.HexLemmas.{length-encode_with}
use Rattle.web.specs.declared.exchange.Exchange.{Exchange}
use Rattle.exchanges.specs.declared.exchange_reader.TheConstants.{MAX_EXCHANGES, MAX_FILE}
use Rattle.exchanges.specs.Exchanges.{AreExchanges, IsBadRecord, IsExchange, TellsOf, exchange_text, exchanges_text}

-- ---- lengths

-- a record is at most 101 bytes longer than its request
record_length : (e : Exchange) → IsExchange e → length (exchange_text e) ≤ 65637
record_length e is =
    let last : List ℕ = 10 ∷ e.request in
    let size : List ℕ = decimal (length e.request) in
    let rest : List ℕ = 32 ∷ (size ++ last) in
    let moment = length-decimal-le 20 e.moment (omega arith) (omega (arith, is.moment)) is.moment in
    let digits = length-decimal-le 5 (length e.request) (omega arith) (omega (arith, is.size)) (omega (arith, is.size)) in
    let nonce : length (encode_lower e.nonce) ≡ 2 * length e.nonce = length-encode_with _ e.nonce in
    omega (
      arith,
      moment,
      digits,
      nonce,
      is.nonce,
      is.size,
      length-append (decimal e.moment) (32 ∷ (encode_lower e.nonce ++ rest)),
      length-append (encode_lower e.nonce) rest,
      length-append size last,
    )

records_length : (es : List Exchange) → AllByRecursion IsExchange es → length (exchanges_text es) ≤ length es * 65637
records_length [] are = omega arith
records_length (e ∷ es) are =
    let first = record_length e are.0 in
    let others = records_length es are.1 in
    omega (arith, first, others, length-append (exchange_text e) (exchanges_text es))

-- no exchange file is longer than MAX_FILE
file_length : (es : List Exchange) → AreExchanges es → length (exchanges_text es) ≤ MAX_FILE
file_length es are = omega (arith, records_length es are.each, are.count)

-- ---- the first bytes

-- if a list has at least as many bytes as t, and with another list after it begins with t, then it begins with t
begins : (a b t rest : List ℕ) → a ++ b ≡ t ++ rest → length t ≤ length a → (c : List ℕ) × (a ≡ t ++ c)
begins a b t rest same short =
    let front : take (length t) a ≡ t =
    sym (take-append-le (length t) a b short) ∙ ap (take (length t)) same ∙ take-append_seam t rest in (
      drop (length t) a,
      sym (take-append-drop (length t) a) ∙ ap (λ (x : List ℕ). x ++ drop (length t) a) front,
    )

none_before : (a b : List ℕ) → a ++ b ≡ [] → a ≡ []
none_before [] b none = refl
none_before (x ∷ a) b none = absurd (cc none)

none_taken : (n : ℕ) (t : List ℕ) → 0 < n → take n t ≡ [] → t ≡ []
none_taken zero t some none = absurd (omega (arith, some))
none_taken (suc n) [] some none = refl
none_taken (suc n) (b ∷ t) some none = absurd (cc none)

abbrev first : List ℕ → List ℕ
first file = take (MAX_FILE + 1) file

-- if a file is no longer than that, its first bytes are all of it
all : (file : List ℕ) → length file ≤ MAX_FILE + 1 → first file ≡ file
all file short = take_all (MAX_FILE + 1) file short

-- the number of first bytes of a longer file
all_first : (file : List ℕ) → MAX_FILE + 1 ≤ length file → length (first file) ≡ MAX_FILE + 1
all_first file long = length-take-le (MAX_FILE + 1) file long

is_file : (file : List ℕ) (es : List Exchange) → AreExchanges es → first file ≡ exchanges_text es → file ≡ exchanges_text es
is_file file es are same = elim (cases_lt (length file) (MAX_FILE + 1)) [
  | inl short ↦ sym (all file (omega (arith, short))) ∙ same
  | inr long ↦ absurd (omega (arith, file_length es are, all_first file long, ap length same))
]

is_first : (file : List ℕ) (es : List Exchange) → AreExchanges es → file ≡ exchanges_text es → first file ≡ exchanges_text es
is_first file es are same = all file (omega (arith, file_length es are, ap length same)) ∙ same

-- a bad record of the first bytes is a bad record of the file
bad_of_file : (file : List ℕ) (k : ℕ) → IsBadRecord (first file) k → IsBadRecord file k
bad_of_file file k bad = elim (cases_lt (length file) (MAX_FILE + 1)) [
  | inl short ↦ subst (λ (f : List ℕ). IsBadRecord f k) (all file (omega (arith, short))) bad
  | inr long ↦
      let left = drop (MAX_FILE + 1) file in
      record {
        before = bad.before;
        rest = bad.rest ++ left;
        are = bad.are;
        text = sym (take-append-drop (MAX_FILE + 1) file) ∙ ap (λ (x : List ℕ). x ++ left) bad.text
            ∙ append_assoc (exchanges_text bad.before) bad.rest left;
        number = bad.number;
        more = λ none. bad.more (none_before bad.rest left none);
        first = λ within e after is same.
            let enough : length (exchange_text e) ≤ length bad.rest = omega (
              arith,
              within,
              bad.number,
              record_length e is,
              records_length bad.before bad.are.each,
              all_first file long,
              ap length bad.text,
              length-append (exchanges_text bad.before) bad.rest,
            ) in
            let begun = begins bad.rest left (exchange_text e) after same enough in
            bad.first within e begun.0 is begun.1;
      }
]

-- a bad record of the file is a bad record of the first bytes
bad_of_first : (file : List ℕ) (k : ℕ) → IsBadRecord file k → IsBadRecord (first file) k
bad_of_first file k bad =
    let before : List ℕ = exchanges_text bad.before in
    let room : ℕ = MAX_FILE + 1 - length before in
    let short = file_length bad.before bad.are in
    let sum : MAX_FILE + 1 ≡ length before + room = omega (arith, short) in
    record {
      before = bad.before;
      rest = take room bad.rest;
      are = bad.are;
      text = ap first bad.text ∙ ap (λ (n : ℕ). take n (before ++ bad.rest)) sum
          ∙ take-append-add before bad.rest room;
      number = bad.number;
      more = λ none. bad.more (none_taken room bad.rest (omega (arith, short)) none);
      first = λ within e after is same. bad.first within e (after ++ drop room bad.rest) is
          (sym (take-append-drop room bad.rest) ∙ ap (λ (x : List ℕ). x ++ drop room bad.rest) same
          ∙ append_assoc (exchange_text e) after (drop room bad.rest));
    }

pub first_tells : (file : List ℕ) → TellsOf file (first file)
first_tells file = record {
  exchanges = λ es are. (is_file file es are, is_first file es are);
  bad = λ k. (bad_of_file file k, bad_of_first file k);
}
