-- The text of a record is read as that record, and what is read as a record is its text.
use Rattle.std.proofs.Common.{◌≡◌, ℕ, ◌*◌, ◌<◌, ◌≤◌, ◌^◌, List, ◌∷◌, ◌++◌, length, take, drop, codes, Bool, eqb, Option, Some, None, refl, sym, ap, subst, ◌∙◌, arith, inl, inr, append_assoc, length-append, ◌&&◌, leb}
use Rattle.std.specs.Prelude.{IfSome, Result, Ok, Err, option_map}
use Rattle.std.specs.Fmt.{decimal}
use Rattle.std.specs.List.{before_first, after_first, position_or_len}
use Rattle.std.specs.Option.{option_and_then}
use Rattle.std.specs.Result.{result_ok}
use Rattle.std.specs.Str.{bytes_eq}
use Rattle.std.proofs.lemmas.Bool.{and_parts, and_from, both_ways, cases_Bool, cases_lt, cond-true, cond-false, eqb-true, leb-true, le-leb, le-ltb, lt-ltb, ne_eqb}
use Rattle.std.proofs.lemmas.List.{drop_at, length-take-le, take-append-drop, take_all, take_at}
use Rattle.std.proofs.lemmas.List.Sums.{passes_at_first, split_at_first}
use Rattle.std.proofs.lemmas.Option.{option_and_then_some, same_Some}
use Rattle.std.proofs.lemmas.Slice.Eq.{bytes_eq-Decides}
use Rattle.hex.specs.Hex.{IsBytes, decode_sized, encode_lower, is_hex_digit}
use Rattle.hex.specs.declared.error.FromHexError.{FromHexError}
use Rattle.hex.proofs.HexLemmas.{decode_of-encode_lower, decode_of-ok, decode_sized-encode_lower, decode_sized-ok, decode_sized-twice}
use Rattle.values.specs.Decimals.{is_number_below, number_of}
use Rattle.values.proofs.DecimalLemmas.{number_found, number_of-decimal, value_below}
use Rattle.values.proofs.Lacking.{Lacks, after_first-append, before_first-append, decimal_lacks}
use Rattle.web.specs.declared.exchange.Exchange.{Exchange}
use Rattle.exchanges.specs.declared.exchange_reader.TheConstants.{MAX_REQUEST}
use Rattle.exchanges.specs.Exchanges.{IsExchange, exchange_text}
use Rattle.exchanges.specs.Reading.{rest_after, cut_of, exchange_at, if_lower, nonce_of, number_up_to, request_in}

abbrev Cut : Type 0
Cut = List ℕ × List ℕ

-- ---- bytes after a prefix

after_found : (head t rest : List ℕ) → rest_after head t ≡ Some rest → t ≡ head ++ rest
after_found head t rest e =
    let n : ℕ = length head in
    elim (cases_Bool (bytes_eq (take n t) head)) [
      | inl passed ↦
          let begins : take n t ≡ head = (bytes_eq-Decides _ _).0 passed in
          let is : drop n t ≡ rest = same_Some _ _ (sym (cond-true _ (Some (drop n t)) None passed) ∙ e) in
          sym (take-append-drop n t) ∙ ap (λ (h : List ℕ). h ++ drop n t) begins ∙ ap (λ (r : List ℕ). head ++ r) is
      | inr failed ↦ absurd (cc (sym (cond-false _ (Some (drop n t)) None failed) ∙ e))
    ]

-- ---- texts cut at a byte

-- if the byte occurs, the text is the bytes before it, the byte, and the bytes after it
split_there : (byte : ℕ) (t : List ℕ) → length (before_first (λ b. eqb b byte) t) < length t
    → t ≡ before_first (λ b. eqb b byte) t ++ byte ∷ after_first (λ b. eqb b byte) t
split_there byte t short =
    let is : ℕ → Bool = λ b. eqb b byte in
    let place : ℕ = position_or_len is t in
    elim (cases_lt place (length t)) [
      | inl inside ↦
          let here = eqb-true _ byte (passes_at_first is t 0 inside) in
          split_at_first is t 0 inside ∙ ap (λ (b : ℕ). before_first is t ++ b ∷ after_first is t) here
      | inr past ↦
          let whole : before_first is t ≡ t = take_all place t past in
          absurd (omega (arith, ap length whole))
    ]

cut_found : (byte : ℕ) (t : List ℕ) (p : Cut) → cut_of byte t ≡ Some p → t ≡ p.0 ++ byte ∷ p.1
cut_found byte t p e =
    let front : List ℕ = before_first (λ b. eqb b byte) t in
    let back : List ℕ = after_first (λ b. eqb b byte) t in
    let pair : Cut = (front, back) in
    elim (cases_lt (length front) (length t)) [
      | inl short ↦
          let same : pair ≡ p = same_Some _ _ (sym (cond-true _ (Some pair) None (lt-ltb _ _ short)) ∙ e) in
          split_there byte t short ∙ ap (λ (q : Cut). q.0 ++ byte ∷ q.1) same
      | inr long ↦ absurd (cc (sym (cond-false _ (Some pair) None (le-ltb _ _ long)) ∙ e))
    ]

cut_again : (byte : ℕ) (word rest : List ℕ) → Lacks byte word → cut_of byte (word ++ byte ∷ rest) ≡ Some (word, rest)
cut_again byte word rest lacks =
    let t : List ℕ = word ++ byte ∷ rest in
    let front : before_first (λ b. eqb b byte) t ≡ word = before_first-append byte word rest lacks in
    let back : after_first (λ b. eqb b byte) t ≡ rest = after_first-append byte word rest lacks in
    let short : length (before_first (λ b. eqb b byte) t) < length t =
    omega (arith, ap length front, length-append word (byte ∷ rest)) in
    let found : Option Cut = Some (before_first (λ b. eqb b byte) t, after_first (λ b. eqb b byte) t) in
    cond-true _ found None (lt-ltb _ _ short)
    ∙ ap (λ (w : List ℕ). let q : Option Cut = Some (w, after_first (λ b. eqb b byte) t) in q) front
    ∙ ap (λ (r : List ℕ). let q : Option Cut = Some (word, r) in q) back

-- ---- numbers

-- the text of a number that was read is its decimal digits, and the number fits in 64 bits
number_is : (t : List ℕ) (n : ℕ) → number_of t ≡ Some n → (t ≡ decimal n) × (n < 2 ^ 64)
number_is t n e = (
  subst (λ (r : Option ℕ). IfSome r (λ m. t ≡ decimal m)) e (number_found t (number_of t) refl),
  elim (cases_Bool (is_number_below (2 ^ 64) t)) [
    | inl passed ↦
        let same = same_Some _ _ (sym (cond-true _ _ None passed) ∙ e) in
        let P : ℕ → Type 0 = λ m. m < 2 ^ 64 in
        subst P same (value_below (2 ^ 64) t passed)
    | inr failed ↦ absurd (cc (sym (cond-false _ _ None failed) ∙ e))
  ],
)

abbrev Counted : Type 0
Counted = ℕ × List ℕ

mapped : (rest : List ℕ) (o : Option ℕ) (p : Counted) → option_map (λ (n : ℕ). let q : Counted = (n, rest) in q) o ≡ Some p
    → (o ≡ Some p.0) × (rest ≡ p.1)
mapped rest None p e = absurd cc
mapped rest (Some n) p e =
    let same : (let q : Counted = (n, rest) in q) ≡ p = same_Some _ _ e in
    (ap (λ (q : Counted). Some q.0) same, ap (λ (q : Counted). q.1) same)

number_up_to_found : (byte : ℕ) (t : List ℕ) (p : Counted) → number_up_to byte t ≡ Some p
    → (t ≡ decimal p.0 ++ byte ∷ p.1) × (p.0 < 2 ^ 64)
number_up_to_found byte t p e =
    option_and_then_some _ (cut_of byte t) p e (λ c cut kept.
    let parts = mapped c.1 (number_of c.0) p kept in
    let number = number_is c.0 p.0 parts.0 in (
      cut_found byte t c cut ∙ ap (λ (w : List ℕ). w ++ byte ∷ c.1) number.0
          ∙ ap (λ (r : List ℕ). decimal p.0 ++ byte ∷ r) parts.1,
      number.1,
    ))

-- one step of reading
step : {A B : Type 0} (o : Option A) (x : A) (f : A → Option B) (r : Option B) → o ≡ Some x → f x ≡ r
    → option_and_then f o ≡ r
step {A} {B} o x f r e h = ap (option_and_then f) e ∙ h

number_up_to_again : (byte n : ℕ) (rest : List ℕ) → n < 2 ^ 64 → Lacks byte (decimal n)
    → number_up_to byte (decimal n ++ byte ∷ rest) ≡ Some (n, rest)
number_up_to_again byte n rest small lacks =
    step (cut_of byte (decimal n ++ byte ∷ rest)) (decimal n, rest) _ _ (cut_again byte (decimal n) rest lacks)
    (ap (option_map (λ (m : ℕ). let q : Counted = (m, rest) in q)) (number_of-decimal n small))

-- ---- nonces

ok_is : (r : Result (List ℕ) FromHexError) (b : List ℕ) → result_ok r ≡ Some b → r ≡ Ok b
ok_is (Ok x) b e = cc
ok_is (Err x) b e = absurd cc

nonce_found : (t n : List ℕ) → nonce_of t ≡ Some n → (t ≡ encode_lower n) × (length n ≡ 32) × IsBytes n
nonce_found t n e =
    option_and_then_some (if_lower t) (result_ok (decode_sized t 32)) n e (λ b decoded kept.
    elim (cases_Bool (bytes_eq (encode_lower b) t)) [
      | inl passed ↦
          let same : b ≡ n = same_Some _ _ (sym (cond-true _ (Some b) None passed) ∙ kept) in
          let read : decode_sized t 32 ≡ Ok b = ok_is _ b decoded in
          let long : length t ≡ 2 * 32 = decode_sized-ok t 32 b read in
          let is = decode_of-ok t b (sym (decode_sized-twice t 32 long) ∙ read) in
          let size : length b ≡ 32 = omega (arith, is.2) in
          subst (λ (x : List ℕ). (t ≡ encode_lower x) × (length x ≡ 32) × IsBytes x) same
          (sym ((bytes_eq-Decides _ _).0 passed), size, is.3)
      | inr failed ↦ absurd (cc (sym (cond-false _ (Some b) None failed) ∙ kept))
    ])

nonce_again : (n : List ℕ) → length n ≡ 32 → IsBytes n → nonce_of (encode_lower n) ≡ Some n
nonce_again n size fits =
    step (result_ok (decode_sized (encode_lower n) 32)) n (if_lower (encode_lower n)) (Some n)
    (ap result_ok (decode_sized-encode_lower n 32 size fits))
    (cond-true (bytes_eq (encode_lower n) (encode_lower n)) (Some n) None ((bytes_eq-Decides (encode_lower n) (encode_lower n)).1 refl))

-- a nonce's digits contain no space
digits_lack : (n : List ℕ) → IsBytes n → Lacks 32 (encode_lower n)
digits_lack n fits =
    let digits = (decode_of-ok (encode_lower n) n (decode_of-encode_lower n fits)).1 in
    λ k d inside. ne_eqb _ 32 (λ same. both_ways _ (ap is_hex_digit same) (digits k d inside))

-- ---- requests

request_found : (size : ℕ) (t : List ℕ) (p : Cut) → request_in size t ≡ Some p
    → (t ≡ p.0 ++ p.1) × (length p.0 ≡ size) × (size ≤ MAX_REQUEST)
request_found size t p e =
    let pair : Cut = (take size t, drop size t) in
    elim (cases_Bool (leb size MAX_REQUEST && leb size (length t))) [
      | inl passed ↦
          let both = and_parts _ _ passed in
          let same : pair ≡ p = same_Some _ _ (sym (cond-true _ (Some pair) None passed) ∙ e) in
          let inside : size ≤ length t = leb-true _ _ both.1 in
          subst (λ (q : Cut). (t ≡ q.0 ++ q.1) × (length q.0 ≡ size) × (size ≤ MAX_REQUEST)) same
          (sym (take-append-drop size t), length-take-le size t inside, leb-true _ _ both.0)
      | inr failed ↦ absurd (cc (sym (cond-false _ (Some pair) None failed) ∙ e))
    ]

request_again : (request rest : List ℕ) → length request ≤ MAX_REQUEST
    → request_in (length request) (request ++ rest) ≡ Some (request, rest)
request_again request rest small =
    let n : ℕ = length request in
    let t : List ℕ = request ++ rest in
    let inside : n ≤ length t = omega (arith, length-append request rest) in
    let found : Option Cut = Some (take n t, drop n t) in
    cond-true (leb n MAX_REQUEST && leb n (length t)) found None (and_from _ _ (le-leb _ _ small) (le-leb _ _ inside))
    ∙ ap (λ (x : List ℕ). let q : Option Cut = Some (x, drop n t) in q) (take_at request rest n refl)
    ∙ ap (λ (x : List ℕ). let q : Option Cut = Some (request, x) in q) (drop_at request rest n refl)

-- ---- records

-- what follows the first word of a record, up to the end of the text
abbrev words_before : Exchange → List ℕ → List ℕ
words_before e rest =
    decimal e.moment ++ 32 ∷ (encode_lower e.nonce ++ 32 ∷ (decimal (length e.request) ++ 10 ∷ (e.request ++ rest)))

-- a record's text and the bytes after it, split into words
regrouped : (e : Exchange) (rest : List ℕ) → exchange_text e ++ rest ≡ codes "exchange " ++ words_before e rest
regrouped e rest = simp append_assoc

abbrev Left : Type 0
Left = Exchange × List ℕ

-- the steps of reading a record, each given what was read before it
abbrev with_request : ℕ → List ℕ → Cut → Option Left
with_request moment nonce request = Some (record { request = request.0; moment = moment; nonce = nonce }, request.1)

abbrev with_size : ℕ → List ℕ → Counted → Option Left
with_size moment nonce size = option_and_then (with_request moment nonce) (request_in size.0 size.1)

abbrev with_nonce : ℕ → List ℕ → List ℕ → Option Left
with_nonce moment rest nonce = option_and_then (with_size moment nonce) (number_up_to 10 rest)

abbrev with_digits : ℕ → Cut → Option Left
with_digits moment digits = option_and_then (with_nonce moment digits.1) (nonce_of digits.0)

abbrev with_moment : Counted → Option Left
with_moment moment = option_and_then (with_digits moment.0) (cut_of 32 moment.1)

abbrev with_words : List ℕ → Option Left
with_words words = option_and_then with_moment (number_up_to 32 words)

read_words_before : (e : Exchange) (rest : List ℕ) → IsExchange e
    → exchange_at (codes "exchange " ++ words_before e rest) ≡ Some (e, rest)
unfolding exchange_at
read_words_before e rest is =
    let sized : List ℕ = decimal (length e.request) ++ 10 ∷ (e.request ++ rest) in
    let small : length e.request < 2 ^ 64 = omega (arith, is.size) in
    step (rest_after (codes "exchange ") (codes "exchange " ++ words_before e rest)) (words_before e rest) with_words _ refl
    (step (number_up_to 32 (words_before e rest)) (e.moment, encode_lower e.nonce ++ 32 ∷ sized) with_moment _
    (number_up_to_again 32 e.moment _ is.moment (decimal_lacks 32 e.moment refl is.moment))
    (step (cut_of 32 (encode_lower e.nonce ++ 32 ∷ sized)) (encode_lower e.nonce, sized) (with_digits e.moment) _
    (cut_again 32 (encode_lower e.nonce) sized (digits_lack e.nonce is.bytes))
    (step (nonce_of (encode_lower e.nonce)) e.nonce (with_nonce e.moment sized) _ (nonce_again e.nonce is.nonce is.bytes)
    (step (number_up_to 10 sized) (length e.request, e.request ++ rest) (with_size e.moment e.nonce) _
    (number_up_to_again 10 (length e.request) _ small (decimal_lacks 10 (length e.request) refl small))
    (step (request_in (length e.request) (e.request ++ rest)) (e.request, rest) (with_request e.moment e.nonce) _
    (request_again e.request rest is.size) refl)))))

-- Reading a record's text leaves the bytes after it.
pub exchange_at-text : (e : Exchange) (rest : List ℕ) → IsExchange e → exchange_at (exchange_text e ++ rest) ≡ Some (e, rest)
exchange_at-text e rest is = ap exchange_at (regrouped e rest) ∙ read_words_before e rest is

-- An exchange that was read is valid, and the text begins with its record.
pub exchange_at-found : (t : List ℕ) (p : Left) → exchange_at t ≡ Some p → (t ≡ exchange_text p.0 ++ p.1) × IsExchange p.0
unfolding exchange_at
exchange_at-found t p e =
    option_and_then_some _ (rest_after (codes "exchange ") t) p e (λ words begun e1.
    option_and_then_some _ (number_up_to 32 words) p e1 (λ moment first e2.
    option_and_then_some _ (cut_of 32 moment.1) p e2 (λ digits second e3.
    option_and_then_some _ (nonce_of digits.0) p e3 (λ nonce third e4.
    option_and_then_some _ (number_up_to 10 digits.1) p e4 (λ size fourth e5.
    option_and_then_some _ (request_in size.0 size.1) p e5 (λ request fifth kept.
    let it : Exchange = record { request = request.0; moment = moment.0; nonce = nonce } in
    let same : (let q : Left = (it, request.1) in q) ≡ p = same_Some _ _ kept in
    let word = after_found (codes "exchange ") t words begun in
    let moment_is = number_up_to_found 32 words moment first in
    let digits_are = cut_found 32 moment.1 digits second in
    let nonce_is = nonce_found digits.0 nonce third in
    let size_is = number_up_to_found 10 digits.1 size fourth in
    let request_is = request_found size.0 size.1 request fifth in
    let tail : digits.1 ≡ decimal (length request.0) ++ 10 ∷ (request.0 ++ request.1) =
    size_is.0 ∙ ap (λ (r : List ℕ). decimal size.0 ++ 10 ∷ r) request_is.0
    ∙ ap (λ (n : ℕ). decimal n ++ 10 ∷ (request.0 ++ request.1)) (sym request_is.1) in
    let middle : moment.1 ≡ encode_lower nonce ++ 32 ∷ digits.1 =
    digits_are ∙ ap (λ (d : List ℕ). d ++ 32 ∷ digits.1) nonce_is.0 in
    let whole : t ≡ codes "exchange " ++ words_before it request.1 =
    word ∙ ap (λ (w : List ℕ). codes "exchange " ++ w) (moment_is.0
    ∙ ap (λ (r : List ℕ). decimal moment.0 ++ 32 ∷ r) (middle
    ∙ ap (λ (r : List ℕ). encode_lower nonce ++ 32 ∷ r) tail)) in
    let lawful : IsExchange it = record {
      moment = moment_is.1;
      nonce = nonce_is.1;
      bytes = nonce_is.2;
      size = subst (λ (n : ℕ). n ≤ MAX_REQUEST) (sym request_is.1) request_is.2;
    } in
    subst (λ (q : Left). (t ≡ exchange_text q.0 ++ q.1) × IsExchange q.0) same (whole ∙ sym (regrouped it request.1), lawful)))))))
