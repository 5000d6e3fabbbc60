-- Records in succession: a file has at most one reading.
use Rattle.std.proofs.Common.{◌≡◌, ◌≢◌, ℕ, ◌+◌, ◌<◌, ◌≤◌, List, [], ◌∷◌, ◌++◌, length, Some, None, refl, sym, ap, ◌∙◌, arith, append_assoc, length-append}
use Rattle.std.specs.List.{AllByRecursion}
use Rattle.std.proofs.lemmas.Grind.{flat_map-append}
use Rattle.std.proofs.lemmas.List.{append-nil}
use Rattle.std.proofs.lemmas.Option.{same_Some}
use Rattle.web.specs.declared.exchange.Exchange.{Exchange}
use Rattle.exchanges.specs.declared.exchange_reader.TheConstants.{MAX_EXCHANGES}
use Rattle.exchanges.specs.Exchanges.{AreExchanges, IsBadRecord, IsExchange, exchange_text, exchanges_text}
use Rattle.exchanges.specs.Reading.{exchange_at}
use Rattle.exchanges.proofs.Records.{exchange_at-found, exchange_at-text}

abbrev Left : Type 0
Left = Exchange × List ℕ

-- at least one byte
abbrev IsMore : List ℕ → Type 0
IsMore rest = 0 < length rest

-- fs is es and then more exchanges, whose text is the rest
record Goes (es fs : List Exchange) (rest : List ℕ) : Type 0 where
  more : List Exchange
  all : fs ≡ es ++ more
  text : rest ≡ exchanges_text more
  are : AllByRecursion IsExchange more

-- a record's text isn't empty
not_empty : (e : Exchange) (t : List ℕ) → exchange_text e ++ t ≡ [] → ⊥
not_empty e t same = cc same

-- if a file is the text of exchanges, the records at its beginning are the first of these
goes_on : (es fs : List Exchange) (rest : List ℕ) → AllByRecursion IsExchange es → AllByRecursion IsExchange fs
    → exchanges_text es ++ rest ≡ exchanges_text fs → Goes es fs rest
goes_on [] fs rest are_es are_fs same = record { more = fs; all = refl; text = same; are = are_fs }
goes_on (e ∷ es) [] rest are_es are_fs same =
    absurd (not_empty e (exchanges_text es ++ rest) (sym (append_assoc (exchange_text e) (exchanges_text es) rest) ∙ same))
goes_on (e ∷ es) (f ∷ fs) rest are_es are_fs same =
    let left : exchange_at (exchange_text e ++ (exchanges_text es ++ rest)) ≡ Some (e, exchanges_text es ++ rest) =
    exchange_at-text e (exchanges_text es ++ rest) are_es.0 in
    let right : exchange_at (exchange_text f ++ exchanges_text fs) ≡ Some (f, exchanges_text fs) =
    exchange_at-text f (exchanges_text fs) are_fs.0 in
    let at : exchange_text e ++ (exchanges_text es ++ rest) ≡ exchange_text f ++ exchanges_text fs =
    sym (append_assoc (exchange_text e) (exchanges_text es) rest) ∙ same in
    let both : (let q : Left = (e, exchanges_text es ++ rest) in q) ≡ (f, exchanges_text fs) =
    same_Some _ _ (sym left ∙ ap exchange_at at ∙ right) in
    let first : e ≡ f = ap (λ (q : Left). q.0) both in
    let next = goes_on es fs rest are_es.1 are_fs.1 (ap (λ (q : Left). q.1) both) in
    record {
      more = next.more;
      all = ap (λ (x : Exchange). x ∷ fs) (sym first) ∙ ap (λ (xs : List Exchange). e ∷ xs) next.all;
      text = next.text;
      are = next.are;
    }

-- if bytes are left, at least one more exchange follows
one_there : (more : List Exchange) (rest : List ℕ) → rest ≡ exchanges_text more → IsMore rest → 0 < length more
one_there [] rest text some = absurd (omega (arith, ap length text))
one_there (e ∷ more) rest text some = omega arith

-- if bytes are left after the greatest number of records, the file isn't the text of exchanges
pub too_many : (file rest : List ℕ) (es fs : List Exchange) → AreExchanges es → file ≡ exchanges_text es ++ rest
    → IsMore rest → MAX_EXCHANGES < length es + 1 → AreExchanges fs → file ≡ exchanges_text fs → ⊥
too_many file rest es fs are text some many whole at =
    let on = goes_on es fs rest are.each whole.each (sym text ∙ at) in
    let there = one_there on.more rest on.text some in
    omega (arith, ap length on.all, length-append es on.more, whole.count)

-- bytes that can't be read as a record don't begin with one
unread : (rest : List ℕ) (e : Exchange) (after : List ℕ) → exchange_at rest ≡ None → IsExchange e → rest ≢ exchange_text e ++ after
unread rest e after none is same = cc (sym none ∙ ap exchange_at same ∙ exchange_at-text e after is)

first_unread : (more : List Exchange) (rest : List ℕ) → AllByRecursion IsExchange more → rest ≡ exchanges_text more → IsMore rest
    → exchange_at rest ≡ None → ⊥
first_unread [] rest are text some none = omega (arith, ap length text)
first_unread (e ∷ more) rest are text some none = unread rest e (exchanges_text more) none are.0 text

-- if bytes are left and don't begin with a record, the file isn't the text of exchanges
pub no_record : (file rest : List ℕ) (es fs : List Exchange) → AreExchanges es → file ≡ exchanges_text es ++ rest
    → IsMore rest → exchange_at rest ≡ None → AreExchanges fs → file ≡ exchanges_text fs → ⊥
no_record file rest es fs are text some none whole at =
    let on = goes_on es fs rest are.each whole.each (sym text ∙ at) in
    first_unread on.more rest on.are on.text some none

-- the first record that can't be read is the bad one
pub bad_record : (file rest : List ℕ) (es : List Exchange) → AreExchanges es → file ≡ exchanges_text es ++ rest
    → IsMore rest → (length es + 1 ≤ MAX_EXCHANGES → exchange_at rest ≡ None) → IsBadRecord file (length es + 1)
bad_record file rest es are text some none = record {
  before = es;
  rest = rest;
  are = are;
  text = text;
  number = refl;
  more = λ empty. omega (arith, ap length empty);
  first = λ within e after is. unread rest e after (none within) is;
}

-- if nothing is left, the exchanges are those of the file
pub whole_file : (file rest : List ℕ) (es fs : List Exchange) → AreExchanges es → file ≡ exchanges_text es ++ rest
    → length rest ≡ 0 → AreExchanges fs → file ≡ exchanges_text fs → es ≡ fs
whole_file file rest es fs are text none whole at =
    let empty : rest ≡ [] = no_bytes rest none in
    let on = goes_on fs es [] whole.each are.each (append-nil (exchanges_text fs) ∙ sym at ∙ text
    ∙ ap (λ (r : List ℕ). exchanges_text es ++ r) empty ∙ append-nil (exchanges_text es)) in
    on.all ∙ ap (λ (more : List Exchange). fs ++ more) (none_more on.more on.text) ∙ append-nil fs
  where
    no_bytes : (t : List ℕ) → length t ≡ 0 → t ≡ []
    no_bytes [] none = refl
    no_bytes (b ∷ t) none = absurd (omega arith)

    none_more : (more : List Exchange) → [] ≡ exchanges_text more → more ≡ []
    none_more [] same = refl
    none_more (e ∷ more) same = absurd (not_empty e (exchanges_text more) (sym same))

each_and : (es : List Exchange) (e : Exchange) → AllByRecursion IsExchange es → IsExchange e
    → AllByRecursion IsExchange (es ++ e ∷ [])
each_and [] e are is = (is, tt)
each_and (x ∷ es) e are is = (are.0, each_and es e are.1 is)

-- the exchanges so far, with one more, and the bytes after them
pub record Longer (file : List ℕ) (es : List Exchange) (left : List ℕ) : Type 0 where
  pub are : AreExchanges es
  pub text : file ≡ exchanges_text es ++ left

-- a record that was read is one more
pub one_more : (file rest left : List ℕ) (es : List Exchange) (e : Exchange) → AreExchanges es → file ≡ exchanges_text es ++ rest
    → length es + 1 ≤ MAX_EXCHANGES → exchange_at rest ≡ Some (e, left) → Longer file (es ++ e ∷ []) left
one_more file rest left es e are text within read =
    let found = exchange_at-found rest (e, left) read in
    let joined : exchanges_text (es ++ e ∷ []) ≡ exchanges_text es ++ exchange_text e =
    flat_map-append exchange_text es (e ∷ []) ∙ ap (λ (x : List ℕ). exchanges_text es ++ x) (append-nil (exchange_text e)) in
    record {
      are = record {
        each = each_and es e are.each found.1;
        count = omega (arith, within, length-append es (e ∷ []));
      };
      text = text ∙ ap (λ (x : List ℕ). exchanges_text es ++ x) found.0
          ∙ sym (append_assoc (exchanges_text es) (exchange_text e) left)
          ∙ ap (λ (x : List ℕ). x ++ left) (sym joined);
    }

-- fewer bytes are left after a record
pub less_left : (rest left : List ℕ) (e : Exchange) → exchange_at rest ≡ Some (e, left) → length left < length rest
less_left rest left e read =
    let found = exchange_at-found rest (e, left) read in
    omega (arith, ap length found.0, length-append (exchange_text e) left)
