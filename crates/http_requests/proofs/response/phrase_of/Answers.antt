use Rattle.std.proofs.Common.{◌≡◌, ℕ, zero, suc, ◌<◌, ◌≤◌, Bool, true, ◌&&◌, List}
use Rattle.std.proofs.Common.{length, nat_le, Option, Some, None, refl, sym, subst, arith}
use Rattle.std.proofs.lemmas.Bool.Decides.{Decides-below_and, nat_tests}
use Rattle.http.specs.StatusCode.{reason_phrase}
use Rattle.http_requests.proofs.response.phrase_of.Goals as goal

-- the phrase, if there is one, has at most 31 bytes
abbrev is_short : Option (List ℕ) → Bool
is_short None = true
is_short (Some phrase) = nat_le (length phrase) 31

-- this holds of the phrases of all codes below n
abbrev are_short_below : ℕ → Bool
are_short_below zero = true
are_short_below (suc n) = is_short (reason_phrase n) && are_short_below n

short_from_test : (phrase : List ℕ) → is_short (Some phrase) ≡ true → length phrase ≤ 31
short_from_test phrase h = grind (arith, nat_tests)

-- the phrase of a status code has at most 31 bytes
short_phrase : (n : ℕ) (phrase : List ℕ) → n < 1000 → Some phrase ≡ reason_phrase n → length phrase ≤ 31
short_phrase n phrase below e =
    let test = λ (k : ℕ). is_short (reason_phrase k) in
    let decides = Decides-below_and test (λ k. test k ≡ true) are_short_below (λ k. (λ x. x, λ x. x))
    refl (λ _. refl) 1000 in
    let all = decides.0 refl n below in
    let P : Option (List ℕ) → Type 0 = λ o. is_short o ≡ true in
    short_from_test phrase (subst P (sym e) all)

pub returns-in-Some-clause-short : goal.returns-in-Some-clause-short
returns-in-Some-clause-short c =
    short_phrase c.args.status c.in-Some.phrase.now c.requires.1 c.in-Some.ensures.value
