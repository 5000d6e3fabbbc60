-- The body of a response with a plain text.
use Rattle.std.proofs.Common.{◌≡◌, ◌<◌, ◌^◌, ℕ, List, ◌∷◌, ◌++◌, length, codes, decimal, Option, Some, None, eqb, refl, ap, ◌∙◌, append_assoc, arith, length-append, option_map}
use Rattle.std.specs.List.{after_first, before_first}
use Rattle.std.proofs.lemmas.Bool.{cond-true, lt-ltb}
use Rattle.http_requests.specs.declared.response.MediaType.TheVariants.{PlainText}
use Rattle.http_requests.specs.Responses.{phrase, response_text}
use Rattle.values.proofs.Lacking.{after_first-append, before_first-append, decimal_lacks}
use Rattle.exchanges.specs.Reading.{rest_after, cut_of}

-- the bytes before the digits of the body's length
abbrev pub head : List ℕ
head = codes "HTTP/1.1 200 OK\r\ncontent-type: text/plain\r\ncontent-length: "

-- the bytes after these digits and a carriage return
abbrev pub end : List ℕ
end = codes "\nconnection: close\r\n\r\n"

in_parts : (body : List ℕ) → response_text 200 PlainText body ≡ head ++ (decimal (length body) ++ 13 ∷ (end ++ body))
unfolding phrase
in_parts body = ap (λ (t : List ℕ). head ++ t) (append_assoc (decimal (length body)) (13 ∷ end) body)

-- the length and the rest follow the head
pub sized_found : (response body : List ℕ) → response ≡ response_text 200 PlainText body
    → rest_after head response ≡ Some (decimal (length body) ++ 13 ∷ (end ++ body))
sized_found response body same = ap (rest_after head) (same ∙ in_parts body)

abbrev Cut : Type 0
Cut = List ℕ × List ℕ

-- the bytes after the length
pub rest_found : (sized body : List ℕ) → length body < 2 ^ 64 → sized ≡ decimal (length body) ++ 13 ∷ (end ++ body)
    → option_map (λ (p : Cut). p.1) (cut_of 13 sized) ≡ Some (end ++ body)
rest_found sized body small same =
    let word : List ℕ = decimal (length body) in
    let rest : List ℕ = end ++ body in
    let t : List ℕ = word ++ 13 ∷ rest in
    let lacks = decimal_lacks 13 (length body) refl small in
    let front : before_first (λ b. eqb b 13) t ≡ word = before_first-append 13 word rest lacks in
    let back : after_first (λ b. eqb b 13) t ≡ rest = after_first-append 13 word rest lacks in
    let short : length (before_first (λ b. eqb b 13) t) < length t =
    omega (arith, ap length front, length-append word (13 ∷ rest)) in
    let found : Option Cut = Some (before_first (λ b. eqb b 13) t, after_first (λ b. eqb b 13) t) in
    ap (λ (s : List ℕ). option_map (λ (p : Cut). p.1) (cut_of 13 s)) same
    ∙ ap (option_map (λ (p : Cut). p.1)) (cond-true _ found None (lt-ltb _ _ short))
    ∙ ap (λ (r : List ℕ). Some r) back

-- the found value is the expected one
pub found_is : (a b : List ℕ) → ◌≡◌ {A = Option (List ℕ)} (Some a) (Some b) → a ≡ b
found_is a b same = cc

pub not_found : (A : Type 0) (b : List ℕ) → ◌≡◌ {A = Option (List ℕ)} None (Some b) → A
not_found A b same = absurd cc
