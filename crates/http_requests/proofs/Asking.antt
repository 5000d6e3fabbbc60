-- What a request asks for: it is valid, later bytes don't change it, and it is short exactly when bytes are missing.
use Rattle.http_requests.proofs.Words.{Ask, Asks, BadHead, Bool, HeadAsks, IsLawfulAsk, IsPath, List, Path}
use Rattle.http_requests.proofs.Words.{ReadsRequest-append, RequestHead, [], ap, arith, asked_at, codes, cond}
use Rattle.http_requests.proofs.Words.{digits_value, false, inl, inr, length, length-append, length-take, lengths, lit≤}
use Rattle.http_requests.proofs.Words.{message, nat_lt, nat_tests, refl, resource, subst, sym, take, take-append-le}
use Rattle.http_requests.proofs.Words.{true, ℕ, ◌++◌, ◌<◌, ◌∙◌, ◌∷◌, ◌≡◌, ◌≤◌}
use Rattle.std.proofs.Common.{◌↔◌}
use Rattle.std.specs.Str.{bytes_eq}
use Rattle.std.proofs.lemmas.Bool.{cond_both}
use Rattle.values.specs.declared.refusal.Refusal.TheVariants.{NoRoute, WrongMethod}
use Rattle.values.specs.declared.refusal.Refusal.TheVariants.{LengthRequired, TooLong, ShortBody}
use Rattle.http_requests.specs.Heads.{IsHead, is_coded}
use Rattle.http_requests.specs.Asks.{refused, get, post, posted}
use Rattle.http_requests.specs.BodySizes.{stated_size, size_at, WantsBody}
use Rattle.http_requests.proofs.OneAsk.{same_path}

-- ---- the cases of what is asked at a path

-- a message of n bytes, with these bytes after the head
abbrev taken : (caller key : List ℕ) → ℕ → List ℕ → Ask
taken caller key n rest = cond (nat_lt (length rest) n) (refused ShortBody) (post caller key (take n rest))

-- a property of constant asks, with size 0, and of messages, with their size, holds of each ask at a path
module _ (P : (List ℕ → Ask) → ℕ → Type 0)
    (fixed : (a : Ask) → IsLawfulAsk a → ¬ (a ≡ refused ShortBody) → P (λ rest. a) 0)
    (body : (caller key : List ℕ) (n : ℕ) → IsPath (message caller key) → n ≤ 16384 → P (taken caller key n) n) where
  posted_cases : (caller key : List ℕ) → IsPath (message caller key) → (known : List (List ℕ)) (coded : Bool)
      → P (λ rest. posted caller key known coded rest) (stated_size known coded)
  posted_cases caller key is [] coded = fixed (refused LengthRequired) (lit≤ tt) (λ e. cc)
  posted_cases caller key is (digits ∷ more) true = fixed (refused LengthRequired) (lit≤ tt) (λ e. cc)
  posted_cases caller key is (digits ∷ more) false = by (nat_lt 16384 (digits_value 10 digits)) refl
    where
      by : (v : Bool) → nat_lt 16384 (digits_value 10 digits) ≡ v → P (λ rest. cond v (refused TooLong)
          (taken caller key (digits_value 10 digits) rest)) (cond v 0 (digits_value 10 digits))
      by true e = fixed (refused TooLong) (lit≤ tt) (λ e. cc)
      by false e = body caller key (digits_value 10 digits) is (grind (arith, nat_tests))

  asked_cases : (p : Path) (h : RequestHead) → IsPath p → P (λ rest. asked_at p h rest) (size_at p h)
  asked_cases (message caller key) h is = by (bytes_eq h.method (codes "POST"))
    where
      by : (v : Bool) → P (λ rest. cond v (posted caller key (lengths h) (is_coded h) rest) (refused WrongMethod))
          (cond v (stated_size (lengths h) (is_coded h)) 0)
      by true = posted_cases caller key is (lengths h) (is_coded h)
      by false = fixed (refused WrongMethod) (lit≤ tt) (λ e. cc)
  asked_cases (resource r) h is = by (bytes_eq h.method (codes "GET"))
    where
      by : (v : Bool) → P (λ rest. cond v (get r) (refused WrongMethod)) 0
      by true = fixed (get r) is (λ e. cc)
      by false = fixed (refused WrongMethod) (lit≤ tt) (λ e. cc)

-- ---- validity

taken_lawful : (rest caller key : List ℕ) (n : ℕ) → IsPath (message caller key) → n ≤ 16384
    → IsLawfulAsk (taken caller key n rest)
taken_lawful rest caller key n is few = cond_both (nat_lt (length rest) n) _ _ IsLawfulAsk (λ _. lit≤ tt)
    (λ _. (is.0, is.1, omega (arith, length-take n rest)))

pub lawful_of_head : (h : RequestHead) (rest : List ℕ) (a : Ask) → HeadAsks h rest a → IsLawfulAsk a
lawful_of_head h rest a (inl (none, e)) = subst IsLawfulAsk (sym e) (lit≤ tt)
lawful_of_head h rest a (inr (p, is, text, e)) = subst IsLawfulAsk (sym e)
    (asked_cases (λ f n. IsLawfulAsk (f rest)) (λ a lawful differs. lawful) (taken_lawful rest) p h is)

pub lawful_of : (bytes : List ℕ) (a : Ask) → Asks bytes a → IsLawfulAsk a
lawful_of bytes a (inl (none, e)) = subst IsLawfulAsk (sym e) (lit≤ tt)
lawful_of bytes a (inr (h, rest, good, asked)) = lawful_of_head h rest a asked

-- ---- bytes that come later

-- an ask that isn't refused for lack of bytes
abbrev IsSettled : Ask → Type 0
IsSettled a = ¬ (a ≡ refused ShortBody)

taken_later : (rest more caller key : List ℕ) (n : ℕ) → IsSettled (taken caller key n rest)
    → taken caller key n (rest ++ more) ≡ taken caller key n rest
taken_later rest more caller key n = by (nat_lt (length rest) n) refl
  where
    by : (v : Bool) → nat_lt (length rest) n ≡ v
        → IsSettled (cond v (refused ShortBody) (post caller key (take n rest)))
        → taken caller key n (rest ++ more) ≡ cond v (refused ShortBody) (post caller key (take n rest))
    by true e settled = absurd (settled refl)
    by false e settled =
        let size = length-append rest more in
        let fits : n ≤ length rest = grind (arith, nat_tests) in
        let enough : nat_lt (length (rest ++ more)) n ≡ false = grind (arith, nat_tests) in
        rw (enough, take-append-le n rest more fits) refl

head_later : (h : RequestHead) (rest more : List ℕ) (a : Ask) → IsSettled a
    → HeadAsks h rest a → HeadAsks h (rest ++ more) a
head_later h rest more a settled (inl (none, e)) = inl (none, e)
head_later h rest more a settled (inr (p, is, text, e)) =
    let later = asked_cases (λ f n. IsSettled (f rest) → f (rest ++ more) ≡ f rest) (λ a lawful differs _. refl)
    (λ caller key n is few. taken_later rest more caller key n) p h is in
    inr (p, is, text, e ∙ sym (later (λ f. settled (e ∙ f))))

pub later_of : (bytes more : List ℕ) (a : Ask) → Asks bytes a → ¬ (a ≡ refused BadHead) → IsSettled a
    → Asks (bytes ++ more) a
later_of bytes more a (inl (none, e)) good settled = absurd (good e)
later_of bytes more a (inr (h, rest, is, asked)) good settled =
    let reads = ReadsRequest-append bytes h rest more is.0.reads in
    let head : IsHead (bytes ++ more) h (rest ++ more) =
    record { reads = reads; size = is.0.size; lines = is.0.lines } in
    inr (h, rest ++ more, (head, is.1), head_later h rest more a settled asked)

-- ---- the bytes that are needed

-- the ask is the refusal of a short body exactly when fewer than n bytes came
abbrev ShortBelow : ℕ → ℕ → Ask → Type 0
ShortBelow n come a = (a ≡ refused ShortBody) ↔ (come < n)

-- any other ask needs no body
other : (come : ℕ) (a : Ask) → ¬ (a ≡ refused ShortBody) → ShortBelow 0 come a
other come a differs = (λ e. absurd (differs e), λ below. absurd (omega (arith, below)))

taken_short : (rest caller key : List ℕ) (n : ℕ) → ShortBelow n (length rest) (taken caller key n rest)
taken_short rest caller key n = by (nat_lt (length rest) n) refl
  where
    by : (v : Bool) → nat_lt (length rest) n ≡ v
        → ShortBelow n (length rest) (cond v (refused ShortBody) (post caller key (take n rest)))
    by true e = (λ _. grind (arith, nat_tests), λ _. refl)
    by false e = (λ same. cc, λ below. absurd (grind (arith, nat_tests)))

-- a request is refused for a short body exactly when fewer bytes follow the head than it asks for
pub short_below : (h : RequestHead) (n : ℕ) (rest : List ℕ) (a : Ask)
    → WantsBody h n → HeadAsks h rest a → ShortBelow n (length rest) a
short_below h n rest a (inl (none, e)) (inl (also, f)) = rw (e, f) (other (length rest) (refused NoRoute) (λ g. cc))
short_below h n rest a (inl (none, e)) (inr (p, is, text, f)) = absurd (none p is text)
short_below h n rest a (inr (p, is, text, e)) (inl (none, f)) = absurd (none p is text)
short_below h n rest a (inr (p, is, text, e)) (inr (q, also, too, f)) =
    let size = e in
    let asked = f ∙ ap (λ r. asked_at r h rest) (same_path q p also is (sym too ∙ text)) in
    rw (size, asked) (asked_cases (λ f n. ShortBelow n (length rest) (f rest))
    (λ a lawful. other (length rest) a) (λ caller key n is few. taken_short rest caller key n) p h is)
