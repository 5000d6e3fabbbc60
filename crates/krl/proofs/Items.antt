-- Reading items in order.
use Rattle.krl.proofs.Words.{AllByRecursion, Bool, List, [], ap, append_assoc, flat_map, list_any, list_any-append}
use Rattle.krl.proofs.Words.{or-false, refl, sym, ℕ, ◌++◌, ◌||◌, ◌∙◌, ◌∷◌, ◌≡◌, ◌≢◌}
use Rattle.std.proofs.lemmas.List.{flat_map_more}
use Rattle.krl.proofs.Texts.{AreTexts}

-- the bytes up to the rest are the joined texts of items, and the result is whether one of them passes the test
abbrev pub SoFar : {X : Type 0} → (X → List ℕ) → (X → Type 0) → (X → Bool) → List ℕ → List ℕ → Bool → Type 0
SoFar {X} text Is test bytes rest b =
    (items : List X) × AllByRecursion Is items × (bytes ≡ flat_map text items ++ rest) × (b ≡ list_any test items)

pub all_more : {X : Type 0} (Is : X → Type 0) (xs : List X) (x : X) → AllByRecursion Is xs → Is x
    → AllByRecursion Is (xs ++ x ∷ [])
all_more Is [] x h p = (p, tt)
all_more Is (y ∷ xs) x h p = (h.0, all_more Is xs x h.1 p)

text_more : {X : Type 0} (text : X → List ℕ) (xs : List X) (x : X) (rest : List ℕ)
    → flat_map text (xs ++ x ∷ []) ++ rest ≡ flat_map text xs ++ (text x ++ rest)
text_more text xs x rest =
    ap (λ t. t ++ rest) (sym (flat_map_more text [] xs x)) ∙ append_assoc (flat_map text xs) (text x) rest

-- after one more item
pub so_far_more : {X : Type 0} (text : X → List ℕ) (Is : X → Type 0) (test : X → Bool) (bytes rest new : List ℕ)
    (b : Bool) (x : X) → SoFar text Is test bytes rest b → Is x → rest ≡ text x ++ new
    → SoFar text Is test bytes new (b || test x)
so_far_more text Is test bytes rest new b x so is e = (
  so.0 ++ x ∷ [],
  all_more Is so.0 x so.1 is,
  so.2 ∙ ap (λ r. flat_map text so.0 ++ r) e ∙ sym (text_more text so.0 x new),
  ap (λ c. c || test x) so.3 ∙ ap (λ c. list_any test so.0 || c) (sym (or-false (test x)))
      ∙ sym (list_any-append test so.0 (x ∷ [])),
)

-- if `done` is a prefix of the items and bytes remain, then these begin with an item
pub goes_on : {X : Type 0} {text : X → List ℕ} {Is : X → Type 0} → AreTexts text Is → (all done : List X)
    (rest : List ℕ) → AllByRecursion Is all → AllByRecursion Is done → flat_map text all ≡ flat_map text done ++ rest
    → rest ≢ [] → (x : X) × (r : List ℕ) × Is x × (rest ≡ text x ++ r)
goes_on texts [] [] rest p q e left = absurd (left (sym e))
goes_on {text = text} texts [] (y ∷ ys) rest p q e left =
    absurd (texts.some y (flat_map text ys ++ rest) (sym (append_assoc (text y) (flat_map text ys) rest) ∙ sym e))
goes_on {text = text} texts (x ∷ xs) [] rest p q e left = (x, flat_map text xs, p.0, sym e)
goes_on {text = text} texts (x ∷ xs) (y ∷ ys) rest p q e left =
    let both = texts.same x y (flat_map text xs) (flat_map text ys ++ rest) p.0 q.0
    (e ∙ append_assoc (text y) (flat_map text ys) rest) in
    goes_on texts xs ys rest p.1 q.1 both.1 left

-- bytes that end within an item aren't a list of items
pub stops_within : {X : Type 0} {text : X → List ℕ} {Is : X → Type 0} → AreTexts text Is → (test : X → Bool)
    (bytes rest : List ℕ) (b : Bool) → SoFar text Is test bytes rest b → rest ≢ []
    → ((x : X) (r : List ℕ) → Is x → rest ≢ text x ++ r) → (all : List X) → AllByRecursion Is all
    → bytes ≢ flat_map text all
stops_within texts test bytes rest b so left short all h e =
    let next = goes_on texts all so.0 rest h so.1 (sym e ∙ so.2) left in
    short next.0 next.1 next.2 next.3

-- the text of one or more items isn't empty
pub no_items : {X : Type 0} {text : X → List ℕ} {Is : X → Type 0} → AreTexts text Is → (xs : List X) → xs ≢ []
    → flat_map text xs ≢ []
no_items texts [] left e = left refl
no_items {text = text} texts (x ∷ xs) left e = texts.some x (flat_map text xs) e
