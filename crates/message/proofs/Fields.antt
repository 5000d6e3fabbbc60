-- Values after a word: a text is read as a value exactly when it is the value's text.
use Rattle.message.proofs.Words.{All-append, All-cons, All-nil, AllByRecursion, Bool, IsBytes, IsBytes-drop, Lacks}
use Rattle.message.proofs.Words.{List, None, Option, Some, [], rest_after, and_parts, ap, append-nil, arith}
use Rattle.message.proofs.Words.{bytes_eq-Decides, cond-true, cond_some, drop, drop-append_seam, eqb, eqb-true, false}
use Rattle.message.proofs.Words.{join_with_byte, join_with_byte-slice_split, length, length-slice_split, list_all}
use Rattle.message.proofs.Words.{list_line, not, not-true, option_and_then, option_and_then_some, refl, same_Some}
use Rattle.message.proofs.Words.{slice_split, subst, sym, take, true, ℕ, ◌++◌, ◌∙◌, ◌∷◌, ◌≡◌}
use Rattle.std.proofs.Math.Seq.{take-append_seam}
use Rattle.std.proofs.lemmas.List.{take-append-drop}
use Rattle.std.proofs.lemmas.List.Sums.{AllPass-from_list_all}
use Rattle.values.proofs.Lacking.{slice_split-join_with_byte}
use Rattle.message.specs.Reading.{passing, texts_in_list}
use Rattle.message.proofs.Readings.{IsField, IsLine}

-- ---- texts that lack a byte

-- a text for which the test computes to true
pub lacks_by : (byte : ℕ) (t : List ℕ) → list_all (λ b. not (eqb b byte)) t ≡ true → Lacks byte t
lacks_by byte t all = λ k d inside. not-true _ (AllPass-from_list_all (λ b. not (eqb b byte)) t all k d inside)

-- A word at the start of a line has no line feed.
abbrev pub IsHead : List ℕ → Type 0
IsHead head = list_all (λ b. not (eqb b 10)) head ≡ true

-- texts, none of which has the byte
abbrev pub AllLack : ℕ → List (List ℕ) → Type 0
AllLack byte ts = AllByRecursion (Lacks byte) ts

-- texts that all pass a test lack the byte, if each text that passes it does
pub all_lack : (test : List ℕ → Bool) (byte : ℕ) → ((t : List ℕ) → test t ≡ true → Lacks byte t)
    → (ts : List (List ℕ)) → list_all test ts ≡ true → AllLack byte ts
all_lack test byte lacks [] e = tt
all_lack test byte lacks (t ∷ ts) e = let both = and_parts _ _ e in (lacks t both.0, all_lack test byte lacks ts both.1)

-- texts that lack the byte, joined by a different one, lack it too
pub lacks_joined : (byte by : ℕ) (ts : List (List ℕ)) → eqb by byte ≡ false → AllLack byte ts
    → Lacks byte (join_with_byte by ts)
lacks_joined byte by [] other h = All-nil (λ b. eqb b byte ≡ false)
lacks_joined byte by (t ∷ []) other h = h.0
lacks_joined byte by (t ∷ u ∷ ts) other h =
    All-append (λ b. eqb b byte ≡ false) t (by ∷ join_with_byte by (u ∷ ts)) h.0
    (All-cons (λ b. eqb b byte ≡ false) by (join_with_byte by (u ∷ ts)) other
    (lacks_joined byte by (u ∷ ts) other h.1))

-- ---- values after a word

pub after_found : (head l t : List ℕ) → rest_after head l ≡ Some t → (l ≡ head ++ t) × (t ≡ drop (length head) l)
after_found head l t e =
    let both = cond_some _ (drop (length head) l) t e in
    let front : take (length head) l ≡ head = (bytes_eq-Decides _ _).0 both.0 in (
      sym (take-append-drop (length head) l) ∙ ap (λ (x : List ℕ). x ++ drop (length head) l) front
          ∙ ap (λ (x : List ℕ). head ++ x) both.1,
      sym both.1,
    )

pub after_again : (head t : List ℕ) → rest_after head (head ++ t) ≡ Some t
after_again head t =
    cond-true _ (Some (drop (length head) (head ++ t))) None ((bytes_eq-Decides _ _).1 (take-append_seam head t))
    ∙ ap (λ (x : List ℕ). Some x) (drop-append_seam head t)

-- Reading a text as a value.
pub record IsValue {X : Type 0} (read : List ℕ → Option X) (text : X → List ℕ) (IsLawful : X → Type 0) : Type 0 where
  pub found : (t : List ℕ) (x : X) → IsBytes t → read t ≡ Some x → IsLawful x × (t ≡ text x)
  pub again : (x : X) → IsLawful x → read (text x) ≡ Some x
  pub is_line : (x : X) → IsLawful x → IsLine (text x)

pub passing_some : {X : Type 0} (test : X → Bool) (x y : X) → passing test x ≡ Some y → (test y ≡ true) × (x ≡ y)
passing_some test x y e = let both = cond_some (test x) x y e in (sym (ap test both.1) ∙ both.0, both.1)

-- a value that is read and passes a test
pub value_passing : {X : Type 0} (read : List ℕ → Option X) (text : X → List ℕ) (test : X → Bool)
    → ((t : List ℕ) (x : X) → IsBytes t → read t ≡ Some x → t ≡ text x)
    → ((x : X) → test x ≡ true → read (text x) ≡ Some x)
    → ((x : X) → test x ≡ true → IsLine (text x))
    → IsValue (λ t. option_and_then (passing test) (read t)) text (λ x. test x ≡ true)
value_passing read text test found again is_line = record {
  found = λ t x fits e. option_and_then_some (passing test) (read t) x e
      (λ y read_so passed. let both = passing_some test y x passed in
      (both.0, found t y fits read_so ∙ ap text both.1));
  again = λ x passes. ap (option_and_then (passing test)) (again x passes) ∙ cond-true _ (Some x) None passes;
  is_line = is_line;
}

-- a value after a word that `rest_after` can compute with
pub value_after : {X : Type 0} (head : List ℕ) (read : List ℕ → Option X) (text : X → List ℕ) (IsLawful : X → Type 0)
    → IsHead head → rest_after head [] ≡ None → IsValue read text IsLawful
    → IsField (λ l. option_and_then read (rest_after head l)) (λ x. head ++ text x) IsLawful
value_after head read text IsLawful line empty value = record {
  found = λ l x fits e. option_and_then_some read (rest_after head l) x e
      (λ t behind read_so.
      let at = after_found head l t behind in
      let fits_behind : IsBytes t = subst IsBytes (sym at.1) (IsBytes-drop (length head) l fits) in
      let is = value.found t x fits_behind read_so in
      (is.0, at.0 ∙ ap (λ (y : List ℕ). head ++ y) is.1));
  again = λ x lawful. ap (option_and_then read) (after_again head (text x)) ∙ value.again x lawful;
  empty = ap (option_and_then read) empty;
  is_line = λ x lawful.
      All-append (λ b. eqb b 10 ≡ false) head (text x) (lacks_by 10 head line) (value.is_line x lawful);
}

-- a field with another function that reads it
pub same_field : {X : Type 0} (read again : List ℕ → Option X) (text : X → List ℕ) (IsLawful : X → Type 0)
    → ((l : List ℕ) → again l ≡ read l) → IsField read text IsLawful → IsField again text IsLawful
same_field {X} read again text IsLawful same field =
    subst (λ (r : List ℕ → Option X). IsField r text IsLawful) (λ i l. sym (same l) i) field

and_then_assoc : {A B C : Type 0} (f : A → Option B) (g : B → Option C) (o : Option A)
    → option_and_then g (option_and_then f o) ≡ option_and_then (λ x. option_and_then g (f x)) o
and_then_assoc f g None = refl
and_then_assoc f g (Some x) = refl

-- a value after a word, if it passes a test
pub field_passing : {X : Type 0} (head : List ℕ) (read : List ℕ → Option X) (text : X → List ℕ) (test : X → Bool)
    → IsHead head → rest_after head [] ≡ None
    → ((t : List ℕ) (x : X) → IsBytes t → read t ≡ Some x → t ≡ text x)
    → ((x : X) → test x ≡ true → read (text x) ≡ Some x)
    → ((x : X) → test x ≡ true → IsLine (text x))
    → IsField (λ l. option_and_then (passing test) (option_and_then read (rest_after head l))) (λ x. head ++ text x)
    (λ x. test x ≡ true)
field_passing head read text test line empty found again is_line =
    same_field (λ l. option_and_then (λ t. option_and_then (passing test) (read t)) (rest_after head l))
    (λ l. option_and_then (passing test) (option_and_then read (rest_after head l))) (λ x. head ++ text x)
    (λ x. test x ≡ true) (λ l. and_then_assoc read (passing test) (rest_after head l))
    (value_after head (λ t. option_and_then (passing test) (read t)) text (λ x. test x ≡ true) line empty
    (value_passing read text test found again is_line))

-- a text after a word, if it passes a test
pub text_field : (head : List ℕ) (test : List ℕ → Bool) → IsHead head → rest_after head [] ≡ None
    → ((t : List ℕ) → test t ≡ true → IsLine t)
    → IsField (λ l. option_and_then (passing test) (rest_after head l)) (λ t. head ++ t) (λ t. test t ≡ true)
text_field head test line empty is_line =
    value_after head (passing test) (λ t. t) (λ t. test t ≡ true) line empty (record {
      found = λ t x fits e. passing_some test t x e;
      again = λ x passes. cond-true _ (Some x) None passes;
      is_line = is_line;
    })

-- ---- lists

-- the text after the word of a list
abbrev pub listed_text : List (List ℕ) → List ℕ
listed_text [] = []
listed_text (t ∷ ts) = 32 ∷ join_with_byte 44 (t ∷ ts)

list_text : (word : List ℕ) (ts : List (List ℕ)) → word ++ listed_text ts ≡ list_line word ts
list_text word [] = append-nil word
list_text word (t ∷ ts) = refl

-- a field with another definition of the same texts
pub same_text : {X : Type 0} (read : List ℕ → Option X) (text texts : X → List ℕ) (IsLawful : X → Type 0)
    → ((x : X) → text x ≡ texts x) → IsField read text IsLawful → IsField read texts IsLawful
same_text {X} read text texts IsLawful same field =
    subst (λ (t : X → List ℕ). IsField read t IsLawful) (λ i x. same x i) field

-- texts joined by commas are split at the commas
pub split_joined : (t : List ℕ) (ts : List (List ℕ)) → AllLack 44 (t ∷ ts)
    → slice_split (λ c. eqb c 44) (join_with_byte 44 (t ∷ ts)) ≡ t ∷ ts
split_joined = slice_split-join_with_byte 44

-- the text of a list that is not empty
cut_text : (text : List ℕ) (ts : List (List ℕ)) → slice_split (λ c. eqb c 44) text ≡ ts → 32 ∷ text ≡ listed_text ts
cut_text text [] e = absurd (omega (arith, length-slice_split (λ c. eqb c 44) text, ap length e))
cut_text text (t ∷ ts) e =
    ap (λ (x : List ℕ). 32 ∷ x) (sym (join_with_byte-slice_split 44 text) ∙ ap (join_with_byte 44) e)

listed_found : (t : List ℕ) (ts : List (List ℕ)) → texts_in_list t ≡ Some ts → t ≡ listed_text ts
listed_found [] ts e = ap listed_text (same_Some [] ts e)
listed_found (b ∷ text) ts e =
    let both = cond_some _ (slice_split (λ c. eqb c 44) text) ts e in
    ap (λ (x : ℕ). x ∷ text) (eqb-true _ _ both.0) ∙ cut_text text ts both.1

listed_again : (ts : List (List ℕ)) → AllLack 44 ts → texts_in_list (listed_text ts) ≡ Some ts
listed_again [] h = refl
listed_again (t ∷ ts) h = ap (λ (xs : List (List ℕ)). Some xs) (split_joined t ts h)

listed_line : (ts : List (List ℕ)) → AllLack 10 ts → IsLine (listed_text ts)
listed_line [] h = All-nil (λ b. eqb b 10 ≡ false)
listed_line (t ∷ ts) h =
    All-cons (λ b. eqb b 10 ≡ false) 32 (join_with_byte 44 (t ∷ ts)) refl (lacks_joined 10 44 (t ∷ ts) refl h)

-- a list after its word, if it passes a test
pub list_field : (word : List ℕ) (test : List (List ℕ) → Bool) → IsHead word → rest_after word [] ≡ None
    → ((ts : List (List ℕ)) → test ts ≡ true → AllLack 44 ts × AllLack 10 ts)
    → IsField (λ l. option_and_then (passing test) (option_and_then texts_in_list (rest_after word l))) (list_line word)
    (λ ts. test ts ≡ true)
list_field word test line empty lack =
    same_text _ (λ ts. word ++ listed_text ts) (list_line word) (λ ts. test ts ≡ true) (list_text word)
    (field_passing word texts_in_list listed_text test line empty (λ t ts fits e. listed_found t ts e)
    (λ ts passes. listed_again ts (lack ts passes).0) (λ ts passes. listed_line ts (lack ts passes).1))

-- a line that is read as a list is that of a list that passes the test
pub list_on : (word : List ℕ) (test : List (List ℕ) → Bool) (l : List ℕ) (ts : List (List ℕ))
    → option_and_then (passing test) (option_and_then texts_in_list (rest_after word l)) ≡ Some ts
    → (test ts ≡ true) × (l ≡ list_line word ts)
list_on word test l ts e =
    option_and_then_some (passing test) (option_and_then texts_in_list (rest_after word l)) ts e
    (λ us read passed.
    let both = passing_some test us ts passed in
    option_and_then_some texts_in_list (rest_after word l) us read
    (λ t behind found. (
      both.0,
      (after_found word l t behind).0
          ∙ ap (λ (x : List ℕ). word ++ x) (listed_found t us found ∙ ap listed_text both.1) ∙ list_text word ts,
    )))
