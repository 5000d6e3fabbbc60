-- A text that is written piece by piece.
use Rattle.std.proofs.Common.{◌≡◌, ℕ, ◌+◌, ◌<◌, Bool, true, false, cond, List, [], ◌∷◌, ◌++◌}
use Rattle.std.proofs.Common.{length, get_or, take, drop, Option, refl, sym, ap, subst, ◌∙◌, arith}
use Rattle.std.specs.Prelude.{IsErr, is_ok, Result, Ok, Err}
use Rattle.std.specs.List.{flat_map}
use Rattle.std.proofs.KnownBytes.{Appends-nil, Appends-trans}
use Rattle.std.proofs.lemmas.List.{append-nil, flat_map_more, length-append, take-append-drop, take_more}
use Rattle.std.proofs.lemmas.Grind.{flat_map-append}
use Rattle.wire.proofs.StreamLaws.{begins_after, begins_longer}
use Rattle.lines.specs.Signers.{list_text, others_text}
use Rattle.lines.specs.Writing.{Writes}

-- ---- a list that is written element by element

front_and : {X : Type 0} (f : X → List ℕ) (xs : List X) (i : ℕ) (x : X) → i < length xs → x ≡ get_or xs i x
    → flat_map f (take i xs) ++ f x ≡ flat_map f (take (i + 1) xs)
front_and f xs i x lt is =
    flat_map_more f [] (take i xs) x ∙ ap (λ y. flat_map f (take i xs ++ y ∷ [])) is
    ∙ ap (flat_map f) (sym (take_more xs i x lt))

front_and_rest : {X : Type 0} (f : X → List ℕ) (xs : List X) (i : ℕ)
    → flat_map f (take i xs) ++ flat_map f (drop i xs) ≡ flat_map f xs
front_and_rest f xs i =
    sym (flat_map-append f (take i xs) (drop i xs)) ∙ ap (flat_map f) (take-append-drop i xs)

-- A list is its first text, followed by the others, each after a comma.
pub list_text-cons : (text : List ℕ) (texts : List (List ℕ)) → list_text (text ∷ texts) ≡ text ++ others_text texts
list_text-cons text [] = sym (append-nil text)
list_text-cons text (other ∷ texts) = ap (λ (l : List ℕ). text ++ 44 ∷ l) (list_text-cons other texts)

-- ---- successive calls

module _ {S : Type 0} {taken : S → Option (List ℕ)} {failed room : S → ℕ} where
  -- Nothing is written.
  pub writes_nothing : (old : S) → Writes taken failed room old old true []
  writes_nothing old = record {
    ok = λ e. Appends-nil (taken old);
    err = λ e. absurd cc;
    count = refl;
    sure = λ fits. refl;
    left = λ e. omega arith;
  }

  -- A piece, and then another one.
  pub writes_then : (old mid new : S) (ok : Bool) (a b : List ℕ)
      → Writes taken failed room old mid true a → Writes taken failed room mid new ok b
      → Writes taken failed room old new ok (a ++ b)
  writes_then old mid new ok a b first second = record {
    ok = λ e. Appends-trans (taken old) (taken mid) (taken new) a b (first.ok refl) (second.ok e);
    err = λ e. begins_after (taken old) (taken mid) (taken new) a b (first.ok refl) (second.err e);
    count = second.count ∙ ap (λ (n : ℕ). cond ok n (n + 1)) first.count;
    sure = λ fits. let left = first.left refl in second.sure (omega (arith, length-append a b));
    left = λ e. let one = first.left refl in let two = second.left e in omega (arith, length-append a b);
  }

  -- A piece that was not written completely, whatever was to follow it.
  pub writes_stop : (old new : S) (a b : List ℕ)
      → Writes taken failed room old new false a → Writes taken failed room old new false (a ++ b)
  writes_stop old new a b first = record {
    ok = λ e. absurd cc;
    err = λ e. begins_longer (taken old) (taken new) a b (first.err e);
    count = first.count;
    sure = λ fits. first.sure (omega (arith, length-append a b));
    left = λ e. absurd cc;
  }

  -- The same text in another form.
  pub writes_as : {old new : S} {ok : Bool} {text same : List ℕ} → text ≡ same
      → Writes taken failed room old new ok text → Writes taken failed room old new ok same
  writes_as {old} {new} {ok} e written =
      let P : List ℕ → Type 0 = Writes taken failed room old new ok in subst P e written

  -- The effect of a call that failed.
  pub writes_failed : {E : Type 0} (r : Result (Unit {0}) E) (old new : S) (text : List ℕ) → IsErr r
      → Writes taken failed room old new false text → Writes taken failed room old new (is_ok r) text
  writes_failed (Ok x) old new text err written = absurd cc
  writes_failed (Err e) old new text err written = written

  -- One more element of a list is written.
  pub writes_more : {X : Type 0} (f : X → List ℕ) (xs : List X) (i : ℕ) (x : X) (old mid new : S)
      → i < length xs → x ≡ get_or xs i x
      → Writes taken failed room old mid true (flat_map f (take i xs)) → Writes taken failed room mid new true (f x)
      → Writes taken failed room old new true (flat_map f (take (i + 1) xs))
  writes_more f xs i x old mid new lt is first second =
      writes_as (front_and f xs i x lt is) (writes_then old mid new true (flat_map f (take i xs)) (f x) first second)

  -- An element of a list is not written to its end, and so the list is not.
  pub writes_part : {X : Type 0} (f : X → List ℕ) (xs : List X) (i : ℕ) (x : X) (old mid new : S)
      → i < length xs → x ≡ get_or xs i x
      → Writes taken failed room old mid true (flat_map f (take i xs)) → Writes taken failed room mid new false (f x)
      → Writes taken failed room old new false (flat_map f xs)
  writes_part f xs i x old mid new lt is first second =
      let part = writes_then old mid new false (flat_map f (take i xs)) (f x) first second in
      let front = writes_as (front_and f xs i x lt is) part in
      writes_as (front_and_rest f xs (i + 1))
      (writes_stop old new (flat_map f (take (i + 1) xs)) (flat_map f (drop (i + 1) xs)) front)
