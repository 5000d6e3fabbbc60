-- Readings of the lines of a text from some line on: which texts are read, and the first fault.
use Rattle.message.proofs.Words.{All, AllByRecursion, Bool, Err, IsBytes, List, None, Ok, Option, Result, Some, []}
use Rattle.message.proofs.Words.{and_parts, ap, arith, drop, eqb, false, length, line_of, made, none-some, refl, subst}
use Rattle.message.proofs.Words.{suc, sym, true, ℕ, ◌&&◌, ◌+◌, ◌<◌, ◌∙◌, ◌∷◌, ◌≡◌}
use Rattle.message.proofs.Lines.{line_there, line_is_ended, ended, Shares, shares_less}

-- no byte is a line feed
abbrev pub IsLine : List ℕ → Type 0
IsLine l = All (λ b. eqb b 10 ≡ false) l

-- each line is a list of bytes
abbrev pub AreBytes : List (List ℕ) → Type 0
AreBytes ps = (n : ℕ) → IsBytes (line_of n ps)

-- Reading a line as a value: it is read as a valid value exactly when it is its text, and the empty line isn't read.
pub record IsField {X : Type 0} (read : List ℕ → Option X) (text : X → List ℕ) (IsLawful : X → Type 0) : Type 0 where
  pub found : (l : List ℕ) (x : X) → IsBytes l → read l ≡ Some x → IsLawful x × (l ≡ text x)
  pub again : (x : X) → IsLawful x → read (text x) ≡ Some x
  pub empty : read [] ≡ None
  pub is_line : (x : X) → IsLawful x → IsLine (text x)

-- A fault is at the first bad line: the lines before it begin some message's text, and with it they begin none.
pub record FirstFault {M : Type 0} (k : ℕ) (Is : M → Type 0) (lines : M → List (List ℕ)) (ps : List (List ℕ))
    (i : ℕ) : Type 0 where
  pub count : ℕ
  pub at : i ≡ suc (k + count)
  pub some : (m : M) × Is m × Shares count (drop k ps) (ended (lines m))
  pub none : (m : M) → Is m → Shares (suc count) (drop k ps) (ended (lines m)) → ⊥

-- Reading the lines after the first k as the rest of a message, which has these lines.
pub record IsReading {M : Type 0} (k : ℕ) (read : List (List ℕ) → Result M ℕ) (Is : M → Type 0)
    (lines : M → List (List ℕ)) : Type 0 where
  pub some : (m : M) × Is m
  pub found : (ps : List (List ℕ)) (m : M) → AreBytes ps → read ps ≡ Ok m → Is m × (drop k ps ≡ ended (lines m))
  pub again : (ps : List (List ℕ)) (m : M) → Is m → drop k ps ≡ ended (lines m) → read ps ≡ Ok m
  pub fault : (ps : List (List ℕ)) (i : ℕ) → AreBytes ps → k < length ps → read ps ≡ Err i → FirstFault k Is lines ps i
  pub are_lines : (m : M) → Is m → AllByRecursion IsLine (lines m)

-- a fault carries over to other messages, if those that share the line are the same
pub fault_as : {A M : Type 0} {k i : ℕ} {Is : A → Type 0} {lines : A → List (List ℕ)} {Are : M → Type 0}
    {all : M → List (List ℕ)} {ps : List (List ℕ)} → FirstFault k Is lines ps i
    → ((a : A) → Is a → (m : M) × Are m × (all m ≡ lines a))
    → ((j : ℕ) (m : M) → Are m → Shares (suc j) (drop k ps) (ended (all m)) → (a : A) × Is a × (all m ≡ lines a))
    → FirstFault k Are all ps i
fault_as {k = k} {ps = ps} first to from =
    let n = first.count in
    let said = to first.some.0 first.some.1 in
    let shared = subst (λ (ls : List (List ℕ)). Shares n (drop k ps) (ended ls)) (sym said.2) first.some.2 in record {
      count = n;
      at = first.at;
      some = (said.0, said.1, shared);
      none = λ m is shared.
          let a = from n m is shared in
          first.none a.0 a.1 (subst (λ (ls : List (List ℕ)). Shares (suc n) (drop k ps) (ended ls)) a.2 shared);
    }

-- the number of a line after another one
pub one_further : (k i j : ℕ) → i ≡ suc (suc k + j) → i ≡ suc (k + suc j)
one_further k i j e = omega arith

-- the line number of a fault
pub error_at : {M : Type 0} (k i : ℕ) → ◌≡◌ {A = Result M ℕ} (Err (suc k)) (Err i) → i ≡ suc (k + 0)
error_at k i e = let same : suc k ≡ i = cc in omega arith

-- a line that is read is terminated
pub line_read_is_ended : {X : Type 0} (k : ℕ) (read : List ℕ → Option X) (text : X → List ℕ) (IsLawful : X → Type 0)
    → IsField read text IsLawful
    → (ps : List (List ℕ)) (x : X) → read (line_of (suc k) ps) ≡ Some x → suc k < length ps
line_read_is_ended {X} k read text IsLawful field ps x e =
    line_is_ended k ps (λ none. none-some x (sym field.empty ∙ ap read (sym none) ∙ e))

-- the pieces from a line on, if that line is read
pub line_read : {X : Type 0} (k : ℕ) (read : List ℕ → Option X) (text : X → List ℕ) (IsLawful : X → Type 0)
    → IsField read text IsLawful
    → (ps : List (List ℕ)) (x : X) → AreBytes ps → read (line_of (suc k) ps) ≡ Some x → drop k ps ≡ text x
    ∷ drop (suc k) ps
line_read k read text IsLawful field ps x fits e =
    line_there k ps (line_read_is_ended k read text IsLawful field ps x e)
    ∙ ap (λ (l : List ℕ). l ∷ drop (suc k) ps) (field.found _ x (fits (suc k)) e).1

-- a line that can't be read isn't shared by any text that begins with a valid line
pub none_shared : {X : Type 0} (k : ℕ) (read : List ℕ → Option X) (text : X → List ℕ) (IsLawful : X → Type 0)
    → IsField read text IsLawful
    → (j : ℕ) (ps : List (List ℕ)) (x : X) (ls lines : List (List ℕ)) → read (line_of (suc k) ps) ≡ None → IsLawful x
    → lines ≡ text x ∷ ls → Shares (suc j) (drop k ps) (ended lines) → ⊥
none_shared k read text IsLawful field j ps x ls lines none lawful is shared =
    let same = (shares_less k j ps (text x) ls lines is shared).0 in
    none-some x (sym none ∙ ap read same ∙ field.again x lawful)

-- ---- other forms of a reading

made_ok : {A B : Type 0} (f : A → B) (r : Result A ℕ) (b : B) → made f r ≡ Ok b → (a : A) × (r ≡ Ok a) × (b ≡ f a)
made_ok f (Ok a) b e = (a, refl, cc)
made_ok f (Err n) b e = absurd cc

made_err : {A B : Type 0} (f : A → B) (r : Result A ℕ) (i : ℕ) → made f r ≡ Err i → r ≡ Err i
made_err f (Ok a) i e = absurd cc
made_err f (Err n) i e = cc

-- values, read as the messages made from them
pub read_as : {A M : Type 0} (k : ℕ) (of : A → M) (read : List (List ℕ) → Result A ℕ) (Is : A → Type 0)
    (lines : A → List (List ℕ)) (Are : M → Type 0) (all : M → List (List ℕ))
    → ((a : A) → Is a → Are (of a) × (all (of a) ≡ lines a)) → ((m : M) → Are m → (a : A) × (m ≡ of a) × Is a)
    → IsReading k read Is lines → IsReading k (λ ps. made of (read ps)) Are all
read_as {A} {M} k of read Is lines Are all to from reading = record {
  some = (of reading.some.0, (to reading.some.0 reading.some.1).0);
  found = λ ps m fits e.
      let value = made_ok of (read ps) m e in
      let is = reading.found ps value.0 fits value.1 in
      let said = to value.0 is.0 in
      (subst Are (sym value.2) said.0, is.1 ∙ ap ended (sym (ap all value.2 ∙ said.1)));
  again = λ ps m is e.
      let a = from m is in
      ap (made of) (reading.again ps a.0 a.2 (e ∙ ap ended (same m is))) ∙ ap (λ (m : M). Ok m) (sym a.1);
  fault = λ ps i fits inside e. fault_as (reading.fault ps i fits inside (made_err of (read ps) i e))
      (λ a is. (of a, (to a is).0, (to a is).1)) (λ j m is _. ((from m is).0, (from m is).2, same m is));
  are_lines = λ m is.
      subst (AllByRecursion IsLine) (sym (same m is)) (reading.are_lines (from m is).0 (from m is).2);
}
  where
    same : (m : M) (is : Are m) → all m ≡ lines (from m is).0
    same m is = let a = from m is in ap all a.1 ∙ (to a.0 a.2).1

-- another form of the same reading
pub same_reading : {M : Type 0} (k : ℕ) (read also : List (List ℕ) → Result M ℕ) (Is : M → Type 0)
    (lines : M → List (List ℕ))
    → ((ps : List (List ℕ)) → read ps ≡ also ps) → IsReading k read Is lines → IsReading k also Is lines
same_reading {M} k read also Is lines same reading =
    subst (λ (r : List (List ℕ) → Result M ℕ). IsReading k r Is lines) (λ i ps. same ps i) reading

-- other forms of the same messages and lines
pub same_messages : {M : Type 0} (k : ℕ) (read : List (List ℕ) → Result M ℕ) (Is Are : M → Type 0)
    (lines all : M → List (List ℕ))
    → ((m : M) → Is m → Are m × (all m ≡ lines m)) → ((m : M) → Are m → Is m) → IsReading k read Is lines
    → IsReading k read Are all
same_messages {M} k read Is Are lines all to from reading =
    same_reading k (λ ps. made (λ m. m) (read ps)) read Are all (λ ps. itself (read ps))
    (read_as k (λ m. m) read Is lines Are all to (λ m is. (m, refl, from m is)) reading)
  where
    itself : (r : Result M ℕ) → made (λ m. m) r ≡ r
    itself (Ok m) = refl
    itself (Err n) = refl

-- another form of the same values, with the same lines
pub same_values : {M : Type 0} {k : ℕ} {read : List (List ℕ) → Result M ℕ} {Is Are : M → Type 0}
    {lines : M → List (List ℕ)} → IsReading k read Is lines → ((m : M) → Is m → Are m) → ((m : M) → Are m → Is m)
    → IsReading k read Are lines
same_values {k = k} {read = read} {Is = Is} {Are = Are} {lines = lines} reading to from =
    same_messages k read Is Are lines lines (λ m is. (to m is, refl)) from reading

-- two tests, one after the other
pub and_then : {P : Type 0} (a b : Bool) → (b ≡ true → P) → (a && b) ≡ true → (a ≡ true) × P
and_then a b more e = let both = and_parts a b e in (both.0, more both.1)
