-- What the second output takes.
use Rattle.office_jobs.proofs.Words.{Appends, AppendsBeginning, Err, ErrorKind, IfErr, JobFault, List, None, Ok, OnOk, Option, Result}
use Rattle.office_jobs.proofs.Words.{Some, Write, [], append_assoc, ap, arith, inl, inr, length, refl, subst, sym, ℕ, ◌++◌, ◌<◌}
use Rattle.office_jobs.proofs.Words.{◌≡◌, ◌≤◌}
use Rattle.std.proofs.Common.{append-nil}
use Rattle.std.proofs.lemmas.List.{take_all}
use Rattle.std.proofs.KnownBytes.{Appends-trans}
use Rattle.std.specs.Io.KnownBytes.{Keeps}
use Rattle.std.specs.Prelude.{IsOk, OnErr}
use Rattle.office_jobs.specs.Ending.{status}
use Rattle.std.specs.declared.io.ErrorKind.TheVariants.{OutOfMemory}
use Rattle.office_jobs.specs.Names.{Takes, bad_word_line, fault_line, result_line}
use Rattle.office_jobs.specs.Words.{Shows, no_words_line, status_of_no_words}

appends_none : (taken : Option (List ℕ)) → Appends taken taken []
appends_none None = tt
appends_none (Some xs) = sym (append-nil xs)

-- an output to which nothing was printed
pub takes_none : (failed : ℕ) (taken : Option (List ℕ)) → Takes failed failed taken taken []
takes_none failed taken same = appends_none taken

pub takes_same : {E : Type 0} (failed : E → ℕ) (taken : E → Option (List ℕ)) (old new : E) → new ≡ old
    → Takes (failed old) (failed new) (taken old) (taken new) []
takes_same failed taken old new same =
    subst (λ it. Takes (failed old) (failed it) (taken old) (taken it) []) (sym same)
    (takes_none (failed old) (taken old))

pub OnErr-weaker : {A F : Type 0} {P Q : Type 0} (r : Result A F) → (P → Q) → OnErr r P → OnErr r Q
OnErr-weaker (Ok x) f p = tt
OnErr-weaker (Err e) f p = f p

-- what was said, if nothing was said in the case of a fault
pub said_in : (r : Result ℕ JobFault) (Told Serves : List ℕ → Type 0)
    → OnOk r ((said : List ℕ) × Told said × Serves said) → OnErr r (Serves []) → OnErr r (Told [])
    → (said : List ℕ) × Told said × Serves said
said_in (Ok status) Told Serves ok err none = ok
said_in (Err e) Told Serves ok err none = ([], none, err)

-- nothing more is printed
pub takes_all : (failed failed' : ℕ) (taken taken' : Option (List ℕ)) (text : List ℕ)
    → Takes failed failed' taken taken' text → Takes failed failed' taken taken' (text ++ [])
takes_all failed failed' taken taken' text takes =
    subst (Takes failed failed' taken taken') (sym (append-nil text)) takes

-- One text and then another, to an output that hadn't failed before. Only an output that can count one more failure is
-- asked to take the second.
pub takes_both : (failed failed' failed'' most : ℕ) (taken taken' taken'' : Option (List ℕ)) (text more : List ℕ)
    → failed ≡ 0 → 0 < most → failed' ≤ failed'' → Takes failed failed' taken taken' text
    → (failed' < most → Takes failed' failed'' taken' taken'' more)
    → Takes failed failed'' taken taken'' (text ++ more)
takes_both failed failed' failed'' most taken taken' taken'' text more none some least first then same =
    let is : failed' ≡ failed = omega (arith, none, least, same) in
    let room : failed' < most = omega (arith, none, is, some) in
    let last : failed'' ≡ failed' = omega (arith, is, same) in
    Appends-trans taken taken' taken'' text more (first is) (then room last)

-- the line of a job's result
pub told_of : (Told : List ℕ → Type 0) (said : List ℕ) (result other : Result ℕ JobFault) → result ≡ other
    → Told (said ++ result_line other) → Told (said ++ result_line result)
told_of Told said result other same told =
    subst (λ (r : Result ℕ JobFault). Told (said ++ result_line r)) (sym same) told

-- the whole text is a beginning of it
pub begins_whole : (held holds : Option (List ℕ)) (text : List ℕ) → Appends held holds text
    → AppendsBeginning held holds text
begins_whole held holds text all = record {
  count = length text;
  grown = subst (Appends held holds) (sym (take_all (length text) text (omega arith))) all;
}

-- a text that was asked for
pub shows : (shown ended : Result Unit JobFault) (text : List ℕ) (held between holds : Option (List ℕ)) (is : ℕ)
    (Told : List ℕ → Type 0) (Heeded : Result ℕ JobFault → Type 0) → OnOk shown (Appends held between text)
    → OnErr shown (AppendsBeginning held between text) → IfErr shown (λ e. e ≡ Write)
    → IfErr shown (λ e. ended ≡ Err e) → (IsOk shown → IfErr ended (λ e. e ≡ Write)) → Keeps between holds
    → is ≡ status ended → (IsOk ended → Told []) → IfErr ended (λ fault. Told (fault_line fault))
    → (IsOk ended → Heeded (Ok 0)) → (ended ≡ Err Write → Heeded (Err Write))
    → Shows text held holds Told Heeded is
shows (Ok x) (Ok y) text held between holds is Told Heeded printed part only fault ok kept same silent told done lost =
    (between, kept, inl (same, silent refl, printed, done refl))
shows (Ok x) (Err e) text held between holds is Told Heeded printed part only fault ok kept same silent told done lost =
    let write : e ≡ Write = ok refl in (
      between,
      kept,
      inr (
        same,
        subst (λ (e : JobFault). Told (fault_line e)) write told,
        begins_whole held between text printed,
        lost (ap Err write),
      ),
    )
shows (Err e) (Ok y) text held between holds is Told Heeded printed part only fault ok kept same silent told done lost =
    absurd cc
shows (Err e) (Err e') text held between holds is Told Heeded printed part only fault ok kept same silent told done lost =
    let write : e' ≡ Write = cc in (
      between,
      kept,
      inr (same, subst (λ (e : JobFault). Told (fault_line e)) write told, part, lost (ap Err write)),
    )

-- ---- a line that is printed in pieces, of which the last may fail

pub in_two : {X E : Type 0} (a b c : Option (List ℕ)) (p p' q : List ℕ) (result : Result X E) → p ≡ p' → Appends a b p
    → OnOk result (Appends b c q) → OnOk result (Appends a c (p' ++ q))
in_two a b c p p' q (Ok x) same one two =
    Appends-trans a b c p' q (subst (λ (t : List ℕ). Appends a b t) same one) two
in_two a b c p p' q (Err e) same one two = tt

pub in_three : {X E : Type 0} (a b c d : Option (List ℕ)) (p q r : List ℕ) (result : Result X E) → Appends a b p
    → Appends b c q → OnOk result (Appends c d r) → OnOk result (Appends a d (p ++ (q ++ r)))
in_three a b c d p q r (Ok x) one two three =
    Appends-trans a b d p (q ++ r) one (Appends-trans b c d q r two three)
in_three a b c d p q r (Err e) one two three = tt

-- the same, if the first two pieces are printed by one call
pub in_two_then : {X E : Type 0} (a b c : Option (List ℕ)) (p q r : List ℕ) (result : Result X E)
    → Appends a b (p ++ q) → OnOk result (Appends b c r) → OnOk result (Appends a c (p ++ (q ++ r)))
in_two_then a b c p q r (Ok x) one two =
    subst (λ (t : List ℕ). Appends a c t) (append_assoc p q r) (Appends-trans a b c (p ++ q) r one two)
in_two_then a b c p q r (Err e) one two = tt

-- ---- arguments that can't be read

pub not_memory : (kind : ErrorKind) (Told : List ℕ → Type 0) → (kind ≡ OutOfMemory → ⊥) → Told bad_word_line
    → (2 ≡ status_of_no_words kind) × Told (no_words_line kind)
not_memory OutOfMemory Told never told = absurd (never refl)
not_memory kind Told never told = (refl, told)
