-- Batches from an input, and judging the unsigned certificates (bodies) of them.
use Rattle.std.proofs.Common.{◌≡◌, ◌≤◌, ◌++◌, ◌∷◌, [], ℕ, List, Bool, true, false, cond, Option, Some, None, Result, Ok, Err}
use Rattle.std.proofs.Common.{All, IfSome, append_assoc, arith, drop, length, refl, sym, ap, subst, take, ◌∙◌, inl, inr}
use Rattle.std.proofs.Common.{◌==◌}
use Rattle.std.specs.Prelude.{bytes_eq, codes}
use Rattle.std.specs.List.{flat_map}
use Rattle.std.specs.Io.BufRead.{drop_through, take_through}
use Rattle.std.specs.Io.KnownBytes.{Consumes, IsAtEnd}
use Rattle.std.proofs.KnownBytes.{Consumes-nil, Consumes-trans}
use Rattle.std.proofs.lemmas.List.{append-nil, take-append-drop}
use Rattle.std.proofs.lemmas.List.Concat.{flat_map-append}
use Rattle.std.proofs.lemmas.List.Elements.{All-nil, All-push}
use Rattle.std.proofs.lemmas.Slice.Eq.{bytes_eq-Decides}
use Rattle.message.specs.Reading.{rest_after}
use Rattle.guard.specs.declared.register.Register.{Ghosts}
use Rattle.guard.specs.Machine.{State, Question}
use Rattle.station_jobs.specs.declared.station_fault.StationFault.{StationFault}
use Rattle.station_jobs.specs.declared.station_fault.StationFault.TheVariants.{File}
use Rattle.station_jobs.specs.Input.{AreBatches, HasLength, IsBatch, JudgesInput, JudgesNext, TakesBatch, TakesLine}
use Rattle.station_jobs.specs.Input.{batch_text, body_text, number_line}
use Rattle.station_jobs.specs.Judging.{Judges, left_by}
use Rattle.station_jobs.specs.Leaving.{Leaves, Step}
use Rattle.station_jobs.proofs.Judgements.{fault_first, judged_then, none_judged}
use Rattle.station_jobs.proofs.Leavings.{fails_same}

-- ---- lines

line_and_rest : (text : List ℕ) → text ≡ take_through 10 text ++ drop_through 10 text
line_and_rest [] = refl
line_and_rest (b ∷ text) = by_test (b == 10) (line_and_rest text)
  where
    by_test : (t : Bool) → text ≡ take_through 10 text ++ drop_through 10 text
        → (b ∷ text) ≡ cond t (b ∷ []) (b ∷ take_through 10 text) ++ cond t text (drop_through 10 text)
    by_test true rest = refl
    by_test false rest = ap (λ (t : List ℕ). b ∷ t) rest

-- a line is removed from the input
pub line_taken : (old new : Option (List ℕ)) (line : List ℕ) → TakesLine old new line → Consumes old new line
line_taken None new line is = tt
line_taken (Some text) None line is = let wrong = is.1 in absurd cc
line_taken (Some text) (Some left) line is =
    let rest = is.1 in
    let same : left ≡ drop_through 10 text = cc in
    subst (λ (l : List ℕ). text ≡ l ++ left) (sym is.0)
    (subst (λ (l : List ℕ). text ≡ take_through 10 text ++ l) (sym same) (line_and_rest text))

-- a text with a first line isn't empty
has_line : (text : List ℕ) → take_through 10 text ≡ [] → text ≡ []
has_line [] e = refl
has_line (b ∷ text) e = by_test (b == 10) e
  where
    by_test : (t : Bool) → cond t (b ∷ []) (b ∷ take_through 10 text) ≡ [] → (b ∷ text) ≡ []
    by_test true e = absurd cc
    by_test false e = absurd cc

-- an empty line means the end of the input
pub line_at_end : (old new : Option (List ℕ)) (line : List ℕ) → TakesLine old new line → length line ≡ 0 → IsAtEnd old
line_at_end None new line is none = tt
line_at_end (Some text) new [] is none = has_line text (sym is.0)
line_at_end (Some text) new (b ∷ line) is none = absurd (omega (arith, none))

-- the text after a word
pub after_is : (word line text : List ℕ) → rest_after word line ≡ Some text → line ≡ word ++ text
after_is word line text e = by_test (bytes_eq (take (length word) line) word) refl e
  where
    by_test : (b : Bool) → bytes_eq (take (length word) line) word ≡ b
        → cond b (Some (drop (length word) line)) None ≡ Some text → line ≡ word ++ text
    by_test true is e =
        let rest : drop (length word) line ≡ text = cc in
        sym (take-append-drop (length word) line)
        ∙ (ap (λ (t : List ℕ). t ++ drop (length word) line) ((bytes_eq-Decides _ _).0 is)
        ∙ ap (λ (t : List ℕ). word ++ t) rest)
    by_test false is e = absurd cc

-- ---- bodies

-- a line with a length, and then so many bytes
pub body_taken : (old mid new : Option (List ℕ)) (line bytes : List ℕ) (n : ℕ) → line ≡ number_line n
    → length bytes ≡ n → Consumes old mid line → Consumes mid new bytes → Consumes old new (body_text bytes)
body_taken old mid new line bytes n is size first second =
    subst (λ (t : List ℕ). Consumes old new (t ++ bytes)) (is ∙ ap number_line (sym size))
    (Consumes-trans old mid new line bytes first second)

pub one_more_body : (old mid new : Option (List ℕ)) (bodies : List (List ℕ)) (body : List ℕ)
    → Consumes old mid (flat_map body_text bodies) → Consumes mid new (body_text body)
    → Consumes old new (flat_map body_text (bodies ++ body ∷ []))
one_more_body old mid new bodies body first second =
    subst (Consumes old new)
    (sym (flat_map-append body_text bodies (body ∷ []) ∙ ap (λ (t : List ℕ). flat_map body_text bodies ++ t)
    (append-nil (body_text body))))
    (Consumes-trans old mid new (flat_map body_text bodies) (body_text body) first second)

pub batch_taken : (old mid new : Option (List ℕ)) (line : List ℕ) (bodies : List (List ℕ)) (n : ℕ)
    → line ≡ codes "judge " ++ number_line n → (1 ≤ n) × (n ≤ 64) → length bodies ≡ n → All HasLength bodies
    → Consumes old mid line → Consumes mid new (flat_map body_text bodies) → TakesBatch old new bodies
batch_taken old mid new line bodies n is range many lengths first second = (
  record {
    least = subst (λ (m : ℕ). 1 ≤ m) (sym many) range.0;
    most = subst (λ (m : ℕ). m ≤ 64) (sym many) range.1;
    lengths = lengths;
  },
  subst (λ (t : List ℕ). Consumes old new (t ++ flat_map body_text bodies))
      (is ∙ ap (λ (m : ℕ). codes "judge " ++ number_line m) (sym many))
      (Consumes-trans old mid new line (flat_map body_text bodies) first second),
)

-- ---- judging batches in turn

abbrev flat : List (List (List ℕ)) → List (List ℕ)
flat batches = flat_map (λ bodies. bodies) batches

flat_more : (batches : List (List (List ℕ))) (bodies : List (List ℕ)) → flat batches ++ bodies ≡ flat (batches ++ bodies ∷ [])
flat_more batches bodies =
    sym (flat_map-append (λ (b : List (List ℕ)). b) batches (bodies ∷ [])
    ∙ ap (λ (bs : List (List ℕ)). flat batches ++ bs) (append-nil bodies))

-- exactly these batches were taken
abbrev Taken : (input now : Option (List ℕ)) → List (List (List ℕ)) → Type 0
Taken input now batches = All IsBatch batches × Consumes input now (flat_map batch_text batches)

-- the bodies of the first batches of an input were judged
pub record Underway (s : State) (Left : State → Result (Unit {0}) StationFault → Type 0)
    (Asked : List ℕ → Question → Type 0) (input now held holds : Option (List ℕ)) : Type 0 where
  pub batches : List (List (List ℕ))
  pub taken : Taken input now batches
  pub judges : Judges 64 s Left Asked (flat batches) held holds (Ok tt)

pub starts : (Left : State → Result (Unit {0}) StationFault → Type 0) (Asked : List ℕ → Question → Type 0) (s : State)
    (input held : Option (List ℕ)) → Left s (Ok tt) → Underway s Left Asked input input held held
starts Left Asked s input held left = record {
  batches = [];
  taken = (All-nil IsBatch, Consumes-nil input);
  judges = none_judged Left Asked s held left;
}

one_taken : (input mid now : Option (List ℕ)) (batches : List (List (List ℕ))) (bodies : List (List ℕ))
    → Taken input mid batches → TakesBatch mid now bodies → Taken input now (batches ++ bodies ∷ [])
one_taken input mid now batches bodies taken takes = (
  All-push IsBatch batches bodies taken.0 takes.0,
  subst (Consumes input now)
      (sym (flat_map-append batch_text batches (bodies ∷ []) ∙ ap (λ (t : List ℕ). flat_map batch_text batches ++ t)
      (append-nil (batch_text bodies))))
      (Consumes-trans input mid now (flat_map batch_text batches) (batch_text bodies) taken.1 takes.1),
)

pub goes_on : {G A : Type 0} {May : Step → Type 0} (guard : Ghosts G) (old between new : G)
    (Asked : List ℕ → Question → Type 0) (s : State) (input mid now held so_far holds : Option (List ℕ)) (x : A)
    (first : Underway s (Leaves guard May old between s) Asked input mid held so_far)
    → JudgesNext (left_by s first.judges.judged) (Leaves guard May between new (left_by s first.judges.judged)) Asked
    mid
    now so_far holds (Ok (Some x)) → Underway s (Leaves guard May old new s) Asked input now held holds
goes_on {May = May} guard old between new Asked s input mid now held so_far holds x first (bodies, takes, judges) = record {
  batches = first.batches ++ bodies ∷ [];
  taken = one_taken input mid now first.batches bodies first.taken takes;
  judges = subst (λ (given : List (List ℕ)). Judges 64 s (Leaves guard May old new s) Asked given held holds (Ok tt))
      (flat_more first.batches bodies)
      (judged_then guard old between new Asked s (flat first.batches) bodies held so_far holds (Ok tt) first.judges judges);
}

all_taken : (input now : Option (List ℕ)) (batches : List (List (List ℕ))) → Taken input now batches → IsAtEnd now
    → IfSome input (λ text. AreBatches batches text (Ok tt))
all_taken None now batches taken end = tt
all_taken (Some text) None batches taken end = absurd taken.1
all_taken (Some text) (Some rest) batches taken end = (
  taken.0,
  taken.1 ∙ (ap (λ (t : List ℕ). flat_map batch_text batches ++ t) end ∙ append-nil (flat_map batch_text batches)),
)

some_taken : (input now : Option (List ℕ)) (batches : List (List (List ℕ))) (e : StationFault) → Taken input now batches
    → IfSome input (λ text. AreBatches batches text (Err e))
some_taken None now batches e taken = tt
some_taken (Some text) None batches e taken = absurd taken.1
some_taken (Some text) (Some rest) batches e taken = (taken.0, (rest, taken.1))

pub ends : {G : Type 0} {May : Step → Type 0} (A : Type 0) (guard : Ghosts G) (old between new : G)
    (Asked : List ℕ → Question → Type 0) (s : State) (input mid now held so_far holds : Option (List ℕ))
    (first : Underway s (Leaves guard May old between s) Asked input mid held so_far)
    → JudgesNext {A = A} (left_by s first.judges.judged) (Leaves guard May between new (left_by s first.judges.judged))
    Asked mid now so_far holds (Ok None) → JudgesInput s (Leaves guard May old new s) Asked input held holds (Ok tt)
ends {May = May} A guard old between new Asked s input mid now held so_far holds first (end, left, same) = record {
  batches = first.batches;
  are = all_taken input mid first.batches first.taken end;
  judges = subst (λ (given : List (List ℕ)). Judges 64 s (Leaves guard May old new s) Asked given held holds (Ok tt))
      (append-nil (flat first.batches))
      (judged_then guard old between new Asked s (flat first.batches) [] held so_far holds (Ok tt) first.judges
      (subst (λ (h : Option (List ℕ)). Judges 64 t (Leaves guard May between new t) Asked [] so_far h (Ok tt)) (sym same)
      (none_judged (Leaves guard May between new t) Asked t so_far left)));
}
  where
    t : State
    t = left_by s first.judges.judged

pub fails : {G : Type 0} {May : Step → Type 0} (A : Type 0) (guard : Ghosts G) (old between new : G)
    (Asked : List ℕ → Question → Type 0) (s : State) (input mid now held so_far holds : Option (List ℕ))
    (e : StationFault)
    (first : Underway s (Leaves guard May old between s) Asked input mid held so_far)
    → JudgesNext {A = A} (left_by s first.judges.judged) (Leaves guard May between new (left_by s first.judges.judged))
    Asked mid now so_far holds (Err e) → JudgesInput s (Leaves guard May old new s) Asked input held holds (Err e)
fails {May = May} A guard old between new Asked s input mid now held so_far holds e first (inl is) = record {
  batches = first.batches ++ is.0 ∷ [];
  are = some_taken input now (first.batches ++ is.0 ∷ []) e
      (one_taken input mid now first.batches is.0 first.taken is.1);
  judges = subst (λ (given : List (List ℕ)). Judges 64 s (Leaves guard May old new s) Asked given held holds (Err e))
      (flat_more first.batches is.0)
      (judged_then guard old between new Asked s (flat first.batches) is.0 held so_far holds (Err e) first.judges is.2);
}
fails {May = May} A guard old between new Asked s input mid now held so_far holds e first (inr (left, same)) = record {
  batches = first.batches;
  are = some_taken input mid first.batches e first.taken;
  judges = subst (λ (given : List (List ℕ)). Judges 64 s (Leaves guard May old new s) Asked given held holds (Err e))
      (append-nil (flat first.batches))
      (judged_then guard old between new Asked s (flat first.batches) [] held so_far holds (Err e) first.judges
      (subst (λ (h : Option (List ℕ)). Judges 64 t (Leaves guard May between new t) Asked [] so_far h (Err e)) (sym same)
      (fault_first (Leaves guard May between new t) Asked t [] so_far e left)));
}
  where
    t : State
    t = left_by s first.judges.judged

-- the end of the input was never reached
pub stops : {G : Type 0} {May : Step → Type 0} (guard : Ghosts G) (old new : G) (Asked : List ℕ → Question → Type 0)
    (s : State) (input now held holds : Option (List ℕ))
    (first : Underway s (Leaves guard May old new s) Asked input now held holds)
    → JudgesInput s (Leaves guard May old new s) Asked input held holds (Err File)
stops guard old new Asked s input now held holds first =
    fails (Unit {0}) guard old new new Asked s input now now held holds holds File first
    (inr (fails_same guard (Unit {0}) new (left_by s first.judges.judged) File first.judges.left.kept tt, refl))
