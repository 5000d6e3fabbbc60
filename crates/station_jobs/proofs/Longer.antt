-- A file that is longer than any unsigned certificate: its prefix gets the answer that the whole file would get.
use Rattle.std.proofs.Common.{◌≡◌, ◌<◌, ◌∷◌, [], ℕ, List, Option, Some, None, Result, arith, inl, inr, length, refl, subst}
use Rattle.std.proofs.Common.{ap, sym, take, ◌∙◌}
use Rattle.std.specs.Prelude.{IfSome}
use Rattle.std.proofs.lemmas.Bool.{cases_lt, lt-ltb}
use Rattle.std.proofs.lemmas.List.{length-take, take_all}
use Rattle.guard.specs.declared.body.BodyFault.TheVariants as fault
use Rattle.guard.specs.declared.judging.Answer.{Answer}
use Rattle.guard.specs.declared.judging.Answer.TheVariants as answer
use Rattle.guard.specs.declared.refusal.Refusal.TheVariants.{NotABody}
use Rattle.guard.specs.Judged.{AreAnswers, Answers, IsKept}
use Rattle.guard.specs.Machine.{State, Question, after, fields_of, refusal_of}
use Rattle.station_jobs.specs.declared.station_fault.StationFault.{StationFault}
use Rattle.station_jobs.specs.Steps.{AnswersAll}

abbrev with_body : Question → List ℕ → Question
with_body q bytes = record q { body = bytes }

no_fields : (bytes : List ℕ) → 16384 < length bytes → fields_of bytes ≡ None
no_fields bytes long = rw (lt-ltb 16384 (length bytes) long) refl

refused : (s : State) (q : Question) → fields_of q.body ≡ None → refusal_of s q ≡ Some NotABody
refused s q none = rw none refl

unchanged : (s : State) (q : Question) → fields_of q.body ≡ None → after s q ≡ s
unchanged s q none = rw none refl

module _ (s : State) (q : Question) (bytes : List ℕ) (short : 16384 < length q.body) (long : 16384 < length bytes) where
  was : refusal_of s q ≡ Some NotABody
  was = refused s q (no_fields q.body short)

  is : refusal_of s (with_body q bytes) ≡ Some NotABody
  is = refused s (with_body q bytes) (no_fields bytes long)

  same : after s q ≡ after s (with_body q bytes)
  same = unchanged s q (no_fields q.body short) ∙ sym (unchanged s (with_body q bytes) (no_fields bytes long))

  answers : (a : Answer) → Answers a s q → Answers a s (with_body q bytes)
  answers (answer.Sign serial digest) h = let no = h.0 in let yes = was in absurd cc
  answers (answer.NotABody fault.TooLong) h = (is, long)
  answers (answer.NotABody (fault.NotOfTheProfile e)) h = absurd (let low = h.1.0 in omega (arith, short, low))
  answers (answer.NotABody fault.NoMemory) h = absurd h.1
  answers (answer.Refuse r) h = is ∙ (sym was ∙ h)

  kept : (a : Answer) → Answers a s q → IsKept a (after s (with_body q bytes)) bytes
  kept (answer.Sign serial digest) h = let no = h.0 in let yes = was in absurd cc
  kept (answer.NotABody e) h = tt
  kept (answer.Refuse r) h = tt

  turned : (all : List Answer) → AreAnswers all s (q ∷ []) → AreAnswers all s (with_body q bytes ∷ [])
  turned [] are = absurd are
  turned (a ∷ []) are = (answers a are.0, kept a are.0, tt)
  turned (a ∷ b ∷ all) are = absurd are.2

  answers_all : (Left : State → Result (Unit {0}) StationFault → Type 0) (held holds : Option (List ℕ))
      (r : Result (Unit {0}) StationFault) → AnswersAll s Left (q ∷ []) held holds r
      → AnswersAll s Left (with_body q bytes ∷ []) held holds r
  answers_all Left held holds r (inl one) = inl (record {
    answers = one.answers;
    are = turned one.answers one.are;
    left = subst (λ (t : State). Left t r) same one.left;
    printed = one.printed;
  })
  answers_all Left held holds r (inr not) = inr not

-- the answer is also that to the question about the whole content of a file, of which a prefix was read
pub of_all : (o : Option (List ℕ)) (s : State) (q : Question) (Left : State → Result (Unit {0}) StationFault → Type 0)
    (held holds : Option (List ℕ)) (r : Result (Unit {0}) StationFault) → IfSome o (λ all. q.body ≡ take 16385 all)
    → AnswersAll s Left (q ∷ []) held holds r
    → (bytes : List ℕ) × IfSome o (λ all. bytes ≡ all) × AnswersAll s Left (with_body q bytes ∷ []) held holds r
    × ((t : State) → after t q ≡ after t (with_body q bytes))
of_all None s q Left held holds r read one = (q.body, tt, one, λ t. refl)
of_all (Some all) s q Left held holds r read one = elim (cases_lt 16384 (length all)) [
  | inl long ↦
      let short : 16384 < length q.body = omega (arith, ap (length {A = ℕ}) read, length-take {A = ℕ}, long) in
      (all, refl, answers_all s q all short long Left held holds r one, λ t. same t q all short long)
  | inr low ↦
      let whole : q.body ≡ all = read ∙ take_all 16385 all (omega (arith, low)) in
      (q.body, whole, one, λ t. refl)
]
