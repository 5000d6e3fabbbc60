-- What calls over a register leave, in sequence.
use Rattle.std.proofs.Common.{◌≡◌, ◌<◌, ◌^◌, ℕ, List, Option, Result, Ok, Err, refl, sym, subst, inl, inr}
use Rattle.std.specs.Prelude.{IfErr, OnErr, OnOk}
use Rattle.std.specs.List.{flat_map}
use Rattle.std.specs.Io.KnownBytes.{Appends}
use Rattle.wire.specs.Streams.{AppendsBeginning}
use Rattle.guard.specs.declared.judging.Answer.{Answer}
use Rattle.guard.specs.declared.register.Register.{Ghosts}
use Rattle.guard.specs.declared.register.RegisterFault.{RegisterFault}
use Rattle.guard.specs.declared.register.RegisterFault.TheVariants as register
use Rattle.guard.specs.declared.scope.Scope.{Scope}
use Rattle.guard.specs.AnswerLines.{answer_line}
use Rattle.guard.specs.Judged.{AreAnswers, HasCause as IsRegisters}
use Rattle.guard.specs.Machine.{State, Question, after_all}
use Rattle.station_jobs.specs.declared.station_fault.StationFault.{StationFault}
use Rattle.station_jobs.specs.declared.station_fault.StationFault.TheVariants as fault
use Rattle.station_jobs.specs.Faults.{IsOfABody, IsOfAFile, IsOfAnAnswer, IsOfAnInput, IsOfAPolicy, of_register}
use Rattle.station_jobs.specs.Leaving.{HasCause, IsNext, Leaves, OfQuestions, Outlasts, Stays, Step}
use Rattle.station_jobs.specs.Steps.{AnswersAll}

-- ---- faults that don't come from a register

pub body_cause : (failed : Type 0) (e : StationFault) → IsOfABody e → HasCause failed e
body_cause failed fault.File h = tt
body_cause failed fault.NoMemory h = tt
body_cause failed fault.Clock h = tt
body_cause failed other h = absurd h

pub file_cause : (failed : Type 0) (e : StationFault) → IsOfAFile e → HasCause failed e
file_cause failed fault.File h = tt
file_cause failed fault.NoMemory h = tt
file_cause failed other h = absurd h

pub policy_cause : (failed : Type 0) (e : StationFault) → IsOfAPolicy e → HasCause failed e
policy_cause failed fault.File h = tt
policy_cause failed fault.NoMemory h = tt
policy_cause failed (fault.BadPolicy line) h = tt
policy_cause failed other h = absurd h

answer_cause : (failed : Type 0) (e : StationFault) → IsOfAnAnswer e → HasCause failed e
answer_cause failed fault.Write h = tt
answer_cause failed fault.NoMemory h = tt
answer_cause failed other h = absurd h

pub input_cause : (failed : Type 0) (e : StationFault) → IsOfAnInput e → HasCause failed e
input_cause failed fault.Input h = tt
input_cause failed fault.File h = tt
input_cause failed fault.NoMemory h = tt
input_cause failed other h = absurd h

-- a fault of a register has its cause
pub register_cause : (failed : Type 0) (e : RegisterFault) → IsRegisters e failed → HasCause failed (of_register e)
register_cause failed register.Device h = h
register_cause failed register.Damaged h = absurd h
register_cause failed register.NoMemory h = tt

-- ---- what is left

outlasts_so : {A : Type 0} (May More : Step → Type 0) (leaves : State → State → Type 0) (t : State)
    (r : Result A StationFault) → ((next : State) → IsNext May t next → IsNext More t next) → Outlasts May leaves t r
    → Outlasts More leaves t r
outlasts_so May More leaves t (Ok x) leads is = is
outlasts_so May More leaves t (Err e) leads is = (is.0, leads is.0 is.1, is.2)

module _ {G : Type 0} (guard : Ghosts G) where
  -- a job that may take each step of another may leave what the other leaves
  pub leaves_so : {A : Type 0} {May More : Step → Type 0} (old new : G) (s t : State) (r : Result A StationFault)
      → ((next : State) → IsNext May t next → IsNext More t next) → Leaves guard May old new s t r
      → Leaves guard More old new s t r
  leaves_so {May = May} {More = More} old new s t r leads is = record {
    kept = is.kept;
    lasts = λ left. outlasts_so May More (guard.leaves new) t r leads (is.lasts left);
    cause = is.cause;
  }

  pub stays_same : {May : Step → Type 0} (g : G) (s : State) → guard.keeps g s
      → Leaves {A = Unit {0}} guard May g g s s (Ok tt)
  stays_same g s kept = record { kept = kept; lasts = λ left. left; cause = λ low. tt }

  pub stays_then : (old between new : G) (s : State) → Stays guard old between s → Stays guard between new s
      → Stays guard old new s
  stays_then old between new s first second = record {
    kept = second.kept;
    lasts = λ left. second.lasts (first.lasts left);
    cause = λ low. tt;
  }

  pub fails_same : {May : Step → Type 0} (A : Type 0) (g : G) (s : State) (e : StationFault) → guard.keeps g s
      → HasCause (guard.has_failed g) e → Leaves {A = A} guard May g g s s (Err e)
  fails_same A g s e kept cause = record {
    kept = kept;
    lasts = λ left. (s, inl refl, left);
    cause = λ low. cause;
  }

  pub leaves_then : {A : Type 0} {May : Step → Type 0} (old between new : G)
      (s t u : State) (r : Result A StationFault) → t.scope ≡ s.scope
      → Leaves {A = Unit {0}} guard May old between s t (Ok tt) → Leaves guard May between new t u r
      → Leaves guard May old new s u r
  leaves_then old between new s t u r same first second = record {
    kept = second.kept;
    lasts = λ left. second.lasts (first.lasts left);
    cause = λ low. second.cause (subst (λ (x : Scope). x.last < 2 ^ 63) (sym same) low);
  }

  -- ---- questions that are answered together

  pub unanswered : (old new : G) (s : State) (qs : List Question) (held : Option (List ℕ)) (e : RegisterFault)
      → guard.keeps new s → (guard.leaves old s s → guard.leaves new s (after_all s qs))
      → (s.scope.last < 2 ^ 63 → IsRegisters e (guard.has_failed new))
      → AnswersAll s (Leaves guard (OfQuestions qs) old new s) qs held held (Err (of_register e))
  unanswered old new s qs held e kept crash cause = inr (
    tt,
    record {
      kept = kept;
      lasts = λ left. (after_all s qs, inr (inl (qs, refl, refl)), crash left);
      cause = λ low. register_cause (guard.has_failed new) e (cause low);
    },
    refl,
  )

  pub answered : (old new : G) (s : State) (qs : List Question) (held holds : Option (List ℕ)) (answers : List Answer)
      (r : Result (Unit {0}) StationFault) → AreAnswers answers s qs → guard.keeps new (after_all s qs)
      → (guard.leaves old s s → guard.leaves new (after_all s qs) (after_all s qs))
      → OnOk r (Appends held holds (flat_map answer_line answers))
      → OnErr r (AppendsBeginning held holds (flat_map answer_line answers)) → IfErr r IsOfAnAnswer
      → AnswersAll s (Leaves guard (OfQuestions qs) old new s) qs held holds r
  answered old new s qs held holds answers (Ok done) are left durable ok err only = inl (record {
    answers = answers;
    are = are;
    left = record { kept = left; lasts = durable; cause = λ low. tt };
    printed = ok;
  })
  answered old new s qs held holds answers (Err e) are left durable ok err only = inl (record {
    answers = answers;
    are = are;
    left = record {
      kept = left;
      lasts = λ l. (after_all s qs, inl refl, durable l);
      cause = λ low. answer_cause (guard.has_failed new) e only;
    };
    printed = err;
  })
