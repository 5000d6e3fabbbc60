-- The ways in which judging a list may end.
use Rattle.std.proofs.Common.{◌≡◌, ◌⊎◌, ℕ, List, Option, Some, Result, Ok, Err, inl, inr, refl}
use Rattle.std.specs.Prelude.{IfErr, OnErr, OnOk}
use Rattle.std.specs.Io.KnownBytes.{Appends}
use Rattle.wire.specs.Streams.{AppendsBeginning}
use Rattle.list_guard.specs.declared.judging.Answer.{Answer}
use Rattle.list_guard.specs.declared.register.ListRegister as register
use Rattle.list_guard.specs.declared.register.RegisterFault.{RegisterFault}
use Rattle.list_guard.specs.declared.register.RegisterFault.TheVariants as list
use Rattle.list_guard.specs.Judged.{Answers, HasCause, IsShort, left_by}
use Rattle.list_guard.specs.Machine.{State, Question, IsLawful}
use Rattle.list_guard.specs.Reported.{LastFault}
use Rattle.list_guard.specs.Reported.{IsOwn as IsOfJudging}
use Rattle.list_guard.specs.Statements.{answer_line}
use Rattle.station_jobs.specs.declared.surroundings.Surroundings as surroundings
use Rattle.station_jobs.specs.declared.station_fault.StationFault.{StationFault}
use Rattle.station_jobs.specs.declared.station_fault.StationFault.TheVariants.{Clock, NoMemory, Write}
use Rattle.station_jobs.specs.Faults.{IsOfAnAnswer}
use Rattle.station_jobs.specs.Reported.{IsOwn}
use Rattle.list_jobs.specs.Stating.{IsOfAStatement, IsPrinted, IsUnjudged, LeavesOne, PassesOn, States, register_fault}

printed : (text : List ℕ) (held holds : Option (List ℕ)) (r : Result (Unit {0}) StationFault)
    → OnOk r (Appends held holds text) → OnErr r (AppendsBeginning held holds text) → IsPrinted text held holds r
printed text held holds (Ok done) ok err = ok
printed text held holds (Err e) ok err = err

-- a fault of a register has its cause
register_cause : (failed : Type 0) (e : RegisterFault) → HasCause e failed → IsUnjudged failed (register_fault e)
register_cause failed list.Device h = h
register_cause failed list.Damaged h = absurd h
register_cause failed list.NoMemory h = tt

-- a fault of judging over the register
passed_on : (before after : LastFault) (e : RegisterFault) → (after ≡ Some e) ⊎ ((after ≡ before) × IsOfJudging e)
    → PassesOn before after (Err (register_fault e))
passed_on before after e (inl is) = inl (e, is, refl)
passed_on before after list.Damaged (inr is) = inr (is.0, tt)
passed_on before after other (inr is) = absurd is.1

-- a fault of the register, or of printing the answer, is one of judging a list
of_the_register : (e : RegisterFault) → IsOfAStatement (register_fault e)
of_the_register list.Device = tt
of_the_register list.Damaged = tt
of_the_register list.NoMemory = tt

of_an_answer : (r : Result (Unit {0}) StationFault) → IfErr r IsOfAnAnswer → IfErr r IsOfAStatement
of_an_answer (Ok done) only = tt
of_an_answer (Err Write) only = tt
of_an_answer (Err NoMemory) only = tt
of_an_answer (Err other) only = absurd only

own_answer : (e : StationFault) → IsOfAnAnswer e → IsOwn e
own_answer Write h = tt
own_answer NoMemory h = tt
own_answer other h = absurd h

-- the register reported nothing, and printing the answer had this result
unreported : (before after : LastFault) (r : Result (Unit {0}) StationFault) → after ≡ before → IfErr r IsOfAnAnswer
    → PassesOn before after r
unreported before after (Ok done) same only = same
unreported before after (Err e) same only = inr (same, own_answer e only)

module _ {E F G : Type 0} (world : surroundings.Ghosts E F) (around : E) (guard : register.Ghosts G) (q : Question) where
  -- the clock gave no valid time
  pub no_moment : (g : G) (held : Option (List ℕ)) → States world around guard q held held g g (Err Clock)
  no_moment g held = record {
    honest = λ h. h;
    states = λ h s stores. inr (Clock, refl, (stores.0, λ lawful short. tt), refl);
    crash = λ h s stores. inl stores.1;
    reported = inr (refl, tt);
    only = tt;
  }

  -- the register didn't answer
  pub unjudged : (old new : G) (held : Option (List ℕ)) (e : RegisterFault) → (guard.is_honest new → guard.is_honest old)
      → (guard.is_honest new → (s : State) → guard.keeps old s → guard.keeps new s)
      → (guard.is_honest new → (s : State) → guard.keeps old s → guard.leaves old s s → LeavesOne s (guard.leaves new) q)
      → (guard.is_honest new → (s : State) → guard.keeps old s → IsLawful s → IsShort q.list
      → HasCause e (guard.has_failed new))
      → (guard.reported new ≡ Some e) ⊎ ((guard.reported new ≡ guard.reported old) × IsOfJudging e)
      → States world around guard q held held old new (Err (register_fault e))
  unjudged old new held e honest kept crash cause reported = record {
    honest = honest;
    states = λ h s stores. inr (
      register_fault e,
      refl,
      (kept h s stores.0, λ lawful short. register_cause (guard.has_failed new) e (cause h s stores.0 lawful short)),
      refl,
    );
    crash = λ h s stores. crash h s stores.0 stores.1;
    reported = passed_on (guard.reported old) (guard.reported new) e reported;
    only = of_the_register e;
  }

  -- the register answered, and printing had this result
  pub judged : (old new : G) (held holds : Option (List ℕ)) (a : Answer) (moment : ℕ) (r : Result (Unit {0}) StationFault)
      → (guard.is_honest new → guard.is_honest old) → world.shows around moment
      → (guard.is_honest new → (s : State) → guard.keeps old s → Answers a s q)
      → (guard.is_honest new → (s : State) → guard.keeps old s → guard.keeps new (left_by a s q))
      → (guard.is_honest new → (s : State) → guard.keeps old s → guard.leaves old s s
      → guard.leaves new (left_by a s q) (left_by a s q))
      → (guard.is_honest new → (s : State) → guard.keeps old s → guard.leaves old s s → LeavesOne s (guard.leaves new) q)
      → OnOk r (Appends held holds (answer_line a moment)) → OnErr r (AppendsBeginning held holds (answer_line a moment))
      → IfErr r IsOfAnAnswer → guard.reported new ≡ guard.reported old
      → States world around guard q held holds old new r
  judged old new held holds a moment r honest shown answers next durable crash ok err only reported = record {
    honest = honest;
    states = λ h s stores. inl (record {
      answer = a;
      moment = moment;
      shown = shown;
      answers = answers h s stores.0;
      left = (next h s stores.0, durable h s stores.0 stores.1);
      printed = printed (answer_line a moment) held holds r ok err;
      only = only;
    });
    crash = λ h s stores. crash h s stores.0 stores.1;
    reported = unreported (guard.reported old) (guard.reported new) r reported only;
    only = of_an_answer r only;
  }
