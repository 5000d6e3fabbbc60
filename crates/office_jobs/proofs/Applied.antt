-- What is printed for a file, from the responses to its exchanges.
use Rattle.office_jobs.proofs.Words.{Arrival, BadExchange, Bool, Err, Exchange, Fault, IfSome, JobFault, LAST_SERIAL}
use Rattle.office_jobs.proofs.Words.{List, Write, None, Ok, OnOk, Opening, Option, Result, RunFault, Some, [], ap, opening_of}
use Rattle.office_jobs.proofs.Words.{refl, run_result, subst, sym, ℕ, ◌∙◌, ◌∷◌, ◌≡◌}
use Rattle.office_jobs.specs.Trial.{AppliesPartToTrial, AppliesToTrial}
use Rattle.exchanges.specs.Exchanges.{AreExchanges, exchanges_text}
use Rattle.exchanges.specs.declared.running.RunFault.TheVariants as run
use Rattle.exchanges.specs.Printing.{Prints, PrintsBeginning}
use Rattle.office_jobs.specs.TrialOffice.{trial_arrival}

-- The responses of a register that represents the in-memory office (trial office) are the specified ones.
pub applies : (file : List ℕ) (es run : List Exchange) (before after keeps : Opening → List Arrival → Type 0)
    (rows : Type 0) (old new : Option (List ℕ)) (fault : Bool) → run ≡ es → AreExchanges es → file ≡ exchanges_text es
    → before (opening_of 1 LAST_SERIAL) (trial_arrival ∷ []) → Prints before after keeps rows run old new fault
    → AppliesToTrial file old new fault
applies file es run before after keeps rows old new fault same are text shown prints =
    let served = prints.serves (opening_of 1 LAST_SERIAL) (trial_arrival ∷ []) shown in
    record {
      exchanges = run;
      are = subst AreExchanges (sym same) are;
      text = text ∙ ap exchanges_text (sym same);
      given = prints.given;
      last = served.0;
      due = served.1;
      printed = prints.printed;
      faults = prints.faults;
    }

-- The same for a file whose text is known.
pub applies_of : (left : Option (List ℕ)) (es run : List Exchange)
    (before after keeps : Opening → List Arrival → Type 0) (rows : Type 0)
    (old new : Option (List ℕ)) (fault : Bool) → run ≡ es
    → IfSome left (λ file. AreExchanges es × (file ≡ exchanges_text es))
    → before (opening_of 1 LAST_SERIAL) (trial_arrival ∷ []) → Prints before after keeps rows run old new fault
    → IfSome left (λ file. AppliesToTrial file old new fault)
applies_of None es run before after keeps rows old new fault same found shown prints = tt
applies_of (Some file) es run before after keeps rows old new fault same found shown prints =
    applies file es run before after keeps rows old new fault same found.0 found.1 shown prints

-- The same for a beginning of them.
applies_part : (file : List ℕ) (es run : List Exchange) (before after keeps : Opening → List Arrival → Type 0)
    (rows : Type 0) (old new : Option (List ℕ)) → run ≡ es → AreExchanges es → file ≡ exchanges_text es
    → before (opening_of 1 LAST_SERIAL) (trial_arrival ∷ []) → PrintsBeginning before after keeps rows run old new
    → AppliesPartToTrial file old new
applies_part file es run before after keeps rows old new same are text shown prints =
    let served = prints.serves (opening_of 1 LAST_SERIAL) (trial_arrival ∷ []) shown in
    record {
      exchanges = run;
      are = subst AreExchanges (sym same) are;
      text = text ∙ ap exchanges_text (sym same);
      given = prints.given;
      last = served.0;
      due = served.1;
      printed = prints.printed;
    }

pub applies_part_of : (left : Option (List ℕ)) (es run : List Exchange)
    (before after keeps : Opening → List Arrival → Type 0) (rows : Type 0) (old new : Option (List ℕ)) → run ≡ es
    → IfSome left (λ file. AreExchanges es × (file ≡ exchanges_text es))
    → before (opening_of 1 LAST_SERIAL) (trial_arrival ∷ []) → PrintsBeginning before after keeps rows run old new
    → IfSome left (λ file. AppliesPartToTrial file old new)
applies_part_of None es run before after keeps rows old new same found shown prints = tt
applies_part_of (Some file) es run before after keeps rows old new same found shown prints =
    applies_part file es run before after keeps rows old new same found.0 found.1 shown prints

-- A property of a successful batch is a property of the job.
pub of_ok : (r : Result Unit RunFault) (done : Result Unit JobFault) (P : Type 0) → done ≡ run_result r → OnOk r P
    → OnOk done P
of_ok (Ok u) done P same shown = subst (λ (d : Result Unit JobFault). OnOk d P) (sym same) shown
of_ok (Err fault) done P same shown = subst (λ (d : Result Unit JobFault). OnOk d P) (sym same) tt

-- A job that ends with `Fault` ran a batch that ended with `Fault`.
pub was_fault : (r : Result Unit RunFault) → run_result r ≡ Err Fault → r ≡ Err run.Fault
was_fault (Ok done) same = absurd cc
was_fault (Err run.NoMemory) same = absurd cc
was_fault (Err run.Write) same = absurd cc
was_fault (Err run.Fault) same = refl

-- The same for `Write`.
pub was_write : (r : Result Unit RunFault) → run_result r ≡ Err Write → r ≡ Err run.Write
was_write (Ok done) same = absurd cc
was_write (Err run.NoMemory) same = absurd cc
was_write (Err run.Write) same = refl
was_write (Err run.Fault) same = absurd cc

-- Running exchanges finds no bad record.
pub not_bad : (r : Result Unit RunFault) (k : ℕ) → run_result r ≡ Err (BadExchange k) → ⊥
not_bad (Ok done) k same = cc
not_bad (Err run.NoMemory) k same = cc
not_bad (Err run.Write) k same = cc
not_bad (Err run.Fault) k same = cc
