-- How often calls of the output have failed.
use Rattle.office_jobs.proofs.Words.{EndFault, Err, Heeds, JobFault, Ok, Result, StoreFault, Write, failures_after}
use Rattle.office_jobs.proofs.Words.{BadExchange, Fault, File, IsOfExchanges, IsUnwritten, KeyLine, List, NoMemory}
use Rattle.office_jobs.proofs.Words.{Opening, Option, arith, inl, inr, of_store, refl, subst, sym, ℕ, ◌+◌, ◌<◌, ◌∙◌, ◌≡◌}
use Rattle.office_jobs.proofs.Words.{◌≤◌}
use Rattle.std.specs.Prelude.{IfErr, IsOk}
use Rattle.sqlite.specs.declared.error.Error.{Error}
use Rattle.sqlite.specs.declared.error.Error.TheVariants.{SqliteFailure}
use Rattle.sqlite.specs.declared.error.ErrorCode.TheVariants.{OutOfMemory}
use Rattle.office.specs.declared.opening.OpeningFault.{OpeningFault}
use Rattle.office.specs.declared.store_fault.StoreFault.TheVariants as store
use Rattle.files.specs.declared.ending.EndFault.TheVariants.{GivenUp, Uncopied}
use Rattle.office_jobs.specs.declared.job_fault.JobFault.TheVariants.{Line, Store}
use Rattle.office_jobs.specs.declared.job_fault.JobFault.TheVariants as fault
use Rattle.office_jobs.specs.Commands.{IsFlushed}
use Rattle.office_jobs.specs.Ending.{closed, of_database, of_end}
use Rattle.office_jobs.specs.Faults.{IsOfAFile, IsOfAnOpening, IsOfOpening}
use Rattle.office_jobs.specs.Reading.{HasNoKey}
use Rattle.office_jobs.specs.Whole.{GivesOpening, IsKeyOf}

-- ---- faults that aren't the output's

pub of_a_store : (e : StoreFault) → IsUnwritten (of_store e)
of_a_store store.NoMemory = tt
of_a_store store.Device = tt
of_a_store store.AlreadyAnOffice = tt
of_a_store store.NotAnOffice = tt
of_a_store store.WrongSchema = tt
of_a_store store.Damaged = tt

pub of_a_file : (e : JobFault) → IsOfAFile e → IsUnwritten e
of_a_file Write h = absurd h
of_a_file other h = tt

pub of_exchanges : (e : JobFault) → IsOfExchanges e → IsUnwritten e
of_exchanges Write h = absurd h
of_exchanges other h = tt

pub of_no_key : (file : Option (List ℕ)) (e : JobFault) → HasNoKey file e → IsUnwritten e
of_no_key file Write h = absurd h
of_no_key file other h = tt

pub of_an_opening : (due : Result Opening OpeningFault) (e : JobFault) → IsOfAnOpening due e → IsUnwritten e
of_an_opening due Write h = absurd h
of_an_opening due other h = tt

pub of_no_opening : (file : Option (List ℕ)) (due : List ℕ → Result Opening OpeningFault) (e : JobFault)
    → GivesOpening file due (Err e) → IsUnwritten e
of_no_opening file due e (inl none) = of_no_key file e none
of_no_opening file due e (inr it) = of_an_opening (due it.0.key) e it.2

pub of_opening : (e : JobFault) → IsOfOpening e → IsUnwritten e
of_opening Write h = absurd h
of_opening other h = tt

of_a_database : (e : Error) → IsUnwritten (of_database e)
of_a_database (SqliteFailure OutOfMemory) = tt
of_a_database other = tt

of_an_end : (e : EndFault) → IsUnwritten (of_end e)
of_an_end (GivenUp e) = of_a_database e
of_an_end (Uncopied e) = of_a_database e

-- ---- the count

-- such a fault leaves the count as it was
pub uncounted : (A : Type 0) (n : ℕ) (e : JobFault) → IsUnwritten e → n ≡ failures_after {A = A} n (Err e)
uncounted A n Write h = absurd h
uncounted A n other h = refl

-- the same for a fault that is known by another name
pub uncounted_as : (A : Type 0) (n : ℕ) (e f : JobFault) → f ≡ e → IsUnwritten e → n ≡ failures_after {A = A} n (Err f)
uncounted_as A n e f same h =
    subst (λ (f : JobFault). n ≡ failures_after {A = A} n (Err f)) (sym same) (uncounted A n e h)

-- the same for any result
pub uncounted_if : {A : Type 0} (n : ℕ) (r : Result A JobFault) → IfErr r IsUnwritten → n ≡ failures_after n r
uncounted_if n (Ok x) h = refl
uncounted_if {A} n (Err e) h = uncounted A n e h

-- at most one more
pub at_most_one : {A : Type 0} (n : ℕ) (r : Result A JobFault) → failures_after n r ≤ n + 1
at_most_one n (Ok x) = omega arith
at_most_one n (Err Write) = omega arith
at_most_one n (Err other) = omega arith

-- no more if there was no fault
pub none_if_done : {A : Type 0} (n : ℕ) (r : Result A JobFault) → IsOk r → failures_after n r ≡ n
none_if_done n (Ok x) done = refl
none_if_done n (Err e) done = absurd cc

-- closing the database doesn't count
pub closed_counts : {A : Type 0} (n : ℕ) (done : Result A JobFault) (closing : Result (Unit {0}) EndFault)
    → failures_after n (closed done closing) ≡ failures_after n done
closed_counts n (Err e) closing = refl
closed_counts n (Ok x) (Ok u) = refl
closed_counts {A} n (Ok x) (Err e) = sym (uncounted A n (of_end e) (of_an_end e))

-- ---- heeding it

pub heeds_unwritten : (A : Type 0) (n m : ℕ) (flushed : Type 0) (e : JobFault) → IsUnwritten e
    → Heeds {A = A} n m flushed (Err e)
heeds_unwritten A n m flushed Write h = absurd h
heeds_unwritten A n m flushed other h = tt

pub heeds_as : (A : Type 0) (n m : ℕ) (flushed : Type 0) (e f : JobFault) → f ≡ e → IsUnwritten e
    → Heeds {A = A} n m flushed (Err f)
heeds_as A n m flushed e f same h =
    subst (λ (f : JobFault). Heeds {A = A} n m flushed (Err f)) (sym same) (heeds_unwritten A n m flushed e h)

pub closed_heeds : {A : Type 0} (n m : ℕ) (flushed : Type 0) (done : Result A JobFault)
    (closing : Result (Unit {0}) EndFault) → Heeds n m flushed done → Heeds n m flushed (closed done closing)
closed_heeds n m flushed (Err e) closing h = h
closed_heeds n m flushed (Ok x) (Ok u) h = h
closed_heeds {A} n m flushed (Ok x) (Err e) h = heeds_unwritten A n m flushed (of_end e) (of_an_end e)

-- a job that printed, and then a flush
pub heeds_whole : (n m k : ℕ) (flushed : Type 0) (done : Result (Unit {0}) JobFault) (result : Result ℕ JobFault)
    → m ≡ failures_after n done → IsFlushed done result → (IsOk done → Heeds m k flushed result) → m ≤ k
    → Heeds n k flushed result
heeds_whole n m k flushed (Ok x) result counts is heeds least =
    subst (λ (it : ℕ). Heeds it k flushed result) counts (heeds refl)
heeds_whole n m k flushed (Err Write) result counts is heeds least =
    subst (λ (r : Result ℕ JobFault). Heeds n k flushed r) (sym is) (omega (arith, counts, least))
heeds_whole n m k flushed (Err other) result counts is heeds least =
    subst (λ (r : Result ℕ JobFault). Heeds n k flushed r) (sym is) tt

-- a text that was printed and then flushed, without a fault
pub whole_of : (n m k : ℕ) (flushed : Type 0) (shown ended : Result (Unit {0}) JobFault) → m ≡ failures_after n shown
    → IfErr shown (λ e. ended ≡ Err e) → (IsOk shown → Heeds m k flushed ended) → IsOk ended
    → Heeds {A = ℕ} n k flushed (Ok 0)
whole_of n m k flushed (Ok x) (Ok y) counts fault heeds done =
    subst (λ (it : ℕ). Heeds {A = ℕ} it k flushed (Ok 0)) counts (heeds refl)
whole_of n m k flushed (Ok x) (Err e) counts fault heeds done = absurd cc
whole_of n m k flushed (Err e) (Ok y) counts fault heeds done = absurd cc
whole_of n m k flushed (Err e) (Err e') counts fault heeds done = absurd cc

-- and with one
pub lost_of : (n m k : ℕ) (flushed : Type 0) (shown ended : Result (Unit {0}) JobFault) → m ≡ failures_after n shown
    → IfErr shown (λ e. e ≡ Write) → IfErr shown (λ e. ended ≡ Err e) → (IsOk shown → Heeds m k flushed ended) → m ≤ k
    → ended ≡ Err Write → Heeds {A = ℕ} n k flushed (Err Write)
lost_of n m k flushed (Ok x) ended counts only fault heeds least is =
    let more : m < k = subst (λ (r : Result (Unit {0}) JobFault). Heeds m k flushed r) is (heeds refl) in
    omega (arith, counts, more)
lost_of n m k flushed (Err e) ended counts only fault heeds least is =
    let one : m ≡ n + 1 = subst (λ (f : JobFault). m ≡ failures_after {A = Unit {0}} n (Err f)) only counts in
    omega (arith, one, least)
