-- What the second output takes.
use Rattle.std.proofs.Common.{◌≡◌, List, Ok, Err, Result, refl, ℕ}
use Rattle.std.specs.Prelude.{IsOk}
use Rattle.std.specs.declared.io.ErrorKind.{ErrorKind}
use Rattle.std.specs.declared.io.ErrorKind.TheVariants.{OutOfMemory}
use Rattle.station_jobs.specs.declared.station_fault.StationFault.{StationFault}
use Rattle.sshstation.specs.Ending.{bad_word_line, no_words_line, status, status_of_no_words}

-- only a job that was done has status 0
pub is_done : (r : Result (Unit {0}) StationFault) → status r ≡ 0 → IsOk r
is_done (Ok done) same = refl
is_done (Err e) same = absurd cc

-- words that are unavailable for another reason than memory
pub not_memory : (kind : ErrorKind) (Told : List ℕ → Type 0) → (kind ≡ OutOfMemory → ⊥) → Told bad_word_line
    → (2 ≡ status_of_no_words kind) × Told (no_words_line kind)
not_memory OutOfMemory Told never told = absurd (never refl)
not_memory kind Told never told = (refl, told)
