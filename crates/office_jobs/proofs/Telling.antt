-- The bytes read from a file determine how the file is read.
use Rattle.office_jobs.proofs.Words.{Err, File, IfOk, IfSome, IsOfExchanges, JobFault, List, NoMemory, None, Ok, Option}
use Rattle.office_jobs.proofs.Words.{Result, Some, ap, arith, length, subst, sym, ℕ, ◌+◌, ◌<◌, ◌∙◌, ◌≡◌}
use Rattle.std.proofs.Common.{take}
use Rattle.std.specs.Prelude.{min}
use Rattle.std.proofs.lemmas.List.{length-take}
use Rattle.exchanges.specs.declared.exchange_reader.TheConstants.{MAX_FILE}
use Rattle.exchanges.specs.Exchanges.{TellsOf}
use Rattle.exchanges.specs.declared.exchange_reader.ExchangesFault.{ExchangesFault}
use Rattle.exchanges.specs.declared.exchange_reader.ExchangesFault.TheVariants as exchanges
use Rattle.exchanges.proofs.LongFiles.{first_tells}
use Rattle.office_jobs.specs.Faults.{IsOfAFile, of_exchanges}

-- the first `MAX_FILE + 1` bytes were read
pub tells : {T E : Type 0} (items : T → List ℕ) (r : Result T E) (left : Option (List ℕ))
    → IfOk r (λ v. IfSome left (λ bytes. items v ≡ take (MAX_FILE + 1) bytes))
    → IfOk r (λ v. IfSome left (λ file. TellsOf file (items v)))
tells items (Ok v) (Some file) first = subst (TellsOf file) (sym first) (first_tells file)
tells items (Ok v) None first = tt
tells items (Err e) left first = tt

-- a file is longer than this if its first bytes are
pub longer : (most k : ℕ) (read : List ℕ) (left : Option (List ℕ)) → most < length read
    → IfSome left (λ bytes. read ≡ take k bytes) → IfSome left (λ bytes. most < length bytes)
longer most k read (Some bytes) above first =
    let size : length read ≡ min k (length bytes) = ap length first ∙ length-take k bytes in omega (arith, above, size)
longer most k read None above first = tt

-- ---- faults of a file of exchanges

pub of_a_file : (e : JobFault) → IsOfAFile e → IsOfExchanges e
of_a_file File h = tt
of_a_file NoMemory h = tt
of_a_file other h = absurd h

pub of_a_record : (e : ExchangesFault) → IsOfExchanges (of_exchanges e)
of_a_record (exchanges.BadExchange k) = tt
of_a_record exchanges.NoMemory = tt
