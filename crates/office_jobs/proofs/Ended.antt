-- What is printed about a job once its database is closed.
use Rattle.office_jobs.proofs.Words.{Appends, AppendsBeginning, Err, Follows, IfErr, JobFault, List, Ok, OnOk, Option}
use Rattle.office_jobs.proofs.Words.{Result, Write, refl, ℕ, ◌≡◌}
use Rattle.std.specs.Prelude.{IsOk, OnErr}
use Rattle.server.specs.declared.connection_fault.SelftestFault.{SelftestFault}
use Rattle.office_jobs.specs.Faults.{of_selftest, test_result}
use Rattle.office_jobs.specs.Whole.{PrintsText}

pub told : (text : List ℕ) (held holds : Option (List ℕ)) (done result : Result Unit JobFault)
    → IfErr done (λ e. result ≡ Err e) → IfErr done (λ _. holds ≡ held) → OnOk result (Appends held holds text)
    → (IsOk done → OnErr result (AppendsBeginning held holds text)) → (IsOk done → IfErr result (λ e. e ≡ Write))
    → Follows (λ _. PrintsText text held holds) (holds ≡ held) done result
told text held holds (Err e) result fault silent ok part only = (fault, silent)
told text held holds (Ok x) (Ok y) fault silent ok part only = ok
told text held holds (Ok x) (Err e) fault silent ok part only = (only refl, part refl)

-- what is printed about an office's test of itself
pub test_told : (text : List ℕ) (held holds : Option (List ℕ)) (tested : Result Unit SelftestFault)
    (result : Result Unit JobFault) → IfErr tested (λ e. result ≡ Err (of_selftest e))
    → IfErr tested (λ _. holds ≡ held) → OnOk result (Appends held holds text)
    → (IsOk tested → OnErr result (AppendsBeginning held holds text)) → (IsOk tested → IfErr result (λ e. e ≡ Write))
    → Follows (λ _. PrintsText text held holds) (holds ≡ held) (test_result tested) result
test_told text held holds (Err e) result fault silent ok part only = (fault, silent)
test_told text held holds (Ok x) (Ok y) fault silent ok part only = ok
test_told text held holds (Ok x) (Err e) fault silent ok part only = (only refl, part refl)
