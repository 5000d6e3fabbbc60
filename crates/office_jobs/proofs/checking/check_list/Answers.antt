use Rattle.office_jobs.proofs.Words.{Err, IfSome, JobFault, List, None, Option, Result, Some, refl, subst, ℕ, ◌∙◌, ◌≡◌}
use Rattle.krl.specs.Faults.{FirstFault}
use Rattle.krl.specs.declared.krl_fault.KrlFault.{KrlFault}
use Rattle.office_jobs.specs.declared.job_fault.JobFault.TheVariants as job
use Rattle.office_jobs.proofs.checking.check_list.Goals as goal

-- the reported fault is the first one of the bytes that were read
first_told : (left : Option (List ℕ)) (looked read : List ℕ) (found f : KrlFault) (told : JobFault)
    (done : Result Unit JobFault)
    → told ≡ job.List found → done ≡ Err told → done ≡ Err (job.List f) → looked ≡ read
    → IfSome left (λ bytes. read ≡ bytes)
    → FirstFault looked found → IfSome left (λ bytes. FirstFault bytes f)
first_told None looked read found f told done of_list failed listed same whole first = tt
first_told (Some bytes) looked read found f told done of_list failed listed same whole first =
    let one : found ≡ f = cc in
    subst (λ (g : KrlFault). FirstFault bytes g) one (subst (λ (b : List ℕ). FirstFault b found) (same ∙ whole) first)

pub returns-clause-fault : goal.returns-clause-fault
returns-clause-fault g c = λ f failed.
    first_told (g.R.Read.remaining c.args.list) c.as_slice.result.now c.in_ok-bytes.bytes.items c.in-Err.fault f
    c.from.result
    (Err c.from.result) c.from.ensures refl failed c.as_slice.ensures.value c.in_ok-bytes.ensures.whole
    c.in-Err.ensures.fault
