use Rattle.office_jobs.proofs.Words.{Err, IfErr, IfOk, IfSome, IsKeyText, JobFault, KeyLine, List, Ok, Opening, Option}
use Rattle.office_jobs.proofs.Words.{Result, inl, inr, ℕ, ◌≡◌}
use Rattle.office_jobs.specs.declared.founding.Founding.{Founding}
use Rattle.office_jobs.specs.Faults.{IsOfAnOpening}
use Rattle.office_jobs.specs.Making.{due_opening}
use Rattle.office_jobs.specs.Whole.{GivesOpening}
use Rattle.office_jobs.proofs.whole.opening_from.Goals as goal

begun : (file : Option (List ℕ)) (f : Founding) (k : KeyLine) (r : Result Opening JobFault)
    → IfSome file (λ text. IsKeyText text k) → IfOk r (λ o. due_opening f k.key ≡ Ok o)
    → IfErr r (IsOfAnOpening (due_opening f k.key)) → GivesOpening file (due_opening f) r
begun file f k (Ok o) read made fault = (k, read, made)
begun file f k (Err e) read made fault = inr (k, read, fault)

pub returns-in-Ok-clause-begins : goal.returns-in-Ok-clause-begins
returns-in-Ok-clause-begins g c =
    begun (g.R.Read.remaining c.args.ca) c.args.founding.now c.in-Ok.ca c.opening_of.result c.in-Ok.ensures.key
    c.opening_of.ensures.made c.opening_of.ensures.fault

pub returns-in-Err-clause-begins : goal.returns-in-Err-clause-begins
returns-in-Err-clause-begins g c = inl c.in-Err.ensures.fault
