-- The result of a job that isn't a server.
use Rattle.office_jobs.proofs.Words.{Book, Ghosts, Held, JobFault, List, None, Option, Result, Some, [], refl, ℕ, ◌≡◌}
use Rattle.sqlite_trees.specs.declared.store.Store as store
use Rattle.command_line.specs.declared.job.Job.{Job}
use Rattle.command_line.specs.declared.job.Job.TheVariants as job
use Rattle.office_jobs.specs.Commands.{DoesJob, EndsCommand, Runs}

pub not_served : {W File Tables Incoming Reader Writer : Type 0} (store : store.Ghosts Tables)
    (world : Ghosts W File (Held Tables) Incoming Reader Writer) (remaining : File → Option (List ℕ))
    (book : Incoming → Option Book) (w w' : W) (asked : Job) (held holds : Option (List ℕ)) (result : Result ℕ JobFault)
    → ((db : _) (port connections : ℕ) (nonces : _) → asked ≡ job.Serve db port connections nonces → ⊥)
    → EndsCommand (DoesJob store world remaining book w w' asked held) holds result
    → Runs store world remaining book w w' asked held holds [] result
not_served store world remaining book w w' (job.Serve db port connections nonces) held holds result never h =
    absurd (never db port connections nonces refl)
not_served store world remaining book w w' (job.Init db ca root station first last) held holds result never h =
    (h, refl)
not_served store world remaining book w w' (job.Apply None file) held holds result never h = (h, refl)
not_served store world remaining book w w' (job.Apply (Some db) file) held holds result never h = (h, refl)
not_served store world remaining book w w' (job.Krl db) held holds result never h = (h, refl)
not_served store world remaining book w w' (job.Signers db) held holds result never h = (h, refl)
not_served store world remaining book w w' (job.Table db) held holds result never h = (h, refl)
not_served store world remaining book w w' (job.Migrate db) held holds result never h = (h, refl)
not_served store world remaining book w w' (job.Check ca list serial key_id) held holds result never h = (h, refl)
not_served store world remaining book w w' job.Selftest held holds result never h = (h, refl)
