use Rattle.office_jobs.proofs.Words.{List, subst, sym, ℕ, ◌≡◌}
use Rattle.std.specs.Prelude.{string_bytes}
use Rattle.office.specs.Openings.{made_opening}
use Rattle.command_line.specs.declared.job.Job.{Job}
use Rattle.office_jobs.specs.Commands.{DoesJob}
use Rattle.office_jobs.specs.Finding.{WithFile}
use Rattle.office_jobs.specs.Whole.{FoundsIn}
use Rattle.office_jobs.proofs.command.done_by.Goals as goal

pub returns-in-Init-clause-does : goal.returns-in-Init-clause-does
returns-in-Init-clause-does g c =
    let it = c.in-Init in
    let held = g.O.Sink.taken c.args.out in
    let holds = g.O.Sink.taken c.found_at.result.1 in
    let Founds : (db ca root station : List ℕ) → Type 0 = λ db ca root station.
    WithFile g.W.World g.W.File.Read.remaining c.args.world.now c.found_at.new.world ca
    (λ text opened. FoundsIn g.S.Store g.W.World g.W.Incoming.Listener.book opened c.found_at.new.world db
    (λ key. made_opening key root station it.first it.last) text held holds) (holds ≡ held) c.found_at.result.0 in
    subst (λ (job : Job). DoesJob g.S.Store g.W.World g.W.File.Read.remaining g.W.Incoming.Listener.book
    c.args.world.now c.found_at.new.world job held holds c.found_at.result.0) (sym it.is)
    (subst (λ (x : List ℕ). Founds (string_bytes it.db) (string_bytes it.ca) (string_bytes it.root) x)
    c.as_str-in-Init.ensures.value
    (subst (λ (x : List ℕ). Founds (string_bytes it.db) (string_bytes it.ca) x c.as_str-in-Init.result.now)
    c.as_str.ensures.value
    (subst (λ (x : List ℕ). Founds (string_bytes it.db) x c.as_str.result.now c.as_str-in-Init.result.now)
    c.as_str-in-Init-3.ensures.value
    (subst (λ (x : List ℕ). Founds x c.as_str-in-Init-3.result.now c.as_str.result.now c.as_str-in-Init.result.now)
    c.as_str-in-Init-2.ensures.value c.found_at.ensures.founds))))
