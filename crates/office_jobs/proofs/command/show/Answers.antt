use Rattle.office_jobs.proofs.Words.{Appends, AppendsBeginning, Err, Heeds, IfErr-weaker, JobFault, List, Ok, OnOk, Result}
use Rattle.office_jobs.proofs.Words.{Write, arith, failures_after, subst, ℕ, ◌≡◌, ◌≤◌}
use Rattle.std.specs.Prelude.{IsOk, OnErr, string_bytes}
use Rattle.office_jobs.proofs.Counted.{at_most_one, lost_of, whole_of}
use Rattle.office_jobs.proofs.Said.{shows, takes_same}
use Rattle.office_jobs.specs.Names.{Takes}
use Rattle.office_jobs.proofs.command.show.Goals as goal

pub flushed-requires : goal.flushed-requires
flushed-requires g c =
    omega (
      arith,
      c.write_out-shown.ensures.failed,
      c.requires.prints,
      at_most_one (g.O.Sink.failed c.args.out.now) c.write_out-shown.result,
    )

pub returns-clause-shown : goal.returns-clause-shown
returns-clause-shown g c =
    let shown = c.write_out-shown in
    let ended = c.flushed in
    let failed = g.O.Sink.failed in
    shows shown.result ended.result (string_bytes c.args.text.now) _ _ _ c.status_of.result
    (Takes (g.E.Sink.failed c.args.err.now) (g.E.Sink.failed c.status_of.new.err) (g.E.Sink.taken c.args.err.now)
    (g.E.Sink.taken c.status_of.new.err))
    (Heeds (failed c.args.out.now) (failed ended.new.out) (g.O.Output.is_flushed ended.new.out))
    (subst (λ (t : List ℕ). OnOk shown.result (Appends (g.O.Sink.taken c.args.out.now)
    (g.O.Sink.taken shown.new.out) t)) c.as_bytes.ensures.value shown.ensures.ok)
    (subst (λ (t : List ℕ). OnErr shown.result (AppendsBeginning (g.O.Sink.taken c.args.out.now)
    (g.O.Sink.taken shown.new.out) t)) c.as_bytes.ensures.value shown.ensures.part)
    shown.ensures.only ended.ensures.fault ended.ensures.ok ended.ensures.kept c.status_of.ensures.status
    (λ done. takes_same g.E.Sink.failed g.E.Sink.taken c.args.err.now c.status_of.new.err
    (c.status_of.ensures.silent done))
    (IfErr-weaker ended.result _ _ (λ e told. told (omega (arith, c.requires.tells))) c.status_of.ensures.told)
    (whole_of _ (failed shown.new.out) _ _ shown.result ended.result shown.ensures.failed ended.ensures.fault
    ended.ensures.heeds)
    (lost_of _ (failed shown.new.out) _ _ shown.result ended.result shown.ensures.failed shown.ensures.only
    ended.ensures.fault ended.ensures.heeds ended.ensures.least)
