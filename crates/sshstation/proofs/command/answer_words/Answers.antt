use Rattle.std.proofs.Common.{◌≡◌, ◌∙◌, Err, List, Ok, Option, Result, inl, subst, sym, ℕ}
use Rattle.std.specs.Prelude.{IfErr, OnErr, OnOk}
use Rattle.std.specs.Io.KnownBytes.{Appends}
use Rattle.wire.specs.Streams.{AppendsBeginning}
use Rattle.station_jobs.specs.declared.station_fault.StationFault.{StationFault}
use Rattle.station_jobs.specs.declared.station_fault.StationFault.TheVariants.{Write}
use Rattle.station_jobs.specs.Jobs.{Prints}
use Rattle.sshstation.proofs.Telling.{is_done}
use Rattle.sshstation.proofs.command.answer_words.Goals as goal

prints : (told : List ℕ) (held holds : Option (List ℕ)) (r : Result (Unit {0}) StationFault)
    → OnOk r (Appends held holds told) → OnErr r (AppendsBeginning held holds told) → IfErr r (λ e. e ≡ Write)
    → Prints told held holds r
prints told held holds (Ok done) ok err only = ok
prints told held holds (Err e) ok err only = (inl only, err)

pub returns-in-Help-clause-declines : goal.returns-in-Help-clause-declines
returns-in-Help-clause-declines g c =
    let held = g.O.Write.contents c.args.out.now in
    let holds = g.O.Write.contents c.print-shown.new.out in
    let shown = c.print-shown.result in
    let is = prints c.as_bytes.result.now held holds shown c.print-shown.ensures.ok c.print-shown.ensures.err
    c.print-shown.ensures.only in
    rw c.in-Help.is (
      shown,
      subst (λ (told : List ℕ). Prints told held holds shown) c.as_bytes.ensures.value is,
      c.status_of.ensures.told,
      c.status_of.ensures.status,
    )

pub returns-in-Help-clause-silent : goal.returns-in-Help-clause-silent
returns-in-Help-clause-silent g c zero =
    c.status_of.ensures.silent (is_done c.print-shown.result (sym c.status_of.ensures.status ∙ zero))
