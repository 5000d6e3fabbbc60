use Rattle.std.proofs.Common.{refl, sym, subst}
use Rattle.std.specs.Prelude.{Some}
use Rattle.std.proofs.lemmas.Slice.Eq.{strip_suffix_is}
use Rattle.std.proofs.lemmas.Bool.Decides.{Decides-eqb}
use Rattle.station_jobs.specs.declared.station_fault.StationFault.{StationFault}
use Rattle.station_jobs.specs.KeyFiles.{IsKeyFault}
use Rattle.station_jobs.proofs.Keys.{is_line, key_text, line_fault}
use Rattle.station_jobs.proofs.key_file.key_in.Goals as goal

pub returns-in-Ok-clause-key : goal.returns-in-Ok-clause-key
returns-in-Ok-clause-key c =
    let is = is_line c.args.text.now c.as_slice.result.now c.strip_suffix.result c.args.text c.unwrap_or-line.result
    c.as_slice.ensures
    (strip_suffix_is Decides-eqb c.args.text.now c.as_slice.result.now c.strip_suffix.result
    c.strip_suffix.ensures.cases) c.unwrap_or-line.ensures refl in
    key_text c.args.text.now c.unwrap_or-line.result.now c.in-Ok.key is c.in-Ok.ensures.found

pub returns-in-Err-clause-fault : goal.returns-in-Err-clause-fault
returns-in-Err-clause-fault c =
    let is = is_line c.args.text.now c.as_slice.result.now c.strip_suffix.result c.args.text c.unwrap_or-line.result
    c.as_slice.ensures
    (strip_suffix_is Decides-eqb c.args.text.now c.as_slice.result.now c.strip_suffix.result
    c.strip_suffix.ensures.cases) c.unwrap_or-line.ensures refl in
    subst (λ (e : StationFault). IsKeyFault (Some c.args.text.now) e) (sym c.from.ensures)
    (line_fault c.args.text.now c.unwrap_or-line.result.now c.in-Err.fault is c.in-Err.ensures.fault)
