use Rattle.std.proofs.Common.{◌≡◌, ◌∙◌, List, map, ap, sym, string_bytes}
use Rattle.std.proofs.lemmas.Result.{IfErr-weaker, IfOk-weaker}
use Rattle.clap.specs.Words.{App, Text, app_of, fault_of, is_simple, is_simple_and_free, subcommand_of}
use Rattle.station_command.specs.Asked.{asked_in}
use Rattle.station_command.specs.Command.{station_command}
use Rattle.station_command.proofs.Faults.{error_is_fault, lack_is_fault}
use Rattle.station_command.proofs.words_reader.read_words.Goals as goal

pub returns-in-Ok-clause-ok : goal.returns-in-Ok-clause-ok
returns-in-Ok-clause-ok c =
    let same : app_of c.in_ok-command.command ≡ station_command = c.in_ok-command.ensures in
    let found = c.in-Ok.ensures.matches (ap is_simple same) in
    let words : List Text = map string_bytes c.args.words.now in
    IfOk-weaker c.job_by.result _ _ (λ job asks. (
      sym (ap (λ (a : App). fault_of a words) same) ∙ c.in-Ok.ensures.kinds (ap is_simple_and_free same),
      sym (ap asked_in found.1 ∙ ap (λ (a : App). asked_in (subcommand_of a words)) same) ∙ asks,
    )) c.job_by.ensures.ok

pub returns-in-Ok-clause-err : goal.returns-in-Ok-clause-err
returns-in-Ok-clause-err c =
    let same : app_of c.in_ok-command.command ≡ station_command = c.in_ok-command.ensures in
    let found = c.in-Ok.ensures.matches (ap is_simple same) in
    let words : List Text = map string_bytes c.args.words.now in
    IfErr-weaker c.job_by.result _ _ (λ fault lack. lack_is_fault words _ fault
    (ap asked_in found.1 ∙ ap (λ (a : App). asked_in (subcommand_of a words)) same) lack) c.job_by.ensures.err

pub returns-in-Err-clause-err : goal.returns-in-Err-clause-err
returns-in-Err-clause-err c =
    error_is_fault _ _ _ c.fault_by.result c.in_ok-command.ensures c.fault_by.ensures c.in-Err.ensures.kinds
