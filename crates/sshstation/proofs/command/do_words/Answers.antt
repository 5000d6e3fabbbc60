use Rattle.std.proofs.Common.{inl, sym, ◌∙◌}
use Rattle.sshstation.proofs.Telling.{is_done}
use Rattle.sshstation.proofs.command.do_words.Goals as goal

pub returns-in-Ok-clause-does : goal.returns-in-Ok-clause-does
returns-in-Ok-clause-does g c = inl (
  c.in-Ok.job,
  c.do_job-done.result,
  c.in-Ok.ensures.ok,
  c.do_job-done.ensures.guard,
  c.do_job-done.ensures.lists,
  c.status_of.ensures.told,
  c.status_of.ensures.status,
)

pub returns-in-Ok-clause-silent : goal.returns-in-Ok-clause-silent
returns-in-Ok-clause-silent g c zero =
    c.status_of.ensures.silent (is_done c.do_job-done.result (sym c.status_of.ensures.status ∙ zero))
