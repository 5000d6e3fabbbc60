use Rattle.server.proofs.Words.{Appends, subst, ◌∙◌}
use Rattle.server.proofs.Lines.{in_five}
use Rattle.server.proofs.report.print_fault.Goals as goal

pub returns-clause-ok : goal.returns-clause-ok
returns-clause-ok g c =
    in_five _ _ _ _ _ _ _ _ _ _ _ c.write_all-4.result c.in_ok-write_all.ensures.ok c.in_ok-print_number.ensures.ok
    c.in_ok-write_all-2.ensures.ok (subst (Appends _ _) (c.as_bytes.ensures.value ∙ c.name.ensures) c.in_ok-write_all-3.ensures.ok)
    c.write_all-4.ensures.ok
