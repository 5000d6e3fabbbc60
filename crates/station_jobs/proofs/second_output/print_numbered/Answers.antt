use Rattle.station_jobs.proofs.Printed.{in_two}
use Rattle.station_jobs.proofs.second_output.print_numbered.Goals as goal

pub returns-clause-ok : goal.returns-clause-ok
returns-clause-ok g c =
    in_two _ _ _ _ _ _ c.print_number.result c.as_bytes.ensures.value c.in_ok-write_all.ensures.ok
    c.print_number.ensures.ok
