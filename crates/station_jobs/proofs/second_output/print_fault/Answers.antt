use Rattle.station_jobs.proofs.Printed.{in_three}
use Rattle.station_jobs.proofs.second_output.print_fault.Goals as goal

pub returns-clause-ok : goal.returns-clause-ok
returns-clause-ok g c =
    in_three _ _ _ _ _ _ _ c.write_all-2.result c.in_ok-write_all.ensures.ok c.in_ok-print_name.ensures.ok
    c.write_all-2.ensures.ok
