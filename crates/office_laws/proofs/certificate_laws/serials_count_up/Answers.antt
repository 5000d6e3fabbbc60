use Rattle.office_laws.proofs.Counting.{serials_counted}
use Rattle.office_laws.proofs.certificate_laws.serials_count_up.Goals as goal

pub returns : goal.returns
returns c = serials_counted
