use Rattle.office_laws.proofs.Bodies.{body_stays}
use Rattle.office_laws.proofs.certificate_laws.a_body_stays.Goals as goal

pub returns : goal.returns
returns c = body_stays
