use Rattle.office_laws.proofs.Bodies.{body_names_signer}
use Rattle.office_laws.proofs.certificate_laws.a_body_names_its_signer.Goals as goal

pub returns : goal.returns
returns c = λ o l is. body_names_signer o l
