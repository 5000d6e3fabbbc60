use Rattle.krl.proofs.Bytes.{found_string, cut_string}
use Rattle.krl.proofs.field.next_string.Goals as goal

pub returns-clause-found : goal.returns-clause-found
returns-clause-found c = found_string c.string.result _ _ c.requires c.string.ensures.moves c.string.ensures.found

pub returns-clause-cut : goal.returns-clause-cut
returns-clause-cut c = cut_string c.string.result _ _ c.string.ensures.only
