use Rattle.krl.proofs.Words.{sym, ◌∙◌}
use Rattle.krl.proofs.OneList.{one_list}
use Rattle.krl.proofs.laws.a_text_has_one_list.Goals as goal

pub returns-clause-list : goal.returns-clause-list
returns-clause-list c = one_list

pub returns-clause-text : goal.returns-clause-text
returns-clause-text c a b d p q = p.text ∙ sym q.text
