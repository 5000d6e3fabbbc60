use Rattle.values.proofs.ListLemmas.{distinct_found, distinct_from}
use Rattle.values.proofs.laws.distinct_texts_differ_at_each_place.Goals as goal

pub returns : goal.returns
returns c = (distinct_found _, distinct_from _)
