use Rattle.rows.proofs.Words.{◌≡◌}
use Rattle.store_sql.proofs.KindLemmas.{named_from}
use Rattle.rows.proofs.look.are_named.Given as goal

-- the columns before this one have their names
abbrev pub invariant-loop-at : goal.invariant-loop-at
invariant-loop-at l = named_from l.columns l.names 0 ≡ named_from l.columns l.names l.at
