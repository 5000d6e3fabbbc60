use Rattle.store_sql.proofs.Words.{drop, state}
use Rattle.store_sql.proofs.Growth.{IsAt}
use Rattle.store_sql.proofs.creation.create_tables.Given as goal

-- the tables before this one have been created
abbrev pub invariant-loop-name : goal.invariant-loop-name
invariant-loop-name g l = IsAt (drop l.name-index l.name-items) (state g.S.Store l.initial.conn)
    (state g.S.Store l.conn)
