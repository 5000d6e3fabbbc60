use Rattle.sqlite.specs.Held.{state}
use Rattle.list_sql.proofs.PieceLemmas.{Written}
use Rattle.list_sql.proofs.keeping.replace.Given as goal

-- the table holds the rows of the pieces before this one
abbrev pub invariant-loop-at : goal.invariant-loop-at
invariant-loop-at g l = Written l.list l.at (state g.S.Store l.fn.conn) (state g.S.Store l.conn)
