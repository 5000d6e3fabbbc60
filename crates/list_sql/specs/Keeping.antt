-- The list guard that a connection keeps.
use Rattle.std.specs.Prelude.{◌≡◌, ◌≢◌, ◌⊎◌, ◌<◌, [], false, IsTrue, MatchOption, None}
use Rattle.sqlite.specs.Tree.{Trees}
use Rattle.sqlite.specs.State.{State as Connection}
use Rattle.list_guard.specs.State.{State}
use Rattle.store_sql.specs.Calls.{IsBare}
use Rattle.store_sql.specs.Schema.{no_schema}
use Rattle.list_sql.specs.Contents.{Kept, list_tables}
use Rattle.list_sql.specs.Rows.{list_contents}
use Rattle.rows.specs.Transactions.{Has, Rests}

-- the table can represent the state: its list has a byte, or there is none
abbrev pub IsFilled : State → Type 0
IsFilled s = MatchOption s.last (Unit {0}) (λ list. list ≢ [])

-- no transaction is open, and the table holds the rows of this state
abbrev pub HasList : State → Connection → Type 0
HasList s c = Rests (Has list_tables (list_contents s)) c

-- The list has a byte, no query has a limit on its steps, no transaction is open, and unless a failed disk has shut the
-- connection, the table holds the rows of the state.
pub record Keeps (c : Connection) (s : State) : Type 0 where
  pub filled : IsFilled s
  pub unlimited : c.step_limit ≡ None
  pub autocommit : c.in_transaction ≡ false
  pub rows : IsTrue c.is_open → HasList s c

-- a crash now leaves the table with the rows of one of these two states
abbrev pub Leaves : Connection → State → State → Type 0
Leaves c s t = (trees : Trees) → c.may_leave trees → Kept trees (list_contents s) ⊎ Kept trees (list_contents t)

-- the disk has failed, or a failure has shut the connection
abbrev pub HasFailed : Connection → Type 0
HasFailed c = (0 < c.faults) ⊎ (c.is_open ≡ false)

-- no transaction is open, and the database has no table
abbrev pub IsBlank : Connection → Type 0
IsBlank c = Rests (IsBare no_schema) c

-- an open connection keeps the state, and a crash leaves it
pub record Stores (c : Connection) (s : State) : Type 0 where
  pub keeps : Keeps c s
  pub is_open : IsTrue c.is_open
  pub crash : Leaves c s s
