-- What a connection keeps of a guard.
use Rattle.std.specs.Prelude.{◌≡◌, ◌⊎◌, ◌<◌, ◌^◌, false, length, Contains, IsTrue, None}
use Rattle.std.specs.List.{AllByRecursion}
use Rattle.sqlite.specs.Tree.{Trees}
use Rattle.sqlite.specs.State.{State as Connection}
use Rattle.values.specs.Serials.{are_serials}
use Rattle.guard.specs.declared.approved.Approved.{Approved}
use Rattle.guard.specs.declared.scope.Scope.{Scope}
use Rattle.guard.specs.State.{State}
use Rattle.store_sql.specs.Calls.{IsBare}
use Rattle.store_sql.specs.Schema.{no_schema}
use Rattle.guard_sql.specs.Contents.{Kept, guard_tables}
use Rattle.guard_sql.specs.Rows.{guard_contents}
use Rattle.rows.specs.Transactions.{Has, Rests}

-- a CA's key of 32 bytes, and a range of serials within 1 to 9223372036854775806
pub record IsScope (scope : Scope) : Type 0 where
  pub ca : length scope.ca ≡ 32
  pub serials : IsTrue (are_serials scope.first scope.last)

-- what tables may keep: a valid scope, and serials that a column can hold
pub record IsGuard (s : State) : Type 0 where
  pub scope : IsScope s.scope
  pub numbers : AllByRecursion (λ a. a.serial < 2 ^ 63) s.approved

-- no transaction is open, and the tables hold the rows of this state
abbrev pub HasGuard : State → Connection → Type 0
HasGuard s c = Rests (Has guard_tables (guard_contents s)) c

-- The state is valid, no query has a limit on its steps, no transaction is open, and unless a failed disk has shut the
-- connection, the tables hold the rows of the state.
pub record Keeps (c : Connection) (s : State) : Type 0 where
  pub guard : IsGuard s
  pub unlimited : c.step_limit ≡ None
  pub autocommit : c.in_transaction ≡ false
  pub rows : IsTrue c.is_open → HasGuard s c

-- a crash now leaves the tables of the one state or of the other
abbrev pub Leaves : Connection → State → State → Type 0
Leaves c s t = (trees : Trees) → c.may_leave trees → Kept trees (guard_contents s) ⊎ Kept trees (guard_contents t)

-- the disk has failed by now, or a failure has shut the connection
abbrev pub HasFailed : Connection → Type 0
HasFailed c = (0 < c.faults) ⊎ (c.is_open ≡ false)

-- no transaction is open, and the database has no table
abbrev pub IsBlank : Connection → Type 0
IsBlank c = Rests (IsBare no_schema) c

-- the connection is open and keeps the state, and a crash leaves it
pub record Stores (c : Connection) (s : State) : Type 0 where
  pub keeps : Keeps c s
  pub is_open : IsTrue c.is_open
  pub crash : Leaves c s s

-- in every state that an open connection keeps, two rows with one serial are the same
abbrev pub HasOneBodyASerial : Connection → Type 0
HasOneBodyASerial c =
    (s : State) → Keeps c s → IsTrue c.is_open → (a b : Approved) → Contains s.approved a → Contains s.approved b
    → a.serial ≡ b.serial → a ≡ b
