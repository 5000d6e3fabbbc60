-- Claims about a connection before and after a call, provided that its disk has been faithful (clean).
use Rattle.std.specs.Prelude.{◌≡◌, false, List, None, IsTrue}
use Rattle.sqlite_trees.specs.declared.store.Store.{Ghosts}
use Rattle.sqlite_trees.specs.Tree.{Trees}
use Rattle.sqlite.specs.Held.{Held, state}
use Rattle.sqlite.specs.State.{State, HasCleanDisk, Survives}
use Rattle.sqlite.specs.Table.{Table}

-- if the disk has been faithful, this holds of the state before, the state after, and the result
abbrev pub On : {S R : Type 0} → Ghosts S → (State → State → R → Type 0) → Held S → Held S → R → Type 0
On g P old new result = HasCleanDisk (state g new) → P (state g old) (state g new) result

-- the same, provided that the connection was open
abbrev pub OnOpen : {S R : Type 0} → Ghosts S → (State → State → R → Type 0) → Held S → Held S → R → Type 0
OnOpen g P old new result =
    HasCleanDisk (state g new) → IsTrue (state g old).is_open → P (state g old) (state g new) result

-- if the disk has been faithful, this holds of the state before and the state after, whatever the result is
abbrev pub Between : {S : Type 0} → Ghosts S → (State → State → Type 0) → Held S → Held S → Type 0
Between g P old new = HasCleanDisk (state g new) → P (state g old) (state g new)

-- a crash during the call leaves what one could leave before it, or trees that satisfy this
abbrev pub Outlives : {S : Type 0} → Ghosts S → (Trees → Type 0) → Held S → Held S → Type 0
Outlives g P old new = Survives (state g old) (state g new) P

-- a crash during the call leaves what one could leave before it, or trees that satisfy this for the state before it
abbrev pub OutlivesBy : {S : Type 0} → Ghosts S → (State → Trees → Type 0) → Held S → Held S → Type 0
OutlivesBy g P old new = Survives (state g old) (state g new) (P (state g old))

-- a disk that is still faithful after a call was faithful before it
abbrev pub StaysClean : {S : Type 0} → Ghosts S → Held S → Held S → Type 0
StaysClean g old new = HasCleanDisk (state g new) → HasCleanDisk (state g old)

-- a query may take any number of steps
abbrev pub IsUnlimited : {S : Type 0} → Ghosts S → Held S → Type 0
IsUnlimited g conn = (state g conn).step_limit ≡ None

-- no transaction is open
abbrev pub IsOutside : {S : Type 0} → Ghosts S → Held S → Type 0
IsOutside g conn = (state g conn).in_transaction ≡ false

-- the tables that the connection shows
abbrev pub tables_of : {S : Type 0} → Ghosts S → Held S → List Table
tables_of g conn = (state g conn).now.schema.tables
