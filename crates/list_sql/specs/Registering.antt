-- The effect of the register's write on a connection that keeps a list guard.
use Rattle.std.specs.Prelude.{OnOk, OnErr, IfErr, Result}
use Rattle.sqlite.specs.State.{State as Connection, HasCleanDisk}
use Rattle.sqlite.specs.Held.{Held, state}
use Rattle.sqlite_trees.specs.declared.store.Store.{Ghosts}
use Rattle.list_guard.specs.declared.register.RegisterFault.{RegisterFault}
use Rattle.list_guard.specs.Judged.{HasCause}
use Rattle.list_guard.specs.State.{State}
use Rattle.list_sql.specs.Keeping.{HasFailed, Keeps, Leaves}

-- it leads to the state `next`, for which the table has room if `Room` holds
pub record Leads (Room : Type 0) (next : State) (old new : Connection) (r : Result (Unit {0}) RegisterFault) : Type 0
  where
    pub honest : HasCleanDisk new → HasCleanDisk old
    pub kept : HasCleanDisk new → (s : State) → Keeps old s → OnOk r (Keeps new next)
    pub fault : HasCleanDisk new → (s : State) → Keeps old s → OnErr r (Keeps new s)
    pub durable : HasCleanDisk new → (s : State) → Keeps old s → OnOk r (Leaves new next next)
    pub crash : HasCleanDisk new → (s : State) → Keeps old s → Leaves old s s → Leaves new s next
    pub cause : HasCleanDisk new → (s : State) → Keeps old s → Room → IfErr r (λ e. HasCause e (HasFailed new))

-- the same of a connection
abbrev pub LeadsOf : {S : Type 0} → Ghosts S → Type 0 → State → Held S → Held S → Result (Unit {0}) RegisterFault
    → Type 0
LeadsOf g Room next old new r = Leads Room next (state g old) (state g new) r
