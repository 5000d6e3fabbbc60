-- What the register's calls do to a connection that keeps a guard.
use Rattle.std.specs.Prelude.{OnOk, OnErr, IfOk, IfErr, Result}
use Rattle.sqlite.specs.State.{State as Connection, HasCleanDisk}
use Rattle.sqlite.specs.Held.{Held, state}
use Rattle.sqlite_trees.specs.declared.store.Store.{Ghosts}
use Rattle.guard.specs.declared.register.RegisterFault.{RegisterFault}
use Rattle.guard.specs.Judged.{HasCause}
use Rattle.guard.specs.State.{State}
use Rattle.guard_sql.specs.Keeping.{HasFailed, Keeps, Leaves}
use Rattle.rows.specs.Transactions.{IsAsBefore}

-- A reading call returns this of the state that is kept. Whatever is kept, it changes nothing.
pub record Shows {X : Type 0} (Shown : State → X → Type 0) (old new : Connection) (r : Result X RegisterFault) : Type 0
  where
    pub honest : HasCleanDisk new → HasCleanDisk old
    pub before : HasCleanDisk new → IsAsBefore old new
    pub row : HasCleanDisk new → (s : State) → Keeps old s → IfOk r (λ x. Shown s x)
    pub same : HasCleanDisk new → (s : State) → Keeps old s → Keeps new s
    pub crash : HasCleanDisk new → (s : State) → Keeps old s → Leaves old s s → Leaves new s s
    pub cause : HasCleanDisk new → (s : State) → Keeps old s → IfErr r (λ e. HasCause e (HasFailed new))

-- the same for a connection
abbrev pub ShowsOf : {S X : Type 0} → Ghosts S → (State → X → Type 0) → Held S → Held S → Result X RegisterFault
    → Type 0
ShowsOf g Shown old new r = Shows Shown (state g old) (state g new) r

-- A writing call leads to the state `after`, if `May` holds; there is room for it if `Room` holds. Whatever is kept, a
-- call that fails changes nothing.
pub record Leads (May : State → Type 0) (Room : Type 0) (after : State → State) (old new : Connection)
    (r : Result (Unit {0}) RegisterFault) : Type 0 where
  pub honest : HasCleanDisk new → HasCleanDisk old
  pub before : HasCleanDisk new → OnErr r (IsAsBefore old new)
  pub kept : HasCleanDisk new → (s : State) → Keeps old s → May s → OnOk r (Keeps new (after s))
  pub fault : HasCleanDisk new → (s : State) → Keeps old s → OnErr r (Keeps new s)
  pub durable : HasCleanDisk new → (s : State) → Keeps old s → May s → OnOk r (Leaves new (after s) (after s))
  pub crash : HasCleanDisk new → (s : State) → Keeps old s → Leaves old s s → May s → Leaves new s (after s)
  pub cause : HasCleanDisk new → (s : State) → Keeps old s → May s → Room
      → IfErr r (λ e. HasCause e (HasFailed new))

-- the same for a connection
abbrev pub LeadsOf : {S : Type 0} → Ghosts S → (State → Type 0) → Type 0 → (State → State) → Held S → Held S
    → Result (Unit {0}) RegisterFault → Type 0
LeadsOf g May Room after old new r = Leads May Room after (state g old) (state g new) r
