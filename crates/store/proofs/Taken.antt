-- The histories that tables represent after a received request.
use Rattle.store.proofs.Words.{Arrival, Damaged, Device, Ends, Err, Fault, HasCleanDisk, HasRegisterCause, IfErr, IfOk}
use Rattle.store.proofs.Words.{IsAfter, IsAny, IsAsBefore, IsDueAnswer, IsOfARegister, IsTrue, LeavesDue, List}
use Rattle.store.proofs.Words.{NoMemory, Ok, OnErr, OnOk, Opening, Outcome, Rests, Result, StoreFault, Survives, Tells}
use Rattle.store.proofs.Words.{Trees, [], arith, contents_with, due, inl, inr, store_fault_of, subst, sym, told, ◌++◌}
use Rattle.store.proofs.Words.{◌∙◌, ◌∷◌, ◌≡◌}
use Rattle.sqlite.specs.State.{State as Connection}
use Rattle.office.specs.declared.arrival.Outcome.TheVariants as outcome
use Rattle.office.specs.Registers.{IsShortIfAccepted, UnlessAccepted}
use Rattle.store.specs.Transactions.{FailuresStay}
use Rattle.store.specs.Arriving.{IsCaused, IsStopped, KeepsUnlessAccepted}
use Rattle.store.proofs.Telling.{disk_failed, left_committed}

-- the contract of a call that processes a received request
pub record Applied (a : Arrival) (old new : Connection) (q : Result Outcome StoreFault) : Type 0 where
  pub honest : HasCleanDisk new → HasCleanDisk old
  pub was_open : HasCleanDisk new → IsTrue new.is_open → IsTrue old.is_open
  pub stays_open : HasCleanDisk new → OnOk q (IsTrue new.is_open)
  pub due : HasCleanDisk new → IfOk q (λ outcome.
      (o : Opening) (l : List Arrival) → Tells old o l → outcome ≡ due o l a)
  pub next : HasCleanDisk new
      → OnOk q ((o : Opening) (l : List Arrival) → Tells old o l → Tells new o (l ++ a ∷ []))
  pub fault : HasCleanDisk new → OnErr q ((o : Opening) (l : List Arrival) → Tells old o l → Tells new o l)
  pub before : HasCleanDisk new → IsTrue new.is_open → UnlessAccepted q (IsAsBefore old new × FailuresStay old new)
  pub short : HasCleanDisk new → IfOk q IsShortIfAccepted
  pub cause : IfErr q (λ e. HasRegisterCause e (IsStopped old new a))
  pub only : HasCleanDisk new → IfErr q (λ e. (o : Opening) (l : List Arrival) → Tells old o l → IsOfARegister e)

rests_of : (s : Connection) (o : Opening) (l : List Arrival) → Tells s o l → IsTrue s.is_open
    → Rests (IsAfter IsAny (o, l)) s
rests_of s o l tells is_open =
    let rests = tells.rows is_open in
    record {
      autocommit = rests.autocommit;
      now = record { history = tells.history; means = rests.now; known = tt };
      committed = record { history = tells.history; means = rests.committed; known = tt };
    }

module _ (a : Arrival) (old new : Connection) where
  -- a reported failure is a failure of the disk, or a refusal of the decision's rows
  caused : (f : Fault) → (HasCleanDisk new → IsCaused a old new f) → HasRegisterCause (store_fault_of f) (IsStopped old new a)
  caused NoMemory cause = tt
  caused Damaged cause = tt
  caused Device cause = λ clean o l tells. elim (cause clean (o, l) (rests_of old o l tells)) [
    | inl failed ↦ inl (disk_failed old new tells.unlimited failed)
    | inr more ↦ inr more
  ]

  -- lack of memory and a failure are the only faults
  of_a_register : (f : Fault) → IsCaused a old new f → (o : Opening) (l : List Arrival) → Tells old o l
      → IsOfARegister (store_fault_of f)
  of_a_register NoMemory cause o l tells = tt
  of_a_register Device cause o l tells = tt
  of_a_register Damaged cause o l tells = absurd (cause (o, l) (rests_of old o l tells))

  -- an answer that accepts nothing has changed nothing, and no failure of the disk is forgotten
  unaccepted : (x : Outcome) → KeepsUnlessAccepted old new (Ok x) → FailuresStay old new
      → UnlessAccepted {E = StoreFault} (Ok x) (IsAsBefore old new × FailuresStay old new)
  unaccepted (outcome.Accepted reply) before stay = tt
  unaccepted (outcome.Repeated reply) before stay = (before, stay)
  unaccepted (outcome.Refused refusal) before stay = (before, stay)

  pub applied : (r : Result Outcome Fault) (q : Result Outcome StoreFault) → q ≡ told r
      → (HasCleanDisk new → Ends (IsAfter IsAny) (IsDueAnswer a) (contents_with a) old new r)
      → (HasCleanDisk new → IfErr r (IsCaused a old new)) → (HasCleanDisk new → KeepsUnlessAccepted old new r)
      → (HasCleanDisk new → IfOk r IsShortIfAccepted)
      → Survives old new (LeavesDue (IsAfter IsAny) (IsDueAnswer a) (contents_with a) old)
      → ((trees : Trees) → IsTrue new.is_open → new.may_leave trees → trees ≡ new.committed.trees)
      → Applied a old new q
  applied r q is ends cause before short survives settled =
      subst (λ z. Applied a old new z) (sym is) (go r ends cause before short)
    where
      go : (r : Result Outcome Fault)
          → (HasCleanDisk new → Ends (IsAfter IsAny) (IsDueAnswer a) (contents_with a) old new r)
          → (HasCleanDisk new → IfErr r (IsCaused a old new)) → (HasCleanDisk new → KeepsUnlessAccepted old new r)
          → (HasCleanDisk new → IfOk r IsShortIfAccepted)
          → Applied a old new (told r)
      go (Ok x) ends cause before short = record {
        honest = λ clean. omega (arith, survives.clean);
        was_open = λ clean _. (ends clean).0;
        stays_open = λ clean. (ends clean).1;
        due = λ clean o l tells. ((ends clean).2 (o, l) (rests_of old o l tells (ends clean).0)).0.due;
        next = λ clean o l tells.
            let e = ends clean in
            let q = e.2 (o, l) (rests_of old o l tells e.0) in
            record {
              history = q.0.history;
              unlimited = survives.limit ∙ tells.unlimited;
              rows = λ still. q.1;
              left = left_committed new o (l ++ a ∷ []) (λ trees may. settled trees e.1 may) q.1;
            };
        fault = λ clean. tt;
        before = λ clean _. unaccepted x (before clean) survives.counts;
        short = short;
        cause = tt;
        only = λ clean. tt;
      }
      go (Err f) ends cause before short = record {
        honest = λ clean. omega (arith, survives.clean);
        was_open = λ clean still. (ends clean still).0;
        stays_open = λ clean. tt;
        due = λ clean. tt;
        next = λ clean. tt;
        -- the history is as before
        fault = λ clean o l tells. record {
          history = tells.history;
          unlimited = survives.limit ∙ tells.unlimited;
          rows = λ still.
              let was = ends clean still in
              let rests = was.1 (o, l) (rests_of old o l tells was.0) in
              record { autocommit = rests.autocommit; now = rests.now.means; committed = rests.committed.means };
          left = λ trees may. elim (survives.crash clean trees may) [
            | inl before ↦ tells.left trees before
            | inr more ↦
                let due = more.1 (o, l) (rests_of old o l tells more.0) in inr (a, due.1.history, due.2)
          ];
        };
        before = λ clean _. (before clean, survives.counts);
        short = λ clean. tt;
        cause = caused f cause;
        only = λ clean. of_a_register f (cause clean);
      }
