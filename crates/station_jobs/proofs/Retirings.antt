-- Retiring a guard over a register.
use Rattle.std.proofs.Common.{◌≡◌, ℕ, Result, Ok, Err, inl, inr, refl}
use Rattle.guard.specs.declared.register.Register.{Ghosts}
use Rattle.guard.specs.declared.register.RegisterFault.{RegisterFault}
use Rattle.guard.specs.declared.register.RegisterFault.TheVariants as register
use Rattle.guard.specs.declared.retiring.RetireFault.{RetireFault}
use Rattle.guard.specs.declared.retiring.RetireFault.TheVariants as retiring
use Rattle.guard.specs.Machine.{State}
use Rattle.guard.specs.Retirement.{HasRetireCause, Retires as IsRetired, if_retired, retirement}
use Rattle.guard.specs.Retiring.{with_last}
use Rattle.station_jobs.specs.Faults.{of_register, of_retiring}
use Rattle.station_jobs.specs.Leaving.{HasCause, IsNext, Leaves, OfRetiring}
use Rattle.station_jobs.specs.Whole.{RetiresTo}
use Rattle.station_jobs.proofs.Leavings.{register_cause}

-- the state that may be left is a next state
next_retired : (s : State) (last : ℕ) → IsNext (OfRetiring last) s (if_retired s (retirement s last))
next_retired s last = by_result (retirement s last) refl
  where
    by_result : (r : Result State RetireFault) → retirement s last ≡ r → IsNext (OfRetiring last) s (if_retired s r)
    by_result (Ok retired) is = inr (inr (last, refl, is))
    by_result (Err e) is = inl refl

retire_cause : (failed : Type 0) (e : RetireFault) → HasRetireCause failed e → HasCause failed (of_retiring e)
retire_cause failed (retiring.Register e) h = register_cause failed e h
retire_cause failed retiring.BadSerials h = tt
retire_cause failed retiring.SerialApproved h = tt

-- the state that is kept after a fault
still_kept : (s : State) (last : ℕ) (keeps : State → Type 0) (e : RetireFault) → IsRetired s last keeps (Err e) → keeps s
still_kept s last keeps (retiring.Register e) is = is
still_kept s last keeps retiring.BadSerials is = is.1
still_kept s last keeps retiring.SerialApproved is = is.1

told : (s : State) (last : ℕ) (keeps Left : State → Type 0) (e : RetireFault) → IsRetired s last keeps (Err e) → Left s
    → RetiresTo last s Left (Err (of_retiring e))
told s last keeps Left (retiring.Register register.Device) is left = (tt, left)
told s last keeps Left (retiring.Register register.Damaged) is left = (tt, left)
told s last keeps Left (retiring.Register register.NoMemory) is left = (tt, left)
told s last keeps Left retiring.BadSerials is left = (is.0, left)
told s last keeps Left retiring.SerialApproved is left = (is.0, left)

module _ {G : Type 0} (guard : Ghosts G) (last : ℕ) (old new : G) (s : State) where
  pub retires_well : (first : ℕ) → first ≡ s.scope.first → IsRetired s last (guard.keeps new) (Ok tt)
      → guard.leaves new (with_last s last) (with_last s last)
      → RetiresTo last s (λ t. Leaves {A = ℕ} guard (OfRetiring last) old new s t (Ok first)) (Ok first)
  retires_well first same is durable = (
    is.0,
    record { kept = is.1; lasts = λ left. durable; cause = λ low. tt },
    same,
  )

  pub retires_not : (e : RetireFault) → IsRetired s last (guard.keeps new) (Err e)
      → (guard.leaves old s s → guard.leaves new s (if_retired s (retirement s last))) → HasRetireCause (guard.has_failed new) e
      → RetiresTo last s (λ t. Leaves {A = ℕ} guard (OfRetiring last) old new s t (Err (of_retiring e)))
      (Err (of_retiring e))
  retires_not e is crash cause =
      told s last (guard.keeps new) (λ t. Leaves {A = ℕ} guard (OfRetiring last) old new s t (Err (of_retiring e))) e is
      (record {
        kept = still_kept s last (guard.keeps new) e is;
        lasts = λ left. (if_retired s (retirement s last), next_retired s last, crash left);
        cause = λ low. retire_cause (guard.has_failed new) e cause;
      })

  -- if the register didn't return its scope
  pub retires_none : (e : RegisterFault) → Leaves {A = ℕ} guard (OfRetiring last) old new s s (Err (of_register e))
      → RetiresTo last s (λ t. Leaves {A = ℕ} guard (OfRetiring last) old new s t (Err (of_register e)))
      (Err (of_register e))
  retires_none register.Device left = (tt, left)
  retires_none register.Damaged left = (tt, left)
  retires_none register.NoMemory left = (tt, left)
