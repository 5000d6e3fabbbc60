-- Sequences of steps that may fail: if one fails, so does the whole, with the same fault.
use Rattle.message.proofs.Words.{Err, Ok, Result, ap, both, made, refl, subst, sym, ℕ, ◌>>=◌, ◌≡◌}
use Rattle.message.specs.Reading.{Gives}
use Rattle.message.specs.declared.message_fault.MessageFault.{MessageFault}
use Rattle.message.specs.declared.message_fault.MessageFault.TheVariants as fault

-- a step that succeeded, followed by one that failed
pub past : {A B X : Type 0} {x : A} (r : Result A ℕ) (f : A → Result B ℕ) (of : B → X) (e : MessageFault)
    → r ≡ Ok x → Gives {X = X} (Err e) (made of (f x)) → Gives {X = X} (Err e) (made of (r >>= f))
past {A} {X = X} r f of e is given =
    subst (λ (r : Result A ℕ). Gives {X = X} (Err e) (made of (r >>= f))) (sym is) given

-- a step that failed
pub failed : {A B X : Type 0} (r : Result A ℕ) (f : A → Result B ℕ) (of : B → X) (e : MessageFault)
    → Gives {X = A} (Err e) r → Gives {X = X} (Err e) (made of (r >>= f))
failed {A} r f of (fault.BadLine n) is = ap (λ (r : Result A ℕ). made of (r >>= f)) is
failed r f of fault.NoMemory is = tt

-- the same, for values that no message is made of yet
pub fails : {A B : Type 0} (r : Result A ℕ) (f : A → Result B ℕ) (e : MessageFault)
    → Gives {X = A} (Err e) r → Gives {X = B} (Err e) (r >>= f)
fails r f (fault.BadLine n) is = ap (λ r. r >>= f) is
fails r f fault.NoMemory is = tt

-- two steps, with the fault of the first that failed
pub both_give : {A B : Type 0} (result : Result (A × B) MessageFault) (one : Result A MessageFault)
    (other : Result B MessageFault) (a : Result A ℕ) (b : Result B ℕ) → result ≡ both one other → Gives one a
    → Gives other b → Gives result (both a b)
both_give {A} {B} result one other a b is one_gives other_gives =
    subst (λ (r : Result (A × B) MessageFault). Gives r (both a b)) (sym is) (of_both one other one_gives other_gives)
  where
    of_both : (one : Result A MessageFault) (other : Result B MessageFault) → Gives one a → Gives other b
        → Gives (both one other) (both a b)
    of_both (Ok x) (Ok y) is are = rw (is, are) refl
    of_both (Ok x) (Err (fault.BadLine n)) is are = rw (is, are) refl
    of_both (Ok x) (Err fault.NoMemory) is are = tt
    of_both (Err (fault.BadLine n)) other is are = rw is refl
    of_both (Err fault.NoMemory) other is are = tt
