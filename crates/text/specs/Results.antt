-- Sequences of steps that may fail: the first fault is the result.
use Rattle.std.specs.Prelude.{Option, Some, None, Result, Ok, Err}

-- the next step applied to the value of the previous one, or the fault of the previous one
infixl 10 ◌>>=◌
abbrev pub ◌>>=◌ : {A B E : Type 0} → Result A E → (A → Result B E) → Result B E
(Ok x) >>= f = f x
(Err e) >>= f = Err e

-- the value, or this fault if there is none
abbrev pub or_fault : {A E : Type 0} → E → Option A → Result A E
or_fault e (Some x) = Ok x
or_fault e None = Err e

-- two independent steps: both values, or the fault of the first that failed
abbrev pub both : {A B E : Type 0} → Result A E → Result B E → Result (A × B) E
both a b = a >>= (λ x. b >>= (λ y. Ok (x, y)))
