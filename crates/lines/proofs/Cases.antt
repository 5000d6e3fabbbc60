-- Lemmas by case analysis.
use Rattle.std.proofs.Common.{◌≡◌, Bool, true, false, ◌||◌, Some, Result, Ok, Err, refl}
use Rattle.std.specs.Result.{result_ok}

-- a result that has a value
pub ok_of : {T E : Type 0} (r : Result T E) (x : T) → result_ok r ≡ Some x → r ≡ Ok x
ok_of (Ok y) x e = cc
ok_of (Err y) x e = absurd cc

-- the first two of three tests, in reverse order
pub or_order : (a b c : Bool) → (a || (b || c)) ≡ (b || (a || c))
or_order true false c = refl
or_order a b c = refl
