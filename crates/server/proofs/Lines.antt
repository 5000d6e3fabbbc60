-- A line that is printed in pieces.
use Rattle.server.proofs.Words.{Appends, Appends-trans, Err, List, Ok, OnOk, Option, Result, ℕ, ◌++◌}

-- five pieces, of which the last may fail
pub in_five : {X E : Type 0} (a b c d e f : Option (List ℕ)) (p q r s t : List ℕ) (result : Result X E)
    → Appends a b p → Appends b c q → Appends c d r → Appends d e s → OnOk result (Appends e f t)
    → OnOk result (Appends a f (p ++ (q ++ (r ++ (s ++ t)))))
in_five a b c d e f p q r s t (Ok x) one two three four five =
    Appends-trans a b f p (q ++ (r ++ (s ++ t))) one (Appends-trans b c f q (r ++ (s ++ t)) two
    (Appends-trans c d f r (s ++ t) three (Appends-trans d e f s t four five)))
in_five a b c d e f p q r s t (Err e') one two three four five = tt
