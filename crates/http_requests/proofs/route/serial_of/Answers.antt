use Rattle.http_requests.proofs.Words.{arith, decimal_injective, is_serial, subst, sym, true, ℕ, ◌∙◌, ◌≡◌}
use Rattle.std.proofs.Common.{rules}
use Rattle.values.proofs.SerialLemmas.{serial_bounds}
use Rattle.http_requests.proofs.route.serial_of.Goals as goal

pub returns-in_default-clause-none : goal.returns-in_default-clause-none
returns-in_default-clause-none c = λ n is e.
    let same = decimal_injective c.in-Some.serial n (search rules) (omega (arith, (serial_bounds n is).1)) (sym c.in-Some.ensures.found ∙ e) in
    let found : is_serial c.in-Some.serial ≡ true = subst (λ (m : ℕ). is_serial m ≡ true) (sym same) is in
    cc
