use Rattle.std.proofs.Common.{◌≡◌, ◌-◌, arith, drop, inl, inr, length, length-drop, refl, subst, sym, take, take_all}
use Rattle.http_requests.specs.Asks.{Ask, IsLawfulAsk}
use Rattle.http_requests.proofs.Asking.{lawful_of_head}
use Rattle.http_requests.proofs.asked.asks.Goals as goal

pub returns-in_default : goal.returns-in_default
returns-in_default c = record { asked = inl (c.in_default.ensures.none, refl); lawful = omega arith }

pub returns-clause-asked : goal.returns-clause-asked
returns-clause-asked c =
    let found = c.in-Some.ensures.found in
    let rest = drop c.in-Some.head.len c.args.request.now in
    let all : take (length c.args.request.now - c.in-Some.head.len) rest ≡ rest =
    take_all _ rest (omega (arith, length-drop c.in-Some.head.len c.args.request.now)) in
    let plan = c.head_plan.ensures found.0 found.1.0.reads.0 found.2 in
    inr (found.0, rest, found.1, rw (c.with.ensures, all) (plan.asks rest))

pub returns-clause-lawful : goal.returns-clause-lawful
returns-clause-lawful c =
    let found = c.in-Some.ensures.found in
    let len = c.in-Some.head.len in
    let rest = take (length c.args.request.now - len) (drop len c.args.request.now) in
    let plan = c.head_plan.ensures found.0 found.1.0.reads.0 found.2 in
    let P : Ask → Type 0 = IsLawfulAsk in
    subst P (sym c.with.ensures) (lawful_of_head found.0 rest _ (plan.asks rest))
