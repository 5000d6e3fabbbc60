use Rattle.web.proofs.Words.{List, Plans, Refused, refl, subst, ℕ}
use Rattle.http_requests.specs.declared.plan.Plan.TheVariants.{Get, Post}
use Rattle.web.proofs.Taken.{bodies_taken, front_taken}
use Rattle.web.proofs.taking.take_request.Goals as goal

pub returns-in-Refused-clause-taken : goal.returns-in-Refused-clause-taken
returns-in-Refused-clause-taken g c =
    let front = c.in_ok-head.ensures in
    let P : List ℕ → Type 0 = λ t. Plans t (Refused c.in-Refused.refusal) in
    front_taken _ _ c.in_ok-head.head.items (Refused c.in-Refused.refusal) _ front.consumed front.front
    (subst P c.deref.ensures.value c.in-Refused.ensures) refl refl

pub returns-in-Get-clause-taken : goal.returns-in-Get-clause-taken
returns-in-Get-clause-taken g c =
    let front = c.in_ok-head.ensures in
    let P : List ℕ → Type 0 = λ t. Plans t (Get c.in-Get.resource) in
    front_taken _ _ c.in_ok-head.head.items (Get c.in-Get.resource) _ front.consumed front.front
    (subst P c.deref.ensures.value c.in-Get.ensures) refl refl

pub returns-clause-taken : goal.returns-clause-taken
returns-clause-taken g c =
    let front = c.in_ok-head.ensures in
    let plan = Post c.in-Post.caller c.in-Post.key c.in-Post.size in
    let P : List ℕ → Type 0 = λ t. Plans t plan in
    bodies_taken c.take_message.result _ _ _ c.in_ok-head.head.items plan front.consumed front.front
    (subst P c.deref.ensures.value c.in-Post.ensures) (λ e. cc) c.take_message.ensures.body
