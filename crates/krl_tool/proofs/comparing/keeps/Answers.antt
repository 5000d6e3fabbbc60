use Rattle.std.proofs.Common.{subst, sym}
use Rattle.krl.specs.Contents.{Publishes}
use Rattle.krl_tool.proofs.comparing.keeps.Goals as goal

pub returns : goal.returns
returns c o n p q =
    c.forgets_nothing.ensures o n (subst (λ b. Publishes b o) (sym c.in_ok-old.ensures.found) p)
    (subst (λ b. Publishes b n) (sym c.in_ok-new.ensures.found) q)
