use Rattle.http_requests.proofs.Words.{ap, first, refl, sym, ◌∙◌}
use Rattle.http_requests.proofs.route.kind_of.Goals as goal

pub returns-in-Ok-clause-some : goal.returns-in-Ok-clause-some
returns-in-Ok-clause-some c =
    (_, sym (ap (λ rows. first rows c.args.path.now) c.args.routes.now.whole) ∙ c.in-Ok.ensures.found, refl)
