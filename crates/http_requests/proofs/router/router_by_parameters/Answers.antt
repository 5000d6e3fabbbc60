use Rattle.matchit.proofs.OnLiterals.{matchit_on_literals}
use Rattle.http_requests.proofs.router.router_by_parameters.Goals as goal

pub returns : goal.returns
unfolding matchit_on_literals
returns c =
    let message = c.with_route-router.ensures _ c.new.ensures in
    let certificate = c.with_route-router-2.ensures _ message in
    c.with_route.ensures _ certificate
