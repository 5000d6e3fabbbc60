use Rattle.matchit.proofs.OnLiterals.{matchit_on_literals}
use Rattle.http_requests.proofs.router.router_of.Goals as goal

pub returns : goal.returns
unfolding matchit_on_literals
returns c =
    let pending = c.with_route-router.ensures _ c.router_by_parameters-router.ensures in
    let list = c.with_route-router-2.ensures _ pending in
    let signers = c.with_route-router-3.ensures _ list in
    let table = c.with_route-router-4.ensures _ signers in
    let cas = c.with_route-router-5.ensures _ table in
    c.with_route.ensures _ cas
