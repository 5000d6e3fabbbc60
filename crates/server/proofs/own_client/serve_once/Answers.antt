use Rattle.server.proofs.Extensions.{visit_extends}
use Rattle.server.proofs.own_client.serve_once.Goals as goal

pub returns-clause-served : goal.returns-clause-served
returns-clause-served g c = visit_extends c.serve_connection.result _ _ _ _ g.S.Registry _ _
    c.serve_connection.ensures.visit
