use Rattle.http_requests.proofs.Words.{Decides-eqb, Some, ap, codes, strip_prefix_is, ◌++◌, ◌∙◌}
use Rattle.std.proofs.lemmas.Option.{IfSome_then}
use Rattle.std.proofs.lemmas.Slice.Eq.{strip_suffix_is}
use Rattle.http_requests.proofs.route.body_of.Goals as goal

pub returns-clause-text : goal.returns-clause-text
returns-clause-text c =
    let front = strip_prefix_is Decides-eqb c.args.path.now (codes "/v1/certs/") (Some c.in-Some.rest)
    c.in-Some.ensures.cases in
    let end = strip_suffix_is Decides-eqb c.in-Some.rest.now (codes "/body")
    (Some c.in-Some-strip_suffix.digits) c.in-Some-strip_suffix.ensures.cases in
    IfSome_then c.serial_of.result c.serial_of.ensures.text
    (λ n e. front ∙ ap (λ r. codes "/v1/certs/" ++ r) (end ∙ ap (λ d. d ++ codes "/body") e))
