use Rattle.http_requests.proofs.Words.{Decides-eqb, Some, ap, codes, drop, is_name, nat_eq, pointwise, strip_prefix_is}
use Rattle.http_requests.proofs.Words.{sym, take, take-append-drop, ◌++◌, ◌∙◌, ◌≡◌}
use Rattle.http_requests.proofs.Cutting.{message_cut}
use Rattle.http_requests.proofs.route.message_of.Goals as goal

pub returns-in_default-slash_at-clause-none : goal.returns-in_default-slash_at-clause-none
returns-in_default-slash_at-clause-none c = λ caller key is e.
    let cut = message_cut _ _ caller key is e c.in-Some.ensures.cases.1 in
    let differ = sym c.in_default-slash_at.is ∙ c.slash_at.ensures ∙ cut.slash in
    cc differ

pub returns-in_default-strip_prefix-clause-none : goal.returns-in_default-strip_prefix-clause-none
returns-in_default-strip_prefix-clause-none c = λ caller key is e.
    let cut = message_cut _ _ caller key is e c.in-Some.ensures.cases.1 in
    let tail = c.split_at.ensures.back ∙ cut.back _ (sym c.slash_at.ensures ∙ c.in-Some-slash_at.is) in
    let differ = sym c.in_default-strip_prefix.ensures.cases
    ∙ ap (λ t. pointwise nat_eq (take 10 t) (codes "/requests/")) tail in
    cc differ

pub returns-then-not-is_name-clause-none : goal.returns-then-not-is_name-clause-none
returns-then-not-is_name-clause-none c = λ caller key is e.
    let cut = message_cut _ _ caller key is e c.in-Some.ensures.cases.1 in
    let front = c.split_at.ensures.front ∙ cut.front _ (sym c.slash_at.ensures ∙ c.in-Some-slash_at.is) in
    let differ = sym c.if-not-is_name.true ∙ c.is_name.ensures ∙ ap is_name front ∙ is.0 in
    cc differ

pub returns-then-not-is_name-2-clause-none : goal.returns-then-not-is_name-2-clause-none
returns-then-not-is_name-2-clause-none c = λ caller key is e.
    let cut = message_cut _ _ caller key is e c.in-Some.ensures.cases.1 in
    let tail = c.split_at.ensures.back ∙ cut.back _ (sym c.slash_at.ensures ∙ c.in-Some-slash_at.is) in
    let end = c.in-Some-strip_prefix.ensures.cases.1 ∙ ap (drop 10) tail in
    let differ = sym c.if-not-is_name-2.true ∙ c.is_name-2.ensures ∙ ap is_name end ∙ is.1 in
    cc differ

pub returns-clause-text : goal.returns-clause-text
returns-clause-text c =
    let front = strip_prefix_is Decides-eqb c.args.path.now (codes "/v1/callers/") (Some c.in-Some.rest)
    c.in-Some.ensures.cases in
    let back = strip_prefix_is Decides-eqb c.split_at.result.1.now (codes "/requests/")
    (Some c.in-Some-strip_prefix.key) c.in-Some-strip_prefix.ensures.cases in
    let seam = sym (take-append-drop c.in-Some-slash_at.at c.in-Some.rest.now) in
    let parts : c.in-Some.rest.now ≡ c.split_at.result.0.now ++ (codes "/requests/" ++ c.in-Some-strip_prefix.key.now) =
    seam ∙ ap (λ t. t ++ drop c.in-Some-slash_at.at c.in-Some.rest.now) (sym c.split_at.ensures.front)
    ∙ ap (λ t. c.split_at.result.0.now ++ t) (sym c.split_at.ensures.back ∙ back) in
    front ∙ ap (λ r. codes "/v1/callers/" ++ r) parts
