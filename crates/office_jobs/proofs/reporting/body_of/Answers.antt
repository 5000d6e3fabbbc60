use Rattle.office_jobs.proofs.Words.{ap, decimal, length, rest_after, ◌++◌, ◌∙◌, ◌∷◌}
use Rattle.office_jobs.proofs.Bodies.{end, found_is, not_found, rest_found, sized_found}
use Rattle.office_jobs.proofs.reporting.body_of.Goals as goal

pub returns-in_default : goal.returns-in_default
returns-in_default c = λ body small same.
    not_found _ (decimal (length body) ++ 13 ∷ (end ++ body))
    (c.in_default.ensures ∙ sized_found c.args.response.now body same)

pub returns-in_default-past : goal.returns-in_default-past
returns-in_default-past c = λ body small same.
    let sized = found_is c.in-Some.sized.now (decimal (length body) ++ 13 ∷ (end ++ body))
    (c.in-Some.ensures ∙ sized_found c.args.response.now body same) in
    not_found _ (end ++ body) (c.in_default-past.ensures ∙ rest_found c.in-Some.sized.now body small sized)

pub returns : goal.returns
returns c = λ body small same.
    let sized = found_is c.in-Some.sized.now (decimal (length body) ++ 13 ∷ (end ++ body))
    (c.in-Some.ensures ∙ sized_found c.args.response.now body same) in
    let rest = found_is c.in-Some-past.rest.now (end ++ body)
    (c.in-Some-past.ensures ∙ rest_found c.in-Some.sized.now body small sized) in
    c.after-2.ensures ∙ ap (rest_after end) rest
