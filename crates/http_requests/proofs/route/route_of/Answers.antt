use Rattle.http_requests.proofs.Words.{Body, Certificate, Message, ap, first, routing, sym, ◌∙◌}
use Rattle.http_requests.proofs.Finding.{routed, found_of}
use Rattle.http_requests.proofs.Matching.{fixed_path}
use Rattle.http_requests.proofs.route.route_of.Goals as goal

pub returns-in-None-clause-none : goal.returns-in-None-clause-none
returns-in-None-clause-none c = λ p is e.
    let differ = sym c.in-None.ensures.none ∙ ap (first routing) e ∙ routed p is in
    cc differ

pub returns-in-Some-Fixed-clause-path : goal.returns-in-Some-Fixed-clause-path
returns-in-Some-Fixed-clause-path c =
    let found = c.in-Some-Fixed.ensures.some in
    (fixed_path c.args.path.now found.0 _ found.1 (found.2 ∙ c.in-Some-Fixed.field-0-is)).0

pub returns-in-Some-Fixed-clause-text : goal.returns-in-Some-Fixed-clause-text
returns-in-Some-Fixed-clause-text c =
    let found = c.in-Some-Fixed.ensures.some in
    (fixed_path c.args.path.now found.0 _ found.1 (found.2 ∙ c.in-Some-Fixed.field-0-is)).1

pub returns-in-None-message_of-clause-none : goal.returns-in-None-message_of-clause-none
returns-in-None-message_of-clause-none c = λ p is e.
    let found = c.in-Some-Message.ensures.some in
    let at = found_of Message _ found.0 p found.1 (found.2 ∙ c.in-Some-Message.field-0-is) is e in
    c.in-None-message_of.ensures.none at.0 at.1 at.2 (c.as_bytes.ensures.value ∙ at.3)

pub returns-in-None-certificate_of-clause-none : goal.returns-in-None-certificate_of-clause-none
returns-in-None-certificate_of-clause-none c = λ p is e.
    let found = c.in-Some-Certificate.ensures.some in
    let at = found_of Certificate _ found.0 p found.1 (found.2 ∙ c.in-Some-Certificate.field-0-is) is e in
    c.in-None-certificate_of.ensures.none at.0 at.1 (c.as_bytes-in-Some-Certificate.ensures.value ∙ at.2)

pub returns-in-None-body_of-clause-none : goal.returns-in-None-body_of-clause-none
returns-in-None-body_of-clause-none c = λ p is e.
    let found = c.in-Some-Body.ensures.some in
    let at = found_of Body _ found.0 p found.1 (found.2 ∙ c.in-Some-Body.field-0-is) is e in
    c.in-None-body_of.ensures.none at.0 at.1 (c.as_bytes-in-Some-Body.ensures.value ∙ at.2)
