use Rattle.web.proofs.Words.{Ask, Asks, request_ask, subst, sym}
use Rattle.web.proofs.Formed.{asked_form}
use Rattle.web.proofs.Shown.{always_ok, is_no_message, is_plain_get, on_err}
use Rattle.web.proofs.request.answer_by.Goals as goal

pub returns-clause-answered : goal.returns-clause-answered
returns-clause-answered g c honest =
    let P : Ask → Type 0 = Asks c.args.request.now in
    let asks = subst P (sym c.in_ok-request.ensures) c.asks.ensures.asked in
    c.answer_request.ensures.answered honest c.args.request.now asks

pub returns-clause-cause : goal.returns-clause-cause
returns-clause-cause g c honest =
    let P : Ask → Type 0 = Asks c.args.request.now in
    let asks = subst P (sym c.in_ok-request.ensures) c.asks.ensures.asked in
    c.answer_request.ensures.cause honest c.args.request.now asks

pub returns-in_err-request-clause-before : goal.returns-in_err-request-clause-before
returns-in_err-request-clause-before g c honest is =
    on_err c.from_residual.result _ (g.met.R.Registry.unasked c.args.registry.now)

pub returns-in_err-request-clause-reads : goal.returns-in_err-request-clause-reads
returns-in_err-request-clause-reads g c honest is none = g.met.R.Registry.unasked c.args.registry.now

pub returns-in_err-request-clause-refused : goal.returns-in_err-request-clause-refused
returns-in_err-request-clause-refused g c honest =
    always_ok c.from_residual.result _ (λ v refused is. g.met.R.Registry.unasked c.args.registry.now)

pub returns-clause-reads : goal.returns-clause-reads
returns-clause-reads g c honest is none =
    let P : Ask → Type 0 = Asks c.args.request.now in
    let asks = subst P (sym c.in_ok-request.ensures) c.asks.ensures.asked in
    c.answer_request.ensures.reads honest is
    (is_no_message c.args.request.now (request_ask c.in_ok-request.request) asks none)

pub returns-clause-plain : goal.returns-clause-plain
returns-clause-plain g c honest plain =
    let P : Ask → Type 0 = Asks c.args.request.now in
    let asks = subst P (sym c.in_ok-request.ensures) c.asks.ensures.asked in
    c.answer_request.ensures.plain honest
    (is_plain_get c.args.request.now (request_ask c.in_ok-request.request) asks plain)

pub returns-clause-form : goal.returns-clause-form
returns-clause-form g c =
    let P : Ask → Type 0 = Asks c.args.request.now in
    let asks = subst P (sym c.in_ok-request.ensures) c.asks.ensures.asked in
    asked_form c.answer_request.result c.args.request.now (request_ask c.in_ok-request.request) asks
    c.answer_request.ensures.form
