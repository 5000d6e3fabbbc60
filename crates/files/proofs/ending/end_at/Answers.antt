use Rattle.files.proofs.HowEnded.{ended_since, given_up_since}
use Rattle.files.proofs.ending.end_at.Goals as goal

pub returns-in-None : goal.returns-in-None
returns-in-None g c =
    ended_since c.args.conn c.shut.new.conn c.close.result.0 c.close.result.1 c.shut.ensures.survives
    (λ clean. c.shut.ensures.same clean c.in-None.is) c.close.ensures

pub returns-in-Some : goal.returns-in-Some
returns-in-Some g c clean =
    given_up_since c.args.conn c.shut.new.conn c.in-Some.error c.give_up.result c.shut.ensures.survives
    (λ is. c.shut.ensures.cause is c.in-Some.error c.in-Some.is) (c.give_up.ensures clean)
