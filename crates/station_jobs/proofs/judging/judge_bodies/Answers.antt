use Rattle.std.proofs.Common.{List, inr}
use Rattle.guard.specs.Decided.{questions}
use Rattle.guard.specs.Machine.{Question}
use Rattle.station_jobs.proofs.Causes.{of_printing}
use Rattle.station_jobs.proofs.Leavings.{answered, unanswered}
use Rattle.station_jobs.proofs.Reported.{reported_of_a_question, unreported_answer}
use Rattle.station_jobs.proofs.judging.judge_bodies.Goals as goal

pub returns-in-Ok-clause-answers : goal.returns-in-Ok-clause-answers
returns-in-Ok-clause-answers g c h s kept =
    let qs : List Question = questions c.args.policy.now c.args.window c.args.bodies.now in
    let is = c.in-Ok.ensures in
    answered g.G.Register c.args.register.now c.judge.new.register s qs (g.W.Write.contents c.args.out.now)
    (g.W.Write.contents c.print_answers.new.out) c.in-Ok.answers.items c.print_answers.result
    (is.answered h s kept) (is.next h s kept) (is.durable h s kept)
    (rw c.as_slice.ensures.value at c.print_answers.ensures.ok) (rw c.as_slice.ensures.value at c.print_answers.ensures.err)
    c.print_answers.ensures.only

pub returns-in-Err-clause-answers : goal.returns-in-Err-clause-answers
returns-in-Err-clause-answers g c h s kept =
    let qs : List Question = questions c.args.policy.now c.args.window c.args.bodies.now in
    let is = c.in-Err.ensures in
    rw c.from.ensures (unanswered g.G.Register c.args.register.now c.judge.new.register s qs
    (g.W.Write.contents c.args.out.now) c.in-Err.fault (is.fault h s kept) (is.crash h s kept)
    (λ low. is.cause h s kept low c.requires))

pub returns-in-Ok-clause-reported : goal.returns-in-Ok-clause-reported
returns-in-Ok-clause-reported g c =
    unreported_answer (g.G.Register.reported c.args.register.now) (g.G.Register.reported c.judge.new.register)
    c.print_answers.result c.in-Ok.ensures.reported c.print_answers.ensures.only

pub returns-in-Err-clause-reported : goal.returns-in-Err-clause-reported
returns-in-Err-clause-reported g c =
    rw c.from.ensures (reported_of_a_question (g.G.Register.reported c.args.register.now)
    (g.G.Register.reported c.judge.new.register) c.in-Err.fault c.in-Err.ensures.reported)

pub returns-in-Ok-clause-before : goal.returns-in-Ok-clause-before
returns-in-Ok-clause-before g c h =
    of_printing (g.G.Register.is_as_before c.args.register.now c.judge.new.register) c.print_answers.result
    c.print_answers.ensures.only

pub returns-in-Err-clause-before : goal.returns-in-Err-clause-before
returns-in-Err-clause-before g c h = inr (c.in-Err.ensures.before h)
