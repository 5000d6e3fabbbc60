use Rattle.list_guard.specs.Judged.{question}
use Rattle.list_jobs.proofs.Statings.{judged, no_moment, unjudged}
use Rattle.list_jobs.proofs.stating.state_list.Goals as goal

pub returns-in_default : goal.returns-in_default
returns-in_default g c =
    no_moment g.P.Surroundings c.args.around.now g.G.ListRegister
    (question c.args.keys.now c.args.begins c.args.list) c.args.register.now (g.W.Write.contents c.args.out.now)

pub returns-in-Ok : goal.returns-in-Ok
returns-in-Ok g c =
    let is = c.in-Ok.ensures in
    judged g.P.Surroundings c.args.around.now g.G.ListRegister (question c.args.keys.now c.args.begins c.args.list)
    c.args.register.now c.judge_list.new.register (g.W.Write.contents c.args.out.now)
    (g.W.Write.contents c.print_answer.new.out) c.in-Ok.answer c.in-Some.moment c.print_answer.result
    c.judge_list.ensures.honest c.in-Some.ensures.shown is.answered is.next is.durable c.judge_list.ensures.crash
    c.print_answer.ensures.ok c.print_answer.ensures.err c.print_answer.ensures.only is.reported

pub returns-in-Err : goal.returns-in-Err
returns-in-Err g c =
    let is = c.in-Err.ensures in
    rw c.register_fault.ensures (unjudged g.P.Surroundings c.args.around.now g.G.ListRegister
    (question c.args.keys.now c.args.begins c.args.list) c.args.register.now c.judge_list.new.register
    (g.W.Write.contents c.args.out.now) c.in-Err.fault c.judge_list.ensures.honest is.fault c.judge_list.ensures.crash is.cause
    is.reported)
