use Rattle.station_jobs.specs.Names.{Takes}
use Rattle.sshstation.proofs.Telling.{not_memory}
use Rattle.sshstation.proofs.command.do_no_words.Goals as goal

pub returns-in_default : goal.returns-in_default
returns-in_default g c =
    let it = not_memory c.args.fault
    (Takes (g.E.Sink.failed c.args.err.now) (g.E.Sink.failed c.tell_text.new.err) (g.E.Sink.taken c.args.err.now)
    (g.E.Sink.taken c.tell_text.new.err)) c.in_default.not-OutOfMemory c.tell_text.ensures in
    record { status = it.0; told = it.1 }
