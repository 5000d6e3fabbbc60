use Rattle.std.proofs.Common.{sym}
use Rattle.std.specs.Prelude.{map, string_bytes}
use Rattle.sqlite_wal.specs.Files.{image_at}
use Rattle.office_jobs.specs.Ending.{Heeds}
use Rattle.office_jobs.specs.Names.{Takes}
use Rattle.sshoffice.proofs.Kept.{files_end, files_found, files_keep}
use Rattle.sshoffice.proofs.Once.{given_back}
use Rattle.sshoffice.proofs.host.run.Goals as goal

pub do_words-status-requires-clause-keeps : goal.do_words-status-requires-clause-keeps
do_words-status-requires-clause-keeps g c = record {
  ready = λ w path found w' opens. files_found (image_at g.S.Start) w.files w'.files found opens;
  keeps = λ w opened between w' path conn last opens adds closes clean.
      files_keep (image_at g.S.Start) w.files opened.files w'.files conn last opens adds closes clean;
  ends = λ w opened between w' path conn last closing end opens closes is clean.
      files_end (image_at g.S.Start) w.files opened.files w'.files conn last closing end opens closes is clean;
}

pub returns-clause-runs : goal.returns-clause-runs
returns-clause-runs g c = record {
  before = c.new-host.result;
  after = c.do_words-status.new.world;
  begins = c.new-host.ensures;
  left = sym c.into_files.ensures;
  runs = c.do_words-status.ensures.runs;
}

pub returns-clause-files : goal.returns-clause-files
returns-clause-files g c =
    given_back _ _ _ _ (record {
      reads = λ w w' path r same. same;
      finds = λ w w' path r same. same;
      makes = λ w w' path r same. same;
      tests = λ w w' o l r same. same;
    }) c.new-host.result c.do_words-status.new.world (image_at g.S.Start) c.args.start (λ host. host.files)
    (λ before after path found opened. opened) (λ between after last closing closed. closed) c.new-host.ensures
    (map string_bytes c.args.words.now) (g.O.Sink.taken c.args.out)
    (g.O.Sink.taken c.do_words-status.result.1)
    (Takes (g.E.Sink.failed c.args.err.now) (g.E.Sink.failed c.do_words-status.new.err)
    (g.E.Sink.taken c.args.err.now) (g.E.Sink.taken c.do_words-status.new.err))
    (Heeds (g.O.Sink.failed c.args.out) (g.O.Sink.failed c.do_words-status.result.1)
    (g.O.Output.is_flushed c.do_words-status.result.1)) c.do_words-status.result.0
    c.do_words-status.ensures.runs c.into_files.result c.into_files.ensures
