use Rattle.suite_jobs.proofs.running.run_in.Goals as goal

pub do_words-status-requires-clause-keeps : goal.do_words-status-requires-clause-keeps
do_words-status-requires-clause-keeps c = record {
  ready = λ w path found w' opens. opens;
  keeps = λ w opened between w' path conn last opens adds closes clean. absurd clean;
  ends = λ w opened between w' path conn last closing end opens closes is clean. absurd clean;
}
