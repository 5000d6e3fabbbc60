use Rattle.store.proofs.Words.{Database, HasCleanDisk, IsBare, RefusesFirst, Waits, arith, no_contents, no_schema}
use Rattle.store.proofs.Words.{state, with_ca_row, with_office}
use Rattle.std.proofs.lemmas.Result.{IfErr-weaker}
use Rattle.store.proofs.Before.{concludes_before}
use Rattle.store.proofs.Causes.{stops_for}
use Rattle.store.proofs.Steps.{ends, left}
use Rattle.store.proofs.creating.make_whole.Goals as goal

pub returns : goal.returns
returns g c =
    let old = state g.S.Store c.args.conn.now in
    let first = state g.S.Store c.begin.new.conn in
    let last = state g.S.Store c.make-made.new.conn in
    let new = state g.S.Store c.conclude.new.conn in
    let begins = c.in_ok-begin.ensures.begins in
    let started = c.begin.ensures.survives in
    let part = c.make-made.ensures in
    let end = c.conclude.ensures in
    let r = c.make-made.result in
    let q = c.conclude.result in
    let Bare = λ (_ : Unit {0}) (db : Database). IsBare no_schema db in
    let after = λ (_ : Unit {0}). with_ca_row c.args.ca.now (with_office c.args.office.now no_contents) in
    let late : HasCleanDisk new → HasCleanDisk last = λ clean. omega (arith, end.survives.clean) in
    let early : HasCleanDisk new → HasCleanDisk first = λ clean.
    omega (arith, end.survives.clean, part.survives.clean) in
    record {
      ends = λ clean. ends Bare (λ _ _. Unit {0}) after old first last new r q (begins (early clean))
          (part.makes (late clean)) (end.concludes clean);
      cause = λ clean rests. IfErr-weaker q _ _ (λ f stops. stops tt (λ _. rests)) (stops_for Bare (λ _ _. Unit {0})
          after (λ _. RefusesFirst c.args.office.now c.args.ca.now no_contents) (Waits Bare first) old first last new
          started part.survives (early clean) (late clean) end.survives.counts r q (begins (early clean))
          (part.makes (late clean)) (part.fault (late clean)) (end.concludes clean) (end.cause clean));
      before = λ clean. concludes_before old first last new r q (begins (early clean)) (part.stays (late clean))
          (end.concludes clean);
      survives = left Bare (λ _ _. Unit {0}) after old first last new r begins part.makes started part.survives
          end.survives;
    }
