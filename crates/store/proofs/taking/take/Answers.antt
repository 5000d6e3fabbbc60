use Rattle.store.proofs.Words.{ExceedsTables, HasCleanDisk, IsAfter, IsAny, IsDueAnswer, Waits, arith, contents_with}
use Rattle.store.proofs.Words.{state}
use Rattle.store.proofs.Before.{concludes_short, concludes_unaccepted}
use Rattle.store.proofs.Causes.{stops_for}
use Rattle.store.proofs.Steps.{ends, left_due}
use Rattle.store.proofs.taking.take.Goals as goal

pub returns-in-Ok : goal.returns-in-Ok
returns-in-Ok g c =
    let a = c.args.arrival.now in
    let old = state g.S.Store c.args.conn.now in
    let first = state g.S.Store c.begin.new.conn in
    let last = state g.S.Store c.settle-settled.new.conn in
    let new = state g.S.Store c.conclude.new.conn in
    let begins = c.in-Ok.ensures.begins in
    let started = c.begin.ensures.survives in
    let part = c.settle-settled.ensures in
    let end = c.conclude.ensures in
    let r = c.settle-settled.result in
    let q = c.conclude.result in
    let late : HasCleanDisk new → HasCleanDisk last = λ clean. omega (arith, end.survives.clean) in
    let early : HasCleanDisk new → HasCleanDisk first = λ clean.
    omega (arith, end.survives.clean, part.survives.clean) in
    record {
      ends = λ clean. ends (IsAfter IsAny) (IsDueAnswer a) (contents_with a) old first last new r q
          (begins (early clean)) (part.settles (late clean) tt) (end.concludes clean);
      cause = λ clean. stops_for (IsAfter IsAny) (IsDueAnswer a) (contents_with a) (ExceedsTables a)
          (Waits (IsAfter IsAny) first) old first last new started part.survives (early clean) (late clean)
          end.survives.counts r q (begins (early clean)) (part.settles (late clean) tt) (part.fails (late clean))
          (end.concludes clean) (end.cause clean);
      before = λ clean. concludes_unaccepted old first last new r q (begins (early clean)) (part.stays (late clean))
          (part.keeps (late clean)) (end.concludes clean);
      short = λ clean. concludes_short last new r q part.short (end.concludes clean);
      survives = left_due (IsAfter IsAny) (IsDueAnswer a) (contents_with a) old first last new r begins
          (λ clean. part.settles clean tt) started
          part.survives end.survives;
    }
