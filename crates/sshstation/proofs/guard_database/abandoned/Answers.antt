use Rattle.std.proofs.Common.{◌∙◌, arith, subst}
use Rattle.sqlite_wal.specs.Files.{outcomes}
use Rattle.sqlite_wal.specs.Reads.{AreClean}
use Rattle.sqlite_pool.proofs.StateLemmas.{clean_is, may_leave_is}
use Rattle.sqlite_trees.specs.View.{IsClean}
use Rattle.sqlite_trees.proofs.Doubt.{no_doubt}
use Rattle.sqlite_store.specs.FileStore.{state, view}
use Rattle.sqlite_store.specs.Laws.{settled_at}
use Rattle.sshstation.proofs.Unopened.{is_left}
use Rattle.sshstation.proofs.guard_database.abandoned.Goals as goal

pub returns-clause-leaves : goal.returns-clause-leaves
returns-clause-leaves g c honest =
    let it = c.into_store.result in
    let gives = c.into_store.ensures in
    let sure = subst (λ p. AreClean g.D.Disk p.0 p.1) c.close.ensures honest in
    let clean : IsClean (view it) = no_doubt _ (clean_is it.pool ∙ sure) in (
      omega (arith, clean, gives.quiet.clean),
      λ image may.
          let now : (state it).may_leave image =
          may_leave_is it.pool image sure (subst (λ p. outcomes g.D.Disk p.0 p.1 image) c.close.ensures may) in
          is_left c.args.conn it (gives.numbered clean) (gives.sound clean) gives.quiet.outcomes image now,
    )

pub returns-clause-settles : goal.returns-clause-settles
returns-clause-settles g c = λ conn trees is_open may.
    settled_at conn.store g.met.D.Disk.seen_may_stay trees is_open may
