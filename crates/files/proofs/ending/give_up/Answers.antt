use Rattle.std.proofs.Common.{◌∙◌, arith, subst, sym}
use Rattle.sqlite_wal.specs.Reads.{AreClean}
use Rattle.sqlite_pool.proofs.StateLemmas.{clean_is}
use Rattle.sqlite_trees.specs.View.{IsClean}
use Rattle.sqlite_trees.proofs.Doubt.{no_doubt}
use Rattle.sqlite_store.specs.FileStore.{view}
use Rattle.files.proofs.ending.give_up.Goals as goal

pub returns : goal.returns
returns g c honest =
    let it = c.into_store.result in
    let gives = c.into_store.ensures in
    let sure = subst (λ p. AreClean g.D.Disk p.0 p.1) c.close.ensures honest in
    let clean : IsClean (view it) = no_doubt _ (clean_is it.pool ∙ sure) in
    record {
      it = it;
      are_its = sym c.close.ensures;
      up = record {
        clean = omega (arith, clean, gives.quiet.clean);
        numbered = gives.numbered clean;
        sound = gives.sound clean;
        fewer = gives.quiet.outcomes;
      };
      counts = gives.quiet.counts;
    }
