use Rattle.std.proofs.Common.{arith}
use Rattle.files.specs.Ending.{IsGivenUp}
use Rattle.restart.proofs.Left.{leaves_at_least}
use Rattle.restart.proofs.closing.store_of.Goals as goal

pub returns-clause-up : goal.returns-clause-up
returns-clause-up g c clean =
    let it = c.into_store.ensures in
    record {
      clean = omega (arith, clean, it.quiet.clean);
      numbered = it.numbered clean;
      sound = it.sound clean;
      fewer = it.quiet.outcomes;
    }

pub returns-clause-left : goal.returns-clause-left
returns-clause-left g c clean =
    let it = c.into_store.ensures in
    let up : IsGivenUp c.args.conn c.into_store.result = record {
      clean = omega (arith, clean, it.quiet.clean);
      numbered = it.numbered clean;
      sound = it.sound clean;
      fewer = it.quiet.outcomes;
    } in leaves_at_least c.args.conn c.into_store.result up
