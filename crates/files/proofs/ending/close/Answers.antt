use Rattle.std.proofs.Common.{◌≡◌, Some, Ok, Err, subst, sym}
use Rattle.sqlite_store.specs.FileStore.{view}
use Rattle.sqlite_trees.specs.View.{IsClean}
use Rattle.sqlite.specs.declared.error.Error.{Error}
use Rattle.sqlite.specs.Files.{FailsToClose}
use Rattle.files.proofs.ending.close.Goals as goal

pub returns-in-Ok : goal.returns-in-Ok
returns-in-Ok g c =
    let ok = c.in-Ok.ensures.ok in (
      record { it = ok.0; are_its = ok.1; quiet = ok.2; cause = λ e none. absurd (cc) },
      c.in-Ok.ensures.copied,
    )

one_error : (a b : Error) → Some a ≡ Some b → a ≡ b
one_error a b same = cc

pub returns-in-Err : goal.returns-in-Err
returns-in-Err g c = record {
  it = c.in-Err.store;
  are_its = sym c.close.ensures;
  quiet = c.in-Err.ensures.err.0;
  cause = λ e is. subst (λ (x : Error). IsClean (view c.in-Err.store) → FailsToClose c.args.conn c.in-Err.store x)
      (one_error c.in-Err.error e is) c.in-Err.ensures.err.1;
}
