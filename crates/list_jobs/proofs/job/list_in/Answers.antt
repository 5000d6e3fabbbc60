use Rattle.std.proofs.Common.{Err, List, Ok, map, refl, string_bytes, subst, sym, ℕ}
use Rattle.list_guard.specs.Judged.{question}
use Rattle.list_jobs.specs.Asking.{AreKeysAt, IsListAt}
use Rattle.list_jobs.proofs.KeysRead.{of_a_file}
use Rattle.list_jobs.proofs.job.list_in.Goals as goal

pub returns-in-Ok-list_at : goal.returns-in-Ok-list_at
returns-in-Ok-list_at g c = record {
  asked = Ok (question c.as_slice-keys.result.now c.args.listing.now.begins c.from_vec-list.result);
  read = record {
    keys = subst
        (AreKeysAt g.P.Surroundings c.args.around.now g.F.Read.remaining (map string_bytes c.args.listing.now.cas.now))
        (sym c.as_slice-keys.ensures.value) c.in-Ok.ensures.keys;
    list = subst (IsListAt g.P.Surroundings c.args.around.now g.F.Read.remaining c.args.listing.now.list.now)
        (sym c.from_vec-list.ensures) c.in-Ok-list_at.ensures.list;
    begins_is = refl;
  };
  judged = c.state_in.ensures;
}

pub returns-in-Ok : goal.returns-in-Ok
returns-in-Ok g c = record {
  asked = Err c.in-Err-list_at.fault;
  read = of_a_file g.P.Surroundings c.args.around.now g.F.Read.remaining
      (map string_bytes c.args.listing.now.cas.now) c.in-Err-list_at.fault c.in-Err-list_at.ensures.only;
  judged = (refl, (refl, refl));
}

pub returns : goal.returns
returns g c = record { asked = Err c.in-Err.fault; read = c.in-Err.ensures.fault; judged = (refl, (refl, refl)) }
