use Rattle.office_jobs.proofs.Words.{Err, Ok, [], refl, ℕ}
use Rattle.office_jobs.proofs.Said.{takes_none}
use Rattle.office_jobs.proofs.Counted.{heeds_unwritten, of_a_file}
use Rattle.office_jobs.proofs.command.serve_at.Goals as goal

pub returns-in-Err-clause-heeds : goal.returns-in-Err-clause-heeds
returns-in-Err-clause-heeds g c =
    heeds_unwritten ℕ _ _ (g.O.Output.is_flushed c.args.out.now) c.in-Err.fault (of_a_file c.in-Err.fault c.in-Err.ensures.only)

pub returns-in-Ok-clause-serves : goal.returns-in-Ok-clause-serves
returns-in-Ok-clause-serves g c =
    let it = c.serve_in.ensures.serves in (
      it.0,
      it.1,
      record {
        file = Ok c.in-Ok.nonces;
        opened = c.open_file.new.world;
        is_opened = c.in-Ok.ensures.opened;
        used = it.2;
      },
    )

pub returns-in-Err-clause-serves : goal.returns-in-Err-clause-serves
returns-in-Err-clause-serves g c = (
  [],
  takes_none _ _,
  record {
    file = Err c.in-Err.fault;
    opened = c.open_file.new.world;
    is_opened = c.in-Err.ensures.opened;
    used = (refl, (refl, (refl, refl)));
  },
)
