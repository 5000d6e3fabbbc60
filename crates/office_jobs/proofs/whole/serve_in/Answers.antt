use Rattle.office_jobs.proofs.Words.{AsksServing, EndFault, Err, Heeds, IfOk, JobFault, Ok, Result, ap, heard_of, refl, state}
use Rattle.office_jobs.proofs.Words.{[], subst, sym, ℕ, ◌≤◌}
use Rattle.office_jobs.specs.Ending.{closed}
use Rattle.office_jobs.proofs.Additions.{served as added}
use Rattle.office_jobs.proofs.Counted.{closed_heeds, heeds_unwritten, of_opening}
use Rattle.office_jobs.proofs.Doing.{serves_asked}
use Rattle.office_jobs.proofs.Idle.{idles_on}
use Rattle.office_jobs.specs.Asked.{nothing_asked}
use Rattle.office_jobs.proofs.Found.{kept, opened_there, ran, ready_there}
use Rattle.office_jobs.proofs.Said.{takes_none}
use Rattle.office_jobs.proofs.whole.serve_in.Goals as goal

-- closing the database leaves the status at most 1
status_kept : (done : Result ℕ JobFault) (closing : Result Unit EndFault) → IfOk done (λ s. s ≤ 1)
    → IfOk (closed done closing) (λ s. s ≤ 1)
status_kept (Ok x) (Ok u) small = small
status_kept (Ok x) (Err e) small = tt
status_kept (Err e) closing small = tt

pub returns-in-Ok-clause-serves : goal.returns-in-Ok-clause-serves
returns-in-Ok-clause-serves g c =
    let it = c.serve_at_port-served.ensures.serves in (
      it.0,
      it.1,
      record {
        found = Ok c.in-Ok.conn;
        opened = c.open_there.new.world;
        is_opened = c.in-Ok.ensures.opens;
        ran = record {
          outcome = c.serve_at_port-served.result.0;
          last = c.serve_at_port-served.result.1;
          between = c.serve_at_port-served.new.world;
          did = (
            it.2,
            record { none = c.serve_at_port-served.ensures.none; rows = c.serve_at_port-served.ensures.rows },
          );
          honest = c.serve_at_port-served.ensures.honest;
          closing = c.close_database.result;
          is_closed = c.close_database.ensures;
          keeps = kept g.S.Store g.W.World c.requires.keeps c.args.db.now c.open_there.new.world
              c.serve_at_port-served.new.world c.close_database.new.self c.in-Ok.conn c.serve_at_port-served.result.1
              c.close_database.result
              (opened_there g.S.Store g.W.World c.requires.keeps c.args.db.now c.args.world.now c.in-Ok.conn
              c.open_there.new.world c.in-Ok.ensures.opens)
              c.serve_at_port-served.ensures.honest
              (λ was clean. added (state g.S.Store c.in-Ok.conn) (state g.S.Store c.serve_at_port-served.result.1) was
              c.args.connections _ _ _ _ _ c.serve_at_port-served.result.0 it.2.serves clean)
              c.close_database.ensures;
          runs = ran g.S.Store g.W.World c.requires.keeps c.args.db.now c.open_there.new.world
              c.serve_at_port-served.new.world c.close_database.new.self c.in-Ok.conn c.serve_at_port-served.result.1
              c.close_database.result
              (AsksServing c.args.connections (g.W.File.Read.remaining c.args.nonces)
              (heard_of g.W.Incoming.Listener.book it.2.heard) c.serve_at_port-served.result.0)
              (opened_there g.S.Store g.W.World c.requires.keeps c.args.db.now c.args.world.now c.in-Ok.conn
              c.open_there.new.world c.in-Ok.ensures.opens)
              c.serve_at_port-served.ensures.honest
              (λ clean was. serves_asked (state g.S.Store c.in-Ok.conn)
              (state g.S.Store c.serve_at_port-served.result.1) clean c.args.connections _ _ _ _ _
              c.serve_at_port-served.result.0
              (λ seen. let none = c.serve_at_port-served.ensures.none seen in (none.0, ap (state g.S.Store) none.1))
              it.2.serves)
              c.close_database.ensures;
          came = c.closed.ensures;
        };
        unopened = λ e same. absurd cc;
      },
    )

pub returns-in-Ok-clause-status : goal.returns-in-Ok-clause-status
returns-in-Ok-clause-status g c =
    subst (λ (r : Result ℕ JobFault). IfOk r (λ s. s ≤ 1)) (sym c.closed.ensures)
    (status_kept c.serve_at_port-served.result.0 c.close_database.result c.serve_at_port-served.ensures.status)

pub returns-in-Err-clause-serves : goal.returns-in-Err-clause-serves
returns-in-Err-clause-serves g c = (
  [],
  takes_none _ _,
  record {
    found = Err c.in-Err.unopened;
    opened = c.open_there.new.world;
    is_opened = c.in-Err.ensures.opens;
    ran = (refl, (refl, (refl, refl)));
    unopened = λ e same. idles_on _ g.W.World.image (nothing_asked, refl, refl);
  },
)

pub serve_at_port-served-requires-clause-outside : goal.serve_at_port-served-requires-clause-outside
serve_at_port-served-requires-clause-outside g c =
    (ready_there g.S.Store g.W.World c.requires.keeps c.args.db.now c.args.world.now c.in-Ok.conn
    c.open_there.new.world c.in-Ok.ensures.opens).outside

pub serve_at_port-served-requires-clause-unlimited : goal.serve_at_port-served-requires-clause-unlimited
serve_at_port-served-requires-clause-unlimited g c =
    (ready_there g.S.Store g.W.World c.requires.keeps c.args.db.now c.args.world.now c.in-Ok.conn
    c.open_there.new.world c.in-Ok.ensures.opens).unlimited

pub returns-in-Ok-clause-heeds : goal.returns-in-Ok-clause-heeds
returns-in-Ok-clause-heeds g c =
    let served = c.serve_at_port-served in
    subst (λ (r : Result ℕ JobFault). Heeds (g.O.Sink.failed c.args.out.now) (g.O.Sink.failed served.new.out)
    (g.O.Output.is_flushed served.new.out) r) (sym c.closed.ensures)
    (closed_heeds _ _ _ served.result.0 c.close_database.result served.ensures.heeds)

pub returns-in-Err-clause-heeds : goal.returns-in-Err-clause-heeds
returns-in-Err-clause-heeds g c = heeds_unwritten ℕ _ _ (g.O.Output.is_flushed c.args.out.now) c.in-Err.unopened (of_opening c.in-Err.unopened c.in-Err.ensures.only)
