use Rattle.office_jobs.proofs.Words.{HasCleanDisk, State, ap, arith, refl, state, subst, sym}
use Rattle.office_jobs.specs.Making.{IsOfficeMade}
use Rattle.office_jobs.proofs.Unlike.{had_no_office}
use Rattle.office_jobs.proofs.Made.{unmade}
use Rattle.office_jobs.specs.Faults.{IsUnwritten}
use Rattle.office_jobs.proofs.Counted.{of_a_store}
use Rattle.office_jobs.proofs.founding.make_over.Goals as goal

pub returns-in-Err-clause-unwritten : goal.returns-in-Err-clause-unwritten
returns-in-Err-clause-unwritten g c = subst IsUnwritten (sym c.from.ensures) (of_a_store c.in-Err.fault)

pub returns-in-Err-clause-makes : goal.returns-in-Err-clause-makes
returns-in-Err-clause-makes g c = λ clean.
    unmade c.in-Err.fault c.from.result c.args.opening.now (state g.S.Store c.args.conn) (state g.S.Store c.in-Err.conn)
    c.from.ensures (c.in-Err.ensures.before clean) (c.in-Err.ensures.blank clean) (c.in-Err.ensures.only clean)
    (c.in-Err.ensures.told clean) c.in-Err.ensures.crash_back

pub returns-in-Ok-clause-makes : goal.returns-in-Ok-clause-makes
returns-in-Ok-clause-makes g c = λ honest.
    let back = ap (state g.S.Store) c.into_connection.ensures in
    let clean : HasCleanDisk (state g.S.Store c.in-Ok.store.conn) = subst HasCleanDisk back honest in
    subst (λ (s : State). IsOfficeMade c.args.opening.now (state g.S.Store c.args.conn) s) (sym back) (record {
      unlike = had_no_office (state g.S.Store c.args.conn) _ c.in-Ok.store _ refl c.in-Ok.ensures.already;
      made = c.in-Ok.ensures.made clean;
      is_open = c.in-Ok.ensures.stays_open clean;
      crash = c.in-Ok.ensures.crash;
    })

pub returns-in-Ok-clause-honest : goal.returns-in-Ok-clause-honest
returns-in-Ok-clause-honest g c = λ honest.
    let back = ap (state g.S.Store) c.into_connection.ensures in
    let clean : HasCleanDisk (state g.S.Store c.in-Ok.store.conn) = subst HasCleanDisk back honest in
    omega (arith, c.in-Ok.ensures.crash.clean)

pub returns-in-Err-clause-honest : goal.returns-in-Err-clause-honest
returns-in-Err-clause-honest g c = λ clean. omega (arith, c.in-Err.ensures.crash_back.clean)
