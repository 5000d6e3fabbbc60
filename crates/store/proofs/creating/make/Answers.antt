use Rattle.store.proofs.Words.{Has, HasCleanDisk, IsBare, RefusesFirst, Steps, Survives, Waits, WaitsAt, arith}
use Rattle.store.proofs.Words.{err_from_is_err_and, no_contents, no_schema, refl, state, stays_then, survives_weaker}
use Rattle.store.proofs.Words.{with_ca_row, with_office}
use Rattle.sqlite.specs.State.{State}
use Rattle.store.proofs.Steps.{Leads, goes, answers_then, waits_then}
use Rattle.store.proofs.Causes.{cause_of, fails_then}
use Rattle.store.proofs.creating.make.Goals as goal

-- a database without tables, in which the office's tables are made
bare_leads : (a b : State) → (IsBare no_schema a.now → Steps a b no_contents)
    → Leads (λ (_ : Unit {0}). IsBare no_schema) Has (λ _. no_contents) a b
bare_leads a b made x bare = let s = goes a b no_contents (made bare) in (no_contents, s, s.means)

bare_waits : (a b : State) → Survives a b (WaitsAt no_schema a)
    → Survives a b (Waits (λ (_ : Unit {0}). IsBare no_schema) a)
bare_waits a b one =
    survives_weaker a b (WaitsAt no_schema a) (Waits (λ (_ : Unit {0}). IsBare no_schema) a)
    (λ clean trees h x bare. h bare.0) one

pub returns : goal.returns
returns g c =
    let old = state g.S.Store c.args.conn.now in
    let mid = state g.S.Store c.create_tables.new.conn in
    let new = state g.S.Store c.fill.new.conn in
    let one = c.in_ok-create_tables.ensures in
    let started = c.create_tables.ensures.survives in
    let rest = c.fill.ensures in
    let still : HasCleanDisk new → HasCleanDisk mid = λ clean. omega (arith, rest.survives.clean) in
    let refused = RefusesFirst c.args.office.now c.args.ca.now in
    record {
      makes = λ clean. answers_then (λ (_ : Unit {0}). IsBare no_schema) (λ _ _. Unit {0})
          (λ _. with_ca_row c.args.ca.now (with_office c.args.office.now no_contents)) Has (λ _ _. Unit {0})
          (λ x. with_ca_row c.args.ca.now (with_office c.args.office.now x)) (λ _. no_contents) old mid new c.fill.result
          (bare_leads old mid (one.completes (still clean))) (rest.makes clean) (λ _ _ _. tt) (λ _. refl);
      fault = λ clean. fails_then (λ (_ : Unit {0}). IsBare no_schema) Has refused (λ _. refused no_contents)
          (λ _. no_contents) (WaitsAt no_schema old) old mid new c.fill.result
          (bare_leads old mid (one.completes (still clean))) (λ x bare why. why) started (still clean)
          rest.survives.counts (rest.fault clean);
      stays = λ clean. stays_then {X = Unit {0}} old mid new tt c.fill.result (one.stays (still clean))
          (rest.stays clean);
      survives = waits_then (λ (_ : Unit {0}). IsBare no_schema) Has (λ _. no_contents) old mid new
          (λ clean. bare_leads old mid (one.completes clean)) (bare_waits old mid started) rest.survives;
    }

pub returns-in_err-create_tables : goal.returns-in_err-create_tables
returns-in_err-create_tables g c =
    let p = err_from_is_err_and c.from_residual.result c.from_residual.ensures.1 in
    let e = c.in_err-create_tables.ensures in
    rw (p.1, p.2) (record {
      makes = λ clean x bare inside. e.completes clean bare inside;
      fault = λ clean x bare. cause_of (RefusesFirst c.args.office.now c.args.ca.now no_contents)
          (state g.S.Store c.args.conn.now) (state g.S.Store c.create_tables.new.conn) c.in_err-create_tables.field-0.0
          (e.fault clean bare);
      stays = λ clean. e.stays clean;
      survives = bare_waits _ _ c.create_tables.ensures.survives;
    })
