use Rattle.store_sql.proofs.Words.{arith, drop, err_from_is_err_and, refl, state, subst, ◌<◌, ◌≡◌}
use Rattle.store_sql.specs.declared.creation.TableName.TheVariants.{Office}
use Rattle.store_sql.specs.Making.{in_order}
use Rattle.store_sql.proofs.Growth.{IsAt, completed, none_committed, none_made, none_more, one_more, still_lives}
use Rattle.store_sql.proofs.creation.create_tables.Goals as goal

pub loop-name-init : goal.loop-name-init
loop-name-init g c = none_made in_order _ (refl, (refl, (refl, (refl, (refl, (refl, (refl, refl)))))))

pub loop-name-preserved : goal.loop-name-preserved
loop-name-preserved g c =
    let inside : c.loop-name.name-index < 7 = omega (arith, c.loop-name-test.true) in
    one_more in_order c.loop-name.name-index Office inside _ _ _ c.loop-name.invariant c.create.ensures.survives
    c.in_ok-create.ensures.creates c.in_ok-create.ensures.stays

pub returns-in_err-create-clause-survives : goal.returns-in_err-create-clause-survives
returns-in_err-create-clause-survives g c =
    let inside : c.loop-name.name-index < 7 = omega (arith, c.loop-name-test.true) in
    still_lives in_order c.loop-name.name-index Office inside _ _ _ c.loop-name.invariant c.create.ensures.survives

pub returns-in_err-create-clause-fault : goal.returns-in_err-create-clause-fault
returns-in_err-create-clause-fault g c clean bare =
    let inside : c.loop-name.name-index < 7 = omega (arith, c.loop-name-test.true) in
    let told = err_from_is_err_and c.from_residual.result c.from_residual.ensures.1 in
    let cause = none_more in_order c.loop-name.name-index Office inside _ _ _ c.loop-name.invariant
    c.create.ensures.survives c.in_err-create.field-0.0 c.in_err-create.ensures.fault clean bare in
    rw (told.1, told.2) cause

pub returns-clause-completes : goal.returns-clause-completes
returns-clause-completes g c =
    let old = state g.S.Store c.args.conn.now in
    let new = state g.S.Store c.loop-name.conn in
    let end : c.loop-name.name-index ≡ 7 = omega (arith, c.loop-name-test.false, c.loop-name.auto.name-index-end) in
    completed old new (subst (λ n. IsAt (drop n in_order) old new) end c.loop-name.invariant)

pub returns-in_err-create-clause-completes : goal.returns-in_err-create-clause-completes
returns-in_err-create-clause-completes g c clean =
    let inside : c.loop-name.name-index < 7 = omega (arith, c.loop-name-test.true) in
    let told = err_from_is_err_and c.from_residual.result c.from_residual.ensures.1 in
    let stays = none_committed in_order c.loop-name.name-index Office inside _ _ _ c.loop-name.invariant
    c.create.ensures.survives c.in_err-create.field-0.0 c.in_err-create.ensures.stays clean in
    rw told.1 (λ bare. stays)

pub returns-in_err-create-clause-undamaged : goal.returns-in_err-create-clause-undamaged
returns-in_err-create-clause-undamaged g c =
    let told = err_from_is_err_and c.from_residual.result c.from_residual.ensures.1 in
    rw (told.1, told.2) c.in_err-create.ensures.undamaged

pub returns-in_err-create-clause-stays : goal.returns-in_err-create-clause-stays
returns-in_err-create-clause-stays g c clean =
    let inside : c.loop-name.name-index < 7 = omega (arith, c.loop-name-test.true) in
    let told = err_from_is_err_and c.from_residual.result c.from_residual.ensures.1 in
    rw told.1 (none_committed in_order c.loop-name.name-index Office inside _ _ _ c.loop-name.invariant
    c.create.ensures.survives c.in_err-create.field-0.0 c.in_err-create.ensures.stays clean)

pub returns-clause-stays : goal.returns-clause-stays
returns-clause-stays g c = c.loop-name.invariant.stays

pub returns-clause-survives : goal.returns-clause-survives
returns-clause-survives g c = c.loop-name.invariant.lives
