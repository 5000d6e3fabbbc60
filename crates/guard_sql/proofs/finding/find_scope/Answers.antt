use Rattle.std.proofs.Common.{ap, sym, ◌∙◌}
use Rattle.std.specs.List.{list_any}
use Rattle.std.proofs.lemmas.Bool.{both_ways}
use Rattle.sqlite.specs.Held.{state}
use Rattle.sqlite.specs.Schema.{Schema}
use Rattle.guard_sql.specs.Look.{is_guard_table, whole_is_guard}
use Rattle.guard_sql.proofs.Scopes.{found_scope, its_table, not_found, says, says_fault}
use Rattle.guard_sql.proofs.finding.find_scope.Goals as goal

pub returns-then-not-has_guard-clause-finds : goal.returns-then-not-has_guard-clause-finds
returns-then-not-has_guard-clause-finds g c clean s guard means =
    let seen = ap (λ (s : Schema). list_any is_guard_table s.tables) means.schema ∙ whole_is_guard in
    both_ways _ (sym c.has_guard.ensures ∙ c.if-not-has_guard.true) seen

pub returns-then-not-has_guard-clause-says : goal.returns-then-not-has_guard-clause-says
returns-then-not-has_guard-clause-says g c clean rows has =
    let seen = ap (λ (s : Schema). list_any is_guard_table s.tables) has.schema ∙ whole_is_guard in
    absurd (both_ways _ (sym c.has_guard.ensures ∙ c.if-not-has_guard.true) seen)

pub returns-in-Ok-clause-finds : goal.returns-in-Ok-clause-finds
returns-in-Ok-clause-finds g c clean = found_scope (state g.S.Store c.args.conn.now)
    (state g.S.Store c.every_guard.new.conn) c.in-Ok.rows.items c.scope_in.result
    (rw c.as_slice.ensures.value at c.scope_in.ensures)
    (λ d means. c.in-Ok.ensures.finds clean d.guards (its_table d _ means))

pub returns-in-Ok-clause-says : goal.returns-in-Ok-clause-says
returns-in-Ok-clause-says g c clean rows has = says rows c.in-Ok.rows.items _ c.scope_in.result
    (c.in-Ok.ensures.finds clean rows has).1 (rw c.as_slice.ensures.value at c.scope_in.ensures)

pub returns-in-Err-clause-finds : goal.returns-in-Err-clause-finds
returns-in-Err-clause-finds g c clean = rw c.opening_fault.ensures (not_found (state g.S.Store c.args.conn.now)
    (state g.S.Store c.every_guard.new.conn) c.in-Err.fault
    (λ d means. c.in-Err.ensures.finds clean d.guards (its_table d _ means))
    (λ d means. c.in-Err.ensures.fault clean d.guards (its_table d _ means)))

pub returns-in-Err-clause-says : goal.returns-in-Err-clause-says
returns-in-Err-clause-says g c clean rows has = rw c.opening_fault.ensures (says_fault rows
    (state g.S.Store c.args.conn.now) (state g.S.Store c.every_guard.new.conn) c.in-Err.fault
    (c.in-Err.ensures.fault clean rows has))
