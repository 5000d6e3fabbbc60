use Rattle.std.proofs.Common.{◌≡◌, List, ap, subst, sym, ◌∙◌}
use Rattle.std.specs.List.{list_any}
use Rattle.std.proofs.lemmas.Bool.{both_ways}
use Rattle.sqlite.specs.Held.{state}
use Rattle.sqlite.specs.Schema.{Schema}
use Rattle.list_sql.specs.declared.lists.ListRow.{ListRow}
use Rattle.list_sql.specs.Look.{is_list_table, whole_is_list}
use Rattle.list_sql.specs.Opening.{IsUnlessRefused, last_in}
use Rattle.list_sql.proofs.Lasts.{found_last, its_rows, not_found, says, says_fault}
use Rattle.list_sql.proofs.finding.find_last.Goals as goal

pub returns-then-not-has_list-clause-finds : goal.returns-then-not-has_list-clause-finds
returns-then-not-has_list-clause-finds g c clean s filled means =
    let seen = ap (λ (s : Schema). list_any is_list_table s.tables) means.schema ∙ whole_is_list in
    both_ways _ (sym c.has_list.ensures ∙ c.if-not-has_list.true) seen

pub returns-then-not-has_list-clause-says : goal.returns-then-not-has_list-clause-says
returns-then-not-has_list-clause-says g c clean rows has =
    let seen = ap (λ (s : Schema). list_any is_list_table s.tables) has.schema ∙ whole_is_list in
    absurd (both_ways _ (sym c.has_list.ensures ∙ c.if-not-has_list.true) seen)

pub returns-in-Ok-clause-finds : goal.returns-in-Ok-clause-finds
returns-in-Ok-clause-finds g c clean =
    let shown : c.as_slice.result.now ≡ c.in-Ok.rows.items = c.as_slice.ensures.value in
    let told = subst (λ (all : List ListRow). IsUnlessRefused (last_in all) c.last_in.result) shown c.last_in.ensures in
    found_last (state g.S.Store c.args.conn.now) (state g.S.Store c.every_list.new.conn) c.in-Ok.rows.items
    c.last_in.result told (λ d means. c.in-Ok.ensures.finds clean d.lists (its_rows d _ means))

pub returns-in-Ok-clause-says : goal.returns-in-Ok-clause-says
returns-in-Ok-clause-says g c clean rows has =
    let shown : c.as_slice.result.now ≡ c.in-Ok.rows.items = c.as_slice.ensures.value in
    let told = subst (λ (all : List ListRow). IsUnlessRefused (last_in all) c.last_in.result) shown c.last_in.ensures in
    says (state g.S.Store c.args.conn.now).now rows c.in-Ok.rows.items _ c.last_in.result has
    (c.in-Ok.ensures.finds clean rows has).1 told

pub returns-in-Err-clause-finds : goal.returns-in-Err-clause-finds
returns-in-Err-clause-finds g c clean = rw c.opening_fault.ensures (not_found (state g.S.Store c.args.conn.now)
    (state g.S.Store c.every_list.new.conn) c.in-Err.fault
    (λ d means. c.in-Err.ensures.finds clean d.lists (its_rows d _ means))
    (λ d means. c.in-Err.ensures.fault clean d.lists (its_rows d _ means)))

pub returns-in-Err-clause-says : goal.returns-in-Err-clause-says
returns-in-Err-clause-says g c clean rows has = rw c.opening_fault.ensures (says_fault rows
    (state g.S.Store c.args.conn.now) (state g.S.Store c.every_list.new.conn) c.in-Err.fault
    (c.in-Err.ensures.fault clean rows has))
