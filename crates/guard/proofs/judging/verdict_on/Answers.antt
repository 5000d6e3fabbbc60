use Rattle.std.proofs.Common.{ap, ◌∙◌}
use Rattle.std.specs.Prelude.{find, ◌==◌}
use Rattle.std.specs.Option.{option_map, option_or}
use Rattle.guard.specs.declared.approved.Approved.{Approved}
use Rattle.guard.specs.Machine.{with_rows}
use Rattle.guard.proofs.Weighed.{body_among}
use Rattle.guard.proofs.judging.verdict_on.Goals as goal

pub returns-clause-decided : goal.returns-clause-decided
returns-clause-decided g c h s kept =
    let rows = c.args.rows.now in
    let serial = c.args.fields.now.serial in
    let before = c.body_of.ensures.honest h in
    let body = c.in_ok-kept.ensures.row h s (c.scope.ensures.same before s kept) in
    c.decide.ensures.decided (with_rows s rows) (record {
      scope = c.in_ok-scope.ensures.row before s kept;
      kept = c.body_under.ensures
          ∙ (ap (λ o. option_or o (option_map (λ (a : Approved). a.body) (find (λ (a : Approved). a.serial == serial) rows)))
          c.as_ref.ensures.value
          ∙ body_among s rows serial c.in_ok-kept.kept body);
    })
