use Rattle.guard_sql.proofs.Newest.{one_body}
use Rattle.guard_sql.proofs.laws.a_serial_has_one_body.Goals as goal

pub returns : goal.returns
returns g c s keeps is_open a b has_a has_b same =
    one_body s _ (keeps.rows is_open).now.kept.holds a b has_a has_b same
