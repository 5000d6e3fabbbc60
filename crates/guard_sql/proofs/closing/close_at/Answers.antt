use Rattle.guard_sql.proofs.Left.{leaves_what_is_kept}
use Rattle.guard_sql.proofs.closing.close_at.Goals as goal

pub returns-in-Ok : goal.returns-in-Ok
returns-in-Ok g c clean = leaves_what_is_kept c.args.conn c.in-Ok.files (c.in-Ok.ensures.copied clean)
