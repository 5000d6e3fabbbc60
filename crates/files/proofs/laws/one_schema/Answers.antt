use Rattle.files.proofs.OneSchema.{one_schema}
use Rattle.files.proofs.laws.one_schema.Goals as goal

pub returns : goal.returns
returns g = one_schema
