use Rattle.std.proofs.Common.{◌∙◌}
use Rattle.values.proofs.OwnNames.{continued}
use Rattle.values.proofs.rule.is_joined.Goals as goal

pub returns : goal.returns
returns c = c.is_continued.ensures ∙ continued c.args.text.now c.args.front.now c.args.end.now
