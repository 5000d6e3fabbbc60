use Rattle.std.proofs.Common.{◌∙◌, sym}
use Rattle.waiting.proofs.Kept.{no_revocation}
use Rattle.waiting.proofs.revoking.may_revoke.Goals as goal

pub returns : goal.returns
returns c none m is = no_revocation c.args.bytes.now m is (sym c.starts_with.ensures.value ∙ none)
