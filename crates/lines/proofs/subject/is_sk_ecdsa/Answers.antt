use Rattle.lines.specs.Subjects.{tests_of}
use Rattle.lines.proofs.Subjects.{too_many}
use Rattle.lines.specs.declared.subject.KeyType.TheVariants.{SkEcdsaP256}
use Rattle.lines.proofs.subject.is_sk_ecdsa.Goals as goal

pub returns-in_default-2 : goal.returns-in_default-2
returns-in_default-2 c = too_many (tests_of SkEcdsaP256) c.args.parts.now c.in_default.len_at_least
