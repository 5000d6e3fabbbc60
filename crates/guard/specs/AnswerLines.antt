-- Answers as lines.
use Rattle.std.specs.Prelude.{ℕ, List, [], ◌∷◌, ◌++◌, codes}
use Rattle.std.specs.Fmt.{decimal}
use Rattle.cert.specs.declared.cert_fault.CertFault.{CertFault}
use Rattle.cert.specs.declared.cert_fault.CertFault.TheVariants as cert
use Rattle.guard.specs.declared.body.BodyFault.{BodyFault}
use Rattle.guard.specs.declared.body.BodyFault.TheVariants as fault
use Rattle.guard.specs.declared.judging.Answer.{Answer}
use Rattle.guard.specs.declared.judging.Answer.TheVariants as answer
use Rattle.guard.specs.Refusals.{refusal_name}

abbrev pub field_name : CertFault → List ℕ
field_name cert.Truncated = codes "Truncated"
field_name cert.WrongType = codes "WrongType"
field_name cert.BadNonce = codes "BadNonce"
field_name cert.BadKey = codes "BadKey"
field_name cert.BadSerial = codes "BadSerial"
field_name cert.BadKind = codes "BadKind"
field_name cert.BadKeyId = codes "BadKeyId"
field_name cert.BadPrincipals = codes "BadPrincipals"
field_name cert.BadValidity = codes "BadValidity"
field_name cert.BadOptions = codes "BadOptions"
field_name cert.BadExtensions = codes "BadExtensions"
field_name cert.BadReserved = codes "BadReserved"
field_name cert.BadCa = codes "BadCa"
field_name cert.TrailingBytes = codes "TrailingBytes"
field_name cert.NoMemory = codes "NoMemory"

abbrev pub fault_name : BodyFault → List ℕ
fault_name fault.TooLong = codes "TooLong"
fault_name (fault.NotOfTheProfile e) = field_name e
fault_name fault.NoMemory = codes "NoMemory"

-- two words and a line feed
abbrev pub words_line : List ℕ → List ℕ → List ℕ
words_line word other = word ++ 32 ∷ (other ++ 10 ∷ [])

abbrev pub signed_line : ℕ → List ℕ → List ℕ
signed_line serial digest = codes "sign " ++ (decimal serial ++ 32 ∷ (digest ++ 10 ∷ []))

-- the line that is printed for an answer
abbrev pub answer_line : Answer → List ℕ
answer_line (answer.Sign serial digest) = signed_line serial digest
answer_line (answer.NotABody e) = words_line (codes "refuse NotABody") (fault_name e)
answer_line (answer.Refuse r) = words_line (codes "refuse") (refusal_name r)
