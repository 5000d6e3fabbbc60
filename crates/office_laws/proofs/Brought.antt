-- The message in an arrival's bytes.
use Rattle.office_laws.proofs.Words.{List, Message, Some, and_parts, ap, bytes_eq-Decides, subst, ℕ, ◌∙◌, ◌≡◌}
use Rattle.std.proofs.Common.{◌↔◌}
use Rattle.std.proofs.lemmas.Option.{cond_some, option_and_then_some}
use Rattle.message.specs.Belonging.{BelongsTo}
use Rattle.message.specs.Reading.{message_at, message_of}
use Rattle.message.specs.Texts.{message_text}
use Rattle.message.specs.Values.{is_message}
use Rattle.message.proofs.TextLaws.{message_again}
use Rattle.office.specs.Messages.{if_text_of, is_text_of, message_with_text}
use Rattle.office.proofs.Texts.{read_is}

belongs : (bytes : List ℕ) (m : Message) → message_with_text bytes ≡ Some m → BelongsTo bytes m
belongs bytes m e =
    option_and_then_some (if_text_of bytes) (message_of bytes) m e (λ n read kept.
    let is = cond_some (is_text_of bytes n) n m kept in
    let both = and_parts (is_message n) _ is.0 in
    subst (BelongsTo bytes) is.1 (both.0, (bytes_eq-Decides bytes (message_text n)).0 both.1))

-- the message in bytes is the one to which they belong
pub with_text_exactly : (bytes : List ℕ) (m : Message) → (message_with_text bytes ≡ Some m) ↔ BelongsTo bytes m
with_text_exactly bytes m =
    (belongs bytes m, λ is. read_is bytes m (ap message_at is.1 ∙ message_again m is.0) is.0 is.1)
