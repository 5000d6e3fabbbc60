-- The message that has given bytes as its text.
use Rattle.office.proofs.Words.{Err, List, Message, None, Ok, Some, bytes_eq, bytes_eq-Decides, is_message}
use Rattle.office.proofs.Words.{message_with_text, refl, true, ℕ, ◌≡◌}
use Rattle.message.specs.Reading.{message_at}
use Rattle.message.specs.Texts.{message_text}

-- a message that was read is the one whose text the bytes are
pub read_is : (bytes : List ℕ) (m : Message) → message_at bytes ≡ Ok m → is_message m ≡ true → bytes ≡ message_text m
    → message_with_text bytes ≡ Some m
read_is bytes m read lawful text =
    let same : bytes_eq bytes (message_text m) ≡ true = (bytes_eq-Decides bytes (message_text m)).1 text in
    rw (read, lawful, same) refl

-- bytes with a bad line are the text of no message
pub bad_is : (bytes : List ℕ) (n : ℕ) → message_at bytes ≡ Err n → message_with_text bytes ≡ None
bad_is bytes n read = rw read refl
