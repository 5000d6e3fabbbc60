-- The message that a text belongs to.
use Rattle.std.specs.Prelude.{◌≡◌, ℕ, List, IsTrue}
use Rattle.message.specs.declared.kinds.Message.{Message}
use Rattle.message.specs.Values.{is_message}
use Rattle.message.specs.Texts.{message_text}

-- The message is valid, and the bytes are its text.
abbrev pub BelongsTo : List ℕ → Message → Type 0
BelongsTo bytes m = IsTrue (is_message m) × (bytes ≡ message_text m)
