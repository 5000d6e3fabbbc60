-- The message that an arrival contains.
use Rattle.std.specs.Prelude.{ℕ, List, Bool, ◌&&◌, if◌then◌else◌, Option, Some, None}
use Rattle.std.specs.Option.{option_and_then}
use Rattle.std.specs.Str.{bytes_eq}
use Rattle.message.specs.declared.kinds.Message.{Message}
use Rattle.message.specs.Values.{is_message}
use Rattle.message.specs.Texts.{message_text}
use Rattle.message.specs.Reading.{message_of}

-- the bytes are the text of this message, which is valid
abbrev pub is_text_of : List ℕ → Message → Bool
is_text_of bytes m = is_message m && bytes_eq bytes (message_text m)

abbrev pub if_text_of : List ℕ → Message → Option Message
if_text_of bytes m = if is_text_of bytes m then Some m else None

-- the message whose text the bytes are, if there is one
abbrev pub message_with_text : List ℕ → Option Message
message_with_text bytes = option_and_then (if_text_of bytes) (message_of bytes)
