-- The first bad line of a text.
use Rattle.std.specs.Prelude.{◌≡◌, ◌≢◌, ℕ, ◌-◌, ◌<◌, ◌≤◌, List, length, take, IsTrue}
use Rattle.message.specs.declared.kinds.Message.{Message}
use Rattle.message.specs.Values.{is_message}
use Rattle.message.specs.Texts.{message_text}
use Rattle.message.specs.Reading.{pieces}

-- The first n lines of two texts exist, each with its line feed, and are the same.
abbrev pub SharesLines : ℕ → List ℕ → List ℕ → Type 0
SharesLines n a b = (n < length (pieces a)) × (n < length (pieces b)) × (take n (pieces a) ≡ take n (pieces b))

-- The text is no message's; the lines before line n begin some message's text, and with line n they begin none.
pub record IsFirstBad (bytes : List ℕ) (n : ℕ) : Type 0 where
  pub counted : 1 ≤ n
  pub lawless : (m : Message) → IsTrue (is_message m) → bytes ≢ message_text m
  pub some : (m : Message) × (IsTrue (is_message m) × SharesLines (n - 1) bytes (message_text m))
  pub none : (m : Message) → IsTrue (is_message m) → SharesLines n bytes (message_text m) → ⊥
