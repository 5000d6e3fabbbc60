-- The effect of a call that writes a text on its writer.
use Rattle.std.specs.Prelude.{◌≡◌, ℕ, ◌+◌, ◌≤◌, Bool, true, false, if◌then◌else◌, List, length, Option}
use Rattle.std.specs.Io.KnownBytes.{Appends}
use Rattle.wire.specs.Streams.{AppendsBeginning}

module _ {S : Type 0} (taken : S → Option (List ℕ)) (failed room : S → ℕ) where
  -- The writer takes the text, or it fails in that call and takes a prefix of it.
  -- It does not fail if it has room for the text.
  pub record Writes (old new : S) (is_ok : Bool) (text : List ℕ) : Type 0 where
    pub ok : is_ok ≡ true → Appends (taken old) (taken new) text
    pub err : is_ok ≡ false → AppendsBeginning (taken old) (taken new) text
    pub count : failed new ≡ (if is_ok then failed old else failed old + 1)
    pub sure : length text ≤ room old → is_ok ≡ true
    pub left : is_ok ≡ true → room old ≤ room new + length text
