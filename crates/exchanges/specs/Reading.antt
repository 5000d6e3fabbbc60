-- Records read from the left.
use Rattle.std.specs.Prelude.{ℕ, List, length, take, drop, codes, ◌&&◌, nat_le, nat_lt, ◌==◌, if◌then◌else◌, Option}
use Rattle.std.specs.Prelude.{Some, None, option_map}
use Rattle.std.specs.List.{before_first, after_first}
use Rattle.std.specs.Option.{option_and_then}
use Rattle.std.specs.Result.{result_ok}
use Rattle.std.specs.Str.{bytes_eq}
use Rattle.hex.specs.Hex.{decode_sized, encode_lower}
use Rattle.values.specs.Decimals.{number_of}
pub use Rattle.message.specs.Reading.{rest_after}
use Rattle.web.specs.declared.exchange.Exchange.{Exchange}
use Rattle.exchanges.specs.declared.exchange_reader.Record.{Record}

-- the bytes before the first occurrence of this byte, and the bytes after it
abbrev pub cut_of : ℕ → List ℕ → Option (List ℕ × List ℕ)
cut_of byte t =
    if nat_lt (length (before_first (λ b. b == byte) t)) (length t)
    then Some (before_first (λ b. b == byte) t, after_first (λ b. b == byte) t)
    else None

-- the number up to the first occurrence of this byte, and the bytes after it
abbrev pub number_up_to : ℕ → List ℕ → Option (ℕ × List ℕ)
number_up_to byte t = option_and_then (λ p. option_map (λ n. (n, p.1)) (number_of p.0)) (cut_of byte t)

-- the bytes, if the text is their lower-case hexadecimal form
abbrev pub if_lower : List ℕ → List ℕ → Option (List ℕ)
if_lower t bytes = if bytes_eq (encode_lower bytes) t then Some bytes else None

-- the 32 bytes that these lower-case hexadecimal digits encode
abbrev pub nonce_of : List ℕ → Option (List ℕ)
nonce_of t = option_and_then (if_lower t) (result_ok (decode_sized t 32))

-- the first `size` bytes and the bytes after them, if there are that many and a request may have that many
abbrev pub request_in : ℕ → List ℕ → Option (List ℕ × List ℕ)
request_in size t = if nat_le size 65536 && nat_le size (length t) then Some (take size t, drop size t) else None

infixl 10 ◌>>=◌
abbrev pub ◌>>=◌ : {A B : Type 0} → Option A → (A → Option B) → Option B
o >>= f = option_and_then f o

-- the exchange of a record
abbrev pub recorded_exchange : Record → Exchange
recorded_exchange r = record { request = r.request.now; moment = r.moment; nonce = r.nonce }

-- the exchange of the first record, and the bytes after it
unfoldable pub exchange_at : List ℕ → Option (Exchange × List ℕ)
exchange_at t = do
  words ← rest_after (codes "exchange ") t
  moment ← number_up_to 32 words
  digits ← cut_of 32 moment.1
  nonce ← nonce_of digits.0
  size ← number_up_to 10 digits.1
  request ← request_in size.0 size.1
  Some (record { request = request.0; moment = moment.0; nonce = nonce }, request.1)
