-- Exchange files. A file is a sequence of records up to its end, each a line `exchange MOMENT NONCE LENGTH` and then
-- LENGTH bytes of a request.
use Rattle.std.specs.Prelude.{◌≡◌, ◌≢◌, ◌↔◌, ℕ, ◌+◌, ◌^◌, ◌<◌, ◌≤◌, List, [], ◌∷◌, ◌++◌, length, codes}
use Rattle.std.specs.Fmt.{decimal}
use Rattle.std.specs.List.{AllByRecursion, flat_map}
use Rattle.hex.specs.Hex.{IsBytes, encode_lower}
use Rattle.web.specs.declared.exchange.Exchange.{Exchange}
use Rattle.exchanges.specs.declared.exchange_reader.ExchangesFault.{ExchangesFault}
use Rattle.exchanges.specs.declared.exchange_reader.ExchangesFault.TheVariants.{BadExchange, NoMemory}

-- a record
abbrev pub exchange_text : Exchange → List ℕ
exchange_text e =
    codes "exchange "
    ++ (decimal e.moment ++ 32 ∷ (encode_lower e.nonce ++ 32 ∷ (decimal (length e.request) ++ 10 ∷ e.request)))

-- a sequence of records
abbrev pub exchanges_text : List Exchange → List ℕ
exchanges_text es = flat_map exchange_text es

-- an exchange that a record can hold
pub record IsExchange (e : Exchange) : Type 0 where
  pub moment : e.moment < 2 ^ 64
  pub nonce : length e.nonce ≡ 32
  pub bytes : IsBytes e.nonce
  pub size : length e.request ≤ 65536

-- exchanges that a file can hold
pub record AreExchanges (es : List Exchange) : Type 0 where
  pub each : AllByRecursion IsExchange es
  pub count : length es ≤ 10000

-- Bytes are left after k - 1 records, and k is over the limit or no record begins there.
pub record IsBadRecord (file : List ℕ) (k : ℕ) : Type 0 where
  pub before : List Exchange
  pub rest : List ℕ
  pub are : AreExchanges before
  pub text : file ≡ exchanges_text before ++ rest
  pub number : k ≡ length before + 1
  pub more : rest ≢ []
  pub first : k ≤ 10000 → (e : Exchange) (after : List ℕ) → IsExchange e → rest ≢ exchange_text e ++ after

-- Bytes that a reader can use in place of a file: they are the text of the same exchanges, if of any, and have the
-- same first bad record.
pub record TellsOf (file bytes : List ℕ) : Type 0 where
  pub exchanges : (es : List Exchange) → AreExchanges es → (bytes ≡ exchanges_text es) ↔ (file ≡ exchanges_text es)
  pub bad : (k : ℕ) → IsBadRecord bytes k ↔ IsBadRecord file k

-- what a returned fault implies about the file
abbrev pub IsExchangesFault : List ℕ → ExchangesFault → Type 0
IsExchangesFault file (BadExchange k) = IsBadRecord file k
IsExchangesFault file NoMemory = Unit {0}
