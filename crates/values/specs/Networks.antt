-- IPv4 networks in CIDR notation (RFC 4632 section 3.1), as in the source-address option (PROTOCOL.certkeys).
use Rattle.std.specs.Prelude.{◌≡◌, ℕ, ◌+◌, ◌-◌, ◌*◌, ◌^◌, ◌%◌, ◌<◌, ◌≤◌, List, ◌++◌, length, fold, codes}
use Rattle.std.specs.Prelude.{decimal, Bool, false, ◌&&◌, ◌==◌, nat_le, Option, Some, None, if◌then◌else◌}
use Rattle.std.specs.Option.{option_and_then, option_map}
use Rattle.std.specs.List.{list_all, list_any, slice_split, before_first, after_first}
use Rattle.std.specs.Net.Text.{dotted_text}
use Rattle.std.specs.Str.Parse.{digits_value}
use Rattle.values.specs.Decimals.{is_number_below, number_of}

-- four numbers from 0 to 255
abbrev pub are_octets : List (List ℕ) → Bool
are_octets texts = length texts == 4 && list_all (is_number_below 256) texts

-- the number with these digits in base 256, the most significant first
abbrev pub octets_value : List (List ℕ) → ℕ
octets_value texts = fold (λ value text. value * 256 + digits_value 10 text) 0 texts

-- the address in a text a.b.c.d, as one 32-bit number
abbrev pub address_of : List ℕ → Option ℕ
address_of t =
    let octets = slice_split (λ b. b == 46) t in if are_octets octets then Some (octets_value octets) else None

-- an address and a size of at most 32, with no bit of the address set after the first `size` bits
abbrev pub is_block : Option ℕ → Option ℕ → Bool
is_block None size = false
is_block (Some address) None = false
is_block (Some address) (Some size) = nat_le size 32 && address % 2 ^ (32 - size) == 0

-- a network: an address, / and a size
abbrev pub is_network : List ℕ → Bool
is_network t = is_block (address_of (before_first (λ b. b == 47) t)) (number_of (after_first (λ b. b == 47) t))

-- 1 to 8 networks joined by commas
abbrev pub are_networks : List ℕ → Bool
are_networks t =
    let networks = slice_split (λ b. b == 44) t in nat_le (length networks) 8 && list_all is_network networks

-- the address and the size in a text
abbrev pub block_at : List ℕ → Option (ℕ × ℕ)
block_at t =
    option_and_then (λ address. option_map (λ size. (address, size)) (number_of (after_first (λ b. b == 47) t)))
    (address_of (before_first (λ b. b == 47) t))

-- the address with its first `size` bits, and the others zero
abbrev pub first_bits : (address size : ℕ) → ℕ
first_bits address size = address - address % 2 ^ (32 - size)

-- an address and a size, and whether all of its addresses are among those of another
abbrev pub is_within : Option (ℕ × ℕ) → Option (ℕ × ℕ) → Bool
is_within None outer = false
is_within (Some inner) None = false
is_within (Some inner) (Some outer) = nat_le outer.1 inner.1 && first_bits inner.0 outer.1 == outer.0

-- whether the first network lies in the second
abbrev pub lies_in : List ℕ → List ℕ → Bool
lies_in inner outer = is_within (block_at inner) (block_at outer)

-- whether each of the networks, joined by commas, lies in one of the others
abbrev pub lie_in : List ℕ → List ℕ → Bool
lie_in inner outer =
    list_all (λ network. list_any (lies_in network) (slice_split (λ b. b == 44) outer)) (slice_split (λ b. b == 44) inner)

-- a network as numbers
pub record Network : Type 0 where
  pub a : ℕ
  pub b : ℕ
  pub c : ℕ
  pub d : ℕ
  pub size : ℕ

-- the octets are below 256, the size is at most 32, and the address's bits after the first `size` are zero
pub record IsNetwork (n : Network) : Type 0 where
  pub octets : (n.a < 256) × (n.b < 256) × (n.c < 256) × (n.d < 256)
  pub within : n.size ≤ 32
  pub zeros : (((n.a * 256 + n.b) * 256 + n.c) * 256 + n.d) % 2 ^ (32 - n.size) ≡ 0

-- a.b.c.d/size
abbrev pub network_text : Network → List ℕ
network_text n = dotted_text n.a n.b n.c n.d ++ codes "/" ++ decimal n.size
