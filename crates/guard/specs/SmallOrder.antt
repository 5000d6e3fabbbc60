-- Ed25519 public keys of small order, in a security key or not. A public key is an encoded point of the curve (RFC 8032, section 5.1.5). If the
-- point's order divides the cofactor 8, it has small order (RFC 7748, sections 6.1 and 7), and everybody can make
-- signatures that are valid for it: no private key is needed.
use Rattle.std.specs.Prelude.{ℕ, ◌+◌, ◌-◌, ◌*◌, ◌^◌, ◌%◌, ◌==◌, nat_lt, List, [], ◌∷◌, length, Bool, false, ◌&&◌}
use Rattle.std.specs.List.{list_all, list_any}
use Rattle.lines.specs.declared.subject.KeyType.{KeyType}
use Rattle.lines.specs.declared.subject.KeyType.TheVariants.{Ed25519, SkEd25519}

-- RFC 8032, section 5.1
abbrev pub prime : ℕ
prime = 2 ^ 255 - 19

-- 32 bytes
abbrev pub is_encoding : List ℕ → Bool
is_encoding e = (length e == 32) && list_all (λ b. nat_lt b 256) e

-- section 5.1.2: the integer of these bytes
abbrev pub little_endian : List ℕ → ℕ
little_endian [] = 0
little_endian (b ∷ bs) = b + 256 * little_endian bs

-- section 5.1.2: y is in the lower 255 bits, and the highest bit is the sign of x
abbrev pub y_of : List ℕ → ℕ
y_of encoding = little_endian encoding % 2 ^ 255

-- each y that encodes one of the eight points of small order, whatever the sign of x: two points of order 4 with y = 0,
-- the neutral point with y = 1, that of order 2 with y = p - 1, and four of order 8. A decoder that doesn't refuse
-- y >= p, as section 5.1.3 would have it, takes y modulo p: so p and p + 1 encode points too, and OpenSSH reads them.
unfoldable pub small_order_ys : List ℕ
small_order_ys =
    0
    ∷ 1
    ∷ (prime - 1)
    ∷ prime
    ∷ (prime + 1)
    ∷ 2707385501144840649318225287225658788936804267575313519463743609750303402022
    ∷ 55188659117513257062467267217118295137698188065244968500265048394206261417927
    ∷ []

-- the encoded point has small order
unfoldable pub has_small_order : List ℕ → Bool
has_small_order encoding = list_any (λ y. y == y_of encoding) small_order_ys

-- the key's first string is the 32 bytes of such a point
abbrev pub is_first_weak : List (List ℕ) → Bool
is_first_weak [] = false
is_first_weak (encoding ∷ more) = length encoding == 32 && has_small_order encoding

-- the key is one of Ed25519, in a security key or not, and its point has small order; keys of other types have no such
-- point
abbrev pub has_weak_key : KeyType → List (List ℕ) → Bool
has_weak_key Ed25519 key = is_first_weak key
has_weak_key SkEd25519 key = is_first_weak key
has_weak_key t key = false
