-- Networks, in terms of their texts.
use Rattle.std.proofs.Common.{◌≡◌, ◌<◌, ◌≤◌, ◌+◌, ◌-◌, ◌*◌, ◌%◌, ◌^◌, ℕ, suc, List, []}
use Rattle.std.proofs.Common.{◌∷◌, ◌++◌, length, map, true, false, ◌&&◌, ◌==◌, nat_le, decimal}
use Rattle.std.proofs.Common.{Option, Some, arith, ap, sym, ◌∙◌, refl, append_assoc}
use Rattle.std.specs.Char.{is_ascii_digit}
use Rattle.std.specs.List.{list_all, slice_split, join_with_byte, before_first, after_first, AllByRecursion}
use Rattle.std.specs.Net.Text.{dotted_text}
use Rattle.std.proofs.lemmas.Bool.{and_parts, and_from, eqb-true, eq-eqb, leb-true, le-leb}
use Rattle.std.proofs.lemmas.Fmt.{decimal_nonempty}
use Rattle.std.proofs.lemmas.List.{length-map}
use Rattle.std.proofs.lemmas.Option.{cond_some}
use Rattle.std.proofs.lemmas.List.Elements.{All-append, All-from_recursion, recursion_from_All}
use Rattle.std.proofs.lemmas.List.Splits.{join_with_byte-slice_split, length-slice_split}
use Rattle.values.proofs.DecimalLemmas.{number_of-decimal, number_spelled}
use Rattle.values.proofs.Lacking.{Lacks, decimal_lacks, before_first-append}
use Rattle.values.proofs.Lacking.{after_first-append, cut_at, slice_split-join_with_byte}
use Rattle.values.proofs.NetworkLemmas.{address_of-dotted_text, octets_dotted}
use Rattle.values.specs.Decimals.{number_of}
use Rattle.values.specs.Laws.{AreNetworks}
use Rattle.values.specs.Networks.{are_octets, address_of, is_block, is_network}
use Rattle.values.specs.Networks.{are_networks, Network, IsNetwork, network_text}

-- a valid network with this text
pub record Spells (t : List ℕ) : Type 0 where
  pub network : Network
  pub sound : IsNetwork network
  pub spelled : t ≡ network_text network

byte_lacks : (byte b : ℕ) → (b == byte) ≡ false → Lacks byte (b ∷ [])
byte_lacks byte b off = All-from_recursion (λ x. (x == byte) ≡ false) (b ∷ []) (off, tt)

-- a dotted text lacks each byte that is no digit and no dot
pub dotted_lacks : (byte a b c d : ℕ) → a < 256 → b < 256 → c < 256 → d < 256 → is_ascii_digit byte ≡ false
    → (46 == byte) ≡ false → Lacks byte (dotted_text a b c d)
dotted_lacks byte a b c d la lb lc ld digit dot =
    let P : ℕ → Type 0 = λ x. (x == byte) ≡ false in
    let point = byte_lacks byte 46 dot in
    let more = λ (t : List ℕ) (n : ℕ) (l : Lacks byte t) (small : n < 256).
    All-append P (t ++ 46 ∷ []) (decimal n) (All-append P t (46 ∷ []) l point)
    (decimal_lacks byte n digit (omega arith)) in
    more _ d (more _ c (more _ b (decimal_lacks byte a digit (omega arith)) lb) lc) ld

-- a network's text lacks each byte that is no digit, no dot and no /
pub network_lacks : (byte : ℕ) (n : Network) → IsNetwork n → is_ascii_digit byte ≡ false → (46 == byte) ≡ false
    → (47 == byte) ≡ false → Lacks byte (network_text n)
network_lacks byte n s digit dot slash =
    let P : ℕ → Type 0 = λ x. (x == byte) ≡ false in
    let front = dotted_lacks byte n.a n.b n.c n.d s.octets.0 s.octets.1 s.octets.2 s.octets.3 digit dot in
    let within = s.within in
    All-append P (dotted_text n.a n.b n.c n.d ++ 47 ∷ []) (decimal n.size)
    (All-append P (dotted_text n.a n.b n.c n.d) (47 ∷ []) front (byte_lacks byte 47 slash))
    (decimal_lacks byte n.size digit (omega arith))

-- the text of a valid network passes the test for networks
pub is_network-text : (n : Network) → IsNetwork n → is_network (network_text n) ≡ true
is_network-text n s =
    let front = dotted_text n.a n.b n.c n.d in
    let size = decimal n.size in
    let address = ((n.a * 256 + n.b) * 256 + n.c) * 256 + n.d in
    let within = s.within in
    let lacks = dotted_lacks 47 n.a n.b n.c n.d s.octets.0 s.octets.1 s.octets.2 s.octets.3 refl refl in
    ap is_network (append_assoc front (47 ∷ []) size)
    ∙ ap (λ t. is_block (address_of t) (number_of (after_first (λ b. b == 47) (front ++ 47 ∷ size))))
    (before_first-append 47 front size lacks)
    ∙ ap (λ t. is_block (address_of front) (number_of t)) (after_first-append 47 front size lacks)
    ∙ ap (λ o. is_block o (number_of size))
    (address_of-dotted_text n.a n.b n.c n.d s.octets.0 s.octets.1 s.octets.2 s.octets.3)
    ∙ ap (is_block (Some address)) (number_of-decimal n.size (omega arith))
    ∙ and_from (nat_le n.size 32) (address % 2 ^ (32 - n.size) == 0) (le-leb _ _ within) (eq-eqb _ _ s.zeros)

-- the numbers from which an address was read
record Address (t : List ℕ) (address : ℕ) : Type 0 where
  a : ℕ
  b : ℕ
  c : ℕ
  d : ℕ
  octets : (a < 256) × (b < 256) × (c < 256) × (d < 256)
  value : address ≡ ((a * 256 + b) * 256 + c) * 256 + d
  spelled : t ≡ dotted_text a b c d

address_found : (t : List ℕ) (address : ℕ) → address_of t ≡ Some address → Address t address
address_found t address e =
    let octets = (cond_some (are_octets (slice_split (λ x. x == 46) t)) _ address e).0 in
    let w = octets_dotted (slice_split (λ x. x == 46) t) octets in
    let spelled = sym (join_with_byte-slice_split 46 t) ∙ w.spelled in
    let read : Some address ≡ Some (((w.a * 256 + w.b) * 256 + w.c) * 256 + w.d) =
    sym e ∙ ap address_of spelled ∙ address_of-dotted_text w.a w.b w.c w.d w.fit.0 w.fit.1 w.fit.2 w.fit.3 in
    record { a = w.a; b = w.b; c = w.c; d = w.d; octets = w.fit; value = cc; spelled = spelled }

-- the address and the size of a block
record Block (x y : Option ℕ) : Type 0 where
  address : ℕ
  size : ℕ
  here : x ≡ Some address
  there : y ≡ Some size
  within : size ≤ 32
  zeros : address % 2 ^ (32 - size) ≡ 0

block_found : (x y : Option ℕ) → is_block x y ≡ true → Block x y
block_found (Some address) (Some size) h =
    let p = and_parts (nat_le size 32) (address % 2 ^ (32 - size) == 0) h in
    record {
      address = address;
      size = size;
      here = refl;
      there = refl;
      within = leb-true _ _ p.0;
      zeros = eqb-true _ _ p.1;
    }
block_found x y h = cc

pub network_found : (t : List ℕ) → is_network t ≡ true → Spells t
network_found t h =
    let front = before_first (λ b. b == 47) t in
    let rest = after_first (λ b. b == 47) t in
    let k = block_found (address_of front) (number_of rest) h in
    let w = address_found front k.address k.here in
    let size : rest ≡ decimal k.size = number_spelled rest k.size k.there in
    let within = k.within in
    let some : 0 < length rest = omega (arith, ap length size, decimal_nonempty k.size (omega arith)) in
    record {
      network = record { a = w.a; b = w.b; c = w.c; d = w.d; size = k.size };
      sound = record {
        octets = w.octets;
        within = within;
        zeros = ap (λ n. n % 2 ^ (32 - k.size)) (sym w.value) ∙ k.zeros;
      };
      spelled = cut_at 47 t some ∙ ap (λ end. front ++ (47 ∷ end)) size
          ∙ ap (λ text. text ++ (47 ∷ decimal k.size)) w.spelled
          ∙ sym (append_assoc (dotted_text w.a w.b w.c w.d) (47 ∷ []) (decimal k.size));
    }

-- networks with these texts
record SpellsAll (ts : List (List ℕ)) : Type 0 where
  networks : List Network
  count : length networks ≡ length ts
  each : AllByRecursion IsNetwork networks
  spelled : ts ≡ map network_text networks

all_found : (ts : List (List ℕ)) → list_all is_network ts ≡ true → SpellsAll ts
all_found [] h = record { networks = []; count = refl; each = tt; spelled = refl }
all_found (t ∷ ts) h =
    let p = and_parts (is_network t) (list_all is_network ts) h in
    let first = network_found t p.0 in
    let rest = all_found ts p.1 in
    record {
      networks = first.network ∷ rest.networks;
      count = ap suc rest.count;
      each = (first.sound, rest.each);
      spelled = ap (λ x. x ∷ ts) first.spelled ∙ ap (λ xs. network_text first.network ∷ xs) rest.spelled;
    }

all_from : (ns : List Network) → AllByRecursion IsNetwork ns → list_all is_network (map network_text ns) ≡ true
all_from [] each = refl
all_from (n ∷ ns) each =
    and_from (is_network (network_text n)) (list_all is_network (map network_text ns)) (is_network-text n each.0)
    (all_from ns each.1)

all_lack : (ns : List Network) → AllByRecursion IsNetwork ns → AllByRecursion (Lacks 44) (map network_text ns)
all_lack [] each = tt
all_lack (n ∷ ns) each = (network_lacks 44 n each.0 refl refl refl, all_lack ns each.1)

-- the texts of networks, joined by commas, are split into the same texts
pub split_networks : (ns : List Network) → 0 < length ns → AllByRecursion IsNetwork ns
    → slice_split (λ b. b == 44) (join_with_byte 44 (map network_text ns)) ≡ map network_text ns
split_networks [] some each = absurd (omega arith)
split_networks (n ∷ ns) some each =
    slice_split-join_with_byte 44 (network_text n) (map network_text ns) (all_lack (n ∷ ns) each)

pub networks_found : (t : List ℕ) → are_networks t ≡ true → AreNetworks t
networks_found t h =
    let ts = slice_split (λ b. b == 44) t in
    let p = and_parts (nat_le (length ts) 8) (list_all is_network ts) h in
    let w = all_found ts p.1 in
    record {
      networks = w.networks;
      some = omega (arith, w.count, length-slice_split (λ b. b == 44) t);
      few = omega (arith, w.count, leb-true _ _ p.0);
      each = All-from_recursion IsNetwork w.networks w.each;
      spelled = sym (join_with_byte-slice_split 44 t) ∙ ap (join_with_byte 44) w.spelled;
    }

pub networks_from : (t : List ℕ) → AreNetworks t → are_networks t ≡ true
networks_from t w =
    let ts = map network_text w.networks in
    let each = recursion_from_All IsNetwork w.networks w.each in
    let cut : slice_split (λ b. b == 44) t ≡ ts =
    ap (slice_split (λ b. b == 44)) w.spelled ∙ split_networks w.networks w.some each in
    ap (λ xs. nat_le (length xs) 8 && list_all is_network xs) cut
    ∙ and_from (nat_le (length ts) 8) (list_all is_network ts)
    (le-leb _ _ (omega (arith, w.few, length-map w.networks network_text))) (all_from w.networks each)
