-- Each accepted message raises the version by no more than the size of the list.
use Rattle.std.proofs.Common.{◌≡◌, ℕ, zero, suc, ◌+◌, ◌-◌, ◌<◌, ◌≤◌, List, [], ◌∷◌, ◌++◌, length, map, Bool, true}
use Rattle.std.proofs.Common.{false, cond, ◌&&◌, ◌||◌, leb, ltb, Ordering, Less, Equal, Greater, Option, Some, None}
use Rattle.std.proofs.Common.{refl, sym, ap, ◌∙◌, inl, inr, arith, length-append, add-one}
use Rattle.std.specs.Prelude.{IsSome, is_none}
use Rattle.std.specs.List.{list_all, list_any}
use Rattle.std.specs.Str.{bytes_eq}
use Rattle.std.specs.Ordering.{is_eq, nat_cmp}
use Rattle.std.specs.Cmp.Lexicographic.{slice_cmp}
use Rattle.std.specs.FinMap.Entries.{by_order}
use Rattle.std.proofs.lemmas.Bool.{and_from, and_left, and_parts, cases_Bool, cases_lt, false_from_ne_true, leb-false}
use Rattle.std.proofs.lemmas.Bool.{le-leb, le-ltb, lt-ltb, ltb-false, or_left, or_parts, or_right}
use Rattle.std.proofs.lemmas.List.{length-map, map-append}
use Rattle.std.proofs.lemmas.List.Folds.{list_all-append}
use Rattle.std.proofs.lemmas.Map.Text.{is_eq-slice_cmp}
use Rattle.std.proofs.lemmas.Slice.Eq.{bytes_eq-Decides}
use Rattle.lines.specs.declared.signature.Signature.{Signature}
use Rattle.krl.specs.declared.ca_part.CaPart.{CaPart}
use Rattle.krl.specs.Published.{published_sections}
use Rattle.krl.specs.Sets.{is_last_reached, is_within}
use Rattle.krl.proofs.Booleans.{clash, is_in}
use Rattle.list_guard.specs.Sizes.{section_size, sum_of}
use Rattle.message.specs.declared.kinds.Message.{Message}
use Rattle.message.specs.declared.kinds.Message.TheVariants as message
use Rattle.message.specs.declared.serial_range.SerialRange.{SerialRange}
use Rattle.office.specs.declared.ca.Ca.{Ca}
use Rattle.office.specs.declared.certificate.Certificate.{Certificate}
use Rattle.office.specs.Machine.{after, ca_from_now, put_text, renewed, republished, with_ca, with_certificate}
use Rattle.office.specs.Machine.{with_key_id, with_one_more, with_range, with_signature}
use Rattle.office.specs.Publication.{is_revoked_under}
use Rattle.office.specs.Refusals.{first_holding, refusals}
use Rattle.office.specs.State.{State as Office, certificate_of, has_all, has_any, is_key_id_revoked, is_range_revoked}
use Rattle.office.specs.State.{next_serial}
use Rattle.office.proofs.Decisions.{serial_of_one}
use Rattle.office.proofs.Judged.{none_holds}
use Rattle.office.proofs.Parts.{AreIssued}
use Rattle.office_laws.proofs.Parts.{parts_certificate, parts_signature}
use Rattle.office_laws.proofs.Shape.{AreCas}
use Rattle.office_laws.proofs.Signers.{last_behind}
use Rattle.list_laws.specs.Published.{office_size}
use Rattle.list_laws.proofs.Sizes.{amount, count_in, office_total, one_if, size_grows, size_of_some, size_with, total}
use Rattle.list_laws.proofs.Sizes.{total_grows, total_more, total_push}

-- from the state `s` to the state `t` the version doesn't fall, and has grown by no more than the size of the list
pub record Pays (s t : Office) : Type 0 where
  pub version : s.version ≤ t.version
  pub paid : t.version + office_size s ≤ s.version + office_size t

pays : (s t : Office) (more : ℕ) → t.version ≡ s.version + more → office_size s + more ≤ office_size t → Pays s t
pays s t more version size = record { version = omega (arith, version); paid = omega (arith, version, size) }

pub pays_nothing : (s : Office) → Pays s s
pays_nothing s = record { version = omega arith; paid = omega arith }

pub pays_on : (s t u : Office) → Pays s t → Pays t u → Pays s u
pays_on s t u first second =
    let version = first.version in
    let paid = first.paid in
    let on = second.version in
    let more = second.paid in
    record { version = omega (arith, version, on); paid = omega (arith, paid, more) }

same_size : (s t : Office) → t.version ≡ s.version → office_size t ≡ office_size s → Pays s t
same_size s t version size = pays s t 0 (omega (arith, version)) (omega (arith, size))

-- ---- counting serials

one_grows : (a b : Bool) → (a ≡ true → b ≡ true) → one_if a ≤ one_if b
one_grows false b known = omega arith
one_grows true true known = omega arith
one_grows true false known = clash false (known refl) refl

-- a set that has each of these serials that another has
abbrev Covers : (set other : ℕ → Bool) → ℕ → ℕ → Type 0
Covers set other from count = (n : ℕ) → from ≤ n → n < from + count → set n ≡ true → other n ≡ true

count_grows : (set other : ℕ → Bool) (from count : ℕ) → Covers set other from count
    → count_in set from count ≤ count_in other from count
count_grows set other from zero each = omega arith
count_grows set other from (suc count) each =
    let here = one_grows (set from) (other from) (each from (omega arith) (omega arith)) in
    let more = count_grows set other (from + 1) count (λ n p q. each n (omega (arith, p)) (omega (arith, q))) in
    omega (arith, here, more)

-- and one more
count_more : (set other : ℕ → Bool) (from count : ℕ) → Covers set other from count → (n : ℕ) → from ≤ n
    → n < from + count → set n ≡ false → other n ≡ true → count_in set from count + 1 ≤ count_in other from count
count_more set other from zero each n low high out there = absurd (omega (arith, low, high))
count_more set other from (suc count) each n low high out there =
    let on : Covers set other (from + 1) count = λ m p q. each m (omega (arith, p)) (omega (arith, q)) in
    elim (cases_lt from n) [
      | inl later ↦
          let here = one_grows (set from) (other from) (each from (omega arith) (omega arith)) in
          let more = count_more set other (from + 1) count on n (omega (arith, later)) (omega (arith, high)) out there
          in
          omega (arith, here, more)
      | inr first ↦
          let same : from ≡ n = omega (arith, first, low) in
          let old : one_if (set from) ≡ 0 = ap one_if (ap set same ∙ out) in
          let new : one_if (other from) ≡ 1 = ap one_if (ap other same ∙ there) in
          let more = count_grows set other (from + 1) count on in
          omega (arith, old, new, more)
    ]

-- ---- the CA that a serial is under

not_left : (a b : Bool) → (a && b) ≡ false → b ≡ true → a ≡ false
not_left true b e there = clash b there e
not_left false b e there = refl

not_right : (a b : Bool) → (a && b) ≡ false → a ≡ true → b ≡ false
not_right true b e there = e
not_right false b e there = absurd (cc there)

-- the serial is one of the CA at a place
abbrev IsReached : List ℕ → ℕ → Type 0
IsReached since n = (place : ℕ) × (place < length since) × (is_last_reached since place n ≡ true)

one_reached : (since : List ℕ) (n : ℕ) → list_all (λ later. ltb n later) since ≡ false → IsReached since n
one_reached [] n none = absurd cc
one_reached (first ∷ since) n none = elim (cases_Bool (list_all (λ later. ltb n later) since)) [
  | inl all ↦
      let came = le-leb first n (ltb-false n first (not_left (ltb n first) _ none all)) in
      (zero, omega arith, and_from (leb first n) _ came all)
  | inr some ↦
      let at = one_reached since n some in
      let within = at.1 in
      (suc at.0, omega (arith, within), last_behind first since at.0 n ∙ at.2)
]

-- where the CAs' first serials are
abbrev firsts : List Ca → List ℕ
firsts cas = map (λ ca. ca.since) cas

place_of : (s : Office) → AreCas s → (n : ℕ) → s.opening.first ≤ n → IsReached (firsts s.cas) n
place_of s are n low =
    let first = are.first.0 in
    let begins = are.first.3 in
    let came : first.since ≤ n = omega (arith, begins, low) in
    one_reached (firsts s.cas) n (ap (λ (cas : List Ca). list_all (λ later. ltb n later) (firsts cas)) are.first.2
    ∙ and_left (ltb n first.since) _ (le-ltb n first.since came))

many_firsts : (s : Office) → length (firsts s.cas) ≡ length s.cas
many_firsts s = length-map s.cas (λ ca. ca.since)

some_ca : (s : Office) → AreCas s → 1 ≤ length s.cas
some_ca s are = let long = ap (λ (cas : List Ca). length cas) are.first.2 in omega (arith, long)

-- a CA that is added later doesn't take an earlier serial from another
last_kept : (since : List ℕ) (new place n : ℕ) → n < new → place < length since → is_last_reached since place n ≡ true
    → is_last_reached (since ++ new ∷ []) place n ≡ true
last_kept [] new place n lt within e = absurd (omega (arith, within))
last_kept (first ∷ since) new zero n lt within e =
    let both = and_parts (leb first n) (list_all (λ later. ltb n later) since) e in
    and_from (leb first n) _ both.0 (list_all-append (λ later. ltb n later) since (new ∷ [])
    ∙ and_from _ _ both.1 (and_from (ltb n new) true (lt-ltb n new lt) refl))
last_kept (first ∷ since) new (suc place) n lt within e =
    last_behind first (since ++ new ∷ []) place n
    ∙ last_kept since new place n lt (omega (arith, within)) (sym (last_behind first since place n) ∙ e)

-- ---- certificates

certificate_pays : (s : Office) (c : Certificate) → AreIssued s → Pays s (with_certificate s c)
certificate_pays s c issued =
    let new : s.revoked (next_serial s) ≡ false
    = false_from_ne_true _ (λ e. let is = issued (next_serial s) e in omega (arith, is.1)) in
    same_size s (with_certificate s c) refl
    (ap (λ (parts : List CaPart). sum_of section_size (published_sections parts s.revoked_key_ids))
    (parts_certificate s c new 0 s.cas))

one_pays : (s : Office) (c : Option Certificate) → AreIssued s → Pays s (with_one_more s c)
one_pays s None issued = pays_nothing s
one_pays s (Some c) issued = certificate_pays s c issued

signature_pays : (s : Office) (serial : ℕ) (signature : Signature) → Pays s (with_signature s serial signature)
signature_pays s serial signature =
    same_size s (with_signature s serial signature) refl
    (ap (λ (parts : List CaPart). sum_of section_size (published_sections parts s.revoked_key_ids))
    (parts_signature s serial signature 0 s.cas))

-- ---- revocations of serials

still_there : (a b c : Bool) → (b && c) ≡ true → ((a || b) && c) ≡ true
still_there a b c e = let both = and_parts b c e in and_from (a || b) c (or_right a b both.0) both.1

module _ (s : Office) (r : SerialRange) (moment : ℕ) where
  abbrev ranged : Office
  ranged = republished (with_range s r) moment

  range_covers : (place : ℕ)
      → Covers (is_revoked_under s place) (is_revoked_under ranged place) s.opening.first (length s.certificates)
  range_covers place n low high = still_there (is_within n (record { lo = r.lo; hi = r.hi })) (s.revoked n) _

  range_grows : (place : ℕ) → amount s place ≤ amount ranged place
  range_grows place =
      let more = count_grows (is_revoked_under s place) (is_revoked_under ranged place) s.opening.first
      (length s.certificates) (range_covers place) in
      omega (arith, more)

  -- a range with a serial that wasn't revoked
  range_pays : AreCas s → (n : ℕ) → s.opening.first ≤ n → n < next_serial s → r.lo ≤ n → n ≤ r.hi
      → s.revoked n ≡ false → Pays s ranged
  range_pays are n low high above below new =
      let at = place_of s are n low in
      let many = many_firsts s in
      let within = at.1 in
      let there = and_from _ _ (or_left (is_within n (record { lo = r.lo; hi = r.hi })) (s.revoked n)
      (is_in n r.lo r.hi above below)) at.2 in
      let counted = count_more (is_revoked_under s at.0) (is_revoked_under ranged at.0) s.opening.first
      (length s.certificates) (range_covers at.0) n low high (and_left (s.revoked n) _ new) there in
      let gained : amount s at.0 + 1 ≤ amount ranged at.0 = omega (arith, counted) in
      let more = total_more (amount s) (amount ranged) 0 (length s.cas) (λ place lt. range_grows place) at.0
      (omega arith) (omega (arith, within, many)) gained in
      let old : office_size s ≡ total (amount s) 0 (length s.cas) = office_total s 0 s.cas in
      let now : office_size ranged ≡ total (amount ranged) 0 (length s.cas) = office_total ranged 0 s.cas in
      pays s ranged 1 refl (omega (arith, old, now, more))

-- a range that isn't revoked has a serial that isn't
one_missing : (set : ℕ → Bool) (from count : ℕ) → has_all set from count ≡ false
    → (n : ℕ) × (from ≤ n) × (n < from + count) × (set n ≡ false)
one_missing set from zero none = absurd cc
one_missing set from (suc count) none = elim (cases_Bool (set from)) [
  | inl there ↦
      let on = one_missing set (from + 1) count (not_right (set from) _ none there) in
      let low = on.1 in
      let high = on.2 in
      (on.0, omega (arith, low), omega (arith, high), on.3)
  | inr out ↦ (from, omega arith, omega arith, out)
]

-- ---- revocations of key IDs

put_longer : (t : List ℕ) (ids : List (List ℕ)) → list_any (λ k. bytes_eq k t) ids ≡ false
    → length (put_text t ids) ≡ suc (length ids)
put_longer t [] new = refl
put_longer t (u ∷ us) new =
    let parts = or_parts (bytes_eq u t) (list_any (λ k. bytes_eq k t) us) new in
    by_place (slice_cmp nat_cmp t u) refl parts.0 (put_longer t us parts.1)
  where
    by_place : (o : Ordering) → slice_cmp nat_cmp t u ≡ o → bytes_eq u t ≡ false
        → length (put_text t us) ≡ suc (length us)
        → length (by_order o (t ∷ u ∷ us) (u ∷ us) (u ∷ put_text t us)) ≡ suc (length (u ∷ us))
    by_place Less e apart longer = refl
    by_place Equal e apart longer =
        let same = (bytes_eq-Decides t u).0 (sym (is_eq-slice_cmp t u) ∙ ap is_eq e) in
        clash (bytes_eq u t) ((bytes_eq-Decides u t).1 (sym same)) apart
    by_place Greater e apart longer = ap suc longer

key_id_pays : (s : Office) (key_id : List ℕ) (moment : ℕ) → AreCas s → is_key_id_revoked s key_id ≡ false
    → Pays s (republished (with_key_id s key_id) moment)
key_id_pays s key_id moment are new =
    let t : Office = republished (with_key_id s key_id) moment in
    let longer = put_longer key_id s.revoked_key_ids new in
    let each : (place : ℕ) → amount s place + 1 ≤ amount t place = λ place. omega (arith, longer) in
    let some = some_ca s are in
    let more = total_more (amount s) (amount t) 0 (length s.cas)
    (λ place lt. let up = each place in omega (arith, up)) 0 (omega arith) (omega (arith, some)) (each 0) in
    let old : office_size s ≡ total (amount s) 0 (length s.cas) = office_total s 0 s.cas in
    let now : office_size t ≡ total (amount t) 0 (length s.cas) = office_total t 0 s.cas in
    pays s t 1 refl (omega (arith, old, now, more))

-- ---- rollovers

module _ (s : Office) (key : List ℕ) where
  abbrev rolled : Office
  rolled = with_ca s (ca_from_now s key)

  ca_covers : (place : ℕ) → place < length s.cas
      → Covers (is_revoked_under s place) (is_revoked_under rolled place) s.opening.first (length s.certificates)
  ca_covers place lt n low high e =
      let many = many_firsts s in
      let both = and_parts (s.revoked n) (is_last_reached (firsts s.cas) place n) e in
      let kept = last_kept (firsts s.cas) (next_serial s) place n high (omega (arith, lt, many)) both.1 in
      let firsts_then = map-append (λ (ca : Ca). ca.since) s.cas (ca_from_now s key ∷ []) in
      and_from (s.revoked n) _ both.0 (ap (λ (since : List ℕ). is_last_reached since place n) firsts_then ∙ kept)

  ca_grows : (place : ℕ) → place < length s.cas → amount s place ≤ amount rolled place
  ca_grows place lt =
      let more = count_grows (is_revoked_under s place) (is_revoked_under rolled place) s.opening.first
      (length s.certificates) (ca_covers place lt) in
      omega (arith, more)

  -- the new CA has a section with the key IDs, if there are any
  rolled_size : office_size s + size_with (length s.revoked_key_ids) ≤ office_size rolled
  rolled_size =
      let many = length s.cas in
      let old : office_size s ≡ total (amount s) 0 many = office_total s 0 s.cas in
      let now : office_size rolled ≡ total (amount rolled) 0 (length (s.cas ++ ca_from_now s key ∷ []))
      = office_total rolled 0 (s.cas ++ ca_from_now s key ∷ []) in
      let long : length (s.cas ++ ca_from_now s key ∷ []) ≡ suc many
      = length-append s.cas (ca_from_now s key ∷ []) ∙ add-one many in
      let all : total (amount rolled) 0 (length (s.cas ++ ca_from_now s key ∷ [])) ≡ total (amount rolled) 0 (suc many)
      = ap (total (amount rolled) 0) long in
      let last = total_push (amount rolled) 0 many in
      let earlier = total_grows (amount s) (amount rolled) 0 many (λ place lt. ca_grows place (omega (arith, lt))) in
      let own = size_grows (length s.revoked_key_ids) (amount rolled (0 + many)) (omega arith) in
      omega (arith, old, now, all, last, earlier, own)

  ca_pays : Pays s rolled
  ca_pays = let size = rolled_size in pays s rolled 0 (omega arith) (omega (arith, size))

  ca_published_pays : (moment : ℕ) → has_any s.revoked_key_ids ≡ true → Pays s (republished rolled moment)
  ca_published_pays moment some =
      let size = rolled_size in
      let own = size_of_some (length s.revoked_key_ids) (some_of s.revoked_key_ids some) in
      pays s (republished rolled moment) 1 refl (omega (arith, size, own))
    where
      some_of : (ids : List (List ℕ)) → has_any ids ≡ true → 1 ≤ length ids
      some_of [] e = absurd cc
      some_of (k ∷ ks) e = omega arith

  rollover_pays : (moment : ℕ) (b : Bool) → has_any s.revoked_key_ids ≡ b
      → Pays s (cond b (republished rolled moment) rolled)
  rollover_pays moment true e = ca_published_pays moment e
  rollover_pays moment false e = ca_pays

-- ---- messages

-- a message that changes the state unless everything that it names is revoked
unless : (b : Bool) (s t : Office) → (b ≡ false → Pays s t) → Pays s (cond b s t)
unless true s t change = pays_nothing s
unless false s t change = change refl

is_there : (c : Option Certificate) → is_none c ≡ false → IsSome c
is_there (Some c) e = refl
is_there None e = absurd cc

-- a message that isn't refused
pub pays_after : (s : Office) (caller : List ℕ) (m : Message) (moment : ℕ) (nonce : List ℕ)
    → first_holding (refusals s caller m moment) ≡ None → AreIssued s → AreCas s → Pays s (after s m moment nonce)
pays_after s caller (message.Department d) moment nonce allowed issued are = same_size s _ refl refl
pays_after s caller (message.Issue i) moment nonce allowed issued are = certificate_pays s _ issued
pays_after s caller (message.Renew r) moment nonce allowed issued are = one_pays s (renewed s r nonce) issued
pays_after s caller (message.Deliver d) moment nonce allowed issued are = signature_pays s d.serial d.signature
pays_after s caller (message.RevokeSerial serial) moment nonce allowed issued are =
    let tests = none_holds (refusals s caller (message.RevokeSerial serial) moment) allowed in
    let is = serial_of_one s serial (is_there (certificate_of s serial) tests.1.0) in
    unless (s.revoked serial) s _ (range_pays s (record { lo = serial; hi = serial }) moment are serial is.0 is.1
    (omega arith) (omega arith))
pays_after s caller (message.RevokeRange r) moment nonce allowed issued are =
    let tests = none_holds (refusals s caller (message.RevokeRange r) moment) allowed in
    let ends = or_parts (ltb r.lo s.opening.first) (leb (next_serial s) r.hi) tests.1.0 in
    let first = ltb-false _ _ ends.0 in
    let last = leb-false _ _ ends.1 in
    unless (is_range_revoked s r) s _ (λ some.
    let n = one_missing s.revoked r.lo ((r.hi + 1) - r.lo) some in
    let low = n.1 in
    let high = n.2 in
    range_pays s r moment are n.0 (omega (arith, first, low)) (omega (arith, last, low, high)) low
    (omega (arith, low, high)) n.3)
pays_after s caller (message.RevokeKeyId key_id) moment nonce allowed issued are =
    unless (is_key_id_revoked s key_id) s _ (key_id_pays s key_id moment are)
pays_after s caller (message.Rollover k) moment nonce allowed issued are =
    rollover_pays s k.key moment (has_any s.revoked_key_ids) refl
