-- The length of replies.
use Rattle.office.proofs.Words.{AllByRecursion, Arrival, Certificate, Err, First, IsOffice, IsOpening, Kept, List}
use Rattle.office.proofs.Words.{Message, None, Ok, Opening, Option, Refusal, Result, Some, State, [], after, and_parts}
use Rattle.office.proofs.Words.{ap, arith, cond, department_reply, due, false, first_accepted, is_message, is_name}
use Rattle.office.proofs.Words.{is_serial, issue_reply, judged, kept_by, kept_row, leb, leb-false, leb-true, length}
use Rattle.office.proofs.Words.{length-append, map-append, next_serial, option_map, refl, reply_kept, reply_to}
use Rattle.office.proofs.Words.{revocation_reply, rollover_reply, state, true, ℕ, ◌+◌, ◌<◌, ◌∙◌, ◌∷◌, ◌≡◌, ◌≤◌}
use Rattle.std.proofs.Common.{◌*◌, ◌^◌, All}
use Rattle.std.proofs.Common.{IfSome, lit<}
use Rattle.std.specs.Fmt.{decimal}
use Rattle.std.specs.List.{find}
use Rattle.std.proofs.lemmas.Fmt.{length-decimal-le}
use Rattle.std.proofs.lemmas.List.Elements.{All-nil, All-push, recursion_from_All}
use Rattle.sha2.proofs.Facts256.{length-sha256}
use Rattle.sha2.specs.Sha256.{sha256}
use Rattle.hex.specs.Hex.{lower_digits}
use Rattle.hex.proofs.HexLemmas.{length-encode_with}
use Rattle.lines.specs.Digests.{digest_text}
use Rattle.values.specs.Names.{has_size}
use Rattle.message.specs.declared.kinds.Message.TheVariants as message
use Rattle.values.proofs.SerialLemmas.{serial_bounds}
use Rattle.office.specs.declared.arrival.Outcome.{Outcome}
use Rattle.office.specs.Replies.{delivery_reply}
use Rattle.office.specs.Refusals.{refusals, first_holding}
use Rattle.office.specs.Machine.{reply_to_made, renewed}
use Rattle.office.specs.History.{is_repeat, repeated_or, outcome_of}
use Rattle.office.specs.Laws.{ReplyFits}
use Rattle.office.proofs.Judged.{judged_is_first, none_holds}
use Rattle.office.proofs.Histories.{IsKeptBy, after_all, message_lawful}
use Rattle.office.proofs.Changes.{by_change}
use Rattle.office.proofs.Growth.{IsInRange, after_grows, in_range_each, opening_order}

-- a digest has 64 digits
length-digest : (body : List ℕ) → length (digest_text body) ≡ 64
length-digest body = length-encode_with lower_digits (sha256 body) ∙ ap (λ (n : ℕ). 2 * n) (length-sha256 body)

-- a number in a reply has at most 19 digits
length-number-le : (n : ℕ) → n ≤ 9223372036854775807 → length (decimal n) ≤ 19
length-number-le n h = length-decimal-le 19 n (lit< tt) (small n h) (wide n h)
  where
    small : (n : ℕ) → n ≤ 9223372036854775807 → n < 10 ^ 19
    small n h = omega arith

    wide : (n : ℕ) → n ≤ 9223372036854775807 → n < 2 ^ 64
    wide n h = omega arith

-- ---- replies

department_reply-le : (name : List ℕ) → is_name name ≡ true → length (department_reply name) ≤ 99
department_reply-le name is =
    let size = and_parts (has_size 1 32 name) _ is in
    let few = and_parts (leb 1 (length name)) (leb (length name) 32) size.0 in
    let short : length name ≤ 32 = leb-true _ _ few.1 in
    simp (length-append) (omega arith)

issue_reply-le : (serial : ℕ) (body : List ℕ) → serial ≤ 9223372036854775807 → length (issue_reply serial body) ≤ 99
issue_reply-le serial body last =
    let digits = length-number-le serial last in
    let digest = length-digest body in
    simp (length-append) (omega arith)

made_reply-le : (s : State) (c : Option Certificate) → next_serial s ≤ 9223372036854775807
    → length (reply_to_made s c) ≤ 99
made_reply-le s (Some c) last = issue_reply-le (next_serial s) c.body last
made_reply-le s None last = omega arith

delivery_reply-le : (serial : ℕ) → is_serial serial ≡ true → length (delivery_reply serial) ≤ 99
delivery_reply-le serial is =
    let digits = length-number-le serial (omega (arith, (serial_bounds serial is).1)) in
    simp (length-append) (omega arith)

revocation_reply-le : (version : ℕ) → version ≤ 9223372036854775807 → length (revocation_reply version) ≤ 99
revocation_reply-le version h =
    let digits = length-number-le version h in
    simp (length-append) (omega arith)

rollover_reply-le : (number since : ℕ) → number ≤ 9223372036854775807 → since ≤ 9223372036854775807 → length (rollover_reply number since) ≤ 99
rollover_reply-le number since h k =
    let digits = length-number-le number h in
    let more = length-number-le since k in
    simp (length-append) (omega arith)

-- a state whose numbers have at most 19 digits, also after one message
record HasRoom (s : State) : Type 0 where
  last : s.opening.last ≤ 9223372036854775806
  serials : IsInRange s
  version : s.version < 9223372036854775807

module _ (s : State) (room : HasRoom s) (caller : List ℕ) (moment : ℕ) (nonce : List ℕ) where
  -- the reply to an allowed message
  allowed_reply-le : (m : Message) → is_message m ≡ true → first_holding (refusals s caller m moment) ≡ None
      → length (reply_to s m moment nonce) ≤ 99
  allowed_reply-le (message.Department d) lawful allowed =
      department_reply-le d.name (and_parts (is_name d.name) _ lawful).0
  allowed_reply-le (message.Issue i) lawful allowed = issue_reply-le (next_serial s) _ (omega arith)
  allowed_reply-le (message.Renew r) lawful allowed = made_reply-le s (renewed s r nonce) (omega arith)
  allowed_reply-le (message.Deliver d) lawful allowed =
      delivery_reply-le d.serial (and_parts (is_serial d.serial) _ lawful).0
  allowed_reply-le (message.Rollover k) lawful allowed =
      let tests = none_holds (refusals s caller (message.Rollover k) moment) allowed in
      let few : length s.cas < 8 = leb-false _ _ tests.1.1.0 in
      rollover_reply-le (length s.cas + 1) (next_serial s) (omega arith) (omega arith)
  allowed_reply-le m lawful allowed =
      let grown = after_grows s caller m moment nonce lawful allowed in
      revocation_reply-le (after s m moment nonce).version (omega (arith, grown.by_one, room.version))

-- ---- histories

pub last_of : (o : Opening) → IsOpening o → o.last ≤ 9223372036854775806
last_of o is = (opening_order o is).2

-- while the version has a successor, replies are short
record IsShort (fs : List First) (s : State) : Type 0 where
  last : s.opening.last ≤ 9223372036854775806
  serials : IsInRange s
  replies : s.version < 9223372036854775807 → All (λ k. length k.reply ≤ 99) (kept_by fs)

short_kept : IsKeptBy IsShort
short_kept fs s f is before =
    let a = f.arrival in
    let grown = after_grows s a.caller f.message a.moment a.nonce is.lawful is.allowed in record {
      last = rw grown.opening before.last;
      serials = by_change IsInRange in_range_each fs s f is before.serials;
      replies = λ now.
          let version : s.version < 9223372036854775807 = omega (arith, grown.version, now) in
          let room : HasRoom s = record { last = before.last; serials = before.serials; version = version } in
          rw (map-append kept_row fs (f ∷ []))
          (All-push (λ k. length k.reply ≤ 99) (kept_by fs) (kept_row f) (before.replies version) (rw is.reply
          (allowed_reply-le s room a.caller a.moment a.nonce f.message is.lawful is.allowed)));
    }

found_short : (kept : List Kept) (a : Arrival) → AllByRecursion (λ k. length k.reply ≤ 99) kept
    → IfSome (reply_kept kept a) (λ r. length r ≤ 99)
found_short [] a all = tt
found_short (k ∷ kept) a all =
    elim (is_repeat a k) as (λ b.
    IfSome (option_map (λ k. k.reply) (cond b (Some k) (find (is_repeat a) kept))) (λ r. length r ≤ 99)) [
      | true ↦ all.0
      | false ↦ found_short kept a all.1
    ]

repeated_fits : (k : Option (List ℕ)) (other : Outcome) → IfSome k (λ r. length r ≤ 99) → ReplyFits 99 other
    → ReplyFits 99 (repeated_or k other)
repeated_fits (Some reply) other short fits = short
repeated_fits None other short fits = fits

-- the specified reply has at most 99 bytes
pub due_short : (o : Opening) (l : List Arrival) (a : Arrival) → IsOffice o l → ReplyFits 99 (due o l a)
due_short o l a is =
    let order = opening_order o is.opening in
    let all = after_all IsShort short_kept o l
    (record { last = order.2; serials = omega (arith, order.1); replies = λ _. All-nil (λ k. length k.reply ≤ 99) }) in
    let kept = kept_by (first_accepted o l) in
    let room : HasRoom (state o l) = record { last = all.last; serials = all.serials; version = is.version } in
    repeated_fits (reply_kept kept a) (outcome_of (judged (state o l) kept a))
    (found_short kept a (recursion_from_All (λ k. length k.reply ≤ 99) kept (all.replies is.version)))
    (judged_short room _ refl)
  where
    judged_short : HasRoom (state o l) → (r : Result First Refusal)
        → judged (state o l) (kept_by (first_accepted o l)) a ≡ r → ReplyFits 99 (outcome_of r)
    judged_short room (Err r) e = tt
    judged_short room (Ok f) e =
        let first = judged_is_first (state o l) (kept_by (first_accepted o l)) a f e in
        rw first.reply (allowed_reply-le (state o l) room a.caller a.moment a.nonce f.message
        (message_lawful a.bytes f.message first.message) first.allowed)
