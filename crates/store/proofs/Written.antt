-- The rows that are written are those of the state after the decision.
use Rattle.store.proofs.Words.{Arrival, Bool, Ca, Change, Contents, Counters, Database, Decision, HasRoom, IsDue}
use Rattle.store.proofs.Words.{IsLawful, IsLawfulChange, IsPermutation, IsPermutation-refl, Kept, List, OfficeRow}
use Rattle.store.proofs.Words.{Opening, RequestRow, State, [], ap, ap₂, arith, ca_row, cert_row, changed, cond}
use Rattle.store.proofs.Words.{contents_after, contents_of, counters_of, false, is_same_key_id, kept_of, key_blob}
use Rattle.store.proofs.Words.{length, length-signed_at, list_any, map, next_serial, office_row, refl, request_row}
use Rattle.store.proofs.Words.{run_row, runs_in, serial_of_one, subst, suc, sym, true, with_change, with_counters}
use Rattle.store.proofs.Words.{with_request, with_revoked, written, ℕ, ◌++◌, ◌+◌, ◌-◌, ◌<◌, ◌^◌, ◌∙◌, ◌∷◌, ◌≡◌}
use Rattle.sqlite_trees.proofs.ListLemmas.{IsPermutation-same}
use Rattle.sqlite.specs.State.{State as Connection}
use Rattle.office.specs.declared.view.Change.TheVariants as change
use Rattle.office.specs.Machine as machine
use Rattle.store.proofs.Same.{IsSame}
use Rattle.store.specs.Changing.{with_key_id_row}
use Rattle.store.proofs.Joined.{rows_joined, runs_still}
use Rattle.store.proofs.PutInPlace.{put_named}
use Rattle.store.proofs.Once.{absent, present}
use Rattle.store.proofs.WrittenParts.{Holds}
use Rattle.store.proofs.SerialsHeld.{ca_added, signed_rows, to_front}

-- ---- the tables that changes write

-- the contents with these rows in the other tables
abbrev with_others : List OfficeRow → List RequestRow → Contents → Contents
with_others offices requests c = record c { offices = offices; requests = requests }

-- the same rows in each table that a change may write to
abbrev IsChanged : Contents → Contents → Type 0
IsChanged c d =
    IsPermutation c.departments d.departments × IsPermutation c.certs d.certs × IsPermutation c.runs d.runs
    × IsPermutation c.revoked d.revoked × IsPermutation c.cas d.cas

same : {X : Type 0} (xs : List X) → IsPermutation xs xs
same xs = IsPermutation-refl xs

key_id_changed : (key_id : List ℕ) (os : List OfficeRow) (rs : List RequestRow) (s : State) (kept : List Kept)
    → IsLawful s
    → IsChanged (with_key_id_row key_id (with_others os rs (contents_of s kept)))
    (contents_of (machine.with_key_id s key_id) kept)
key_id_changed key_id os rs s kept lawful = go (list_any (is_same_key_id key_id) s.revoked_key_ids) refl
  where
    go : (b : Bool) → list_any (is_same_key_id key_id) s.revoked_key_ids ≡ b
        → IsChanged
        (cond b (with_others os rs (contents_of s kept)) (with_revoked key_id (with_others os rs (contents_of s kept))))
        (contents_of (machine.with_key_id s key_id) kept)
    go true is =
        let there = present key_id s.revoked_key_ids lawful.key_ids is in
        (same _, same _, same _, IsPermutation-same _ _ (sym there), same _)
    go false is = (same _, same _, same _, absent key_id s.revoked_key_ids is, same _)

change_made : (number since : ℕ) (os : List OfficeRow) (rs : List RequestRow) (change : Change) (s : State)
    (kept : List Kept) → IsLawful s → HasRoom change s
    → IsLawfulChange change → number ≡ suc (length s.cas) → since ≡ next_serial (changed change s) → since < 2 ^ 63
    → ((n : ℕ) → s.revoked n ≡ true → n < next_serial s)
    → IsChanged (with_change number since change (with_others os rs (contents_of s kept)))
    (contents_of (changed change s) kept)
change_made number since os rs change.Nothing s kept lawful room is numbered next fits issued =
    (same _, same _, same _, same _, same _)
change_made number since os rs (change.Department d) s kept lawful room is numbered next fits issued =
    (put_named d s.departments lawful.departments lawful.names, same _, same _, same _, same _)
change_made number since os rs (change.Certificate c) s kept lawful room is numbered next fits issued =
    let runs = ap (map run_row) (runs_still s c issued (omega (arith, next, fits))) in
    (same _, to_front cert_row c s.certificates, IsPermutation-same _ _ runs, same _, same _)
change_made number since os rs (change.Signature serial signature) s kept lawful room is numbered next fits issued =
    let above = (serial_of_one s serial room).0 in
    let at = serial - s.opening.first in
    let place : serial ≡ s.opening.first + at = omega arith in
    let certs = signed_rows s.opening.first serial at s.certificates signature lawful.serials place in
    let runs = ap (λ (k : ℕ). map run_row (runs_in s.revoked s.opening.first k))
    (sym (length-signed_at s.certificates at signature)) in
    (same _, IsPermutation-same _ _ certs, IsPermutation-same _ _ runs, same _, same _)
change_made number since os rs (change.Range r) s kept lawful room is numbered next fits issued =
    (same _, same _, rows_joined s r is room.0 room.1 (omega (arith, next, fits)), same _, same _)
change_made number since os rs (change.KeyId key_id) s kept lawful room is numbered next fits issued =
    key_id_changed key_id os rs s kept lawful
change_made number since os rs (change.Ca ca) s kept lawful room is numbered next fits issued =
    let row : ca_row number since ca ≡ ca_row (suc (length s.cas)) ca.since ca =
    ap₂ (λ (n : ℕ) (k : ℕ). ca_row n k ca) numbered (next ∙ sym room.1) in
    (same _, same _, same _, same _, rw row (ca_added s.cas ca))

-- ---- the other tables

-- no change writes to them
others_kept : (number since : ℕ) (change : Change) (c : Contents)
    → ((with_change number since change c).offices ≡ c.offices)
    × ((with_change number since change c).requests ≡ c.requests)
others_kept number since (change.KeyId key_id) c =
    elim (list_any (is_same_key_id key_id) c.revoked) as (λ b. ((cond b c (with_revoked key_id c)).offices ≡ c.offices)
    × ((cond b c (with_revoked key_id c)).requests ≡ c.requests)) [ true ↦ (refl, refl) | false ↦ (refl, refl) ]
others_kept number since _ c = (refl, refl)

opening_kept : (change : Change) (s : State) → (changed change s).opening ≡ s.opening
opening_kept change.Nothing s = refl
opening_kept _ s = refl

-- ---- the whole

all_written : (d : Decision) (a : Arrival) (cas : List Ca) (x : State × List Kept) (db : Database)
    → IsLawfulChange d.change → IsDue d cas x db
    → IsSame (with_change (suc (length cas)) d.next d.change (with_request (request_row (kept_of a d.reply))
    (with_counters (counters_of d) (contents_of x.0 x.1)))) (contents_after d a x)
all_written d a cas x db lawful due =
    let row = request_row (kept_of a d.reply) in
    let c = with_request row (with_counters (counters_of d) (contents_of x.0 x.1)) in
    let others = others_kept (suc (length cas)) d.next d.change c in
    let count : suc (length cas) ≡ suc (length x.0.cas) = ap (λ (l : List Ca). suc (length l)) due.listed in
    let tables =
    change_made (suc (length cas)) d.next c.offices c.requests d.change x.0 x.1 due.lawful due.room lawful
    count due.next
    due.fits.next due.issued in
    let offices : c.offices ≡ (contents_after d a x).offices =
    ap₂ (λ (o : Opening) (n : ℕ). record (office_row (written d x.0)) {
      ca = key_blob o.ca;
      root = o.root;
      station = o.station;
      first = o.first;
      last = o.last;
      next = n;
    } ∷ []) (sym (opening_kept d.change x.0)) due.next in
    record {
      offices = IsPermutation-same _ _ (others.0 ∙ offices);
      departments = tables.0;
      certs = tables.1;
      requests = subst
          (λ (rows : List RequestRow). IsPermutation rows (map request_row (x.1 ++ kept_of a d.reply ∷ [])))
          (sym others.1) (to_front request_row (kept_of a d.reply) x.1);
      runs = tables.2;
      revoked = tables.3;
      cas = tables.4;
    }

pub due_holds : (d : Decision) (a : Arrival) (cas : List Ca) (number : ℕ) (k : Counters) (row : RequestRow)
    (old : Connection)
    → IsLawfulChange d.change → number ≡ length cas + 1 → k ≡ counters_of d → row ≡ request_row (kept_of a d.reply)
    → Holds (IsDue d cas) (contents_after d a)
    (λ c. with_change number k.next d.change (with_request row (with_counters k c))) old
due_holds d a cas number k row old lawful numbered counted is = λ x due.
    let place : number ≡ suc (length cas) = omega (arith, numbered) in
    (contents_of x.0 x.1, due.means, rw (place, counted, is) (all_written d a cas x old.now lawful due))
