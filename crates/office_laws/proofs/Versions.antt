-- Two lists with the same version are equal.
use Rattle.office_laws.proofs.Words.{Arrival, Certificate, IsKeptByEach, List, Opening, Signature, State, []}
use Rattle.office_laws.proofs.Words.{always_more, ap, arith, ca_from_now, false, has_any, head_of, next_serial}
use Rattle.office_laws.proofs.Words.{parts_from, published_list, refl, revoked_is_issued, state, sym, with_ca}
use Rattle.office_laws.proofs.Words.{with_certificate, with_signature, ℕ, ◌++◌, ◌+◌, ◌∙◌, ◌∷◌, ◌≡◌, ◌≤◌}
use Rattle.std.proofs.lemmas.Bool.{false_from_ne_true}
use Rattle.krl.specs.Format.{krl_text}
use Rattle.krl.specs.Published.{published_header, published_text}
use Rattle.office.proofs.Parts.{AreIssued}
use Rattle.office.proofs.Ranges.{issued_each}
use Rattle.office_laws.proofs.Parts.{parts_certificate, parts_signature, sections_ca}

-- ---- changes that don't affect the list

-- the serial to be handed out next isn't revoked
next_unrevoked : (s : State) → AreIssued s → s.revoked (next_serial s) ≡ false
next_unrevoked s issued =
    false_from_ne_true _ (λ e. let is = issued (next_serial s) e in omega (arith, is.1))

list_certificate : (s : State) (c : Certificate) → s.revoked (next_serial s) ≡ false → published_list (with_certificate s c) ≡ published_list s
list_certificate s c none = ap (λ ps. published_text (head_of s) ps s.revoked_key_ids) (parts_certificate s c none 0 s.cas)

list_signature : (s : State) (serial : ℕ) (signature : Signature) → published_list (with_signature s serial signature) ≡ published_list s
list_signature s serial signature = ap (λ ps. published_text (head_of s) ps s.revoked_key_ids) (parts_signature s serial signature 0 s.cas)

list_ca : (s : State) (key : List ℕ) → has_any s.revoked_key_ids ≡ false → published_list (with_ca s (ca_from_now s key)) ≡ published_list s
list_ca s key none = by_ids s.revoked_key_ids none
  where
    by_ids : (ids : List (List ℕ)) → has_any ids ≡ false → published_text (head_of s) (parts_from (with_ca s (ca_from_now s key)) 0 (s.cas ++ ca_from_now s key ∷ [])) ids ≡ published_text (head_of s) (parts_from s 0 s.cas) ids
    by_ids [] e = ap (λ sections. krl_text (record { header = published_header (head_of s); sections = sections })) (sections_ca s key 0 s.cas (omega arith))
    by_ids (k ∷ ks) e = absurd cc

-- ---- histories

-- the version is at least the old one, and while it is equal, so is the list
pub record Stays (old : ℕ) (list : List ℕ) (s : State) : Type 0 where
  pub issued : AreIssued s
  pub version : old ≤ s.version
  pub same : s.version ≡ old → published_list s ≡ list

stays_each : (old : ℕ) (list : List ℕ) → IsKeptByEach (Stays old list)
stays_each old list s moment in_time is =
    let issued = issued_each s moment in_time is.issued in
    let more : old ≤ s.version + 1 = omega (arith, is.version) in
    let raised : s.version + 1 ≡ old → ⊥ = λ e. omega (arith, e, is.version) in record {
      department = λ d. record { issued = is.issued; version = is.version; same = is.same };
      certificate = λ c next. record {
        issued = issued.certificate c next;
        version = is.version;
        same = λ e. list_certificate s c (next_unrevoked s is.issued) ∙ is.same e;
      };
      signature = λ n x.
          record { issued = issued.signature n x; version = is.version; same = λ e. list_signature s n x ∙ is.same e };
      range = λ r handed. record { issued = issued.range r handed; version = more; same = λ e. absurd (raised e) };
      key_id = λ key_id. record { issued = is.issued; version = more; same = λ e. absurd (raised e) };
      ca = λ key new none. record { issued = is.issued; version = is.version; same = λ e. list_ca s key none ∙ is.same e };
      ca_published = λ key new some. record { issued = is.issued; version = more; same = λ e. absurd (raised e) };
    }

pub versions_tell : (o : Opening) (l later : List Arrival) → (state o l).version ≡ (state o (l ++ later)).version → published_list (state o l) ≡ published_list (state o (l ++ later))
versions_tell o l later e =
    let old = (state o l).version in
    let list = published_list (state o l) in
    let stays = always_more (Stays old list) (stays_each old list) o l later
    (record { issued = revoked_is_issued o l; version = omega arith; same = λ _. refl }) in
    sym (stays.same (sym e))
