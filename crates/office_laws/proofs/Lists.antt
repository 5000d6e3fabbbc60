-- The published list revokes exactly the serials and key IDs that accepted messages named.
use Rattle.office_laws.proofs.Words.{AllByRecursion, Arrival, Bool, Ca, CaPart, IsExact, List, Opening, Some, State, []}
use Rattle.office_laws.proofs.Words.{ap, ap₂, arith, bytes_eq, false, fold, head_of, inl, inr, is_last_reached}
use Rattle.office_laws.proofs.Words.{is_revoked_under, is_serial_named, is_signer, key_at, key_blob, le-leb, leb}
use Rattle.office_laws.proofs.Words.{length, map, next_serial, opening_stays, part_of, parts_from, published_list, refl}
use Rattle.office_laws.proofs.Words.{revoked_is_issued, slice_get, state, subst, suc, sym, true, zero, ℕ, ◌&&◌, ◌+◌}
use Rattle.office_laws.proofs.Words.{◌||◌, ◌∙◌, ◌∷◌, ◌≡◌, ◌≢◌, ◌≤◌}
use Rattle.std.proofs.Common.{◌^◌}
use Rattle.krl.specs.Sets.{AreRuns, contains, is_counted}
use Rattle.krl.specs.Published.{composed_list as krl_list, IsMemberOf, AreDistinctCas, fits}
use Rattle.krl.proofs.Publishing.{only_cut, revokes_exactly}
use Rattle.krl.proofs.Counting.{runs_in_runs, contains_runs_in, are_counted}
use Rattle.office.specs.Openings.{IsOpening}
use Rattle.office.specs.Publication.{published_parts}
use Rattle.office.specs.Shows.{IsOffice}
use Rattle.office.proofs.Growth.{holds_in_range}
use Rattle.office.proofs.Sizes.{last_of}
use Rattle.office_laws.specs.Lists.{AreExactList}
use Rattle.office_laws.proofs.Named.{serials_are_named, key_ids_are_named}
use Rattle.office.proofs.Dates.{date_after}
use Rattle.office_laws.proofs.Shape.{AreDistinct, cas_stand}
use Rattle.office_laws.proofs.Signers.{served_signs}

-- ---- the parts of a list

part_there : (s : State) (from : ℕ) (cas : List Ca) (place k : ℕ) (ca : Ca) → slice_get cas place ≡ Some ca → k ≡ from + place → IsMemberOf (part_of s k ca) (parts_from s from cas)
part_there s from [] place k ca e at = absurd cc
part_there s from (c ∷ cas) zero k ca e at =
    let same : c ≡ ca = cc in
    let here : from ≡ k = omega arith in
    inl (ap (λ (n : ℕ). part_of s n c) here ∙ ap (part_of s k) same)
part_there s from (c ∷ cas) (suc place) k ca e at = inr (part_there s (suc from) cas place k ca e (omega arith))

part_others : (s : State) (from : ℕ) (cas : List Ca) (x : List ℕ) → AllByRecursion (λ c. c.key ≢ x) cas → (q : CaPart) → IsMemberOf q (parts_from s from cas) → q.ca ≢ x
part_others s from [] x all q there = absurd there
part_others s from (c ∷ cas) x all q (inl same) = λ e. all.0 (ap (λ (p : CaPart). p.ca) same ∙ e)
part_others s from (c ∷ cas) x all q (inr there) = part_others s (suc from) cas x all.1 q there

parts_distinct : (s : State) (from : ℕ) (cas : List Ca) → AreDistinct cas → AreDistinctCas (parts_from s from cas)
parts_distinct s from [] d = tt
parts_distinct s from (c ∷ cas) d = (part_others s (suc from) cas c.key d.0, parts_distinct s (suc from) cas d.1)

-- each part belongs to a CA
part_of_ca : (s : State) (from : ℕ) (cas : List Ca) (q : CaPart) → IsMemberOf q (parts_from s from cas) → (place : ℕ) × (ca : Ca) × (slice_get cas place ≡ Some ca) × (q.ca ≡ ca.key)
part_of_ca s from [] q there = absurd there
part_of_ca s from (c ∷ cas) q (inl same) = (0, c, refl, sym (ap (λ (p : CaPart). p.ca) same))
part_of_ca s from (c ∷ cas) q (inr there) =
    let found = part_of_ca s (suc from) cas q there in (suc found.0, found.1, found.2, found.3)

parts_runs : (s : State) (from : ℕ) (cas : List Ca) → next_serial s ≤ 2 ^ 64 → AllByRecursion (λ p. AreRuns p.runs) (parts_from s from cas)
parts_runs s from [] le = tt
parts_runs s from (c ∷ cas) le = (runs_in_runs (is_revoked_under s from) s.opening.first (length s.certificates) le, parts_runs s (suc from) cas le)

-- ---- the serials that the parts revoke

within : (a b c : Bool) → (b ≡ true → a ≡ true) → (a && (b && c)) ≡ (b && c)
within false true c h = absurd (cc (h refl))
within false false c h = refl
within true b c h = refl

same_where : (b c d : Bool) → (b ≡ true → c ≡ d) → (b && c) ≡ (b && d)
same_where true c d h = h refl
same_where false c d h = refl

serials_fit : (o : Opening) (l : List Arrival) → IsOpening o → next_serial (state o l) ≤ 2 ^ 64
serials_fit o l is =
    let s = state o l in
    let last : s.opening.last ≡ o.last = ap (λ (x : Opening). x.last) (opening_stays o l) in
    let range : next_serial s ≤ s.opening.last + 1 = holds_in_range o l is in
    let fits = last_of o is in
    omega arith

-- a serial belongs to the part of a CA exactly when the CA signs it
signed_there : (o : Opening) (l : List Arrival) → IsOpening o → (place : ℕ) (ca : Ca) → slice_get (state o l).cas place ≡ Some ca → (n : ℕ) → (state o l).opening.first ≤ n
    → is_last_reached (map (λ c. c.since) (state o l).cas) place n ≡ is_signer ca (state o l) n
signed_there o l is place ca e n low =
    let s = state o l in
    let are = cas_stand o l in
    let first = are.first.0 in
    let came : leb first.since n ≡ true = le-leb first.since n (omega (arith, are.first.3, low)) in
    subst (λ (cas : List Ca). AreDistinct cas → slice_get cas place ≡ Some ca → is_last_reached (map (λ c. c.since) cas) place n ≡ bytes_eq ca.key (fold (key_at n) s.opening.ca cas))
    (sym are.first.2) (λ d at. served_signs n s.opening.ca first are.first.1 place ca came d at) are.distinct e

part_contains : (o : Opening) (l : List Arrival) → IsOpening o → (place : ℕ) (ca : Ca) → slice_get (state o l).cas place ≡ Some ca → (n : ℕ)
    → contains (part_of (state o l) place ca).runs n ≡ (is_serial_named o l n && is_signer ca (state o l) n)
part_contains o l is place ca e n =
    let s = state o l in
    let last = is_last_reached (map (λ c. c.since) s.cas) place n in
    let issued = revoked_is_issued o l n in
    contains_runs_in (is_revoked_under s place) s.opening.first (length s.certificates) n (serials_fit o l is)
    ∙ within (is_counted s.opening.first (length s.certificates) n) (s.revoked n) last (λ r. are_counted s.opening.first (length s.certificates) n (issued r).0 (issued r).1)
    ∙ same_where (s.revoked n) last (is_signer ca s n) (λ r. signed_there o l is place ca e n (issued r).0)
    ∙ ap (λ b. b && is_signer ca s n) (serials_are_named o l n)

exact : (o : Opening) (l : List Arrival) → IsOpening o → IsExact o l (krl_list (head_of (state o l)) (published_parts (state o l)) (state o l).revoked_key_ids)
exact o l is =
    let s = state o l in
    let are = cas_stand o l in
    let re = revokes_exactly (head_of s) (published_parts s) s.revoked_key_ids (parts_runs s 0 s.cas (serials_fit o l is)) (parts_distinct s 0 s.cas are.distinct) in record {
      own = λ place ca e serial key_id. re.own (part_of s place ca) (part_there s 0 s.cas place place ca e (omega arith)) serial key_id
          ∙ ap₂ (λ a b. a || b) (part_contains o l is place ca e serial) (key_ids_are_named o l key_id);
      others = λ blob none serial key_id. re.others blob (λ q there. let found = part_of_ca s 0 s.cas q there in
          λ same. none found.0 found.1 found.2 (ap key_blob (sym found.3) ∙ same)) serial key_id;
    }

pub list_is_exact : (o : Opening) (l : List Arrival) → IsOffice o l → fits (published_parts (state o l)) (state o l).revoked_key_ids ≡ true → AreExactList (published_list (state o l)) o l
list_is_exact o l office fit =
    let s = state o l in
    let version = office.version in
    let date = date_after o l in record {
      list = krl_list (head_of s) (published_parts s) s.revoked_key_ids;
      only = only_cut (head_of s) (published_parts s) s.revoked_key_ids (omega arith) (omega arith) (parts_runs s 0 s.cas (serials_fit o l office.opening)) fit;
      exact = exact o l office.opening;
    }
