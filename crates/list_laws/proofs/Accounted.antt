-- Over every history the version grows by no more than the size of the list.
use Rattle.std.proofs.Common.{◌≡◌, ◌+◌, ◌≤◌, List, ◌++◌, refl, arith}
use Rattle.office.specs.declared.arrival.Arrival.{Arrival}
use Rattle.office.specs.declared.opening.Opening.{Opening}
use Rattle.office.specs.History.{state}
use Rattle.office.specs.State.{State as Office, opened}
use Rattle.office.proofs.Changes.{by_change}
use Rattle.office.proofs.Histories.{IsKeptBy, after_all, after_more}
use Rattle.office.proofs.Parts.{AreIssued}
use Rattle.office.proofs.Ranges.{issued_each, revoked_is_issued}
use Rattle.office_laws.proofs.Shape.{AreCas, cas_each, cas_stand, opened_cas}
use Rattle.list_laws.specs.Published.{office_size}
use Rattle.list_laws.proofs.Growing.{Pays, pays_after, pays_nothing, pays_on}

-- it has been so since an earlier state, and the invariants hold that the next step needs
record Paid (old s : Office) : Type 0 where
  issued : AreIssued s
  cas : AreCas s
  since : Pays old s

paid_kept : (old : Office) → IsKeptBy (λ fs s. Paid old s)
paid_kept old fs s f is paid =
    let a = f.arrival in record {
      issued = by_change AreIssued issued_each fs s f is paid.issued;
      cas = by_change AreCas cas_each fs s f is paid.cas;
      since = pays_on old s _ paid.since
          (pays_after s a.caller f.message a.moment a.nonce is.allowed paid.issued paid.cas);
    }

paid_from_none : (o : Opening) (l : List Arrival) → Paid (opened o) (state o l)
paid_from_none o l = after_all (λ fs s. Paid (opened o) s) (paid_kept (opened o)) o l
    (record { issued = λ n e. absurd cc; cas = opened_cas o; since = pays_nothing (opened o) })

pub pays_since : (o : Opening) (l later : List Arrival) → Pays (state o l) (state o (l ++ later))
pays_since o l later =
    let s = state o l in
    (after_more (λ fs t. Paid s t) (paid_kept s) o l later
    (record { issued = revoked_is_issued o l; cas = cas_stand o l; since = pays_nothing s })).since

pub version_is_paid : (o : Opening) (l : List Arrival) → (state o l).version ≤ office_size (state o l)
version_is_paid o l =
    let paid = (paid_from_none o l).since.paid in
    let none : office_size (opened o) ≡ 0 = refl in
    omega (arith, paid, none)

pub growth_is_paid : (o : Opening) (l later : List Arrival)
    → (state o (l ++ later)).version + office_size (state o l)
    ≤ (state o l).version + office_size (state o (l ++ later))
growth_is_paid o l later = (pays_since o l later).paid
