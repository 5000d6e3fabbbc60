-- What holds of the state of an office after every history.
use Rattle.std.specs.Prelude.{◌≡◌, length, true}
use Rattle.std.specs.List.{AllByRecursion}
use Rattle.std.specs.Cmp.Lexicographic.{slice_cmp}
use Rattle.std.specs.Ordering.{nat_cmp}
use Rattle.std.specs.declared.cmp.Ordering.TheVariants.{Less}
use Rattle.sqlite.specs.Tree.{IsAscending}
use Rattle.message.specs.Values.{is_department}
use Rattle.office.specs.Openings.{IsOpening}
use Rattle.office.specs.Certificates.{IsCertificate}
use Rattle.office.specs.State.{State}
use Rattle.store.specs.Certificates.{AreCounted, IsSigned}

-- its configuration and its rows are valid: departments ascend by name, each filed under its own, the serials of
-- certificates count up from the first, and key IDs ascend
pub record IsLawful (s : State) : Type 0 where
  pub opening : IsOpening s.opening
  pub cas : AllByRecursion (λ ca. length ca.key ≡ 32) s.cas
  pub departments : AllByRecursion (λ e. (is_department e.1 ≡ true) × (e.0 ≡ e.1.name)) s.departments
  pub names : IsAscending (λ a b. slice_cmp nat_cmp a.1.name b.1.name ≡ Less) s.departments
  pub certificates : AllByRecursion (λ c. IsCertificate c × IsSigned c) s.certificates
  pub serials : AreCounted s.opening.first s.certificates
  pub key_ids : IsAscending (λ a b. slice_cmp nat_cmp a b ≡ Less) s.revoked_key_ids
