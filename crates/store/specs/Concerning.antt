-- The rows that a message concerns, and what holds of them.
use Rattle.std.specs.Prelude.{◌≡◌, Bool, List, Option, IfSome, IsTrue}
use Rattle.message.specs.declared.kinds.Message.{Message}
use Rattle.message.specs.declared.department.Department.{Department}
use Rattle.message.specs.Values.{is_department}
use Rattle.office.specs.declared.arrival.Kept.{Kept}
use Rattle.office.specs.declared.ca.Ca.{Ca}
use Rattle.office.specs.declared.certificate.Certificate.{Certificate}
use Rattle.office.specs.Certificates.{IsCertificate}
use Rattle.office.specs.Decided.{SaysAnyKeyIdRevoked, SaysKeyIdRevoked, SaysRevoked, certificate_concerned}
use Rattle.office.specs.Decided.{department_concerned}
use Rattle.office.specs.State.{State}
use Rattle.store.specs.declared.rows.office_rows.Office.{Office}
use Rattle.store.specs.Offices.{IsLawfulOffice, IsOfficeOf}
use Rattle.store.specs.Histories.{IsOfHistory}
use Rattle.store.specs.declared.reads.subject.Subject.{Subject}
use Rattle.store.specs.declared.reads.marks.Marks.{Marks}
use Rattle.store.specs.declared.reads.concerning.Concerned.{Concerned}

-- the certificate and the department that the message concerns
pub record IsSubject (x : Subject) (s : State) (m : Message) : Type 0 where
  pub certificate : x.certificate ≡ certificate_concerned s m
  pub department : x.department ≡ department_concerned s m

-- the flags are the state's, if the message depends on them
pub record AreMarks (x : Marks) (s : State) (m : Message) : Type 0 where
  pub revoked : SaysRevoked x.is_revoked s m
  pub key_id : SaysKeyIdRevoked x.is_key_id_revoked s m
  pub key_ids : SaysAnyKeyIdRevoked x.has_revoked_key_ids s m

-- the state's rows that the message concerns
pub record AreConcerned (c : Concerned) (s : State) (m : Message) : Type 0 where
  pub office : IsOfficeOf c.office s
  pub cas : c.cas.items ≡ s.cas
  pub subject : IsSubject c.subject s m
  pub marks : AreMarks c.marks s m

-- ---- what always holds of them

pub record IsLawfulSubject (x : Subject) : Type 0 where
  pub certificate : IfSome x.certificate IsCertificate
  pub department : IfSome x.department (λ d. IsTrue (is_department d))

-- the rows are valid, that is, of the form that an office writes
pub record AreLawful (c : Concerned) : Type 0 where
  pub office : IsLawfulOffice c.office
  pub subject : IsLawfulSubject c.subject

-- ---- the rows read step by step, given those read before

-- if the message concerns this certificate, the department is the one that it concerns
abbrev pub IsDepartmentBeside : Option Certificate → Message → State → List Kept → Option Department → Type 0
IsDepartmentBeside certificate m s kept found =
    certificate ≡ certificate_concerned s m → found ≡ department_concerned s m

-- if the message concerns this certificate, this says whether its key ID is revoked
abbrev pub SaysKeyIdBeside : Option Certificate → Message → State → List Kept → Bool → Type 0
SaysKeyIdBeside certificate m s kept is = certificate ≡ certificate_concerned s m → SaysKeyIdRevoked is s m

-- if these two flags are the state's, all are
abbrev pub AreMarksBeside : (is_revoked is_key_id_revoked : Bool) → Message → State → List Kept → Marks → Type 0
AreMarksBeside is_revoked is_key_id_revoked m s kept marks =
    SaysRevoked is_revoked s m → SaysKeyIdRevoked is_key_id_revoked s m → AreMarks marks s m

-- if the message concerns this certificate and the first flag is the state's, all are
abbrev pub AreMarksWith : Option Certificate → (is_revoked : Bool) → Message → State → List Kept → Marks → Type 0
AreMarksWith certificate is_revoked m s kept marks =
    certificate ≡ certificate_concerned s m → SaysRevoked is_revoked s m → AreMarks marks s m

-- after a history, if the message concerns this certificate, the flags are the state's
abbrev pub AreMarksOf : Option Certificate → Message → State → List Kept → Marks → Type 0
AreMarksOf certificate m s kept marks =
    IsOfHistory s kept → certificate ≡ certificate_concerned s m → AreMarks marks s m

-- after a history, if this office is the state's, the rows are those that the message concerns
abbrev pub AreConcernedAt : Office → Message → State → List Kept → Concerned → Type 0
AreConcernedAt office m s kept rows = IsOfHistory s kept → IsOfficeOf office s → AreConcerned rows s m

-- the same, if these CAs are the state's too
abbrev pub AreConcernedUnder : Office → List Ca → Message → State → List Kept → Concerned → Type 0
AreConcernedUnder office cas m s kept rows =
    IsOfHistory s kept → IsOfficeOf office s → cas ≡ s.cas → AreConcerned rows s m

-- the same, if this subject is the message's too
abbrev pub AreConcernedBeside : Office → List Ca → Subject → Message → State → List Kept → Concerned → Type 0
AreConcernedBeside office cas subject m s kept rows =
    IsOfHistory s kept → IsOfficeOf office s → cas ≡ s.cas → IsSubject subject s m → AreConcerned rows s m
