-- The contents of the in-memory store.
use Rattle.std.specs.Prelude.{◌≡◌, ℕ, ◌+◌, ◌≤◌, List, [], ◌∷◌, ◌++◌, length, All, IsTrue, IsOkAnd, Result, Ok, Err}
use Rattle.std.specs.List.{list_all}
use Rattle.std.specs.List.Sorted.{IsNonDecreasing}
use Rattle.message.specs.declared.department.Department.{Department}
use Rattle.message.specs.Values.{is_department}
use Rattle.krl.specs.declared.run.Run.{Run}
use Rattle.krl.specs.Sets.{contains}
use Rattle.office.specs.Openings.{IsOpening}
use Rattle.office.specs.Certificates.{IsCertificate}
use Rattle.office.specs.Parts.{numbers}
use Rattle.office.specs.declared.opening.Opening.{Opening}
use Rattle.office.specs.declared.ca.Ca.{Ca}
use Rattle.office.specs.declared.certificate.Certificate.{Certificate}
use Rattle.office.specs.declared.arrival.Arrival.{Arrival}
use Rattle.office.specs.declared.arrival.Kept.{Kept}
use Rattle.office.specs.declared.view.Decision.{Decision}
use Rattle.office.specs.declared.view.Stop.{Stop}
use Rattle.office.specs.declared.view.Stop.TheVariants as stop
use Rattle.office.specs.Machine.{State}
use Rattle.office.specs.Decided.{written}
use Rattle.office.specs.History.{judged, change, kept_of}
use Rattle.memory_store.specs.Departments.{entries}

pub record MemoryContents : Type 0 where
  pub opening : Opening
  -- by number
  pub cas : List Ca
  -- by name
  pub departments : List Department
  -- by serial
  pub certificates : List Certificate
  -- the ranges of revoked serials
  pub runs : List Run
  -- the revoked key IDs, ascending
  pub key_ids : List (List ℕ)
  -- a row for each first acceptance
  pub kept : List Kept
  pub version : ℕ
  pub date : ℕ

-- the state of the reference model
abbrev pub state_of : MemoryContents → State
state_of t = record {
  opening = t.opening;
  cas = t.cas;
  departments = entries t.departments;
  certificates = t.certificates;
  revoked = contains t.runs;
  revoked_key_ids = t.key_ids;
  version = t.version;
  date = t.date;
}

-- what is decided about an arrival that isn't a repeat
abbrev pub JudgesArrival : Result Decision Stop → MemoryContents → Arrival → Type 0
JudgesArrival (Ok d) t a = IsOkAnd (judged (state_of t) t.kept a) (λ f. (f.arrival ≡ a) × (f.reply ≡ d.reply)
    × (written d (state_of t) ≡ change (state_of t) f))
JudgesArrival (Err (stop.Refused r)) t a = judged (state_of t) t.kept a ≡ Err r
JudgesArrival (Err stop.NoMemory) t a = Unit {0}

-- the contents after a decision was written, with a row for the arrival
pub record WritesDecision (old : MemoryContents) (a : Arrival) (d : Decision) (new : MemoryContents) : Type 0 where
  pub kept : new.kept ≡ old.kept ++ kept_of a d.reply ∷ []
  pub state : state_of new ≡ written d (state_of old)

-- the invariants: valid configuration and rows, serials in range, CAs in order, none starting after the next serial
pub record AreKept (t : MemoryContents) : Type 0 where
  pub opening : IsOpening t.opening
  pub serials : t.opening.first + length t.certificates ≤ t.opening.last + 1
  pub departments : IsTrue (list_all is_department t.departments)
  pub certificates : All IsCertificate t.certificates
  pub ascending : IsNonDecreasing (numbers t.cas)
  pub served : All (λ n. n ≤ t.opening.first + length t.certificates) (numbers t.cas)
