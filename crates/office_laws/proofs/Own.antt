-- What callers have whom departments mean by names alone.
use Rattle.std.proofs.Common.{◌≡◌, ℕ, List, Bool, true, false, not, ◌&&◌, ◌||◌, Option, Some, None, ap, refl, sym, ◌∙◌}
use Rattle.std.specs.Prelude.{All, Any}
use Rattle.values.specs.Laws.{MeetsName}
use Rattle.std.proofs.lemmas.Bool.{and_parts}
use Rattle.std.proofs.lemmas.Slice.Eq.{bytes_eq-Decides}
use Rattle.std.specs.Str.{bytes_eq}
use Rattle.values.specs.Names.{department_of, name_of}
use Rattle.values.proofs.OwnNames.{means_one, own_principals}
use Rattle.message.specs.Permissions.{meet_name_rules}
use Rattle.message.specs.declared.department.Department.{Department}
use Rattle.message.specs.declared.issue.Issue.{Issue}
use Rattle.message.specs.declared.renewal.Renewal.{Renewal}
use Rattle.message.specs.declared.serial_range.SerialRange.{SerialRange}
use Rattle.message.specs.declared.kinds.Message.TheVariants as message
use Rattle.office.specs.declared.certificate.Certificate.{Certificate}
use Rattle.office.specs.declared.opening.Opening.{Opening}
use Rattle.office.specs.Permissions.{is_meant_by, is_permitted_by, is_permitted_to, is_renewal_permitted_by}
use Rattle.office.specs.Permissions.{is_renewal_permitted_to, may_administer, may_ask, may_ask_about, may_have}
use Rattle.office.specs.State.{State, certificate_of, department_named, department_of_serial}
use Rattle.office.specs.Refusals.{first_holding, is_one_that, refusals}
use Rattle.office.proofs.Judged.{none_holds}
use Rattle.office_laws.specs.Own.{HasOwn, IsMeantBy}

not_false : (b : Bool) → not b ≡ false → b ≡ true
not_false true e = refl
not_false false e = absurd cc

second_of : (a b : Bool) → a ≡ false → (a || b) ≡ true → b ≡ true
second_of true b off h = absurd cc
second_of false b off h = h

meant_of : (o : Opening) (caller key_id : List ℕ) (d : Department) → may_administer o caller (Some d) ≡ false
    → may_ask o caller (Some d) key_id ≡ true → IsMeantBy d (name_of key_id) caller
meant_of o caller key_id d other may =
    means_one (name_of key_id) caller d.administrators
    (second_of (may_administer o caller (Some d)) (is_meant_by caller (Some d) key_id) other may)

own_of : (o : Opening) (caller key_id : List ℕ) (d : Department) (principals : List (List ℕ))
    → may_administer o caller (Some d) ≡ false → may_have o caller (Some d) key_id principals ≡ true
    → All (λ p. Any (MeetsName (name_of key_id) p) d.rules) principals
own_of o caller key_id d principals other may =
    own_principals (name_of key_id) d.rules principals
    (second_of (may_administer o caller (Some d)) (meet_name_rules d (name_of key_id) principals) other may)

pub issue_own : (s : State) (caller : List ℕ) (i : Issue) (d : Department) (moment : ℕ)
    → department_named s i.department ≡ Some d → may_administer s.opening caller (Some d) ≡ false
    → first_holding (refusals s caller (message.Issue i) moment) ≡ None
    → HasOwn d (name_of i.key_id) caller i.principals
issue_own s caller i d moment named other allowed =
    let tests = none_holds (refusals s caller (message.Issue i) moment) allowed in
    let may : may_ask s.opening caller (Some d) i.key_id ≡ true =
    sym (ap (λ (x : Option Department). may_ask s.opening caller x i.key_id) named) ∙ not_false _ tests.0 in
    let permitted : is_permitted_to s.opening caller (Some d) i ≡ true =
    sym (ap (λ (x : Option Department). is_permitted_to s.opening caller x i) named)
    ∙ not_false _ tests.1.1.1.0 in
    record {
      meant = meant_of s.opening caller i.key_id d other may;
      own = own_of s.opening caller i.key_id d i.principals other
          (and_parts (is_permitted_by (Some d) i) _ permitted).1;
    }

-- the caller may ask about the certificate
may_about : (s : State) (caller : List ℕ) (serial : ℕ) (c : Certificate) (d : Department)
    → certificate_of s serial ≡ Some c → department_of_serial s serial ≡ Some d
    → not (may_ask_about s.opening caller (department_of_serial s serial) (certificate_of s serial)) ≡ false
    → may_ask s.opening caller (Some d) c.fields.key_id ≡ true
may_about s caller serial c d there named test =
    sym (ap (λ (x : Option Certificate). may_ask_about s.opening caller (Some d) x) there)
    ∙ sym (ap (λ (x : Option Department). may_ask_about s.opening caller x (certificate_of s serial)) named)
    ∙ not_false _ test

pub renewal_own : (s : State) (caller : List ℕ) (r : Renewal) (c : Certificate) (d : Department) (moment : ℕ)
    → certificate_of s r.serial ≡ Some c → department_of_serial s r.serial ≡ Some d
    → may_administer s.opening caller (Some d) ≡ false
    → first_holding (refusals s caller (message.Renew r) moment) ≡ None
    → HasOwn d (name_of c.fields.key_id) caller c.fields.principals
renewal_own s caller r c d moment there named other allowed =
    let tests = none_holds (refusals s caller (message.Renew r) moment) allowed in
    let permitted : is_renewal_permitted_to s.opening caller (Some d) c r ≡ true =
    not_false _
    (sym (ap (λ (x : Option Department). not (is_renewal_permitted_to s.opening caller x c r)) named)
    ∙ sym (ap (λ (x : Option Certificate). is_one_that
    (λ c. not (is_renewal_permitted_to s.opening caller (department_of_serial s r.serial) c r)) x) there)
    ∙ tests.1.0) in
    record {
      meant = meant_of s.opening caller c.fields.key_id d other (may_about s caller r.serial c d there named tests.0);
      own = own_of s.opening caller c.fields.key_id d c.fields.principals other
          (and_parts (is_renewal_permitted_by (Some d) c r) _ permitted).1;
    }

pub serial_own : (s : State) (caller : List ℕ) (serial : ℕ) (c : Certificate) (d : Department) (moment : ℕ)
    → certificate_of s serial ≡ Some c → department_of_serial s serial ≡ Some d
    → may_administer s.opening caller (Some d) ≡ false
    → first_holding (refusals s caller (message.RevokeSerial serial) moment) ≡ None
    → IsMeantBy d (name_of c.fields.key_id) caller
serial_own s caller serial c d moment there named other allowed =
    let tests = none_holds (refusals s caller (message.RevokeSerial serial) moment) allowed in
    meant_of s.opening caller c.fields.key_id d other (may_about s caller serial c d there named tests.0)

pub range_of_root : (s : State) (caller : List ℕ) (r : SerialRange) (moment : ℕ)
    → first_holding (refusals s caller (message.RevokeRange r) moment) ≡ None → caller ≡ s.opening.root
range_of_root s caller r moment allowed =
    let tests = none_holds (refusals s caller (message.RevokeRange r) moment) allowed in
    (bytes_eq-Decides caller s.opening.root).0 (not_false (bytes_eq caller s.opening.root) tests.0)

pub key_id_of_listed : (s : State) (caller key_id : List ℕ) (moment : ℕ)
    → first_holding (refusals s caller (message.RevokeKeyId key_id) moment) ≡ None
    → may_administer s.opening caller (department_named s (department_of key_id)) ≡ true
key_id_of_listed s caller key_id moment allowed =
    let tests = none_holds (refusals s caller (message.RevokeKeyId key_id) moment) allowed in
    not_false (may_administer s.opening caller (department_named s (department_of key_id))) tests.0
