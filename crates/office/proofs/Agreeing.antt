-- Lemmas for the clauses of `Agrees`, according to the names in the message.
use Rattle.office.proofs.Words.{Bool, Certificate, Department, HasAll, IsTrue, List, Message, None, Option, SerialRange}
use Rattle.office.proofs.Words.{Some, State, [], and_parts, ap, arith, false, has_any, is_key_id_revoked, is_message}
use Rattle.office.proofs.Words.{is_range_revoked, is_serial, leb-true, length, not, refl, same_from_decides, subst, sym}
use Rattle.office.proofs.Words.{true, ℕ, ◌&&◌, ◌↔◌, ◌∙◌, ◌∷◌, ◌≡◌, ◌≤◌}
use Rattle.std.specs.Prelude.{◌==◌, nat_le}
use Rattle.std.specs.Option.{option_and_then, option_map_or}
use Rattle.std.proofs.lemmas.Bool.{ne_eqb}
use Rattle.message.specs.declared.kinds.Message.TheVariants as message
use Rattle.office.specs.State.{department_named}
use Rattle.office.specs.Concerns.{named_department, named_serial, named_range, named_key_id}
use Rattle.office.specs.Decided.{certificate_concerned, department_concerned}
use Rattle.office.specs.Decided.{SaysAnyKeyIdRevoked, SaysRevoked, SaysKeyIdRevoked}

-- ---- departments

abbrev department_in : State → Option Certificate → Option Department
department_in s c = option_and_then (λ x. department_named s x.department) c

-- the department of the certificate that a message concerns
pub department_of_concerned : (s : State) (m : Message) (c : Certificate) → certificate_concerned s m ≡ Some c
    → department_concerned s m ≡ department_named s c.department
department_of_concerned s (message.Renew r) c is = ap (department_in s) is
department_of_concerned s (message.Deliver d) c is = ap (department_in s) is
department_of_concerned s (message.RevokeSerial serial) c is = ap (department_in s) is
department_of_concerned s m c is = absurd cc

-- the department that a message names, if it concerns no certificate
pub department_of_named : (s : State) (m : Message) → certificate_concerned s m ≡ None
    → department_concerned s m ≡ option_and_then (department_named s) (named_department m)
department_of_named s (message.Renew r) is = ap (department_in s) is
department_of_named s (message.Deliver d) is = ap (department_in s) is
department_of_named s (message.RevokeSerial serial) is = ap (department_in s) is
department_of_named s m is = refl

-- ---- serials

pub serial_says : (flag : Bool) (s : State) (m : Message) (n : ℕ) → named_serial m ≡ Some n → flag ≡ s.revoked n
    → SaysRevoked flag s m
serial_says flag s (message.Renew r) n is says = let same : r.serial ≡ n = cc in rw same says
serial_says flag s (message.Deliver d) n is says = let same : d.serial ≡ n = cc in rw same says
serial_says flag s (message.RevokeSerial serial) n is says = let same : serial ≡ n = cc in rw same says
serial_says flag s m n is says = absurd cc

pub range_says : (flag : Bool) (s : State) (m : Message) (r : SerialRange) → named_serial m ≡ None
    → named_range m ≡ Some r → flag ≡ is_range_revoked s r → SaysRevoked flag s m
range_says flag s (message.RevokeRange x) r none is says = let same : x ≡ r = cc in rw same says
range_says flag s m r none is says = absurd cc

-- the test of a range of one serial is whether the set has that serial
pub says_of_one : (flag : Bool) (set : ℕ → Bool) (n : ℕ) → (IsTrue flag ↔ HasAll set n n) → flag ≡ set n
says_of_one flag set n says = same_from_decides flag (set n) says (
  λ is k low high. let same : n ≡ k = omega arith in subst (λ (x : ℕ). set x ≡ true) same is,
  λ all. all n (omega arith) (omega arith),
)

-- ---- key IDs

abbrev is_revoked_in : State → Option Certificate → Bool
is_revoked_in s c = option_map_or (λ x. is_key_id_revoked s x.fields.key_id) c false

pub certificate_says : (flag : Bool) (s : State) (m : Message) (c : Certificate) → certificate_concerned s m ≡ Some c
    → flag ≡ is_key_id_revoked s c.fields.key_id → SaysKeyIdRevoked flag s m
certificate_says flag s (message.Renew r) c is says = says ∙ sym (ap (is_revoked_in s) is)
certificate_says flag s (message.Deliver d) c is says = says ∙ sym (ap (is_revoked_in s) is)
certificate_says flag s (message.RevokeSerial serial) c is says = tt
certificate_says flag s m c is says = absurd cc

pub key_id_says : (flag : Bool) (s : State) (m : Message) (k : List ℕ) → named_key_id m ≡ Some k
    → flag ≡ is_key_id_revoked s k → SaysKeyIdRevoked flag s m
key_id_says flag s (message.Issue i) k is says = let same : i.key_id ≡ k = cc in rw same says
key_id_says flag s (message.RevokeKeyId key_id) k is says = let same : key_id ≡ k = cc in rw same says
key_id_says flag s m k is says = absurd cc

pub no_key_id_says : (s : State) (m : Message) → certificate_concerned s m ≡ None → named_key_id m ≡ None
    → SaysKeyIdRevoked false s m
no_key_id_says s (message.Renew r) none is = sym (ap (is_revoked_in s) none)
no_key_id_says s (message.Deliver d) none is = sym (ap (is_revoked_in s) none)
no_key_id_says s (message.Issue i) none is = absurd cc
no_key_id_says s (message.RevokeKeyId key_id) none is = absurd cc
no_key_id_says s m none is = tt

-- ---- any key ID

pub any_says : (flag : Bool) (s : State) (m : Message) → flag ≡ has_any s.revoked_key_ids → SaysAnyKeyIdRevoked flag s m
any_says flag s (message.Rollover k) says = says
any_says flag s m says = tt

-- a list that isn't empty has a key ID
pub any_is : (ks : List (List ℕ)) (len : ℕ) (empty : Bool) → empty ≡ (len == 0) → length ks ≡ len
    → not empty ≡ has_any ks
any_is [] len empty is same = rw (is, sym same) refl
any_is (k ∷ ks) len empty is same = rw (is, ne_eqb len 0 (omega (arith, same))) refl

-- ---- valid ranges

pub range_order : (m : Message) (r : SerialRange) → is_message m ≡ true → named_range m ≡ Some r → r.lo ≤ r.hi
range_order (message.RevokeRange x) r lawful is =
    let same : x ≡ r = cc in
    let parts = and_parts (is_serial x.lo) (is_serial x.hi && nat_le x.lo x.hi) lawful in
    let order = and_parts (is_serial x.hi) (nat_le x.lo x.hi) parts.1 in
    subst (λ (y : SerialRange). y.lo ≤ y.hi) same (leb-true x.lo x.hi order.1)
range_order m r lawful is = absurd cc
