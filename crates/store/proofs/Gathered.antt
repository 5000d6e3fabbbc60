-- Values found for the subject of a message.
use Rattle.store.proofs.Words.{Bool, Certificate, HasAll, IsTrue, List, Message, None, Option, SaysRevoked, SerialRange}
use Rattle.store.proofs.Words.{Some, State, ap, certificate_concerned, certificate_of, department_named, false}
use Rattle.store.proofs.Words.{is_message, option_and_then, refl, sym, true, ℕ, ◌↔◌, ◌∙◌, ◌≡◌}
use Rattle.lines.specs.declared.key_line.KeyLine.{KeyLine}
use Rattle.message.specs.declared.kinds.Message.TheVariants as message
use Rattle.office.specs.Concerns.{named_department, named_range, named_serial}
use Rattle.office.specs.Decided.{SaysAnyKeyIdRevoked}
use Rattle.office.specs.Decided.{department_concerned}
use Rattle.office.proofs.Agreeing.{department_of_named, range_order, range_says, says_of_one, serial_says}
use Rattle.office.proofs.Ranges.{range_flag}

pub certificate_found : (s : State) (m : Message) (n : ℕ) (found : Option Certificate) → named_serial m ≡ Some n
    → found ≡ certificate_of s n → found ≡ certificate_concerned s m
certificate_found s m n found is found_is = found_is ∙ sym (ap (option_and_then (certificate_of s)) is)

-- if the message concerns no certificate, the department is the one that it names, if there is one
pub department_found : (s : State) (m : Message) (name : Option (List ℕ)) → certificate_concerned s m ≡ None
    → named_department m ≡ name → option_and_then (department_named s) name ≡ department_concerned s m
department_found s m name none is =
    sym (department_of_named s m none ∙ ap (option_and_then (department_named s)) is)

pub one_says : (flag : Bool) (s : State) (m : Message) (n : ℕ) → named_serial m ≡ Some n
    → (IsTrue flag ↔ HasAll s.revoked n n) → SaysRevoked flag s m
one_says flag s m n is says = serial_says flag s m n is (says_of_one flag s.revoked n says)

pub all_say : (flag : Bool) (s : State) (m : Message) (r : SerialRange) → is_message m ≡ true → named_serial m ≡ None
    → named_range m ≡ Some r → (IsTrue flag ↔ HasAll s.revoked r.lo r.hi) → SaysRevoked flag s m
all_say flag s m r lawful none is says =
    range_says flag s m r none is (range_flag flag s r (range_order m r lawful is) says)

-- for a message that names neither a serial nor a range, the flag is false
pub none_says : (s : State) (m : Message) → named_serial m ≡ None → named_range m ≡ None → SaysRevoked false s m
none_says s (message.Renew r) serial range = absurd cc
none_says s (message.Deliver d) serial range = absurd cc
none_says s (message.RevokeSerial n) serial range = absurd cc
none_says s (message.RevokeRange r) serial range = absurd cc
none_says s m serial range = tt

pub none_asks : (s : State) (m : Message) → ((k : KeyLine) → m ≡ message.Rollover k → ⊥)
    → SaysAnyKeyIdRevoked false s m
none_asks s (message.Rollover k) not = absurd (not k refl)
none_asks s m not = tt
