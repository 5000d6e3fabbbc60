-- Worked examples of the reference model and of histories, by computation.
use Rattle.office.proofs.Words.{Department, Host, Issue, None, Opening, Renewal, Signature, Some, User, [], after}
use Rattle.office.proofs.Words.{certificate_of, department_named, due_on, false, first_holding, map, opened, option_map}
use Rattle.office.proofs.Words.{published_parts, refl, refusals, reply_to, revocation_reply, rollover_reply}
use Rattle.office.proofs.Words.{with_signature, ◌∷◌, ◌≡◌}
use Rattle.std.specs.Prelude.{codes}
use Rattle.values.specs.declared.refusal.Refusal.TheVariants.{NotAllowed, NoDepartment, KindFixed, BadKeyId, NotPermitted, AlreadyEnded, KeyIdRevoked, UnknownSerial, Revoked, NotSigned, SerialsExhausted, CaInUse}
use Rattle.lines.specs.declared.key_line.KeyLine.{KeyLine}
use Rattle.lines.specs.declared.subject.KeyType.TheVariants.{Ed25519, SkEd25519}
use Rattle.message.specs.declared.kinds.Message.TheVariants as message
use Rattle.office.specs.declared.arrival.Outcome.TheVariants.{Repeated}
use Rattle.message.specs.Permissions.{meet_rules}
use Rattle.office.specs.Machine.{State, next_serial}
use Rattle.office.specs.Publication.{entries_of}
use Rattle.office.specs.declared.publication.Standing.TheVariants as standing

abbrev office : Opening
office = record { ca = []; root = codes "root"; station = codes "station"; first = 1; last = 2 }

abbrev web : Department
web = record {
  name = codes "web";
  kind = User;
  administrators = codes "ana" ∷ [];
  rules = codes "alice" ∷ codes "*@example.org" ∷ [];
  options = [];
  demands = [];
  extensions = codes "permit-pty" ∷ [];
  key_types = [];
  longest_life = 1000;
  namespaces = [];
}

abbrev begun : State
begun = after (opened office) (message.Department web) 0 []

abbrev asked : Issue
asked = record {
  department = codes "web";
  key_id = codes "web/alice";
  key = record { key_type = Ed25519; key = []; comment = None };
  principals = codes "alice" ∷ [];
  after = 1000;
  before = 2000;
  options = [];
  extensions = [];
}

department_is_there : department_named begun (codes "web") ≡ Some web
department_is_there = refl

its_reply : reply_to (opened office) (message.Department web) 0 [] ≡ codes "department web\n"
its_reply = refl

only_root_puts_departments : first_holding (refusals begun (codes "ana") (message.Department web) 0) ≡ Some NotAllowed
only_root_puts_departments = refl

kind_is_fixed : first_holding (refusals begun (codes "root") (message.Department (record web { kind = Host })) 0) ≡ Some KindFixed
kind_is_fixed = refl

administrators_issue : first_holding (refusals begun (codes "ana") (message.Issue asked) 1000) ≡ None
administrators_issue = refl

others_do_not : first_holding (refusals begun (codes "bob") (message.Issue asked) 1000) ≡ Some NotAllowed
others_do_not = refl

no_department : first_holding (refusals begun (codes "root") (message.Issue (record asked { department = codes "db" })) 1000) ≡ Some NoDepartment
no_department = refl

other_departments_key_id : first_holding (refusals begun (codes "ana") (message.Issue (record asked { key_id = codes "db/alice" })) 1000) ≡ Some BadKeyId
other_departments_key_id = refl

life_too_long : first_holding (refusals begun (codes "ana") (message.Issue (record asked { before = 2001 })) 1000) ≡ Some NotPermitted
life_too_long = refl

-- an issue for a key of another type
abbrev asked_for_sk : Issue
asked_for_sk = record asked { key = record { key_type = SkEd25519; key = []; comment = None } }

other_type : first_holding (refusals begun (codes "ana") (message.Issue asked_for_sk) 1000) ≡ Some NotPermitted
other_type = refl

the_last_second : first_holding (refusals begun (codes "ana") (message.Issue asked) 1999) ≡ None
the_last_second = refl

already_ended : first_holding (refusals begun (codes "ana") (message.Issue asked) 2000) ≡ Some AlreadyEnded
already_ended = refl

suffix_alone_meets_no_rule : meet_rules web (codes "alice") (codes "@example.org" ∷ []) ≡ false
suffix_alone_meets_no_rule = refl

serials_run_out : first_holding (refusals (after (after begun (message.Issue asked) 1000 []) (message.Issue asked) 1000 []) (codes "ana") (message.Issue asked) 1000) ≡ Some SerialsExhausted
serials_run_out = refl

second_serial : next_serial (after begun (message.Issue asked) 1000 []) ≡ 2
second_serial = refl

repeat_gets_the_kept_reply :
    due_on begun (record { caller = codes "ana"; key = codes "i1"; bytes = codes "x"; reply = codes "kept" } ∷ [])
    (record { caller = codes "ana"; key = codes "i1"; bytes = codes "x"; moment = 253402300800; nonce = [] }) ≡ Repeated (codes "kept")
repeat_gets_the_kept_reply = refl

-- ---- after an issue

abbrev roomy : Opening
roomy = record office { last = 9 }

-- a state with serials 1 and 2
abbrev two : State
two = after (after (after (opened roomy) (message.Department web) 0 []) (message.Issue asked) 1000 []) (message.Issue (record asked { key_id = codes "web/bob" })) 1000 []

abbrev signature : Signature
signature = record { bytes = codes "s" }

abbrev one_signed : State
one_signed = with_signature two 1 signature

abbrev once_more : Renewal
once_more = record { serial = 1; after = 1500; before = 2500 }

signature_is_kept : option_map (λ c. c.signature) (certificate_of one_signed 1) ≡ Some (Some signature)
signature_is_kept = refl

same_signature_again : with_signature one_signed 1 signature ≡ one_signed
same_signature_again = refl

other_certificate_stays_unsigned : option_map (λ c. c.signature) (certificate_of one_signed 2) ≡ Some None
other_certificate_stays_unsigned = refl

only_the_station_delivers : first_holding (refusals two (codes "root") (message.Deliver (record { serial = 1; digest = []; signature = signature })) 0) ≡ Some NotAllowed
only_the_station_delivers = refl

nothing_to_sign : first_holding (refusals two (codes "station") (message.Deliver (record { serial = 3; digest = []; signature = signature })) 0) ≡ Some UnknownSerial
nothing_to_sign = refl

renewal_of_an_unsigned_one : first_holding (refusals two (codes "ana") (message.Renew once_more) 1600) ≡ Some NotSigned
renewal_of_an_unsigned_one = refl

renewal_of_a_signed_one : first_holding (refusals one_signed (codes "ana") (message.Renew once_more) 1600) ≡ None
renewal_of_a_signed_one = refl

renewal_of_none : first_holding (refusals two (codes "root") (message.Renew (record once_more { serial = 3 })) 1600) ≡ Some UnknownSerial
renewal_of_none = refl

none_has_administrators : first_holding (refusals two (codes "ana") (message.Renew (record once_more { serial = 3 })) 1600) ≡ Some NotAllowed
none_has_administrators = refl

renewal_of_another_type : first_holding (refusals (with_signature (after begun (message.Issue asked_for_sk) 1000 []) 1 signature) (codes "ana") (message.Renew once_more) 1600) ≡ Some NotPermitted
renewal_of_another_type = refl

type_is_kept : option_map (λ c. c.fields.key_type) (certificate_of (after (after begun (message.Issue asked_for_sk) 1000 []) (message.Renew once_more) 1600 []) 2) ≡ Some SkEd25519
type_is_kept = refl

renewed_validity : option_map (λ c. c.fields.before) (certificate_of (after one_signed (message.Renew once_more) 1600 []) 3) ≡ Some 2500
renewed_validity = refl

-- ---- revocations

abbrev one_revoked : State
one_revoked = after two (message.RevokeSerial 1) 3000 []

first_version : one_revoked.version ≡ 1
first_version = refl

its_date : one_revoked.date ≡ 3000
its_date = refl

same_serial_again : (after one_revoked (message.RevokeSerial 1) 4000 []).date ≡ 3000
same_serial_again = refl

its_version : reply_to two (message.RevokeSerial 1) 3000 [] ≡ revocation_reply 1
its_version = refl

one_more_serial : (after one_revoked (message.RevokeRange (record { lo = 1; hi = 2 })) 2000 []).version ≡ 2
one_more_serial = refl

no_serial_more : (after one_revoked (message.RevokeRange (record { lo = 1; hi = 1 })) 2000 []).version ≡ 1
no_serial_more = refl

range_past_the_last : first_holding (refusals two (codes "root") (message.RevokeRange (record { lo = 1; hi = 3 })) 0) ≡ Some UnknownSerial
range_past_the_last = refl

renewal_of_a_revoked_one : first_holding (refusals one_revoked (codes "ana") (message.Renew once_more) 1600) ≡ Some Revoked
renewal_of_a_revoked_one = refl

abbrev bob_revoked : State
bob_revoked = after two (message.RevokeKeyId (codes "web/bob")) 3000 []

key_ids_ascend : (after bob_revoked (message.RevokeKeyId (codes "web/alice")) 4000 []).revoked_key_ids ≡ codes "web/alice" ∷ codes "web/bob" ∷ []
key_ids_ascend = refl

key_id_of_no_department : first_holding (refusals two (codes "root") (message.RevokeKeyId (codes "db/bob")) 0) ≡ Some NoDepartment
key_id_of_no_department = refl

revoked_key_id : first_holding (refusals bob_revoked (codes "ana") (message.Issue (record asked { key_id = codes "web/bob" })) 1000) ≡ Some KeyIdRevoked
revoked_key_id = refl

-- ---- CAs

abbrev second_key : KeyLine
second_key = record { key = codes "2"; comment = None }

abbrev rolled_over : State
rolled_over = after two (message.Rollover second_key) 5000 []

second_ca : rolled_over.cas ≡ record { key = []; since = 1 } ∷ record { key = codes "2"; since = 3 } ∷ []
second_ca = refl

its_number : reply_to two (message.Rollover second_key) 5000 [] ≡ rollover_reply 2 3
its_number = refl

ca_in_use : first_holding (refusals rolled_over (codes "root") (message.Rollover second_key) 0) ≡ Some CaInUse
ca_in_use = refl

newest_ca_signs : option_map (λ c. c.fields.ca) (certificate_of (after rolled_over (message.Issue asked) 1000 []) 3) ≡ Some (codes "2")
newest_ca_signs = refl

list_stays_without_key_ids : rolled_over.version ≡ 0
list_stays_without_key_ids = refl

list_gains_a_section : (after bob_revoked (message.Rollover second_key) 5000 []).version ≡ 2
list_gains_a_section = refl

-- a range across a rollover is split in the list
cut_at_a_rollover : published_parts (after (after rolled_over (message.Issue asked) 1000 []) (message.RevokeRange (record { lo = 2; hi = 3 })) 3000 [])
    ≡ record { ca = []; runs = record { lo = 2; hi = 2 } ∷ [] } ∷ record { ca = codes "2"; runs = record { lo = 3; hi = 3 } ∷ [] } ∷ []
cut_at_a_rollover = refl

standings : map (λ e. e.standing) (entries_of (after one_signed (message.RevokeSerial 2) 3000 [])) ≡ standing.Signed ∷ standing.Revoked ∷ []
standings = refl
