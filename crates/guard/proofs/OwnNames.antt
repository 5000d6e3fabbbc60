-- The principals of approved bodies are of the names in their own key IDs.
use Rattle.std.proofs.Common.{◌≡◌, List, true, get_or}
use Rattle.std.specs.Prelude.{All}
use Rattle.std.proofs.lemmas.Bool.{and_parts}
use Rattle.values.proofs.OwnNames.{met_by_names, permitted_principals}
use Rattle.values.specs.Names.{name_of}
use Rattle.cert.specs.declared.fields.CertFields.{CertFields}
use Rattle.message.specs.Permissions.{meet_rules}
use Rattle.message.specs.declared.department.Department.{Department}
use Rattle.guard.specs.declared.approved.Approved.{Approved}
use Rattle.guard.specs.declared.scope.Scope.{Scope}
use Rattle.guard.specs.Machine.{Question, permits}
use Rattle.guard.specs.History.{HasOwnPrincipals, WasAsked, WasOwn, state}
use Rattle.guard.proofs.Histories.{asked}

own_principals_of : (d : Department) (c : CertFields) → permits d c ≡ true → HasOwnPrincipals d c
own_principals_of d c permitted =
    let name = name_of c.key_id in
    let met = permitted_principals name d.rules c.principals
    (and_parts (meet_rules d name c.principals) _ permitted).0 in
    record {
      met = met;
      own = λ all k p inside. met_by_names name (get_or c.principals k p) d.rules all (met k p inside);
    }

was_own : (scope : Scope) (l : List Question) (a : Approved) → WasAsked scope l a → WasOwn l a
was_own scope l a (before, q, later, c, e, may, is) = (
  before,
  q,
  later,
  c,
  may.allowed.0,
  e,
  may.fields,
  may.allowed.1,
  own_principals_of may.allowed.0 c may.allowed.2.permits,
  is,
)

pub all_own : (scope : Scope) (l : List Question) → All (WasOwn l) (state scope l).approved
all_own scope l = λ k a inside. was_own scope l (get_or (state scope l).approved k a) (asked scope l k a inside)
