-- The in-memory office (trial office): an initial configuration, and the arrival that comes first.
use Rattle.std.specs.Prelude.{ℕ, codes, ◌++◌, [], ◌∷◌, List, OnOk, Result, replicate}
use Rattle.sqlite.specs.State.{State}
use Rattle.office.specs.declared.opening.Opening.{Opening}
use Rattle.office.specs.declared.arrival.Arrival.{Arrival}
use Rattle.office.specs.declared.store_fault.StoreFault.{StoreFault}
use Rattle.store.specs.Meaning.{Tells}

-- the initial configuration of an office with these serials
abbrev pub opening_of : ℕ → ℕ → Opening
opening_of first last = record {
  ca = replicate 32 17;
  root = codes "root";
  station = codes "station";
  first = first;
  last = last;
}

-- the message by which root makes the department `web`
abbrev pub trial_message : List ℕ
trial_message =
    codes "department web\nkind user\nadmins ana\nprincipals alice,*@example.org\noptions force-command\n"
    ++ codes "extensions permit-X11-forwarding,permit-agent-forwarding,permit-pty\nmaxlife 86400\n"
    ++ codes "namespaces file,git\n"

-- the arrival of this message
abbrev pub trial_arrival : Arrival
trial_arrival = record {
  caller = codes "root";
  key = codes "trial-web";
  bytes = trial_message;
  moment = 0;
  nonce = replicate 32 0;
}

-- after success the tables represent each history that they represented, with that arrival
abbrev pub TellsTrial : (old new : State) → Result (Unit {0}) StoreFault → Type 0
TellsTrial old new r =
    OnOk r ((o : Opening) (l : List Arrival) → Tells old o l → Tells new o (l ++ trial_arrival ∷ []))
