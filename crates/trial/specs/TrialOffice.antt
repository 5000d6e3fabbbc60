-- The in-memory office (trial office): an initial configuration, and the arrival that comes first.
use Rattle.std.specs.Prelude.{ℕ, List, ◌++◌, codes, replicate}
use Rattle.office.specs.declared.opening.Opening.{Opening}
use Rattle.office.specs.declared.arrival.Arrival.{Arrival}

-- its initial configuration
abbrev pub trial_opening : Opening
trial_opening = record {
  ca = replicate 32 17;
  root = codes "root";
  station = codes "station";
  first = 1;
  last = 9223372036854775806;
}

-- the message by which root makes the department `web`
abbrev pub trial_message : List ℕ
trial_message =
    codes "department web\nkind user\nadmins ana\nprincipals alice,*@example.org\noptions force-command\n"
    ++ codes "extensions permit-X11-forwarding,permit-agent-forwarding,permit-pty\nmaxlife 86400\n"
    ++ codes "namespaces file,git\n"

-- the arrival of this message
abbrev pub trial_arrival : Arrival
trial_arrival = record {
  caller = codes "root";
  key = codes "trial-web";
  bytes = trial_message;
  moment = 0;
  nonce = replicate 32 0;
}
