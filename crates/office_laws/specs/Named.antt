-- The serials and key IDs whose revocation accepted messages request, defined by the messages alone.
use Rattle.std.specs.Prelude.{◌==◌, ℕ, List, Bool, false, ◌&&◌, nat_le}
use Rattle.std.specs.List.{list_any}
use Rattle.std.specs.Str.{bytes_eq}
use Rattle.message.specs.declared.kinds.Message.{Message}
use Rattle.message.specs.declared.kinds.Message.TheVariants as message
use Rattle.office.specs.declared.opening.Opening.{Opening}
use Rattle.office.specs.declared.arrival.Arrival.{Arrival}
use Rattle.office.specs.History.{first_accepted}

-- the message revokes the serial, alone or in a range
abbrev pub revokes_serial : ℕ → Message → Bool
revokes_serial n (message.Department d) = false
revokes_serial n (message.Issue i) = false
revokes_serial n (message.Renew r) = false
revokes_serial n (message.Deliver d) = false
revokes_serial n (message.RevokeSerial serial) = n == serial
revokes_serial n (message.RevokeRange r) = nat_le r.lo n && nat_le n r.hi
revokes_serial n (message.RevokeKeyId key_id) = false
revokes_serial n (message.Rollover k) = false

-- the message revokes the key ID
abbrev pub names_key_id : List ℕ → Message → Bool
names_key_id k (message.Department d) = false
names_key_id k (message.Issue i) = false
names_key_id k (message.Renew r) = false
names_key_id k (message.Deliver d) = false
names_key_id k (message.RevokeSerial serial) = false
names_key_id k (message.RevokeRange r) = false
names_key_id k (message.RevokeKeyId key_id) = bytes_eq key_id k
names_key_id k (message.Rollover key) = false

-- an accepted message in the history revokes the serial
abbrev pub is_serial_named : Opening → List Arrival → ℕ → Bool
is_serial_named o l n = list_any (λ f. revokes_serial n f.message) (first_accepted o l)

-- an accepted message in the history revokes the key ID
abbrev pub is_key_id_named : Opening → List Arrival → List ℕ → Bool
is_key_id_named o l k = list_any (λ f. names_key_id k f.message) (first_accepted o l)
