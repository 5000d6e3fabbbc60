-- The departments, serials and key IDs that a message names.
use Rattle.std.specs.Prelude.{ℕ, List, Option, Some, None}
use Rattle.values.specs.Names.{department_of}
use Rattle.message.specs.declared.serial_range.SerialRange.{SerialRange}
use Rattle.message.specs.declared.kinds.Message.{Message}
use Rattle.message.specs.declared.kinds.Message.TheVariants as message

-- the department that a message names, if any; a key ID to be revoked names the department that it begins with
abbrev pub named_department : Message → Option (List ℕ)
named_department (message.Department d) = Some d.name
named_department (message.Issue i) = Some i.department
named_department (message.Renew r) = None
named_department (message.Deliver d) = None
named_department (message.RevokeSerial serial) = None
named_department (message.RevokeRange r) = None
named_department (message.RevokeKeyId key_id) = Some (department_of key_id)
named_department (message.Rollover k) = None

abbrev pub named_serial : Message → Option ℕ
named_serial (message.Department d) = None
named_serial (message.Issue i) = None
named_serial (message.Renew r) = Some r.serial
named_serial (message.Deliver d) = Some d.serial
named_serial (message.RevokeSerial serial) = Some serial
named_serial (message.RevokeRange r) = None
named_serial (message.RevokeKeyId key_id) = None
named_serial (message.Rollover k) = None

abbrev pub named_range : Message → Option SerialRange
named_range (message.Department d) = None
named_range (message.Issue i) = None
named_range (message.Renew r) = None
named_range (message.Deliver d) = None
named_range (message.RevokeSerial serial) = None
named_range (message.RevokeRange r) = Some r
named_range (message.RevokeKeyId key_id) = None
named_range (message.Rollover k) = None

abbrev pub named_key_id : Message → Option (List ℕ)
named_key_id (message.Department d) = None
named_key_id (message.Issue i) = Some i.key_id
named_key_id (message.Renew r) = None
named_key_id (message.Deliver d) = None
named_key_id (message.RevokeSerial serial) = None
named_key_id (message.RevokeRange r) = None
named_key_id (message.RevokeKeyId key_id) = Some key_id
named_key_id (message.Rollover k) = None
