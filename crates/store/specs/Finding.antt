-- The value of a row, if one is found.
use Rattle.std.specs.Prelude.{ℕ, ◌^◌, nat_lt, if◌then◌else◌, Option, Some, None}
use Rattle.std.specs.Option.{option_map}
use Rattle.store_sql.specs.declared.requests.RequestRow.{RequestRow}
use Rattle.office.specs.declared.arrival.Kept.{Kept}

-- the value of the row that is found, `Some None` if there is no row, and `None` if the row has no value
abbrev pub value_in : {R X : Type 0} → (R → Option X) → Option R → Option (Option X)
value_in value None = Some None
value_in value (Some row) = option_map (λ x. Some x) (value row)

-- the serial, or 0, which no office issues, if it is too great for a column
abbrev pub asked_serial : ℕ → ℕ
asked_serial serial = if nat_lt serial (2 ^ 63) then serial else 0

-- the stored request of a row
abbrev pub kept_in : RequestRow → Kept
kept_in row = record { caller = row.caller; key = row.key; bytes = row.message; reply = row.reply }
