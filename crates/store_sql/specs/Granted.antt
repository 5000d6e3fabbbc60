-- Memory that remembers whether some of it was refused.
use Rattle.std.specs.Prelude.{◌≡◌, false}
use Rattle.store_sql.specs.declared.memory.Memory.{Memory}

-- if none was refused by the later time, none was by the earlier one, and this holds
abbrev pub IfGranted : Memory → Memory → Type 0 → Type 0
IfGranted earlier later P = later.is_refused ≡ false → (earlier.is_refused ≡ false) × P
