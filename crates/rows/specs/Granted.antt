-- Memory that remembers whether an allocation was refused.
use Rattle.std.specs.Prelude.{◌≡◌, false}
use Rattle.rows.specs.declared.memory.Memory.{Memory}

-- if none was refused up to the later time, then none was up to the earlier one, and this holds
abbrev pub IfGranted : Memory → Memory → Type 0 → Type 0
IfGranted earlier later P = later.is_refused ≡ false → (earlier.is_refused ≡ false) × P
