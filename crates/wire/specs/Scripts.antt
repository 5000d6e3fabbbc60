-- The number of bytes that a script lets a call give or take.
use Rattle.std.specs.Prelude.{ℕ, min}
use Rattle.wire.specs.declared.scripted.Pace.{Pace}
use Rattle.wire.specs.declared.scripted.Pace.TheVariants.{Whole, OneByte}

-- the number of bytes in a call that could transfer at most `most`
abbrev pub paced : Pace → ℕ → ℕ
paced Whole most = most
paced OneByte most = min most 1
