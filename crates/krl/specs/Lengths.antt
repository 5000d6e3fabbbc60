-- Lengths of the written list, per run, per key id and per CA.
use Rattle.std.specs.Prelude.{ℕ, ◌==◌, ◌+◌, ◌*◌, List, [], length, if◌then◌else◌}
use Rattle.std.specs.List.{flat_map}
use Rattle.wire.specs.Texts.{u64_text}
use Rattle.krl.specs.declared.run.Run.{Run}
use Rattle.krl.specs.declared.ca_part.CaPart.{CaPart}
use Rattle.krl.specs.Format.{Range, part_text, section_data}
use Rattle.krl.specs.Published.{is_short, serials_of, is_idle, ca_section}

-- the text and the length of a short run: its serials
abbrev pub listed_text : Run → List ℕ
listed_text r = if is_short r then flat_map u64_text (serials_of r) else []

abbrev pub listed_length : Run → ℕ
listed_length r = if is_short r then 8 * length (serials_of r) else 0

-- the text and the length of a long run: its range
abbrev pub range_text : Run → List ℕ
range_text r = if is_short r then [] else part_text (Range r)

abbrev pub range_length : Run → ℕ
range_length r = if is_short r then 0 else 21

-- the length of a key id with its length field
abbrev pub key_id_length : List ℕ → ℕ
key_id_length i = 4 + length i

-- the length of a part (type, length and data) with this much data, if there is any
abbrev pub tagged_length : ℕ → ℕ
tagged_length n = if n == 0 then 0 else 5 + n

-- the length of a CA's section, if it has one
abbrev pub section_length : List (List ℕ) → CaPart → ℕ
section_length ids p = if is_idle ids p then 0 else 5 + length (section_data (ca_section ids p))
