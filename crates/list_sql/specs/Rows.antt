-- The rows of a state, and the state of rows: a list is in pieces, one in each row.
use Rattle.std.specs.Prelude.{ℕ, ◌+◌, ◌-◌, ◌*◌, ◌/◌, List, [], ◌∷◌, length, map, take, drop, Option, Some, None}
use Rattle.std.specs.List.{range_with_len}
use Rattle.list_guard.specs.State.{State}
use Rattle.list_sql.specs.declared.lists.ListRow.{ListRow}
use Rattle.list_sql.specs.Contents.{Contents}

-- the bytes of the last list that was approved; no byte, if none was
abbrev pub bytes_of : Option (List ℕ) → List ℕ
bytes_of None = []
bytes_of (Some list) = list

-- the list that bytes represent
abbrev pub list_in : List ℕ → Option (List ℕ)
list_in [] = None
list_in (b ∷ bytes) = Some (b ∷ bytes)

-- the length of each piece but the last
abbrev pub piece_size : ℕ
piece_size = 65536

-- the number of pieces of so many bytes; no byte is one piece
abbrev pub piece_count : ℕ → ℕ
piece_count size = (size - 1) / piece_size + 1

-- the piece at a place
abbrev pub piece_at : List ℕ → ℕ → List ℕ
piece_at bytes at = take piece_size (drop (at * piece_size) bytes)

-- its row, of schema 2
abbrev pub piece_row : List ℕ → ℕ → ListRow
piece_row bytes at = record { id = at + 1; schema = 2; bytes = piece_at bytes at }

-- the rows of the first pieces
abbrev pub first_rows : List ℕ → ℕ → List ListRow
first_rows bytes count = map (piece_row bytes) (range_with_len 0 count)

-- the rows of all pieces
abbrev pub list_rows : List ℕ → List ListRow
list_rows bytes = first_rows bytes (piece_count (length bytes))

-- the only row, if no list was approved
abbrev pub empty_row : ListRow
empty_row = record { id = 1; schema = 2; bytes = [] }

-- all rows
abbrev pub list_contents : State → Contents
list_contents s = record { lists = list_rows (bytes_of s.last) }
