-- The contents after each write.
use Rattle.std.specs.Prelude.{ℕ, List, [], ◌∷◌, ◌++◌}
use Rattle.list_sql.specs.declared.lists.ListRow.{ListRow}
use Rattle.list_sql.specs.Contents.{Contents, no_contents}
use Rattle.list_sql.specs.Rows.{first_rows, list_rows}

abbrev pub with_list : ListRow → Contents → Contents
with_list l c = record { lists = c.lists ++ l ∷ [] }

abbrev pub without_rows : Contents → Contents
without_rows c = no_contents

-- the rows are those of the first pieces of this list
abbrev pub with_pieces : List ℕ → ℕ → Contents → Contents
with_pieces list count c = record { lists = first_rows list count }

-- the rows are those of this list
abbrev pub with_rows : List ℕ → Contents → Contents
with_rows list c = record { lists = list_rows list }
