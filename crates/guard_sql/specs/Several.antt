-- Several approved bodies, in one transaction.
use Rattle.std.specs.Prelude.{◌≡◌, ◌<◌, ◌^◌, ◌++◌, ◌∷◌, List, fold}
use Rattle.guard.specs.declared.approved.Approved.{Approved}
use Rattle.guard_sql.specs.Contents.{Contents}
use Rattle.guard_sql.specs.Refusals.{RefusesApproval}
use Rattle.guard_sql.specs.Rows.{approval_row}

-- the contents with a row for each of these bodies
abbrev pub with_approvals : List Approved → Contents → Contents
with_approvals rows c = record c { approved = fold (λ rs a. approval_row a ∷ rs) c.approved rows }

-- the tables refuse one of the rows, after those before it
abbrev pub RefusesApprovals : List Approved → Contents → Type 0
RefusesApprovals rows c =
    (before : List Approved) × (row : Approved) × (later : List Approved) × (rows ≡ before ++ row ∷ later)
    × RefusesApproval (approval_row row) (with_approvals before c)

-- columns can hold the numbers of a row
abbrev pub IsLow : Approved → Type 0
IsLow row = (row.serial < 2 ^ 63) × (row.moment < 2 ^ 63)
