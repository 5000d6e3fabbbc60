-- A range of serials, added to the runs (the maximal ranges) of revoked serials.
use Rattle.std.specs.Prelude.{ℕ, ◌+◌, nat_le, if◌then◌else◌, max, Option, Some, None}
use Rattle.message.specs.declared.serial_range.SerialRange.{SerialRange}
use Rattle.store_sql.specs.declared.runs.RunRow.{RunRow}
use Rattle.store_sql.specs.Contents.{Contents}
use Rattle.store_sql.specs.Changes.{with_run}
use Rattle.store_sql.specs.Runs.{last_run, without_runs}

-- the start of the last run at or before the serial, if that run contains or touches it; otherwise the serial
abbrev pub joined_low : ℕ → Option RunRow → ℕ
joined_low lo None = lo
joined_low lo (Some x) = if nat_le lo (x.hi + 1) then x.lo else lo

-- the greater of the two ends
abbrev pub joined_high : ℕ → Option RunRow → ℕ
joined_high hi None = hi
joined_high hi (Some x) = max hi x.hi

-- from a serial up to the end of the range, or to that of the last run that it touches or overlaps
abbrev pub run_from : ℕ → SerialRange → Contents → RunRow
run_from lo r c = record { lo = lo; hi = joined_high r.hi (last_run (r.hi + 1) c) }

-- the range and the runs that touch or overlap it, merged
abbrev pub joined_run : SerialRange → Contents → RunRow
joined_run r c = run_from (joined_low r.lo (last_run r.lo c)) r c

-- the run in place of those that begin within it
abbrev pub with_joined : RunRow → Contents → Contents
with_joined run c = with_run run (without_runs run c)

abbrev pub with_range_rows : SerialRange → Contents → Contents
with_range_rows r c = with_joined (joined_run r c) c
