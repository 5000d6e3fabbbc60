use Rattle.std.proofs.Common.{◌≡◌, ◌++◌, take}
use Rattle.station_jobs.specs.Policy.{names_text}
use Rattle.station_jobs.proofs.policy_file.put_names.Given as goal

-- the names of the first departments have been appended
abbrev pub invariant-loop-department : goal.invariant-loop-department
invariant-loop-department l = l.text.items ≡ l.fn.text.items ++ names_text (take l.department-index l.departments)
