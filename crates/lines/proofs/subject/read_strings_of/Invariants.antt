use Rattle.std.proofs.Common.{◌-◌, ◌≡◌}
use Rattle.lines.specs.Subjects.{strings_at, strings_from}
use Rattle.lines.proofs.subject.read_strings_of.Given as goal

abbrev pub invariant-loop : goal.invariant-loop
invariant-loop l = strings_from (l.count - l.counter) l.strings l.cursor ≡ strings_at l.fn.key_type l.initial.cursor
