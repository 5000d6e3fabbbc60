use Rattle.std.proofs.Common.{take, ◌++◌, ◌≡◌}
use Rattle.wire.specs.Texts.{string_text}
use Rattle.lines.specs.Subjects.{key_name, parts_text}
use Rattle.lines.proofs.subject_line.blob_of.Given as goal

abbrev pub invariant-loop-string : goal.invariant-loop-string
invariant-loop-string l =
    l.blob.items ≡ string_text (key_name l.fn.line.key_type) ++ parts_text (take l.string-index l.fn.line.key)
