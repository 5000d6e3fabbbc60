use Rattle.std.proofs.Common.{sym}
use Rattle.message.proofs.message_reader.message_in.Goals as goal

pub returns-then-begins : goal.returns-then-begins
returns-then-begins c = rw (sym c.if-begins.ensures) c.department_in.ensures

pub returns-then-begins-2 : goal.returns-then-begins-2
returns-then-begins-2 c = rw (sym c.if-begins.ensures, sym c.if-begins-2.ensures) c.issue_in.ensures

pub returns-then-begins-3 : goal.returns-then-begins-3
returns-then-begins-3 c =
    rw (sym c.if-begins.ensures, sym c.if-begins-2.ensures, sym c.if-begins-3.ensures)
    c.renewal_in.ensures

pub returns-then-begins-4 : goal.returns-then-begins-4
returns-then-begins-4 c =
    rw (sym c.if-begins.ensures, sym c.if-begins-2.ensures, sym c.if-begins-3.ensures, sym c.if-begins-4.ensures)
    c.delivery_in.ensures

pub returns : goal.returns
returns c =
    rw (sym c.if-begins.ensures, sym c.if-begins-2.ensures, sym c.if-begins-3.ensures, sym c.if-begins-4.ensures)
    c.one_line_message_in.ensures
