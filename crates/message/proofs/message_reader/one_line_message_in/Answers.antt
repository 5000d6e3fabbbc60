use Rattle.std.proofs.Common.{refl, sym}
use Rattle.message.specs.Reading.{one_line_message_in}
use Rattle.message.proofs.message_reader.one_line_message_in.Goals as goal

pub returns-then-begins : goal.returns-then-begins
unfolding one_line_message_in
returns-then-begins c = rw (sym c.if-begins.ensures) c.serial_in.ensures

pub returns-then-begins-2 : goal.returns-then-begins-2
unfolding one_line_message_in
returns-then-begins-2 c = rw (sym c.if-begins.ensures, sym c.if-begins-2.ensures) c.range_in.ensures

pub returns-then-begins-3 : goal.returns-then-begins-3
unfolding one_line_message_in
returns-then-begins-3 c =
    rw (sym c.if-begins.ensures, sym c.if-begins-2.ensures, sym c.if-begins-3.ensures)
    c.key_id_in.ensures

pub returns-then-begins-4 : goal.returns-then-begins-4
unfolding one_line_message_in
returns-then-begins-4 c =
    rw (sym c.if-begins.ensures, sym c.if-begins-2.ensures, sym c.if-begins-3.ensures, sym c.if-begins-4.ensures)
    c.key_in.ensures

pub returns : goal.returns
unfolding one_line_message_in
returns c =
    rw (sym c.if-begins.ensures, sym c.if-begins-2.ensures, sym c.if-begins-3.ensures, sym c.if-begins-4.ensures)
    refl
