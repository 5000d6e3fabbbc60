use Rattle.std.proofs.Common.{◌∙◌, sym}
use Rattle.http_requests.proofs.Places.{end_feed, end_line, last_feed, last_line, name_end, name_more}
use Rattle.http_requests.proofs.Places.{value_end, value_more}
use Rattle.http_requests.proofs.growing.in_line.Goals as goal

pub returns-in-Line : goal.returns-in-Line
returns-in-Line c = rw (c.in-Line.is, c.if-byte-eq13-2.true) last_feed

pub returns-in-Line-2 : goal.returns-in-Line-2
returns-in-Line-2 c = rw (c.in-Line-2.is, c.if-byte-eq10-3.true) last_line

pub returns-in-Name : goal.returns-in-Name
returns-in-Name c =
    rw c.in-Name.is (name_more c.args.byte (sym c.is_header_name_token.ensures ∙ c.if-is_header_name_token.true))

pub returns-in-Name-2 : goal.returns-in-Name-2
returns-in-Name-2 c = rw (c.in-Name-2.is, c.if-byte-eq58.true) name_end

pub returns-in-Value : goal.returns-in-Value
returns-in-Value c =
    rw c.in-Value.is (value_more c.args.byte (sym c.is_header_value_token.ensures ∙ c.if-is_header_value_token.true))

pub returns-in-Value-2 : goal.returns-in-Value-2
returns-in-Value-2 c =
    rw (c.in-Value-2.is, c.if-byte-eq13-3.true) (λ count rest f. value_end count _ (end_feed count rest f))

pub returns-in-Value-3 : goal.returns-in-Value-3
returns-in-Value-3 c =
    rw (c.in-Value-3.is, c.if-byte-eq10-5.true) (λ count rest s. value_end count _ (end_line count rest s))
