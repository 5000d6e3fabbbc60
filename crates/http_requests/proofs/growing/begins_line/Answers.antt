use Rattle.std.proofs.Common.{◌∙◌, sym}
use Rattle.http_requests.proofs.Places.{line_begins}
use Rattle.http_requests.proofs.growing.begins_line.Goals as goal

pub returns-in-Line : goal.returns-in-Line
returns-in-Line c token = rw c.in-Line.is (line_begins c.args.byte (sym c.is_header_name_token.ensures ∙ token))
