use Rattle.std.proofs.Common.{◌∙◌, arith, sym}
use Rattle.http_requests.proofs.Places.{method_end, method_more, target_end, target_more}
use Rattle.http_requests.proofs.growing.next_place.Goals as goal

pub returns-in-Start : goal.returns-in-Start
returns-in-Start c = rw c.in-Start.is
    (method_more 1 c.args.byte (omega arith) (sym c.is_method_token.ensures ∙ c.if-is_method_token.true))

pub returns-in-Method : goal.returns-in-Method
returns-in-Method c = rw c.in-Method.is
    (method_more 0 c.args.byte (omega arith) (sym c.if-is_method_token-2.ensures))

pub returns-in-Method-2 : goal.returns-in-Method-2
returns-in-Method-2 c = rw (c.in-Method-2.is, c.if-byte-eq32.true) method_end

pub returns-in-BeforeTarget : goal.returns-in-BeforeTarget
returns-in-BeforeTarget c = rw c.in-BeforeTarget.is
    (target_more 1 c.args.byte (omega arith) (sym c.if-is_visible.ensures))

pub returns-in-Target : goal.returns-in-Target
returns-in-Target c = rw c.in-Target.is
    (target_more 0 c.args.byte (omega arith) (sym c.if-is_visible-2.ensures))

pub returns-in-Target-2 : goal.returns-in-Target-2
returns-in-Target-2 c = rw (c.in-Target-2.is, c.if-byte-eq32-2.true) target_end
