use Rattle.std.proofs.Common.{◌≡◌, ℕ, ◌+◌, ◌<◌, List, length, rules, sym, subst, arith}
use Rattle.exchanges.proofs.exchange_reader.read_exchanges.Goals as goal
use Rattle.web.specs.declared.exchange.Exchange.{Exchange}
use Rattle.exchanges.specs.Exchanges.{IsBadRecord}
use Rattle.exchanges.proofs.RecordFiles.{Longer, bad_record, less_left, no_record, one_more, too_many, whole_file}

pub returns-then-number-gt-MAX_EXCHANGES-clause-only :
    goal.returns-then-number-gt-MAX_EXCHANGES-clause-only
returns-then-number-gt-MAX_EXCHANGES-clause-only c = λ fs whole at.
    let some : 0 < length c.loop-rest.rest.now = search rules in
    let count : c.len-number.result ≡ length c.loop-rest.exchanges.items = search rules in
    absurd (too_many c.args.file.now c.loop-rest.rest.now c.loop-rest.exchanges.items fs c.loop-rest.invariant.are
    c.loop-rest.invariant.text some (omega arith) whole at)

pub returns-in_default-clause-only : goal.returns-in_default-clause-only
returns-in_default-clause-only c = λ fs whole at.
    let some : 0 < length c.loop-rest.rest.now = search rules in
    absurd (no_record c.args.file.now c.loop-rest.rest.now c.loop-rest.exchanges.items fs c.loop-rest.invariant.are
    c.loop-rest.invariant.text some (sym c.in_default.ensures) whole at)

pub returns-in_default-clause-bad : goal.returns-in_default-clause-bad
returns-in_default-clause-bad c =
    let some : 0 < length c.loop-rest.rest.now = search rules in
    let count : length c.loop-rest.exchanges.items ≡ c.len-number.result = search rules in
    subst (λ (n : ℕ). IsBadRecord c.args.file.now (n + 1)) count
    (bad_record c.args.file.now c.loop-rest.rest.now c.loop-rest.exchanges.items c.loop-rest.invariant.are
    c.loop-rest.invariant.text some (λ within. sym c.in_default.ensures))

pub loop-rest-smaller : goal.loop-rest-smaller
loop-rest-smaller c = less_left c.loop-rest.rest.now c.in-Some.record.rest.now _ (sym c.in-Some.ensures)

pub loop-rest-preserved : goal.loop-rest-preserved
loop-rest-preserved c =
    let count : c.len-number.result ≡ length c.loop-rest.exchanges.items = search rules in
    let longer = one_more c.args.file.now c.loop-rest.rest.now c.in-Some.record.rest.now c.loop-rest.exchanges.items _
    c.loop-rest.invariant.are c.loop-rest.invariant.text (omega arith) (sym c.in-Some.ensures) in
    let all : Longer c.args.file.now c.push_record.new.exchanges.items c.in-Some.record.rest.now =
    subst (λ (es : List Exchange). Longer c.args.file.now es c.in-Some.record.rest.now) (sym c.in_ok-push_record.ensures)
    longer in
    record { are = all.are; text = all.text }

pub returns-clause-only : goal.returns-clause-only
returns-clause-only c = λ fs whole at.
    let empty : length c.loop-rest.rest.now ≡ 0 = search rules in
    whole_file c.args.file.now c.loop-rest.rest.now c.loop-rest.exchanges.items fs c.loop-rest.invariant.are
    c.loop-rest.invariant.text empty whole at
