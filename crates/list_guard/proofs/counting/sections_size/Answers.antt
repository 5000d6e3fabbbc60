use Rattle.std.proofs.Common.{List, ap, arith, length, refl, subst, sym, ℕ}
use Rattle.krl.specs.Format.{IsSection, section_data, section_text, section_type}
use Rattle.list_guard.specs.Sizes.{section_size}
use Rattle.list_guard.proofs.Counted.{CountsOn, all_counted, none_counted, none_some, none_stands, one_more, some_pair}
use Rattle.list_guard.proofs.counting.sections_size.Goals as goal

pub loop-left-init : goal.loop-left-init
loop-left-init c = (
  subst (λ t. CountsOn section_text IsSection section_size c.args.sections.now t 0) (sym c.new-left.ensures)
      (none_counted section_text IsSection section_size c.args.sections.now),
  let same = ap length c.new-left.ensures in omega (arith, same),
)

pub returns-in_default-clause-size : goal.returns-in_default-clause-size
returns-in_default-clause-size c xs all is =
    absurd (none_stands section_text IsSection section_size c.args.sections.now c.loop-left.left c.loop-left.size
    (λ end. absurd (cc (c.loop-left-test.ensures.1 end)))
    (λ x after fits e. none_some (section_type x, section_data x) _ refl (c.in_default.ensures.only (section_type x) (section_data x) after fits.1 e).0)
    c.loop-left.invariant.0 xs all is)

pub loop-left-preserved : goal.loop-left-preserved
loop-left-preserved c = (
  one_more section_text IsSection section_size c.args.sections.now c.loop-left.left c.next_tagged.new.cursor c.loop-left.size c.section_size-size.result
      (λ end. absurd (cc (c.loop-left-test.ensures.1 end)))
      (λ x after fits e. let read = c.in-Some.ensures.only (section_type x) (section_data x) after fits.1 e in
      let same = some_pair (c.in-Some.kind, c.in-Some.bytes.now) (section_type x, section_data x) read.0 in
      (c.section_size-size.ensures.size x fits (sym (ap (λ (p : ℕ × List ℕ). p.0) same)) (sym (ap (λ (p : ℕ × List ℕ). p.1) same)), read.1)) c.loop-left.invariant.0,
  let shorter = c.in-Some.ensures.shorter in
      let bound = c.section_size-size.ensures.bound in
      let before = c.loop-left.invariant.1 in
      omega (arith, shorter, bound, before),
)

pub returns-clause-size : goal.returns-clause-size
returns-clause-size c xs all is =
    all_counted section_text IsSection section_size c.args.sections.now c.loop-left.left c.loop-left.size (λ x r e. absurd cc)
    (c.loop-left-test.ensures.0 (let end = c.loop-left-test.false in cc)) c.loop-left.invariant.0 xs all is
