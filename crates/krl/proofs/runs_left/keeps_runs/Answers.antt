use Rattle.krl.proofs.Words.{arith, inl, inr, refl, sym}
use Rattle.krl.proofs.RunsKept.{covered_one, lost, none_left, none_over, passed}
use Rattle.krl.proofs.runs_left.keeps_runs.Goals as goal

pub returns-in_default-next_run : goal.returns-in_default-next_run
returns-in_default-next_run c rs qs a b h k none_a none_b s t = (
  λ no. absurd cc,
  λ kept. absurd
      (none_over rs qs a b _ _ _ _ _ _ c.in-Some.run' (c.loop-run.invariant rs qs a b h k none_a none_b s t) none_a
      none_b (sym c.in-Some.ensures.reads) (sym c.in_default-next_run.ensures.reads) kept),
)

pub loop-run-preserved-then-over-run : goal.loop-run-preserved-then-over-run
loop-run-preserved-then-over-run c rs qs a b h k none_a none_b s t =
    passed rs qs a b _ _ _ _ _ _ _ _ c.in-Some.run' c.in-Some-next_run.over
    (c.loop-run.invariant rs qs a b h k none_a none_b s t)
    none_a none_b (sym c.in-Some.ensures.reads) (sym c.in-Some-next_run.ensures.reads) c.if-over-run.true

pub loop-run-preserved : goal.loop-run-preserved
loop-run-preserved c rs qs a b h k none_a none_b s t =
    covered_one rs qs a b _ _ _ _ _ _ _ _ c.in-Some.run' c.in-Some-next_run.over
    (c.loop-run.invariant rs qs a b h k none_a none_b s t) none_a none_b (sym c.in-Some.ensures.reads)
    (sym c.in-Some-next_run.ensures.reads) c.if-over-run-2.true c.if-run-over.true

pub returns-else-over-run-2 : goal.returns-else-over-run-2
returns-else-over-run-2 c rs qs a b h k none_a none_b s t = (
  λ no. absurd cc,
  λ kept. absurd (lost rs qs a b _ _ _ _ _ _ _ _ c.in-Some.run' c.in-Some-next_run.over
      (c.loop-run.invariant rs qs a b h k none_a none_b s t) none_a none_b (sym c.in-Some.ensures.reads)
      (sym c.in-Some-next_run.ensures.reads) c.if-over-run.false
      (λ lo hi. elim c.else-over-run-2.either [ inl x ↦ omega arith | inr y ↦ omega arith ]) kept),
)

pub returns : goal.returns
returns c rs qs a b h k none_a none_b s t = (
  λ yes. none_left rs qs a b _ _ _ _ (c.loop-run.invariant rs qs a b h k none_a none_b s t) none_a
      (sym c.in_default.ensures.reads),
  λ kept. refl,
)
