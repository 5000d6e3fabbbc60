-- Judging bodies one after the other before any of them is kept: the rows so far stand for what the register will keep.
use Rattle.std.specs.Prelude.{◌≡◌, ◌<◌, ◌^◌, ℕ, List, All}
use Rattle.guard.specs.declared.approved.Approved.{Approved}
use Rattle.guard.specs.declared.judging.Answer.{Answer}
use Rattle.guard.specs.Judged.{Answers, AreAnswers, AreNew, IsKeepable, IsKept}
use Rattle.guard.specs.Machine.{State, Question, after, after_all, with_rows}

-- a register has room for the rows, if the last serial and the time are below 2^63
abbrev pub HaveRoom : State → (moment : ℕ) → List Approved → Type 0
HaveRoom s moment rows = s.scope.last < 2 ^ 63 → moment < 2 ^ 63 → All IsKeepable rows

-- the rows `new`, in place of `old`, are those after a question, whose time is that of all of them
pub record Settles (s : State) (old new : List Approved) (q : Question) : Type 0 where
  pub next : with_rows s new ≡ after (with_rows s old) q
  pub free : AreNew s old → AreNew s new
  pub room : HaveRoom s q.moment old → HaveRoom s q.moment new

-- the same with the answer, which is the reference model's
pub record Weighs (a : Answer) (s : State) (old new : List Approved) (q : Question) : Type 0 where
  pub answers : Answers a (with_rows s old) q
  pub kept : IsKept a (after (with_rows s old) q) q.body
  pub settles : Settles s old new q

-- these are the answers to the questions, and the rows that have to be kept for them
pub record WeighsAll (moment : ℕ) (answers : List Answer) (s : State) (rows : List Approved)
    (questions : List Question) : Type 0 where
  pub are : AreAnswers answers s questions
  pub next : with_rows s rows ≡ after_all s questions
  pub free : AreNew s rows
  pub room : HaveRoom s moment rows
