-- Answers as lines of text.
use Rattle.std.specs.Prelude.{ℕ, List, [], ◌∷◌, ◌++◌, codes}
use Rattle.std.specs.Fmt.{decimal}
use Rattle.list_guard.specs.declared.judging.Answer.{Answer}
use Rattle.list_guard.specs.declared.judging.Answer.TheVariants as answer
use Rattle.list_guard.specs.Refusals.{refusal_name}

-- the statement of a list: its digest, its version, and the time of the statement
abbrev pub statement_line : List ℕ → ℕ → ℕ → List ℕ
statement_line digest version moment =
    codes "list " ++ (digest ++ 32 ∷ (decimal version ++ 32 ∷ (decimal moment ++ 10 ∷ [])))

abbrev pub refused_line : List ℕ → List ℕ
refused_line name = codes "refuse " ++ (name ++ 10 ∷ [])

-- the line of an answer at this time
abbrev pub answer_line : Answer → ℕ → List ℕ
answer_line (answer.Approve digest version) moment = statement_line digest version moment
answer_line (answer.Refuse r) moment = refused_line (refusal_name r)
