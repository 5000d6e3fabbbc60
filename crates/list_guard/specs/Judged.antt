-- The answer to a list, over any register.
use Rattle.std.specs.Prelude.{◌≡◌, ◌≤◌, ℕ, List, Bool, Some, length}
use Rattle.lines.specs.Digests.{digest_text}
use Rattle.krl.specs.Contents.{KrlContents, IsPublished}
use Rattle.list_guard.specs.declared.judging.Answer.{Answer}
use Rattle.list_guard.specs.declared.judging.Answer.TheVariants as answer
use Rattle.list_guard.specs.declared.verdict.Verdict.{Verdict}
use Rattle.list_guard.specs.declared.verdict.Verdict.TheVariants as verdict
use Rattle.list_guard.specs.declared.register.RegisterFault.{RegisterFault}
use Rattle.list_guard.specs.declared.register.RegisterFault.TheVariants as register
use Rattle.list_guard.specs.Machine.{State, Question, ComesAfter, IsNext, IsOfCas, IsRefused, IsRefusedAfter, with_last}

abbrev pub question : List (List ℕ) → Bool → List ℕ → Question
question cas begins list = record { cas = cas; begins = begins; list = list }

-- the list is approved and has this version
abbrev pub IsApprovedAs : ℕ → State → Question → Type 0
IsApprovedAs version s q = (c : KrlContents) × IsOfCas q c × IsNext s.last q c × (version ≡ c.head.version)

-- the verdict is the reference model's, and says whether the list is already the kept one
abbrev pub Decided : Verdict → State → Question → Type 0
Decided (verdict.Approve version) s q = IsApprovedAs version s q
Decided (verdict.Again version) s q = IsApprovedAs version s q × (s.last ≡ Some q.list)
Decided (verdict.Refuse r) s q = IsRefused r s q

-- the verdict on a list that may come after the kept one, and has different bytes
abbrev pub DecidedAfter : Verdict → List ℕ → KrlContents → List ℕ → KrlContents → Type 0
DecidedAfter (verdict.Approve version) list c kept d = ComesAfter list c kept d × (version ≡ c.head.version)
DecidedAfter (verdict.Again version) list c kept d = ⊥
DecidedAfter (verdict.Refuse r) list c kept d = IsRefusedAfter r list c kept d

-- the answer is the reference model's
abbrev pub Answers : Answer → State → Question → Type 0
Answers (answer.Approve digest version) s q = IsApprovedAs version s q × (digest ≡ digest_text q.list)
Answers (answer.Refuse r) s q = IsRefused r s q

-- the state that a verdict leads to: a refusal leaves it unchanged
abbrev pub settled : Verdict → State → Question → State
settled (verdict.Approve version) s q = with_last q.list
settled (verdict.Again version) s q = s
settled (verdict.Refuse r) s q = s

-- the state after an answer: a refusal leaves it unchanged
abbrev pub left_by : Answer → State → Question → State
left_by (answer.Approve digest version) s q = with_last q.list
left_by (answer.Refuse r) s q = s

-- a list that is short enough for every register
abbrev pub IsShort : List ℕ → Type 0
IsShort list = length list ≤ 268435456

abbrev pub IsKeepable : List ℕ → Type 0
IsKeepable list = IsPublished list × IsShort list

-- the cause of a fault of a register that keeps a published list: such a register is never damaged
abbrev pub HasCause : RegisterFault → Type 0 → Type 0
HasCause register.Device failed = failed
HasCause register.Damaged failed = ⊥
HasCause register.NoMemory failed = Unit {0}
