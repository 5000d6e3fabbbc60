-- The flags for revoked serials and key IDs, read one after the other.
use Rattle.store.proofs.Words.{Asking, Bool, Certificate, Fault, IsOfHistory, IsTrue, Kept, List, Message, Ok, Option}
use Rattle.store.proofs.Words.{Result, SaysRevoked, State}
use Rattle.sqlite.specs.State.{State as Connection}
use Rattle.store.specs.declared.reads.marks.Marks.{Marks}
use Rattle.store.specs.Concerning.{AreMarksBeside, AreMarksOf, AreMarksWith, SaysKeyIdBeside}
use Rattle.store.proofs.Showing.{asks_both}

-- after a history, the first flag is the state's
abbrev pub SaysFirst : Message → State → List Kept → Bool → Type 0
SaysFirst m s kept is = IsOfHistory s kept → SaysRevoked is s m

-- the first flag, and then the others
pub first_flag : (certificate : Option Certificate) (m : Message) (a b c : Connection) (is : Bool)
    (r : Result Marks Fault) → Asking (IsTrue a.is_open) (SaysFirst m) a b (Ok is)
    → Asking (IsTrue b.is_open) (AreMarksWith certificate is m) b c r
    → Asking (IsTrue a.is_open) (AreMarksOf certificate m) a c r
first_flag certificate m a b c is r one rest =
    asks_both one rest (λ s kept y lawful first rest history same. rest same (first history))

-- two flags, and then the last
pub two_flags : (certificate : Option Certificate) (m : Message) (a b c d : Connection) (is key : Bool)
    (r : Result Marks Fault) → Asking (IsTrue a.is_open) (SaysFirst m) a b (Ok is)
    → Asking (IsTrue b.is_open) (SaysKeyIdBeside certificate m) b c (Ok key)
    → Asking (IsTrue c.is_open) (AreMarksBeside is key m) c d r
    → Asking (IsTrue a.is_open) (AreMarksOf certificate m) a d r
two_flags certificate m a b c d is key r one two rest =
    first_flag certificate m a b d is r one
    (asks_both two rest (λ s kept y lawful first rest same one. rest one (first same)))
