-- Calls that leave a database as it was, whatever its tables hold.
use Rattle.std.proofs.Common.{◌≡◌, IsTrue, Ok, Err, Result, inl, inr, refl, sym, ◌∙◌}
use Rattle.std.specs.Prelude.{OnErr}
use Rattle.sqlite.specs.State.{State}
use Rattle.store_sql.specs.declared.table_fault.Fault.{Fault}
use Rattle.store_sql.specs.Calls.{Begins, Fails, Stays}
use Rattle.rows.specs.Transactions.{Concludes, HasEnded, IsAsBefore}

pub same_before : (a : State) → IsAsBefore a a
same_before a = record { was_open = λ still. still; rest = λ still rests. rests; same = λ still rests. refl }

pub fails_before : (a b : State) → Fails a b → IsAsBefore a b
fails_before a b (inl same) = record {
  was_open = λ _. same.0.was_open;
  rest = λ still rests. (same.0.mode ∙ rests.0, same.0.now_is ∙ (rests.1 ∙ sym same.0.committed_is));
  same = λ still rests. same.0.now_is;
}
fails_before a b (inr back) = record {
  was_open = back.was_open;
  rest = λ still rests. (back.autocommit, (back.undone still).0 ∙ sym (back.undone still).1);
  same = λ still rests. (back.undone still).0 ∙ sym rests.1;
}

ended : (a b c d : State) → (IsTrue b.is_open → IsTrue a.is_open) → (IsTrue b.is_open → b.committed ≡ a.committed)
    → (IsTrue c.is_open → IsTrue b.is_open) → (IsTrue c.is_open → c.committed ≡ b.committed) → HasEnded c d
    → IsAsBefore a d
ended a b c d opened begun was keeps end = record {
  was_open = λ still. opened (was (end.was_open still));
  rest = λ still rests. (end.autocommit, end.now still ∙ sym (end.committed still));
  same = λ still rests.
      let mid = end.was_open still in end.now still ∙ (keeps mid ∙ (begun (was mid) ∙ sym rests.1));
}

-- a transaction that is begun and ends with a fault, if its part doesn't end it
pub concludes_before : {X E : Type 0} (a b c d : State) (r q : Result X E)
    → Begins {X = Unit {0}} {E = Fault} a b (Ok tt) → Stays b c r → Concludes r c d q → OnErr q (IsAsBefore a d)
concludes_before a b c d (Ok v) (Ok w) begun stays told = tt
concludes_before a b c d (Ok v) (Err f) begun stays told =
    let inside : IsTrue b.in_transaction = begun.1.mode in
    let k = (stays inside).0 in
    ended a b c d (λ _. begun.1.was_open) (λ _. begun.1.committed_is) k.was_open k.committed told
concludes_before a b c d (Err e) (Ok w) begun stays told = absurd told
concludes_before a b c d (Err e) (Err f) begun stays told =
    let inside : IsTrue b.in_transaction = begun.1.mode in
    let k = stays inside in
    ended a b c d (λ _. begun.1.was_open) (λ _. begun.1.committed_is) k.was_open k.committed told.1
