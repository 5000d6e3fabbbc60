-- Calls that leave a database as it was, whatever its tables represent.
use Rattle.store.proofs.Words.{Begins, Concludes, Err, Fails, Fault, HasEnded, IfOk, IsAsBefore, IsTrue}
use Rattle.store.proofs.Words.{KeepsUnaccepted, Ok, OnErr, Outcome, Result, Stays, false, inl, inr, refl, subst, sym, ◌∙◌, ◌≡◌}
use Rattle.sqlite.specs.State.{Shows, State}
use Rattle.office.specs.declared.arrival.Outcome.TheVariants as outcome
use Rattle.office.specs.Registers.{IsShortIfAccepted}
use Rattle.store.specs.Arriving.{KeepsUnlessAccepted}

pub fails_before : (a b : State) → Fails a b → IsAsBefore a b
fails_before a b (inl same) = record {
  was_open = λ _. same.0.was_open;
  rest = λ still rests. (same.0.mode ∙ rests.0, same.0.now_is ∙ (rests.1 ∙ sym same.0.committed_is));
  same = λ still rests. same.0.now_is;
}
fails_before a b (inr back) = record {
  was_open = back.was_open;
  rest = λ still rests. (back.autocommit, (back.undone still).0 ∙ sym (back.undone still).1);
  same = λ still rests. (back.undone still).0 ∙ sym rests.1;
}

pub same_before : (a : State) → IsAsBefore a a
same_before a = record { was_open = λ still. still; rest = λ still rests. rests; same = λ still rests. refl }

ended : (a b c d : State) → (IsTrue b.is_open → IsTrue a.is_open) → (IsTrue b.is_open → b.committed ≡ a.committed)
    → (IsTrue c.is_open → IsTrue b.is_open) → (IsTrue c.is_open → c.committed ≡ b.committed) → HasEnded c d
    → IsAsBefore a d
ended a b c d opened begun was keeps end = record {
  was_open = λ still. opened (was (end.was_open still));
  rest = λ still rests. (end.autocommit, end.now still ∙ sym (end.committed still));
  same = λ still rests.
      let mid = end.was_open still in end.now still ∙ (keeps mid ∙ (begun (was mid) ∙ sym rests.1));
}

-- a transaction that is begun and ends with a fault, if its part doesn't end it
pub concludes_before : {X E : Type 0} (a b c d : State) (r q : Result X E)
    → Begins {X = Unit {0}} {E = Fault} a b (Ok tt)
    → Stays b c r → Concludes r c d q → OnErr q (IsAsBefore a d)
concludes_before a b c d (Ok v) (Ok w) begun stays told = tt
concludes_before a b c d (Ok v) (Err f) begun stays told =
    let inside : IsTrue b.in_transaction = begun.1.mode in
    let k = (stays inside).0 in
    ended a b c d (λ _. begun.1.was_open) (λ _. begun.1.committed_is) k.was_open k.committed told
concludes_before a b c d (Err e) (Ok w) begun stays told = absurd told
concludes_before a b c d (Err e) (Err f) begun stays told =
    let inside : IsTrue b.in_transaction = begun.1.mode in
    let k = stays inside in
    ended a b c d (λ _. begun.1.was_open) (λ _. begun.1.committed_is) k.was_open k.committed told.1

-- a transaction that is begun and committed, if its part leaves the database as it was
committed_before : (a b c d : State) → Begins {X = Unit {0}} {E = Fault} a b (Ok tt) → c.now ≡ b.now
    → Shows c d c.now c.now false → IsAsBefore a d
committed_before a b c d begun kept shows = record {
  was_open = λ _. begun.1.was_open;
  rest = λ _ _. (shows.mode, shows.now_is ∙ sym shows.committed_is);
  same = λ _ _. shows.now_is ∙ (kept ∙ begun.1.now_is);
}

-- the reply of a transaction is the one of its part
pub concludes_short : (c d : State) (r q : Result Outcome Fault) → IfOk r IsShortIfAccepted → Concludes r c d q
    → IfOk q IsShortIfAccepted
concludes_short c d (Ok v) (Ok w) short told = subst (λ (o : Outcome). IsShortIfAccepted o) (sym told.0) short
concludes_short c d (Ok v) (Err f) short told = tt
concludes_short c d (Err e) (Ok w) short told = absurd told
concludes_short c d (Err e) (Err f) short told = tt

-- a transaction of a received request has changed nothing, unless it is accepted now
pub concludes_unaccepted : (a b c d : State) (r q : Result Outcome Fault)
    → Begins {X = Unit {0}} {E = Fault} a b (Ok tt)
    → Stays b c r → KeepsUnaccepted b c r → Concludes r c d q → KeepsUnlessAccepted a d q
concludes_unaccepted a b c d r (Err f) begun stays keeps told = concludes_before a b c d r (Err f) begun stays told
concludes_unaccepted a b c d r (Ok (outcome.Accepted reply)) begun stays keeps told = tt
concludes_unaccepted a b c d (Err e) (Ok (outcome.Repeated reply)) begun stays keeps told = absurd told
concludes_unaccepted a b c d (Err e) (Ok (outcome.Refused x)) begun stays keeps told = absurd told
concludes_unaccepted a b c d (Ok v) (Ok (outcome.Repeated reply)) begun stays keeps told =
    committed_before a b c d begun (subst (λ (o : Outcome). KeepsUnaccepted b c (Ok o)) (sym told.0) keeps) told.1
concludes_unaccepted a b c d (Ok v) (Ok (outcome.Refused x)) begun stays keeps told =
    committed_before a b c d begun (subst (λ (o : Outcome). KeepsUnaccepted b c (Ok o)) (sym told.0) keeps) told.1
