-- After a history without rollovers, an office has only the CA that it began with.
use Rattle.store.proofs.Words.{Arrival, Bool, Certificate, Err, First, IfSome, List, Message, None, Ok, Opening, Option}
use Rattle.store.proofs.Words.{Refusal, Result, Some, State, [], add_accepted, after, ap, ca_rows, change, false, fold}
use Rattle.store.proofs.Words.{fold_push, former_contents, if◌then◌else◌, is_key_id_revoked, is_range_revoked, judged}
use Rattle.store.proofs.Words.{judged_is_first, kept_by, message_with_text, migrated, office_contents, refl, renewed}
use Rattle.store.proofs.Words.{state_after, subst, sym, true, with_arrival, with_one_more, with_range, ℕ, ◌∷◌, ◌≡◌}
use Rattle.message.specs.declared.kinds.Message.TheVariants as message
use Rattle.office.specs.State.{first_ca, opened}
use Rattle.office.specs.Machine.{republished, with_key_id}
use Rattle.office.specs.History.{state}
use Rattle.store.specs.Former.{HasNoRollover, is_rollover}

abbrev HasOneCa : State → Type 0
HasOneCa s = s.cas ≡ first_ca s.opening ∷ []

one_more : (s : State) (c : Option Certificate) → HasOneCa s → HasOneCa (with_one_more s c)
one_more s None p = p
one_more s (Some c) p = p

by_test : (b : Bool) (s t : State) → HasOneCa s → HasOneCa t → HasOneCa (if b then s else t)
by_test true s t p q = p
by_test false s t p q = q

after_message : (s : State) (m : Message) (moment : ℕ) (nonce : List ℕ) → is_rollover m ≡ false → HasOneCa s
    → HasOneCa (after s m moment nonce)
after_message s (message.Department d) moment nonce calm p = p
after_message s (message.Issue i) moment nonce calm p = p
after_message s (message.Renew r) moment nonce calm p = one_more s (renewed s r nonce) p
after_message s (message.Deliver d) moment nonce calm p = p
after_message s (message.RevokeSerial serial) moment nonce calm p =
    by_test (s.revoked serial) s (republished (with_range s (record { lo = serial; hi = serial })) moment) p p
after_message s (message.RevokeRange r) moment nonce calm p =
    by_test (is_range_revoked s r) s (republished (with_range s r) moment) p p
after_message s (message.RevokeKeyId key_id) moment nonce calm p =
    by_test (is_key_id_revoked s key_id) s (republished (with_key_id s key_id) moment) p p
after_message s (message.Rollover k) moment nonce calm p = absurd cc

after_first : (o : Opening) (fs : List First) (a : Arrival) (r : Result First Refusal)
    → IfSome (message_with_text a.bytes) (λ m. is_rollover m ≡ false)
    → judged (state_after o fs) (kept_by fs) a ≡ r → HasOneCa (state_after o fs)
    → HasOneCa (state_after o (add_accepted fs r))
after_first o fs a (Err x) calm e p = p
after_first o fs a (Ok f) calm e p =
    let s = state_after o fs in
    let is = judged_is_first s (kept_by fs) a f e in
    let other : is_rollover f.message ≡ false =
    subst (λ (x : Option Message). IfSome x (λ m. is_rollover m ≡ false)) is.message calm in
    subst HasOneCa (sym (fold_push change (opened o) fs f))
    (after_message s f.message f.arrival.moment f.arrival.nonce other p)

along : (o : Opening) (fs : List First) (l : List Arrival) → HasNoRollover l → HasOneCa (state_after o fs)
    → HasOneCa (state_after o (fold (with_arrival o) fs l))
along o fs [] calm p = p
along o fs (a ∷ l) calm p = along o (with_arrival o fs a) l calm.1 (after_first o fs a _ calm.0 refl p)

pub one_ca : (o : Opening) (l : List Arrival) → HasNoRollover l → (state o l).cas ≡ first_ca (state o l).opening ∷ []
one_ca o l calm = along o [] l calm refl

-- the migration of the rows of schema 1 gives those of schema 2
pub former_migrated : (o : Opening) (l : List Arrival) → HasNoRollover l
    → migrated (former_contents o l) ≡ office_contents o l
former_migrated o l calm = ap (λ cas. record (office_contents o l) { cas = ca_rows 1 cas }) (sym (one_ca o l calm))
