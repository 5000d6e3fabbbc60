-- A decision is the reference model's step.
use Rattle.office.proofs.Words.{Certificate, Department, Err, IsSome, Issue, List, Message, None, Ok, Opening, Option}
use Rattle.office.proofs.Words.{Refusal, Renewal, Result, Some, View, [], after, ap, arith, cases_Bool, certificate_for}
use Rattle.office.proofs.Words.{certificate_of, department_named, first_holding, inl, inr, issue_reply, issued}
use Rattle.office.proofs.Words.{length-append, ltb, ltb-false, refl, refusals, renewed_certificate, reply_to, step}
use Rattle.office.proofs.Words.{subst, sym, with_certificate, ℕ, ◌+◌, ◌-◌, ◌<◌, ◌∙◌, ◌∷◌, ◌≡◌, ◌≤◌}
use Rattle.std.specs.Prelude.{IfOk, slice_get}
use Rattle.std.proofs.lemmas.Bool.{cond-true, cond-false}
use Rattle.std.proofs.lemmas.Option.{slice_get_within}
use Rattle.message.specs.declared.kinds.Message.TheVariants as message
use Rattle.office.specs.declared.view.Decision.{Decision}
use Rattle.office.specs.declared.view.Stop.{Stop}
use Rattle.office.specs.declared.view.Stop.TheVariants as stop
use Rattle.office.specs.declared.view.Change.{Change}
use Rattle.office.specs.Certificates.{kind_or_user}
use Rattle.office.specs.Machine.{State, next_serial}
use Rattle.office.specs.Machine.{newest_key}
use Rattle.office.specs.Decided.{Agrees, Decided, IsMade, certified, changed, written}

pub step_refused : (s : State) (caller : List ℕ) (m : Message) (moment : ℕ) (nonce : List ℕ) (r : Refusal)
    → first_holding (refusals s caller m moment) ≡ Some r → step s caller m moment nonce ≡ Err r
step_refused s caller m moment nonce r e = rw e refl

-- a property of the expected decision holds of the result, unless memory was refused
pub made_so : (P : Decision → Type 0) (r : Result Decision Stop) (x : Decision) → IsMade r x → P x → IfOk r P
made_so P (Ok d) x is so = subst P (sym is) so
made_so P (Err (stop.Refused f)) x is so = tt
made_so P (Err stop.NoMemory) x is so = tt

pub made_decides : (s : State) (caller : List ℕ) (m : Message) (moment : ℕ) (nonce : List ℕ)
    (r : Result Decision Stop) (x : Decision) → IsMade r x → Decided (Ok x) s caller m moment nonce
    → Decided r s caller m moment nonce
made_decides s caller m moment nonce (Ok d) x is so =
    subst (λ (y : Decision). Decided (Ok y) s caller m moment nonce) (sym is) so
made_decides s caller m moment nonce (Err (stop.Refused f)) x is so = absurd is
made_decides s caller m moment nonce (Err stop.NoMemory) x is so = tt

-- if the view has a serial left, so does the state
pub serial_left : (v : View) (s : State) (m : Message) → Agrees v s m → v.next ≤ v.opening.now.last
    → next_serial s ≤ s.opening.last
serial_left v s m a left =
    subst (λ (n : ℕ). n ≤ s.opening.last) a.next (subst (λ (o : Opening). v.next ≤ o.last) a.opening left)

module _ (v : View) (s : State) (m : Message) (caller : List ℕ) (moment : ℕ) (nonce : List ℕ) (a : Agrees v s m)
    (allowed : first_holding (refusals s caller m moment) ≡ None) where
  -- for a message that isn't refused, a decision is correct if it gives the model's next state and reply
  decided : (x : Decision) → written x s ≡ after s m moment nonce → x.reply ≡ reply_to s m moment nonce
      → x.next ≡ next_serial (after s m moment nonce) → Decided (Ok x) s caller m moment nonce
  decided x state reply next = (rw (allowed, state, reply) refl, next ∙ ap next_serial (sym state))

  -- the same if the published list stays as it is
  pub unpublished_decided : (ch : Change) (reply : List ℕ) (x : Decision)
      → x ≡ record { reply = reply; next = v.next; version = v.version; date = v.date; change = ch }
      → record (changed ch s) { version = s.version; date = s.date } ≡ after s m moment nonce
      → reply ≡ reply_to s m moment nonce → next_serial s ≡ next_serial (after s m moment nonce)
      → Decided (Ok x) s caller m moment nonce
  unpublished_decided ch reply x is state replied next =
      let version = a.version in
      let date = a.date in
      rw is (decided (record { reply = reply; next = v.next; version = v.version; date = v.date; change = ch })
      (rw (version, date) state) replied (a.next ∙ next))

  -- the same if a certificate is made, the one that the model makes
  pub certified_decided : (r : Result Decision Stop) (made c : Certificate) → IsMade r (certified v made) → made ≡ c
      → after s m moment nonce ≡ with_certificate s c
      → reply_to s m moment nonce ≡ issue_reply (next_serial s) c.body → Decided r s caller m moment nonce
  certified_decided r made c is same state replied =
      let version = a.version in
      let date = a.date in
      let next = a.next in
      made_decides s caller m moment nonce r (certified v made) is (decided (certified v made)
      (rw (state, same, version, date) refl) (rw (same, next, replied) refl)
      (rw (state, next) (omega (arith, length-append s.certificates (c ∷ [])))))

-- the certificate issued from a view is the one issued from the state
pub issued_by_view : (v : View) (s : State) (i : Issue) (d : Department) (nonce : List ℕ)
    → Agrees v s (message.Issue i) → department_named s i.department ≡ Some d
    → certificate_for i v.next d.kind (newest_key v.opening.now v.cas.now) nonce ≡ issued s i nonce
issued_by_view v s i d nonce a is =
    λ j. certificate_for i (a.next j) (kind_or_user ((sym is) j)) (newest_key (a.opening j) (a.cas j)) nonce

-- the certificate that a renewal makes from the old one
abbrev pub renewed_by : State → Renewal → Certificate → List ℕ → Certificate
renewed_by s r old nonce = renewed_certificate old r (next_serial s) (newest_key s.opening s.cas) nonce

-- the certificate renewed from a view is the one renewed from the state
pub renewed_by_view : (v : View) (s : State) (r : Renewal) (old : Certificate) (nonce : List ℕ)
    → Agrees v s (message.Renew r)
    → renewed_certificate old r v.next (newest_key v.opening.now v.cas.now) nonce ≡ renewed_by s r old nonce
renewed_by_view v s r old nonce a =
    λ j. renewed_certificate old r (a.next j) (newest_key (a.opening j) (a.cas j)) nonce

-- ---- serials that were handed out

-- the certificate with a serial is at its place in the list
pub certificate_at : (s : State) (serial : ℕ) (c : Certificate) → certificate_of s serial ≡ Some c
    → (s.opening.first ≤ serial) × (slice_get s.certificates (serial - s.opening.first) ≡ Some c)
certificate_at s serial c e =
    let found = slice_get s.certificates (serial - s.opening.first) in
    elim (cases_Bool (ltb serial s.opening.first)) [
      | inl below ↦ absurd (cc (sym (cond-true (ltb serial s.opening.first) None found below) ∙ e))
      | inr above ↦ (ltb-false _ _ above, sym (cond-false (ltb serial s.opening.first) None found above) ∙ e)
    ]

some_is : (o : Option Certificate) → IsSome o → (c : Certificate) × (o ≡ Some c)
some_is None some = absurd cc
some_is (Some c) some = (c, refl)

-- the serial of an existing certificate was handed out
pub serial_of_one : (s : State) (serial : ℕ) → IsSome (certificate_of s serial)
    → (s.opening.first ≤ serial) × (serial < next_serial s)
serial_of_one s serial some =
    let there = some_is (certificate_of s serial) some in
    let at = certificate_at s serial there.0 there.1 in
    let within = slice_get_within s.certificates _ there.0 at.1 in
    (at.0, omega (arith, at.0, within))
