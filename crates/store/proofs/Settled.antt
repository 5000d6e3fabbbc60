-- Answers inside a transaction, part by part.
use Rattle.store.proofs.Words.{Answers, AreApart, Arrival, Asking, Bool, Contents, Database, Decided, Err}
use Rattle.store.proofs.Words.{ExceedsTables, Fault, HasCause, HasCleanDisk, IsAfter, IsAsked, IsDueAnswer, IsErrAnd}
use Rattle.store.proofs.Words.{IsHistory, IsNew, IsTrue, KeepsUnaccepted, Kept, List, Means, Message, Never, NoMemory}
use Rattle.store.proofs.Words.{None, Ok, Outcome, Past, Reading, Refusal, Result, Settles, Shows, Some, State, Survives}
use Rattle.store.proofs.Words.{Waits, [], all_more, ap, ap₂, arith, bytes_eq, contents_of, contents_with, due, false}
use Rattle.store.proofs.Words.{find, has_key, is_kept_for, is_some, judged, kept_at, length, list_any}
use Rattle.store.proofs.Words.{message_with_text, office_contents, reads_stay, refl, reply_kept, state_at, stays_then}
use Rattle.store.proofs.Words.{stops, subst, survives_weaker, sym, true, ℕ, ◌++◌, ◌∙◌, ◌∷◌, ◌≡◌}
use Rattle.sqlite.specs.State.{State as Connection}
use Rattle.message.specs.Reading.{Gives, message_at}
use Rattle.message.specs.declared.message_fault.MessageFault.{MessageFault}
use Rattle.message.specs.declared.message_fault.MessageFault.TheVariants.{BadLine}
use Rattle.office.specs.declared.view.Stop.{Stop}
use Rattle.office.specs.declared.view.Stop.TheVariants.{Refused}
use Rattle.office.specs.Machine.{step}
use Rattle.office.proofs.Steps.{shows_office, shows_refused, shows_repeated}
use Rattle.office.proofs.Texts.{bad_is}
use Rattle.office.specs.Registers.{IsShortIfAccepted}
use Rattle.office.specs.declared.arrival.Outcome.TheVariants as outcome
use Rattle.office.specs.declared.view.Stop.TheVariants as stop
use Rattle.store.proofs.Causes.{cause_of, fails_then, fails_weaker}
use Rattle.store.proofs.Steps.{Leads, answers_then, goes_still, waits_then}
use Rattle.store.proofs.Keeping.{known_by_kept, no_repeat, reply_by_kept, reply_of}
use Rattle.store.specs.Arriving.{Settling}
use Rattle.store.specs.Arriving.{stopped}
use Rattle.store.proofs.Lawful.{lawful_after}
use Rattle.store.proofs.Reading.{still_means}
use Rattle.store.proofs.Showing.{survives_still}

-- ---- one more received request

-- the office after a history has this state and these stored requests
pub shown_at : (p : Past) → IsHistory p.0 p.1 → Shows (state_at p) (kept_at p) p.0 p.1
shown_at p h = record { lawful = h.office.opening; version = h.office.version; is_state = refl; is_kept = refl }

-- the history with the request is a history
pub goes_on : (a : Arrival) (p : Past) (s : State) (kept : List Kept) → length a.nonce ≡ 32 → IsHistory p.0 p.1
    → Shows s kept p.0 (p.1 ++ a ∷ []) → IsHistory p.0 (p.1 ++ a ∷ [])
goes_on a p s kept size h shows = record {
  office = shows_office s kept p.0 (p.1 ++ a ∷ []) shows;
  nonces = all_more (λ (x : Arrival). length x.nonce ≡ 32) p.1 a h.nonces size;
}

-- the office's rows after the request are those of this state
pub rows_with : (a : Arrival) (p : Past) (s : State) (kept : List Kept) → Shows s kept p.0 (p.1 ++ a ∷ [])
    → contents_of s kept ≡ contents_with a p
rows_with a p s kept shows = ap₂ (λ (t : State) (ks : List Kept). contents_of t ks) shows.is_state shows.is_kept

-- ---- the stored request with its caller and request ID

module _ (a : Arrival) (kept : List Kept) where
  pub unknown_found : find (is_kept_for a.caller a.key) kept ≡ None → list_any (has_key a) kept ≡ false
  unknown_found is = known_by_kept a kept ∙ ap is_some is

  pub known_found : (k : Kept) → find (is_kept_for a.caller a.key) kept ≡ Some k → list_any (has_key a) kept ≡ true
  known_found k is = known_by_kept a kept ∙ ap is_some is

  -- no such request: it is no repeat
  pub repeat_unknown : find (is_kept_for a.caller a.key) kept ≡ None → reply_kept kept a ≡ None
  repeat_unknown is = no_repeat a kept (unknown_found is)

  -- the same bytes: it is a repeat
  pub repeat_found : (k : Kept) → AreApart kept → find (is_kept_for a.caller a.key) kept ≡ Some k
      → bytes_eq k.bytes a.bytes ≡ true → reply_kept kept a ≡ Some k.reply
  repeat_found k apart is same = reply_by_kept a kept apart ∙ ap (reply_of a) is ∙ rw same refl

  -- other bytes: it is no repeat
  pub repeat_other : (k : Kept) → AreApart kept → find (is_kept_for a.caller a.key) kept ≡ Some k
      → bytes_eq k.bytes a.bytes ≡ false → reply_kept kept a ≡ None
  repeat_other k apart is differs = reply_by_kept a kept apart ∙ ap (reply_of a) is ∙ rw differs refl

-- ---- answers that change nothing

-- the outcome is the specified one, and the office is as it was
abbrev pub IsStill : Arrival → Outcome → Past → Type 0
IsStill a outcome p = (outcome ≡ due p.0 p.1 a) × Shows (state_at p) (kept_at p) p.0 (p.1 ++ a ∷ [])

pub settles_still : (a : Arrival) (Known : Past → Type 0) (c : Connection) (outcome : Outcome) → length a.nonce ≡ 32
    → IsTrue c.is_open → ((p : Past) → IsHistory p.0 p.1 → Known p → IsStill a outcome p)
    → Settles a Known c c (Ok outcome)
settles_still a Known c outcome size is_open same = λ p after.
    let s = same p after.history after.known in
    let rows : office_contents p.0 p.1 ≡ contents_with a p = rows_with a p (state_at p) (kept_at p) s.1 in (
      record { due = s.0; history = goes_on a p (state_at p) (kept_at p) size after.history s.1 },
      record {
        was_open = is_open;
        is_open = is_open;
        means = subst (λ (x : Contents). Means c.now x) rows after.means;
        committed = λ _. refl;
        mode = refl;
      },
    )

pub settles_not : (a : Arrival) (Known : Past → Type 0) (c : Connection) (f : Fault) → Settles a Known c c (Err f)
settles_not a Known c f = λ p after inside. record { was_open = λ still. still; committed = λ _. refl }

-- the specified answer to a repeat is the stored reply
pub repeated_still : (a : Arrival) (p : Past) (r : List ℕ) → IsHistory p.0 p.1 → reply_kept (kept_at p) a ≡ Some r
    → IsStill a (outcome.Repeated r) p
repeated_still a p r h known = shows_repeated (state_at p) (kept_at p) p.0 p.1 a r known (shown_at p h)

-- the refusal of the reference model is the specified answer
refused_still : (a : Arrival) (p : Past) (r : Refusal) → IsHistory p.0 p.1 → reply_kept (kept_at p) a ≡ None
    → judged (state_at p) (kept_at p) a ≡ Err r → IsStill a (outcome.Refused r) p
refused_still a p r h new is = shows_refused (state_at p) (kept_at p) p.0 p.1 a r new is (shown_at p h)

pub settles_refused : (a : Arrival) (is_known : Bool) (c : Connection) (r : Refusal) → length a.nonce ≡ 32
    → IsTrue c.is_open → ((p : Past) → IsAsked a is_known p → judged (state_at p) (kept_at p) a ≡ Err r)
    → Settles a (IsAsked a is_known) c c (Ok (outcome.Refused r))
settles_refused a is_known c r size is_open is =
    settles_still a (IsAsked a is_known) c (outcome.Refused r) size is_open
    (λ p h asked. refused_still a p r h asked.new (is p asked))

pub bad_line : (bytes : List ℕ) (f : MessageFault) (n : ℕ) → f ≡ BadLine n
    → Gives {X = Message} (Err f) (message_at bytes) → message_with_text bytes ≡ None
bad_line bytes f n is read =
    bad_is bytes n (subst (λ (g : MessageFault). Gives {X = Message} (Err g) (message_at bytes)) is read)

step_refused : (p : Past) (a : Arrival) (m : Message) (r : Refusal) → IsNew a m p
    → step (state_at p) a.caller m a.moment a.nonce ≡ Err r → judged (state_at p) (kept_at p) a ≡ Err r
step_refused p a m r is refused =
    let message = is.message in
    let in_time = is.in_time in
    let unknown = is.unknown in
    rw (message, in_time, unknown, refused) refl

-- ---- the whole contract of a part

-- the same database shows no change
kept_same : (c : Connection) (r : Result Outcome Fault) → KeepsUnaccepted c c r
kept_same c (Ok (outcome.Accepted reply)) = tt
kept_same c (Ok (outcome.Repeated reply)) = refl
kept_same c (Ok (outcome.Refused x)) = refl
kept_same c (Err f) = tt

-- a database that was only read before
keeps_then : (a b c : Connection) (r : Result Outcome Fault) → b.now ≡ a.now → KeepsUnaccepted b c r
    → KeepsUnaccepted a c r
keeps_then a b c (Ok (outcome.Accepted reply)) same keeps = tt
keeps_then a b c (Ok (outcome.Repeated reply)) same keeps = keeps ∙ same
keeps_then a b c (Ok (outcome.Refused x)) same keeps = keeps ∙ same
keeps_then a b c (Err f) same keeps = tt

-- a part that answers without a change
pub settling_still : {a : Arrival} {Known : Past → Type 0} {c : Connection} {x : Outcome}
    → (IsTrue c.is_open → Settles a Known c c (Ok x)) → IsShortIfAccepted x
    → Settling (IsTrue c.is_open) a Known c c (Ok x)
settling_still {Known = Known} {c = c} {x = x} settles short = record {
  settles = λ clean is_open. settles is_open;
  fails = λ clean. tt;
  stays = λ clean inside. (record { was_open = λ still. still; committed = λ _. refl }, refl);
  keeps = λ clean. kept_same c (Ok x);
  short = short;
  survives = survives_still c (Waits (IsAfter Known) c);
}

-- a part that fails for lack of memory, before it does anything
pub settling_not : {Given : Type 0} {a : Arrival} {Known : Past → Type 0} {c : Connection}
    → Settling Given a Known c c (Err NoMemory)
settling_not {a = a} {Known = Known} {c = c} = record {
  settles = λ clean given. settles_not a Known c NoMemory;
  fails = λ clean p after. tt;
  stays = λ clean inside. record { was_open = λ still. still; committed = λ _. refl };
  keeps = λ clean. tt;
  short = tt;
  survives = survives_still c (Waits (IsAfter Known) c);
}

-- a part that works without an open connection works with one
pub settling_open : {Given : Type 0} {a : Arrival} {Known : Past → Type 0} {old new : Connection}
    {r : Result Outcome Fault} → Settling (Unit {0}) a Known old new r → Settling Given a Known old new r
settling_open part = record {
  settles = λ clean _. part.settles clean tt;
  fails = part.fails;
  stays = part.stays;
  keeps = part.keeps;
  short = part.short;
  survives = part.survives;
}

-- a message that isn't accepted now changes nothing
pub stopped_settles : (a : Arrival) (m : Message) (Known : Past → Type 0) (c : Connection) (s : Stop)
    (r : Result Outcome Fault) → r ≡ stopped s → length a.nonce ≡ 32 → ((p : Past) → Known p → IsNew a m p)
    → ((p : Past) → Known p → Decided (Err s) (state_at p) a.caller m a.moment a.nonce)
    → Settling (IsTrue c.is_open) a Known c c r
stopped_settles a m Known c s r is size new decided =
    subst (λ q. Settling (IsTrue c.is_open) a Known c c q) (sym is) (go s decided)
  where
    go : (s : Stop) → ((p : Past) → Known p → Decided (Err s) (state_at p) a.caller m a.moment a.nonce)
        → Settling (IsTrue c.is_open) a Known c c (stopped s)
    go (Refused x) decided = settling_still (λ is_open. settles_still a Known c (outcome.Refused x) size is_open
        (λ p h known. refused_still a p x h (new p known).new (step_refused p a m x (new p known) (decided p known)))) tt
    go stop.NoMemory decided = settling_not

-- the same part, given more knowledge
pub settling_weaker : {Asked : Type 0} {a : Arrival} {Known Later : Past → Type 0} {old new : Connection}
    {r : Result Outcome Fault} → ((p : Past) → IsHistory p.0 p.1 → Known p → Later p)
    → Settling Asked a Later old new r → Settling Asked a Known old new r
settling_weaker {Asked} {a} {Known} {Later} {old} {new} {r} less part = record {
  settles = λ clean asked. go r (part.settles clean asked);
  fails = λ clean. fails_weaker (IsAfter Known) (IsAfter Later) (ExceedsTables a) (ExceedsTables a) (λ p. p) old new r
      more (λ p after why. why) (part.fails clean);
  stays = part.stays;
  keeps = part.keeps;
  short = part.short;
  survives = survives_weaker old new (Waits (IsAfter Later) old) (Waits (IsAfter Known) old)
      (λ clean trees h p after. h p (more p after)) part.survives;
}
  where
    more : {db : Database} (p : Past) → IsAfter Known p db → IsAfter Later p db
    more p after = record {
      history = after.history;
      means = after.means;
      known = less p after.history after.known;
    }

    go : (r : Result Outcome Fault) → Settles a Later old new r → Settles a Known old new r
    go (Ok x) settles = λ p after. settles p (more p after)
    go (Err f) settles = λ p after. settles p (more p after)

waits_never : (Known : Past → Type 0) (a b : Connection) → Survives a b Never → Survives a b (Waits (IsAfter Known) a)
waits_never Known a b one = survives_weaker a b Never (Waits (IsAfter Known) a) (λ clean trees h. absurd h) one

-- ---- a reading call, and then the other parts

module _ {X : Type 0} {First : State → List Kept → X → Type 0} {a b : Connection} {x : X} (one : Reading First a b (Ok x))
    {Known Later : Past → Type 0}
    (both : (p : Past) → IsHistory p.0 p.1 → Known p → First (state_at p) (kept_at p) x → Later p) where
  -- the connection is open after it
  abbrev IsOpenAfter : Past → Database → Type 0
  IsOpenAfter p db = IsAfter Later p db × IsTrue b.is_open

  leads_open : HasCleanDisk b → Leads (IsAfter Known) IsOpenAfter (λ p. p) a b
  leads_open clean = λ p after.
      let q = one.shows clean p.0 p.1 after.history after.means in (
        office_contents p.0 p.1,
        goes_still a b (office_contents p.0 p.1) q.1 after.means,
        (
          record {
            history = after.history;
            means = still_means a b p.0 p.1 q.1 after.means;
            known = both p after.history after.known q.0;
          },
          q.1.0.is_open,
        ),
      )

  leads_later : HasCleanDisk b → Leads (IsAfter Known) (IsAfter Later) (λ p. p) a b
  leads_later clean = λ p after. let m = leads_open clean p after in (m.0, m.1, m.2.0)

  pub read_then : {arrival : Arrival} {c : Connection} {r : Result Outcome Fault}
      → Settling (IsTrue b.is_open) arrival Later b c r → Settling (Unit {0}) arrival Known a c r
  read_then {arrival} {c} {r} rest =
      let still : HasCleanDisk c → HasCleanDisk b = λ clean. omega (arith, rest.survives.clean) in
      record {
        settles = λ clean _. answers_then (IsAfter Known) (IsDueAnswer arrival) (contents_with arrival) IsOpenAfter
            (IsDueAnswer arrival) (contents_with arrival) (λ p. p) a b c r (leads_open (still clean))
            (opened r (rest.settles clean)) (λ p v due. due) (λ p. refl);
        fails = λ clean. fails_then (IsAfter Known) (IsAfter Later) (ExceedsTables arrival) (ExceedsTables arrival)
            (λ p. p) Never a b c r (leads_later (still clean)) (λ p after why. why) one.survives (still clean)
            rest.survives.counts (rest.fails clean);
        stays = λ clean. stays_then a b c x r (reads_stay a b (Ok x) (one.reads (still clean))) (rest.stays clean);
        keeps = λ clean. keeps_then a b c r (one.reads (still clean)).0.now_is (rest.keeps clean);
        short = rest.short;
        survives = waits_then (IsAfter Known) (IsAfter Later) (λ p. p) a b c leads_later
            (waits_never Known a b one.survives) rest.survives;
      }
    where
      opened : (r : Result Outcome Fault) → (IsTrue b.is_open → Settles arrival Later b c r)
          → Answers IsOpenAfter (IsDueAnswer arrival) (contents_with arrival) b c r
      opened (Ok v) rest = λ p after. rest after.1 p after.0
      opened (Err f) rest = λ p after. rest after.1 p after.0

-- a reading call that fails
pub read_failed : {X : Type 0} {P : State → List Kept → X → Type 0} {a b : Connection} {f : Fault}
    → Asking (Unit {0}) P a b (Err f) → (arrival : Arrival) (Known : Past → Type 0) (r : Result Outcome Fault)
    → IsErrAnd r (λ e. e ≡ f) → Settling (Unit {0}) arrival Known a b r
read_failed asks arrival Known (Ok v) is = absurd is
read_failed {a = a} {b = b} asks arrival Known (Err e) is = record {
  settles = λ clean _ p after inside. stops a b (asks.reads clean tt).0;
  fails = λ clean p after.
      let q = asks.shows clean tt (state_at p) (kept_at p) (lawful_after p.0 p.1 after.history) after.means in
      cause_of (ExceedsTables arrival p) a b e (subst (λ (g : Fault). HasCause a b g) (sym is) q.1);
  stays = λ clean inside. stops a b (asks.reads clean tt).0;
  keeps = λ clean. tt;
  short = tt;
  survives = waits_never Known a b asks.survives;
}
