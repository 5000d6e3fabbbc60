-- A received request that is accepted now.
use Rattle.store.proofs.Words.{Arrival, Ca, Contents, Database, Decided, Decision, Err, Fault, Goes, HasRoom}
use Rattle.store.proofs.Words.{IsAccepted, IsAfter, IsDue, IsHistory, IsNew, Kept, LATEST_MOMENT, List, Makes, Message}
use Rattle.store.proofs.Words.{Ok, Opening, Past, Result, Settles, Shows, State, Survives, View, Waits, [], after, ap}
use Rattle.store.proofs.Words.{arith, change, contents_after, due, first_holding, holds_in_range, judged, kept_at}
use Rattle.store.proofs.Words.{kept_of, kept_row, last_of, length, next_serial, opening_stays, refl, refusals}
use Rattle.store.proofs.Words.{revoked_is_issued, state_at, subst, survives_weaker, sym, written, ℕ, ◌++◌, ◌+◌, ◌<◌}
use Rattle.store.proofs.Words.{◌^◌, ◌∙◌, ◌∷◌, ◌≡◌, ◌≤◌}
use Rattle.std.specs.Prelude.{IsOkAnd}
use Rattle.sqlite.specs.State.{State as Connection}
use Rattle.office.specs.declared.arrival.Outcome.TheVariants as outcome
use Rattle.office.specs.Decided.{Agrees, stepped_by}
use Rattle.office.specs.Machine.{Stepped, reply_to}
use Rattle.office.specs.History.{state}
use Rattle.office.proofs.Steps.{shows_accepted}
use Rattle.store.specs.Due.{Fits}
use Rattle.office.proofs.Dates.{date_after}
use Rattle.store.proofs.Lawful.{lawful_after}
use Rattle.store.proofs.Settled.{goes_on, rows_with, shown_at}
use Rattle.office.proofs.Judged.{step_gives}

-- ---- the decision

pub decided_accepted : (p : Past) (a : Arrival) (m : Message) (d : Decision) (v : View) → IsNew a m p
    → Decided (Ok d) (state_at p) a.caller m a.moment a.nonce → HasRoom d.change (state_at p) → Agrees v (state_at p) m
    → d.version < 9223372036854775807 → IsAccepted a d v.cas.now p
decided_accepted p a m d v is decided room agrees small =
    let s = state_at p in
    let stepped : Stepped = record { state = after s m a.moment a.nonce; reply = reply_to s m a.moment a.nonce } in
    let same = step_gives (first_holding (refusals s a.caller m a.moment)) stepped (stepped_by d s) decided.0 in
    let message = is.message in
    let in_time = is.in_time in
    let unknown = is.unknown in
    record {
      new = is.new;
      judged = rw (message, in_time, unknown, decided.0) (refl, refl, sym (ap (λ (x : Stepped). x.state) same));
      room = room;
      next = decided.1;
      cas = agrees.cas;
      version = small;
    }

-- ---- the written rows

pub ok_from_is_ok_and : {T E : Type 0} {Q : T → Type 0} (r : Result T E) → IsOkAnd r Q → (x : T) × (r ≡ Ok x) × Q x
ok_from_is_ok_and (Ok x) h = (x, refl, h)
ok_from_is_ok_and (Err y) h = absurd h

-- the outcome is the specified one, and the rows written are those of the office after the request
pub accepted : (p : Past) (a : Arrival) (d : Decision) (cas : List Ca) → IsHistory p.0 p.1 → IsAccepted a d cas p
    → (outcome.Accepted d.reply ≡ due p.0 p.1 a)
    × Shows (written d (state_at p)) (kept_at p ++ kept_of a d.reply ∷ []) p.0 (p.1 ++ a ∷ [])
accepted p a d cas h is =
    let s = state_at p in
    let kept = kept_at p in
    let l = p.1 ++ a ∷ [] in
    let found = ok_from_is_ok_and (judged s kept a) is.judged in
    let f = found.0 in
    let version : d.version ≡ (change s f).version = ap (λ (t : State). t.version) found.2.2 in
    let r = shows_accepted s kept p.0 p.1 a f is.new found.1 (omega (arith, is.version, version)) (shown_at p h) in
    let row : kept_row f ≡ kept_of a d.reply =
    ap (λ (x : Arrival). kept_of x f.reply) found.2.0 ∙ ap (kept_of a) found.2.1 in (
      ap (λ (x : List ℕ). outcome.Accepted x) (sym found.2.1) ∙ r.0,
      subst (λ (t : State). Shows t (kept ++ kept_of a d.reply ∷ []) p.0 l) (sym found.2.2)
          (subst (λ (k : Kept). Shows (change s f) (kept ++ k ∷ []) p.0 l) row r.1),
    )

small : LATEST_MOMENT < 2 ^ 63
small = omega arith

-- its counters are numbers that a column can hold
fits : (p : Past) (a : Arrival) (d : Decision) (cas : List Ca) → IsHistory p.0 p.1 → IsAccepted a d cas p → Fits d
fits p a d cas h is =
    let l = p.1 ++ a ∷ [] in
    let shows = (accepted p a d cas h is).1 in
    let same : written d (state_at p) ≡ state p.0 l = shows.is_state in
    let range : next_serial (state p.0 l) ≤ (state p.0 l).opening.last + 1 = holds_in_range p.0 l h.office.opening in
    let opening : (state p.0 l).opening.last ≡ p.0.last = ap (λ (o : Opening). o.last) (opening_stays p.0 l) in
    let next : d.next ≡ next_serial (state p.0 l) = is.next ∙ ap next_serial same in
    let date : d.date ≡ (state p.0 l).date = ap (λ (s : State). s.date) same in
    record {
      next = omega (arith, range, opening, next, last_of p.0 h.office.opening);
      version = omega (arith, shows.version);
      date = omega (arith, date, date_after p.0 l, small);
    }

pub is_due : (p : Past) (a : Arrival) (d : Decision) (cas : List Ca) (db : Database) → IsAfter (IsAccepted a d cas) p db
    → IsDue d cas (state_at p, kept_at p) db
is_due p a d cas db is = record {
  lawful = lawful_after p.0 p.1 is.history;
  room = is.known.room;
  issued = λ n revoked. (revoked_is_issued p.0 p.1 n revoked).1;
  next = is.known.next;
  fits = fits p a d cas is.history is.known;
  listed = is.known.cas;
  means = is.means;
}

-- the rows written are those of the office after the request
pub settles_written : (a : Arrival) (d : Decision) (cas : List Ca) (old new : Connection) → length a.nonce ≡ 32
    → Makes {X = Unit {0}} {E = Fault} (IsDue d cas) (contents_after d a) old new (Ok tt)
    → Settles a (IsAccepted a d cas) old new (Ok (outcome.Accepted d.reply))
settles_written a d cas old new size makes = λ p after.
    let s = accepted p a d cas after.history after.known in
    let x = written d (state_at p) in
    let kept = kept_at p ++ kept_of a d.reply ∷ [] in
    let q = makes (state_at p, kept_at p) (is_due p a d cas old.now after) in (
      record { due = s.0; history = goes_on a p x kept size after.history s.1 },
      subst (λ (c : Contents). Goes old new c) (rows_with a p x kept s.1) q.1,
    )

-- a crash during the writes commits nothing
pub waits_written : (a : Arrival) (d : Decision) (cas : List Ca) (old new : Connection)
    → Survives old new (Waits (IsDue d cas) old) → Survives old new (Waits (IsAfter (IsAccepted a d cas)) old)
waits_written a d cas old new one =
    survives_weaker old new (Waits (IsDue d cas) old) (Waits (IsAfter (IsAccepted a d cas)) old)
    (λ clean trees h p after. h (state_at p, kept_at p) (is_due p a d cas old.now after)) one
