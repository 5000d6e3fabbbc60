-- What was served over a register that caches the pending certificates was served over the register below it.
use Rattle.server.proofs.Words.{Arrival, Book, Extends, Ghosts, List, MeansKnown, MeetsTold, None, Opening, Option}
use Rattle.server.proofs.Words.{ServesConnections, [], subst, sym, ℕ, ◌++◌, ◌≡◌}
use Rattle.office.specs.declared.listing.Revocations.{Revocations}
use Rattle.office.specs.declared.publication.Pending.{Pending}
use Rattle.office.specs.History.{state}
use Rattle.waiting.proofs.Covering.{knows_nothing}
use Rattle.waiting.proofs.Kept.{none_kept}

-- `Extends` still holds for a stronger meaning before and for a weaker one after
pub extends_as : (most : ℕ) (before before' after after' : Opening → List Arrival → Type 0)
    → ((o : Opening) (l : List Arrival) → before' o l → before o l)
    → ((o : Opening) (l : List Arrival) → after o l → after' o l)
    → Extends most before after → Extends most before' after'
extends_as most before before' after after' first last extends o l m =
    let x = extends o l (first o l m) in
    record { more = x.more; count = x.count; timely = x.timely; history = last o (l ++ x.more) x.history }

-- before the first request the caching register means what the one below it means
pub known_at_first : {S : Type 0} (means : S → Opening → List Arrival → Type 0) (below register : S) (seen : ℕ)
    (rows : List Pending) (revoked : Option Revocations) → register ≡ below → seen ≡ 0 → rows ≡ [] → revoked ≡ None
    → (o : Opening) (l : List Arrival) → means below o l → MeansKnown means register seen rows revoked o l
known_at_first means below register seen rows revoked same none empty unread o l m = record {
  register_means = subst (λ (s : _). means s o l) (sym same) m;
  knows = knows_nothing (state o l) seen rows none empty;
  revocations = none_kept revoked (state o l) unread;
}

-- so connections that were handled over the one were handled over the other
pub met_as : {S T : Type 0} (n : ℕ) (book book' : Option Book) (nonces nonces' : Option (List ℕ)) (r : Ghosts T)
    (q : Ghosts S) (a b : T) (c d : S) → ((o : Opening) (l : List Arrival) → q.means c o l → r.means a o l)
    → ((o : Opening) (l : List Arrival) → r.means b o l → q.means d o l) → (q.is_honest d → r.is_honest b)
    → (r.is_open b → q.is_open d) → (q.is_open d → r.is_open b) → (r.is_as_before a b → q.is_as_before c d)
    → ServesConnections n book book' nonces nonces' r a b → ServesConnections n book book' nonces nonces' q c d
met_as n book book' from from' r q a b c d first last honest opened was_open same x = record {
  visits = x.visits;
  all = x.all;
  told = x.told;
  drawn = x.drawn;
  served = λ h o l m.
      let s = x.served (honest h) o l (first o l m) in
      (s.0, s.1, last o s.0 s.2, λ answered. let k = s.3 answered in (last o s.0 k.0, opened k.1));
  reads = λ none h is. same (x.reads none (honest h) (was_open is));
}

-- the same of connections whose lines were printed
pub told_as : {S T : Type 0} (n : ℕ) (book book' : Option Book) (nonces nonces' : Option (List ℕ)) (r : Ghosts T)
    (q : Ghosts S) (a b : T) (c d : S) (failed failed' : ℕ) (taken taken' : Option (List ℕ))
    → ((o : Opening) (l : List Arrival) → q.means c o l → r.means a o l)
    → ((o : Opening) (l : List Arrival) → r.means b o l → q.means d o l) → (q.is_honest d → r.is_honest b)
    → (r.is_open b → q.is_open d) → (q.is_open d → r.is_open b) → (r.is_as_before a b → q.is_as_before c d)
    → MeetsTold n book book' nonces nonces' r a b failed failed' taken taken'
    → MeetsTold n book book' nonces nonces' q c d failed failed' taken taken'
unfolding met_as
told_as n book book' from from' r q a b c d failed failed' taken taken' first last honest opened was_open same x =
    record {
      meets = met_as n book book' from from' r q a b c d first last honest opened was_open same x.meets;
      lines = x.lines;
    }
