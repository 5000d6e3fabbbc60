-- Parts of a transaction, one after the other.
use Rattle.store.proofs.Words.{Contents, Err, FailsFor, Fault, Goes, Has, HasCleanDisk, IsTrue, Makes, Means, Never, Ok}
use Rattle.store.proofs.Words.{Result, Stays, Survives, Waits, arith, reads_stay, refl, stays_then, stops, subst}
use Rattle.store.proofs.Words.{survives_weaker, ◌≡◌}
use Rattle.sqlite.specs.State.{State}
use Rattle.store_sql.specs.Refusals.{RefusedFor}
use Rattle.store_sql.specs.Statements.{Found, Wrote}
use Rattle.store.specs.Transactions.{DoesPart}
use Rattle.store.proofs.Causes.{cause_of, fails_then, fails_weaker}
use Rattle.store.proofs.Steps.{Leads, goes_still, goes_then, leads, makes, stops_then, waits, waits_then}

-- a query commits nothing
waits_never : (a b : State) → Survives a b Never → Survives a b (Waits Has a)
waits_never a b one = survives_weaker a b Never (Waits Has a) (λ clean trees h. absurd h) one

-- a write
pub written : {X : Type 0} {f : Contents → Contents} {refused : Contents → Type 0} {old new : State}
    {r : Result X Fault} → Wrote f (RefusedFor refused) old new r → DoesPart Has f refused old new r
written {f = f} {old = old} {new = new} {r = r} w = record {
  makes = λ clean. makes f old new r (w.changes clean);
  fault = w.fault;
  stays = w.stays;
  survives = waits f old new w.survives;
}

-- a part whose first step fails
pub stopped_first : {X Y : Type 0} {f g : Contents → Contents} {early refused : Contents → Type 0} {old new : State}
    {e : Fault} → DoesPart {X = Y} Has f early old new (Err e) → ((d : Contents) → early d → refused d)
    → DoesPart {X = X} Has g refused old new (Err e)
stopped_first {X = X} {early = early} {refused = refused} {old = old} {new = new} {e = e} part so = record {
  makes = part.makes;
  fault = λ clean. fails_weaker {X = X} Has Has early refused (λ d. d) old new (Err e) (λ d means. means)
      (λ d means. so d) (part.fault clean);
  stays = part.stays;
  survives = part.survives;
}

-- a query that fails
pub not_found : {X Y : Type 0} {Finding : State → State → Result Y Fault → Type 0} {f : Contents → Contents}
    {refused : Contents → Type 0} {old new : State} {e : Fault} → Found Finding old new (Err e)
    → DoesPart {X = X} Has f refused old new (Err e)
not_found {refused = refused} {old = old} {new = new} {e = e} found = record {
  makes = λ clean d means inside. stops old new (found.reads clean).0;
  fault = λ clean d means. cause_of (refused d) old new e (found.fault clean d means);
  stays = λ clean inside. stops old new (found.reads clean).0;
  survives = waits_never old new found.survives;
}

makes_next : {X : Type 0} (next f g : Contents → Contents) (a b c : State) (r : Result X Fault) → Leads Has Has next a b
    → (IsTrue b.is_open → Makes Has g b c r) → ((d : Contents) → Means a.now d → g (next d) ≡ f d) → Makes Has f a c r
makes_next next f g a b c (Ok v) leads rest is = λ d means.
    let m = leads d means in
    let q = (rest m.1.is_open (next d) m.2).1 in
    (tt, subst (Goes a c) (is d means) (goes_then a b c m.0 (g (next d)) m.1 q))
makes_next next f g a b c (Err e) leads rest is = λ d means.
    let m = leads d means in stops_then a b c m.0 m.1 (rest m.1.is_open (next d) m.2)

-- a part that succeeds, and then one that needs an open connection
pub part_then : {X : Type 0} (next f g : Contents → Contents) (late refused : Contents → Type 0) (a b c : State)
    (r : Result X Fault) → (HasCleanDisk b → Leads Has Has next a b)
    → (HasCleanDisk b → Stays {X = Unit {0}} {E = Fault} a b (Ok tt)) → Survives a b (Waits Has a)
    → (HasCleanDisk c → IsTrue b.is_open → Makes Has g b c r) → (HasCleanDisk c → FailsFor Has late b c r)
    → (HasCleanDisk c → Stays b c r) → Survives b c (Waits Has b)
    → (HasCleanDisk b → (d : Contents) → Means a.now d → (g (next d) ≡ f d) × (late (next d) → refused d))
    → DoesPart Has f refused a c r
part_then next f g late refused a b c r leads keeps one makes fault stays two so = record {
  makes = λ clean.
      let early : HasCleanDisk b = omega (arith, two.clean) in
      makes_next next f g a b c r (leads early) (makes clean) (λ d means. (so early d means).0);
  fault = λ clean.
      let early : HasCleanDisk b = omega (arith, two.clean) in
      fails_then Has Has late refused next (Waits Has a) a b c r (leads early) (λ d means. (so early d means).1) one
      early two.counts (fault clean);
  stays = λ clean. stays_then {X = Unit {0}} a b c tt r (keeps (omega (arith, two.clean))) (stays clean);
  survives = waits_then Has Has next a b c leads one two;
}

-- two writes
pub written_then : {X : Type 0} {f g : Contents → Contents} {early : State → State → Result (Unit {0}) Fault → Type 0}
    {late refused : Contents → Type 0} {a b c : State} {r : Result X Fault} → Wrote f early a b (Ok tt)
    → Wrote g (RefusedFor late) b c r → ((d : Contents) → late (f d) → refused d)
    → DoesPart Has (λ d. g (f d)) refused a c r
written_then {f = f} {g = g} {late = late} {refused = refused} {a = a} {b = b} {c = c} {r = r} one two so =
    part_then f (λ d. g (f d)) g late refused a b c r (λ early. leads f a b (one.changes early)) one.stays
    (waits f a b one.survives) (λ clean _. makes g b c r (two.changes clean)) two.fault two.stays
    (waits g b c two.survives) (λ early d means. (refl, so d))

-- a query, and then a part that depends on its result
pub found_then : {K X Y : Type 0} (f : K → Contents → Contents) (k : K) (of : Contents → K)
    {Finding : State → State → Result Y Fault → Type 0} {late refused : Contents → Type 0} {a b c : State} {y : Y}
    {r : Result X Fault} → Found Finding a b (Ok y) → (HasCleanDisk b → (d : Contents) → Means a.now d → k ≡ of d)
    → DoesPart Has (f k) late b c r → ((d : Contents) → k ≡ of d → late d → refused d)
    → DoesPart Has (λ d. f (of d) d) refused a c r
found_then f k of {late = late} {refused = refused} {a = a} {b = b} {c = c} {r = r} found finds rest so =
    part_then (λ d. d) (λ d. f (of d) d) (f k) late refused a b c r
    (λ early d means. let p = goes_still a b d (found.reads early) means in (d, p, p.means))
    (λ early. reads_stay {X = Unit {0}} a b (Ok tt) (found.reads early)) (waits_never a b found.survives)
    (λ clean _. rest.makes clean) rest.fault rest.stays rest.survives (λ early d means.
    let is = finds early d means in (subst (λ n. f k d ≡ f n d) is refl, so d is))

-- a query after which nothing has to be done
pub found_done : {X : Type 0} {Finding : State → State → Result X Fault → Type 0} {f : Contents → Contents}
    {refused : Contents → Type 0} {a b : State} {x : X} → Found Finding a b (Ok x)
    → (HasCleanDisk b → (d : Contents) → Means a.now d → d ≡ f d) → DoesPart {X = Unit {0}} Has f refused a b (Ok tt)
found_done {a = a} {b = b} found same = record {
  makes = λ clean d means. (tt, subst (Goes a b) (same clean d means) (goes_still a b d (found.reads clean) means));
  fault = λ clean. tt;
  stays = λ clean. reads_stay {X = Unit {0}} a b (Ok tt) (found.reads clean);
  survives = waits_never a b found.survives;
}
