-- Creating the tables one by one.
use Rattle.store_sql.proofs.Words.{AllByRecursion, Bool, Creates, Err, Fault, HasCause, HasCleanDisk, IsDatabase}
use Rattle.store_sql.proofs.Words.{IsPermutation-refl, IsSound, IsTrue, KeepsRows, List, Lists, Ok, Result, Row, Schema}
use Rattle.store_sql.proofs.Words.{State, Stays, Survives, Table, TableName, Trees, WaitsAt, [], ap, arith, before, ca}
use Rattle.store_sql.proofs.Words.{ca_cells, ca_places, cert_cells, cert_places, created, department_cells}
use Rattle.store_sql.proofs.Words.{department_places, drop, false, get_or, if◌then◌else◌, inl, key_id_cells}
use Rattle.store_sql.proofs.Words.{key_id_places, length, created_table, office_cells, office_places, refl}
use Rattle.store_sql.proofs.Words.{request_cells}
use Rattle.store_sql.proofs.Words.{request_places, run_cells, run_places, subst, survives_then, sym, true, whole, ℕ}
use Rattle.store_sql.proofs.Words.{◌++◌, ◌+◌, ◌<◌, ◌∙◌, ◌∷◌, ◌≡◌}
use Rattle.std.proofs.lemmas.List.{drop_more}
use Rattle.sqlite.specs.Change.{next_tree}
use Rattle.store_sql.specs.Schema.{no_schema, without_ca}
use Rattle.store_sql.specs.Contents.{no_contents}
use Rattle.store_sql.proofs.Later.{cause_since}
use Rattle.store_sql.proofs.Staying.{stays_then}
use Rattle.store_sql.specs.Calls.{Grown, IsBare, AddsCa, Steps}

-- a table with no row
lists_none : {X : Type 0} (cells : X → Row) (places : List ℕ) (rows : List Row) → rows ≡ [] → Lists cells places rows []
lists_none cells places rows is = subst (λ rs. Lists cells places rs []) (sym is)
    (record { same = IsPermutation-refl []; apart = tt })

bare_more : (db next : Trees) (tables : List Table) (new : Table) → KeepsRows tables db next → next new.tree ≡ []
    → AllByRecursion (λ t. db t.tree ≡ []) tables → AllByRecursion (λ t. next t.tree ≡ []) (tables ++ new ∷ [])
bare_more db next [] new keeps empty all = (empty, tt)
bare_more db next (t ∷ tables) new keeps empty all = (keeps.0 ∙ all.0, bare_more db next tables new keeps.1 empty all.1)

bare_then : (s : Schema) (table : Table) (a b : State) → Grown a b s table → IsBare s a.now
    → IsBare (created s table) b.now
bare_then s table a b p bare =
    (p.schema, bare_more a.now.trees b.now.trees s.tables (record table { tree = next_tree s }) p.others p.empty bare.1)

-- ---- the tables of an office

-- each of these tables is created after those before it, and then all exist
abbrev pub Completing : Schema → List TableName → Type 0
Completing s [] = s ≡ whole
Completing s (t ∷ ts) = (before t ≡ s) × Completing (created s (created_table t)) ts

-- the database has exactly these tables, with no row, and nothing else has changed
pub record HasMade (s : Schema) (a b : State) : Type 0 where
  pub is_open : b.is_open ≡ a.is_open
  pub bare : IsBare s b.now
  pub mode : b.in_transaction ≡ a.in_transaction
  pub marks : b.marks ≡ a.marks
  pub last : s ≡ whole → IsTrue b.is_open × IsDatabase b.now × (a.in_transaction ≡ false → b.committed ≡ b.now)

-- if the database was bare, these are the tables still missing
pub record IsAt (rest : List TableName) (a b : State) : Type 0 where
  pub lives : Survives a b (WaitsAt no_schema a)
  pub stays : HasCleanDisk b → Stays {X = Unit {0}} {E = Fault} a b (Ok tt)
  pub reaches : HasCleanDisk b → IsBare no_schema a.now → (s : Schema) × Completing s rest × HasMade s a b

-- ---- before the first

pub none_made : (rest : List TableName) (a : State) → Completing no_schema rest → IsAt rest a a
none_made rest a all = record {
  lives = record {
    clean = omega arith;
    shield = λ h. h;
    counts = omega arith;
    limit = refl;
    closes = λ clean h. inl h;
    crash = λ clean db left. inl left;
  };
  stays = λ clean inside. (record { was_open = λ h. h; committed = λ h. refl }, refl);
  reaches = λ clean bare. (
    no_schema,
    all,
    record {
      is_open = refl;
      bare = bare;
      mode = refl;
      marks = refl;
      last = λ e. absurd (let wrong : 0 ≡ 7 = ap (λ (t : Schema). length t.tables) e in cc);
    },
  );
}

-- ---- one more table

more_made : (s : Schema) (table : Table) (a b c : State) → HasMade s a b → Grown b c s table
    → HasMade (created s table) a c
more_made s table a b c h p = record {
  is_open = p.is_open ∙ sym p.was_open ∙ h.is_open;
  bare = bare_then s table b c p h.bare;
  mode = p.mode ∙ h.mode;
  marks = p.marks ∙ h.marks;
  last = λ all. (
    p.is_open,
    p.sound,
    λ outside. subst (λ t. c.committed ≡ (if t then b.committed else c.now)) (h.mode ∙ outside) p.committed,
  );
}

module _ (names : List TableName) (i : ℕ) (first : TableName) (inside : i < length names) (a b c : State)
    (at : IsAt (drop i names) a b) (lives : Survives b c (WaitsAt (before (get_or names i first)) b)) where
  abbrev name : TableName
  name = get_or names i first

  abbrev rest : List TableName
  rest = drop (i + 1) names

  -- the tables before this one exist, if the database was bare at the beginning
  at_before : HasCleanDisk c → IsBare no_schema a.now → HasMade (before name) a b
      × Completing (created (before name) (created_table name)) rest
  at_before clean bare =
      let r = at.reaches (omega (arith, lives.clean)) bare in
      let next = subst (Completing r.0) (drop_more names i first inside) r.1 in
      let same = sym next.0 in (
        subst (λ s. HasMade s a b) same r.2,
        subst (λ s. Completing (created s (created_table name)) rest) same next.1,
      )

  pub still_lives : Survives a c (WaitsAt no_schema a)
  still_lives =
      survives_then a b c (WaitsAt no_schema a) (WaitsAt (before name) b) (WaitsAt no_schema a) (λ clean db h. h)
      (λ clean db h has. let it = (at_before clean (has, tt)).0 in sym it.mode ∙ h it.bare.0) at.lives lives

  -- the table is created
  pub one_more : (HasCleanDisk c → b.now.schema ≡ before name → Grown b c (before name) (created_table name))
      → (HasCleanDisk c → Stays {X = Unit {0}} {E = Fault} b c (Ok (tt {0}))) → IsAt rest a c
  one_more grows stays = record {
    lives = still_lives;
    stays = λ clean. stays_then {X = Unit {0}} {E = Fault} a b c tt (Ok (tt {0}))
        (at.stays (omega (arith, lives.clean))) (stays clean);
    reaches = λ clean bare.
        let r = at_before clean bare in (
          created (before name) (created_table name),
          r.1,
          more_made (before name) (created_table name) a b c r.0 (grows clean r.0.bare.0),
        );
  }

  -- it isn't created, and what was committed before all of them stays
  pub none_committed : (f : Fault) → (HasCleanDisk c → Stays {X = Unit {0}} b c (Err f))
      → HasCleanDisk c → Stays {X = Unit {0}} a c (Err f)
  none_committed f stays clean =
      stays_then {X = Unit {0}} {Y = Unit {0}} a b c tt (Err f) (at.stays (omega (arith, lives.clean))) (stays clean)

  -- why it isn't created
  pub none_more : (f : Fault) → (HasCleanDisk c → b.now.schema ≡ before name → HasCause b c f)
      → HasCleanDisk c → IsBare no_schema a.now → HasCause a c f
  none_more f cause clean bare =
      let it = (at_before clean bare).0 in
      cause_since a b c f (WaitsAt no_schema a) at.lives (λ shut. sym it.is_open ∙ shut) (cause clean it.bare.0)

-- ---- after the last

settled : (b : Bool) {X : Type 0} (was now shown : X) → (IsTrue b → shown ≡ was) → (b ≡ false → shown ≡ now)
    → shown ≡ (if b then was else now)
settled true was now shown inside outside = inside refl
settled false was now shown inside outside = outside refl

pub completed : (a b : State) → IsAt [] a b → HasCleanDisk b → IsBare no_schema a.now → Steps a b no_contents
completed a b at clean bare =
    let r = at.reaches clean bare in
    let h = subst (λ s. HasMade s a b) r.1 r.2 in
    let end = h.last refl in
    let all = h.bare.1 in
    record {
      was_open = sym h.is_open ∙ end.0;
      is_open = end.0;
      means = record {
        schema = h.bare.0;
        kept = record {
          sound = subst (λ s. IsSound s b.now.trees) h.bare.0 end.1;
          holds = record {
            offices = lists_none office_cells office_places (b.now.trees 0) all.0;
            departments = lists_none department_cells department_places (b.now.trees 1) all.1.0;
            departments_numbered = rw all.1.0 tt;
            certs = lists_none cert_cells cert_places (b.now.trees 3) all.1.1.0;
            requests = lists_none request_cells request_places (b.now.trees 4) all.1.1.1.0;
            requests_numbered = rw all.1.1.1.0 tt;
            runs = lists_none run_cells run_places (b.now.trees 6) all.1.1.1.1.0;
            revoked = lists_none key_id_cells key_id_places (b.now.trees 7) all.1.1.1.1.1.0;
            revoked_numbered = rw all.1.1.1.1.1.0 tt;
            cas = lists_none ca_cells ca_places (b.now.trees 9) all.1.1.1.1.1.1.0;
          };
        };
      };
      committed = settled a.in_transaction a.committed b.now b.committed
          (λ inside. (at.stays clean inside).0.committed end.0) end.2;
      mode = h.mode;
      marks = h.marks;
    }

-- the table of CAs next to the others
pub adds_ca : {X : Type 0} (a b : State) (r : Result X Fault) → Creates without_ca ca a b r → AddsCa a b r
adds_ca a b (Err e) one = one
adds_ca a b (Ok x) one = λ c means.
    let p = one means.schema in
    let o = p.others in
    let h = means.holds in
    record {
      was_open = p.was_open;
      is_open = p.is_open;
      means = record {
        schema = p.schema;
        kept = record {
          sound = subst (λ s. IsSound s b.now.trees) p.schema p.sound;
          holds = record {
            offices = rw o.0 h.offices;
            departments = rw o.1.0 h.departments;
            departments_numbered = rw o.1.0 h.departments_numbered;
            certs = rw o.1.1.0 h.certs;
            requests = rw o.1.1.1.0 h.requests;
            requests_numbered = rw o.1.1.1.0 h.requests_numbered;
            runs = rw o.1.1.1.1.0 h.runs;
            revoked = rw o.1.1.1.1.1.0 h.revoked;
            revoked_numbered = rw o.1.1.1.1.1.0 h.revoked_numbered;
            cas = rw p.empty h.cas;
          };
        };
      };
      committed = p.committed;
      mode = p.mode;
      marks = p.marks;
    }
