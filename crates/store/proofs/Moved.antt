-- From the whole transaction to the contract of a migration.
use Rattle.store.proofs.Words.{Arrival, Contents, Database, Ends, Err, Had, Has, HasStopped, Judges, List, Ok, Opening}
use Rattle.store.proofs.Words.{Rests, Result, Schema, StoreFault, ap, false, former_contents, is_ca_name}
use Rattle.store.proofs.Words.{is_office_table, list_any, migrated, subst, sym, true, ◌∙◌, ◌≡◌}
use Rattle.sqlite.specs.State.{State}
use Rattle.store_sql.specs.Look.{former_has_no_ca, former_is_office}
use Rattle.store.specs.Former.{TellsBefore}
use Rattle.store.specs.Migrating.{Carries, Migrates}
use Rattle.store.proofs.OneCa.{former_migrated}
use Rattle.store.proofs.Judging.{excused}

pub migrates : (old new : State) (r : Result (Unit {0}) StoreFault)
    → Ends Had (λ (_ : Contents) (_ : Unit {0}). Unit {0}) migrated old new r → Migrates old new r
migrates old new (Ok x) h = (h.0, h.1, λ c rests. (h.2 c rests).1)
migrates old new (Err e) h = h

pub carries : (old new : State) (r : Result (Unit {0}) StoreFault) → Migrates old new r
    → ((c : Contents) → Rests (Had c) old → Judges c (HasStopped c old new) r)
    → (o : Opening) (l : List Arrival) → TellsBefore old o l → Carries old new o l r
carries old new (Ok x) h judges o l tells = (
  h.1,
  subst (λ c. Rests (Has c) new) (former_migrated o l tells.plain) (h.2 (former_contents o l) (tells.rows h.0)),
)
carries old new (Err e) h judges o l tells = (
  record { plain = tells.plain; rows = λ still. let k = h still in k.1 (former_contents o l) (tells.rows k.0) },
  λ was. excused o l (HasStopped (former_contents o l) old new) e (judges (former_contents o l) (tells.rows was)),
)

-- ---- tables of schema 1 are those of an office, without the table of CAs

pub office_seen : (db : Database) (c : Contents) → list_any is_office_table db.schema.tables ≡ false → Had c db → ⊥
office_seen db c unseen had =
    let wrong : true ≡ false = sym former_is_office
    ∙ (ap (λ (s : Schema). list_any is_office_table s.tables) (sym had.schema) ∙ unseen) in cc

pub cas_unseen : (db : Database) (c : Contents) → list_any is_ca_name db.schema.tables ≡ true → Had c db → ⊥
cas_unseen db c seen had =
    let wrong : false ≡ true = sym former_has_no_ca
    ∙ (ap (λ (s : Schema). list_any is_ca_name s.tables) (sym had.schema) ∙ seen) in cc

-- if the tables are not those of schema 1, the claim about an open connection is empty
pub not_carried : (s : State) (e : StoreFault) → ((c : Contents) → Had c s.now → ⊥) → (o : Opening) (l : List Arrival)
    → TellsBefore s o l → Carries s s o l (Err e)
not_carried s e none o l tells = (tells, λ was. absurd (none (former_contents o l) (tells.rows was).now))
