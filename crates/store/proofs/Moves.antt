-- The tables between the parts of the transaction.
use Rattle.store.proofs.Words.{CaRow, Contents, Err, Fault, Goes, Had, Has, HasNoCa, IsUnchanged, List, Makes, Means}
use Rattle.store.proofs.Words.{MeansWithoutCa, OfficeRow, Ok, Result, Stays, Steps, Survives, Waits, WaitsAt, ca_of}
use Rattle.store.proofs.Words.{migrated, subst, survives_weaker, told, with_ca_row, with_schema, without_ca, ◌∙◌, ◌≡◌}
use Rattle.std.specs.Prelude.{IsPermutation}
use Rattle.sqlite.specs.State.{State}
use Rattle.store.proofs.Steps.{Leads, goes, goes_still, goes_then, stops_then}
use Rattle.store.proofs.Contents.{ca_same, no_cas, put_in}

-- the rows were read, and then CA 1 and the schema number are written
pub filled : (a b d : State) (rows : List OfficeRow) (ca : CaRow) (r : Result (Unit {0}) Fault)
    → ((c : Contents) → Means a.now c → IsUnchanged a b × IsPermutation c.offices rows) → ca_of rows ≡ Ok ca
    → Makes Has (λ c. with_schema 2 (with_ca_row ca c)) b d r → Makes HasNoCa migrated a d (told r)
filled a b d rows ca (Ok x) found is put = λ c before.
    let f = found c before.0 in
    let g = goes_still a b c f.0 before.0 in
    let due : ca_of c.offices ≡ Ok ca = ca_same c.offices rows f.1 ∙ is in (
      tt,
      subst (Goes a d) (put_in c ca due before.1)
          (goes_then a b d c (with_schema 2 (with_ca_row ca c)) g (put c g.means).1),
    )
filled a b d rows ca (Err e) found is put = λ c before.
    let g = goes_still a b c (found c before.0).0 before.0 in stops_then a b d c g (put c g.means)

-- the table of CAs is made, and has no row
pub made_leads : (a b : State) → ((c : Contents) → MeansWithoutCa a.now c → Steps a b c)
    → Leads Had HasNoCa (λ c. c) a b
made_leads a b made c before = let s = goes a b c (made c before) in (c, s, (s.means, no_cas a.now c before))

pub made_waits : (a b : State) → Survives a b (WaitsAt without_ca a) → Survives a b (Waits Had a)
made_waits a b one =
    survives_weaker a b (WaitsAt without_ca a) (Waits Had a) (λ clean trees h c before. h before.schema) one

-- a call's effect, with its fault as the register's
pub stays_told : (old new : State) (r : Result (Unit {0}) Fault) → Stays old new r → Stays old new (told r)
stays_told old new (Ok x) stays = stays
stays_told old new (Err f) stays = stays
