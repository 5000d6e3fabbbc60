-- What a job does is what its run was asked to do.
use Rattle.office_jobs.proofs.Words.{All, Appends, AppendsBeginning, Applies, Arrival, Asked, Asks, AsksExchanges, AsksOffice}
use Rattle.office_jobs.proofs.Words.{AsksServing, DoesOfficeJob, Err, Exchange, Given, HasCleanDisk, Heard, IsBlank}
use Rattle.office_jobs.proofs.Words.{IsReport, IsTrue, IsUnmade, JobFault, KeepsTelling, List, PrintsKrl, MakesOffice}
use Rattle.office_jobs.proofs.Words.{MigratesOffice, None, OfficeJob, Ok, Opening, Option, PlainText, Result}
use Rattle.office_jobs.proofs.Words.{RevocationList, ServesOffice, Signers, State, StoreFault, Stores, Table, Tells, [], ap}
use Rattle.office_jobs.proofs.Words.{arith, codes, false, get, inl, inr, is_office_table, list_any, refl, response_text}
use Rattle.office_jobs.proofs.Words.{subst, sym, ℕ, ◌∷◌, ◌≡◌, ◌≢◌}
use Rattle.std.proofs.Common.{map, zero, suc}
use Rattle.sqlite.specs.Tree.{Trees}
use Rattle.store_sql.proofs.Words.{Schema}
use Rattle.http_requests.specs.declared.resource.Resource.{Resource}
use Rattle.http_requests.specs.declared.response.MediaType.{MediaType}
use Rattle.http_requests.specs.declared.response.MediaType.TheVariants.{Bytes}
use Rattle.office.specs.declared.store_fault.StoreFault.TheVariants.{NotAnOffice}
use Rattle.office.specs.Openings.{IsOpening}
use Rattle.office.specs.History.{state}
use Rattle.store_sql.specs.Contents.{Kept}
use Rattle.store_sql.specs.Look.{none_is_office}
use Rattle.store.specs.Rows.{office_contents}
use Rattle.store.specs.Meaning.{IsHistory}
use Rattle.web.specs.declared.exchange.Given.TheVariants as given
use Rattle.web.specs.Answers.{MayList, resource_response}
use Rattle.web.specs.Runs.{AllDue}
use Rattle.headline.specs.Headline.{IsListOf}
use Rattle.restart.specs.Runs.{Does as DoesAsked, IsUnfounded}
use Rattle.office_jobs.specs.declared.job.OfficeJob.TheVariants as job
use Rattle.office_jobs.specs.declared.job_fault.JobFault.TheVariants as fault
use Rattle.office_jobs.specs.declared.reporting.Report.TheVariants as report
use Rattle.office_jobs.specs.Asked.{AsksResource, IsGiven, IsIdle, IsShown, asked_in_visits}
use Rattle.office_jobs.specs.Asked.{founding_asked, nothing_asked}
use Rattle.office_jobs.specs.Faults.{IsOfOpening}
use Rattle.office_jobs.specs.Jobs.{IsLawfulJob, IsMaking}
use Rattle.office_jobs.proofs.Asking.{asks_list, asks_signers, asks_table}

-- ---- exchanges that were not run

all_faults : List Exchange → List Given
all_faults [] = []
all_faults (x ∷ xs) = given.Fault ∷ all_faults xs

faults_are_due : (o : Opening) (l : List Arrival) (exchanges : List Exchange)
    → AllDue o l exchanges (all_faults exchanges) l
unfolding all_faults
faults_are_due o l [] = refl
faults_are_due o l (x ∷ xs) = faults_are_due o l xs

none_given : (exchanges : List Exchange) → All (λ g. g ≡ given.Fault) (all_faults exchanges)
unfolding all_faults
none_given [] k d within = absurd (omega (arith, within))
none_given (x ∷ xs) zero d within = refl
none_given (x ∷ xs) (suc k) d within = none_given xs k d (omega (arith, within))

-- they are as many faults as exchanges
faults_for : (exchanges : List Exchange) → all_faults exchanges ≡ map (λ _. given.Fault) exchanges
unfolding all_faults
faults_for [] = refl
faults_for (x ∷ xs) = ap (λ (gs : List Given). given.Fault ∷ gs) (faults_for xs)

one_fault : (x : Exchange) → all_faults (x ∷ []) ≡ given.Fault ∷ []
unfolding all_faults
one_fault x = refl

-- the requests whose response is printed
abbrev get_by : List ℕ → Exchange
get_by request = record { request = request; moment = 0; nonce = [] }

abbrev list_get : Exchange
list_get = get_by (codes "GET /v1/krl HTTP/1.1\r\n\r\n")

abbrev signers_get : Exchange
signers_get = get_by (codes "GET /v1/signers HTTP/1.1\r\n\r\n")

abbrev table_get : Exchange
table_get = get_by (codes "GET /v1/table HTTP/1.1\r\n\r\n")

nothing_given : All (λ (g : Given). g ≡ given.Fault) []
nothing_given k d within = absurd (omega (arith, within))

-- ---- a database that wasn't opened

-- a fault of opening is one with which nothing was given, and nothing printed
unopened_given : (es : List Exchange) (held : Option (List ℕ)) (e : JobFault) → IsOfOpening e
    → IsGiven held held (Err e) (record { founds = None; exchanges = es; given = all_faults es })
unopened_given es held fault.NoMemory h = (none_given es, refl)
unopened_given es held (fault.Store e) h = (none_given es, refl)
unopened_given es held other h = absurd h

unopened_shown : (media : MediaType) (x : Exchange) (held : Option (List ℕ)) (e : JobFault) → IsOfOpening e
    → IsShown media held held (Err e) (all_faults (x ∷ []))
unopened_shown media x held fault.NoMemory h = (one_fault x, refl)
unopened_shown media x held (fault.Store e) h = (one_fault x, refl)
unopened_shown media x held other h = absurd h

abbrev Unshown : Resource → MediaType → (held : Option (List ℕ)) → JobFault → Type 0
Unshown resource media held e = (asked : Asked) × AsksResource resource media held held (Err e) asked × IsIdle asked

unopened_get : (resource : Resource) (media : MediaType) (x : Exchange) → Asks x.request (get resource)
    → (held : Option (List ℕ)) (e : JobFault) → IsOfOpening e → Unshown resource media held e
unopened_get resource media x asks held e h = (
  record { founds = None; exchanges = x ∷ []; given = all_faults (x ∷ []) },
  record { founds = refl; get_of = x; asks = asks; one = refl; shown = unopened_shown media x held e h },
  faults_for (x ∷ []),
)

-- what a job asked that didn't open its database
pub unopened_asked : (job : OfficeJob) (held : Option (List ℕ)) (e : JobFault) → IsOfOpening e
    → (asked : Asked) × AsksOffice job held held (Err e) asked × IsIdle asked
unopened_asked (job.Init opening) held e h = (founding_asked opening.now, refl, refl)
unopened_asked (job.Apply exchanges) held e h = (
  record { founds = None; exchanges = exchanges.now; given = all_faults exchanges.now },
  record { founds = refl; are_its = refl; given = unopened_given exchanges.now held e h },
  faults_for exchanges.now,
)
unopened_asked job.Krl held e h = unopened_get RevocationList Bytes list_get asks_list held e h
unopened_asked job.Signers held e h = unopened_get Signers PlainText signers_get asks_signers held e h
unopened_asked job.Table held e h = unopened_get Table PlainText table_get asks_table held e h
unopened_asked job.Migrate held e h = (nothing_asked, refl, refl)

-- ---- a database without tables

no_office : (old : State) → IsBlank old → list_any is_office_table old.now.schema.tables ≡ false
no_office old blank =
    subst (λ (s : Schema). list_any is_office_table s.tables ≡ false) (sym blank.now.0) none_is_office

same_is_unfounded : (founds : Option Opening) (old new : State) → new ≡ old → IsUnfounded founds old new
same_is_unfounded founds old new same = subst (λ (s : State). IsUnfounded founds old s) (sym same) (record {
  before = record { was_open = λ is. is; rest = λ _ rests. rests; same = λ _ _. refl };
  crash = λ trees may. inl may;
})

-- the empty history is a history of an office
first_history : (o : Opening) → IsOpening o → IsHistory o []
first_history o lawful = record {
  office = record { opening = lawful; version = omega arith };
  nonces = tt;
}

-- ---- each job

-- What a run does: an existing office stays, with the arrivals of what the run was asked. A database without tables is
-- refused.
module _ (old new : State) where
  -- if there is no office, the job is refused
  abbrev pub Refuses : {A : Type 0} → Result A JobFault → Type 1
  Refuses r =
      list_any is_office_table old.now.schema.tables ≡ false → (r ≡ Err (fault.Store NotAnOffice)) × (new ≡ old)

  stays : {A : Type 0} (r : Result A JobFault) → Refuses r → KeepsTelling old new → DoesAsked nothing_asked old new
  stays r refuses tells = record {
    office = λ o l told. (l, refl, tells o l told);
    none = λ blank. (nothing_given, inr (same_is_unfounded None old new (refuses (no_office old blank)).1));
  }

  -- a job that was done was done in an office
  not_blank : {A : Type 0} (x : A) → Refuses (Ok x) → (B : Type 0) → IsBlank old → B
  not_blank x refuses B blank = absurd (let none = (refuses (no_office old blank)).0 in cc)

  not_faulted : {A : Type 0} (e : JobFault) → e ≢ fault.Store NotAnOffice → Refuses {A = A} (Err e) → (B : Type 0)
      → IsBlank old → B
  not_faulted e other refuses B blank = absurd (let none = (refuses (no_office old blank)).0 in other cc)

  -- ---- exchanges

  ran : (exchanges : List Exchange) (given : List Given)
      → ((o : Opening) (l : List Arrival) → Tells old o l → (last : List Arrival) × AllDue o l exchanges given last
      × Tells new o last)
      → ((B : Type 0) → IsBlank old → B)
      → DoesAsked (record { founds = None; exchanges = exchanges; given = given }) old new
  ran exchanges given served never = record { office = served; none = λ blank. never _ blank }

  unrun : (exchanges : List Exchange) (r : Result (Unit {0}) JobFault) → Refuses r → KeepsTelling old new
      → DoesAsked (record { founds = None; exchanges = exchanges; given = all_faults exchanges }) old new
  unrun exchanges r refuses tells = record {
    office = λ o l told. (l, faults_are_due o l exchanges, tells o l told);
    none = λ blank.
        (none_given exchanges, inr (same_is_unfounded None old new (refuses (no_office old blank)).1));
  }

  abbrev pub DidApply : List Exchange → (held holds : Option (List ℕ)) → Result (Unit {0}) JobFault → Type 0
  DidApply exchanges held holds r =
      (asked : Asked) × AsksExchanges exchanges held holds r asked × DoesAsked asked old new

  applied : (exchanges : List Exchange) (held holds : Option (List ℕ)) (r : Result (Unit {0}) JobFault) → Refuses r
      → Applies exchanges old new held holds r → DidApply exchanges held holds r
  applied es held holds (Ok done) refuses h = (
    record { founds = None; exchanges = es; given = h.prints.given },
    record { founds = refl; are_its = refl; given = (h.prints.printed, h.prints.faults) },
    ran es h.prints.given (λ o l told. let s = h.prints.serves o l told in (s.0, s.1, s.2)) (not_blank done refuses),
  )
  applied es held holds (Err fault.Fault) refuses h = (
    record { founds = None; exchanges = es; given = h.prints.given },
    record { founds = refl; are_its = refl; given = (h.prints.printed, h.prints.faults) },
    ran es h.prints.given (λ o l told. let s = h.prints.serves o l told in (s.0, s.1, s.2))
        (not_faulted fault.Fault (λ same. cc) refuses),
  )
  applied es held holds (Err fault.Write) refuses h = (
    record { founds = None; exchanges = es; given = h.prints.given },
    record { founds = refl; are_its = refl; given = h.prints.printed },
    ran es h.prints.given (λ o l told. let s = h.prints.serves o l told in (s.0, s.1, s.2))
        (not_faulted fault.Write (λ same. cc) refuses),
  )
  applied es held holds (Err fault.NoMemory) refuses h = (
    record { founds = None; exchanges = es; given = all_faults es },
    record { founds = refl; are_its = refl; given = (none_given es, h.1.unprinted) },
    unrun es (Err fault.NoMemory) refuses h.1.tells,
  )
  applied es held holds (Err (fault.Store e)) refuses h = (
    record { founds = None; exchanges = es; given = all_faults es },
    record { founds = refl; are_its = refl; given = (none_given es, h.1) },
    unrun es (Err (fault.Store e)) refuses h.0.tells,
  )
  applied es held holds (Err fault.File) refuses h = absurd h
  applied es held holds (Err fault.Socket) refuses h = absurd h
  applied es held holds (Err (fault.Connection x)) refuses h = absurd h
  applied es held holds (Err fault.Mismatch) refuses h = absurd h
  applied es held holds (Err (fault.BadExchange k)) refuses h = absurd h
  applied es held holds (Err (fault.Line x)) refuses h = absurd h
  applied es held holds (Err (fault.Opening x)) refuses h = absurd h
  applied es held holds (Err (fault.List x)) refuses h = absurd h

  -- ---- readings, which leave the tables' history as it was

  -- the GET of a resource, and its response or fault
  abbrev pub Shown : Resource → MediaType → (held holds : Option (List ℕ)) → Result (Unit {0}) JobFault → Type 0
  Shown resource media held holds r =
      (asked : Asked) × AsksResource resource media held holds r asked × DoesAsked asked old new

  module _ (resource : Resource) (media : MediaType) (x : Exchange) (asks : Asks x.request (get resource)) where
    -- a response with this body
    showed : (done : Unit {0}) (held holds : Option (List ℕ)) (body : List ℕ) → Appends held holds body
        → Refuses (Ok done)
        → ((o : Opening) (l : List Arrival) → Tells old o l
        → (response_text 200 media body ≡ resource_response (state o l) resource)
        × (get resource ≡ get RevocationList → MayList o l) × Tells new o l)
        → Shown resource media held holds (Ok done)
    showed done held holds body printed refuses is =
        let gave : List Given = given.Answer (response_text 200 media body) ∷ [] in (
          record { founds = None; exchanges = x ∷ []; given = gave },
          record { founds = refl; get_of = x; asks = asks; one = refl; shown = (body, printed, refl) },
          ran (x ∷ []) gave
              (λ o l told. let due = is o l told in (l, (get resource, asks, due.0, due.1, refl), due.2))
              (not_blank done refuses),
        )

    -- the same, with a beginning of the body printed
    showed_part : (held holds : Option (List ℕ)) (body : List ℕ) → AppendsBeginning held holds body
        → Refuses {A = Unit {0}} (Err fault.Write)
        → ((o : Opening) (l : List Arrival) → Tells old o l
        → (response_text 200 media body ≡ resource_response (state o l) resource)
        × (get resource ≡ get RevocationList → MayList o l) × Tells new o l)
        → Shown resource media held holds (Err fault.Write)
    showed_part held holds body printed refuses is =
        let gave : List Given = given.Answer (response_text 200 media body) ∷ [] in (
          record { founds = None; exchanges = x ∷ []; given = gave },
          record { founds = refl; get_of = x; asks = asks; one = refl; shown = (body, printed, refl) },
          ran (x ∷ []) gave
              (λ o l told. let due = is o l told in (l, (get resource, asks, due.0, due.1, refl), due.2))
              (not_faulted fault.Write (λ same. cc) refuses),
        )

    -- a fault
    unshown : (r : Result (Unit {0}) JobFault) (held holds : Option (List ℕ)) → Refuses r → KeepsTelling old new
        → IsShown media held holds r (all_faults (x ∷ [])) → Shown resource media held holds r
    unshown r held holds refuses tells shown = (
      record { founds = None; exchanges = x ∷ []; given = all_faults (x ∷ []) },
      record { founds = refl; get_of = x; asks = asks; one = refl; shown = shown },
      unrun (x ∷ []) r refuses tells,
    )

  -- the list is the body of the response
  list_shown : (bytes : List ℕ) → IsListOf old bytes
      → ((o : Opening) (l : List Arrival) → Tells old o l → Stores new o l) → (o : Opening) (l : List Arrival)
      → Tells old o l
      → (response_text 200 Bytes bytes ≡ resource_response (state o l) RevocationList)
      × (get RevocationList ≡ get RevocationList → MayList o l) × Tells new o l
  list_shown bytes is kept o l told =
      let it = is.list o l told in (
        ap (response_text 200 Bytes) it.same,
        λ _. record { office = told.history.office; fits = it.fits },
        (kept o l told).tells,
      )

  listed : (held holds : Option (List ℕ)) (r : Result (Unit {0}) JobFault) → Refuses r → PrintsKrl old new held holds r
      → Shown RevocationList Bytes held holds r
  listed held holds (Ok done) refuses h =
      showed RevocationList Bytes list_get asks_list done held holds h.1.0 h.1.1 refuses
      (list_shown h.1.0 h.1.2 h.1.3)
  listed held holds (Err fault.Write) refuses h =
      showed_part RevocationList Bytes list_get asks_list held holds h.1.0 h.1.1 refuses
      (list_shown h.1.0 h.1.2 h.1.3)
  listed held holds (Err fault.NoMemory) refuses h =
      unshown RevocationList Bytes list_get asks_list (Err fault.NoMemory) held holds refuses h.1.tells
      (one_fault list_get, h.1.unprinted)
  listed held holds (Err (fault.Store e)) refuses h =
      unshown RevocationList Bytes list_get asks_list (Err (fault.Store e)) held holds refuses h.1.tells
      (one_fault list_get, h.1.unprinted)
  listed held holds (Err fault.File) refuses h = absurd h
  listed held holds (Err fault.Socket) refuses h = absurd h
  listed held holds (Err (fault.Connection x)) refuses h = absurd h
  listed held holds (Err fault.Mismatch) refuses h = absurd h
  listed held holds (Err (fault.BadExchange k)) refuses h = absurd h
  listed held holds (Err (fault.Line x)) refuses h = absurd h
  listed held holds (Err (fault.Opening x)) refuses h = absurd h
  listed held holds (Err (fault.List x)) refuses h = absurd h
  listed held holds (Err fault.Fault) refuses h = absurd h

  signers_shown : (held holds : Option (List ℕ)) (r : Result (Unit {0}) JobFault) → Refuses r
      → IsReport report.Signers old new held holds r → Shown Signers PlainText held holds r
  signers_shown held holds (Ok done) refuses h =
      showed Signers PlainText signers_get asks_signers done held holds h.0 h.1 refuses (λ o l told.
      let is = h.2.is o l told in (ap (response_text 200 PlainText) is.0, λ other. absurd (cc), is.1.tells))
  signers_shown held holds (Err fault.Write) refuses h =
      showed_part Signers PlainText signers_get asks_signers held holds h.0 h.1 refuses (λ o l told.
      let is = h.2.is o l told in (ap (response_text 200 PlainText) is.0, λ other. absurd (cc), is.1.tells))
  signers_shown held holds (Err fault.NoMemory) refuses h =
      unshown Signers PlainText signers_get asks_signers (Err fault.NoMemory) held holds refuses h.tells
      (one_fault signers_get, h.unprinted)
  signers_shown held holds (Err (fault.Store e)) refuses h =
      unshown Signers PlainText signers_get asks_signers (Err (fault.Store e)) held holds refuses h.tells
      (one_fault signers_get, h.unprinted)
  signers_shown held holds (Err fault.File) refuses h = absurd h
  signers_shown held holds (Err fault.Socket) refuses h = absurd h
  signers_shown held holds (Err (fault.Connection x)) refuses h = absurd h
  signers_shown held holds (Err fault.Mismatch) refuses h = absurd h
  signers_shown held holds (Err (fault.BadExchange k)) refuses h = absurd h
  signers_shown held holds (Err (fault.Line x)) refuses h = absurd h
  signers_shown held holds (Err (fault.Opening x)) refuses h = absurd h
  signers_shown held holds (Err (fault.List x)) refuses h = absurd h
  signers_shown held holds (Err fault.Fault) refuses h = absurd h

  table_shown : (held holds : Option (List ℕ)) (r : Result (Unit {0}) JobFault) → Refuses r
      → IsReport report.Table old new held holds r → Shown Table PlainText held holds r
  table_shown held holds (Ok done) refuses h =
      showed Table PlainText table_get asks_table done held holds h.0 h.1 refuses (λ o l told.
      let is = h.2.is o l told in (ap (response_text 200 PlainText) is.0, λ other. absurd (cc), is.1.tells))
  table_shown held holds (Err fault.Write) refuses h =
      showed_part Table PlainText table_get asks_table held holds h.0 h.1 refuses (λ o l told.
      let is = h.2.is o l told in (ap (response_text 200 PlainText) is.0, λ other. absurd (cc), is.1.tells))
  table_shown held holds (Err fault.NoMemory) refuses h =
      unshown Table PlainText table_get asks_table (Err fault.NoMemory) held holds refuses h.tells
      (one_fault table_get, h.unprinted)
  table_shown held holds (Err (fault.Store e)) refuses h =
      unshown Table PlainText table_get asks_table (Err (fault.Store e)) held holds refuses h.tells
      (one_fault table_get, h.unprinted)
  table_shown held holds (Err fault.File) refuses h = absurd h
  table_shown held holds (Err fault.Socket) refuses h = absurd h
  table_shown held holds (Err (fault.Connection x)) refuses h = absurd h
  table_shown held holds (Err fault.Mismatch) refuses h = absurd h
  table_shown held holds (Err (fault.BadExchange k)) refuses h = absurd h
  table_shown held holds (Err (fault.Line x)) refuses h = absurd h
  table_shown held holds (Err (fault.Opening x)) refuses h = absurd h
  table_shown held holds (Err (fault.List x)) refuses h = absurd h
  table_shown held holds (Err fault.Fault) refuses h = absurd h

  -- ---- migrated tables

  moved : IsTrue old.is_open → (r : Result (Unit {0}) JobFault) → MigratesOffice old new r → KeepsTelling old new
  moved was (Ok done) h = λ o l told. absurd (h.unlike (told.rows was).now.schema)
  moved was (Err fault.NoMemory) h = h.tells
  moved was (Err (fault.Store e)) h = h.tells
  moved was (Err fault.File) h = absurd h
  moved was (Err fault.Write) h = absurd h
  moved was (Err fault.Socket) h = absurd h
  moved was (Err (fault.Connection x)) h = absurd h
  moved was (Err fault.Mismatch) h = absurd h
  moved was (Err (fault.BadExchange k)) h = absurd h
  moved was (Err (fault.Line x)) h = absurd h
  moved was (Err (fault.Opening x)) h = absurd h
  moved was (Err (fault.List x)) h = absurd h
  moved was (Err fault.Fault) h = absurd h

  -- ---- an office that is made

  module _ (clean : HasCleanDisk new) (was : IsTrue old.is_open)
      (settled : (trees : Trees) → IsTrue new.is_open → new.may_leave trees → trees ≡ new.committed.trees)
      (opening : Opening) (lawful : IsOpening opening) where
    unmade : (e : StoreFault) → IsUnmade opening old new e → DoesAsked (founding_asked opening) old new
    unmade e h = record {
      office = λ o l told. (l, refl, h.tells o l told);
      none = λ blank. (
        nothing_given,
        inr (record {
          before = h.before;
          crash = λ trees may. elim (h.crash.crash clean trees may) [
            | inl before ↦ inl before
            | inr whole ↦ inr (opening, refl, first_history opening lawful, whole.1 tt blank)
          ];
        }),
      );
    }

    founded : (r : Result (Unit {0}) JobFault) → MakesOffice opening old new r → DoesAsked (founding_asked opening) old new
    founded (Ok done) h = record {
      office = λ o l told. absurd (h.unlike (told.rows was).now.schema);
      none = λ blank. (
        nothing_given,
        inl (
          opening,
          refl,
          record {
            tells = h.made blank;
            is_open = h.is_open;
            crash = λ trees may. subst (λ (t : Trees). Kept t (office_contents opening []))
                (sym (settled trees h.is_open may)) ((h.made blank).rows h.is_open).committed.kept;
          },
        ),
      );
    }
    founded (Err fault.NoMemory) h = unmade _ h
    founded (Err (fault.Store e)) h = unmade e h
    founded (Err fault.File) h = absurd h
    founded (Err fault.Write) h = absurd h
    founded (Err fault.Socket) h = absurd h
    founded (Err (fault.Connection x)) h = absurd h
    founded (Err fault.Mismatch) h = absurd h
    founded (Err (fault.BadExchange k)) h = absurd h
    founded (Err (fault.Line x)) h = absurd h
    founded (Err (fault.Opening x)) h = absurd h
    founded (Err (fault.List x)) h = absurd h
    founded (Err fault.Fault) h = absurd h

  -- ---- any of them

  abbrev pub Did : OfficeJob → (held holds : Option (List ℕ)) → Result (Unit {0}) JobFault → Type 0
  Did job held holds r = (asked : Asked) × AsksOffice job held holds r asked × DoesAsked asked old new

  module _ (clean : HasCleanDisk new) (was : IsTrue old.is_open)
      (settled : (trees : Trees) → IsTrue new.is_open → new.may_leave trees → trees ≡ new.committed.trees) where
    pub does_asked : (job : OfficeJob) (held holds : Option (List ℕ)) (r : Result (Unit {0}) JobFault) → IsLawfulJob job
        → ((IsMaking job → ⊥) → Refuses r) → DoesOfficeJob job old new held holds r → Did job held holds r
    does_asked (job.Init opening) held holds r lawful refuses h =
        (founding_asked opening.now, refl, founded clean was settled opening.now lawful r h.0)
    does_asked (job.Apply exchanges) held holds r lawful refuses h =
        applied exchanges.now held holds r (refuses (λ making. making)) h.applies
    does_asked job.Krl held holds r lawful refuses h = listed held holds r (refuses (λ making. making)) h
    does_asked job.Signers held holds r lawful refuses h =
        signers_shown held holds r (refuses (λ making. making)) h.came
    does_asked job.Table held holds r lawful refuses h = table_shown held holds r (refuses (λ making. making)) h.came
    does_asked job.Migrate held holds r lawful refuses h =
        (nothing_asked, refl, stays r (refuses (λ making. making)) (moved was r h.0))

  -- ---- a server

  abbrev pub DidServe : (connections : ℕ) → (nonces : Option (List ℕ)) → Heard → Result ℕ JobFault → Type 0
  DidServe connections nonces heard r =
      (asked : Asked) × AsksServing connections nonces heard r asked × DoesAsked asked old new

  pub serves_asked : HasCleanDisk new → (connections : ℕ) (nonces : Option (List ℕ)) (heard : Heard) (said : List ℕ)
      (held holds : Option (List ℕ)) (r : Result ℕ JobFault) → Refuses r
      → ServesOffice connections nonces heard said old new held holds r → DidServe connections nonces heard r
  serves_asked clean n nonces heard said held holds (Ok zero) refuses h =
      let met = h.4.met refl in
      let visits = met.2.visits in (
        asked_in_visits visits,
        record {
          book = h.0;
          port = h.1;
          at = h.2;
          met = λ done. record {
            visits = visits;
            all = met.2.all;
            after = met.0;
            told = met.2.told;
            left = met.1;
            drawn = met.2.drawn;
            are_its = refl;
          };
          unmet = λ failed. absurd (omega (arith, failed));
        },
        ran (asked_in_visits visits).exchanges (asked_in_visits visits).given
            (λ o l told. let s = met.2.served clean o l told in (s.0, s.1, s.2)) (not_blank zero refuses),
      )
  serves_asked clean n nonces heard said held holds (Ok (suc k)) refuses h =
      let low = h.4.lawful in
      let one : suc k ≡ 1 = omega (arith, low) in (
        nothing_asked,
        record {
          book = h.0;
          port = h.1;
          at = h.2;
          met = λ done. absurd (omega (arith, done));
          unmet = λ failed. refl;
        },
        stays (Ok (suc k)) refuses (h.4.unmet one clean).1,
      )
  serves_asked clean n nonces heard said held holds (Err fault.Socket) refuses h =
      (nothing_asked, refl, stays {A = ℕ} (Err fault.Socket) refuses (h.4 clean).1)
  serves_asked clean n nonces heard said held holds (Err fault.Write) refuses h =
      (nothing_asked, refl, stays {A = ℕ} (Err fault.Write) refuses (h.4 clean).1)
  serves_asked clean n nonces heard said held holds (Err fault.NoMemory) refuses h =
      (nothing_asked, refl, stays {A = ℕ} (Err fault.NoMemory) refuses (h.3 clean).tells)
  serves_asked clean n nonces heard said held holds (Err (fault.Store e)) refuses h =
      (nothing_asked, refl, stays {A = ℕ} (Err (fault.Store e)) refuses (h.3 clean).tells)
  serves_asked clean n nonces heard said held holds (Err fault.File) refuses h = absurd h
  serves_asked clean n nonces heard said held holds (Err (fault.Connection x)) refuses h = absurd h
  serves_asked clean n nonces heard said held holds (Err fault.Mismatch) refuses h = absurd h
  serves_asked clean n nonces heard said held holds (Err (fault.BadExchange k)) refuses h = absurd h
  serves_asked clean n nonces heard said held holds (Err (fault.Line x)) refuses h = absurd h
  serves_asked clean n nonces heard said held holds (Err (fault.Opening x)) refuses h = absurd h
  serves_asked clean n nonces heard said held holds (Err (fault.List x)) refuses h = absurd h
  serves_asked clean n nonces heard said held holds (Err fault.Fault) refuses h = absurd h
