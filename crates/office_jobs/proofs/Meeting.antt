-- Connections served over the office that was opened were served over the database as it was given.
use Rattle.office_jobs.proofs.Words.{Appends, Book, Err, ErrorKind, HasCleanDisk, IsAsBefore, IsTrue, IsUnopened}
use Rattle.office_jobs.proofs.Words.{JobFault, KeepsTelling, List, MeetsOver, None, Ok, Option, Result, ServesOffice}
use Rattle.office_jobs.proofs.Words.{Some, State, StoreFault, Tells, [], heard_of, of_store, refl, subst, sym, ℕ, ◌≡◌}
use Rattle.office_jobs.proofs.Words.{◌≤◌}
use Rattle.std.proofs.Common.{arith, map, suc, zero}
use Rattle.std.specs.Prelude.{All}
use Rattle.office.specs.declared.registry.Registry.{Ghosts}
use Rattle.office.specs.declared.store_fault.StoreFault.TheVariants as store
use Rattle.web.specs.Runs.{Serves as AllServed}
use Rattle.server.specs.Connections.{AreRead, AreServed, ChangesNothing, Extends, ServesConnections, Visit}
use Rattle.server.specs.Connections.{exchange_of, given_of, visit_lines}
use Rattle.server.specs.Names.{listening_line, no_memory_line}
use Rattle.office_jobs.proofs.Carried.{before_again}
use Rattle.office_jobs.specs.declared.job_fault.JobFault.TheVariants as fault

-- connections handled over a register are handled over the database of that register
pub met_over : {S : Type 0} (n : ℕ) (book book' : Option Book) (nonces nonces' : Option (List ℕ)) (r : Ghosts S)
    (a b : S)
    (old new : State)
    → ((visits : List Visit) → AreServed r a b visits → HasCleanDisk new → AllServed (Tells old) (Tells new)
    (λ o l. Tells new o l × IsTrue new.is_open) (map exchange_of visits) (map given_of visits))
    → ((visits : List Visit) → AreRead r a b visits → HasCleanDisk new → All ChangesNothing visits → IsAsBefore old new)
    → (x : ServesConnections n book book' nonces nonces' r a b)
    → MeetsOver n book book' nonces nonces' (visit_lines 1 x.visits) old new
met_over n book book' nonces nonces' r a b old new carry reads x = record {
  visits = x.visits;
  all = x.all;
  told = x.told;
  drawn = x.drawn;
  lines = refl;
  served = carry x.visits x.served;
  reads = reads x.visits x.reads;
}

met_from : (n : ℕ) (book book' : Option Book) (nonces nonces' : Option (List ℕ)) (said : List ℕ) (old mid new : State)
    → (HasCleanDisk new → IsAsBefore old mid) → (HasCleanDisk new → KeepsTelling old mid)
    → MeetsOver n book book' nonces nonces' said mid new → MeetsOver n book book' nonces nonces' said old new
met_from n book book' nonces nonces' said old mid new before tells x = record {
  visits = x.visits;
  all = x.all;
  told = x.told;
  drawn = x.drawn;
  lines = x.lines;
  served = λ clean o l m. x.served clean o l (tells clean o l m);
  reads = λ clean none. before_again old mid new (before clean) (x.reads clean none);
}

-- if nothing was done, nothing has changed
pub same_is_unmet : (old new : State) → new ≡ old → IsAsBefore old new × KeepsTelling old new
same_is_unmet old new same = subst (λ (s : State). IsAsBefore old s × KeepsTelling old s) (sym same)
    (record { was_open = λ is. is; rest = λ _ rests. rests; same = λ _ _. refl }, λ o l told. told)

-- what a server says of faults: the lines of its connections, or that there was no memory to begin with
pub said_of : (status : ℕ) → status ≤ 1 → (Told Meets : List ℕ → Type 0)
    → (status ≡ 0 → (said : List ℕ) × Told said × Meets said) → (status ≡ 1 → Told no_memory_line)
    → (said : List ℕ) × Told said × (status ≡ 0 → Meets said) × (status ≡ 1 → said ≡ no_memory_line)
said_of zero low Told Meets met lacking =
    let it = met refl in (it.0, it.1, λ _. it.2, λ one. absurd (omega (arith, one)))
said_of (suc k) low Told Meets met lacking =
    let one : suc k ≡ 1 = omega (arith, low) in
    (no_memory_line, lacking one, λ none. absurd (omega (arith, none)), λ _. refl)

-- connections served at a port whose line is printed
pub served_at : (n port status : ℕ) (book book' : Option Book) (source first left : Option (List ℕ)) (said : List ℕ)
    (old new : State)
    (held holds : Option (List ℕ)) → Appends held holds (listening_line port)
    → first ≡ source → (status ≡ 0 → MeetsOver n book book' first left said old new) → (status ≡ 1 → new ≡ old)
    → (status ≡ 1 → said ≡ no_memory_line) → (HasCleanDisk new → Extends n (Tells old) (Tells new)) → status ≤ 1
    → ServesOffice n source (Some (Ok (book, port))) said old new held holds (Ok status)
served_at n port status book book' source first left said old new held holds printed same met unmet
    lacking served low = (
      book,
      port,
      refl,
      printed,
      record {
        met = λ done. (
          book',
          left,
          subst (λ (f : Option (List ℕ)). MeetsOver n book book' f left said old new) same (met done),
        );
        unmet = λ failed clean. same_is_unmet old new (unmet failed);
        lacking = lacking;
        served = served;
        lawful = low;
      },
    )

-- if nothing has changed after an opening that changed nothing, nothing has changed
unmet_from : (old mid new : State) → IsAsBefore old mid → KeepsTelling old mid → IsAsBefore mid new × KeepsTelling mid new
    → IsAsBefore old new × KeepsTelling old new
unmet_from old mid new before tells next =
    (before_again old mid new before next.0, λ o l told. next.1 o l (tells o l told))

-- connections served after an opening are served over the database that was opened
served_from : (n : ℕ) (source : Option (List ℕ)) (heard : Result (Option Book × ℕ) ErrorKind) (said : List ℕ)
    (old mid new : State) (held holds : Option (List ℕ)) (r : Result ℕ JobFault)
    → (HasCleanDisk new → IsAsBefore old mid) → (HasCleanDisk new → KeepsTelling old mid)
    → ServesOffice n source (Some heard) said mid new held holds r
    → ServesOffice n source (Some heard) said old new held holds r
served_from n source heard said old mid new held holds (Ok status) before tells h = (
  h.0,
  h.1,
  h.2,
  h.3,
  record {
    met = λ done. let m = h.4.met done in (m.0, m.1, met_from n _ _ source _ said old mid new before tells m.2);
    unmet = λ failed clean. unmet_from old mid new (before clean) (tells clean) (h.4.unmet failed clean);
    lacking = h.4.lacking;
    served = λ clean o l m. h.4.served clean o l (tells clean o l m);
    lawful = h.4.lawful;
  },
)
served_from n source heard said old mid new held holds (Err fault.Socket) before tells h =
    (h.0, h.1, h.2, h.3, λ clean. unmet_from old mid new (before clean) (tells clean) (h.4 clean))
served_from n source heard said old mid new held holds (Err fault.Write) before tells h =
    (h.0, h.1, h.2, h.3, λ clean. unmet_from old mid new (before clean) (tells clean) (h.4 clean))
served_from n source heard said old mid new held holds (Err fault.NoMemory) before tells h =
    let no = h.0 in absurd (cc)
served_from n source heard said old mid new held holds (Err (fault.Store e)) before tells h =
    let no = h.0 in absurd (cc)
served_from n source heard said old mid new held holds (Err fault.File) before tells h = absurd h
served_from n source heard said old mid new held holds (Err (fault.Connection x)) before tells h = absurd h
served_from n source heard said old mid new held holds (Err fault.Mismatch) before tells h = absurd h
served_from n source heard said old mid new held holds (Err (fault.BadExchange k)) before tells h = absurd h
served_from n source heard said old mid new held holds (Err (fault.Line x)) before tells h = absurd h
served_from n source heard said old mid new held holds (Err (fault.Opening x)) before tells h = absurd h
served_from n source heard said old mid new held holds (Err (fault.List x)) before tells h = absurd h
served_from n source heard said old mid new held holds (Err fault.Fault) before tells h = absurd h

-- the same for a listener, through its book
pub served_of : {Incoming : Type 0} (n : ℕ) (source : Option (List ℕ)) (book : Incoming → Option Book)
    (heard : Result (Incoming × ℕ) ErrorKind) (said : List ℕ) (old mid new : State) (held holds : Option (List ℕ))
    (r : Result ℕ JobFault) → (HasCleanDisk new → IsAsBefore old mid) → (HasCleanDisk new → KeepsTelling old mid)
    → ServesOffice n source (heard_of book (Some heard)) said mid new held holds r
    → ServesOffice n source (heard_of book (Some heard)) said old new held holds r
served_of n source book (Ok at) said old mid new held holds r before tells h =
    served_from n source (Ok (book at.0, at.1)) said old mid new held holds r before tells h
served_of n source book (Err kind) said old mid new held holds r before tells h =
    served_from n source (Err kind) said old mid new held holds r before tells h

-- if the office can't be opened, nobody listens
unopened : (n : ℕ) (source : Option (List ℕ)) (old new : State) (held holds : Option (List ℕ)) (e : StoreFault)
    → (HasCleanDisk new → IsUnopened old new e) → holds ≡ held
    → ServesOffice n source None [] old new held holds (Err (of_store e))
unopened n source old new held holds store.NoMemory h same = (refl, same, refl, h)
unopened n source old new held holds store.Device h same = (refl, same, refl, h)
unopened n source old new held holds store.NotAnOffice h same = (refl, same, refl, h)
unopened n source old new held holds store.AlreadyAnOffice h same = (refl, same, refl, h)
unopened n source old new held holds store.WrongSchema h same = (refl, same, refl, h)
unopened n source old new held holds store.Damaged h same = (refl, same, refl, h)

pub unheard : (n : ℕ) (source : Option (List ℕ)) (old new : State) (held holds : Option (List ℕ))
    (e : StoreFault) (f : JobFault) → f ≡ of_store e → (HasCleanDisk new → IsUnopened old new e) → holds ≡ held
    → ServesOffice n source None [] old new held holds (Err f)
unheard n source old new held holds e f told h same =
    subst (λ (f : JobFault). ServesOffice n source None [] old new held holds (Err f)) (sym told)
    (unopened n source old new held holds e h same)
