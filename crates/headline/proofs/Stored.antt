-- The history of each answered request is durably represented.
use Rattle.std.proofs.Common.{ℕ, List, Bool, Option, Result, Ok, Err}
use Rattle.std.specs.Prelude.{IfOk, IsTrue, OnOk, Vec}
use Rattle.std.specs.declared.alloc.Global.{Global}
use Rattle.sqlite.specs.State.{State}
use Rattle.office.specs.declared.opening.Opening.{Opening}
use Rattle.office.specs.declared.arrival.Arrival.{Arrival}
use Rattle.store.specs.Meaning.{Stores, StoresWhereOpen, Tells}
use Rattle.web.specs.declared.exchange.Exchange.{Exchange}
use Rattle.web.specs.declared.exchange.Given.{Given}
use Rattle.web.specs.Answers.{IsAnswered}
use Rattle.web.specs.Runs.{Serves}
use Rattle.exchanges.specs.Printing.{Prints, PrintsBeginning}
use Rattle.headline.proofs.Listed.{AsksOneThing, ListsAreExact, in_run}
use Rattle.headline.specs.Headline.{OfficeAnswers, OfficePrints, OfficePrintsPart}
use Rattle.store.specs.Transactions.{FailuresStay, IsAsBefore}

-- tables that represent a history and are open
abbrev pub AreOpen : State → Opening → List Arrival → Type 0
AreOpen s o l = Tells s o l × IsTrue s.is_open

-- rows that are as they were while the connection is open, with no failure of the disk forgotten
abbrev pub AreSame : (old new : State) → Type 0
AreSame old new = IsTrue new.is_open → IsAsBefore old new × FailuresStay old new

pub answers : {E : Type 0} (r : Result (Vec ℕ Global) E) (old new : State) (request : List ℕ) (moment : ℕ) (nonce : List ℕ)
    → StoresWhereOpen new → IfOk r (λ v. IsAnswered (Tells old) (Tells new) (AreOpen new) request moment nonce v.items)
    → IfOk r (λ v. OfficeAnswers old new request moment nonce v.items)
answers (Err e) old new request moment nonce keeps answered = tt
answers (Ok v) old new request moment nonce keeps answered = λ o l m.
    let a = answered o l m in record {
      ask = a.ask;
      asks = a.asks;
      text = a.text;
      list = a.list;
      history = a.history;
      kept = λ of_tables. let k = a.kept of_tables in keeps o _ k.0 k.1;
    }

serves : (old new : State) (exchanges : List Exchange) (given : List Given) → StoresWhereOpen new
    → Serves (Tells old) (Tells new) (AreOpen new) exchanges given → Serves (Tells old) (Tells new) (Stores new) exchanges given
serves old new exchanges given keeps s = λ o l m.
    let r = s o l m in (r.0, r.1, r.2, λ answered. let k = r.3 answered in keeps o r.0 k.0 k.1)

pub prints : (old new : State) (exchanges : List Exchange) (held holds : Option (List ℕ)) (fault : Bool) → ListsAreExact → AsksOneThing
    → StoresWhereOpen new → Prints (Tells old) (Tells new) (AreOpen new) (AreSame old new) exchanges held holds fault
    → OfficePrints old new exchanges held holds fault
prints old new exchanges held holds fault exact one keeps p = record {
  prints = record {
    given = p.given;
    serves = serves old new exchanges p.given keeps p.serves;
    printed = p.printed;
    faults = p.faults;
    forms = p.forms;
    rows = λ none is. (p.rows none is).0;
  };
  lists = λ o l m. let r = p.serves o l m in in_run exact one o l exchanges p.given r.0 r.1;
}

pub prints_part : (old new : State) (exchanges : List Exchange) (held holds : Option (List ℕ)) → ListsAreExact
    → AsksOneThing → StoresWhereOpen new
    → PrintsBeginning (Tells old) (Tells new) (AreOpen new) (AreSame old new) exchanges held holds
    → OfficePrintsPart old new exchanges held holds
prints_part old new exchanges held holds exact one keeps p = record {
  prints = record {
    given = p.given;
    serves = serves old new exchanges p.given keeps p.serves;
    printed = p.printed;
    forms = p.forms;
    rows = λ none is. (p.rows none is).0;
  };
  lists = λ o l m. let r = p.serves o l m in in_run exact one o l exchanges p.given r.0 r.1;
}

pub prints_ok : {E : Type 0} (r : Result (Unit {0}) E) (old new : State) (exchanges : List Exchange) (held holds : Option (List ℕ))
    (fault : Bool) → ListsAreExact → AsksOneThing → StoresWhereOpen new
    → OnOk r (Prints (Tells old) (Tells new) (AreOpen new) (AreSame old new) exchanges held holds fault)
    → OnOk r (OfficePrints old new exchanges held holds fault)
prints_ok (Err e) old new exchanges held holds fault exact one keeps p = tt
prints_ok (Ok x) old new exchanges held holds fault exact one keeps p = prints old new exchanges held holds fault exact one keeps p
