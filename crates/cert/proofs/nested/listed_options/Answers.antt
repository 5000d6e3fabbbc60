use Rattle.cert.proofs.Words.{CertFault, CriticalOptions, Err, Extensions, GivesRead, List, None, Option, OptionField}
use Rattle.cert.proofs.Words.{Pair}
use Rattle.cert.proofs.Words.{[], ap, arith, or_fault, pair_of, subst, sym, ◌++◌, ◌∙◌, ◌∷◌, ◌≡◌}
use Rattle.cert.specs.Reading.{field_fault}
use Rattle.cert.proofs.Elements.{option_goes_on, option_cut, option_fails, options_left}
use Rattle.cert.proofs.nested.listed_options.Goals as goal

-- the fault of the field, if nothing was read
gives_fault : (field : OptionField) (e : CertFault) (total : Option (List Pair)) → e ≡ field_fault field
    → total ≡ None → GivesRead {X = List Pair} (Err e) (or_fault (field_fault field) total)
gives_fault field e total is none =
    subst (λ (f : CertFault). GivesRead {X = List Pair} (Err f) (or_fault (field_fault field) total)) (sym is)
    (at field (ap (or_fault (field_fault field)) none))
  where
    at : (field : OptionField) → or_fault (field_fault field) total ≡ Err (field_fault field)
        → GivesRead {X = List Pair} (Err (field_fault field)) (or_fault (field_fault field) total)
    at CriticalOptions e = e
    at Extensions e = e

pub returns-in_default : goal.returns-in_default
returns-in_default c =
    let some : ¬ (c.loop.inner ≡ []) = λ e. absurd (let t = c.at_end.ensures.1 e in let f = c.if-at_end.false in cc) in
    gives_fault c.args.field _ _ c.fault_of.ensures
    (option_cut c.args.field c.loop.previous.now c.loop.options c.loop.counter c.loop.inner _
    (omega arith) some c.in_default.ensures c.loop.invariant)

pub returns-then-not-comes_next : goal.returns-then-not-comes_next
returns-then-not-comes_next c =
    gives_fault c.args.field _ _ c.fault_of-then-not-comes_next.ensures
    (option_fails c.args.field c.loop.previous.now c.loop.options c.loop.counter c.loop.inner _
    c.pair_in.new.cursor _ (omega arith) c.in-Some.ensures
    (sym c.comes_next.ensures ∙ c.if-not-comes_next.true) c.loop.invariant)

pub loop-preserved : goal.loop-preserved
loop-preserved c =
    let front = c.loop.options in
    let name = c.in-Some.found.0.now in
    let value = c.in-Some.found.1.now in
    let pushed : c.push_pair.new.options ≡ front ++ pair_of name value ∷ [] = c.in_ok-push_pair.ensures in
    rw pushed (option_goes_on c.args.field c.loop.previous.now front c.loop.counter c.loop.inner
    (pair_of name value) c.pair_in.new.cursor _ (omega arith) c.in-Some.ensures
    (sym c.comes_next.ensures ∙ c.if-not-comes_next.false) c.loop.invariant)

pub returns-then-not-at_end : goal.returns-then-not-at_end
returns-then-not-at_end c =
    let some : ¬ (c.loop.inner ≡ []) = λ e. absurd (let t = c.at_end-2.ensures.1 e in let f = c.if-not-at_end.true
    in cc) in
    gives_fault c.args.field _ _ c.fault_of-then-not-at_end.ensures
    (options_left c.args.field c.loop.previous.now c.loop.options c.loop.counter c.loop.inner _
    (omega arith) some c.loop.invariant)
