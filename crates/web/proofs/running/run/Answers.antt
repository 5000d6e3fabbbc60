use Rattle.web.proofs.Words.{Exchange, Given, List, [], ap, arith, drop, subst, suc, sym, ◌++◌, ◌+◌, ◌∷◌}
use Rattle.web.proofs.Words.{◌≡◌}
use Rattle.std.proofs.Common.{add-one, drop-cons}
use Rattle.std.proofs.lemmas.Grind.{common_steps}
use Rattle.std.proofs.Math.ListN.{drop_of_length-le}
use Rattle.std.proofs.lemmas.List.{take_all}
use Rattle.web.specs.Forms.{HaveForms}
use Rattle.web.specs.Runs.{AreGivenNoChange}
use Rattle.web.proofs.Formed.{asked_unchanged, next_forms, next_unchanged}
use Rattle.web.proofs.Underway.{IsUnderway, goes_with, is_done, starts}
use Rattle.web.proofs.running.run.Goals as goal

pub loop-exchange-preserved : goal.loop-exchange-preserved
loop-exchange-preserved g c =
    let x = c.exchange-item.result in
    let i = c.loop-exchange.exchange-index in
    let before = g.R.Registry.means c.args.registry.now in
    let now = g.R.Registry.means c.loop-exchange.registry in
    let new = g.R.Registry.means c.given_by.new.registry in
    let was_open = g.R.Registry.is_open c.loop-exchange.registry in
    let is_open = g.R.Registry.is_open c.given_by.new.registry in
    let all = c.args.exchanges.now in
    let given = c.loop-exchange.given.items in
    let rest : List Exchange = drop (i + 1) all in
    let pushed : c.push.new.self.items ≡ given ++ c.given_by.result ∷ [] = grind (arith, common_steps) in
    let left : drop i all ≡ x ∷ rest =
    rw (add-one, drop-cons all i x c.loop-exchange-test.true) (ap (λ (y : Exchange). y ∷ drop (suc i) all) (sym c.exchange-item.is)) in
    record {
      honest = λ h. c.loop-exchange.invariant.honest (c.given_by.ensures.failures.honest h);
      was_open = λ h is. c.loop-exchange.invariant.was_open (c.given_by.ensures.failures.honest h) (c.given_by.ensures.failures.was_open h is);
      before = λ h none is.
          let got = next_unchanged all i x given c.push.new.self.items c.given_by.result c.loop-exchange-test.true
          c.exchange-item.is pushed c.loop-exchange.invariant.forms none in
          g.met.R.Registry.through c.args.registry.now c.loop-exchange.registry c.given_by.new.registry
          (c.loop-exchange.invariant.before (c.given_by.ensures.failures.honest h) got.0
          (c.given_by.ensures.failures.was_open h is)) (c.given_by.ensures.before h is got.1);
      underway = λ h.
          let u : IsUnderway before now was_open all (x ∷ rest) given =
          subst (λ (r : List Exchange). IsUnderway before now was_open all r given) left (c.loop-exchange.invariant.underway (c.given_by.ensures.failures.honest h)) in
          subst (λ (g : List Given). IsUnderway before new is_open all rest g) (sym pushed)
          (goes_with before now new was_open is_open all rest x given c.given_by.result (c.given_by.ensures.answered h)
          (c.given_by.ensures.fault h) u);
      room = grind (arith, common_steps);
      forms = next_forms all i x given c.push.new.self.items c.given_by.result c.loop-exchange-test.true
          c.exchange-item.is pushed c.loop-exchange.invariant.forms c.given_by.ensures.form;
    }

pub returns-clause-forms : goal.returns-clause-forms
returns-clause-forms g c =
    let all = c.args.exchanges.now in
    let i = c.loop-exchange.exchange-index in
    subst (λ (xs : List Exchange). HaveForms xs c.loop-exchange.given.items)
    (take_all i all c.loop-exchange-test.false) c.loop-exchange.invariant.forms

pub returns-clause-before : goal.returns-clause-before
returns-clause-before g c honest none =
    let all = c.args.exchanges.now in
    let i = c.loop-exchange.exchange-index in
    c.loop-exchange.invariant.before honest
    (subst (λ (xs : List Exchange). AreGivenNoChange xs c.loop-exchange.given.items)
    (sym (take_all i all c.loop-exchange-test.false)) none)

pub returns-clause-reads : goal.returns-clause-reads
returns-clause-reads g c honest is none =
    let all = c.args.exchanges.now in
    let i = c.loop-exchange.exchange-index in
    let given = c.loop-exchange.given.items in
    let whole = take_all i all c.loop-exchange-test.false in
    let forms = subst (λ (xs : List Exchange). HaveForms xs given) whole c.loop-exchange.invariant.forms in
    c.loop-exchange.invariant.before honest
    (subst (λ (xs : List Exchange). AreGivenNoChange xs given) (sym whole) (asked_unchanged all given forms none)) is

pub returns-clause-serves : goal.returns-clause-serves
returns-clause-serves g c honest =
    let before = g.R.Registry.means c.args.registry.now in
    let now = g.R.Registry.means c.loop-exchange.registry in
    let ended : drop c.loop-exchange.exchange-index c.args.exchanges.now ≡ [] = drop_of_length-le c.args.exchanges.now c.loop-exchange-test.false in
    let is_open = g.R.Registry.is_open c.loop-exchange.registry in
    is_done before now is_open c.args.exchanges.now c.loop-exchange.given.items
    (subst (λ (r : List Exchange). IsUnderway before now is_open c.args.exchanges.now r c.loop-exchange.given.items) ended (c.loop-exchange.invariant.underway honest))

pub loop-exchange-init : goal.loop-exchange-init
loop-exchange-init g c =
    let means = g.R.Registry.means c.args.registry.now in
    let is_open = g.R.Registry.is_open c.args.registry.now in
    let all = c.args.exchanges.now in
    record {
      honest = λ h. h;
      was_open = λ h is. is;
      before = λ h none is. g.met.R.Registry.unasked c.args.registry.now;
      underway = λ h. subst (λ (g : List Given). IsUnderway means means is_open all all g) (sym c.in_ok-given.ensures.items)
          (starts means is_open all);
      room = grind (arith, common_steps);
      forms = subst (λ (g : List Given). HaveForms [] g) (sym c.in_ok-given.ensures.items) tt;
    }
