use Rattle.cert.proofs.Words.{BadValue, Bool, List, None, Option, OptionFault, OptionField, Pair, Some, Twice, Unknown}
use Rattle.cert.proofs.Words.{ap, bytes_eq, cond, false, is_known, is_option_value, list_any, not, pair_fault, refl}
use Rattle.cert.proofs.Words.{sym, true, ℕ, ◌∙◌, ◌≡◌}
use Rattle.cert.proofs.options.fault_of.Goals as goal

-- the fault that three tests determine
abbrev by_tests : Bool → Bool → Bool → Option OptionFault
by_tests known twice lawful = cond (not known) (Some Unknown) (cond twice (Some Twice) (cond (not lawful)
    (Some BadValue) None))

-- tests with these results determine the fault
as_tests : (known twice lawful : Bool) {k t l : Bool} → known ≡ k → twice ≡ t → lawful ≡ l
    → by_tests k t l ≡ by_tests known twice lawful
as_tests known twice lawful p q r = rw (p, q, r) refl

-- the result of a test of a copy of the name
at_name : (test : List ℕ → Bool) (name copy : List ℕ) (r b : Bool) → copy ≡ name → r ≡ test copy → r ≡ b → test name ≡ b
at_name test name copy r b same e f = ap test (sym same) ∙ sym e ∙ f

-- the fault of a pair, by the results of the tests
named : (field : OptionField) (earlier : List Pair) (p : Pair) {k t l : Bool} → is_known field p.name ≡ k
    → list_any (λ q. bytes_eq q.name p.name) earlier ≡ t → is_option_value p.name p.value ≡ l
    → by_tests k t l ≡ pair_fault field earlier p
named field earlier p = as_tests _ _ _

pub returns-then-has_name : goal.returns-then-has_name
returns-then-has_name c =
    let earlier = c.args.earlier.now in
    named c.args.field earlier c.args.pair.now
    (at_name (is_known c.args.field) _ _ _ true c.as_slice-name.ensures c.is_known.ensures c.if-not-is_known.false)
    (at_name (λ n. list_any (λ (q : Pair). bytes_eq q.name n) earlier) _ _ _ true c.as_slice-name.ensures
    c.has_name.ensures c.if-has_name.true) refl

pub returns-then-not-is_option_value : goal.returns-then-not-is_option_value
returns-then-not-is_option_value c =
    let p = c.args.pair.now in
    let earlier = c.args.earlier.now in
    named c.args.field earlier p
    (at_name (is_known c.args.field) _ _ _ true c.as_slice-name.ensures c.is_known.ensures c.if-not-is_known.false)
    (at_name (λ n. list_any (λ (q : Pair). bytes_eq q.name n) earlier) _ _ _ false c.as_slice-name.ensures
    c.has_name.ensures c.if-has_name.false)
    (at_name (is_option_value p.name) _ _ _ false c.as_slice.ensures (c.is_option_value.ensures
    ∙ ap (λ n. is_option_value n c.as_slice.result.now) c.as_slice-name.ensures) c.if-not-is_option_value.true)

pub returns-else-not-is_option_value : goal.returns-else-not-is_option_value
returns-else-not-is_option_value c =
    let p = c.args.pair.now in
    let earlier = c.args.earlier.now in
    named c.args.field earlier p
    (at_name (is_known c.args.field) _ _ _ true c.as_slice-name.ensures c.is_known.ensures c.if-not-is_known.false)
    (at_name (λ n. list_any (λ (q : Pair). bytes_eq q.name n) earlier) _ _ _ false c.as_slice-name.ensures
    c.has_name.ensures c.if-has_name.false)
    (at_name (is_option_value p.name) _ _ _ true c.as_slice.ensures (c.is_option_value.ensures
    ∙ ap (λ n. is_option_value n c.as_slice.result.now) c.as_slice-name.ensures) c.if-not-is_option_value.false)
