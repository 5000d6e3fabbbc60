use Rattle.cert.proofs.Words.{List, None, Pair, ap, comes_before, drop, insert, is_ascending, is_options, list_any}
use Rattle.cert.proofs.Words.{listing, options_fault, position_or_len, subst, sym, take, ℕ, ◌+◌, ◌∙◌, ◌≡◌}
use Rattle.std.proofs.lemmas.List.{take_all}
use Rattle.cert.proofs.Listing.{IsListedSoFar, fault_answered-Err, is_ascending-listing, is_options-listing}
use Rattle.cert.proofs.Listing.{lists_one_more}
use Rattle.cert.proofs.Ascending.{same_pairs}
use Rattle.cert.proofs.options.Options.build.Goals as goal

pub returns-in-Some-clause-fault : goal.returns-in-Some-clause-fault
returns-in-Some-clause-fault c = fault_answered-Err (List Pair) c.args.field c.args.kind c.args.pairs.now
    c.in-Some.fault (sym c.judge.ensures ∙ c.in-Some.is)

-- the pairs after the insertion of a copy
inserted : (new listed view : List Pair) (k : ℕ) (name : List ℕ) (p copy : Pair) → new ≡ insert listed k copy → copy ≡ p
    → k ≡ position_or_len (λ q. comes_before name q.name) view → name ≡ p.name → view ≡ listed
    → insert listed (position_or_len (λ q. comes_before p.name q.name) listed) p ≡ new
inserted new listed view k name p copy is copied place named viewed =
    sym (is ∙ ap (insert listed k) copied ∙ ap (λ n. insert listed n p) (place
    ∙ ap (λ ps. position_or_len (λ (q : Pair). comes_before name q.name) ps) viewed)
    ∙ ap (λ n. insert listed (position_or_len (λ (q : Pair). comes_before n q.name) listed) p) named)

pub loop-pair-preserved : goal.loop-pair-preserved
loop-pair-preserved c =
    let ps = c.args.pairs.now in
    let i = c.loop-pair.pair-index in
    let listed = c.loop-pair.listed.items in
    subst (λ (new : List Pair). IsListedSoFar c.args.field new (take (i + 1) ps) (drop (i + 1) ps))
    (inserted _ listed _ _ _ c.pair-item.result _ c.in_ok-insert.ensures.items c.in_ok-copied.ensures
    c.place_of-place.ensures.place
    c.as_slice.ensures c.as_slice-in-loop-pair.ensures.value)
    (lists_one_more c.args.field listed ps i c.pair-item.result c.loop-pair-test.true c.pair-item.is
    c.loop-pair.invariant)

pub invariant_of-result : goal.invariant_of-result
invariant_of-result c =
    let given = c.args.pairs.now in
    let is : c.from_vec.result ≡ listing given = c.from_vec.ensures ∙ c.loop-pair.invariant.is_listing
    ∙ ap listing (take_all _ given c.loop-pair-test.false) in
    ap is_ascending is ∙ is_ascending-listing given

pub returns-clause-lawful : goal.returns-clause-lawful
returns-clause-lawful c =
    let ps = c.args.pairs.now in
    let none : options_fault c.args.field c.args.kind ps ≡ None = sym c.judge.ensures ∙ c.in_default.is in
    let whole : take c.loop-pair.pair-index ps ≡ ps = take_all _ ps c.loop-pair-test.false in
    let is : c.from_vec.result ≡ listing ps = c.from_vec.ensures ∙ c.loop-pair.invariant.is_listing
    ∙ ap listing whole in
    ap (is_options c.args.field c.args.kind) is ∙ is_options-listing c.args.field c.args.kind ps none

pub returns-clause-same : goal.returns-clause-same
returns-clause-same c = λ test.
    ap (list_any test) c.from_vec.ensures ∙ c.loop-pair.invariant.alike test
    ∙ ap (list_any test) (take_all _ c.args.pairs.now c.loop-pair-test.false)

pub returns-clause-only : goal.returns-clause-only
returns-clause-only c = λ ps rising same.
    let given = c.args.pairs.now in
    let is : c.from_vec.result ≡ listing given = c.from_vec.ensures ∙ c.loop-pair.invariant.is_listing
    ∙ ap listing (take_all _ given c.loop-pair-test.false) in
    same_pairs c.from_vec.result ps (ap is_ascending is ∙ is_ascending-listing given) rising
    (λ test. returns-clause-same c test ∙ sym (same test))
