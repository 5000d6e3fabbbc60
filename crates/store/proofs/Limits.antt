-- Why the rows of an accepted request are refused: one is too long, or there is no room for one more.
use Rattle.store.proofs.Words.{AreRuns, AreRunsFrom, Arrival, Bool, Ca, Certificate, Change, Contents, Decision, HasOne}
use Rattle.store.proofs.Words.{HasRoom, IsAccepted, IsHistory, IsLawful, IsLawfulChange, IsTooLong, List, Opening, Past}
use Rattle.store.proofs.Words.{RefusesChange, RefusesDecision, Run, RunRow, SerialRange, State, [], after, ap, arith}
use Rattle.store.proofs.Words.{ca_row, cases_Bool, cert_cells, cert_row, changed, counters_of, eqb-true, filter}
use Rattle.store.proofs.Words.{holds_in_range, inl, inr, is_range, kept_at, kept_of, last_of, length, length-key_blob}
use Rattle.store.proofs.Words.{length_permutation, map, message_lawful, nat_tests, not, office_contents, opening_stays}
use Rattle.store.proofs.Words.{refl, request_row, revoked_runs, run_row, runs_in_runs, state_at, subst, suc, sym, true}
use Rattle.store.proofs.Words.{with_counters, with_range, with_request, ℕ, ◌++◌, ◌+◌, ◌<◌, ◌==◌, ◌^◌, ◌∙◌, ◌∷◌, ◌≡◌}
use Rattle.store.proofs.Words.{◌≤◌}
use Rattle.std.specs.List.Sorted.{IsPermutation}
use Rattle.sqlite_trees.proofs.ListLemmas.{IsPermutation-filter}
use Rattle.office.specs.Machine.{next_serial}
use Rattle.office.specs.declared.view.Change.TheVariants as change
use Rattle.store_sql.specs.Refusals.{RefusesCa, RefusesCert}
use Rattle.store_sql.specs.Runs as runs
use Rattle.store.specs.Ranges.{joined_run}
use Rattle.store.specs.Refused.{RefusesRange}
use Rattle.store.proofs.Joined.{rows_joined}
use Rattle.store.specs.Arriving.{IsTooMuch, IsTooMuchToChange}
use Rattle.store.proofs.Lawful.{lawful_after}
use Rattle.store.proofs.ShortRows.{counters_fit, key_id_short}
use Rattle.store.proofs.Additions.{IsStep, ca_free, new_ca, own_department, request_new, serial_new, step_of}

-- ---- runs

abbrev begins : ℕ → RunRow → Bool
begins n r = r.lo == n

abbrev how_many : ℕ → List RunRow → ℕ
how_many n rs = length (filter (begins n) rs)

-- at most one of the maximal runs begins at a given serial, and none below their lower bound
few_begin : (n from : ℕ) (rs : List Run) → AreRunsFrom from rs
    → (how_many n (map run_row rs) ≤ 1) × (n < from → how_many n (map run_row rs) ≡ 0)
few_begin n from [] are = (omega arith, λ _. refl)
few_begin n from (r ∷ rs) are =
    let rest = few_begin n (r.hi + 2) rs are.3 in
    elim (cases_Bool (r.lo == n)) [
      | inl same ↦
          (let here = eqb-true r.lo n same in
          rw same (omega (arith, rest.1 (omega (arith, here, are.1))), λ low. absurd (omega (arith, low, here, are.0))))
      | inr other ↦ rw other (rest.0, λ low. rest.1 (omega (arith, low, are.0, are.1)))
    ]

some_begin : (n : ℕ) (rs : List RunRow) → HasOne (λ k. k.lo ≡ n) rs → 1 ≤ how_many n rs
some_begin n [] (k, here, same) = absurd here
some_begin n (r ∷ rs) (k, inl is, same) =
    let lo : r.lo ≡ n = ap (λ x. x.lo) (sym is) ∙ same in
    let hit : (r.lo == n) ≡ true = grind (arith, nat_tests) in rw hit (omega arith)
some_begin n (r ∷ rs) (k, inr here, same) = elim (cases_Bool (r.lo == n)) [
  | inl first ↦ rw first (omega arith)
  | inr other ↦ rw other (some_begin n rs (k, here, same))
]

-- if rows are maximal runs in some order, no other begins where the first one does
alone_there : (x : RunRow) (xs : List RunRow) (rs : List Run) → AreRuns rs → IsPermutation (x ∷ xs) (map run_row rs)
    → HasOne (λ k. k.lo ≡ x.lo) xs → ⊥
alone_there x xs rs are same other =
    let most = (few_begin x.lo 0 rs are).0 in
    let count = length_permutation _ _ (IsPermutation-filter (begins x.lo) (x ∷ xs) (map run_row rs) same) in
    let own : (x.lo == x.lo) ≡ true = grind (arith, nat_tests) in
    let mine : how_many x.lo (x ∷ xs) ≡ suc (how_many x.lo xs) = rw own refl in
    let more = some_begin x.lo xs other in
    omega (arith, most, count, mine, more)

-- ---- an accepted request

module _ (p : Past) (a : Arrival) (d : Decision) (serving : List Ca) (history : IsHistory p.0 p.1)
    (is : IsAccepted a d serving p) where
  abbrev s : State
  s = state_at p

  abbrev rows : Contents
  rows = office_contents p.0 p.1

  -- the contents with the counters and the row of the request
  abbrev recorded : Contents
  recorded = with_request (request_row (kept_of a d.reply)) (with_counters (counters_of d) rows)

  lawful : IsLawful s
  lawful = lawful_after p.0 p.1 history

  step : IsStep a d p
  step = step_of p a d serving is

  certificate_limited : (cert : Certificate) → d.change ≡ change.Certificate cert → RefusesCert (cert_row cert) rows
      → IsTooLong (cert_cells (cert_row cert))
  certificate_limited cert e why =
      let same : s.certificates ++ cert ∷ [] ≡ (after s step.message a.moment a.nonce).certificates =
      sym (ap (λ ch. (changed ch s).certificates) e) ∙ ap (λ (t : State). t.certificates) step.made in
      let own = own_department s lawful a.caller a.moment a.nonce cert step.message step.allowed same in
      elim why [
        | inl taken ↦ absurd (serial_new s.opening.first cert.fields.serial s.certificates lawful.serials own.1 taken)
        | inr (inl missing) ↦ absurd (missing own.0)
        | inr (inr long) ↦ long
      ]

  ca_limited : (since : ℕ) (ca : Ca) → d.change ≡ change.Ca ca
      → RefusesCa (ca_row (length serving + 1) since ca) rows → ⊥
  ca_limited since ca e why =
      let same : s.cas ++ ca ∷ [] ≡ (after s step.message a.moment a.nonce).cas =
      sym (ap (λ ch. (changed ch s).cas) e) ∙ ap (λ (t : State). t.cas) step.made in
      let lawful_message = message_lawful a.bytes step.message step.text in
      let new = new_ca s a.caller a.moment a.nonce ca step.message lawful_message step.allowed same in
      let count : length serving ≡ length s.cas = ap (λ (cas : List Ca). length cas) is.cas in
      elim why [
        | inl taken ↦ ca_free 1 s.cas (length serving + 1) ca.key (omega (arith, count)) new.1 lawful.cas new.0 taken
        | inr long ↦ (let blob = length-key_blob ca.key in omega (arith, long, blob, new.1))
      ]

  range_free : (r : SerialRange) → d.change ≡ change.Range r → is_range r ≡ true → RefusesRange r rows → ⊥
  range_free r e range why =
      let room : (s.opening.first ≤ r.lo) × (r.hi < next_serial s) = subst (λ ch. HasRoom ch s) e is.room in
      let in_range : next_serial s ≤ s.opening.last + 1 = holds_in_range p.0 p.1 history.office.opening in
      let opening : s.opening.last ≡ p.0.last = ap (λ (o : Opening). o.last) (opening_stays p.0 p.1) in
      let top = last_of p.0 history.office.opening in
      let fits : next_serial s ≤ 2 ^ 64 = omega (arith, in_range, opening, top) in
      let t = with_range s r in
      alone_there (joined_run r rows) (filter (λ q. not (runs.begins_between (joined_run r rows) q)) rows.runs) (revoked_runs t)
      (runs_in_runs t.revoked t.opening.first (length t.certificates) fits)
      (rows_joined s r range room.0 room.1 fits) why

  change_limited : (ch : Change) (since : ℕ) → d.change ≡ ch → IsLawfulChange ch
      → RefusesChange (length serving + 1) since ch recorded → IsTooMuchToChange ch rows
  change_limited (change.Certificate x) since e ok why = certificate_limited x e why
  change_limited (change.Range r) since e ok why = range_free r e ok why
  change_limited (change.KeyId k) since e ok (inl long) = absurd (key_id_short k ok long)
  change_limited (change.KeyId k) since e ok (inr full) = full
  change_limited (change.Ca x) since e ok why = ca_limited since x e why
  change_limited _ since e ok why = why

  -- the rows are refused for their size, or for lack of room
  pub limited : IsLawfulChange d.change → RefusesDecision d a serving rows → IsTooMuch d a rows
  limited ok (inl (inl counters)) = absurd (counters_fit (counters_of d) s (kept_at p) lawful counters)
  limited ok (inl (inr (inl used))) = absurd (request_new a (kept_at p) step.unused used)
  limited ok (inl (inr (inr more))) = inl more
  limited ok (inr why) = inr (change_limited d.change (counters_of d).next refl ok why)
