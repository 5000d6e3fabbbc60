-- A report that is written batch by batch covers all certificates.
use Rattle.web.proofs.Words.{Arrival, Bool, Certificate, Err, Global, IfOk, List, Ok, Opening, Result, State, Vec, []}
use Rattle.web.proofs.Words.{ap, append_assoc, arith, drop, flat_map, length, line_among, line_as, map, refl, state}
use Rattle.web.proofs.Words.{sym, table_report, take, ℕ, ◌++◌, ◌∙◌, ◌∷◌, ◌≡◌, ◌≤◌}
use Rattle.std.proofs.Common.{ap₂}
use Rattle.std.proofs.lemmas.List.{length-drop, length-map, length-take, take_all}
use Rattle.std.proofs.lemmas.List.Concat.{flat_map-append}
use Rattle.office.specs.declared.listing.Revocations.{Revocations}
use Rattle.office.specs.Listing.{AreRevocations, batch_of}
use Rattle.office.specs.Publication.{entry_of}
use Rattle.office.proofs.Listed.{among_is}
use Rattle.office.proofs.Waiting.{split}
use Rattle.web.specs.Batches.{Says, table_among}
use Rattle.http_requests.specs.declared.response.MediaType.TheVariants.{PlainText}
use Rattle.http_requests.specs.Responses.{response_text}
use Rattle.web.specs.Reports.{entry_line, total_line}

-- ---- batches

-- the report so far, and with one more batch
module _ (r : Revocations) (s : State) (place next : ℕ) (before so_far now : List ℕ)
    (fits : place ≤ length s.certificates)
    (said : so_far ≡ before ++ flat_map (line_among r) (take place s.certificates))
    (more : Says r (batch_of s place) place next so_far now) where
  pub one_more : (next ≤ length s.certificates)
      × (now ≡ before ++ flat_map (line_among r) (take next s.certificates))
  one_more =
      let f = line_among r in
      let cs = s.certificates in
      let few = length-take 1000 (drop place cs) in
      let rest = length-drop place cs in
      let both : flat_map f (take next cs) ≡ flat_map f (take place cs) ++ flat_map f (batch_of s place) =
      ap (λ (n : ℕ). flat_map f (take n cs)) more.places ∙ ap (flat_map f) (split 1000 place cs)
      ∙ flat_map-append f (take place cs) (batch_of s place) in (
        omega (arith, fits, more.places, few, rest),
        more.lines ∙ ap (λ (t : List ℕ). t ++ flat_map f (batch_of s place)) said
            ∙ append_assoc before (flat_map f (take place cs)) (flat_map f (batch_of s place))
            ∙ ap (λ (t : List ℕ). before ++ t) (sym both),
      )

  -- if the batch is empty, the report covers all certificates
  pub all_said : next ≡ place → Says r s.certificates 0 place before now
  all_said same =
      let cs = s.certificates in
      let few = length-take 1000 (drop place cs) in
      let rest = length-drop place cs in
      let ended : place ≡ length cs = omega (arith, fits, more.places, same, few, rest) in
      let whole : take next cs ≡ cs = take_all next cs (omega (arith, same, ended)) in
      record {
        places = omega (arith, ended);
        lines = one_more.1 ∙ ap (λ (xs : List Certificate). before ++ flat_map (line_among r) xs) whole;
      }

-- ---- the reports

module _ (r : Revocations) (s : State) (are : AreRevocations r s) where
  -- the table's lines
  pub lines_of_table : (cs : List Certificate) → flat_map (line_among r) cs ≡ flat_map entry_line (map (entry_of s) cs)
  lines_of_table [] = refl
  lines_of_table (c ∷ cs) =
      ap₂ (λ (b : Bool) (t : List ℕ). line_as b c ++ t) (among_is r s c are) (lines_of_table cs)

  -- the whole table
  pub whole_table : (version : ℕ) (text : List ℕ) → version ≡ s.version
      → text ≡ table_among r s.certificates version → text ≡ table_report s
  whole_table version text same is =
      is
      ∙ ap₂ (λ (lines : List ℕ) (v : ℕ). lines ++ total_line (length s.certificates) v) (lines_of_table s.certificates) same
      ∙ ap (λ (n : ℕ). flat_map entry_line (map (entry_of s) s.certificates) ++ total_line n s.version)
      (sym (length-map s.certificates (entry_of s)))

-- a response with a report as its body
pub shows_report : {E : Type 0} (r : Result (Vec ℕ Global) E) (body : List ℕ) (report : State → List ℕ)
    (means : Opening → List Arrival → Type 0) → ((o : Opening) (l : List Arrival) → means o l → body ≡ report (state o l))
    → IfOk r (λ v. v.items ≡ response_text 200 PlainText body)
    → IfOk r (λ v. (o : Opening) (l : List Arrival) → means o l → v.items ≡ response_text 200 PlainText (report (state o l)))
shows_report (Ok v) body report means same is = λ o l m. is ∙ ap (response_text 200 PlainText) (same o l m)
shows_report (Err e) body report means same is = tt
