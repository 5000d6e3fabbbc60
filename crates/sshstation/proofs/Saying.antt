-- What a job said about unsigned certificates (bodies), and the guard that backs it.
use Rattle.std.proofs.Common.{◌≡◌, ◌++◌, ◌∷◌, ◌∙◌, [], ℕ, List, All, Bool, Option, Some, Result, Ok, Err, ap}
use Rattle.std.proofs.Common.{append_assoc, arith, drop, false, inl, inr, length, map, refl, subst, sym, take, true}
use Rattle.std.specs.Prelude.{fold}
use Rattle.std.specs.List.{flat_map}
use Rattle.std.specs.Io.KnownBytes.{Appends}
use Rattle.std.proofs.KnownBytes.{Appends-nil}
use Rattle.std.proofs.lemmas.List.{take-append-drop, take_all, take_at}
use Rattle.std.proofs.lemmas.List.Concat.{flat_map-append}
use Rattle.std.proofs.lemmas.List.Elements.{All-append, All-cons, All-head, All-nil, All-tail, All-weaker}
use Rattle.std.proofs.lemmas.List.Sums.{fold-append}
use Rattle.guard.specs.declared.judging.Answer.{Answer}
use Rattle.guard.specs.declared.judging.Answer.TheVariants as answer
use Rattle.guard.specs.AnswerLines.{answer_line}
use Rattle.guard.specs.Judged.{Answers, IsKept}
use Rattle.guard.specs.Machine.{State, Question, after, after_all}
use Rattle.guard.specs.Retirement.{if_retired}
use Rattle.guard_sql.specs.Images.{Standing}
use Rattle.guard_sql.specs.Lives.{Answered, AreBacked, AreSaid, Backs, IsBacked, Said}
use Rattle.guard_sql.specs.Steps.{Step, next_guard, stepped}
use Rattle.station_jobs.specs.declared.station_fault.StationFault.{StationFault}
use Rattle.station_jobs.specs.Judging.{AreAnswered, IsPrinted, Judgement, Judges, left_by, lines_of}
use Rattle.station_jobs.specs.Whole.{JudgesGiven}
use Rattle.station_jobs.specs.Leaving.{IsNext, Step as JobStep}

-- ---- steps

-- steps of this sort lead from the one state to the other
pub record Leads (Taken : Step → Type 0) (s t : State) : Type 0 where
  pub steps : List Step
  pub all : All Taken steps
  pub leads : fold next_guard (Some s) steps ≡ Some t

pub leads_same : (Taken : Step → Type 0) (s : State) → Leads Taken s s
leads_same Taken s = record { steps = []; all = All-nil Taken; leads = refl }

pub leads_one : (Taken : Step → Type 0) (s : State) (step : Step) → Taken step → Leads Taken s (stepped s step)
leads_one Taken s step taken = record {
  steps = step ∷ [];
  all = All-cons Taken step [] taken (All-nil Taken);
  leads = refl;
}

pub leads_then : (Taken : Step → Type 0) (s t u : State) → Leads Taken s t → Leads Taken t u → Leads Taken s u
leads_then Taken s t u first second = record {
  steps = first.steps ++ second.steps;
  all = All-append Taken first.steps second.steps first.all second.all;
  leads = fold-append next_guard (Some s) first.steps second.steps
      ∙ (ap (λ (p : Standing). fold next_guard p second.steps) first.leads ∙ second.leads);
}

-- questions in order
asked_leads : (Taken : Step → Type 0) (s : State) (qs : List Question) → All (λ q. Taken (Step.asking q)) qs
    → Leads Taken s (after_all s qs)
asked_leads Taken s [] all = leads_same Taken s
asked_leads Taken s (q ∷ qs) all =
    let next = after s q in
    leads_then Taken s next (after_all next qs)
    (leads_one Taken s (Step.asking q) (All-head (λ (q : Question). Taken (Step.asking q)) q qs all))
    (asked_leads Taken next qs (All-tail (λ (q : Question). Taken (Step.asking q)) q qs all))

-- each step of a job is one that may be taken
pub record Covers (May : JobStep → Type 0) (Taken : Step → Type 0) : Type 0 where
  pub asks : (qs : List Question) → May (JobStep.asking qs) → All (λ q. Taken (Step.asking q)) qs
  pub retires : (last : ℕ) → May (JobStep.retiring last) → Taken (Step.retiring last)

pub next_leads : (May : JobStep → Type 0) (Taken : Step → Type 0) → Covers May Taken → (s next : State)
    → IsNext May s next → Leads Taken s next
next_leads May Taken covers s next (inl same) = subst (Leads Taken s) (sym same) (leads_same Taken s)
next_leads May Taken covers s next (inr (inl (qs, may, same))) =
    subst (Leads Taken s) (sym same) (asked_leads Taken s qs (covers.asks qs may))
next_leads May Taken covers s next (inr (inr (last, may, retires))) =
    subst (Leads Taken s) (ap (if_retired s) retires)
    (leads_one Taken s (Step.retiring last) (covers.retires last may))

judged_leads : (Taken : Step → Type 0) (s : State) (js : List Judgement)
    → All (λ (j : Judgement). Taken (Step.asking j.question)) js → Leads Taken s (left_by s js)
judged_leads Taken s [] all = leads_same Taken s
judged_leads Taken s (j ∷ js) all =
    let next = after s j.question in
    leads_then Taken s next (left_by next js)
    (leads_one Taken s (Step.asking j.question)
    (All-head (λ (j : Judgement). Taken (Step.asking j.question)) j js all))
    (judged_leads Taken next js (All-tail (λ (j : Judgement). Taken (Step.asking j.question)) j js all))

-- ---- what was said

abbrev answered_of : Judgement → Answered
answered_of j = (j.answer, j.question.body)

abbrev answers_of : List Judgement → List Answered
answers_of js = map answered_of js

same_lines : (js : List Judgement) → flat_map (λ (a : Answered). answer_line a.0) (answers_of js) ≡ lines_of js
same_lines [] = refl
same_lines (j ∷ js) = ap (λ (t : List ℕ). answer_line j.answer ++ t) (same_lines js)

-- a first text and a prefix of a second one are a prefix of both
begins_both : (a b : List ℕ) (n : ℕ) → take (length (a ++ take n b)) (a ++ b) ≡ a ++ take n b
begins_both a b n =
    ap (λ (t : List ℕ). take (length (a ++ take n b)) t)
    (ap (λ (t : List ℕ). a ++ t) (sym (take-append-drop n b)) ∙ sym (append_assoc a (take n b) (drop n b)))
    ∙ take_at (a ++ take n b) (drop n b) (length (a ++ take n b)) refl

are_said : (most : ℕ) (js : List Judgement) (held holds : Option (List ℕ)) (r : Result (Unit {0}) StationFault)
    → IsPrinted most js held holds r → AreSaid (answers_of js) (Said.judging held holds)
are_said most js held holds (Ok done) printed = (
  length (lines_of js),
  subst (Appends held holds)
      (sym (ap (take (length (lines_of js))) (same_lines js) ∙ take_all (length (lines_of js)) (lines_of js) (omega arith)))
      printed,
)
are_said most js held holds (Err e) (whole, last, count, are, short, printed) =
    let told = lines_of whole ++ take count (lines_of last) in
    let all : lines_of whole ++ lines_of last ≡ lines_of js =
    sym (ap lines_of are ∙ flat_map-append (λ (j : Judgement). answer_line j.answer) whole last) in (
      length told,
      subst (Appends held holds)
          (sym (ap (take (length told)) (same_lines js ∙ sym all) ∙ begins_both (lines_of whole) (lines_of last) count))
          printed,
    )

one_backed : (s t : State) (a : Answer) (q : Question) → Answers a s q → IsKept a t q.body → IsBacked (Some t) a q.body
one_backed s t (answer.Sign serial digest) q answers kept = (kept, answers.2)
one_backed s t (answer.NotABody e) q answers kept = tt
one_backed s t (answer.Refuse r) q answers kept = tt

are_backed : (s t : State) (js : List Judgement) → AreAnswered s js
    → All (λ (j : Judgement). IsKept j.answer t j.question.body) js → AreBacked (Some t) (answers_of js)
are_backed s t [] answered kept = All-nil (λ (a : Answered). IsBacked (Some t) a.0 a.1)
are_backed s t (j ∷ js) answered kept =
    All-cons (λ (a : Answered). IsBacked (Some t) a.0 a.1) (answered_of j) (answers_of js)
    (one_backed s t j.answer j.question answered.0
    (All-head (λ (j : Judgement). IsKept j.answer t j.question.body) j js kept))
    (are_backed (after s j.question) t js answered.1
    (All-tail (λ (j : Judgement). IsKept j.answer t j.question.body) j js kept))

-- a run that judged no body said nothing
pub silent_none : (p : Standing) → Backs p Said.none
silent_none p = ([], refl, All-nil (λ (a : Answered). IsBacked p a.0 a.1))

pub backs_none : (t : State) → Backs (Some t) Said.none
backs_none t = silent_none (Some t)

-- a run that printed nothing said nothing
pub silent : (held holds : Option (List ℕ)) → holds ≡ held → (p : Standing) → Backs p (Said.judging held holds)
silent held holds same p =
    let said : AreSaid [] (Said.judging held holds) =
    (0, subst (λ (h : Option (List ℕ)). Appends held h []) (sym same) (Appends-nil held)) in
    ([], said, All-nil (λ (a : Answered). IsBacked p a.0 a.1))

-- ---- what a job did with a guard

-- It took steps of this sort, what was said is backed, and this is left.
pub record Lasts {A : Type 0} (Taken : Step → Type 0) (s : State) (said : Said)
    (Left : State → Result A StationFault → Type 0) : Type 0 where
  pub t : State
  pub outcome : Result A StationFault
  pub took : Leads Taken s t
  pub backs : Backs (Some t) said
  pub left : Left t outcome

-- a job that said nothing left the guard as it was
pub same_lasts : {A : Type 0} (Taken : Step → Type 0) (s : State) (Left : State → Result A StationFault → Type 0)
    (r : Result A StationFault) → Left s r → Lasts Taken s Said.none Left
same_lasts Taken s Left r left = record {
  t = s;
  outcome = r;
  took = leads_same Taken s;
  backs = backs_none s;
  left = left;
}

module _ (Taken : Step → Type 0) (Asked : List ℕ → Question → Type 0)
    (asks : (path : List ℕ) (q : Question) → Asked path q → Taken (Step.asking q)) where
  judges_last : {most : ℕ} (s : State) (Left : State → Result (Unit {0}) StationFault → Type 0) (paths : List (List ℕ))
      (held holds : Option (List ℕ)) (r : Result (Unit {0}) StationFault)
      → Judges most s Left Asked paths held holds r → Lasts Taken s (Said.judging held holds) Left
  judges_last {most = most} s Left paths held holds r is =
      let t = left_by s is.judged in
      let all : All (λ (j : Judgement). Taken (Step.asking j.question)) is.judged =
      All-weaker (λ (j : Judgement). Asked j.given j.question) (λ (j : Judgement). Taken (Step.asking j.question))
      (λ j is_asked. asks j.given j.question is_asked) is.judged is.asked in
      record {
        t = t;
        outcome = r;
        took = judged_leads Taken s is.judged all;
        backs = (
          answers_of is.judged,
          are_said most is.judged held holds r is.printed,
          are_backed s t is.judged is.answered is.kept,
        );
        left = is.left;
      }

  pub given_last : (b : Bool) (s : State) (Left : State → Result (Unit {0}) StationFault → Type 0)
      (bodies : List (List ℕ)) (input held holds : Option (List ℕ))
      (r : Result (Unit {0}) StationFault) → JudgesGiven b s Left Asked bodies input held holds r
      → Lasts Taken s (Said.judging held holds) Left
  given_last true s Left bodies input held holds r is =
      judges_last s Left (flat_map (λ given. given) is.batches) held holds r is.judges
  given_last false s Left bodies input held holds r is = judges_last s Left bodies held holds r is
