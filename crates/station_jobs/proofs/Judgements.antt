-- Judging unsigned certificates (bodies) in order.
use Rattle.std.proofs.Common.{◌≡◌, ◌<◌, ◌≤◌, ◌++◌, ◌∷◌, [], ℕ, List, All, Option, Result, Ok, Err, length, map, take, true}
use Rattle.std.proofs.Common.{IfSome, append_assoc, arith, drop, get_or, ◌+◌, refl, sym, ap, subst, ◌∙◌, inl, inr}
use Rattle.std.specs.List.{flat_map}
use Rattle.std.specs.Io.KnownBytes.{Appends}
use Rattle.std.proofs.KnownBytes.{Appends-nil, Appends-trans}
use Rattle.std.proofs.lemmas.List.{append-nil, map_push, take_more, take-append-drop}
use Rattle.std.proofs.lemmas.List.Elements.{All-append, All-cons, All-nil, All-weaker}
use Rattle.message.specs.declared.department.Department.{Department}
use Rattle.guard.specs.declared.judging.Answer.{Answer}
use Rattle.guard.specs.declared.judging.Answer.TheVariants as answer
use Rattle.guard.specs.AnswerLines.{answer_line}
use Rattle.guard.specs.declared.verdict.Window.{Window}
use Rattle.guard.specs.Decided.{questions}
use Rattle.guard.specs.Judged.{AreAnswers, IsKept}
use Rattle.guard.specs.Machine.{State, Question, after, after_all}
use Rattle.guard.specs.declared.register.Register as register
use Rattle.guard.proofs.Allowed.{left_by as after_or_before}
use Rattle.guard.proofs.Histories.{one_kept}
use Rattle.station_jobs.specs.declared.station_fault.StationFault.{StationFault}
use Rattle.station_jobs.specs.declared.surroundings.Surroundings.{Ghosts}
use Rattle.station_jobs.specs.Judging.{AreAnswered, Asks, AsksGiven, AsksNow, AsksOf, Covers, IsPolicyAt, IsPrinted, Judgement}
use Rattle.station_jobs.specs.Judging.{Judges}
use Rattle.station_jobs.specs.Judging.{left_by, lines_of}
use Rattle.station_jobs.specs.Leaving.{IsNext, Leaves, OfBodies, OfQuestions, Step}
use Rattle.station_jobs.specs.Steps.{AnswersAll, IsLinePrinted, NotOk, Weighs}
use Rattle.station_jobs.proofs.Leavings.{leaves_so, leaves_then}
use Rattle.station_jobs.proofs.Longer.{of_all}

-- ---- lists of judgements

left_append : (s : State) (a b : List Judgement) → left_by s (a ++ b) ≡ left_by (left_by s a) b
left_append s [] b = refl
left_append s (j ∷ a) b = left_append (after s j.question) a b

answered_append : (s : State) (a b : List Judgement) → AreAnswered s a → AreAnswered (left_by s a) b → AreAnswered s (a ++ b)
answered_append s [] b x y = y
answered_append s (j ∷ a) b x y = (x.0, answered_append (after s j.question) a b x.1 y)

lines_append : (a b : List Judgement) → lines_of (a ++ b) ≡ lines_of a ++ lines_of b
lines_append [] b = refl
lines_append (j ∷ a) b =
    ap (λ t. answer_line j.answer ++ t) (lines_append a b)
    ∙ sym (append_assoc (answer_line j.answer) (lines_of a) (lines_of b))

given_append : (a b : List Judgement) → map (λ j. j.given) (a ++ b) ≡ map (λ j. j.given) a ++ map (λ j. j.given) b
given_append [] b = refl
given_append (j ∷ a) b = ap (λ ps. j.given ∷ ps) (given_append a b)

-- a stored body stays stored
kept_once : (a : Answer) (s : State) (q : Question) (body : List ℕ) → IsKept a s body → IsKept a (after s q) body
kept_once (answer.Sign serial digest) s q body k = one_kept serial body s q k
kept_once (answer.NotABody e) s q body k = tt
kept_once (answer.Refuse r) s q body k = tt

kept_later : (a : Answer) (s : State) (body : List ℕ) (js : List Judgement) → IsKept a s body → IsKept a (left_by s js) body
kept_later a s body [] k = k
kept_later a s body (j ∷ js) k = kept_later a (after s j.question) body js (kept_once a s j.question body k)

abbrev AreKept : State → List Judgement → Type 0
AreKept s js = All (λ j. IsKept j.answer s j.question.body) js

kept_append : (s : State) (a b : List Judgement) → AreKept (left_by s a) a → AreKept (left_by (left_by s a) b) b
    → AreKept (left_by s (a ++ b)) (a ++ b)
kept_append s a b x y =
    subst (λ (t : State). AreKept t (a ++ b)) (sym (left_append s a b))
    (All-append (λ j. IsKept j.answer (left_by (left_by s a) b) j.question.body) a b
    (All-weaker (λ j. IsKept j.answer (left_by s a) j.question.body)
    (λ j. IsKept j.answer (left_by (left_by s a) b) j.question.body)
    (λ j k. kept_later j.answer (left_by s a) j.question.body b k) a x) y)

-- ---- none, one, and more

module _ (Left : State → Result (Unit {0}) StationFault → Type 0)
    (Asked : List ℕ → Question → Type 0) where
  -- nothing was judged, and nothing more is printed
  pub none_judged : {most : ℕ} (s : State) (held : Option (List ℕ)) → Left s (Ok tt) → Judges most s Left Asked [] held held (Ok tt)
  none_judged s held left = record {
    judged = [];
    asked = All-nil (λ (j : Judgement). Asked j.given j.question);
    answered = tt;
    left = left;
    kept = All-nil (λ (j : Judgement). IsKept j.answer s j.question.body);
    in_order = refl;
    printed = Appends-nil held;
  }

  -- a fault occurred before anything was judged
  pub fault_first : {most : ℕ} (s : State) (paths : List (List ℕ)) (held : Option (List ℕ)) (e : StationFault) → Left s (Err e)
      → Judges most s Left Asked paths held held (Err e)
  fault_first s paths held e left = record {
    judged = [];
    asked = All-nil (λ (j : Judgement). Asked j.given j.question);
    answered = tt;
    left = left;
    kept = All-nil (λ (j : Judgement). IsKept j.answer s j.question.body);
    in_order = (paths, refl);
    printed = ([], [], 0, refl, omega arith, Appends-nil held);
  }

  -- after a fault, more paths may have been given
  pub more_given : {most : ℕ} (s : State) (paths more : List (List ℕ)) (held holds : Option (List ℕ)) (e : StationFault)
      → Judges most s Left Asked paths held holds (Err e) → Judges most s Left Asked (paths ++ more) held holds (Err e)
  more_given s paths more held holds e is = record {
    judged = is.judged;
    asked = is.asked;
    answered = is.answered;
    left = is.left;
    kept = is.kept;
    in_order = (
      is.in_order.0 ++ more,
      ap (λ ps. ps ++ more) is.in_order.1 ∙ append_assoc (map (λ j. j.given) is.judged) is.in_order.0 more,
    );
    printed = is.printed;
  }

  covers : (a b : List (List ℕ)) (first second : List Judgement) (r : Result (Unit {0}) StationFault)
      → map (λ j. j.given) first ≡ a → Covers b (map (λ j. j.given) second) r
      → Covers (a ++ b) (map (λ j. j.given) (first ++ second)) r
  covers a b first second (Ok done) x y =
      given_append first second ∙ (ap (λ ps. ps ++ map (λ j. j.given) second) x ∙ ap (λ ps. a ++ ps) y)
  covers a b first second (Err e) x y = (
    y.0,
    ap (λ ps. a ++ ps) y.1
        ∙ (ap (λ ps. ps ++ (map (λ j. j.given) second ++ y.0)) (sym x)
        ∙ (sym (append_assoc (map (λ j. j.given) first) (map (λ j. j.given) second) y.0)
        ∙ ap (λ ps. ps ++ y.0) (sym (given_append first second)))),
  )

  prints : (most : ℕ) (held mid holds : Option (List ℕ)) (first second : List Judgement) (r : Result (Unit {0}) StationFault)
      → Appends held mid (lines_of first) → IsPrinted most second mid holds r → IsPrinted most (first ++ second) held holds r
  prints most held mid holds first second (Ok done) x y =
      subst (λ (t : List ℕ). Appends held holds t) (sym (lines_append first second))
      (Appends-trans held mid holds (lines_of first) (lines_of second) x y)
  prints most held mid holds first second (Err e) x (whole, last, count, are, short, y) = (
    first ++ whole,
    last,
    count,
    ap (λ js. first ++ js) are ∙ sym (append_assoc first whole last),
    short,
    subst (λ (t : List ℕ). Appends held holds t)
        (sym (append_assoc (lines_of first) (lines_of whole) (take count (lines_of last)))
        ∙ ap (λ t. t ++ take count (lines_of last)) (sym (lines_append first whole)))
        (Appends-trans held mid holds (lines_of first) (lines_of whole ++ take count (lines_of last)) x y),
  )

-- Bodies were judged, and then more of them.
judged_on : {most : ℕ} (between then Left : State → Result (Unit {0}) StationFault → Type 0) (Asked : List ℕ → Question → Type 0)
    (s : State) (a b : List (List ℕ)) (held mid holds : Option (List ℕ)) (r : Result (Unit {0}) StationFault)
    (first : Judges most s between Asked a held mid (Ok tt))
    → Judges most (left_by s first.judged) then Asked b mid holds r
    → ((t : State) → then t r → Left t r) → Judges most s Left Asked (a ++ b) held holds r
judged_on {most = most} between then Left Asked s a b held mid holds r first second leads = record {
  judged = first.judged ++ second.judged;
  asked = All-append (λ j. Asked j.given j.question) first.judged second.judged first.asked second.asked;
  answered = answered_append s first.judged second.judged first.answered second.answered;
  left = subst (λ (t : State). Left t r) (sym (left_append s first.judged second.judged))
      (leads (left_by (left_by s first.judged) second.judged) second.left);
  kept = kept_append s first.judged second.judged first.kept second.kept;
  in_order = covers Left Asked a b first.judged second.judged r first.in_order second.in_order;
  printed = prints Left Asked most held mid holds first.judged second.judged r first.printed second.printed;
}

-- the same over a register, because a question doesn't change the scope
one_scope : (s : State) (q : Question) → (after s q).scope ≡ s.scope
one_scope s q = after_or_before (λ t. t.scope ≡ s.scope) s q refl (λ c new. refl)

same_scope : (s : State) (js : List Judgement) → (left_by s js).scope ≡ s.scope
same_scope s [] = refl
same_scope s (j ∷ js) = same_scope (after s j.question) js ∙ one_scope s j.question

pub judged_then : {most : ℕ} {G : Type 0} {May : Step → Type 0} (guard : register.Ghosts G) (old between new : G)
    (Asked : List ℕ → Question → Type 0)
    (s : State) (a b : List (List ℕ)) (held mid holds : Option (List ℕ)) (r : Result (Unit {0}) StationFault)
    (first : Judges most s (Leaves guard May old between s) Asked a held mid (Ok tt))
    → Judges most (left_by s first.judged) (Leaves guard May between new (left_by s first.judged)) Asked b mid holds r
    → Judges most s (Leaves guard May old new s) Asked (a ++ b) held holds r
judged_then {May = May} guard old between new Asked s a b held mid holds r first second =
    judged_on (Leaves guard May old between s) (Leaves guard May between new (left_by s first.judged))
    (Leaves guard May old new s) Asked s a b held mid holds r first second
    (λ t is. leaves_then guard old between new s (left_by s first.judged) t r (same_scope s first.judged) first.left is)

-- the same judgements, with a weaker statement about what is left or about the questions
pub judged_so : {most : ℕ} (Left Left' : State → Result (Unit {0}) StationFault → Type 0) (Asked : List ℕ → Question → Type 0)
    (s : State) (paths : List (List ℕ)) (held holds : Option (List ℕ)) (r : Result (Unit {0}) StationFault)
    → ((t : State) → Left t r → Left' t r) → Judges most s Left Asked paths held holds r
    → Judges most s Left' Asked paths held holds r
judged_so Left Left' Asked s paths held holds r leads is = record {
  judged = is.judged;
  asked = is.asked;
  answered = is.answered;
  left = leads (left_by s is.judged) is.left;
  kept = is.kept;
  in_order = is.in_order;
  printed = is.printed;
}

pub asked_so : {most : ℕ} (Left : State → Result (Unit {0}) StationFault → Type 0) (Asked Asked' : List ℕ → Question → Type 0)
    (s : State) (paths : List (List ℕ)) (held holds : Option (List ℕ)) (r : Result (Unit {0}) StationFault)
    → ((path : List ℕ) (q : Question) → Asked path q → Asked' path q)
    → Judges most s Left Asked paths held holds r → Judges most s Left Asked' paths held holds r
asked_so Left Asked Asked' s paths held holds r leads is = record {
  judged = is.judged;
  asked = All-weaker (λ j. Asked j.given j.question) (λ j. Asked' j.given j.question)
      (λ j asks. leads j.given j.question asks) is.judged is.asked;
  answered = is.answered;
  left = is.left;
  kept = is.kept;
  in_order = is.in_order;
  printed = is.printed;
}

-- ---- questions that are answered together

-- what was given for each question
abbrev pub AreAsked : (Asked : List ℕ → Question → Type 0) → List (List ℕ) → List Question → Type 0
AreAsked Asked [] [] = Unit {0}
AreAsked Asked (g ∷ given) (q ∷ questions) = Asked g q × AreAsked Asked given questions
AreAsked Asked given questions = ⊥

-- the judgements that these answers are
record Zipped (Asked : List ℕ → Question → Type 0) (s : State) (given : List (List ℕ)) (questions : List Question)
    (answers : List Answer) : Type 0 where
  judged : List Judgement
  asked : All (λ j. Asked j.given j.question) judged
  answered : AreAnswered s judged
  left : left_by s judged ≡ after_all s questions
  kept : AreKept (left_by s judged) judged
  are : map (λ j. j.given) judged ≡ given
  lines : lines_of judged ≡ flat_map answer_line answers
  many : length judged ≡ length given

zipped : (Asked : List ℕ → Question → Type 0) (s : State) (given : List (List ℕ)) (questions : List Question)
    (answers : List Answer) → AreAsked Asked given questions → AreAnswers answers s questions
    → Zipped Asked s given questions answers
zipped Asked s [] [] [] asked are = record {
  judged = [];
  asked = All-nil (λ (j : Judgement). Asked j.given j.question);
  answered = tt;
  left = refl;
  kept = All-nil (λ (j : Judgement). IsKept j.answer s j.question.body);
  are = refl;
  lines = refl;
  many = refl;
}
zipped Asked s (g ∷ given) (q ∷ questions) (a ∷ answers) asked are =
    let rest = zipped Asked (after s q) given questions answers asked.1 are.2 in
    let j : Judgement = record { given = g; question = q; answer = a } in
    let t : State = left_by (after s q) rest.judged in
    let many = rest.many in
    record {
      judged = j ∷ rest.judged;
      asked = All-cons (λ (j : Judgement). Asked j.given j.question) j rest.judged asked.0 rest.asked;
      answered = (are.0, rest.answered);
      left = rest.left;
      kept = All-cons (λ (j : Judgement). IsKept j.answer t j.question.body) j rest.judged
          (kept_later a (after s q) q.body rest.judged are.1) rest.kept;
      are = ap (λ (gs : List (List ℕ)). g ∷ gs) rest.are;
      lines = ap (λ (t : List ℕ). answer_line a ++ t) rest.lines;
      many = omega (arith, many);
    }
zipped Asked s [] [] (a ∷ answers) asked are = absurd are
zipped Asked s (g ∷ given) (q ∷ questions) [] asked are = absurd are
zipped Asked s [] (q ∷ questions) answers asked are = absurd asked
zipped Asked s (g ∷ given) [] answers asked are = absurd asked

pub all_judged : {most : ℕ} (Left : State → Result (Unit {0}) StationFault → Type 0)
    (Asked : List ℕ → Question → Type 0) (s : State) (given : List (List ℕ)) (questions : List Question)
    (held holds : Option (List ℕ)) (r : Result (Unit {0}) StationFault) → length given ≤ most
    → AreAsked Asked given questions → AnswersAll s Left questions held holds r
    → Judges most s Left Asked given held holds r
all_judged {most = most} Left Asked s given questions held holds r short asked (inl is) =
    let z = zipped Asked s given questions is.answers asked is.are in
    record {
      judged = z.judged;
      asked = z.asked;
      answered = z.answered;
      left = subst (λ (t : State). Left t r) (sym z.left) is.left;
      kept = z.kept;
      in_order = covered r z.judged z.are;
      printed = line_printed r z.judged is.answers z.lines z.many is.printed;
    }
  where
    covered : (r : Result (Unit {0}) StationFault) (js : List Judgement) → map (λ j. j.given) js ≡ given
        → Covers given (map (λ j. j.given) js) r
    covered (Ok done) js are = are
    covered (Err e) js are = ([], sym are ∙ sym (append-nil (map (λ (j : Judgement). j.given) js)))

    line_printed : (r : Result (Unit {0}) StationFault) (js : List Judgement) (answers : List Answer)
        → lines_of js ≡ flat_map answer_line answers → length js ≡ length given
        → IsLinePrinted (flat_map answer_line answers) held holds r → IsPrinted most js held holds r
    line_printed (Ok done) js answers lines many printed =
        subst (λ (t : List ℕ). Appends held holds t) (sym lines) printed
    line_printed (Err e) js answers lines many printed = (
      [],
      js,
      printed.count,
      refl,
      omega (arith, many, short),
      subst (λ (t : List ℕ). Appends held holds (take printed.count t)) (sym lines) printed.grown,
    )
all_judged {most = most} Left Asked s given questions held holds r short asked (inr is) = go r is
  where
    go : (r : Result (Unit {0}) StationFault) → NotOk r × Left s r × (holds ≡ held)
        → Judges most s Left Asked given held holds r
    go (Ok done) is = absurd is.0
    go (Err e) is =
        subst (λ (h : Option (List ℕ)). Judges most s Left Asked given held h (Err e)) (sym is.2)
        (fault_first Left Asked s given held e is.1)

-- each question was asked of something that was given
each_asked : (Asked : List ℕ → Question → Type 0) (given : List (List ℕ)) (questions : List Question)
    → AreAsked Asked given questions → All (λ q. (g : List ℕ) × Asked g q) questions
each_asked Asked [] [] are = All-nil (λ (q : Question). (g : List ℕ) × Asked g q)
each_asked Asked (g ∷ given) (q ∷ questions) are =
    All-cons (λ (q : Question). (g : List ℕ) × Asked g q) q questions (g, are.0)
    (each_asked Asked given questions are.1)
each_asked Asked [] (q ∷ questions) are = absurd are
each_asked Asked (g ∷ given) [] are = absurd are

as_many : (Asked : List ℕ → Question → Type 0) (given : List (List ℕ)) (questions : List Question)
    → AreAsked Asked given questions → length questions ≡ length given
as_many Asked [] [] are = refl
as_many Asked (g ∷ given) (q ∷ questions) are =
    let rest = as_many Asked given questions are.1 in omega (arith, rest)
as_many Asked [] (q ∷ questions) are = absurd are
as_many Asked (g ∷ given) [] are = absurd are

-- questions that were asked together lead to the next state
together_next : (most : ℕ) (Asked : List ℕ → Question → Type 0) (given : List (List ℕ)) (questions : List Question)
    → length given ≤ most → AreAsked Asked given questions → (t next : State)
    → IsNext (OfQuestions questions) t next → IsNext (OfBodies most Asked) t next
together_next most Asked given questions short are t next (inl is) = inl is
together_next most Asked given questions short are t next (inr (inl (asked, same, is))) =
    let many = as_many Asked given questions are in
    inr (inl (
      questions,
      (omega (arith, many, short), each_asked Asked given questions are),
      is ∙ ap (λ (qs : List Question). after_all t qs) same,
    ))
together_next most Asked given questions short are t next (inr (inr (last, none, is))) = absurd none

-- bodies that were given were judged over a register, at a time of the clock
given_asked : {E F : Type 0} (world : Ghosts E F) (around : E) (remaining : F → Option (List ℕ))
    (policy : List Department) (window : Window) → world.shows around window.moment → (bodies : List (List ℕ))
    → AreAsked (AsksOf world around remaining (λ p. p ≡ policy) window.ahead) bodies (questions policy window bodies)
given_asked world around remaining policy window shown [] = tt
given_asked world around remaining policy window shown (b ∷ bodies) = (
  record { is = refl; policy = refl; moment = shown; ahead_of = refl },
  given_asked world around remaining policy window shown bodies,
)

pub given_judged : {most : ℕ} {E F G : Type 0} (guard : register.Ghosts G) (old new : G) (world : Ghosts E F)
    (around : E) (remaining : F → Option (List ℕ)) (policy : List Department) (window : Window)
    → world.shows around window.moment → (bodies : List (List ℕ)) → length bodies ≤ most → (s : State)
    (held holds : Option (List ℕ)) (r : Result (Unit {0}) StationFault)
    → AnswersAll s (Leaves guard (OfQuestions (questions policy window bodies)) old new s)
    (questions policy window bodies) held holds r
    → Judges most s (Leaves guard (OfBodies most (AsksOf world around remaining (λ p. p ≡ policy) window.ahead)) old new s)
    (AsksOf world around remaining (λ p. p ≡ policy) window.ahead) bodies held holds r
given_judged {most = most} guard old new world around remaining policy window shown bodies short s held holds r answers =
    let Asked : List ℕ → Question → Type 0 = AsksOf world around remaining (λ p. p ≡ policy) window.ahead in
    let qs : List Question = questions policy window bodies in
    let asked = given_asked world around remaining policy window shown bodies in
    judged_so (Leaves guard (OfQuestions qs) old new s) (Leaves guard (OfBodies most Asked) old new s) Asked s bodies held
    holds r
    (λ t left. leaves_so guard {May = OfQuestions qs} {More = OfBodies most Asked} old new s t r
    (λ next may. together_next most Asked bodies qs short asked t next may) left)
    (all_judged (Leaves guard (OfQuestions qs) old new s) Asked s bodies qs held holds r short asked answers)

-- ---- questions about a file

-- a question that was asked of a body at a path leads to the next state, and so does one of the same effect
asked_next : (Asked : List ℕ → Question → Type 0) (path : List ℕ) (q all : Question) → Asked path all
    → ((t : State) → after t q ≡ after t all) → (t next : State) → IsNext (OfQuestions (q ∷ [])) t next
    → IsNext (OfBodies 1 Asked) t next
asked_next Asked path q all asks same t next (inl is) = inl is
asked_next Asked path q all asks same t next (inr (inl (asked, one, is))) =
    inr (inl (
      all ∷ [],
      (
        omega arith,
        All-cons (λ (q : Question). (g : List ℕ) × Asked g q) all [] (path, asks)
            (All-nil (λ (q : Question). (g : List ℕ) × Asked g q)),
      ),
      is ∙ (ap (λ (qs : List Question). after_all t qs) one ∙ same t),
    ))
asked_next Asked path q all asks same t next (inr (inr (last, none, is))) = absurd none

-- a body was read from a file at the path and judged over a register, at a time of the clock
pub one_weighed : {E F G : Type 0} (guard : register.Ghosts G) (old new : G) (world : Ghosts E F) (around : E)
    (remaining : F → Option (List ℕ)) (policy : List Department) (ahead : ℕ) (path read body : List ℕ) (moment : ℕ)
    → body ≡ read → Weighs world around remaining path read moment → (s : State) (held holds : Option (List ℕ))
    (r : Result (Unit {0}) StationFault)
    → AnswersAll s
    (Leaves guard (OfQuestions (record { policy = policy; moment = moment; ahead = ahead; body = body } ∷ [])) old new s)
    (record { policy = policy; moment = moment; ahead = ahead; body = body } ∷ []) held holds r
    → Judges 1 s (Leaves guard (OfBodies 1 (Asks world around remaining (λ p. p ≡ policy) ahead)) old new s)
    (Asks world around remaining (λ p. p ≡ policy) ahead) (path ∷ []) held holds r
one_weighed guard old new world around remaining policy ahead path read body moment same is s held holds r answers =
    let q : Question = record { policy = policy; moment = moment; ahead = ahead; body = body } in
    let Asked : List ℕ → Question → Type 0 = Asks world around remaining (λ p. p ≡ policy) ahead in
    let all = of_all (remaining is.file) s q (Leaves guard (OfQuestions (q ∷ [])) old new s) held holds r
    (subst (λ (b : List ℕ). IfSome (remaining is.file) (λ bytes. b ≡ take 16385 bytes)) (sym same) is.body_of) answers in
    let asks : Asked path (record q { body = all.0 }) = record {
      file = is.file;
      found = is.found;
      body = all.1;
      policy = refl;
      moment = is.moment_of;
      ahead_of = refl;
    } in
    judged_so (Leaves guard (OfQuestions (q ∷ [])) old new s) (Leaves guard (OfBodies 1 Asked) old new s) Asked s
    (path ∷ []) held holds r
    (λ t left. leaves_so guard {May = OfQuestions (q ∷ [])} {More = OfBodies 1 Asked} old new s t r
    (λ next may. asked_next Asked path q (record q { body = all.0 }) asks all.3 t next may) left)
    (all_judged (Leaves guard (OfQuestions (q ∷ [])) old new s) Asked s (path ∷ []) (record q { body = all.0 } ∷ [])
    held holds r (omega arith) (asks, tt) all.2)

-- ---- by the policy in a file

-- the questions of the one sort are of the other
steps_so : (most : ℕ) (Before Now : List ℕ → Question → Type 0)
    → ((given : List ℕ) (q : Question) → Before given q → Now given q) → (t next : State)
    → IsNext (OfBodies most Before) t next → IsNext (OfBodies most Now) t next
steps_so most Before Now leads t next (inl is) = inl is
steps_so most Before Now leads t next (inr (inl (qs, (short, asked), is))) =
    inr (inl (
      qs,
      (
        short,
        All-weaker (λ (q : Question). (g : List ℕ) × Before g q) (λ (q : Question). (g : List ℕ) × Now g q)
            (λ q one. (one.0, leads one.0 q one.1)) qs asked,
      ),
      is,
    ))
steps_so most Before Now leads t next (inr (inr (last, none, is))) = absurd none

judged_as : {most : ℕ} {G : Type 0} (guard : register.Ghosts G) (old new : G)
    (Before Now : List ℕ → Question → Type 0) → ((given : List ℕ) (q : Question) → Before given q → Now given q)
    → (s : State) (given : List (List ℕ)) (held holds : Option (List ℕ)) (r : Result (Unit {0}) StationFault)
    → Judges most s (Leaves guard (OfBodies most Before) old new s) Before given held holds r
    → Judges most s (Leaves guard (OfBodies most Now) old new s) Now given held holds r
judged_as {most = most} guard old new Before Now leads s given held holds r is =
    asked_so (Leaves guard (OfBodies most Now) old new s) Before Now s given held holds r leads
    (judged_so (Leaves guard (OfBodies most Before) old new s) (Leaves guard (OfBodies most Now) old new s) Before s given
    held holds r (λ t left. leaves_so guard {May = OfBodies most Before} {More = OfBodies most Now} old new s t r
    (λ next may. steps_so most Before Now leads t next may) left) is)

module _ {E F : Type 0} (world : Ghosts E F) (around : E) (remaining : F → Option (List ℕ))
    (policy : List Department) (at : List ℕ) (ahead : ℕ) (known : IsPolicyAt world around remaining at policy) where
  asks_now : (path : List ℕ) (q : Question) → Asks world around remaining (λ p. p ≡ policy) ahead path q
      → AsksNow world around remaining at ahead path q
  asks_now path q asks = record {
    file = asks.file;
    found = asks.found;
    body = asks.body;
    policy = subst (IsPolicyAt world around remaining at) (sym asks.policy) known;
    moment = asks.moment;
    ahead_of = asks.ahead_of;
  }

  given_now : (body : List ℕ) (q : Question) → AsksOf world around remaining (λ p. p ≡ policy) ahead body q
      → AsksGiven world around remaining true at ahead body q
  given_now body q asks = record {
    is = asks.is;
    policy = subst (IsPolicyAt world around remaining at) (sym asks.policy) known;
    moment = asks.moment;
    ahead_of = asks.ahead_of;
  }

  pub judged_now : {G : Type 0} (guard : register.Ghosts G) (old new : G) (s : State) (paths : List (List ℕ))
      (held holds : Option (List ℕ)) (r : Result (Unit {0}) StationFault)
      → Judges 1 s (Leaves guard (OfBodies 1 (Asks world around remaining (λ p. p ≡ policy) ahead)) old new s)
      (Asks world around remaining (λ p. p ≡ policy) ahead) paths held holds r
      → Judges 1 s (Leaves guard (OfBodies 1 (AsksNow world around remaining at ahead)) old new s)
      (AsksNow world around remaining at ahead) paths held holds r
  judged_now guard old new s paths held holds r is =
      judged_as guard old new (Asks world around remaining (λ p. p ≡ policy) ahead)
      (AsksNow world around remaining at ahead) asks_now s paths held holds r is

  pub batch_now : {G : Type 0} (guard : register.Ghosts G) (old new : G) (s : State) (bodies : List (List ℕ))
      (held holds : Option (List ℕ)) (r : Result (Unit {0}) StationFault)
      → Judges 64 s (Leaves guard (OfBodies 64 (AsksOf world around remaining (λ p. p ≡ policy) ahead)) old new s)
      (AsksOf world around remaining (λ p. p ≡ policy) ahead) bodies held holds r
      → Judges 64 s (Leaves guard (OfBodies 64 (AsksGiven world around remaining true at ahead)) old new s)
      (AsksGiven world around remaining true at ahead) bodies held holds r
  batch_now guard old new s bodies held holds r is =
      judged_as guard old new (AsksOf world around remaining (λ p. p ≡ policy) ahead)
      (AsksGiven world around remaining true at ahead) given_now s bodies held holds r is

-- ---- paths in a list

map_append : {X : Type 0} (f : X → List ℕ) (a b : List X) → map f (a ++ b) ≡ map f a ++ map f b
map_append f [] b = refl
map_append f (x ∷ a) b = ap (λ t. f x ∷ t) (map_append f a b)

pub next_path : {X : Type 0} (f : X → List ℕ) (xs : List X) (i : ℕ) (x : X) (path : List ℕ) → i < length xs
    → x ≡ get_or xs i x → path ≡ f x → map f (take i xs) ++ path ∷ [] ≡ map f (take (i + 1) xs)
next_path f xs i x path within is same =
    sym (ap (map f) (take_more xs i x within) ∙ map_push f (take i xs) (get_or xs i x)
    ∙ ap (λ p. map f (take i xs) ++ p ∷ []) (ap f (sym is) ∙ sym same))

pub given_after : {X : Type 0} (f : X → List ℕ) (xs : List X) (n : ℕ) → map f (take n xs) ++ map f (drop n xs) ≡ map f xs
given_after f xs n = sym (map_append f (take n xs) (drop n xs)) ∙ ap (map f) (take-append-drop n xs)
