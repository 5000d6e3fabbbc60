-- Judging bodies one after the other before any of them is kept.
use Rattle.std.proofs.Common.{◌≡◌, ◌≤◌, ◌<◌, ◌^◌, ◌++◌, ◌∷◌, ◌∙◌, [], ℕ, List, Bool, true, false, cond, Option, Some, None}
use Rattle.std.proofs.Common.{append_assoc, ap, arith, length, refl, subst, sym}
use Rattle.std.specs.Prelude.{find, nat_lt, not, ◌==◌, ◌||◌}
use Rattle.std.specs.Option.{option_map, option_or}
use Rattle.std.specs.Result.{result_ok}
use Rattle.std.specs.Str.{bytes_eq}
use Rattle.std.proofs.lemmas.Bool.{ltb-false, or_parts}
use Rattle.std.proofs.lemmas.List.{append-nil}
use Rattle.std.proofs.lemmas.List.Elements.{All-nil, All-push}
use Rattle.std.proofs.lemmas.List.Folds.{find-append}
use Rattle.std.proofs.lemmas.List.Sums.{fold-append}
use Rattle.cert.specs.Reading.{body_at}
use Rattle.cert.specs.declared.fields.CertFields.{CertFields}
use Rattle.guard.specs.declared.approved.Approved.{Approved}
use Rattle.guard.specs.declared.judging.Answer.{Answer}
use Rattle.guard.specs.declared.refusal.Refusal.TheVariants.{OtherCa, OtherSerial}
use Rattle.guard.specs.declared.verdict.Verdict.TheVariants as verdict
use Rattle.guard.specs.Decided.{Decided}
use Rattle.guard.specs.Judged.{AreAnswers, AreNew, Answers, IsKeepable, IsKept}
use Rattle.guard.specs.Machine.{State, Question, after, after_all, body_of, fields_of, refusal_of, row_of, with_approved}
use Rattle.guard.specs.Machine.{with_rows}
use Rattle.guard.specs.Weighing.{HaveRoom, Settles, Weighs, WeighsAll}
use Rattle.guard.proofs.Allowed.{none_holds, signed}

-- ---- rows

pub none_more : (s : State) → with_rows s [] ≡ s
none_more s = ap (λ (all : List Approved). record s { approved = all }) (append-nil s.approved)

pub rows_more : (s : State) (rows : List Approved) (row : Approved)
    → with_rows s (rows ++ row ∷ []) ≡ with_approved (with_rows s rows) row
rows_more s rows row =
    ap (λ (all : List Approved). record s { approved = all }) (sym (append_assoc s.approved rows (row ∷ [])))

pub rows_first : (s : State) (row : Approved) (rows : List Approved)
    → with_rows (with_approved s row) rows ≡ with_rows s (row ∷ rows)
rows_first s row rows =
    ap (λ (all : List Approved). record s { approved = all }) (append_assoc s.approved (row ∷ []) rows)

new_more : (s : State) (rows : List Approved) (row : Approved) → AreNew s rows
    → body_of (with_rows s rows) row.serial ≡ None → AreNew s (rows ++ row ∷ [])
new_more s [] row are none = (subst (λ (t : State). body_of t row.serial ≡ None) (none_more s) none, tt)
new_more s (a ∷ rows) row are none = (
  are.0,
  new_more (with_approved s a) rows row are.1
      (subst (λ (t : State). body_of t row.serial ≡ None) (sym (rows_first s a rows)) none),
)

-- the body under a serial is that of the state, or else that of the rows
pub body_among : (s : State) (rows : List Approved) (serial : ℕ) (kept : Option (List ℕ)) → kept ≡ body_of s serial
    → option_or kept (option_map (λ a. a.body) (find (λ a. a.serial == serial) rows)) ≡ body_of (with_rows s rows) serial
body_among s rows serial kept is =
    let p : Approved → Bool = λ a. a.serial == serial in
    ap (λ o. option_or o (option_map (λ (a : Approved). a.body) (find p rows))) is
    ∙ sym (ap (option_map (λ (a : Approved). a.body)) (find-append p s.approved rows)
    ∙ either (find p s.approved) (find p rows))
  where
    either : (o other : Option Approved) → option_map (λ a. a.body) (option_or o other)
        ≡ option_or (option_map (λ a. a.body) o) (option_map (λ a. a.body) other)
    either None other = refl
    either (Some a) other = refl

-- ---- one body

short : (bytes : List ℕ) (c : CertFields) → fields_of bytes ≡ Some c → length bytes ≤ 16384
short bytes c e = by_length (nat_lt 16384 (length bytes)) refl e
  where
    by_length : (long : Bool) → nat_lt 16384 (length bytes) ≡ long
        → cond long None (result_ok (body_at bytes)) ≡ Some c → length bytes ≤ 16384
    by_length true is e = absurd cc
    by_length false is e = ltb-false _ _ is

-- a body that isn't refused has a serial up to the last one
to_last : (s : State) (q : Question) (c : CertFields) → fields_of q.body ≡ Some c → refusal_of s q ≡ None
    → c.serial ≤ s.scope.last
to_last s q c fields none =
    let is = signed s q none in
    let same : is.0 ≡ c = same_some (sym is.1.fields ∙ fields) in
    let out : Bool = nat_lt is.0.serial s.scope.first || nat_lt s.scope.last is.0.serial in
    let r = none_holds ((OtherCa, not (bytes_eq is.0.ca s.scope.ca)) ∷ (OtherSerial, out) ∷ []) is.1.scope in
    let range = or_parts _ _ r.1.0 in
    subst (λ (x : CertFields). x.serial ≤ s.scope.last) same (ltb-false _ _ range.1)
  where
    same_some : {x y : CertFields} → Some x ≡ Some y → x ≡ y
    same_some e = cc

-- a body that has to be kept: its row is the next one
pub approved_settles : (s : State) (old : List Approved) (row : Approved) (q : Question) (c : CertFields)
    → row ≡ row_of q c → fields_of q.body ≡ Some c → Decided verdict.Approve (with_rows s old) q c
    → Settles s old (old ++ row ∷ []) q
approved_settles s old row q c same fields decided = record {
  next = rows_more s old row ∙ (ap (with_approved (with_rows s old)) same ∙ sym decided.2);
  free = λ are. new_more s old row are
      (subst (λ (a : Approved). body_of (with_rows s old) a.serial ≡ None) (sym same) decided.1);
  room = λ room low time. All-push IsKeepable old row (room low time)
      (subst IsKeepable (sym same)
      (let most = to_last (with_rows s old) q c fields decided.0 in
      record { serial = omega (arith, most, low); moment = time; body = short q.body c fields }));
}

-- ---- several bodies

answers_more : (answers : List Answer) (s : State) (questions : List Question) (a : Answer) (q : Question)
    → AreAnswers answers s questions → Answers a (after_all s questions) q
    → IsKept a (after (after_all s questions) q) q.body → AreAnswers (answers ++ a ∷ []) s (questions ++ q ∷ [])
answers_more [] s [] a q are is kept = (is, kept, tt)
answers_more (b ∷ answers) s (p ∷ questions) a q are is kept =
    (are.0, are.1, answers_more answers (after s p) questions a q are.2 is kept)
answers_more [] s (p ∷ questions) a q are is kept = absurd are
answers_more (b ∷ answers) s [] a q are is kept = absurd are

pub none_weighed : (moment : ℕ) (s : State) → WeighsAll moment [] s [] []
none_weighed moment s =
    record { are = tt; next = none_more s; free = tt; room = λ low time. All-nil IsKeepable }

-- and then one more
pub one_weighed : (moment : ℕ) (answers : List Answer) (s : State) (old new : List Approved)
    (questions : List Question) (a : Answer) (q : Question) → q.moment ≡ moment
    → WeighsAll moment answers s old questions → Weighs a s old new q
    → WeighsAll moment (answers ++ a ∷ []) s new (questions ++ q ∷ [])
one_weighed moment answers s old new questions a q time all one = record {
  are = answers_more answers s questions a q all.are
      (subst (λ (t : State). Answers a t q) all.next one.answers)
      (subst (λ (t : State). IsKept a (after t q) q.body) all.next one.kept);
  next = one.settles.next ∙ (ap (λ (t : State). after t q) all.next ∙ sym (fold-append after s questions (q ∷ [])));
  free = one.settles.free all.free;
  room = subst (λ (m : ℕ). HaveRoom s m new) time
      (one.settles.room (subst (λ (m : ℕ). HaveRoom s m old) (sym time) all.room));
}
