-- A batch of exchanges over a register, some of which are done.
use Rattle.web.proofs.Words.{Answer, Arrival, Ask, Exchange, Given, IsAnswered, List, Opening, [], append_assoc, inl}
use Rattle.web.proofs.Words.{inr, one_of, refl, subst, sym, ℕ, ◌++◌, ◌∷◌, ◌≡◌}
use Rattle.std.proofs.Common.{◌⊎◌}
use Rattle.std.proofs.lemmas.List.{append-nil}
use Rattle.web.specs.declared.exchange.Given.TheVariants.{Fault}
use Rattle.web.specs.Answers.{AsksTheRegister, IsOfTheRegister, with_ask}
use Rattle.web.specs.Runs.{AllDue, HasAnswered, Serves}

-- `HasAnswered` is monotone in its first argument
answered_still : (A B : Type 0) (xs : List Exchange) (given : List Given) → (A → B) → HasAnswered A xs given → HasAnswered B xs given
answered_still A B [] [] f h = f h
answered_still A B [] (g ∷ given) f h = absurd h
answered_still A B (x ∷ xs) [] f h = absurd h
answered_still A B (x ∷ xs) (Answer response ∷ given) f h =
    answered_still (A ⊎ AsksTheRegister x.request) (B ⊎ AsksTheRegister x.request) xs given (λ e. elim e [
      | inl a ↦ inl (f a)
      | inr asks ↦ inr asks
    ]) h
answered_still A B (x ∷ xs) (Fault ∷ given) f h = h

-- the history h is reached, and the results of the remaining exchanges continue from there
pub record Reaches (o : Opening) (now : Opening → List Arrival → Type 0) (is_open : Type 0) (l : List Arrival) (all rest : List Exchange)
    (given : List Given) : Type 0 where
  pub h : List Arrival
  pub means : now o h
  pub due : (more : List Given) (last : List Arrival) → AllDue o h rest more last → AllDue o l all (given ++ more) last
  pub answered : (more : List Given) → HasAnswered ⊥ all (given ++ more) → HasAnswered is_open rest more

abbrev pub IsUnderway : (before now : Opening → List Arrival → Type 0) → (is_open : Type 0) → (all rest : List Exchange) → List Given → Type 0
IsUnderway before now is_open all rest given = (o : Opening) (l : List Arrival) → before o l → Reaches o now is_open l all rest given

pub starts : (means : Opening → List Arrival → Type 0) (is_open : Type 0) (all : List Exchange) → IsUnderway means means is_open all all []
starts means is_open all = λ o l m. record {
  h = l;
  means = m;
  due = λ more last due. due;
  answered = λ more answered. answered_still ⊥ is_open all more (λ none. absurd none) answered;
}

-- the next exchange was answered
goes_on : (before now new : Opening → List Arrival → Type 0) (was_open is_open : Type 0) (all rest : List Exchange) (x : Exchange)
    (given : List Given) (response : List ℕ)
    → IsAnswered now new (λ o l. new o l × is_open) x.request x.moment x.nonce response → (was_open → is_open)
    → IsUnderway before now was_open all (x ∷ rest) given → IsUnderway before new is_open all rest (given ++ Answer response ∷ [])
goes_on before now new was_open is_open all rest x given response answers stays u = λ o l m.
    let r = u o l m in
    let a = answers o r.h r.means in
    let opens : AsksTheRegister x.request → is_open = λ asks.
    let same : asks.0 ≡ a.ask = one_of x.request asks.0 a.ask asks.1 a.asks in
    (a.kept (subst (λ (k : Ask). IsOfTheRegister k) same asks.2)).1 in
    record {
      h = with_ask r.h a.ask x.moment x.nonce;
      means = a.history;
      due = λ more last due.
          subst (λ (g : List Given). AllDue o l all g last) (sym (append_assoc given (Answer response ∷ []) more))
          (r.due (Answer response ∷ more) last (a.ask, a.asks, a.text, a.list, due));
      answered = λ more answered.
          answered_still (was_open ⊎ AsksTheRegister x.request) is_open rest more
          (λ e. elim e [
            | inl opened ↦ stays opened
            | inr asks ↦ opens asks
          ]) (r.answered (Answer response ∷ more)
          (subst (λ (g : List Given). HasAnswered ⊥ all g) (append_assoc given (Answer response ∷ []) more) answered));
    }

-- the next exchange ended with a fault
goes_by : (before now new : Opening → List Arrival → Type 0) (was_open is_open : Type 0) (all rest : List Exchange) (x : Exchange)
    (given : List Given) → ((o : Opening) (l : List Arrival) → now o l → new o l)
    → IsUnderway before now was_open all (x ∷ rest) given → IsUnderway before new is_open all rest (given ++ Fault ∷ [])
goes_by before now new was_open is_open all rest x given same u = λ o l m.
    let r = u o l m in
    record {
      h = r.h;
      means = same o r.h r.means;
      due = λ more last due.
          subst (λ (g : List Given). AllDue o l all g last) (sym (append_assoc given (Fault ∷ []) more)) (r.due (Fault ∷ more) last due);
      answered = λ more answered.
          answered_still ⊥ is_open rest more (λ none. absurd none) (r.answered (Fault ∷ more)
          (subst (λ (g : List Given). HasAnswered ⊥ all g) (append_assoc given (Fault ∷ []) more) answered));
    }

-- the next exchange ended with an answer or a fault
pub goes_with : (before now new : Opening → List Arrival → Type 0) (was_open is_open : Type 0) (all rest : List Exchange) (x : Exchange)
    (given : List Given) (one : Given)
    → ((response : List ℕ) → one ≡ Answer response
    → IsAnswered now new (λ o l. new o l × is_open) x.request x.moment x.nonce response × (was_open → is_open))
    → (one ≡ Fault → (o : Opening) (l : List Arrival) → now o l → new o l)
    → IsUnderway before now was_open all (x ∷ rest) given → IsUnderway before new is_open all rest (given ++ one ∷ [])
goes_with before now new was_open is_open all rest x given (Answer response) answers same =
    let answered = answers response refl in
    goes_on before now new was_open is_open all rest x given response answered.0 answered.1
goes_with before now new was_open is_open all rest x given Fault answers same =
    goes_by before now new was_open is_open all rest x given (same refl)

-- no exchange is left
pub is_done : (before now : Opening → List Arrival → Type 0) (is_open : Type 0) (all : List Exchange) (given : List Given)
    → IsUnderway before now is_open all [] given → Serves before now (λ o l. now o l × is_open) all given
is_done before now is_open all given u = λ o l m.
    let r = u o l m in (
      r.h,
      subst (λ (g : List Given). AllDue o l all g r.h) (append-nil given) (r.due [] r.h refl),
      r.means,
      λ answered. (r.means, r.answered [] (subst (λ (g : List Given). HasAnswered ⊥ all g) (sym (append-nil given)) answered)),
    )
