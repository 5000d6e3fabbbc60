-- The form of a response, from the calls that made it.
use Rattle.web.proofs.Words.{Answer, Ask, Asks, Certificate, Err, Exchange, Given, Global, IfOk, List, Ok, Result, Vec}
use Rattle.web.proofs.Words.{[], ap, append_assoc, arith, flat_map, get_or, inl, length, length-append, line_among}
use Rattle.web.proofs.Words.{refl, subst, sym, take, ℕ, ◌++◌, ◌+◌, ◌<◌, ◌∙◌, ◌∷◌, ◌≡◌}
use Rattle.std.proofs.Common.{ap₂, append-nil}
use Rattle.std.proofs.lemmas.List.{take_more}
use Rattle.std.proofs.lemmas.List.Concat.{flat_map-append}
use Rattle.std.proofs.lemmas.List.Elements.{All-head, All-tail}
use Rattle.std.specs.Prelude.{IsTrue, OnOk}
use Rattle.krl.specs.declared.ca_part.CaPart.{CaPart}
use Rattle.krl.specs.declared.krl_head.KrlHead.{KrlHead}
use Rattle.krl.specs.Published.{fits, published_text}
use Rattle.http_requests.specs.declared.resource.Resource.TheVariants.{RevocationList}
use Rattle.http_requests.specs.declared.response.MediaType.TheVariants.{Bytes}
use Rattle.http_requests.specs.Responses.{response_text}
use Rattle.office.specs.declared.listing.Revocations.{Revocations}
use Rattle.web.specs.declared.exchange.Given.TheVariants.{Fault}
use Rattle.web.specs.Batches.{Says, table_among}
use Rattle.web.specs.Forms.{HasForm, HaveForms, MayAnswer, MayShow}
use Rattle.web.specs.Answers.{AsksNoChange}
use Rattle.web.specs.Reports.{total_line}
use Rattle.web.specs.Runs.{AreGivenNoChange, AskNoChange, IsGivenNoChange}

-- a property of a text is one of the response with that text
pub of_text : {E : Type 0} (r : Result (Vec ℕ Global) E) (text : List ℕ) (P : List ℕ → Type 0)
    → IfOk r (λ v. v.items ≡ text) → P text → IfOk r (λ v. P v.items)
of_text (Ok v) text P is p = subst P (sym is) p
of_text (Err e) text P is p = tt

-- a list that fits
pub list_form : {E : Type 0} (r : Result (Vec ℕ Global) E) (head : KrlHead) (parts : List CaPart) (ids : List (List ℕ))
    → IfOk r (λ v. v.items ≡ response_text 200 Bytes (published_text head parts ids)) → OnOk r (IsTrue (fits parts ids))
    → IfOk r (λ v. MayShow RevocationList v.items)
list_form (Ok v) head parts ids is sized = (
  published_text head parts ids,
  record { head = head; parts = parts; key_ids = ids; sized = sized; text = refl },
  is,
)
list_form (Err e) head parts ids is sized = tt

-- the response to what the request asks
pub asked_form : {E : Type 0} (r : Result (Vec ℕ Global) E) (request : List ℕ) (ask : Ask) → Asks request ask
    → IfOk r (λ v. MayAnswer ask v.items) → IfOk r (λ v. HasForm request v.items)
asked_form (Ok v) request ask asks form = (ask, asks, form)
asked_form (Err e) request ask asks form = tt

-- ---- the table

-- no certificate yet
pub none_said : (r : Revocations) (text : List ℕ) → Says r [] 0 0 text text
none_said r text = record { places = refl; lines = sym (append-nil text) }

-- two batches
pub both_said : (r : Revocations) (cs ds : List Certificate) (a b c : ℕ) (x y z : List ℕ) → Says r cs a b x y
    → Says r ds b c y z → Says r (cs ++ ds) a c x z
both_said r cs ds a b c x y z first then =
    let f = line_among r in record {
      places = omega (arith, first.places, then.places, length-append cs ds);
      lines = then.lines ∙ ap (λ (t : List ℕ). t ++ flat_map f ds) first.lines
          ∙ append_assoc x (flat_map f cs) (flat_map f ds)
          ∙ ap (λ (t : List ℕ). x ++ t) (sym (flat_map-append f cs ds));
    }

-- the lines of all certificates, and then the total
pub table_said : (r : Revocations) (cs : List Certificate) (count version : ℕ) (before lines report : List ℕ)
    → before ≡ [] → Says r cs 0 count before lines → report ≡ lines ++ total_line count version
    → report ≡ table_among r cs version
table_said r cs count version before lines report none said ended =
    let many : count ≡ length cs = omega (arith, said.places) in
    ended
    ∙ ap₂ (λ (t : List ℕ) (n : ℕ). t ++ total_line n version)
    (said.lines ∙ ap (λ (t : List ℕ). t ++ flat_map (line_among r) cs) none) many

-- ---- successive exchanges

-- one exchange more
more_forms : (xs : List Exchange) (given : List Given) (x : Exchange) (one : Given) → HaveForms xs given
    → ((response : List ℕ) → one ≡ Answer response → HasForm x.request response)
    → HaveForms (xs ++ x ∷ []) (given ++ one ∷ [])
more_forms [] [] x (Answer response) forms form = (form response refl, tt)
more_forms [] [] x Fault forms form = tt
more_forms [] (g ∷ given) x one forms form = absurd forms
more_forms (y ∷ ys) [] x one forms form = absurd forms
more_forms (y ∷ ys) (Answer response ∷ given) x one forms form = (forms.0, more_forms ys given x one forms.1 form)
more_forms (y ∷ ys) (Fault ∷ given) x one forms form = more_forms ys given x one forms form

-- the same for the next of a list
pub next_forms : (xs : List Exchange) (i : ℕ) (x : Exchange) (given now : List Given) (one : Given) → i < length xs
    → x ≡ get_or xs i x → now ≡ given ++ one ∷ [] → HaveForms (take i xs) given
    → ((response : List ℕ) → one ≡ Answer response → HasForm x.request response) → HaveForms (take (i + 1) xs) now
next_forms xs i x given now one lt is pushed forms form =
    let more : take (i + 1) xs ≡ take i xs ++ x ∷ [] =
    take_more xs i x lt ∙ ap (λ (y : Exchange). take i xs ++ y ∷ []) (sym is) in
    subst (λ (ys : List Exchange). HaveForms ys now) (sym more)
    (subst (λ (g : List Given). HaveForms (take i xs ++ x ∷ []) g) (sym pushed)
    (more_forms (take i xs) given x one forms form))

-- if exchanges and one more have changed nothing, each of the two has
both_unchanged : (xs : List Exchange) (given : List Given) (x : Exchange) (one : Given) → HaveForms xs given
    → AreGivenNoChange (xs ++ x ∷ []) (given ++ one ∷ []) → AreGivenNoChange xs given × IsGivenNoChange x one
both_unchanged [] [] x one forms none = (tt, none.0)
both_unchanged [] (g ∷ given) x one forms none = absurd forms
both_unchanged (y ∷ ys) [] x one forms none = absurd forms
both_unchanged (y ∷ ys) (Answer response ∷ given) x one forms none =
    let rest = both_unchanged ys given x one forms.1 none.1 in ((none.0, rest.0), rest.1)
both_unchanged (y ∷ ys) (Fault ∷ given) x one forms none =
    let rest = both_unchanged ys given x one forms none.1 in ((none.0, rest.0), rest.1)

-- the same for the next of a list
pub next_unchanged : (xs : List Exchange) (i : ℕ) (x : Exchange) (given now : List Given) (one : Given) → i < length xs
    → x ≡ get_or xs i x → now ≡ given ++ one ∷ [] → HaveForms (take i xs) given
    → AreGivenNoChange (take (i + 1) xs) now → AreGivenNoChange (take i xs) given × IsGivenNoChange x one
next_unchanged xs i x given now one lt is pushed forms none =
    let more : take (i + 1) xs ≡ take i xs ++ x ∷ [] =
    take_more xs i x lt ∙ ap (λ (y : Exchange). take i xs ++ y ∷ []) (sym is) in
    both_unchanged (take i xs) given x one forms
    (subst (λ (ys : List Exchange). AreGivenNoChange ys (given ++ one ∷ [])) more
    (subst (λ (g : List Given). AreGivenNoChange (take (i + 1) xs) g) pushed none))

-- exchanges that are no messages have changed nothing
pub asked_unchanged : (xs : List Exchange) (given : List Given) → HaveForms xs given → AskNoChange xs
    → AreGivenNoChange xs given
asked_unchanged [] [] forms none = tt
asked_unchanged [] (g ∷ given) forms none = absurd forms
asked_unchanged (x ∷ xs) [] forms none = absurd forms
asked_unchanged (x ∷ xs) (Answer response ∷ given) forms none = (
  inl (All-head (λ y. AsksNoChange y.request) x xs none),
  asked_unchanged xs given forms.1 (All-tail (λ y. AsksNoChange y.request) x xs none),
)
asked_unchanged (x ∷ xs) (Fault ∷ given) forms none =
    (tt, asked_unchanged xs given forms (All-tail (λ y. AsksNoChange y.request) x xs none))
