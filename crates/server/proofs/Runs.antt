-- Connections in succession.
use Rattle.server.proofs.Words.{AllDue, Appends, Appends-trans, AreServed, Arrival, Book, Consumes, Consumes-nil, Err}
use Rattle.server.proofs.Words.{Fault, Ghosts, List, MeetsTold, Ok, Opening, Option, Result, TellsVisit, Visit}
use Rattle.server.proofs.Words.{ServesConnections}
use Rattle.server.proofs.Words.{Visits, WhereTold, [], answered, ap, append-nil, arith, closed, cut, exchange_of}
use Rattle.server.proofs.Words.{given_of, inl, inr, length, length-append, map, refl, subst, sym, with_ask, ℕ, ◌++◌}
use Rattle.server.proofs.Words.{◌+◌, ◌∙◌, ◌∷◌, ◌≡◌, ◌≤◌}
use Rattle.std.proofs.Common.{◌⊎◌}
use Rattle.std.specs.Prelude.{All, flat_map}
use Rattle.std.proofs.KnownBytes.{Appends-nil, Consumes-trans}
use Rattle.std.proofs.lemmas.List.{append_assoc}
use Rattle.std.proofs.lemmas.List.Concat.{flat_map-append}
use Rattle.std.proofs.lemmas.List.Elements.{All-cons, All-head, All-nil, All-tail}
use Rattle.web.specs.Answers.{AsksTheRegister}
use Rattle.web.specs.Runs.{HasAnswered}
use Rattle.server.specs.Connections.{ChangesNothing, EndsWith, IfGiven}
use Rattle.server.specs.Connections.{TellsAll, drawn_of}
use Rattle.server.specs.Connections.{fault_line, visit_line, visit_lines}
use Rattle.server.specs.Names.{connection_line}

-- one more visit in the book, at the end
told_more : (visits : List Visit) (visit : Visit) (old mid new : Option Book) → TellsAll visits old mid
    → WhereTold (TellsVisit visit) mid new → TellsAll (visits ++ visit ∷ []) old new
told_more [] visit old mid new first last =
    (new, subst (λ (b : Option Book). WhereTold (TellsVisit visit) b new) first last, refl)
told_more (v ∷ visits) visit old mid new first last =
    (first.0, first.1, told_more visits visit first.0 mid new first.2 last)

-- one more visit that draws nonces, at the end
drawn_more : (visits : List Visit) (visit : Visit) (old mid new : Option (List ℕ))
    → Consumes old mid (flat_map drawn_of visits) → Consumes mid new (drawn_of visit) → Consumes old new (flat_map drawn_of (visits ++ visit ∷ []))
drawn_more visits visit old mid new first last =
    let same : flat_map drawn_of visits ++ drawn_of visit ≡ flat_map drawn_of (visits ++ visit ∷ []) =
    ap (λ (t : List ℕ). flat_map drawn_of visits ++ t) (sym (append-nil (drawn_of visit)))
    ∙ sym (flat_map-append drawn_of visits (visit ∷ [])) in
    subst (Consumes old new) same (Consumes-trans old mid new (flat_map drawn_of visits) (drawn_of visit) first last)

-- one more specified response or fault, at the end
due_more : (o : Opening) (visits : List Visit) (visit : Visit) (old mid new : List Arrival)
    → AllDue o old (map exchange_of visits) (map given_of visits) mid
    → AllDue o mid (exchange_of visit ∷ []) (given_of visit ∷ []) new
    → AllDue o old (map exchange_of (visits ++ visit ∷ [])) (map given_of (visits ++ visit ∷ [])) new
due_more o [] visit old mid new first last =
    subst (λ (l : List Arrival). AllDue o l (exchange_of visit ∷ []) (given_of visit ∷ []) new) first last
due_more o (answered talk ∷ visits) visit old mid new first last =
    let x = talk.exchange in
    let next = with_ask old first.0 x.moment x.nonce in
    (first.0, first.1, first.2, first.3, due_more o visits visit next mid new first.4 last)
due_more o (cut talk ∷ visits) visit old mid new first last =
    let x = talk.exchange in
    let next = with_ask old first.0 x.moment x.nonce in
    (first.0, first.1, first.2, first.3, due_more o visits visit next mid new first.4 last)
due_more o (closed silence ∷ visits) visit old mid new first last = due_more o visits visit old mid new first last

-- if the register has answered after one more visit, it had answered before it, or it answered this visit
answered_more : (so_far : Type 0) (visits : List Visit) (visit : Visit)
    → HasAnswered so_far (map exchange_of (visits ++ visit ∷ [])) (map given_of (visits ++ visit ∷ []))
    → HasAnswered (HasAnswered so_far (map exchange_of visits) (map given_of visits)) (exchange_of visit ∷ [])
    (given_of visit ∷ [])
answered_more so_far [] visit h = h
answered_more so_far (answered talk ∷ visits) visit h =
    answered_more (so_far ⊎ AsksTheRegister talk.exchange.request) visits visit h
answered_more so_far (cut talk ∷ visits) visit h =
    answered_more (so_far ⊎ AsksTheRegister talk.exchange.request) visits visit h
answered_more so_far (closed silence ∷ visits) visit h = answered_more ⊥ visits visit h

-- a register that was open if it had answered is open if it has answered now
opens : {T : Type 0} (visit : Visit) (result : Result T Fault) (had was_open is_open : Type 0) → EndsWith visit result
    → IfGiven result (was_open → is_open) → (had → was_open)
    → (HasAnswered ⊥ (exchange_of visit ∷ []) (given_of visit ∷ []) → is_open)
    → HasAnswered had (exchange_of visit ∷ []) (given_of visit ∷ []) → is_open
opens (answered talk) (Ok t) had was_open is_open ends stays opened now h = elim h [
  | inl before ↦ stays (opened before)
  | inr asks ↦ now (inr asks)
]
opens (answered talk) (Err fault) had was_open is_open ends stays opened now h = absurd ends
opens (cut talk) (Ok t) had was_open is_open ends stays opened now h = absurd ends
opens {T} (cut talk) (Err fault) had was_open is_open ends stays opened now h =
    let still : was_open → is_open = subst (λ (f : Fault). IfGiven {A = T} (Err f) (was_open → is_open)) ends stays in
    elim h [
      | inl before ↦ still (opened before)
      | inr asks ↦ now (inr asks)
    ]
opens (closed silence) result had was_open is_open ends stays opened now h = absurd h

-- one more served visit, at the end
served_more : {S T : Type 0} (register : Ghosts S) (visits : List Visit) (visit : Visit) (result : Result T Fault)
    (s0 s1 s2 : S) → EndsWith visit result → AreServed register s0 s1 visits → AreServed register s1 s2 (visit ∷ [])
    → (register.is_honest s2 → register.is_honest s1)
    → (register.is_honest s2 → IfGiven result (register.is_open s1 → register.is_open s2))
    → AreServed register s0 s2 (visits ++ visit ∷ [])
served_more register visits visit result s0 s1 s2 ends first last back stays = λ h o l m.
    let a = first (back h) o l m in
    let b = last h o a.0 a.2 in (
      b.0,
      due_more o visits visit l a.0 b.0 a.1 b.1,
      b.2,
      λ answers. (
        b.2,
        opens visit result _ (register.is_open s1) (register.is_open s2) ends (stays h) (λ had. (a.3 had).1)
            (λ now. (b.3 now).1) (answered_more ⊥ visits visit answers),
      ),
    )

-- the visits before the last have changed nothing if none has
first_change_nothing : (visits : List Visit) (visit : Visit) → All ChangesNothing (visits ++ visit ∷ [])
    → All ChangesNothing visits
first_change_nothing [] visit none = All-nil ChangesNothing
first_change_nothing (v ∷ visits) visit none = All-cons ChangesNothing v visits
    (All-head ChangesNothing v (visits ++ visit ∷ []) none)
    (first_change_nothing visits visit (All-tail ChangesNothing v (visits ++ visit ∷ []) none))

-- nor has the last
last_changes_nothing : (visits : List Visit) (visit : Visit) → All ChangesNothing (visits ++ visit ∷ [])
    → All ChangesNothing (visit ∷ [])
last_changes_nothing [] visit none = none
last_changes_nothing (v ∷ visits) visit none = last_changes_nothing visits visit
    (All-tail ChangesNothing v (visits ++ visit ∷ []) none)

-- zero connections change nothing
pub meets_none : {S : Type 0} (book : Option Book) (source : Option (List ℕ)) (register : Ghosts S) (s : S)
    → register.is_as_before s s → ServesConnections 0 book book source source register s s
meets_none book source register s unasked = record {
  visits = [];
  all = refl;
  told = refl;
  drawn = Consumes-nil source;
  served = λ h o l m. (l, refl, m, λ none. absurd none);
  reads = λ none honest is. unasked;
}

-- one more connection
pub meets_more : {S T : Type 0} (n : ℕ) (result : Result T Fault) (b0 b1 b2 : Option Book) (n0 n1 n2 : Option (List ℕ))
    (register : Ghosts S) (s0 s1 s2 : S) → ServesConnections n b0 b1 n0 n1 register s0 s1
    → Visits result b1 b2 n1 n2 register s1 s2 → (register.is_honest s2 → register.is_honest s1)
    → (register.is_honest s2 → IfGiven result (register.is_open s1 → register.is_open s2))
    → (register.is_honest s2 → register.is_open s2 → register.is_open s1)
    → (register.is_as_before s0 s1 → register.is_as_before s1 s2 → register.is_as_before s0 s2)
    → ServesConnections (n + 1) b0 b2 n0 n2 register s0 s2
meets_more n result b0 b1 b2 n0 n1 n2 register s0 s1 s2 m v back stays was_open through =
    let all : length (m.visits ++ v.visit ∷ []) ≡ n + 1 = omega (arith, length-append m.visits (v.visit ∷ []), m.all) in
    record {
      visits = m.visits ++ v.visit ∷ [];
      all = all;
      told = told_more m.visits v.visit b0 b1 b2 m.told v.told;
      drawn = drawn_more m.visits v.visit n0 n1 n2 m.drawn v.drawn;
      served = served_more register m.visits v.visit result s0 s1 s2 v.ends m.served v.served back stays;
      reads = λ none honest is. through
          (m.reads (first_change_nothing m.visits v.visit none) (back honest) (was_open honest is))
          (v.reads (last_changes_nothing m.visits v.visit none) honest is);
    }

-- ---- what is printed

-- a visit that ends with a result has the result's line
same_line : {T : Type 0} (number : ℕ) (visit : Visit) (result : Result T Fault) → EndsWith visit result
    → fault_line number result ≡ visit_line number visit
same_line number (answered talk) (Ok t) ends = refl
same_line number (answered talk) (Err fault) ends = absurd ends
same_line number (cut talk) (Ok t) ends = absurd ends
same_line number (cut talk) (Err fault) ends = ap (connection_line number) ends
same_line number (closed silence) (Ok t) ends = absurd ends
same_line number (closed silence) (Err fault) ends = ap (connection_line number) (sym ends)

-- one more line, at the end
lines_more : (number : ℕ) (visits : List Visit) (visit : Visit)
    → visit_lines number visits ++ visit_line (number + length visits) visit ≡ visit_lines number (visits ++ visit ∷ [])
lines_more number [] visit =
    let here : number + 0 ≡ number = omega arith in
    ap (λ n. visit_line n visit) here ∙ sym (append-nil (visit_line number visit))
lines_more number (v ∷ visits) visit =
    let there : number + length (v ∷ visits) ≡ number + 1 + length visits = omega arith in
    ap (λ n. (visit_line number v ++ visit_lines (number + 1) visits) ++ visit_line n visit) there
    ∙ append_assoc (visit_line number v) (visit_lines (number + 1) visits) (visit_line (number + 1 + length visits) visit)
    ∙ ap (λ l. visit_line number v ++ l) (lines_more (number + 1) visits visit)

-- zero connections print nothing
pub told_none : {S : Type 0} (book : Option Book) (source : Option (List ℕ)) (register : Ghosts S) (s : S) (failed : ℕ)
    (taken : Option (List ℕ)) → register.is_as_before s s
    → MeetsTold 0 book book source source register s s failed failed taken taken
unfolding meets_none
told_none book source register s failed taken unasked =
    record { meets = meets_none book source register s unasked; lines = λ same. Appends-nil taken }

-- one more connection, whose line is printed if the output doesn't fail
pub told_one_more : {S T : Type 0} (n : ℕ) (result : Result T Fault) (b0 b1 b2 : Option Book)
    (n0 n1 n2 : Option (List ℕ)) (register : Ghosts S) (s0 s1 s2 : S) (f0 f1 f2 : ℕ) (t0 t1 t2 : Option (List ℕ))
    → MeetsTold n b0 b1 n0 n1 register s0 s1 f0 f1 t0 t1
    → Visits result b1 b2 n1 n2 register s1 s2 → (register.is_honest s2 → register.is_honest s1)
    → (register.is_honest s2 → IfGiven result (register.is_open s1 → register.is_open s2))
    → (register.is_honest s2 → register.is_open s2 → register.is_open s1)
    → (register.is_as_before s0 s1 → register.is_as_before s1 s2 → register.is_as_before s0 s2)
    → f0 ≤ f1 → f1 ≤ f2 → (f2 ≡ f1 → Appends t1 t2 (fault_line (n + 1) result))
    → MeetsTold (n + 1) b0 b2 n0 n2 register s0 s2 f0 f2 t0 t2
unfolding meets_more
told_one_more n result b0 b1 b2 n0 n1 n2 register s0 s1 s2 f0 f1 f2 t0 t1 t2 m v back stays was_open through low
    high told = record {
      meets = meets_more n result b0 b1 b2 n0 n1 n2 register s0 s1 s2 m.meets v back stays was_open through;
      lines = λ same.
          let first : f1 ≡ f0 = omega (arith, same, low, high) in
          let last : f2 ≡ f1 = omega (arith, same, low, high) in
          let at : n + 1 ≡ 1 + length m.meets.visits = omega (arith, m.meets.all) in
          let line : fault_line (n + 1) result ≡ visit_line (1 + length m.meets.visits) v.visit =
          same_line (n + 1) v.visit result v.ends ∙ ap (λ k. visit_line k v.visit) at in
          subst (Appends t0 t2) (lines_more 1 m.meets.visits v.visit)
          (Appends-trans t0 t1 t2 (visit_lines 1 m.meets.visits) (visit_line (1 + length m.meets.visits) v.visit)
          (m.lines first) (subst (Appends t1 t2) line (told last)));
    }
