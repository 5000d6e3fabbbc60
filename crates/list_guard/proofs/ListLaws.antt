-- Sequences of approved lists.
use Rattle.std.proofs.Common.{◌≡◌, ℕ, List, [], ◌∷◌, Option, None, Some, refl, sym, ap}
use Rattle.std.proofs.Common.{subst, ◌∙◌, ◌≤◌, inl, inr, arith}
use Rattle.std.specs.List.{AllByRecursion}
use Rattle.krl.specs.Contents.{KrlContents, ForgetsNothing, IsPublished, Publishes, are_cas_among, list_of}
use Rattle.krl.proofs.Booleans.{clash}
use Rattle.krl.proofs.OneList.{one_list}
use Rattle.list_guard.specs.declared.refusal.Refusal.{Refusal}
use Rattle.list_guard.specs.declared.refusal.Refusal.TheVariants.{
  NotAList,
  OtherCa,
  OlderVersion,
  OtherBytes,
  Forgets,
  NotBegun,
  VersionJumps,
}
use Rattle.list_guard.specs.Machine.{State, Question, ComesAfter, IsApproved, IsLawful, IsNext, IsNotNext, IsOfCas}
use Rattle.list_guard.specs.Machine.{IsRefused, with_last}
use Rattle.list_guard.specs.declared.verdict.Verdict.{Verdict}
use Rattle.list_guard.specs.declared.verdict.Verdict.TheVariants as verdict
use Rattle.list_guard.specs.Judged.{Decided, DecidedAfter}
use Rattle.list_guard.specs.History.{Approves, Call, Comes, ComesLater, Grow, IsAccountedFor, IsLater, Lives, before}
use Rattle.list_guard.specs.History.{stated}
use Rattle.list_guard.specs.Sizes.{list_size}

-- ---- lists that grow

later_on : (a m b : List ℕ) → IsPublished m → ComesLater a m → ComesLater m b → ComesLater a b
later_on a m b between x y c d p q =
    let u = x c between.0 p between.1 in
    let v = y between.0 d between.1 q in
    let up = u.version in
    let on = v.version in
    record {
      version = omega arith;
      same = λ e. u.same (omega arith) ∙ v.same (omega arith);
      kept_revoked = λ blob serial key_id is. v.kept_revoked blob serial key_id (u.kept_revoked blob serial key_id is);
    }

all_later : (a m : List ℕ) (lists : List (List ℕ)) → IsPublished m → ComesLater a m
    → AllByRecursion (ComesLater m) lists → AllByRecursion (ComesLater a) lists
all_later a m [] between x h = tt
all_later a m (b ∷ lists) between x h = (later_on a m b between x h.0, all_later a m lists between x h.1)

-- a list that comes after the kept one is later
next_later : (kept : List ℕ) (q : Question) (c d : KrlContents) → IsOfCas q c → ComesAfter q.list c kept d
    → ComesLater kept q.list
next_later kept q c d of comes x y p r =
    let base : IsLater kept q.list d c = record {
      version = comes.version;
      same = λ e. sym (comes.bytes e);
      kept_revoked = comes.kept_revoked;
    } in
    let old = one_list kept d x comes.published p in
    let new = one_list q.list c y of.published r in
    subst (λ z. IsLater kept q.list z y) old (subst (λ z. IsLater kept q.list d z) new base)

pub grow : (qs : List Question) (s : State) (lists : List (List ℕ)) (t : State) → Approves s qs lists t
    → ((kept : List ℕ) → s.last ≡ Some kept → AllByRecursion (ComesLater kept) lists) × Grow lists
grow [] s lists t h =
    (λ kept is. subst (AllByRecursion (ComesLater kept)) (sym h.0) tt, subst Grow (sym h.0) tt)
grow (q ∷ qs) s lists t (inl taken) =
    let rest = grow qs (with_last q.list) taken.0 t taken.3 in
    let approved = taken.1 in
    let between : IsPublished q.list = (approved.0, approved.1.published) in
    let others = rest.0 q.list refl in (
      λ kept is.
          let next : IsNext (Some kept) q approved.0 = subst (λ o. IsNext o q approved.0) is approved.2 in
          let first = next_later kept q approved.0 next.0 approved.1 next.1 in
          subst (AllByRecursion (ComesLater kept)) (sym taken.2) (first, all_later kept q.list taken.0 between first others),
      subst Grow (sym taken.2) (others, rest.1),
    )
grow (q ∷ qs) s lists t (inr left) = grow qs s lists t left.1

pub lawful : (qs : List Question) (s : State) (lists : List (List ℕ)) (t : State) → Approves s qs lists t → IsLawful s
    → IsLawful t
lawful [] s lists t h is = subst IsLawful (sym h.1) is
lawful (q ∷ qs) s lists t (inl taken) is =
    lawful qs (with_last q.list) taken.0 t taken.3 (taken.1.0, taken.1.1.published)
lawful (q ∷ qs) s lists t (inr left) is = lawful qs s lists t left.1 is

-- ---- calls, with any of their results

-- an approved list is later than the kept one
approved_later : (s : State) (q : Question) (kept : List ℕ) → IsApproved s q → s.last ≡ Some kept → ComesLater kept q.list
approved_later s q kept approved is =
    let next : IsNext (Some kept) q approved.0 = subst (λ o. IsNext o q approved.0) is approved.2 in
    next_later kept q approved.0 next.0 approved.1 next.1

-- these lists are later than the kept one, and grow
abbrev AreLater : State → List (List ℕ) → Type 0
AreLater s lists = ((kept : List ℕ) → s.last ≡ Some kept → AllByRecursion (ComesLater kept) lists) × Grow lists

-- an approved list, followed by lists that are later than it
first_of_all : (s : State) (q : Question) (lists : List (List ℕ)) → IsApproved s q → AreLater (with_last q.list) lists
    → AreLater s (q.list ∷ lists)
first_of_all s q lists approved more =
    let between : IsPublished q.list = (approved.0, approved.1.published) in
    let others = more.0 q.list refl in (
      λ kept is.
          let first = approved_later s q kept approved is in
          (first, all_later kept q.list lists between first others),
      (others, more.1),
    )

one_call : (s u : State) (q : Question) (told : Option (List ℕ)) (lists : List (List ℕ)) → Comes s q told u
    → AreLater u lists → AreLater s (before told lists)
one_call s u q (Some list) lists (same, approved, goes) more = subst (λ l. AreLater s (l ∷ lists)) (sym same)
    (first_of_all s q lists approved (subst (λ t. AreLater t lists) goes more))
one_call s u q None lists (inl same) more = subst (λ t. AreLater t lists) same more
one_call s u q None lists (inr (approved, goes)) more =
    let all = first_of_all s q lists approved (subst (λ t. AreLater t lists) goes more) in
    (λ kept is. (all.0 kept is).1, all.1.1)

pub live : (calls : List Call) (s t : State) → Lives s calls t → AreLater s (stated calls)
live [] s t h = (λ kept is. tt, tt)
live (call ∷ calls) s t (u, comes, rest) =
    one_call s u call.asked call.told (stated calls) comes (live calls u t rest)

-- ---- versions that are accounted for

-- an approved list is accounted for, if the kept one is
next_accounted : (o : Option (List ℕ)) (q : Question) (c : KrlContents)
    → ((kept : List ℕ) → o ≡ Some kept → IsAccountedFor kept) → IsOfCas q c → IsNext o q c → IsAccountedFor q.list
next_accounted None q c was of next x published =
    subst (λ (y : KrlContents). y.head.version ≤ list_size (list_of y)) (one_list q.list c x of.published published) next.1
next_accounted (Some kept) q c was of (d, comes) x published =
    let before = was kept refl d comes.published in
    let grown = comes.accounted in
    let now : c.head.version ≤ list_size (list_of c) = omega arith in
    subst (λ (y : KrlContents). y.head.version ≤ list_size (list_of y)) (one_list q.list c x of.published published) now

pub accounted : (qs : List Question) (s : State) (lists : List (List ℕ)) (t : State) → Approves s qs lists t
    → ((kept : List ℕ) → s.last ≡ Some kept → IsAccountedFor kept) → AllByRecursion IsAccountedFor lists
accounted [] s lists t h was = subst (AllByRecursion IsAccountedFor) (sym h.0) tt
accounted (q ∷ qs) s lists t (inl (others, (c, of, next), same, rest)) was =
    let here = next_accounted s.last q c was of next in
    subst (AllByRecursion IsAccountedFor) (sym same)
    (here, accounted qs (with_last q.list) others t rest (λ kept is. subst IsAccountedFor (some_one q.list kept is) here))
  where
    some_one : (a b : List ℕ) → Some a ≡ Some b → a ≡ b
    some_one a b is = cc
accounted (q ∷ qs) s lists t (inr left) was = accounted qs s lists t left.1 was

-- ---- one question

-- a list comes after itself
pub after_itself : (list : List ℕ) (c : KrlContents) → Publishes list c → ComesAfter list c list c
after_itself list c published = record {
  published = published;
  version = omega arith;
  bytes = λ e. refl;
  kept_revoked = λ blob serial key_id is. is;
  accounted = omega arith;
}

pub again : (s : State) (q : Question) → IsApproved s q → IsApproved (with_last q.list) q
again s q (c, of, next) = (c, of, (c, after_itself q.list c of.published))

-- a list that comes after the kept one isn't refused
not_after : (q : Question) (o : Option (List ℕ)) (c : KrlContents) → IsNext o q c
    → (IsNotNext OlderVersion o q c → ⊥) × (IsNotNext OtherBytes o q c → ⊥) × (IsNotNext Forgets o q c → ⊥)
    × (IsNotNext NotBegun o q c → ⊥) × (IsNotNext VersionJumps o q c → ⊥)
not_after q None c next = (
  λ h. h,
  λ h. h,
  λ h. h,
  λ h. clash q.begins next.0 h,
  λ h. let up = next.1 in let down = h.1 in omega arith,
)
not_after q (Some kept) c (d, comes) = (
  λ h.
      let same = ap (λ (x : KrlContents). x.head.version) (old h.0 h.1) in
      let up = comes.version in
      let down = h.2 in
      omega arith,
  λ h.
      let same = old h.0 h.1 in
      h.2.1 (comes.bytes (ap (λ (x : KrlContents). x.head.version) same ∙ sym h.2.0)),
  λ h. h.2.1 (subst (λ x. ForgetsNothing (list_of x) (list_of c)) (old h.0 h.1) comes.kept_revoked),
  λ h. h.2,
  λ h.
      let same = old h.0 h.1 in
      let version = ap (λ (x : KrlContents). x.head.version) same in
      let size = ap (λ (x : KrlContents). list_size (list_of x)) same in
      let up = comes.accounted in
      let down = h.2.2 in
      omega arith,
)
  where
    old : (x : KrlContents) → Publishes kept x → d ≡ x
    old x p = one_list kept d x comes.published p

pub not_refused : (s : State) (q : Question) (r : Refusal) → IsApproved s q → IsRefused r s q → ⊥
not_refused s q NotAList (c, of, next) h = h (c, of.published)
not_refused s q OtherCa (c, of, next) (x, published, no_ca) =
    let same = one_list q.list c x of.published published in
    clash (are_cas_among q.cas c) of.cas (ap (are_cas_among q.cas) same ∙ no_ca)
not_refused s q OlderVersion (c, of, next) (x, is, h) =
    (not_after q s.last x (subst (IsNext s.last q) (one_list q.list c x of.published is.published) next)).0 h
not_refused s q OtherBytes (c, of, next) (x, is, h) =
    (not_after q s.last x (subst (IsNext s.last q) (one_list q.list c x of.published is.published) next)).1 h
not_refused s q Forgets (c, of, next) (x, is, h) =
    (not_after q s.last x (subst (IsNext s.last q) (one_list q.list c x of.published is.published) next)).2 h
not_refused s q NotBegun (c, of, next) (x, is, h) =
    (not_after q s.last x (subst (IsNext s.last q) (one_list q.list c x of.published is.published) next)).3 h
not_refused s q VersionJumps (c, of, next) (x, is, h) =
    (not_after q s.last x (subst (IsNext s.last q) (one_list q.list c x of.published is.published) next)).4 h

-- ---- verdicts

-- a verdict relative to the kept list is a verdict on the question
pub decided_after : (v : Verdict) (s : State) (q : Question) (c : KrlContents) (kept : List ℕ) (d : KrlContents) → IsOfCas q c
    → s.last ≡ Some kept → Publishes kept d → DecidedAfter v q.list c kept d → Decided v s q
decided_after (verdict.Approve version) s q c kept d of is published h =
    (c, of, subst (λ o. IsNext o q c) (sym is) (d, h.0), h.1)
decided_after (verdict.Again version) s q c kept d of is published h = absurd h
decided_after (verdict.Refuse NotAList) s q c kept d of is published h = absurd h
decided_after (verdict.Refuse OtherCa) s q c kept d of is published h = absurd h
decided_after (verdict.Refuse OlderVersion) s q c kept d of is published h =
    (c, of, subst (λ o. IsNotNext OlderVersion o q c) (sym is) (d, published, h))
decided_after (verdict.Refuse OtherBytes) s q c kept d of is published h =
    (c, of, subst (λ o. IsNotNext OtherBytes o q c) (sym is) (d, published, h))
decided_after (verdict.Refuse Forgets) s q c kept d of is published h =
    (c, of, subst (λ o. IsNotNext Forgets o q c) (sym is) (d, published, h))
decided_after (verdict.Refuse NotBegun) s q c kept d of is published h = absurd h
decided_after (verdict.Refuse VersionJumps) s q c kept d of is published h =
    (c, of, subst (λ o. IsNotNext VersionJumps o q c) (sym is) (d, published, h))
