-- A published list is never refused for its version.
use Rattle.std.proofs.Common.{◌≡◌, ℕ, suc, ◌+◌, ◌<◌, ◌≤◌, ◌^◌, List, [], ◌∷◌, ◌++◌, ◌⊎◌, length, Option, Some, None}
use Rattle.std.proofs.Common.{refl, sym, ap, ap₂, subst, ◌∙◌, inl, inr, arith, MatchOption}
use Rattle.std.specs.List.{AllByRecursion}
use Rattle.krl.specs.Contents.{KrlContents, Publishes, list_of}
use Rattle.krl.specs.Format.{IsCut, RevocationList}
use Rattle.krl.specs.Published.{AreOnly}
use Rattle.krl.specs.Sets.{AreRuns}
use Rattle.krl.proofs.Counting.{runs_in_runs}
use Rattle.krl.proofs.Publishing.{only_cut}
use Rattle.list_guard.specs.declared.refusal.Refusal.TheVariants.{VersionJumps}
use Rattle.list_guard.specs.History.{Call, Comes}
use Rattle.list_guard.specs.Machine.{IsApproved, IsNotNext, IsRefused, Question, State, opened}
use Rattle.list_guard.specs.Sizes.{list_size}
use Rattle.list_guard.proofs.Counted.{its_sections}
use Rattle.office.specs.declared.arrival.Arrival.{Arrival}
use Rattle.office.specs.declared.ca.Ca.{Ca}
use Rattle.office.specs.declared.opening.Opening.{Opening}
use Rattle.office.specs.History.{state}
use Rattle.office.specs.Openings.{IsOpening}
use Rattle.office.specs.Publication.{head_of, is_revoked_under, parts_from, published_list, published_parts}
use Rattle.office.specs.Shows.{IsOffice}
use Rattle.office.specs.State.{State as Office, next_serial}
use Rattle.office.proofs.Dates.{date_after}
use Rattle.office.proofs.Growth.{holds_in_range, opening_stays}
use Rattle.office.proofs.Sizes.{last_of}
use Rattle.list_laws.specs.Published.{IsFit, IsPublishedIn, KeepsOneOf, LivesOn, office_list, office_size}
use Rattle.list_laws.proofs.Accounted.{pays_since, version_is_paid}
use Rattle.list_laws.proofs.Growing.{Pays}

-- ---- the bytes of a list

parts_runs : (s : Office) (from : ℕ) (cas : List Ca) → next_serial s ≤ 2 ^ 64
    → AllByRecursion (λ p. AreRuns p.runs) (parts_from s from cas)
parts_runs s from [] le = tt
parts_runs s from (c ∷ cas) le =
    (runs_in_runs (is_revoked_under s from) s.opening.first (length s.certificates) le, parts_runs s (suc from) cas le)

serials_fit : (o : Opening) (l : List Arrival) → IsOpening o → next_serial (state o l) ≤ 2 ^ 64
serials_fit o l is =
    let s = state o l in
    let last : s.opening.last ≡ o.last = ap (λ (x : Opening). x.last) (opening_stays o l) in
    let range : next_serial s ≤ s.opening.last + 1 = holds_in_range o l is in
    let fits = last_of o is in
    omega (arith, last, range, fits)

only_list : (o : Opening) (l : List Arrival) → IsOpening o → (state o l).version < 2 ^ 64 → IsFit (state o l)
    → AreOnly (published_list (state o l)) (office_list (state o l))
only_list o l is low fit =
    let s = state o l in
    let date = date_after o l in
    only_cut (head_of s) (published_parts s) s.revoked_key_ids low (omega (arith, date))
    (parts_runs s 0 s.cas (serials_fit o l is)) fit

-- contents that bytes publish are the only list that the bytes can be
same_list : (bytes : List ℕ) (c : KrlContents) (r : RevocationList) → AreOnly bytes r → Publishes bytes c → list_of c ≡ r
same_list bytes c r only is =
    let cut : IsCut bytes (list_of c) = record {
      header = (is.lawful.version, is.lawful.date, omega arith, omega arith);
      sections = its_sections bytes c is;
      text = is.text;
    } in
    only.one (list_of c) cut

-- its version and its size are the office's
record IsOf (s : Office) (c : KrlContents) : Type 0 where
  version : c.head.version ≡ s.version
  size : list_size (list_of c) ≡ office_size s

is_of : (s : Office) (list : List ℕ) (c : KrlContents) → list ≡ published_list s
    → AreOnly (published_list s) (office_list s) → Publishes list c → IsOf s c
is_of s list c bytes only is =
    let now = subst (λ (b : List ℕ). AreOnly b (office_list s)) (sym bytes) only in
    let same = same_list list c (office_list s) now is in
    record { version = ap (λ (r : RevocationList). r.header.version) same; size = ap list_size same }

module _ (o : Opening) (l : List Arrival) (office : IsOffice o l) where
  -- the version at an earlier time, too, is a number of 64 bits
  low_version : (before since : List Arrival) → l ≡ before ++ since → (state o before).version < 2 ^ 64
  low_version before since history =
      let low : (state o (before ++ since)).version < 9223372036854775807
      = subst (λ (x : List Arrival). (state o x).version < 9223372036854775807) history office.version in
      let up = (pays_since o before since).version in
      omega (arith, low, up)

  of_office : (list : List ℕ) (is : IsPublishedIn o l list) (c : KrlContents) → Publishes list c
      → IsOf (state o is.before) c
  of_office list is c published =
      is_of (state o is.before) list c is.bytes (only_list o is.before office.opening
      (low_version is.before is.since is.history) is.fit) published

-- ---- two moments of a history

-- the second is the first, or later
abbrev Continues : List Arrival → List Arrival → Type 0
Continues l m = (more : List Arrival) × (m ≡ l ++ more)

-- one more arrival before both
behind : (a b : Arrival) (l m : List Arrival) → a ≡ b → Continues l m → Continues (a ∷ l) (b ∷ m)
behind a b l m same (more, is) = (more, ap₂ (λ (x : Arrival) (xs : List Arrival). x ∷ xs) (sym same) is)

one_is_later : (l m rest others : List Arrival) → l ++ rest ≡ m ++ others → Continues l m ⊎ Continues m l
one_is_later [] m rest others e = inl (m, refl)
one_is_later (a ∷ l) [] rest others e = inr (a ∷ l, refl)
one_is_later (a ∷ l) (b ∷ m) rest others e =
    let same : a ≡ b = cc in
    let on : l ++ rest ≡ m ++ others = cc in
    elim (one_is_later l m rest others on) [
      | inl later ↦ inl (behind a b l m same later)
      | inr earlier ↦ inr (behind b a m l (sym same) earlier)
    ]

pays_then : (o : Opening) (l m : List Arrival) → Continues l m → Pays (state o l) (state o m)
pays_then o l m (more, is) = subst (λ (x : List Arrival). Pays (state o l) (state o x)) (sym is) (pays_since o l more)

-- ---- one question

-- the list's version is no higher than its size
jumps_first : (o : Opening) (l : List Arrival) (c : KrlContents) → IsOf (state o l) c
    → list_size (list_of c) < c.head.version → ⊥
jumps_first o l c is jumps =
    let paid = version_is_paid o l in
    let version = is.version in
    let size = is.size in
    omega (arith, paid, version, size, jumps)

-- of two lists the later one's version has grown by no more than its size
jumps_after : (o : Opening) (l m : List Arrival) (c d : KrlContents) → IsOf (state o m) c → IsOf (state o l) d
    → Continues l m ⊎ Continues m l → d.head.version < c.head.version
    → d.head.version + list_size (list_of c) < c.head.version + list_size (list_of d) → ⊥
jumps_after o l m c d new old (inl later) up jumps =
    let paid = (pays_then o l m later).paid in
    let version = new.version in
    let size = new.size in
    let was = old.version in
    let had = old.size in
    omega (arith, paid, version, size, was, had, jumps)
jumps_after o l m c d new old (inr earlier) up jumps =
    let down = (pays_then o m l earlier).version in
    let version = new.version in
    let was = old.version in
    omega (arith, down, version, was, up)

pub never_jumps : (o : Opening) (l : List Arrival) → IsOffice o l → (s : State) (q : Question) → KeepsOneOf o l s
    → IsPublishedIn o l q.list → IsRefused VersionJumps s q → ⊥
never_jumps o l office s q keeps is (c, of, next) = by_last s.last keeps next
  where
    new : IsOf (state o is.before) c
    new = of_office o l office q.list is c of.published

    by_last : (last : Option (List ℕ)) → MatchOption last (Unit {0}) (IsPublishedIn o l)
        → IsNotNext VersionJumps last q c → ⊥
    by_last None keeps jumps = jumps_first o is.before c new jumps.1
    by_last (Some kept) was (d, published, (up, forgets, jumps)) =
        jumps_after o was.before is.before c d new (of_office o l office kept was d published)
        (one_is_later was.before is.before was.since is.since (sym was.history ∙ is.history)) up jumps

-- ---- many calls

call_keeps : (o : Opening) (l : List Arrival) (s t : State) (q : Question) (told : Option (List ℕ)) → Comes s q told t
    → (IsApproved s q → IsPublishedIn o l q.list) → KeepsOneOf o l s → KeepsOneOf o l t
call_keeps o l s t q (Some list) (same, approved, goes) is keeps = subst (KeepsOneOf o l) (sym goes) (is approved)
call_keeps o l s t q None (inl same) is keeps = subst (KeepsOneOf o l) (sym same) keeps
call_keeps o l s t q None (inr (approved, goes)) is keeps = subst (KeepsOneOf o l) (sym goes) (is approved)

calls_keep : (o : Opening) (l : List Arrival) (calls : List Call) (s t : State) → LivesOn o l s calls t
    → KeepsOneOf o l s → KeepsOneOf o l t
calls_keep o l [] s t same keeps = subst (KeepsOneOf o l) (sym same) keeps
calls_keep o l (call ∷ calls) s t (u, comes, is, rest) keeps =
    calls_keep o l calls u t rest (call_keeps o l s u call.asked call.told comes is keeps)

pub never_jumps_on : (o : Opening) (l : List Arrival) → IsOffice o l → (calls : List Call) (s : State) (q : Question)
    → LivesOn o l opened calls s → IsPublishedIn o l q.list → IsRefused VersionJumps s q → ⊥
never_jumps_on o l office calls s q lives = never_jumps o l office s q (calls_keep o l calls opened s lives tt)
