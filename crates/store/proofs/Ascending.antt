-- Ascending lists, with one more element inserted in order.
use Rattle.store.proofs.Words.{AllByRecursion, Department, IsAscending, Less, List, Ordering, [], all_weaker, ap}
use Rattle.store.proofs.Words.{bytes_eq, bytes_eq-Decides, is_department, is_eq, is_eq-slice_cmp, nat_cmp}
use Rattle.store.proofs.Words.{nat_list_cmp_total, put, put_text, refl, slice_cmp, subst, sym, true, ℕ, ◌∙◌, ◌∷◌, ◌≡◌}
use Rattle.std.proofs.Common.{Equal, Greater}
use Rattle.std.specs.Ordering.{ordering_reverse}
use Rattle.std.specs.FinMap.Entries.{by_order}

abbrev cmp : List ℕ → List ℕ → Ordering
cmp xs ys = slice_cmp nat_cmp xs ys

tied : (xs ys : List ℕ) → cmp xs ys ≡ Equal → xs ≡ ys
tied xs ys e =
    let same : bytes_eq xs ys ≡ true = sym (is_eq-slice_cmp xs ys) ∙ ap is_eq e in
    (bytes_eq-Decides xs ys).0 same

turned : (xs ys : List ℕ) → cmp xs ys ≡ Greater → cmp ys xs ≡ Less
turned xs ys e = nat_list_cmp_total.antisymm ys xs ∙ ap ordering_reverse e

-- ---- one more element in its place

-- a property of all elements still holds of all, whatever the place of the new one
all_step : {A : Type 0} (P : A → Type 0) (o : Ordering) (new e same : A) (es rest : List A) → P new
    → (o ≡ Equal → P same) → AllByRecursion P (e ∷ es) → AllByRecursion P rest
    → AllByRecursion P (by_order o (new ∷ e ∷ es) (same ∷ es) (e ∷ rest))
all_step P Less new e same es rest is tie all later = (is, all)
all_step P Equal new e same es rest is tie all later = (tie refl, all.1)
all_step P Greater new e same es rest is tie all later = (all.0, later)

-- and an ascending list still ascends
up_step : {A : Type 0} (R : A → A → Type 0) (o : Ordering) (new e same : A) (es rest : List A)
    → (o ≡ Less → AllByRecursion (R new) (e ∷ es)) → (o ≡ Equal → AllByRecursion (R same) es)
    → (o ≡ Greater → AllByRecursion (R e) rest) → IsAscending R (e ∷ es) → IsAscending R rest
    → IsAscending R (by_order o (new ∷ e ∷ es) (same ∷ es) (e ∷ rest))
up_step R Less new e same es rest less tie more up later = (less refl, up)
up_step R Equal new e same es rest less tie more up later = (tie refl, up.1)
up_step R Greater new e same es rest less tie more up later = (more refl, later)

-- a text that comes before another comes before all that follow the other
before_all : {A : Type 0} (key : A → List ℕ) (xs ys : List ℕ) (es : List A) → cmp xs ys ≡ Less
    → AllByRecursion (λ e. cmp ys (key e) ≡ Less) es → AllByRecursion (λ e. cmp xs (key e) ≡ Less) es
before_all key xs ys es lt all =
    all_weaker (λ e. cmp ys (key e) ≡ Less) (λ e. cmp xs (key e) ≡ Less)
    (λ e after. nat_list_cmp_total.trans xs ys (key e) lt after) es all

-- ---- departments by name

-- a valid department under its name
abbrev pub IsEntry : List ℕ × Department → Type 0
IsEntry e = (is_department e.1 ≡ true) × (e.0 ≡ e.1.name)

-- the first name comes before the second
abbrev pub AreInOrder : List ℕ × Department → List ℕ × Department → Type 0
AreInOrder a b = cmp a.1.name b.1.name ≡ Less

pub entries_put : (d : Department) (es : List (List ℕ × Department)) → is_department d ≡ true
    → AllByRecursion IsEntry es → AllByRecursion IsEntry (put cmp d.name d es)
entries_put d [] lawful all = ((lawful, refl), tt)
entries_put d (e ∷ es) lawful all =
    all_step IsEntry (cmp d.name e.0) (d.name, d) e (e.0, d) es (put cmp d.name d es) (lawful, refl)
    (λ is. (lawful, sym (tied d.name e.0 is))) all (entries_put d es lawful all.1)

under_put : (n : List ℕ) (d : Department) (es : List (List ℕ × Department)) → cmp n d.name ≡ Less
    → AllByRecursion (λ e. cmp n e.1.name ≡ Less) es → AllByRecursion (λ e. cmp n e.1.name ≡ Less) (put cmp d.name d es)
under_put n d [] lt all = (lt, tt)
under_put n d (e ∷ es) lt all =
    all_step (λ e. cmp n e.1.name ≡ Less) (cmp d.name e.0) (d.name, d) e (e.0, d) es (put cmp d.name d es) lt
    (λ _. lt) all (under_put n d es lt all.1)

pub names_put : (d : Department) (es : List (List ℕ × Department)) → AllByRecursion IsEntry es
    → IsAscending AreInOrder es → IsAscending AreInOrder (put cmp d.name d es)
names_put d [] named up = (tt, tt)
names_put d (e ∷ es) named up =
    up_step AreInOrder (cmp d.name e.0) (d.name, d) e (e.0, d) es (put cmp d.name d es)
    (λ is. let lt = rw named.0.1 at is in (lt, before_all (λ e. e.1.name) d.name e.1.name es lt up.0))
    (λ is. subst (λ n. AllByRecursion (λ e. cmp n e.1.name ≡ Less) es) (sym (tied d.name e.0 is ∙ named.0.1)) up.0)
    (λ is. under_put e.1.name d es (rw named.0.1 at (turned d.name e.0 is)) up.0) up (names_put d es named.1 up.1)

-- ---- key IDs

follow_put : (n t : List ℕ) (ts : List (List ℕ)) → cmp n t ≡ Less → AllByRecursion (λ u. cmp n u ≡ Less) ts
    → AllByRecursion (λ u. cmp n u ≡ Less) (put_text t ts)
follow_put n t [] lt all = (lt, tt)
follow_put n t (u ∷ us) lt all =
    all_step (λ u. cmp n u ≡ Less) (cmp t u) t u u us (put_text t us) lt (λ _. all.0) all (follow_put n t us lt all.1)

pub texts_put : (t : List ℕ) (ts : List (List ℕ)) → IsAscending (λ a b. cmp a b ≡ Less) ts
    → IsAscending (λ a b. cmp a b ≡ Less) (put_text t ts)
texts_put t [] up = (tt, tt)
texts_put t (u ∷ us) up =
    up_step (λ a b. cmp a b ≡ Less) (cmp t u) t u u us (put_text t us) (λ is. (is, before_all (λ v. v) t u us is up.0))
    (λ _. up.0) (λ is. follow_put u t us (turned t u is) up.0) up (texts_put t us up.1)
