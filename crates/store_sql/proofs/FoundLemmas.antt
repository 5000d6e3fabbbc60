-- From the meaning of a text to the effect of a call with it, and from a query's rows to a call's result.
use Rattle.store_sql.proofs.Words.{Changes, Command, CommitsBy, Contents, Damaged, Database, Device, Does, Err, Error}
use Rattle.store_sql.proofs.Words.{Executes, FailsToQuery, Fault, FindsIn, FindsOne, Global, HasCause, Holds, IfErr}
use Rattle.store_sql.proofs.Words.{IfOk, IsAnswer, IsDone, IsFirstRead, IsOneOf, IsPermutation, IsPlain, IsEachRead}
use Rattle.store_sql.proofs.Words.{IsSound, IsUnchanged, IsWrite, Kept, MayLeave, List, Means, Misread, NoMemory, None}
use Rattle.store_sql.proofs.Words.{Null, Ok, OnOk, OnlyReads, Option, Query, Result, Row, Runs, Schema, Select, Shown}
use Rattle.store_sql.proofs.Words.{Some, State, Tally, Trees, Vec, Writes, [], ap, ap₂, arith, command_of, false}
use Rattle.store_sql.proofs.Words.{fault_of, get_or, if◌then◌else◌, inl, is_out_of_memory, length, length-map}
use Rattle.store_sql.proofs.Words.{length_permutation, map, overlay, reads_as, reads_listing, refl, runs_as}
use Rattle.store_sql.proofs.Words.{statement_of, subst, suc, sym, take, true, understood, whole, zero, ℕ, ◌+◌, ◌++◌}
use Rattle.store_sql.proofs.Words.{◌<◌, ◌∙◌, ◌∷◌, ◌≡◌, ◌≢◌}
use Rattle.store_sql.specs.Done.{IsFirst}
use Rattle.std.proofs.Common.{set}
use Rattle.std.specs.List.{swap}
use Rattle.std.specs.List.Sorted.{SwapsInRange, apply_swaps}
use Rattle.std.proofs.Common.{add-one}
use Rattle.std.proofs.Math.Seq.{take-suc}
use Rattle.std.proofs.lemmas.List.{map-append, map-set}
use Rattle.store_sql.specs.Calls.{Fails}
use Rattle.store_sql.proofs.Statements.{mode, stopped, commits_as}
use Rattle.store_sql.proofs.Queries.{query_stopped, shown_unchanged}

-- if `Has a` holds of the database: the rows are those of the structs `of a`, in some order, and nothing has changed;
-- or the query fails
abbrev pub Shows : {A X : Type 0} → (A → Database → Type 0) → (X → Row) → (A → List X) → State → State
    → Result (Vec Row Global) Error → Type 0
Shows {A} Has cells of old new (Ok rows) = (a : A) → Has a old.now → IsUnchanged old new
    × IsPermutation (map cells (of a)) rows.items
Shows {A} Has cells of old new (Err e) = Fails old new

-- a text that is a write, from the effect of its command
module _ (sql : List ℕ) (params : Row) (command : Command) (is : command_of (understood whole sql) ≡ command)
    (plain : IsPlain (understood whole sql)) (writes : IsWrite command)
    (is_write : (old new : State) (text : List ℕ) (count : ℕ) → Runs old new None command text params count
    → Writes old new None command text params count) (after : Contents → Contents)
    (does : (limit : Option ℕ) (db next : Database) (tally : Tally) (c : Contents) → Means db c
    → Does limit mode params db (statement_of sql (understood whole sql)) None command (Ok (tally, next))
    → (next.schema ≡ whole) × Holds next.trees (after c)) where
  pub changes : (old new : State) (r : Result ℕ Error) → Executes sql params old new r → Changes after old new r
  changes old new (Err e) h = stopped sql params old new e h
  changes old new (Ok count) h = λ c means.
      let w = is_write old new _ count (runs_as sql params old new whole means.schema command is plain count h) in
      let next = does old.step_limit old.now new.now w.tally c means w.changed in
      record {
        was_open = w.shown.was_open;
        is_open = w.shown.is_open;
        means = record {
          schema = next.0;
          kept = record { sound = subst (λ s. IsSound s new.now.trees) next.0 w.sound; holds = next.1 };
        };
        committed = w.shown.committed_is;
        mode = w.shown.mode;
        marks = w.marks;
      }

  pub leaves : (old : State) (trees : Trees) → CommitsBy sql params old trees → MayLeave after old trees
  leaves old trees h c means =
      let all = commits_as sql params old whole means.schema command is plain writes trees h in
      let next = does old.step_limit old.now all.2 all.1 c means all.3 in (
        all.0,
        subst (λ t. Kept t (after c)) (sym all.5)
            (record { sound = subst (λ s. IsSound s all.2.trees) next.0 all.4; holds = next.1 }),
      )

-- a text that is a query, from its answer
module _ {A X : Type 0} (schema : Schema) (Has : A → Database → Type 0) (Held : Trees → A → Type 0)
    (known : (a : A) (db : Database) → Has a db → (db.schema ≡ schema) × Held db.trees a) (sql : List ℕ) (params : Row)
    (query : Query) (names : List (List ℕ))
    (is : command_of (understood schema sql) ≡ Select (record { lets = []; body = query }) names)
    (plain : IsPlain (understood schema sql)) (unlisted : reads_listing schema sql ≡ false) (cells : X → Row)
    (of : A → List X) (answers : (trees : Trees) (rows : List Row) (a : A) → Held trees a
    → IsAnswer query (overlay trees []) params rows → IsPermutation (map cells (of a)) rows) where
  pub finds : (old new : State) (r : Result (Vec Row Global) Error)
      → IfOk r (λ rows. Shown sql params old new rows.items) → IfErr r (FailsToQuery sql params old new)
      → Shows Has cells of old new r
  finds old new (Err e) ok err = query_stopped sql params old new e err
  finds old new (Ok rows) ok err = λ a has.
      let it = known a old.now has in (
        shown_unchanged sql params old new rows.items (subst (λ s. IsPlain (understood s sql)) (sym it.0) plain) ok,
        answers old.now.trees rows.items a it.1
            ((reads_as sql params old new schema it.0 _ is plain unlisted rows.items ok).answer Null),
      )

-- ---- from the effect of a statement to that of a call

-- a claim about the statement holds of the call
pub done_as : {X : Type 0} (P : Result ℕ Error → Type 0) (Q : Result X Fault → Type 0)
    → ((n : ℕ) (x : X) → P (Ok n) → Q (Ok x)) → ((e : Error) → P (Err e) → Q (Err (fault_of e)))
    → (answer : Result ℕ Error) (r : Result X Fault) → IsDone answer r → P answer → Q r
done_as P Q done failed (Ok n) (Ok x) is h = done n x h
done_as P Q done failed (Ok n) (Err f) is h = absurd is
done_as P Q done failed (Err e) (Ok x) is h = absurd is
done_as P Q done failed (Err e) (Err f) is h = subst (λ g. Q (Err g)) (sym is) (failed e h)

-- a fault has the properties of its error
pub fault_done : {X : Type 0} (P : Fault → Type 0) (answer : Result ℕ Error) (r : Result X Fault) → IsDone answer r
    → IfErr answer (λ e. P (fault_of e)) → IfErr r P
fault_done P answer r is h =
    done_as (λ a. IfErr a (λ e. P (fault_of e))) (λ a. IfErr a P) (λ n x h. tt) (λ e h. h) answer r is h

-- ---- a permutation of images is the images of a permutation

module _ {X Y : Type 0} (f : X → Y) where
  get_or-map : (xs : List X) (j : ℕ) (d : X) → get_or (map f xs) j (f d) ≡ f (get_or xs j d)
  get_or-map [] j d = refl
  get_or-map (x ∷ xs) zero d = refl
  get_or-map (x ∷ xs) (suc j) d = get_or-map xs j d

  map-swap : (xs : List X) (i j : ℕ) → map f (swap xs i j) ≡ swap (map f xs) i j
  map-swap [] i j = refl
  map-swap (d ∷ ys) i j = map-set f (set (d ∷ ys) i (get_or (d ∷ ys) j d)) j (get_or (d ∷ ys) i d)
      ∙ (λ t. set ((map-set f (d ∷ ys) i (get_or (d ∷ ys) j d)
      ∙ ap (set (map f (d ∷ ys)) i) (sym (get_or-map (d ∷ ys) j d))) t) j (sym (get_or-map (d ∷ ys) i d) t))

  map-apply_swaps : (xs : List X) (moves : List (ℕ × ℕ)) → map f (apply_swaps xs moves) ≡ apply_swaps (map f xs) moves
  map-apply_swaps xs [] = refl
  map-apply_swaps xs (m ∷ moves) = map-swap (apply_swaps xs moves) m.0 m.1
      ∙ ap (λ l. swap l m.0 m.1) (map-apply_swaps xs moves)

  pub unmapped : (xs : List X) (ys : List Y) → IsPermutation (map f xs) ys → (zs : List X) × IsPermutation xs zs
      × (ys ≡ map f zs)
  unmapped xs ys p = (
    apply_swaps xs p.moves,
    record { moves = p.moves; below = subst (λ n. SwapsInRange n p.moves) (length-map xs f) p.below; is = refl },
    p.is ∙ sym (map-apply_swaps xs p.moves),
  )

-- ---- the result of a call

-- rows that are those of structs are not misread
not_misread : {X : Type 0} (cells : X → Row) (xs : List X) (rows : List Row) → IsPermutation (map cells xs) rows
    → (f : Fault) → Misread ((ys : List X) → rows ≢ map cells ys) f → (old new : State) → HasCause old new f
not_misread cells xs rows same NoMemory h old new = tt
not_misread cells xs rows same Damaged h old new = let all = unmapped cells xs rows same in h all.0 all.2
not_misread cells xs rows same Device h old new = absurd h

module _ {X : Type 0} (cells : X → Row) (apart : (x y : X) → cells x ≡ cells y → x ≡ y) where
  -- structs with the same rows are the same
  same_structs : (xs ys : List X) → map cells xs ≡ map cells ys → xs ≡ ys
  same_structs [] [] e = refl
  same_structs [] (y ∷ ys) e = absurd cc
  same_structs (x ∷ xs) [] e = absurd cc
  same_structs (x ∷ xs) (y ∷ ys) e =
      let head : cells x ≡ cells y = cc in
      let rest : map cells xs ≡ map cells ys = cc in
      let one = apart x y head in
      let others = same_structs xs ys rest in
      cc

  one_of : (xs : List X) (rows : List Row) (found : Option X) → IsPermutation (map cells xs) rows
      → IsFirst cells rows found → IsOneOf xs found
  one_of xs rows None same none = none_left xs (subst (IsPermutation (map cells xs)) none same)
    where
      none_left : (xs : List X) → IsPermutation (map cells xs) [] → xs ≡ []
      none_left [] p = refl
      none_left (x ∷ xs) p = absurd (let many = length_permutation (map cells (x ∷ xs)) [] p in omega arith)
  one_of xs rows (Some x) same first =
      let all = unmapped cells xs rows same in
      let split = first_of all.0 (sym all.2 ∙ first.1) in
      (split.0, subst (IsPermutation xs) split.1 all.1)
    where
      first_of : (ys : List X) → map cells ys ≡ cells x ∷ first.0 → (others : List X) × (ys ≡ x ∷ others)
      first_of [] e = absurd cc
      first_of (y ∷ ys) e = (ys, let head : cells y ≡ cells x = cc in ap (λ z. z ∷ ys) (apart y x head))

module _ {A X : Type 0} (Has : A → Database → Type 0) (cells : X → Row) (of : A → List X)
    (apart : (x y : X) → cells x ≡ cells y → x ≡ y) (old new : State) where
  pub finds_read : (answer : Result (Vec Row Global) Error) (r : Result (Vec X Global) Fault)
      → IsEachRead cells answer r
      → Shows Has cells of old new answer → FindsIn Has of old new r
  finds_read (Ok rows) (Ok xs) read shows = λ a has.
      let it = shows a has in
      let all = unmapped cells (of a) rows.items it.1 in
      (it.0, subst (IsPermutation (of a)) (same_structs cells apart all.0 xs.items (sym all.2 ∙ read)) all.1)
  finds_read (Ok rows) (Err f) read shows = λ a has. inl (shows a has).0
  finds_read (Err e) (Ok xs) read shows = absurd read
  finds_read (Err e) (Err f) read shows = λ a has. shows

  pub causes_read : (answer : Result (Vec Row Global) Error) (r : Result (Vec X Global) Fault)
      → IsEachRead cells answer r
      → Shows Has cells of old new answer → IfErr answer (λ e. (a : A) → Has a old.now → HasCause old new (fault_of e))
      → IfErr r (λ f. (a : A) → Has a old.now → HasCause old new f)
  causes_read (Ok rows) (Ok xs) read shows causes = tt
  causes_read (Ok rows) (Err f) read shows causes = λ a has. not_misread cells (of a) rows.items (shows a has).1 f
      read old new
  causes_read (Err e) (Ok xs) read shows causes = absurd read
  causes_read (Err e) (Err f) read shows causes = λ a has. subst (HasCause old new) (sym read) (causes a has)

  pub causes_first : (answer : Result (Vec Row Global) Error) (r : Result (Option X) Fault)
      → IsFirstRead cells answer r → Shows Has cells of old new answer
      → IfErr answer (λ e. (a : A) → Has a old.now → HasCause old new (fault_of e))
      → IfErr r (λ f. (a : A) → Has a old.now → HasCause old new f)
  causes_first (Ok rows) (Ok xs) read shows causes = tt
  causes_first (Ok rows) (Err f) read shows causes = λ a has. not_misread cells (of a) rows.items (shows a has).1
      f read old new
  causes_first (Err e) (Ok xs) read shows causes = absurd read
  causes_first (Err e) (Err f) read shows causes = λ a has. subst (HasCause old new) (sym read) (causes a has)

pub finds_first : {X : Type 0} (cells : X → Row) (of : Contents → List X) (apart : (x y : X) → cells x ≡ cells y → x ≡ y)
    (old new : State) (answer : Result (Vec Row Global) Error) (r : Result (Option X) Fault) → IsFirstRead cells answer r
    → Shows (λ c db. Means db c) cells of old new answer → FindsOne of old new r
finds_first cells of apart old new (Ok rows) (Ok found) read shows = λ c means.
    let it = shows c means in (it.0, one_of cells apart (of c) rows.items found it.1 read)
finds_first cells of apart old new (Ok rows) (Err f) read shows = λ c means. inl (shows c means).0
finds_first cells of apart old new (Err e) (Ok found) read shows = absurd read
finds_first cells of apart old new (Err e) (Err f) read shows = λ c means. shows

-- no error of the database is reported as damage
undamaged : (e : Error) → fault_of e ≡ Damaged → ⊥
undamaged e is = elim (is_out_of_memory e) as (λ b. (if b then NoMemory else Device) ≡ Damaged → ⊥)
    [ true ↦ λ h. cc | false ↦ λ h. cc ] is

-- a query that answered changed nothing
pub read_only : {A X : Type 0} (Has : A → Database → Type 0) (cells : X → Row) (of : A → List X) (old new : State)
    (answer : Result (Vec Row Global) Error) (r : Result (Vec X Global) Fault) → IsEachRead cells answer r
    → OnOk answer (IsUnchanged old new) → Shows Has cells of old new answer → OnlyReads old new r
read_only Has cells of old new (Ok rows) (Ok xs) read same shows = same
read_only Has cells of old new (Ok rows) (Err f) read same shows = (inl same, λ _. same)
read_only Has cells of old new (Err e) (Ok xs) read same shows = absurd read
read_only Has cells of old new (Err e) (Err f) read same shows =
    (shows, λ damaged. absurd (undamaged e (sym read ∙ damaged)))

pub first_only : {A X : Type 0} (Has : A → Database → Type 0) (cells : X → Row) (of : A → List X) (old new : State)
    (answer : Result (Vec Row Global) Error) (r : Result (Option X) Fault) → IsFirstRead cells answer r
    → OnOk answer (IsUnchanged old new) → Shows Has cells of old new answer → OnlyReads old new r
first_only Has cells of old new (Ok rows) (Ok xs) read same shows = same
first_only Has cells of old new (Ok rows) (Err f) read same shows = (inl same, λ _. same)
first_only Has cells of old new (Err e) (Ok xs) read same shows = absurd read
first_only Has cells of old new (Err e) (Err f) read same shows =
    (shows, λ damaged. absurd (undamaged e (sym read ∙ damaged)))

-- ---- rows read as structs of their columns

-- a fault's claim about a part holds of the whole
pub misread_more : (P Q : Type 0) (fault : Fault) → (P → Q) → Misread P fault → Misread Q fault
misread_more P Q NoMemory more h = tt
misread_more P Q Damaged more h = more h
misread_more P Q Device more h = h

-- a row among the rows of structs is that of one of them
row_of_one : {X : Type 0} (cells : X → Row) (rows : List Row) (all : List X) (i : ℕ) (d : Row) → i < length rows
    → rows ≡ map cells all → (x : X) × (get_or rows i d ≡ cells x)
row_of_one cells [] all i d low is = absurd (omega arith)
row_of_one cells (r ∷ rows) [] i d low is = absurd cc
row_of_one cells (r ∷ rows) (x ∷ all) zero d low is = (x, cc)
row_of_one cells (r ∷ rows) (x ∷ all) (suc i) d low is = row_of_one cells rows all i d (omega arith) cc

-- if one row isn't a struct's, the rows aren't those of structs
pub misread_one : {X : Type 0} (cells : X → Row) (rows : List Row) (i : ℕ) (row : Row) (fault : Fault)
    → i < length rows → row ≡ get_or rows i row
    → Misread ((x : X) → row ≢ cells x) fault → Misread ((all : List X) → rows ≢ map cells all) fault
misread_one cells rows i row fault low is =
    misread_more _ _ fault (λ none all same. let one = row_of_one cells rows all i row low same in none one.0
    (is ∙ one.1))

-- the structs of the first rows, and that of the next row
pub one_more_read : {X : Type 0} (cells : X → Row) (rows : List Row) (i : ℕ) (all : List X) (x : X) (d : Row)
    → i < length rows → map cells all ≡ take i rows → get_or rows i d ≡ cells x
    → map cells (all ++ (x ∷ [])) ≡ take (i + 1) rows
one_more_read cells rows i all x d inside first is =
    map-append cells all (x ∷ []) ∙ ap₂ ◌++◌ first (ap (λ r. r ∷ []) (sym is)) ∙ sym (rw add-one (take-suc rows i d inside))
