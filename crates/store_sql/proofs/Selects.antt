-- SELECT of the rows of one table that pass a test, and ORDER BY one column.
use Rattle.store_sql.proofs.Words.{Binary, Bool, CommitsShowing, Contents, Equal, Err, Error, FailsToQuery, Fault}
use Rattle.store_sql.proofs.Words.{FoundSorted, Global, Greater, HasCleanDisk, Holds, IfErr, IfOk, Int, IsAnswer}
use Rattle.store_sql.proofs.Words.{IsEachRead, IsPermutation, IsSorted, IsSorted-from_map, Key, Less, List, Lists}
use Rattle.store_sql.proofs.Words.{Means, Null, Ok, Ordering, Result, Rises, Row, RunRow, Schema, Shown, State}
use Rattle.store_sql.proofs.Words.{Survives, Term, Text, Trees, Vec, [], accepts_program, arith, ascending, at_places}
use Rattle.store_sql.proofs.Words.{column, eval_all, filter, holds, inl, inr, int_cmp, key_cmp, length, list_all, map}
use Rattle.store_sql.proofs.Words.{nat_cmp, overlay, pos, reads_as, refl, run_cells, slice_cmp, subst, true, value_cmp}
use Rattle.store_sql.proofs.Words.{value_cmp-Int, value_cmp-Text, whole, ℕ, ◌∙◌, ◌∷◌, ◌≡◌}
use Rattle.store_sql.proofs.CallLemmas.{IsSelect, FindIn, Find, found}
use Rattle.store_sql.proofs.FaultLemmas.{none_overflows}
use Rattle.store_sql.proofs.Queries.{chosen, on_table, selected, in_order}
use Rattle.std.proofs.lemmas.Grind.{common_steps}
use Rattle.store_sql.proofs.Edits.{keep_all}

-- a tree has the rows of these structs, and each struct its own row
pub record IsTreeOf {A X : Type 0} (Held : Trees → A → Type 0) (cells : X → Row) (places : List ℕ) (tree : ℕ)
    (of : A → List X) : Type 0 where
  pub stored : (trees : Trees) → overlay trees [] tree ≡ trees tree
  pub held : (trees : Trees) (a : A) → Held trees a → Lists cells places (trees tree) (of a)
  pub apart : (x y : X) → cells x ≡ cells y → x ≡ y

-- the structs that pass are the wanted ones
unfoldable pub select : {A X : Type 0} {schema : Schema} {Held : Trees → A → Type 0} {cells : X
    → Row} {places : List ℕ} {tree : ℕ}
    {of wanted : A → List X} {sql : List ℕ} {tests project : List Term} {order : List (Term × Key)}
    {names : List (List ℕ)} {params : Row} → IsTreeOf Held cells places tree of
    → IsSelect schema sql (on_table tree tests project order) names (length params)
    → (mine : X → Bool) (passes : Row → Bool) (shows : Row → Row)
    → ((x : X) → passes (cells x) ≡ mine x) → ((x : X) → shows (cells x) ≡ cells x)
    → ((r : Row) → list_all (holds (params ∷ r ∷ [])) tests ≡ passes (at_places places r))
    → ((r : Row) → eval_all project (params ∷ r ∷ []) ≡ shows (at_places places r))
    → accepts_program schema [] (on_table tree tests project order) params ≡ true
    → ((a : A) → filter mine (of a) ≡ wanted a) → FindIn schema Held sql params cells wanted
select {cells = cells} {places = places} {tree = tree} {of = of} {tests = tests} {project = project} {order = order}
    {names = names} {params = params} t is mine passes shows tested showed
    passing showing typed wanted = record {
      query = on_table tree tests project order;
      names = names;
      is = is;
      typed = typed;
      sure = λ trees h. elim h [ inl over ↦ over | inr fold ↦ none_overflows _ fold ];
      apart = t.apart;
      answers = λ trees rows a h answer.
          let all = selected tree tests project order trees params rows (t.stored trees) answer in
          subst (λ xs. IsPermutation (map cells xs) rows) (wanted a)
          (chosen cells cells mine places passes shows tested showed (trees tree) rows (of a) (t.held trees a h)
          (subst (λ l. IsPermutation l rows) (λ i. map (λ r. showing r i)
          (filter (λ r. passing r i) (trees tree))) all));
    }

-- ---- ORDER BY one column

-- rows ascend by the column
abbrev pub AscendBy : ℕ → List Row → Type 0
AscendBy k = IsSorted (λ x y. key_cmp 0 (ascending Binary ∷ []) (column x k ∷ []) (column y k ∷ []))

last_cmp : (a b : Row) (o : Ordering) → value_cmp (column a 0) (column b 0) ≡ o
    → key_cmp 0 (ascending Binary ∷ []) a b ≡ o
last_cmp a b Less e = rw e refl
last_cmp a b Equal e = rw e refl
last_cmp a b Greater e = rw e refl

int_is_nat : (a b : ℕ) → int_cmp (pos a) (pos b) ≡ nat_cmp a b
int_is_nat a b = grind (arith, common_steps)

pub number_cmp : (a b : ℕ) → value_cmp (Int (pos a)) (Int (pos b)) ≡ nat_cmp a b
number_cmp a b = value_cmp-Int (pos a) (pos b) ∙ int_is_nat a b

pub text_cmp : (a b : List ℕ) → value_cmp (Text a) (Text b) ≡ slice_cmp nat_cmp a b
text_cmp a b = value_cmp-Text a b

-- a text that finds these structs ordered by this key, which their first column determines
pub record FindSorted {X K : Type 0} (sql : List ℕ) (params : Row) (cells : X → Row) (of : Contents → List X)
    (key : X → K) (cmp : K → K → Ordering) : Type 0 where
  pub find : Find sql params cells of
  pub rises : (trees : Trees) (rows : List Row) → IsAnswer find.query (overlay trees []) params rows → AscendBy 0 rows
  pub told : (x y : X) → value_cmp (column (cells x) 0) (column (cells y) 0) ≡ cmp (key x) (key y)

-- a query of one table, ordered by the first column that it shows
pub select_sorted : {X K : Type 0} {cells : X → Row} {places : List ℕ} {tree : ℕ} {of wanted : Contents → List X}
    {sql : List ℕ} {tests project : List Term} {at : Term} {names : List (List ℕ)} {params : Row} {key : X → K}
    {cmp : K → K → Ordering} → IsTreeOf Holds cells places tree of
    → IsSelect whole sql (on_table tree tests project ((at, ascending Binary) ∷ [])) names (length params)
    → (mine : X → Bool) (passes : Row → Bool) (shows : Row → Row)
    → ((x : X) → passes (cells x) ≡ mine x) → ((x : X) → shows (cells x) ≡ cells x)
    → ((r : Row) → list_all (holds (params ∷ r ∷ [])) tests ≡ passes (at_places places r))
    → ((r : Row) → eval_all project (params ∷ r ∷ []) ≡ shows (at_places places r))
    → accepts_program whole [] (on_table tree tests project ((at, ascending Binary) ∷ [])) params ≡ true
    → ((c : Contents) → filter mine (of c) ≡ wanted c)
    → ((r : Row) → eval_all (at ∷ []) (params ∷ r ∷ []) ≡ column (eval_all project (params ∷ r ∷ [])) 0 ∷ [])
    → ((x y : X) → value_cmp (column (cells x) 0) (column (cells y) 0) ≡ cmp (key x) (key y))
    → FindSorted sql params cells wanted key cmp
unfolding select
select_sorted {tree = tree} {tests = tests} {project = project} {at = at} {params = params} t is mine passes shows
    tested showed passing showing typed wanted keyed told = record {
      find = select t is mine passes shows tested showed passing showing typed wanted;
      rises = λ trees rows answer. in_order tree tests project ((at, ascending Binary) ∷ []) trees params rows
          (λ v. column v 0 ∷ []) keyed (t.stored trees) answer;
      told = told;
    }

-- all rows of the table
pub select_all : {X K : Type 0} {cells : X → Row} {places : List ℕ} {tree : ℕ} {of : Contents → List X} {sql : List ℕ}
    {project : List Term} {at : Term} {names : List (List ℕ)} {key : X → K} {cmp : K → K → Ordering}
    → IsTreeOf Holds cells places tree of
    → IsSelect whole sql (on_table tree [] project ((at, ascending Binary) ∷ [])) names 0 → (shows : Row → Row)
    → ((x : X) → shows (cells x) ≡ cells x) → ((r : Row) → eval_all project ([] ∷ r ∷ []) ≡ shows (at_places places r))
    → accepts_program whole [] (on_table tree [] project ((at, ascending Binary) ∷ [])) [] ≡ true
    → ((r : Row) → eval_all (at ∷ []) ([] ∷ r ∷ []) ≡ column (eval_all project ([] ∷ r ∷ [])) 0 ∷ [])
    → ((x y : X) → value_cmp (column (cells x) 0) (column (cells y) 0) ≡ cmp (key x) (key y))
    → FindSorted sql ([]) cells of key cmp
select_all {of = of} t is shows showed showing typed keyed told =
    select_sorted t is (λ x. true) (λ v. true) shows (λ x. refl) showed (λ r. refl) showing typed
    (λ c. keep_all (of c)) keyed told

-- the whole contract of a call with such a text
module _ {X K : Type 0} {sql : List ℕ} {params : Row} {cells : X → Row} {of : Contents → List X} {key : X → K}
    {cmp : K → K → Ordering} (f : FindSorted sql params cells of key cmp) where
  sorts : (old new : State) (answer : Result (Vec Row Global) Error) → IfOk answer
      (λ rows. Shown sql params old new rows.items)
      → (r : Result (Vec X Global) Fault) → IsEachRead cells answer r → Rises key cmp old new r
  sorts old new (Ok rows) ok (Ok xs) read = λ c means.
      let answered = (reads_as sql params old new whole means.schema _ f.find.is.0 f.find.is.2 f.find.is.1 rows.items
      ok).answer Null in
      let up : AscendBy 0 (map cells xs.items) = subst (AscendBy 0) read (f.rises old.now.trees rows.items answered) in
      let mine = IsSorted-from_map (λ x y. key_cmp 0 (ascending Binary ∷ []) (column x 0 ∷ []) (column y 0 ∷ [])) cells
      xs.items up in
      subst (λ (o : X → X → Ordering). IsSorted o xs.items)
      (λ i x y. last_cmp (column (cells x) 0 ∷ []) (column (cells y) 0 ∷ []) (cmp (key x) (key y)) (f.told x y) i) mine
  sorts old new (Ok rows) ok (Err e) read = tt
  sorts old new (Err e) ok (Ok xs) read = absurd read
  sorts old new (Err e) ok (Err g) read = tt

  pub found_sorted : {old new : State} (answer : Result (Vec Row Global) Error)
      → (HasCleanDisk new → IfOk answer (λ rows. Shown sql params old new rows.items))
      → (HasCleanDisk new → IfErr answer (FailsToQuery sql params old new))
      → Survives old new (CommitsShowing sql params old) → (r : Result (Vec X Global) Fault) → IsEachRead cells answer r
      → FoundSorted (λ c db. Means db c) of key cmp old new r
  found_sorted {old = old} {new = new} answer ok err lives r read =
      let all = found f.find answer ok err lives r read in
      record {
        finds = all.finds;
        sorted = λ clean. sorts old new answer (ok clean) r read;
        reads = all.reads;
        fault = all.fault;
        survives = all.survives;
      }

-- ---- descending order

-- rows descend by the column
abbrev pub DescendBy : ℕ → List Row → Type 0
DescendBy k = IsSorted (λ x y. key_cmp 0 (record { collation = Binary; descending = true } ∷ [])
    (column x k ∷ []) (column y k ∷ []))

down_cmp : (a b : Row) (o : Ordering) → value_cmp (column b 0) (column a 0) ≡ o
    → key_cmp 0 (record { collation = Binary; descending = true } ∷ []) a b ≡ o
down_cmp a b Less e = rw e refl
down_cmp a b Equal e = rw e refl
down_cmp a b Greater e = rw e refl

pub falling : (zs : List RunRow) → DescendBy 0 (map run_cells zs) → IsSorted (λ x y. nat_cmp y.lo x.lo) zs
falling zs down =
    let mine = IsSorted-from_map (λ x y. key_cmp 0 (record { collation = Binary; descending = true } ∷ [])
    (column x 0 ∷ []) (column y 0 ∷ [])) run_cells zs down in
    subst (λ (o : RunRow → RunRow → Ordering). IsSorted o zs)
    (λ i x y. down_cmp (Int (pos x.lo) ∷ []) (Int (pos y.lo) ∷ []) (nat_cmp y.lo x.lo) (number_cmp y.lo x.lo) i) mine
