-- From the meaning of a text to what a call of it does.
use Rattle.rows.proofs.Words.{Changes, Command, CommitsBy, Database, Does, Err, Error, Executes, Fault, FindsSuch}
use Rattle.rows.proofs.Words.{Global, IsFirstRead, IsOneOf, IsPermutation, IsPlain, IsSound, IsWrite, Kept, List}
use Rattle.rows.proofs.Words.{MayLeave, Means, None, Ok, Option, Result, Row, Runs, Some, State, Tally, Trees, Vec}
use Rattle.rows.proofs.Words.{Writes, ap, arith, command_of, inl, length_permutation, map, refl, runs_as, statement_of}
use Rattle.rows.proofs.Words.{subst, sym, understood, [], ℕ, ◌∙◌, ◌∷◌, ◌≡◌}
use Rattle.store_sql.specs.Done.{IsFirst}
use Rattle.store_sql.proofs.FoundLemmas.{Shows, unmapped}
use Rattle.store_sql.proofs.Statements.{mode, stopped, commits_as}
use Rattle.rows.specs.Tables.{Tables}

module _ {X : Type 0} (cells : X → Row) (apart : (x y : X) → cells x ≡ cells y → x ≡ y) where
  -- structs with the same rows are the same
  same_structs : (xs ys : List X) → map cells xs ≡ map cells ys → xs ≡ ys
  same_structs [] [] e = refl
  same_structs [] (y ∷ ys) e = absurd cc
  same_structs (x ∷ xs) [] e = absurd cc
  same_structs (x ∷ xs) (y ∷ ys) e =
      let head : cells x ≡ cells y = cc in
      let rest : map cells xs ≡ map cells ys = cc in
      let one = apart x y head in
      let others = same_structs xs ys rest in
      cc

  pub one_of : (xs : List X) (rows : List Row) (found : Option X) → IsPermutation (map cells xs) rows
      → IsFirst cells rows found → IsOneOf xs found
  one_of xs rows None same none = none_left xs (subst (IsPermutation (map cells xs)) none same)
    where
      none_left : (xs : List X) → IsPermutation (map cells xs) [] → xs ≡ []
      none_left [] p = refl
      none_left (x ∷ xs) p = absurd (let many = length_permutation (map cells (x ∷ xs)) [] p in omega arith)
  one_of xs rows (Some x) same first =
      let all = unmapped cells xs rows same in
      let split = first_of all.0 (sym all.2 ∙ first.1) in
      (split.0, subst (IsPermutation xs) split.1 all.1)
    where
      first_of : (ys : List X) → map cells ys ≡ cells x ∷ first.0 → (others : List X) × (ys ≡ x ∷ others)
      first_of [] e = absurd cc
      first_of (y ∷ ys) e = (ys, let head : cells y ≡ cells x = cc in ap (λ z. z ∷ ys) (apart y x head))

module _ {C : Type 0} (these : Tables C) where
  -- a text that is a write, by what its command does
  module _ (sql : List ℕ) (params : Row) (command : Command) (is : command_of (understood these.whole sql) ≡ command)
      (plain : IsPlain (understood these.whole sql)) (writes : IsWrite command)
      (is_write : (old new : State) (text : List ℕ) (count : ℕ) → Runs old new None command text params count
      → Writes old new None command text params count) (after : C → C)
      (does : (limit : Option ℕ) (db next : Database) (tally : Tally) (c : C) → Means these db c
      → Does limit mode params db (statement_of sql (understood these.whole sql)) None command (Ok (tally, next))
      → (next.schema ≡ these.whole) × these.Holds next.trees (after c)) where
    pub changes : (old new : State) (r : Result ℕ Error) → Executes sql params old new r → Changes these after old new r
    changes old new (Err e) h = stopped sql params old new e h
    changes old new (Ok count) h = λ c means.
        let w = is_write old new _ count (runs_as sql params old new these.whole means.schema command is plain count h) in
        let next = does old.step_limit old.now new.now w.tally c means w.changed in
        record {
          was_open = w.shown.was_open;
          is_open = w.shown.is_open;
          means = record {
            schema = next.0;
            kept = record { sound = subst (λ s. IsSound s new.now.trees) next.0 w.sound; holds = next.1 };
          };
          committed = w.shown.committed_is;
          mode = w.shown.mode;
          marks = w.marks;
        }

    pub leaves : (old : State) (trees : Trees) → CommitsBy sql params old trees → MayLeave these after old trees
    leaves old trees h c means =
        let all = commits_as sql params old these.whole means.schema command is plain writes trees h in
        let next = does old.step_limit old.now all.2 all.1 c means all.3 in (
          all.0,
          subst (λ ts. Kept these ts (after c)) (sym all.5)
              (record { sound = subst (λ s. IsSound s all.2.trees) next.0 all.4; holds = next.1 }),
        )

module _ {C : Type 0} (these : Tables C) where
  -- a struct that satisfies `Such`, by the first row found
  pub finds_such : {X : Type 0} (cells : X → Row) (of : C → List X) (Such : C → Option X → Type 0)
      → (apart : (x y : X) → cells x ≡ cells y → x ≡ y)
      → ((c : C) (trees : Trees) → these.Holds trees c → (found : Option X) → IsOneOf (of c) found → Such c found)
      → (old new : State) (answer : Result (Vec Row Global) Error) (r : Result (Option X) Fault)
      → IsFirstRead cells answer r → Shows (λ c db. Means these db c) cells of old new answer → FindsSuch these Such old new r
  finds_such cells of Such apart so old new (Ok rows) (Ok found) read shows = λ c means.
      let it = shows c means in
      (it.0, so c old.now.trees means.kept.holds found (one_of cells apart (of c) rows.items found it.1 read))
  finds_such cells of Such apart so old new (Ok rows) (Err f) read shows = λ c means. inl (shows c means).0
  finds_such cells of Such apart so old new (Err e) (Ok found) read shows = absurd read
  finds_such cells of Such apart so old new (Err e) (Err f) read shows = λ c means. shows
