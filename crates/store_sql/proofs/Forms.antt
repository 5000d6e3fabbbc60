-- Properties of a text, whatever the tables are: a query under one schema is a query under each, and a text that ends
-- no transaction under one ends none under any.
use Rattle.store_sql.proofs.Words.{Bool, Checked, CompileError, Compiled, Err, IsPlain, List, Name, NoSuchTable, None}
use Rattle.store_sql.proofs.Words.{Ok, Option, Result, Returning, and_then, command, false, if◌then◌else◌, inl, inr}
use Rattle.store_sql.proofs.Words.{is_select, length, reads_listing, refl, subst, sym, true, understood, ℕ, ◌+◌, ◌==◌}
use Rattle.store_sql.proofs.Words.{◌∙◌, ◌≡◌, ◌⊎◌}
use Rattle.sqlite_ast.specs.declared.Statement.{Statement}
use Rattle.sqlite_syntax.specs.declared.statement.Parsed.{Parsed}
use Rattle.sqlite_schema.specs.declared.schema.Schema.{Schema}
use Rattle.sqlite_schema.specs.declared.command.Command.{Command}
use Rattle.sqlite_resolve.specs.Compile.{command_by, compiled, first, meaning, planned, returning, returning_by, small}
use Rattle.sqlite_resolve.specs.Compile.{timed, with_command}
use Rattle.sqlite.specs.Listing.{if_select, listing_schema}
use Rattle.store_sql.proofs.Commands.{Is, closes, same_ok, gone, either, read_is, insert_or_is, insert_or_abort_is}
use Rattle.store_sql.proofs.Commands.{create_table_is, create_index_is, create_view_is, update_is, delete_is}
use Rattle.store_sql.proofs.Commands.{drop_table_is, drop_view_is, drop_index_is, pragma_is}
use Rattle.sqlite_ast.specs.declared.Statement.TheVariants as written
use Rattle.sqlite_ast.specs.declared.Conflict.TheVariants as conflict
use Rattle.sqlite_schema.specs.declared.command.Conflict.TheVariants as how

-- ---- from the parsed statement

abbrev pub asks : Statement → Bool
asks (written.Select s) = true
asks _ = false

abbrev pub ends : Statement → Bool
ends written.Commit = true
ends written.Rollback = true
ends (written.Release name) = true
ends _ = false

by_statement : (schema : Schema) (formats : List Name) (base : ℕ) (s : Statement) → Is (asks s) (ends s) (command_by schema formats base s)
by_statement schema formats base written.Empty = (refl, refl)
by_statement schema formats base (written.Select s) = read_is schema s
by_statement schema formats base (written.Insert conflict.Abort name columns rows clauses shown) =
    insert_or_abort_is schema base name columns rows clauses
by_statement schema formats base (written.Insert conflict.Ignore name columns rows clauses shown) =
    insert_or_is schema base how.Ignore name columns rows clauses
by_statement schema formats base (written.Insert conflict.Replace name columns rows clauses shown) =
    insert_or_is schema base how.Replace name columns rows clauses
by_statement schema formats base (written.Update name sets test shown) = update_is schema name sets test
by_statement schema formats base (written.Delete name test shown) = delete_is schema name test
by_statement schema formats base (written.Pragma name value) = pragma_is name value
by_statement schema formats base (written.CreateTable def) = create_table_is schema formats def
by_statement schema formats base (written.CreateIndex def) = create_index_is schema def
by_statement schema formats base (written.CreateView if_missing name columns s) =
    either false false (length formats == 0) _ _ (create_view_is schema if_missing name columns s) tt
by_statement schema formats base (written.DropTable if_exists name) = drop_table_is schema if_exists name
by_statement schema formats base (written.DropIndex if_exists name) = drop_index_is schema if_exists name
by_statement schema formats base (written.DropView if_exists name) = drop_view_is schema if_exists name
by_statement schema formats base written.Begin = (refl, refl)
by_statement schema formats base written.Commit = (refl, refl)
by_statement schema formats base written.Rollback = (refl, refl)
by_statement schema formats base (written.Savepoint name) = (refl, refl)
by_statement schema formats base (written.Release name) = (refl, refl)
by_statement schema formats base (written.RollbackTo name) = (refl, refl)

shows_no_rows : (schema : Schema) (base : ℕ) (s : Statement) (shown : Option Returning) → asks s ≡ true
    → returning_by schema base s ≡ Ok shown → shown ≡ None
shows_no_rows schema base (written.Select s) shown is h = sym (same_ok h)
shows_no_rows schema base written.Empty shown is h = sym (same_ok h)
shows_no_rows schema base (written.Insert how name columns rows clauses more) shown is h = absurd (cc)
shows_no_rows schema base (written.Update name sets test more) shown is h = absurd (cc)
shows_no_rows schema base (written.Delete name test more) shown is h = absurd (cc)
shows_no_rows schema base (written.Pragma name value) shown is h = sym (same_ok h)
shows_no_rows schema base (written.CreateTable def) shown is h = sym (same_ok h)
shows_no_rows schema base (written.CreateIndex def) shown is h = sym (same_ok h)
shows_no_rows schema base (written.CreateView if_missing name columns s) shown is h = sym (same_ok h)
shows_no_rows schema base (written.DropTable if_exists name) shown is h = sym (same_ok h)
shows_no_rows schema base (written.DropIndex if_exists name) shown is h = sym (same_ok h)
shows_no_rows schema base (written.DropView if_exists name) shown is h = sym (same_ok h)
shows_no_rows schema base written.Begin shown is h = sym (same_ok h)
shows_no_rows schema base written.Commit shown is h = sym (same_ok h)
shows_no_rows schema base written.Rollback shown is h = sym (same_ok h)
shows_no_rows schema base (written.Savepoint name) shown is h = sym (same_ok h)
shows_no_rows schema base (written.Release name) shown is h = sym (same_ok h)
shows_no_rows schema base (written.RollbackTo name) shown is h = sym (same_ok h)

-- ---- for the whole text

-- the properties of a compiled statement are those of its parsed form
record IsMadeOf (s : Statement) (found : Command × Option Returning) : Type 0 where
  pub query : is_select found.0 ≡ asks s
  pub ending : closes found.0 ≡ ends s
  pub silent : asks s ≡ true → found.1 ≡ None

of_meaning : (schema : Schema) (p : Parsed) (base : ℕ) (found : Command × Option Returning) → meaning schema p base ≡ Ok found
    → IsMadeOf p.statement found
unfolding meaning command returning
of_meaning schema p base found h =
    let shown = gone (returning_by schema base p.statement)
    (λ shown. and_then (command_by schema p.formats base p.statement) (λ c. Ok (c, shown))) found h in
    let made = gone (command_by schema p.formats base p.statement) (λ c. Ok (c, shown.0)) found shown.2 in
    let same : (made.0, shown.0) ≡ found = same_ok made.2 in
    let is = subst (Is (asks p.statement) (ends p.statement)) made.1 (by_statement schema p.formats base p.statement) in
    subst (IsMadeOf p.statement) same (record {
      query = is.0;
      ending = is.1;
      silent = λ it. shows_no_rows schema base p.statement shown.0 it shown.1;
    })

of_planned : (schema : Schema) (p : Parsed) (plan : List Name × (Command × Option Returning)) → planned schema p ≡ Ok plan
    → IsMadeOf p.statement plan.1
unfolding planned
of_planned schema p plan h =
    let formats = timed schema p.formats p.statement in
    let base = small p.names + small formats in
    let m = gone (meaning schema p base) (λ found. Ok (formats, found)) plan h in
    let same : (formats, m.0) ≡ plan = same_ok m.2 in
    subst (λ (q : List Name × (Command × Option Returning)). IsMadeOf p.statement q.1) same (of_meaning schema p base m.0 m.1)

-- the text parses to this, and the compiled statement has its properties
abbrev IsWritten : List ℕ → Compiled → Parsed → Type 0
IsWritten sql c p = (first sql ≡ Ok p) × IsMadeOf p.statement (c.command, c.returning)

of_compiled : (schema : Schema) (sql : List ℕ) (c : Compiled) → compiled schema sql ≡ Ok c → (p : Parsed) × IsWritten sql c p
unfolding compiled
of_compiled schema sql c h =
    let a = gone (first sql) (λ p. and_then (planned schema p) (λ plan. Ok (with_command p plan))) c h in
    let b = gone (planned schema a.0) (λ plan. Ok (with_command a.0 plan)) c a.2 in
    let same : with_command a.0 b.0 ≡ c = same_ok b.2 in
    (a.0, (a.1, subst (λ (x : Compiled). IsMadeOf a.0.statement (x.command, x.returning)) same (of_planned schema a.0 b.0 b.1)))

of_either : (b : Bool) (r q : Checked Compiled) (c : Compiled) → (if b then if_select r else q) ≡ Ok c → (r ≡ Ok c) ⊎ (q ≡ Ok c)
of_either false r q c h = inr h
of_either true (Err e) q c h = absurd (cc)
of_either true (Ok d) q c h = inl (go (is_select d.command) h)
  where
    go : (b : Bool) → (if b then Ok d else Err NoSuchTable) ≡ Ok c → ◌≡◌ {A = Checked Compiled} (Ok d) (Ok c)
    go true h = h
    go false h = absurd (cc)

of_understood : (schema : Schema) (sql : List ℕ) (c : Compiled) → understood schema sql ≡ Ok c → (p : Parsed) × IsWritten sql c p
unfolding understood
of_understood schema sql c h = elim (of_either (reads_listing schema sql) (compiled listing_schema sql) (compiled schema sql) c h) [
  | inl is ↦ of_compiled listing_schema sql c is
  | inr is ↦ of_compiled schema sql c is
]

-- a text that is plain compiles
pub is_compiled : (r : Result Compiled CompileError) → IsPlain r → (c : Compiled) × (r ≡ Ok c)
is_compiled (Ok c) plain = (c, refl)
is_compiled (Err e) plain = absurd plain

module _ (schema other : Schema) (sql : List ℕ) (c d : Compiled) (one : understood schema sql ≡ Ok c) (two : understood other sql ≡ Ok d) where
  -- a query has no RETURNING clause under the other schema either
  pub query_everywhere : is_select c.command ≡ true → d.returning ≡ None
  query_everywhere is =
      let a = of_understood schema sql c one in
      let b = of_understood other sql d two in
      let same : a.0 ≡ b.0 = same_ok (sym a.1.0 ∙ b.1.0) in
      b.1.1.silent (subst (λ (p : Parsed). asks p.statement ≡ true) same (sym a.1.1.query ∙ is))

  -- a text that ends no transaction ends none on other tables
  pub ends_nowhere : closes c.command ≡ false → closes d.command ≡ false
  ends_nowhere is =
      let a = of_understood schema sql c one in
      let b = of_understood other sql d two in
      let same : a.0 ≡ b.0 = same_ok (sym a.1.0 ∙ b.1.0) in
      b.1.1.ending ∙ subst (λ (p : Parsed). ends p.statement ≡ false) same (sym a.1.1.ending ∙ is)
