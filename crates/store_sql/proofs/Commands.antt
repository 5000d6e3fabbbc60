-- Properties of a command, whatever the tables are: whether it is a query, and whether it may end a transaction.
use Rattle.store_sql.proofs.Words.{Bool, Checked, CompileError, Err, List, Name, NoSuchTable, None, Ok, Option, Some}
use Rattle.store_sql.proofs.Words.{[], and_then, command, false, if◌then◌else◌, is_select, is_some, length, not, refl}
use Rattle.store_sql.proofs.Words.{true, ℕ, ◌&&◌, ◌==◌, ◌≡◌}
use Rattle.sqlite_ast.specs.declared.Expr.{Expr}
use Rattle.sqlite_ast.specs.declared.Rows.{Rows as Given}
use Rattle.sqlite_ast.specs.declared.Upsert.{Upsert}
use Rattle.sqlite_ast.specs.declared.CreateTable.{CreateTable as Definition}
use Rattle.sqlite_ast.specs.declared.CreateIndex.{CreateIndex as IndexDefinition}
use Rattle.sqlite_schema.specs.declared.schema.Schema.{Schema}
use Rattle.sqlite_schema.specs.declared.schema.Table.{Table}
use Rattle.sqlite_schema.specs.declared.command.Command.{Command}
use Rattle.sqlite_schema.specs.declared.command.Command.TheVariants.{Commit, Rollback, Release, Nothing, DropTable}
use Rattle.sqlite_schema.specs.declared.command.Command.TheVariants.{DropView, DropIndex}
use Rattle.sqlite_schema.specs.declared.command.Conflict.{Conflict}
use Rattle.sqlite_resolve.specs.declared.error.CompileError.TheVariants.{NoSuchIndex, Unsupported}
use Rattle.sqlite_resolve.specs.Compile.{create_index, create_table, create_view, creates, delete, drop_index}
use Rattle.sqlite_resolve.specs.Compile.{drop_table, drop_view, dropped, insert, insert_or, insert_or_abort}
use Rattle.sqlite_resolve.specs.Compile.{is_attached, is_reserved, new_rows, on_table, read, target, update}
use Rattle.sqlite_resolve.specs.declared.pragma.Known.{Known}
use Rattle.sqlite_resolve.specs.declared.pragma.Known.TheVariants.{ForeignKeys, JournalMode, BusyTimeout, Synchronous}
use Rattle.sqlite_resolve.specs.declared.pragma.Known.TheVariants.{Optimize, Hint, Unknown}
use Rattle.sqlite_schema.specs.Names.{index_named, table_named, view_named}
use Rattle.std.specs.Option.{option_or}
use Rattle.sqlite_resolve.specs.Body.{table_at}
use Rattle.sqlite_resolve.specs.Program.{program, query}
use Rattle.sqlite_resolve.specs.Write.{updated, deleted}
use Rattle.sqlite_resolve.specs.Given.{upserts}
use Rattle.sqlite_resolve.specs.Pragma.{foreign_keys, is_on, known, pragma, pragma_by}
use Rattle.sqlite_ast.specs.declared.Select as written_select
use Rattle.sqlite_schema.specs.declared.command.Conflict.TheVariants as how
use Rattle.sqlite_resolve.specs.Define as define

-- ---- steps

pub same_ok : {A : Type 0} {a b : A} → ◌≡◌ {A = Checked A} (Ok a) (Ok b) → a ≡ b
same_ok e = cc

-- a chain that succeeded did so from the value of its first part
pub gone : {A B : Type 0} (r : Checked A) (f : A → Checked B) (b : B) → and_then r f ≡ Ok b → (a : A) × (r ≡ Ok a) × (f a ≡ Ok b)
gone (Ok a) f b h = (a, refl, h)
gone (Err e) f b h = absurd (cc)

-- ---- whether a command is a query, and whether it may end a transaction

abbrev pub closes : Command → Bool
closes Commit = true
closes Rollback = true
closes (Release name) = true
closes _ = false

abbrev pub Is : Bool → Bool → Checked Command → Type 0
Is asks ends (Ok c) = (is_select c ≡ asks) × (closes c ≡ ends)
Is asks ends (Err e) = Unit {0}

-- what holds of every continuation holds of the chain
follows : {A : Type 0} (asks ends : Bool) (r : Checked A) (f : A → Checked Command) → ((a : A) → Is asks ends (f a))
    → Is asks ends (and_then r f)
follows asks ends (Ok a) f each = each a
follows asks ends (Err e) f each = tt

pub either : (asks ends b : Bool) (r q : Checked Command) → Is asks ends r → Is asks ends q → Is asks ends (if b then r else q)
either asks ends true r q one two = one
either asks ends false r q one two = two

on_table_is : (asks ends : Bool) (schema : Schema) (name : Name) (f : ℕ → Table → Checked Command)
    → ((at : ℕ) (table : Table) → Is asks ends (f at table)) → Is asks ends (on_table schema name f)
on_table_is asks ends schema name f each =
    follows asks ends (target schema name) _ (λ at. follows asks ends (table_at schema at) _ (λ table. each at table))

pub read_is : (schema : Schema) (s : written_select.Select) → Is true false (read schema s)
unfolding read
read_is schema s =
    follows true false (query schema s) _ (λ q. follows true false (program schema q.1 q.0.0) _ (λ p. (refl, refl)))

insert_is : (schema : Schema) (base : ℕ) (name : Name) (columns : List Name) (rows : Given)
    → Is false false (insert schema base name columns rows)
unfolding insert
insert_is schema base name columns rows =
    on_table_is false false schema name _ (λ at table. follows false false (new_rows schema table base columns rows) _ (λ s. (refl, refl)))

pub insert_or_is : (schema : Schema) (base : ℕ) (way : Conflict) (name : Name) (columns : List Name) (rows : Given) (clauses : List Upsert)
    → Is false false (insert_or schema base way name columns rows clauses)
unfolding insert_or
insert_or_is schema base way name columns rows clauses =
    on_table_is false false schema name _ (λ at table. follows false false (new_rows schema table base columns rows) _
    (λ s. follows false false (upserts schema at table base clauses) _ (λ found. (refl, refl))))

pub insert_or_abort_is : (schema : Schema) (base : ℕ) (name : Name) (columns : List Name) (rows : Given) (clauses : List Upsert)
    → Is false false (insert_or_abort schema base name columns rows clauses)
unfolding insert_or_abort
insert_or_abort_is schema base name columns rows clauses =
    either false false (length clauses == 0) _ _ (insert_is schema base name columns rows)
    (insert_or_is schema base how.Abort name columns rows clauses)

pub create_table_is : (schema : Schema) (formats : List Name) (def : Definition) → Is false false (create_table schema formats def)
unfolding create_table
create_table_is schema formats def = either false false (is_attached schema def.name) _ _ tt (follows false false
    (creates def.if_missing def.name (option_or (table_named schema def.name) (view_named schema def.name)) (index_named schema def.name)) _
    (λ is_new. either false false is_new _ _ (follows false false (define.table formats def) _
    (λ t. either false false (length t.computed == length t.stamps.places && not def.resolves) _ _ (refl, refl) tt)) (refl, refl)))

pub create_index_is : (schema : Schema) (def : IndexDefinition) → Is false false (create_index schema def)
unfolding create_index
create_index_is schema def =
    either false false (is_reserved def.table) _ _ tt (on_table_is false false schema def.table _ (λ at table. follows false false
    (creates def.if_missing def.name (index_named schema def.name) (option_or (table_named schema def.name) (view_named schema def.name))) _
    (λ is_new. either false false is_new _ _ (follows false false (define.index table def) _ (λ x. (refl, refl))) (refl, refl))))

pub create_view_is : (schema : Schema) (if_missing : Bool) (name : Name) (columns : List Name) (s : written_select.Select)
    → Is false false (create_view schema if_missing name columns s)
unfolding create_view
create_view_is schema if_missing name columns s =
    either false false (is_attached schema name) _ _ tt (follows false false
    (creates if_missing name (option_or (table_named schema name) (view_named schema name)) (index_named schema name)) _
    (λ is_new. either false false is_new _ _ (follows false false (read schema s) _ (λ x. (refl, refl))) (refl, refl)))

pub update_is : (schema : Schema) (name : Name) (sets : List (Name × Expr)) (test : Option Expr)
    → Is false false (update schema name sets test)
unfolding update
update_is schema name sets test =
    on_table_is false false schema name _ (λ at table. follows false false (updated schema at table sets test) _
    (λ d. follows false false (program schema [] d) _ (λ p. (refl, refl))))

pub delete_is : (schema : Schema) (name : Name) (test : Option Expr) → Is false false (delete schema name test)
unfolding delete
delete_is schema name test =
    on_table_is false false schema name _ (λ at table. follows false false (deleted schema at table test) _
    (λ d. follows false false (program schema [] d) _ (λ p. (refl, refl))))

dropped_is : (command : ℕ → Command) (missing : CompileError) (if_exists : Bool) (at : Option ℕ)
    → ((n : ℕ) → (is_select (command n) ≡ false) × (closes (command n) ≡ false)) → Is false false (dropped command missing if_exists at)
dropped_is command missing if_exists (Some at) is = is at
dropped_is command missing true None is = (refl, refl)
dropped_is command missing false None is = tt

pub drop_table_is : (schema : Schema) (if_exists : Bool) (name : Name) → Is false false (drop_table schema if_exists name)
unfolding drop_table
drop_table_is schema if_exists name =
    either false false (is_reserved name) _ _ tt (either false false (is_some (view_named schema name)) _ _ tt
    (dropped_is DropTable NoSuchTable if_exists (table_named schema name) (λ n. (refl, refl))))

pub drop_view_is : (schema : Schema) (if_exists : Bool) (name : Name) → Is false false (drop_view schema if_exists name)
unfolding drop_view
drop_view_is schema if_exists name = either false false (is_some (table_named schema name)) _ _ tt
    (dropped_is DropView NoSuchTable if_exists (view_named schema name) (λ n. (refl, refl)))

pub drop_index_is : (schema : Schema) (if_exists : Bool) (name : Name) → Is false false (drop_index schema if_exists name)
unfolding drop_index
drop_index_is schema if_exists name =
    either false false (is_reserved name) _ _ tt (either false false (is_attached schema name) _ _ tt
    (dropped_is DropIndex NoSuchIndex if_exists (index_named schema name) (λ n. (refl, refl))))

foreign_keys_is : (value : Option Name) → Is false false (foreign_keys value)
unfolding is_on
foreign_keys_is None = (refl, refl)
foreign_keys_is (Some value) = either false false (is_on value) (Ok Nothing) (Err Unsupported) (refl, refl) tt

pragma_by_is : (value : Option Name) (k : Known) → Is false false (pragma_by value k)
pragma_by_is value ForeignKeys = foreign_keys_is value
pragma_by_is value JournalMode = (refl, refl)
pragma_by_is value BusyTimeout = (refl, refl)
pragma_by_is None Synchronous = (refl, refl)
pragma_by_is (Some name) Synchronous = (refl, refl)
pragma_by_is value Optimize = (refl, refl)
pragma_by_is None Hint = tt
pragma_by_is (Some name) Hint = (refl, refl)
pragma_by_is value Unknown = tt

pub pragma_is : (name : Name) (value : Option Name) → Is false false (pragma name value)
unfolding pragma
pragma_is name value = pragma_by_is value (known name)
