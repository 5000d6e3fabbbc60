-- CREATE TABLE: the tables that it creates, that no rule refuses them, and why it fails: memory is refused, or the
-- database fails.
use Rattle.store_sql.proofs.Words.{CommitsBy, CreateTable, Creates, Database, Does, Err, Error, Executes, ExecutesIn}
use Rattle.store_sql.proofs.Words.{Fault, Has, HasCause, IfErr, IsDone, IsMisplaced, IsPlain, KeepsRows, List, Mode}
use Rattle.store_sql.proofs.Words.{None, Ok, Option, Result, Schema, Some, State, Stays, Table, TableName, Tally, Trees}
use Rattle.store_sql.proofs.Words.{WaitsAt, Writes, [], ap, append-nil, arith, automatics, before, ca, codes}
use Rattle.store_sql.proofs.Words.{command_of, created, everything, false, fault_of, index_reals, inl, inr, is_fit}
use Rattle.store_sql.proofs.Words.{is_formed, is_pragma, is_query, is_reserved, is_used, lacks_sequence, length}
use Rattle.store_sql.proofs.Words.{list_all, created_table, mode_of, nat_lt, next_tree, not, refl, runs_as, same_name}
use Rattle.store_sql.proofs.Words.{statement_of, subst, subst₂, sym, table_defined_by, table_reals, test_has, text_of}
use Rattle.store_sql.proofs.Words.{true, understood, value_cmp, ℕ, ◌*◌, ◌+◌, ◌^◌, ◌||◌, ◌∙◌, ◌≡◌, ◌≤◌}
use Rattle.store_sql.specs.declared.sql.TheConstants.{CREATE_OFFICE, CREATE_DEPARTMENT, CREATE_CERT, CREATE_REQUEST}
use Rattle.store_sql.specs.declared.sql.TheConstants.{CREATE_RUN, CREATE_REVOKED, CREATE_CA}
use Rattle.store_sql.specs.Schema.{office, department, cert, request, run, revoked_keyid}
use Rattle.sqlite.specs.Change.{next_tree as new_tree}
use Rattle.store_sql.specs.Making.{create_text as sql_of}
use Rattle.store_sql.proofs.Commands.{closes}
use Rattle.store_sql.proofs.Forms.{ends_nowhere, is_compiled}
use Rattle.store_sql.proofs.Staying.{stays_done}
use Rattle.store_sql.proofs.Statements.{went, same_value, stopped, commits_as}
use Rattle.store_sql.proofs.Texts.{one_of, statement, understood_as}
use Rattle.sqlite_resolve.specs.Compile.{compiled}
use Rattle.std.specs.Str.{is_utf8, chars}
use Rattle.sqlite_value.specs.declared.value.Value.TheVariants.{Text}
use Rattle.sqlite_trees.specs.Sound.{begins, fits_kind, is_free_name, same_name as same_letters}
use Rattle.store_sql.proofs.FaultLemmas.{IsWhole, failed, not_run}
use Rattle.std.specs.Prelude.{IsUtf8}
use Rattle.std.proofs.Math.Seq.{take-length}
use native.Mathlib.Numerals.{unary_clauses}
use Rattle.std.proofs.lemmas.Bool.{ltb-true}
use Rattle.std.proofs.lemmas.Str.{IsUtf8-from_is_utf8}
use Rattle.sqlite_catalog.specs.Calls.{RefusesTable, IsLongTable}
use Rattle.sqlite_catalog.specs.declared.error.Refusal.TheVariants.{Invalid, NameTaken, BadName, TooBig, BadKey}
use Rattle.sqlite_catalog.specs.declared.error.Refusal.TheVariants.{BadText, Violates}
use Rattle.sqlite.specs.Does.{MakesTable}
use Rattle.store_sql.specs.declared.creation.TableName.TheVariants as name
use Rattle.sqlite_catalog.specs.declared.error.Refusal as alter

-- a text that creates this table in this schema
pub record Create (text : List ℕ) (before : Schema) (table : Table) : Type 0 where
  pub told : (command_of (understood before text) ≡ CreateTable) × (statement_of text (understood before text) ≡ text)
      × IsPlain (understood before text) × (lacks_sequence (created before table) ≡ false)
  pub defined : table_defined_by text ≡ Ok table

module _ {text : List ℕ} {before : Schema} {table : Table} (t : Create text before table) where
  pub creates : (old new : State) (r : Result ℕ Error) → Executes text [] old new r → Creates before table old new r
  creates old new (Err e) h = stopped text [] old new e h
  creates old new (Ok count) h = λ has.
      let w = subst (λ sql. Writes old new None CreateTable sql [] count) t.told.1
      (runs_as text [] old new before has CreateTable t.told.0 t.told.2 count h) in
      let done = went w.changed in
      let first = went done.1 in
      let made = first.1 in
      let both : Ok made.table ≡ Ok table = sym made.defined ∙ t.defined in
      let same : made.table ≡ table = cc in
      let schema : first.0.schema ≡ created before table = made.is ∙ ap (λ s. created s made.table) has
      ∙ ap (created before) same in
      let none : lacks_sequence first.0.schema ≡ false = ap lacks_sequence schema ∙ t.told.3 in
      let now : new.now ≡ first.0 = ap (λ (p : Tally × Database). p.1) (same_value done.2)
      ∙ same_value (rw none at first.2) in
      record {
        was_open = w.shown.was_open;
        is_open = w.shown.is_open;
        schema = ap (λ (d : Database). d.schema) now ∙ schema;
        empty = ap (λ (d : Database). d.trees (new_tree before)) now
            ∙ subst (λ s. first.0.trees (new_tree s) ≡ []) has made.empty;
        others = subst (λ (d : Database). KeepsRows before.tables old.now.trees d.trees) (sym now)
            (subst (λ s. KeepsRows s.tables old.now.trees first.0.trees) has made.others);
        sound = w.sound;
        committed = w.shown.committed_is;
        mode = w.shown.mode;
        marks = w.marks;
      }

  pub create_stays : {X : Type 0} (old new : State) (answer : Result ℕ Error) (r : Result X Fault) → IsDone answer r
      → Executes text [] old new answer → Stays old new r
  create_stays old new answer r done ran =
      let known = is_compiled (understood before text) t.told.2 in
      stays_done text [] old new (λ c is. ends_nowhere before old.now.schema text known.0 c known.1 is
      (ap closes (sym (ap command_of known.1) ∙ t.told.0)))
      answer r done ran

  pub creates_left : (old : State) (trees : Trees) → CommitsBy text [] old trees → WaitsAt before old trees
  creates_left old trees h has = (commits_as text [] old before has CreateTable t.told.0 t.told.2 tt trees h).0

-- each CREATE text defines its table
pub office_defined : table_defined_by CREATE_OFFICE.now ≡ Ok office
unfolding everything
office_defined = refl

pub department_defined : table_defined_by CREATE_DEPARTMENT.now ≡ Ok department
unfolding everything
department_defined = refl

pub cert_defined : table_defined_by CREATE_CERT.now ≡ Ok cert
unfolding everything
cert_defined = refl

pub request_defined : table_defined_by CREATE_REQUEST.now ≡ Ok request
unfolding everything
request_defined = refl

pub run_defined : table_defined_by CREATE_RUN.now ≡ Ok run
unfolding everything
run_defined = refl

pub revoked_keyid_defined : table_defined_by CREATE_REVOKED.now ≡ Ok revoked_keyid
unfolding everything
revoked_keyid_defined = refl

pub ca_defined : table_defined_by CREATE_CA.now ≡ Ok ca
unfolding everything
ca_defined = refl

defines : (n : TableName) → table_defined_by (sql_of n) ≡ Ok (created_table n)
defines name.Office = office_defined
defines name.Department = department_defined
defines name.Cert = cert_defined
defines name.Request = request_defined
defines name.Run = run_defined
defines name.RevokedKeyId = revoked_keyid_defined
defines name.Ca = ca_defined

-- and is one statement, which creates a table
compiles : (n : TableName) → compiled (before n) (sql_of n) ≡ Ok (one_of (sql_of n) CreateTable 0)
unfolding everything
compiles name.Office = refl
compiles name.Department = refl
compiles name.Cert = refl
compiles name.Request = refl
compiles name.Run = refl
compiles name.RevokedKeyId = refl
compiles name.Ca = refl

-- no table of sequence counts is missing
uncounted : (n : TableName) → lacks_sequence (created (before n) (created_table n)) ≡ false
uncounted name.Office = refl
uncounted name.Department = refl
uncounted name.Cert = refl
uncounted name.Request = refl
uncounted name.Run = refl
uncounted name.RevokedKeyId = refl
uncounted name.Ca = refl

-- each of the office's tables
pub makes : (n : TableName) → Create (sql_of n) (before n) (created_table n)
makes n =
    let is = statement (before n) (sql_of n) CreateTable 0 refl (compiles n) in
    let text = ap (statement_of (sql_of n)) (understood_as (before n) (sql_of n) _ (compiles n)) in
    record { told = (is.0, text ∙ simp unary_clauses (take-length (sql_of n)), is.1, uncounted n); defined = defines n }

-- ---- tables that no rule refuses

-- the names are free: the table's isn't used or reserved, and none of its indexes exists
abbrev AreFree : Schema → Table → Type 0
AreFree before table = (not (is_used before table.name) ≡ true) × (not (is_reserved table.name) ≡ true)
    × (list_all (λ i. not (is_used before i.name)) (automatics table 0 0 table.uniques) ≡ true)

-- the text is well-formed
abbrev IsFormed : List ℕ → Table → Type 0
IsFormed text table = (is_formed table ≡ true)
    × (is_fit (Text (codes "table")) (Text table.name) (Text table.name) (Text text) ≡ true)
    × (is_utf8 text ≡ true) × (is_utf8 table.name ≡ true)

-- numbers are within their limits: those of trees, of floats, of floats in a key, and of bytes
abbrev IsSmall : List ℕ → Schema → Table → Type 0
IsSmall text before table = (nat_lt (next_tree before + length table.uniques) 65536 ≡ true)
    × (nat_lt (table_reals table) (2 ^ 64) ≡ true)
    × (list_all (λ key. nat_lt (index_reals (table_reals table) key) (2 ^ 64)) table.uniques ≡ true)
    × (nat_lt (2 * length table.name + length text + 200) (10 ^ 9) ≡ true)

pub record IsMakeable (text : List ℕ) (before : Schema) (table : Table) : Type 0 where
  pub create : Create text before table
  pub one : IsWhole text 0 (understood before text)
  pub free : AreFree before table
  pub formed : IsFormed text table
  pub small : IsSmall text before table

all_of : (n : TableName) → AreFree (before n) (created_table n) → IsFormed (sql_of n) (created_table n)
    → IsSmall (sql_of n) (before n) (created_table n) → IsMakeable (sql_of n) (before n) (created_table n)
all_of n free formed small =
    let is = statement (before n) (sql_of n) CreateTable 0 refl (compiles n) in
    record { create = makes n; one = is.2; free = free; formed = formed; small = small }

-- each of the office's tables can be created
pub makeable : (n : TableName) → IsMakeable (sql_of n) (before n) (created_table n)
unfolding everything same_name same_letters fits_kind is_free_name value_cmp begins lib.Ieee.is_nan lib.Ieee.lt is_utf8 chars lib.Utf8.encode
makeable name.Office = all_of name.Office (refl, refl, refl) (refl, refl, refl, refl) (refl, refl, refl, refl)
makeable name.Department = all_of name.Department (refl, refl, refl) (refl, refl, refl, refl) (refl, refl, refl, refl)
makeable name.Cert = all_of name.Cert (refl, refl, refl) (refl, refl, refl, refl) (refl, refl, refl, refl)
makeable name.Request = all_of name.Request (refl, refl, refl) (refl, refl, refl, refl) (refl, refl, refl, refl)
makeable name.Run = all_of name.Run (refl, refl, refl) (refl, refl, refl, refl) (refl, refl, refl, refl)
makeable name.RevokedKeyId = all_of name.RevokedKeyId (refl, refl, refl) (refl, refl, refl, refl) (refl, refl, refl, refl)
makeable name.Ca = all_of name.Ca (refl, refl, refl) (refl, refl, refl, refl) (refl, refl, refl, refl)

-- ---- why a table can't be created

never_misplaced : (s : State) (e : Error) → IsMisplaced s CreateTable e → ⊥
never_misplaced s e (inl (_, inl (k, _))) = cc
never_misplaced s e (inl (_, inr (inl k, _))) = cc
never_misplaced s e (inl (_, inr (inr k, _))) = cc
never_misplaced s e (inr (_, name, inl k, _)) = cc
never_misplaced s e (inr (_, name, inr k, _)) = cc

module _ {text : List ℕ} {before : Schema} {table : Table} (m : IsMakeable text before table) where
  -- ---- no rule refuses it

  is_table : (other : Table) → table_defined_by text ≡ Ok other → table ≡ other
  is_table other is = let both : Ok table ≡ Ok other = sym m.create.defined ∙ is in cc

  no_reason : (reason : alter.Refusal) → RefusesTable before text reason → ⊥
  no_reason (Invalid e) h = let wrong : Ok table ≡ Err e = sym m.create.defined ∙ h in cc
  no_reason NameTaken (other, is, inl used) =
      let mine = subst (λ (t : Table). is_used before t.name ≡ true) (sym (is_table other is)) used in
      let free = m.free.0 in
      let wrong = rw mine at free in cc
  no_reason NameTaken (other, is, inr (index, has, used)) =
      let none = test_has (λ i. not (is_used before i.name)) (automatics table 0 0 table.uniques) index m.free.2
      (subst (λ (t : Table). Has (automatics t 0 0 t.uniques) index) (sym (is_table other is)) has) in
      let wrong = rw used at none in cc
  no_reason BadName (other, is, inl bad) =
      bad (subst (λ (t : Table). IsUtf8 t.name) (is_table other is) (IsUtf8-from_is_utf8 table.name m.formed.3))
  no_reason BadName (other, is, inr bad) =
      let mine = subst (λ (t : Table). is_reserved t.name ≡ true) (sym (is_table other is)) bad.0 in
      let free = m.free.1 in
      let wrong = rw mine at free in cc
  no_reason TooBig (other, is, inl many) =
      let few = ltb-true (next_tree before + length table.uniques) 65536 m.small.0 in
      let all = subst (λ (t : Table). 65536 ≤ next_tree before + length t.uniques) (sym (is_table other is)) many in
      omega (arith, few, all)
  no_reason TooBig (other, is, inr (inl many)) =
      let few = ltb-true (table_reals table) (2 ^ 64) m.small.1 in
      let all = subst (λ (t : Table). 2 ^ 64 ≤ table_reals t) (sym (is_table other is)) many in omega (arith, few, all)
  no_reason TooBig (other, is, inr (inr (key, has, many))) =
      let same = sym (is_table other is) in
      let few = ltb-true (index_reals (table_reals table) key) (2 ^ 64)
      (test_has (λ k. nat_lt (index_reals (table_reals table) k) (2 ^ 64)) table.uniques key m.small.2
      (subst (λ (t : Table). Has t.uniques key) same has)) in
      let all = subst (λ (t : Table). 2 ^ 64 ≤ index_reals (table_reals t) key) same many in omega (arith, few, all)
  no_reason BadKey (other, is, bad) =
      let wrong : true ≡ false = sym m.formed.0 ∙ (ap is_formed (is_table other is) ∙ bad) in cc
  no_reason BadText (other, is, bad) =
      let wrong : true ≡ false = sym m.formed.1
      ∙ (ap (λ (t : Table). is_fit (Text (codes "table")) (Text t.name) (Text t.name) (Text text)) (is_table other is) ∙ bad) in cc
  no_reason (Violates rule) h = h

  not_long : IsLongTable text → ⊥
  not_long (other, is, many) =
      let few = ltb-true (2 * length table.name + length text + 200) (10 ^ 9) m.small.3 in
      let all = subst (λ (t : Table). 10 ^ 9 ≤ 2 * length t.name + length text + 200) (sym (is_table other is)) many in
      omega (arith, few, all)

  -- ---- the table is created, or memory is refused, or the database fails

  not_made : (db : Database) (stop : Option Error) → db.schema ≡ before → MakesTable text db (Err stop) → ⊥
  not_made db None is h = not_long h
  not_made db (Some e) is (inl bad) = bad.0 (IsUtf8-from_is_utf8 text m.formed.2)
  not_made db (Some e) is (inr (reason, refuses, told)) =
      no_reason reason (subst (λ s. RefusesTable s text reason) is refuses)

  never_refused : (limit : Option ℕ) (mode : Mode) (db : Database) (stop : Option Error) → db.schema ≡ before
      → Does limit mode [] db text None CreateTable (Err stop) → ⊥
  never_refused limit mode db stop is (inl (why, inl (cause, made, e), f)) = not_made db cause is made
  never_refused limit mode db stop is (inl (why, inr (after, made, sequence), f)) =
      let schema : after.schema ≡ created before table =
      made.is ∙ ap (λ s. created s made.table) is ∙ ap (created before) (sym (is_table made.table made.defined)) in
      let none : lacks_sequence after.schema ≡ false = ap lacks_sequence schema ∙ m.create.told.3 in
      let wrong : Err why ≡ Ok after = rw none at sequence in absurd cc
  never_refused limit mode db stop is (inr (after, made, gives)) = cc

  -- why the call fails
  module _ (old new : State) (has : old.now.schema ≡ before) where
    create_fault : (e : Error) → Executes text [] old new (Err e) → HasCause old new (fault_of e)
    unfolding ExecutesIn
    create_fault e (inl h) =
        let known = sym (ap (λ s. understood s text) has) in
        not_run text [] old new (subst IsPlain known m.create.told.2) (subst (IsWhole text 0) known m.one) e h
    create_fault e (inr h) =
        let known = sym (ap (λ s. understood s text) has) ∙ h.1.is in
        let bare = subst IsPlain known m.create.told.2 in
        let ran = rw (bare.0, bare.1, append-nil []) at h.2 in
        let same : h.0.command ≡ CreateTable = ap command_of (sym known) ∙ m.create.told.0 in
        let stated : text_of text h.0 ≡ text = ap (statement_of text) (sym known) ∙ m.create.told.1 in
        let refuses = λ (stop : Option Error)
        (did : Does old.step_limit (mode_of old) [] old.now (text_of text h.0) None h.0.command (Err stop)).
        never_refused old.step_limit (mode_of old) old.now stop has
        (subst₂ (λ t k. Does old.step_limit (mode_of old) [] old.now t None k (Err stop)) stated same did) in
        let plainly : (is_query h.0.command || (is_pragma h.0.command || false)) ≡ false = rw same refl in
        elim (rw plainly at ran) [
          | inl refused ↦ elim refused.0 [
            | inl m ↦ absurd (never_misplaced old e (subst (λ k. IsMisplaced old k e) same m))
            | inr w ↦ absurd (refuses (Some e) w.1)
          ]
          | inr wrong ↦ failed old new _ e (refuses None) wrong
        ]

    pub create_faults : (r : Result ℕ Error) → Executes text [] old new r → IfErr r (λ e. HasCause old new (fault_of e))
    create_faults (Ok n) h = tt
    create_faults (Err e) h = create_fault e h
