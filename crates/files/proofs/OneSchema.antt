-- The trees of a database, if they are sound, determine its schema.
use Rattle.std.proofs.Common.{◌≡◌, ℕ, ◌+◌, true, false, List, [], ◌∷◌, filter}
use Rattle.std.proofs.Common.{inl, inr, refl, sym, ap, subst, ◌∙◌, arith, pos}
use Rattle.std.specs.List.{AllZip}
use Rattle.sqlite_value.specs.declared.value.Value.{Value}
use Rattle.sqlite_value.specs.declared.value.Value.TheVariants.{Null, Int, Real, Text, Blob}
use Rattle.sqlite_value.specs.Order.{Row, column}
use Rattle.sqlite_trees.specs.Tree.{IsAscending}
use Rattle.sqlite_trees.specs.Objects.{catalog_tree}
use Rattle.sqlite_schema.specs.declared.schema.Table.{Table}
use Rattle.sqlite_schema.specs.declared.schema.View.{View as Stored}
use Rattle.sqlite_schema.specs.declared.schema.Index.{Index}
use Rattle.sqlite_schema.specs.declared.schema.Schema.{Schema}
use Rattle.sqlite_schema.specs.Names.{same_name}
use Rattle.sqlite_rules.specs.Lists.{Has}
use Rattle.sqlite_rules.proofs.ListLemmas.{all_has}
use Rattle.sqlite_catalog.specs.Listing.{AreListed, IsDefined, IsIndexRow, IsTableRow, IsViewRow, automatic}
use Rattle.sqlite_catalog.specs.Listing.{is_index_row, is_table_row, is_view_row}
use Rattle.sqlite_catalog.proofs.AlterLemmas.{numbers_differ}
use Rattle.sqlite_catalog.proofs.StepLemmas.{same_itself}
use Rattle.files.specs.Schemas.{OneSchema}

-- ---- lists zipped with the same list

-- two lists are equal if each of their elements is determined by its partner in a third list
zip_same : {A B : Type 0} (R : A → B → Type 0) → ((a : A) (b c : B) → R a b → R a c → b ≡ c)
    → (xs : List A) (ys zs : List B) → AllZip R xs ys → AllZip R xs zs → ys ≡ zs
zip_same R one [] [] [] p q = refl
zip_same R one [] [] (z ∷ zs) p q = absurd q
zip_same R one [] (y ∷ ys) zs p q = absurd p
zip_same R one (x ∷ xs) [] zs p q = absurd p
zip_same R one (x ∷ xs) (y ∷ ys) [] p q = absurd q
zip_same R one (x ∷ xs) (y ∷ ys) (z ∷ zs) p q = rw (one x y z p.0 q.0, zip_same R one xs ys zs p.1 q.1) refl

-- only the empty list can be zipped with the empty list
no_zip : {A B : Type 0} (R : A → B → Type 0) (xs : List A) → AllZip R xs [] → xs ≡ []
no_zip R [] p = refl
no_zip R (x ∷ xs) p = absurd p

zip_none : {A B : Type 0} (R : A → B → Type 0) (ys : List B) → AllZip R [] ys → ys ≡ []
zip_none R [] p = refl
zip_none R (y ∷ ys) p = absurd p

-- ---- tables

-- a cell determines one tree, and one text
tree_of : (row : Row) (v : Value) (s t : ℕ) → v ≡ Int (pos (s + 1)) → v ≡ Int (pos (t + 1)) → s ≡ t
tree_of row v s t p q = let e : s + 1 ≡ t + 1 = cc in omega (arith, e)

text_of : (v : Value) (s t : List ℕ) → v ≡ Text s → v ≡ Text t → s ≡ t
text_of v s t p q = cc

-- a table is determined by the definition in its text, and its tree
same_made : (s t : Table) (m n : Table) → s ≡ record m { tree = s.tree } → t ≡ record n { tree = t.tree } → m ≡ n
    → s.tree ≡ t.tree → s ≡ t
same_made s t m n p q same tree =
    let f : Table → ℕ → Table = λ x k. record x { tree = k } in
    p ∙ ap (λ x. f x s.tree) same ∙ ap (f n) tree ∙ sym q

-- a row of the listing determines one table
table_same : (row : Row) (s t : Table) → IsTableRow row s → IsTableRow row t → s ≡ t
table_same row s t p q =
    let sql : p.sql ≡ q.sql = text_of _ _ _ p.sql_is q.sql_is in
    let made : p.defined.0 ≡ q.defined.0 = (let a = p.defined.1 in let b = q.defined.1 in cc) in
    same_made s t p.defined.0 q.defined.0 p.defined.2 q.defined.2 made
    (tree_of row _ _ _ p.described.id q.described.id)

-- ---- indexes

-- each name belongs to one table
named_once : (tables : List Table) (s t : Table) → IsAscending (λ s t. same_name s.name t.name ≡ false) tables
    → Has tables s → Has tables t → s.name ≡ t.name → s ≡ t
named_once [] s t up p q same = absurd p
named_once (x ∷ tables) s t up (inl p) (inl q) same = p ∙ sym q
named_once (x ∷ tables) s t up (inl p) (inr q) same =
    let no = all_has _ tables t up.0 q in
    absurd (let yes = same_itself x.name in let e = rw (sym same ∙ ap (λ (y : Table). y.name) p) at no in cc)
named_once (x ∷ tables) s t up (inr p) (inl q) same =
    let no = all_has _ tables s up.0 p in
    absurd (let yes = same_itself x.name in let e = rw (same ∙ ap (λ (y : Table). y.name) q) at no in cc)
named_once (x ∷ tables) s t up (inr p) (inr q) same = named_once tables s t up.1 p q same

-- the name of a UNIQUE constraint's index depends only on its number
automatic_at : (t : Table) (i : Index) (at : ℕ) (key : List ℕ) → i ≡ automatic t at key i.tree
    → i.name ≡ (automatic t at [] 0).name
automatic_at t i at key is = ap (λ (x : Index). x.name) is

-- an index is determined by its text or, if it has none, by the number of its UNIQUE constraint in its name
defined_same : (t : Table) (i j : Index) (v : Value) → i.tree ≡ j.tree → i.name ≡ j.name → IsDefined t i v
    → IsDefined t j v → i ≡ j
defined_same t i j Null tree name p q =
    let alike : same_name (automatic t p.0 [] 0).name (automatic t q.0 [] 0).name ≡ true =
    rw (← automatic_at t i p.0 p.1 p.3, ← automatic_at t j q.0 q.1 q.3, name) (same_itself j.name) in
    let at : p.0 ≡ q.0 = numbers_differ t p.0 q.0 p.4 q.4 alike in
    let key : p.1 ≡ q.1 = (let a = p.2 in let b = q.2 in cc) in
    p.3 ∙ ap (λ k. automatic t k p.1 i.tree) at ∙ ap (λ k. automatic t q.0 k i.tree) key
    ∙ ap (automatic t q.0 q.1) tree ∙ sym q.3
defined_same t i j (Int n) tree name p q = absurd p
defined_same t i j (Real x) tree name p q = absurd p
defined_same t i j (Text sql) tree name p q =
    let made : p.0 ≡ q.0 = (let a = p.1 in let b = q.1 in cc) in
    let f : Index → ℕ → Index = λ m k. record m { tree = k; table = t.tree } in
    p.2 ∙ ap (λ m. f m i.tree) made ∙ ap (f q.0) tree ∙ sym q.2
defined_same t i j (Blob b) tree name p q = absurd p

-- a row of the listing determines one index
index_same : (tables : List Table) → IsAscending (λ s t. same_name s.name t.name ≡ false) tables
    → (row : Row) (i j : Index) → IsIndexRow tables row i → IsIndexRow tables row j → i ≡ j
index_same tables up row i j p q =
    let owner : p.table.name ≡ q.table.name = text_of _ _ _ p.described.owner_is q.described.owner_is in
    let table : p.table ≡ q.table = named_once tables p.table q.table up p.listed q.listed owner in
    defined_same q.table i j (column row 4) (tree_of row _ _ _ p.described.id q.described.id)
    (text_of _ _ _ p.described.name_is q.described.name_is)
    (subst (λ t. IsDefined t i (column row 4)) table p.defined) q.defined

-- ---- the schema

-- a listing of a schema without views is that of no other
one_listing : (a b : Schema) (objects : List Row) → a.views ≡ [] → AreListed objects a → AreListed objects b → b ≡ a
one_listing a b objects none p q =
    let tables : b.tables ≡ a.tables =
    zip_same IsTableRow table_same (filter is_table_row objects) b.tables a.tables q.tables p.tables in
    let its_indexes =
    subst (λ ts. AllZip (IsIndexRow ts) (filter is_index_row objects) b.indexes) tables q.indexes in
    let indexes : b.indexes ≡ a.indexes =
    zip_same (IsIndexRow a.tables) (index_same a.tables p.named) (filter is_index_row objects) b.indexes
    a.indexes its_indexes p.indexes in
    let unviewed : filter is_view_row objects ≡ [] =
    no_zip IsViewRow _ (subst (AllZip IsViewRow (filter is_view_row objects)) none p.views) in
    let views : b.views ≡ a.views =
    zip_none IsViewRow b.views (subst (λ rows. AllZip IsViewRow rows b.views) unviewed q.views) ∙ sym none in
    let f : List Table → List Index → List Stored → Schema =
    λ t i v. record { tables = t; indexes = i; views = v } in
    ap (λ t. f t b.indexes b.views) tables ∙ ap (λ i. f a.tables i b.views) indexes
    ∙ ap (f a.tables a.indexes) views

-- the trees' listing determines the schema
pub one_schema : OneSchema
one_schema a b trees none p q = one_listing a b (trees catalog_tree) none p.lists.listed q.lists.listed
