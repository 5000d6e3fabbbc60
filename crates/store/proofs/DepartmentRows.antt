-- The row of a department is that of no other, and reading it gives the department back.
use Rattle.store.proofs.Words.{AllByRecursion, Bool, Department, DepartmentRow, Err, Fault, IfOk, IsRead, IsTrue, List}
use Rattle.store.proofs.Words.{None, Ok, Option, Result, Some, [], and_parts, ap, append-nil, append_assoc, ap₂}
use Rattle.store.proofs.Words.{are_extension_names, are_namespaces, are_option_names, cases_Bool, department_of_row}
use Rattle.store.proofs.Words.{department_row, drop, drop_all, drop_more, each, eqb, false, get_or, inl, inr}
use Rattle.store.proofs.Words.{is_department, length, list_all, list_text, map, none-some, option_and_then}
use Rattle.store.proofs.Words.{option_map, refl, same_Some, subst, sym, true, ℕ, ◌++◌, ◌+◌, ◌<◌, ◌∙◌, ◌∷◌, ◌≡◌, ◌≤◌}
use Rattle.std.specs.List.{join_with_byte, slice_split}
use Rattle.std.proofs.lemmas.Bool.{cond-true}
use Rattle.std.proofs.Common.{arith, codes}
use Rattle.std.proofs.lemmas.List.Splits.{join_with_byte-slice_split, length-slice_split}
use Rattle.std.proofs.lemmas.Option.{option_and_then_some}
use Rattle.text.specs.declared.pair.Pair.{Pair}
use Rattle.values.proofs.Lacking.{slice_split-join_with_byte}
use Rattle.values.specs.declared.kind.Kind.{Kind}
use Rattle.values.specs.declared.option_field.OptionField.TheVariants.{CriticalOptions, Extensions}
use Rattle.values.specs.Names.{is_administrator, is_rule, is_namespace}
use Rattle.values.specs.Options.{is_known}
use Rattle.message.specs.Reading.{demand_after, is_new_demand}
use Rattle.message.specs.Texts.{demand_line, key_types_lines, list_line}
use Rattle.message.specs.Values.{are_administrators, are_demands, are_key_types, are_key_types_or_none, are_rules}
use Rattle.message.proofs.Fields.{AllLack, lacks_joined, list_on, split_joined}
use Rattle.message.proofs.PairLines.{AreNew}
use Rattle.message.proofs.Demands.{demand_field, demand_lines_lack, demand_on, demands_are_new}
use Rattle.message.proofs.DepartmentEnds.{key_types_field}
use Rattle.message.proofs.Elements.{administrators_lack, rules_lack, option_names_lack, extension_names_lack}
use Rattle.message.proofs.Elements.{namespaces_lack}
use Rattle.cert.specs.Bodies.{kind_number}
use Rattle.cert.specs.Reading.{kind_of}
use Rattle.store.specs.Departments.{additions_in, additions_of, demands_of, first_parted, if_lawful, key_types_of}
use Rattle.store.specs.Departments.{lines_of, parted, parts_of, whole_of}
use Rattle.cert.proofs.BodyParts.{kind_again, kind_found}

-- ---- texts joined by commas

-- texts, each after this byte
abbrev pub following : ℕ → List (List ℕ) → List ℕ
following by [] = []
following by (t ∷ ts) = by ∷ (t ++ following by ts)

pub joined_first : (by : ℕ) (t : List ℕ) (ts : List (List ℕ)) → t ++ following by ts ≡ join_with_byte by (t ∷ ts)
joined_first by t [] = append-nil t
joined_first by t (u ∷ ts) = ap (λ (x : List ℕ). t ++ by ∷ x) (joined_first by u ts)

-- one more text follows, after the byte
pub following_more : (by : ℕ) (texts : List (List ℕ)) (k : ℕ) (text bytes comma more : List ℕ) → k < length texts
    → text ≡ get_or texts k text → comma ≡ bytes ++ by ∷ [] → more ≡ comma ++ text
    → more ++ following by (drop (k + 1) texts) ≡ bytes ++ following by (drop k texts)
following_more by texts k text bytes comma more within is pushed longer =
    let others = following by (drop (k + 1) texts) in
    let parts : drop k texts ≡ text ∷ drop (k + 1) texts =
    drop_more texts k text within ∙ ap (λ (t : List ℕ). t ∷ drop (k + 1) texts) (sym is) in
    rw (longer, pushed) (append_assoc (bytes ++ by ∷ []) text others ∙ append_assoc bytes (by ∷ []) (text ++ others)
    ∙ ap (λ (ts : List (List ℕ)). bytes ++ following by ts) (sym parts))

pub following_none : (by : ℕ) (texts : List (List ℕ)) (k : ℕ) (bytes : List ℕ) → length texts ≤ k
    → bytes ≡ bytes ++ following by (drop k texts)
following_none by texts k bytes past =
    sym (ap (λ (ts : List (List ℕ)). bytes ++ following by ts) (drop_all k texts past) ∙ append-nil bytes)

joined_parted : (t : List ℕ) → list_text (parted t) ≡ t
joined_parted [] = refl
joined_parted (b ∷ t) = join_with_byte-slice_split 44 (b ∷ t)

parted_some : (t : List ℕ) → (t ≡ [] → ⊥) → parted t ≡ slice_split (λ c. eqb c 44) t
parted_some [] some = absurd (some refl)
parted_some (b ∷ t) some = refl

joined_some : (test : List ℕ → Bool) (t : List ℕ) (ts : List (List ℕ)) → test [] ≡ false → test t ≡ true
    → list_text (t ∷ ts) ≡ [] → ⊥
joined_some test [] ts none is e = cc
joined_some test (b ∷ t) [] none is e = cc
joined_some test (b ∷ t) (u ∷ ts) none is e = cc

parted_joined : (test : List ℕ → Bool) (ts : List (List ℕ)) → test [] ≡ false → list_all test ts ≡ true → AllLack 44 ts
    → parted (list_text ts) ≡ ts
parted_joined test [] none all lack = refl
parted_joined test (t ∷ ts) none all lack =
    parted_some (list_text (t ∷ ts)) (joined_some test t ts none (and_parts _ _ all).0) ∙ split_joined t ts lack

-- ---- the lines of a column

-- texts joined by commas, and further lines, are found again
column_again : (ts ls : List (List ℕ)) → AllLack 10 ts → AllLack 10 ls
    → lines_of (join_with_byte 10 (list_text ts ∷ ls)) ≡ list_text ts ∷ ls
column_again ts ls texts lines =
    slice_split-join_with_byte 10 (list_text ts) ls (lacks_joined 10 44 ts refl texts, lines)

-- a column is made of its lines
column_found : (t : List ℕ) (more : List (List ℕ)) → drop 1 (lines_of t) ≡ more
    → join_with_byte 10 (list_text (first_parted (lines_of t)) ∷ more) ≡ t
column_found t more is = by (lines_of t) refl is
  where
    by : (ls : List (List ℕ)) → lines_of t ≡ ls → drop 1 ls ≡ more
        → join_with_byte 10 (list_text (first_parted ls) ∷ more) ≡ t
    by [] e h = absurd (omega (arith, length-slice_split (λ b. eqb b 10) t, ap length e))
    by (l ∷ ls) e h =
        ap₂ (λ (x : List ℕ) (xs : List (List ℕ)). join_with_byte 10 (x ∷ xs)) (joined_parted l) (sym h)
        ∙ ap (join_with_byte 10) (sym e) ∙ join_with_byte-slice_split 10 t

demands_again : (kind : Kind) (before ps : List Pair) → AreNew (is_new_demand kind) before ps
    → demands_of kind before (map demand_line ps) ≡ Some (before ++ ps)
demands_again kind before [] is = ap (λ (x : List Pair). Some x) (sym (append-nil before))
demands_again kind before (p ∷ ps) is =
    ap (option_and_then (λ x. demands_of kind (before ++ x ∷ []) (map demand_line ps)))
    ((demand_field kind before).again p is.0)
    ∙ demands_again kind (before ++ p ∷ []) ps is.1
    ∙ ap (λ (x : List Pair). Some x) (append_assoc before (p ∷ []) ps)

demands_found : (kind : Kind) (ls : List (List ℕ)) (before ps : List Pair) → demands_of kind before ls ≡ Some ps
    → (more : List Pair) × (ps ≡ before ++ more) × (ls ≡ map demand_line more)
demands_found kind [] before ps e = ([], sym (same_Some before ps e) ∙ sym (append-nil before), refl)
demands_found kind (l ∷ ls) before ps e =
    option_and_then_some (λ x. demands_of kind (before ++ x ∷ []) ls) (demand_after kind before l) ps e
    (λ p read rest.
    let more = demands_found kind ls (before ++ p ∷ []) ps rest in (
      p ∷ more.0,
      more.1 ∙ append_assoc before (p ∷ []) more.0,
      ap₂ (λ (x : List ℕ) (xs : List (List ℕ)). x ∷ xs) (demand_on kind before l p read).1 more.2,
    ))

key_types_again : (ts : List (List ℕ)) → are_key_types_or_none ts ≡ true → key_types_of (key_types_lines ts) ≡ Some ts
key_types_again [] is = refl
key_types_again (t ∷ ts) is = key_types_field.again (t ∷ ts) is

key_types_found : (ls ts : List (List ℕ)) → key_types_of ls ≡ Some ts → ls ≡ key_types_lines ts
key_types_found [] ts e = ap key_types_lines (same_Some [] ts e)
key_types_found (l ∷ []) ts e = let on = list_on (codes "key-types") are_key_types l ts e in one ts on.0 on.1
  where
    one : (ts : List (List ℕ)) → are_key_types ts ≡ true → l ≡ list_line (codes "key-types") ts
        → l ∷ [] ≡ key_types_lines ts
    one [] is same = absurd cc
    one (t ∷ ts) is same = ap (λ (x : List ℕ). x ∷ []) same
key_types_found (l ∷ m ∷ ls) ts e = absurd cc

key_types_lack_feeds : (ts : List (List ℕ)) → are_key_types_or_none ts ≡ true → AllLack 10 (key_types_lines ts)
key_types_lack_feeds [] is = tt
key_types_lack_feeds (t ∷ ts) is = (key_types_field.is_line (t ∷ ts) is, tt)

-- ---- the whole row

-- the parts of a valid department, in order
abbrev Additions : Type 0
Additions = List Pair × List (List ℕ)

-- What a valid department has.
record Has (d : Department) : Type 0 where
  admins : are_administrators d.administrators ≡ true
  rules : are_rules d.rules ≡ true
  options : are_option_names d.options ≡ true
  demands : are_demands d.kind d.demands ≡ true
  extensions : are_extension_names d.extensions ≡ true
  key_types : are_key_types_or_none d.key_types ≡ true
  namespaces : are_namespaces d.namespaces ≡ true

has : (d : Department) → is_department d ≡ true → Has d
has d is =
    let a = and_parts _ _ (and_parts _ _ is).1 in
    let r = and_parts _ _ a.1 in
    let o = and_parts _ _ r.1 in
    let m = and_parts _ _ o.1 in
    let e = and_parts _ _ m.1 in
    let k = and_parts _ _ e.1 in
    let n = and_parts _ _ (and_parts _ _ k.1).1 in record {
      admins = a.0;
      rules = r.0;
      options = (and_parts _ _ o.0).0;
      demands = m.0;
      extensions = (and_parts _ _ e.0).0;
      key_types = k.0;
      namespaces = n.0;
    }

options_again : (d : Department) → Has d → lines_of (department_row d).options
    ≡ list_text d.options ∷ map demand_line d.demands
options_again d h =
    column_again d.options (map demand_line d.demands) (option_names_lack d.options h.options).1
    (demand_lines_lack d.kind d.demands (and_parts _ _ (and_parts _ _ h.demands).1).0)

extensions_again : (d : Department) → Has d → lines_of (department_row d).extensions
    ≡ list_text d.extensions ∷ key_types_lines d.key_types
extensions_again d h =
    column_again d.extensions (key_types_lines d.key_types) (extension_names_lack d.extensions h.extensions).1
    (key_types_lack_feeds d.key_types h.key_types)

additions_again : (d : Department) → Has d → additions_of (department_row d) d.kind ≡ Some (d.demands, d.key_types)
additions_again d h =
    let demands = demands_again d.kind [] d.demands (demands_are_new d.kind d.demands (and_parts _ _ h.demands).1) in
    let types = key_types_again d.key_types h.key_types in
    ap₂ (λ (o e : List (List ℕ)). additions_in o e d.kind) (options_again d h) (extensions_again d h)
    ∙ ap (option_and_then (λ demands. option_map (λ types. (demands, types)) (key_types_of (key_types_lines d.key_types)))) demands
    ∙ ap (option_map (λ types. (d.demands, types))) types

parts_again : (d : Department) → Has d → parts_of (department_row d) d.kind (d.demands, d.key_types) ≡ d
parts_again d h =
    let admins = parted_joined is_administrator d.administrators refl (and_parts _ _ (and_parts _ _ h.admins).1).0
    (administrators_lack d.administrators h.admins).0 in
    let rs = parted_joined is_rule d.rules refl (and_parts _ _ (and_parts _ _ h.rules).1).0
    (rules_lack d.rules h.rules).0 in
    let os = ap first_parted (options_again d h)
    ∙ parted_joined (is_known CriticalOptions) d.options refl (and_parts _ _ h.options).0
    (option_names_lack d.options h.options).0 in
    let es = ap first_parted (extensions_again d h)
    ∙ parted_joined (is_known Extensions) d.extensions refl (and_parts _ _ h.extensions).0
    (extension_names_lack d.extensions h.extensions).0 in
    let ns = parted_joined is_namespace d.namespaces refl (and_parts _ _ (and_parts _ _ h.namespaces).1).0
    (namespaces_lack d.namespaces h.namespaces).0 in
    rw (admins, rs, os, es, ns) refl

abbrev from_kind : DepartmentRow → Kind → Option Department
from_kind row kind = option_and_then if_lawful (whole_of row kind)

pub row_again : (d : Department) → is_department d ≡ true → department_of_row (department_row d) ≡ Some d
row_again d is =
    let h = has d is in
    ap (λ (o : Option Kind). option_and_then (λ kind. from_kind (department_row d) kind) o) (kind_again d.kind)
    ∙ ap (λ (o : Option Additions). option_and_then if_lawful (option_map (parts_of (department_row d) d.kind) o))
    (additions_again d h)
    ∙ ap if_lawful (parts_again d h) ∙ cond-true (is_department d) (Some d) None is

lawful_found : (p d : Department) → if_lawful p ≡ Some d → (is_department d ≡ true) × (p ≡ d)
lawful_found p d e = elim (cases_Bool (is_department p)) [
  | inl is ↦ let same : p ≡ d = same_Some _ _ (rw is at e) in (ap is_department (sym same) ∙ is, same)
  | inr is ↦ absurd (none-some d (rw is at e))
]

-- what was read of the further lines is written on them
additions_found : (row : DepartmentRow) (k : Kind) (a : Additions) → additions_of row k ≡ Some a
    → (drop 1 (lines_of row.options) ≡ map demand_line a.0) × (drop 1 (lines_of row.extensions) ≡ key_types_lines a.1)
additions_found row k a e =
    option_and_then_some
    (λ demands. option_map (λ types. (demands, types)) (key_types_of (drop 1 (lines_of row.extensions))))
    (demands_of k [] (drop 1 (lines_of row.options))) a e
    (λ demands read mapped. typed demands (demands_found k (drop 1 (lines_of row.options)) [] demands read)
    (key_types_of (drop 1 (lines_of row.extensions))) refl mapped)
  where
    typed : (demands : List Pair)
        → ((more : List Pair) × (demands ≡ [] ++ more) × (drop 1 (lines_of row.options) ≡ map demand_line more))
        → (o : Option (List (List ℕ))) → key_types_of (drop 1 (lines_of row.extensions)) ≡ o
        → option_map (λ types. (demands, types)) o ≡ Some a
        → (drop 1 (lines_of row.options) ≡ map demand_line a.0) × (drop 1 (lines_of row.extensions) ≡ key_types_lines a.1)
    typed demands more None read e = absurd cc
    typed demands more (Some types) read e =
        let same : (demands, types) ≡ a = same_Some _ _ e in (
          more.2 ∙ ap (map demand_line) (sym more.1 ∙ ap (λ (x : Additions). x.0) same),
          key_types_found (drop 1 (lines_of row.extensions)) types read
              ∙ ap (λ (x : Additions). key_types_lines x.1) same,
        )

row_of_parts : (row : DepartmentRow) (k : Kind) (a : Additions) → kind_number k ≡ row.kind → additions_of row k ≡ Some a
    → department_row (parts_of row k a) ≡ row
row_of_parts row k a is read =
    let lines = additions_found row k a read in
    rw (
      joined_parted row.admins,
      joined_parted row.rules,
      column_found row.options (map demand_line a.0) lines.0,
      column_found row.extensions (key_types_lines a.1) lines.1,
      joined_parted row.namespaces,
      is,
    ) refl

-- a department that a row has is made of its parts
made_of : (row : DepartmentRow) (k : Kind) (p : Department) (o : Option Additions) → additions_of row k ≡ o
    → option_map (parts_of row k) o ≡ Some p
    → (a : Additions) × (additions_of row k ≡ Some a) × (parts_of row k a ≡ p)
made_of row k p None is e = absurd cc
made_of row k p (Some a) is e = (a, is, same_Some _ _ e)

pub row_found : (row : DepartmentRow) (d : Department) → department_of_row row ≡ Some d
    → (is_department d ≡ true) × (row ≡ department_row d)
row_found row d e =
    option_and_then_some (from_kind row) (kind_of row.kind) d e
    (λ k kind whole. option_and_then_some if_lawful (whole_of row k) d whole
    (λ p read h.
    let lawful = lawful_found p d h in
    let parts = made_of row k p (additions_of row k) refl read in (
      lawful.0,
      sym (ap department_row (sym (parts.2 ∙ lawful.1))
          ∙ row_of_parts row k parts.0 (sym (kind_found row.kind k kind)) parts.1),
    )))

-- ---- the values of a row

pub reads_found : (row : DepartmentRow) (r : Result Department Fault) → IsRead (department_of_row row) r
    → IfOk r (λ d. IsTrue (is_department d) × (row ≡ department_row d))
reads_found row (Ok d) h = row_found row d h
reads_found row (Err f) h = tt

pub reads_again : (row : DepartmentRow) (r : Result Department Fault) → IsRead (department_of_row row) r
    → (d : Department) → IsTrue (is_department d) → row ≡ department_row d → IsRead (Some d) r
reads_again row r h d is same = subst (λ o. IsRead o r) (ap department_of_row same ∙ row_again d is) h

-- ---- all rows

abbrev pub department_rows : List (List ℕ × Department) → List DepartmentRow
department_rows entries = map (λ e. department_row e.1) entries

pub departments_again : (entries : List (List ℕ × Department))
    → AllByRecursion (λ e. (is_department e.1 ≡ true) × (e.0 ≡ e.1.name)) entries
    → each department_of_row (department_rows entries) ≡ Some (map (λ e. e.1) entries)
departments_again [] all = refl
departments_again (e ∷ entries) all =
    ap₂ (λ (o : Option Department) (os : Option (List Department)).
    option_and_then (λ x. option_map (λ xs. x ∷ xs) os) o) (row_again e.1 all.0.0) (departments_again entries all.1)
