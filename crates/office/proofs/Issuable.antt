-- An allowed issue makes a valid certificate.
use Rattle.office.proofs.Words.{AllByRecursion, Certificate, Department, Host, Issue, List, None, Renewal, User, View}
use Rattle.office.proofs.Words.{[], and_parts, ap, arith, bytes_eq, bytes_eq-Decides, certificate_for, false, flags}
use Rattle.office.proofs.Words.{inl, inr, is_name, is_serial, leb, length, list_any, ltb, map, or_cases, or_parts, refl}
use Rattle.office.proofs.Words.{renewed_certificate, subst, true, ℕ, ◌&&◌, ◌++◌, ◌∙◌, ◌∷◌, ◌≡◌}
use Rattle.std.specs.Prelude.{◌||◌}
use Rattle.std.specs.List.{list_all}
use Rattle.std.proofs.lemmas.Bool.{and_from, or_from, not-true, le-leb, lt-ltb, eqb-true}
use Rattle.std.proofs.lemmas.List.Folds.{list_all-map, list_any-append}
use Rattle.std.proofs.lemmas.Cmp.{nat_list_eq_equiv}
use Rattle.text.specs.declared.pair.Pair.{Pair}
use Rattle.values.specs.Names.{is_key_id, is_principal}
use Rattle.values.specs.Lists.{are_distinct}
use Rattle.values.specs.Options.{is_known, known_names, is_option_value}
use Rattle.values.specs.declared.kind.Kind.{Kind}
use Rattle.values.specs.declared.option_field.OptionField.{OptionField}
use Rattle.values.specs.declared.option_field.OptionField.TheVariants.{CriticalOptions, Extensions}
use Rattle.cert.specs.Options.{is_option, are_for_kind}
use Rattle.lines.specs.Subjects.{are_parts}
use Rattle.cert.proofs.Listing.{is_options-listing}
use Rattle.cert.specs.OptionFaults.{first_fault, options_fault}
use Rattle.message.specs.Values.{fits_kind, is_department, is_issue, are_principals, is_end}
use Rattle.message.specs.Values.{are_administrators, are_demands, are_rules, are_option_names, are_extension_names}
use Rattle.message.specs.Values.{is_demand}
use Rattle.office.specs.Views.{HasSerial, IsIssuable, IsRenewable}
use Rattle.office.specs.Permissions.{is_permitted}
use Rattle.message.specs.Permissions.{is_life_permitted, is_listed, is_option_permitted}
use Rattle.office.proofs.Growth.{opening_order}
use Rattle.office.specs.Certificates.{IsCertificate}

-- ---- options without a fault

-- no pair has the name of an earlier one
abbrev pub AreApart : List Pair → List Pair → Type 0
AreApart earlier ps = AllByRecursion (λ p. list_any (λ q. bytes_eq q.name p.name) earlier ≡ false) ps

apart_nil : (ps : List Pair) → AreApart [] ps
apart_nil [] = tt
apart_nil (p ∷ ps) = (refl, apart_nil ps)

any-push : (name : List ℕ) (earlier : List Pair) (p : Pair) → list_any (λ q. bytes_eq q.name name) earlier ≡ false
    → bytes_eq p.name name ≡ false → list_any (λ q. bytes_eq q.name name) (earlier ++ p ∷ []) ≡ false
any-push name earlier p e f =
    list_any-append (λ q. bytes_eq q.name name) earlier (p ∷ []) ∙ or_from _ _ e (or_from _ false f refl)

apart_push : (earlier : List Pair) (p : Pair) (ps : List Pair) → AreApart earlier ps → list_any (λ u. bytes_eq u p.name) (map (λ q. q.name) ps) ≡ false → AreApart (earlier ++ p ∷ []) ps
apart_push earlier p [] a e = tt
apart_push earlier p (q ∷ ps) a e =
    let parts = or_parts (bytes_eq q.name p.name) (list_any (λ u. bytes_eq u p.name) (map (λ q. q.name) ps)) e in
    (any-push q.name earlier p a.0 (nat_list_eq_equiv.symm p.name q.name ∙ parts.0), apart_push earlier p ps a.1 parts.1)

first_fault-none : (field : OptionField) (earlier ps : List Pair) → list_all (is_option field) ps ≡ true → are_distinct (map (λ p. p.name) ps) ≡ true → AreApart earlier ps
    → first_fault field earlier ps ≡ None
first_fault-none field earlier [] all distinct apart = refl
first_fault-none field earlier (p ∷ ps) all distinct apart =
    let a = and_parts _ _ all in
    let lawful = and_parts (is_known field p.name) (is_option_value p.name p.value) a.0 in
    let d = and_parts _ _ distinct in
    rw (lawful.0, lawful.1, apart.0) (first_fault-none field (earlier ++ p ∷ []) ps a.1 d.1 (apart_push earlier p ps apart.1 (not-true _ d.0)))

-- valid pairs with distinct names have no fault
pub no_fault : (field : OptionField) (kind : Kind) (ps : List Pair) → are_for_kind kind ps ≡ true → list_all (is_option field) ps ≡ true → are_distinct (map (λ p. p.name) ps) ≡ true
    → options_fault field kind ps ≡ None
no_fault field kind ps fits all distinct = rw fits (first_fault-none field [] ps all distinct (apart_nil ps))

-- ---- extensions as flags

-- an extension is valid without a value
flag_value : (ks : List (List ℕ)) (n : List ℕ) → AllByRecursion (λ k. is_option_value k [] ≡ true) ks → list_any (λ k. bytes_eq k n) ks ≡ true → is_option_value n [] ≡ true
flag_value [] n all e = absurd cc
flag_value (k ∷ ks) n all e = elim (or_cases (bytes_eq k n) (list_any (λ k. bytes_eq k n) ks) e) [
  | inl here ↦ subst (λ (t : List ℕ). is_option_value t [] ≡ true) ((bytes_eq-Decides k n).0 here) all.0
  | inr later ↦ flag_value ks n all.1 later
]

pub flags_lawful : (names : List (List ℕ)) → list_all (is_known Extensions) names ≡ true → list_all (is_option Extensions) (flags names) ≡ true
flags_lawful [] e = refl
flags_lawful (n ∷ names) e =
    let parts = and_parts (is_known Extensions n) _ e in
    let value = flag_value (known_names Extensions) n (refl, (refl, (refl, (refl, (refl, (refl, tt)))))) parts.0 in
    and_from _ _ (and_from (is_known Extensions n) _ parts.0 value) (flags_lawful names parts.1)

pub flags-names : (names : List (List ℕ)) → map (λ p. p.name) (flags names) ≡ names
flags-names [] = refl
flags-names (n ∷ names) = ap (λ (ns : List (List ℕ)). n ∷ ns) (flags-names names)

-- ---- departments for hosts

for_kind : (kind : Kind) (known : List (List ℕ)) (ps : List Pair) → fits_kind kind known ≡ true
    → list_all (λ o. is_listed known o.name) ps ≡ true → are_for_kind kind ps ≡ true
for_kind User known ps fits listed = refl
for_kind Host [] [] fits listed = refl
for_kind Host [] (p ∷ ps) fits listed = absurd cc
for_kind Host (k ∷ known) ps fits listed = absurd (omega (arith, eqb-true (length (k ∷ known)) 0 fits))

options_for_kind : (kind : Kind) (known : List (List ℕ)) (demands ps : List Pair) → fits_kind kind known ≡ true
    → list_all (is_demand kind) demands ≡ true
    → list_all (λ o. is_listed known o.name || list_any (λ demand. bytes_eq demand.name o.name) demands) ps ≡ true
    → are_for_kind kind ps ≡ true
options_for_kind User known demands ps fits demanded permitted = refl
options_for_kind Host [] [] [] fits demanded permitted = refl
options_for_kind Host [] [] (p ∷ ps) fits demanded permitted = absurd cc
options_for_kind Host [] (q ∷ qs) ps fits demanded permitted = absurd cc
options_for_kind Host (k ∷ known) demands ps fits demanded permitted =
    absurd (omega (arith, eqb-true (length (k ∷ known)) 0 fits))

flags_listed : (known names : List (List ℕ)) → list_all (λ e. is_listed known e) names ≡ true
    → list_all (λ o. is_listed known o.name) (flags names) ≡ true
flags_listed known names e = list_all-map (λ o. is_listed known o.name) (λ n. record { name = n; value = [] }) names ∙ e

-- ---- an allowed issue

-- the facts about it, one by one
record IsLawful (d : Department) (i : Issue) : Type 0 where
  options_fit : fits_kind d.kind d.options ≡ true
  extensions_fit : fits_kind d.kind d.extensions ≡ true
  key_id : is_key_id i.key_id ≡ true
  key : are_parts i.key.key_type i.key.key ≡ true
  principals : are_principals i.principals ≡ true
  before : leb i.before 253402300799 ≡ true
  options : list_all (is_option CriticalOptions) i.options ≡ true
  options_apart : are_distinct (map (λ p. p.name) i.options) ≡ true
  extensions : list_all (is_known Extensions) i.extensions ≡ true
  extensions_apart : are_distinct i.extensions ≡ true
  demands : list_all (is_demand d.kind) d.demands ≡ true
  options_permitted : list_all (is_option_permitted d) i.options ≡ true
  extensions_listed : list_all (λ e. is_listed d.extensions e) i.extensions ≡ true
  life : ltb i.after i.before ≡ true

lawful_parts : (d : Department) (i : Issue) → is_department d ≡ true → is_issue i ≡ true → is_permitted d i ≡ true → IsLawful d i
lawful_parts d i department issue permitted =
    let d1 = and_parts (is_name d.name) _ department in
    let d2 = and_parts (are_administrators d.administrators) _ d1.1 in
    let d3 = and_parts (are_rules d.rules) _ d2.1 in
    let d4 = and_parts (are_option_names d.options && fits_kind d.kind d.options) _ d3.1 in
    let demands = and_parts (are_demands d.kind d.demands) _ d4.1 in
    let d5 = and_parts (are_extension_names d.extensions && fits_kind d.kind d.extensions) _ demands.1 in
    let i1 = and_parts _ _ issue in
    let i2 = and_parts _ _ i1.1 in
    let i3 = and_parts _ _ i2.1 in
    let i4 = and_parts _ _ i3.1 in
    let i5 = and_parts _ _ i4.1 in
    let i6 = and_parts _ _ i5.1 in
    let i7 = and_parts _ _ i6.1 in
    let few = and_parts _ _ i7.0 in
    let options = and_parts _ _ few.1 in
    let extensions = and_parts _ _ i7.1 in
    let p1 = and_parts _ _ permitted in
    let p2 = and_parts _ _ p1.1 in
    let p3 = and_parts _ _ p2.1 in
    let p4 = and_parts (is_life_permitted d i.after i.before) _ p3.1 in
    record {
      options_fit = (and_parts (are_option_names d.options) _ d4.0).1;
      extensions_fit = (and_parts (are_extension_names d.extensions) _ d5.0).1;
      key_id = i2.0;
      key = (and_parts (are_parts i.key.key_type i.key.key) _ i3.0).0;
      principals = i4.0;
      before = i6.0;
      options = options.0;
      options_apart = options.1;
      extensions = extensions.0;
      extensions_apart = extensions.1;
      demands = (and_parts _ _ (and_parts _ _ demands.0).1).0;
      options_permitted = (and_parts _ _ p2.0).0;
      extensions_listed = p3.0;
      life = (and_parts _ _ p4.0).0;
    }

is_lawful : (v : View) (d : Department) (i : Issue) → IsIssuable v d i → IsLawful d i
is_lawful v d i is = lawful_parts d i is.department is.issue is.permitted

-- its options have no fault
pub issuable_options : (v : View) (d : Department) (i : Issue) → IsIssuable v d i → options_fault CriticalOptions d.kind i.options ≡ None
issuable_options v d i is =
    let p = is_lawful v d i is in
    no_fault CriticalOptions d.kind i.options
    (options_for_kind d.kind d.options d.demands i.options p.options_fit p.demands p.options_permitted) p.options
    p.options_apart

-- its extensions have no fault
pub issuable_extensions : (v : View) (d : Department) (i : Issue) → IsIssuable v d i → options_fault Extensions d.kind (flags i.extensions) ≡ None
issuable_extensions v d i is =
    let p = is_lawful v d i is in
    no_fault Extensions d.kind (flags i.extensions)
    (for_kind d.kind d.extensions (flags i.extensions) p.extensions_fit (flags_listed d.extensions i.extensions p.extensions_listed))
    (flags_lawful i.extensions p.extensions) (rw (flags-names i.extensions) p.extensions_apart)

-- the next serial is a valid one
serial_left : (v : View) → HasSerial v → is_serial v.next ≡ true
serial_left v is =
    let order = opening_order v.opening.now is.opening in
    and_from _ _ (le-leb 1 v.next (omega (arith, order.0, is.next)))
    (le-leb v.next 9223372036854775806 (omega (arith, order.2, is.left)))

-- the certificate with its fields is valid
pub issuable_certificate : (v : View) (d : Department) (i : Issue) (ca nonce : List ℕ) → IsIssuable v d i
    → length ca ≡ 32 → length nonce ≡ 32 → IsCertificate (certificate_for i v.next d.kind ca nonce)
issuable_certificate v d i ca nonce is ca_size nonce_size =
    let p = is_lawful v d i is in
    let few = and_parts (leb 1 (length i.principals) && leb (length i.principals) 16) _ p.principals in
    let each = and_parts (list_all is_principal i.principals) (are_distinct i.principals) few.1 in
    record {
      department = (and_parts (is_name i.department) _ is.issue).0;
      fields = record {
        nonce = nonce_size;
        key = p.key;
        serial = serial_left v is.serial;
        key_id = p.key_id;
        principals = and_from _ _ (and_from _ _ few.0 each.0) each.1;
        validity = and_from _ _ p.life p.before;
        options = is_options-listing CriticalOptions d.kind i.options (issuable_options v d i is);
        extensions = is_options-listing Extensions d.kind (flags i.extensions) (issuable_extensions v d i is);
        ca = ca_size;
      };
      body = refl;
    }

-- a certificate with a new validity is valid
pub renewable_certificate : (v : View) (old : Certificate) (r : Renewal) (ca nonce : List ℕ) → IsRenewable v old r
    → length ca ≡ 32 → length nonce ≡ 32 → IsCertificate (renewed_certificate old r v.next ca nonce)
renewable_certificate v old r ca nonce is ca_size nonce_size =
    let f = is.certificate.fields in
    let ends = and_parts (is_end r.after) _ (and_parts (is_serial r.serial) _ is.renewal).1 in
    record {
      department = is.certificate.department;
      fields = record {
        nonce = nonce_size;
        key = f.key;
        serial = serial_left v is.serial;
        key_id = f.key_id;
        principals = f.principals;
        validity = and_from _ _ (lt-ltb _ _ is.order) ends.1;
        options = f.options;
        extensions = f.extensions;
        ca = ca_size;
      };
      body = refl;
    }
