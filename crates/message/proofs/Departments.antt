-- Departments: a text is read exactly when it is a department's, and a fault is at the first bad line.
use Rattle.message.proofs.Words.{List, Some, User, [], and_from, and_parts, ap, are_administrators, are_option_names}
use Rattle.message.proofs.Words.{are_rules, bytes_eq, bytes_eq-Decides, codes, cond_some, department_lines, inl, inr}
use Rattle.message.proofs.Words.{is_department, is_name, kind_text, refl, same_Some, true, ℕ, ◌&&◌, ◌++◌, ◌∙◌, ◌∷◌, ◌≡◌}
use Rattle.values.specs.declared.kind.Kind.{Kind}
use Rattle.values.specs.declared.kind.Kind.TheVariants.{Host}
use Rattle.message.specs.declared.department.Department.{Department}
use Rattle.message.specs.Values.{fits_kind, has_bare_name}
use Rattle.message.specs.Ends.{Ends, ends_of}
use Rattle.message.specs.Texts.{end_lines}
use Rattle.message.specs.Reading.{kind_of_line, department_in, ends_in}
use Rattle.message.proofs.Lines.{chosen}
use Rattle.message.proofs.Readings.{IsField, IsLine, IsReading, and_then, read_as, same_values}
use Rattle.message.proofs.Choices.{line_then}
use Rattle.message.proofs.Fields.{lacks_by, text_field, list_field}
use Rattle.message.proofs.Elements.{name_lacks, administrators_lack, rules_lack, option_names_lack}
use Rattle.message.proofs.DepartmentEnds.{IsEnds, ends_read}

-- the line of the kind
kind_field : IsField kind_of_line (λ k. codes "kind " ++ kind_text k) (λ _. Unit {0})
kind_field = record {
  found = λ l k fits e. (tt, kind_found l k e);
  again = λ k _. again k;
  empty = refl;
  is_line = λ k _. line k;
}
  where
    kind_found : (l : List ℕ) (k : Kind) → kind_of_line l ≡ Some k → l ≡ codes "kind " ++ kind_text k
    kind_found l k e = elim (chosen (bytes_eq l (codes "kind user")) (Some User) _ (Some k) e) [
      | inl user ↦ (bytes_eq-Decides l (codes "kind user")).0 user.0
          ∙ ap (λ (k : Kind). codes "kind " ++ kind_text k) (same_Some User k user.1)
      | inr other ↦
          let host = cond_some (bytes_eq l (codes "kind host")) Host k other.1 in
          (bytes_eq-Decides l (codes "kind host")).0 host.0 ∙ ap (λ (k : Kind). codes "kind " ++ kind_text k) host.1
    ]

    again : (k : Kind) → kind_of_line (codes "kind " ++ kind_text k) ≡ Some k
    again User = refl
    again Host = refl

    line : (k : Kind) → IsLine (codes "kind " ++ kind_text k)
    line User = lacks_by 10 (codes "kind user") refl
    line Host = lacks_by 10 (codes "kind host") refl

-- the department with these values
abbrev whole : List ℕ → Kind → List (List ℕ) → List (List ℕ) → List (List ℕ) → Ends → Department
whole name kind administrators rules options ends = record {
  name = name;
  kind = kind;
  administrators = administrators;
  rules = rules;
  options = options;
  demands = ends.0.0;
  extensions = ends.0.1;
  key_types = ends.1.0;
  longest_life = ends.1.1.0;
  namespaces = ends.1.1.1;
}

-- A department with these values, and what stands after them.
abbrev IsFrom : List ℕ → Kind → List (List ℕ) → List (List ℕ) → List (List ℕ) → Department → Type 0
IsFrom name kind administrators rules options d =
    IsEnds kind (has_bare_name rules) (ends_of d) × (d ≡ whole name kind administrators rules options (ends_of d))

-- The values of a department's lines, in order, are valid, and there are no others.
abbrev IsWhole : Department → Type 0
IsWhole d = (is_name d.name ≡ true)
    × (Unit {0} × ((are_administrators d.administrators ≡ true) × ((are_rules d.rules ≡ true)
    × (((are_option_names d.options && fits_kind d.kind d.options) ≡ true)
    × IsFrom d.name d.kind d.administrators d.rules d.options d))))

whole_lines : IsReading 0 department_in IsWhole department_lines
unfolding department_in
whole_lines =
    line_then 0 _ _ _ (λ d. d.name) _ _ _
    (text_field (codes "department ") is_name refl refl (name_lacks 10 refl)) (codes "a") refl
    (λ name _. line_then 1 _ _ _ (λ d. d.kind) _ _ _ kind_field User tt
    (λ kind _. line_then 2 _ _ _ (λ d. d.administrators) _ _ _
    (list_field (codes "admins") are_administrators refl refl
    administrators_lack) [] refl (λ administrators _. line_then 3 _ _ _ (λ d. d.rules) _ _ _
    (list_field (codes "principals") are_rules refl refl rules_lack) (codes "a" ∷ []) refl
    (λ rules _. line_then 4 _ _ _ (λ d. d.options) _ _ _
    (list_field (codes "options") (λ ts. are_option_names ts && fits_kind kind ts)
    refl refl (λ ts is. option_names_lack ts (and_parts _ _ is).0)) [] (none_fits kind)
    (λ options _. read_as 5 (whole name kind administrators rules options) (ends_in kind (has_bare_name rules))
    (IsEnds kind (has_bare_name rules)) end_lines
    (IsFrom name kind administrators rules options) (λ d. end_lines (ends_of d)) (λ e is. ((is, refl), refl))
    (λ d is. (ends_of d, is.1, is.0)) (ends_read kind (has_bare_name rules)))
    (λ x d p. ap (λ (d : Department). d.options) p.1))
    (λ x d p. ap (λ (d : Department). d.rules) p.1.1))
    (λ x d p. ap (λ (d : Department). d.administrators) p.1.1.1))
    (λ x d p. ap (λ (d : Department). d.kind) p.1.1.1.1))
    (λ x d p. ap (λ (d : Department). d.name) p.1.1.1.1.1)
  where
    none_fits : (kind : Kind) → fits_kind kind [] ≡ true
    none_fits User = refl
    none_fits Host = refl

-- a text is read as a department exactly when it is its text, and a fault is at the first line that fits no department
pub department_reads : IsReading 0 department_in (λ d. is_department d ≡ true) department_lines
department_reads =
    same_values whole_lines
    (λ d is. let ends = is.1.1.1.1.1.0 in
    and_from _ _ is.0 (and_from _ _ is.1.1.0 (and_from _ _ is.1.1.1.0 (and_from _ _ is.1.1.1.1.0
    (and_from _ _ ends.0 (and_from _ _ ends.1.0 (and_from _ _ ends.1.1.0
    (and_from _ _ ends.1.1.1.0 ends.1.1.1.1))))))))
    (λ d. and_then _ _ (λ e. (
      tt,
      and_then _ _ (and_then _ _ (and_then _ _ (λ ends. (
        and_then _ _ (and_then _ _ (and_then _ _ (and_then _ _ (λ last. last)))) ends,
        refl,
      )))) e,
    )))
