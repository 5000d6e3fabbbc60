-- Reading a department is the same as reading its parts.
use Rattle.message.proofs.Words.{Bool, Err, List, Ok, Result, are_administrators, are_option_names, are_rules, both, codes}
use Rattle.message.proofs.Words.{line_of, made, or_fault, refl, ℕ, ◌&&◌, ◌>>=◌, ◌≡◌}
use Rattle.values.specs.declared.kind.Kind.{Kind}
use Rattle.message.specs.declared.department.Department.{Department}
use Rattle.message.specs.Ends.{Ends}
use Rattle.message.specs.Values.{fits_kind, has_bare_name}
use Rattle.message.specs.Reading.{department_in, ends_in, kind_of_line, list_after, name_after}
use Rattle.message.specs.Parts.{Body, Profile, body_in, department_with, profile_in}

-- a list, or the number of its bad line
abbrev Lists : Type 0
Lists = Result (List (List ℕ)) ℕ

module _ (name : List ℕ) (kind : Kind) where
  -- the department from the outcomes of its lines, in order
  abbrev in_turn : Lists → Lists → Lists → (Bool → Result Ends ℕ) → Result Department ℕ
  in_turn a b c e = do
    administrators ← a
    rules ← b
    options ← c
    made (λ ends. record {
      name = name;
      kind = kind;
      administrators = administrators;
      rules = rules;
      options = options;
      demands = ends.0.0;
      extensions = ends.0.1;
      key_types = ends.1.0;
      longest_life = ends.1.1.0;
      namespaces = ends.1.1.1;
    }) (e (has_bare_name rules))

  abbrev profile_of : Lists → Lists → Lists → (Bool → Result Ends ℕ) → Result Profile ℕ
  profile_of a b c e =
      both (Ok kind) (both a b >>= (λ people. both (Ok people) (both c (e (has_bare_name people.1)))))

  -- the same, after the options
  by_ends : (a b c : List (List ℕ)) (e : Result Ends ℕ) → made (λ ends. record {
    name = name;
    kind = kind;
    administrators = a;
    rules = b;
    options = c;
    demands = ends.0.0;
    extensions = ends.0.1;
    key_types = ends.1.0;
    longest_life = ends.1.1.0;
    namespaces = ends.1.1.1;
  }) e
      ≡ (both (Ok name) (both (Ok kind) (both (Ok (a, b)) (both (Ok c) e)))
      >>= (λ parts. Ok (department_with parts.0 parts.1)))
  by_ends a b c (Err n) = refl
  by_ends a b c (Ok e) = refl

  by_parts : (a b c : Lists) (e : Bool → Result Ends ℕ) → in_turn a b c e
      ≡ (both (Ok name) (profile_of a b c e) >>= (λ parts. Ok (department_with parts.0 parts.1)))
  by_parts (Err n) b c e = refl
  by_parts (Ok a) (Err n) c e = refl
  by_parts (Ok a) (Ok b) (Err n) e = refl
  by_parts (Ok a) (Ok b) (Ok c) e = by_ends a b c (e (has_bare_name b))

-- the same, preceded by the lines of the name and of the kind
of_kind : (name : Result (List ℕ) ℕ) (kind : Result Kind ℕ) (turn : List ℕ → Kind → Result Department ℕ)
    (profile : Kind → Result Profile ℕ)
    → ((n : List ℕ) (k : Kind) → turn n k
    ≡ (both (Ok n) (profile k) >>= (λ parts. Ok (department_with parts.0 parts.1))))
    → (name >>= (λ n. kind >>= (λ k. turn n k)))
    ≡ (both name (kind >>= profile) >>= (λ parts. Ok (department_with parts.0 parts.1)))
of_kind (Err n) kind turn profile is = refl
of_kind (Ok name) (Err n) turn profile is = refl
of_kind (Ok name) (Ok kind) turn profile is = is name kind

module _ (ps : List (List ℕ)) where
  pub in_parts : department_in ps ≡ (both (or_fault 1 (name_after (codes "department ") (line_of 1 ps)))
      (profile_in ps) >>= (λ parts. Ok (department_with parts.0 parts.1)))
  unfolding department_in
  in_parts =
      of_kind (or_fault 1 (name_after (codes "department ") (line_of 1 ps))) (or_fault 2 (kind_of_line (line_of 2 ps))) _ _
      (λ name kind. by_parts name kind (or_fault 3 (list_after are_administrators (codes "admins") (line_of 3 ps)))
      (or_fault 4 (list_after are_rules (codes "principals") (line_of 4 ps)))
      (or_fault 5 (list_after (λ ts. are_option_names ts && fits_kind kind ts) (codes "options") (line_of 5 ps)))
      (λ bare. ends_in kind bare ps))
