-- Reading a department or an issue, in successive parts.
use Rattle.std.specs.Prelude.{ℕ, ◌+◌, List, [], length, Bool, ◌&&◌, codes, if◌then◌else◌, Result, Ok, Err}
use Rattle.text.specs.Results.{◌>>=◌, both, or_fault}
use Rattle.text.specs.declared.pair.Pair.{Pair}
use Rattle.lines.specs.declared.subject_line.SubjectLine.{SubjectLine}
use Rattle.values.specs.declared.kind.Kind.{Kind}
use Rattle.message.specs.declared.department.Department.{Department}
use Rattle.message.specs.declared.issue.Issue.{Issue}
use Rattle.message.specs.Ends.{Ends}
use Rattle.message.specs.Reading.{ends_after, ends_in, kind_of_line, line_of, list_after, number_after, options_from}
use Rattle.message.specs.Values.{are_administrators, are_extension_names, are_namespaces, are_option_names}
use Rattle.message.specs.Values.{are_rules, fits_bare_name, fits_kind, has_bare_name, is_longest_life}

-- a department's administrators and its rules
abbrev pub People : Type 0
People = List (List ℕ) × List (List ℕ)

-- a department's administrators, rules and options, and what stands after them
abbrev pub Body : Type 0
Body = People × (List (List ℕ) × Ends)

-- a department's kind, and all that is on the lines after it
abbrev pub Profile : Type 0
Profile = Kind × Body

-- the administrators and the rules, with what is in the lines from line 5 on
abbrev pub body_after : Kind → People → List (List ℕ) → Result Body ℕ
body_after kind people ps =
    both (Ok people)
    (both (or_fault 5 (list_after (λ ts. are_option_names ts && fits_kind kind ts) (codes "options") (line_of 5 ps)))
    (ends_in kind (has_bare_name people.1) ps))

-- what is in the lines of a department from line 3 on
abbrev pub body_in : Kind → List (List ℕ) → Result Body ℕ
body_in kind ps =
    both (or_fault 3 (list_after are_administrators (codes "admins") (line_of 3 ps)))
    (or_fault 4 (list_after are_rules (codes "principals") (line_of 4 ps)))
    >>= (λ people. body_after kind people ps)

-- the profile in the lines of a department from line 2 on
abbrev pub profile_in : List (List ℕ) → Result Profile ℕ
profile_in ps = or_fault 2 (kind_of_line (line_of 2 ps)) >>= (λ kind. both (Ok kind) (body_in kind ps))

abbrev pub department_with : List ℕ → Profile → Department
department_with name profile = record {
  name = name;
  kind = profile.0;
  administrators = profile.1.0.0;
  rules = profile.1.0.1;
  options = profile.1.1.0;
  demands = profile.1.1.1.0.0;
  extensions = profile.1.1.1.0.1;
  key_types = profile.1.1.1.1.0;
  longest_life = profile.1.1.1.1.1.0;
  namespaces = profile.1.1.1.1.1.1;
}

-- the options and the extensions of an issue, in its lines from line 7 on
unfoldable pub extras_in : List (List ℕ) → Result (List Pair × List (List ℕ)) ℕ
extras_in ps = do
  let options = options_from 3 7 [] ps
  extensions ← or_fault (7 + length options)
      (list_after are_extension_names (codes "extensions") (line_of (7 + length options) ps))
  if ends_after (7 + length options) ps
      then Ok (options, extensions)
      else Err (8 + length options)

-- an issue's department and key ID, its key and its principals
abbrev pub Subject : Type 0
Subject = (List ℕ × List ℕ) × (SubjectLine × List (List ℕ))

-- an issue's validity, its options and its extensions
abbrev pub Terms : Type 0
Terms = (ℕ × ℕ) × (List Pair × List (List ℕ))

abbrev pub issue_of : Subject → Terms → Issue
issue_of subject terms = record {
  department = subject.0.0;
  key_id = subject.0.1;
  key = subject.1.0;
  principals = subject.1.1;
  after = terms.0.0;
  before = terms.0.1;
  options = terms.1.0;
  extensions = terms.1.1;
}
