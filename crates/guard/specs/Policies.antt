-- Policy files: texts of departments, with empty lines and comments between them.
use Rattle.std.specs.Prelude.{◌≡◌, ℕ, zero, suc, ◌+◌, ◌-◌, List, [], ◌∷◌, ◌++◌, take, codes, Bool, true, ◌==◌}
use Rattle.std.specs.Prelude.{if◌then◌else◌, is_some, Result, Ok, Err}
use Rattle.std.specs.Str.{bytes_eq}
use Rattle.text.specs.Results.{◌>>=◌}
use Rattle.message.specs.declared.department.Department.{Department}
use Rattle.message.specs.declared.kinds.Message.{Message}
use Rattle.message.specs.declared.kinds.Message.TheVariants as message
use Rattle.message.specs.Reading.{message_at, pieces}
use Rattle.guard.specs.State.{department_named}
use Rattle.guard.specs.declared.policy_fault.PolicyFault.{PolicyFault}
use Rattle.guard.specs.declared.policy_fault.PolicyFault.TheVariants as fault

-- a line that may come between texts: an empty one, or one that begins with #
abbrev pub is_between : List ℕ → Bool
is_between [] = true
is_between (b ∷ line) = b == 35

-- the line feed after a line, and what follows; the last piece of a file has none
abbrev pub behind : List (List ℕ) → List ℕ → List ℕ
behind [] text = []
behind (p ∷ ps) text = 10 ∷ text

-- the text of the next n lines, or of the remaining ones if there are fewer
abbrev pub text_of : ℕ → List (List ℕ) → List ℕ
text_of zero ps = []
text_of (suc n) [] = []
text_of (suc n) (p ∷ ps) = p ++ behind ps (text_of n ps)

-- the last line of a department's text: the one of its namespaces
abbrev pub is_last : List ℕ → Bool
is_last line = bytes_eq (take 10 line) (codes "namespaces")

-- how many lines the text has that begins here: those up to the first that is the last of a text, or else all
abbrev pub text_size : List (List ℕ) → ℕ
text_size [] = 0
text_size (p ∷ ps) = if is_last p then 1 else suc (text_size ps)

-- the department in a text whose first line has this number; if the text is a message of another kind, that line is bad
abbrev pub department_in : ℕ → Result Message ℕ → Result Department ℕ
department_in number (Ok (message.Department d)) = Ok d
department_in number (Ok m) = Err number
department_in number (Err line) = Err ((number - 1) + line)

-- the department, if no known one has its name
abbrev pub if_first : ℕ → List Department → Department → Result Department ℕ
if_first number known d = if is_some (department_named known d.name) then Err number else Ok d

abbrev pub department_at : ℕ → List Department → List (List ℕ) → Result Department ℕ
department_at number known ps =
    department_in number (message_at (text_of (text_size ps) ps)) >>= if_first number known

-- the departments of the lines from this number on, after the known ones: the last text that was read has `left` more
-- lines, and then comes an empty line, a comment, or a text
abbrev pub policy_from : (left number : ℕ) → List Department → List (List ℕ) → Result (List Department) ℕ
policy_from left number known [] = Ok known
policy_from (suc left) number known (p ∷ ps) = policy_from left (number + 1) known ps
policy_from zero number known (p ∷ ps) =
    if is_between p then policy_from 0 (number + 1) known ps
    else (department_at number known (p ∷ ps) >>=
    λ d. policy_from (text_size (p ∷ ps) - 1) (number + 1) (known ++ d ∷ []) ps)

-- the departments of a policy file, or its first invalid line
abbrev pub policy_at : List ℕ → Result (List Department) ℕ
policy_at bytes = policy_from 0 1 [] (pieces bytes)

-- The returned value is what reading gives, unless memory was refused.
abbrev pub Gives : {X : Type 0} → Result X PolicyFault → Result X ℕ → Type 0
Gives (Ok x) read = read ≡ Ok x
Gives (Err (fault.BadPolicy n)) read = read ≡ Err n
Gives (Err fault.TooLong) read = ⊥
Gives (Err fault.NoMemory) read = Unit {0}
