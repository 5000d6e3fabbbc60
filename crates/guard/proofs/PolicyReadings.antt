-- The text of a policy is read as its departments.
use Rattle.std.proofs.Common.{◌≡◌, ◌+◌, ℕ, suc, List, [], ◌∷◌, ◌++◌, true, false, Ok, map, refl, sym, ap, subst, ◌∙◌}
use Rattle.std.proofs.Common.{append_assoc, arith, codes, decimal, drop, length, length-append, Result, ◌-◌}
use Rattle.text.specs.Results.{◌>>=◌}
use Rattle.std.specs.Prelude.{All, None, ◌==◌}
use Rattle.text.specs.declared.pair.Pair.{Pair}
use Rattle.std.specs.List.{AllByRecursion, flat_map}
use Rattle.std.proofs.lemmas.List.{append-nil}
use Rattle.std.proofs.lemmas.List.Splits.{slice_split_at}
use Rattle.message.specs.declared.department.Department.{Department}
use Rattle.message.specs.declared.kinds.Message.TheVariants as message
use Rattle.message.specs.Reading.{message_at, pieces}
use Rattle.message.specs.Ends.{Ends, ends_of}
use Rattle.message.specs.Texts.{demand_line, department_lines, end_lines, key_types_lines, line, lines_text, list_line}
use Rattle.message.specs.Values.{is_department}
use Rattle.message.proofs.Messages.{messages_read}
use Rattle.message.proofs.TextLaws.{message_again}
use Rattle.guard.specs.State.{department_named}
use Rattle.guard.specs.Policies.{department_at, department_in, if_first, is_last, policy_from, policy_at, text_of}
use Rattle.guard.specs.Policies.{text_size}
use Rattle.guard.specs.PolicyTexts.{Part, part_lines, policy_text, AreBetween, AreParts}

-- no byte of a line is a line feed
abbrev IsLine : List ℕ → Type 0
IsLine l = All (λ b. (b == 10) ≡ false) l

-- the pieces of lines are the lines, and an empty last piece
pieces_of : (ls : List (List ℕ)) → AllByRecursion IsLine ls → pieces (lines_text ls) ≡ ls ++ [] ∷ []
pieces_of [] h = refl
pieces_of (l ∷ ls) h =
    slice_split_at (λ b. b == 10) l 10 (lines_text ls) h.0 refl
    ∙ ap (λ (xs : List (List ℕ)). l ∷ xs) (pieces_of ls h.1)

both_lines : (xs ys : List (List ℕ)) → AllByRecursion IsLine xs → AllByRecursion IsLine ys → AllByRecursion IsLine (xs ++ ys)
both_lines [] ys h k = k
both_lines (x ∷ xs) ys h k = (h.0, both_lines xs ys h.1 k)

between_lines : (ls : List (List ℕ)) → AreBetween ls → AllByRecursion IsLine ls
between_lines [] h = tt
between_lines (l ∷ ls) h = (h.0.1, between_lines ls h.1)

part_is_lines : (known : List Department) (parts : List Part) → AreParts known parts
    → AllByRecursion IsLine (flat_map part_lines parts)
part_is_lines known [] h = tt
part_is_lines known (p ∷ parts) h =
    both_lines (part_lines p) (flat_map part_lines parts)
    (both_lines p.before (department_lines p.department) (between_lines p.before h.0)
    (messages_read.are_lines (message.Department p.department) h.1))
    (part_is_lines (known ++ p.department ∷ []) parts h.3)

-- the departments are these, whatever number the next line has
abbrev Reads : (known : List Department) → List (List ℕ) → List Department → Type 0
Reads known ps ds = (number : ℕ) → policy_from 0 number known ps ≡ Ok ds

-- lines between texts change nothing
between_skipped : (known : List Department) (ls ps : List (List ℕ)) (ds : List Department) → AreBetween ls
    → Reads known ps ds → Reads known (ls ++ ps) ds
between_skipped known [] ps ds h reads = reads
between_skipped known (l ∷ ls) ps ds h reads = λ number.
    rw h.0.0 (between_skipped known ls ps ds h.1 reads (number + 1))

-- ---- the size of a department's text

-- lines that aren't the last of a text are counted
passed : (ls rest : List (List ℕ)) → AllByRecursion (λ l. is_last l ≡ false) ls
    → text_size (ls ++ rest) ≡ length ls + text_size rest
passed [] rest other = omega arith
passed (l ∷ ls) rest other = rw other.0 (omega (arith, passed ls rest other.1))

no_list : (ts : List (List ℕ)) → (is_last (list_line (codes "admins") ts) ≡ false)
    × ((is_last (list_line (codes "principals") ts) ≡ false) × ((is_last (list_line (codes "options") ts) ≡ false)
    × (is_last (list_line (codes "extensions") ts) ≡ false)))
no_list [] = (refl, (refl, (refl, refl)))
no_list (t ∷ ts) = (refl, (refl, (refl, refl)))

last_line : (ts : List (List ℕ)) → is_last (list_line (codes "namespaces") ts) ≡ true
last_line [] = refl
last_line (t ∷ ts) = refl

no_demands : (ps : List Pair) → AllByRecursion (λ l. is_last l ≡ false) (map demand_line ps)
no_demands [] = tt
no_demands (p ∷ ps) = (refl, no_demands ps)

no_key_types : (ts : List (List ℕ)) → AllByRecursion (λ l. is_last l ≡ false) (key_types_lines ts)
no_key_types [] = tt
no_key_types (t ∷ ts) = (refl, tt)

ends_size : (e : Ends) (rest : List (List ℕ)) → text_size (end_lines e ++ rest) ≡ length (end_lines e)
ends_size e rest =
    let demands = map demand_line e.0.0 in
    let extensions = list_line (codes "extensions") e.0.1 in
    let types = key_types_lines e.1.0 in
    let life = line (codes "maxlife") (decimal e.1.1.0) in
    let last = list_line (codes "namespaces") e.1.1.1 in
    let limits : List (List ℕ) = life ∷ last ∷ [] in
    let in_order : end_lines e ++ rest ≡ demands ++ (extensions ∷ (types ++ (life ∷ last ∷ rest))) =
    append_assoc demands (extensions ∷ (types ++ limits)) rest
    ∙ ap (λ (ls : List (List ℕ)). demands ++ (extensions ∷ ls)) (append_assoc types limits rest) in
    let two : text_size (life ∷ last ∷ rest) ≡ 2 = rw (last_line e.1.1.1) refl in
    let typed = passed types (life ∷ last ∷ rest) (no_key_types e.1.0) in
    let extended : text_size (extensions ∷ (types ++ (life ∷ last ∷ rest))) ≡ suc (text_size (types ++ (life ∷ last ∷ rest))) =
    rw (no_list e.0.1).1.1.1 refl in
    let whole = passed demands (extensions ∷ (types ++ (life ∷ last ∷ rest))) (no_demands e.0.0) in
    let long = length-append demands (extensions ∷ (types ++ limits)) in
    let later = length-append types limits in
    ap text_size in_order ∙ omega (arith, two, typed, extended, whole, long, later)

-- a department's text has as many lines as the department
department_size : (d : Department) (rest : List (List ℕ)) → text_size (department_lines d ++ rest)
    ≡ length (department_lines d)
department_size d rest =
    rw ((no_list d.administrators).0, (no_list d.rules).1.0, (no_list d.options).1.1.0)
    (omega (arith, ends_size (ends_of d) rest))

-- the text of lines that are followed by others
lines_there : (ls : List (List ℕ)) (p : List ℕ) (ps : List (List ℕ)) → text_of (length ls) (ls ++ p ∷ ps) ≡ lines_text ls
lines_there [] p ps = refl
lines_there (l ∷ []) p ps = refl
lines_there (l ∷ m ∷ ls) p ps = ap (λ (t : List ℕ). l ++ 10 ∷ t) (lines_there (m ∷ ls) p ps)

-- the further lines of a text are passed
skipped : (known : List Department) (ls rest : List (List ℕ)) (ds : List Department) → Reads known rest ds
    → (number : ℕ) → policy_from (length ls) number known (ls ++ rest) ≡ Ok ds
skipped known [] rest ds reads number = reads number
skipped known (l ∷ ls) rest ds reads number = skipped known ls rest ds reads (number + 1)

-- the text of a department is read, and then the rest
department_read : (known : List Department) (d : Department) (p : List ℕ) (ps : List (List ℕ)) (ds : List Department)
    → is_department d ≡ true → department_named known d.name ≡ None → Reads (known ++ d ∷ []) (p ∷ ps) ds
    → Reads known (department_lines d ++ p ∷ ps) ds
department_read known d p ps ds lawful first reads = λ number.
    let lines = department_lines d in
    let rest = drop 1 lines in
    let all = known ++ d ∷ [] in
    let size = department_size d (p ∷ ps) in
    let whole : department_at number known (lines ++ p ∷ ps) ≡ Ok d =
    ap (λ (n : ℕ). department_in number (message_at (text_of n (lines ++ p ∷ ps))) >>= if_first number known) size
    ∙ ap (λ (t : List ℕ). department_in number (message_at t) >>= if_first number known) (lines_there lines p ps)
    ∙ rw (message_again (message.Department d) lawful, first) refl in
    let left : length rest ≡ length lines - 1 = omega arith in
    ap (λ (r : Result Department ℕ). r >>=
    (λ x. policy_from (text_size (lines ++ p ∷ ps) - 1) (number + 1) (known ++ x ∷ []) (rest ++ p ∷ ps))) whole
    ∙ ap (λ (n : ℕ). policy_from (n - 1) (number + 1) all (rest ++ p ∷ ps)) size
    ∙ ap (λ (n : ℕ). policy_from n (number + 1) all (rest ++ p ∷ ps)) (sym left)
    ∙ skipped all rest (p ∷ ps) ds reads (number + 1)

-- lines that are followed by an empty piece have a first piece
ended : (ls : List (List ℕ)) → (p : List ℕ) × (ps : List (List ℕ)) × (ls ++ [] ∷ [] ≡ p ∷ ps)
ended [] = ([], [], refl)
ended (l ∷ ls) = (l, ls ++ [] ∷ [], refl)

department_then : (known : List Department) (d : Department) (ls : List (List ℕ)) (ds : List Department)
    → is_department d ≡ true → department_named known d.name ≡ None → Reads (known ++ d ∷ []) (ls ++ [] ∷ []) ds
    → Reads known (department_lines d ++ (ls ++ [] ∷ [])) ds
department_then known d ls ds lawful first reads =
    let end = ended ls in
    subst (λ (r : List (List ℕ)). Reads known (department_lines d ++ r) ds) (sym end.2)
    (department_read known d end.0 end.1 ds lawful first
    (subst (λ (r : List (List ℕ)). Reads (known ++ d ∷ []) r ds) end.2 reads))

parts_read : (known : List Department) (parts : List Part) (last : List (List ℕ)) → AreParts known parts → AreBetween last
    → Reads known ((flat_map part_lines parts ++ last) ++ [] ∷ []) (known ++ map (λ p. p.department) parts)
parts_read known [] last h between =
    subst (λ (ds : List Department). Reads known (last ++ [] ∷ []) ds) (sym (append-nil known))
    (between_skipped known last ([] ∷ []) known between (λ number. refl))
parts_read known (p ∷ parts) last h between =
    let d = p.department in
    let lines = flat_map part_lines parts ++ last in
    let end : List (List ℕ) = [] ∷ [] in
    let later = map (λ (x : Part). x.department) parts in
    let same : ((part_lines p ++ flat_map part_lines parts) ++ last) ++ end ≡ p.before ++ (department_lines d ++ (lines ++ end)) =
    ap (λ (x : List (List ℕ)). x ++ end) (append_assoc (part_lines p) (flat_map part_lines parts) last)
    ∙ append_assoc (part_lines p) lines end ∙ append_assoc p.before (department_lines d) (lines ++ end) in
    let reads : Reads (known ++ d ∷ []) (lines ++ end) (known ++ d ∷ later) =
    subst (λ (ds : List Department). Reads (known ++ d ∷ []) (lines ++ end) ds) (append_assoc known (d ∷ []) later)
    (parts_read (known ++ d ∷ []) parts last h.3 between) in
    subst (λ (ps : List (List ℕ)). Reads known ps (known ++ d ∷ later)) (sym same)
    (between_skipped known p.before (department_lines d ++ (lines ++ end)) (known ++ d ∷ later) h.0
    (department_then known d lines (known ++ d ∷ later) h.1 h.2 reads))

pub policy_read : (parts : List Part) (last : List (List ℕ)) → AreParts [] parts → AreBetween last
    → policy_at (policy_text parts last) ≡ Ok (map (λ p. p.department) parts)
policy_read parts last h between =
    let lines = flat_map part_lines parts ++ last in
    ap (λ (ps : List (List ℕ)). policy_from 0 1 [] ps)
    (pieces_of lines (both_lines (flat_map part_lines parts) last (part_is_lines [] parts h) (between_lines last between)))
    ∙ parts_read [] parts last h between 1
