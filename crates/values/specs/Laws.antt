-- The properties that the tests for profiles decide, in terms of the texts.
use Rattle.std.specs.Prelude.{◌≡◌, ◌≢◌, ◌⊎◌, ℕ, ◌<◌, ◌≤◌, List, [], ◌++◌, length, map, codes, All, IsTrue, false}
use Rattle.std.specs.List.{list_all, join_with_byte, slice_index_or}
use Rattle.values.specs.Names.{has_size, is_for_names, is_name, is_key_id_byte}
use Rattle.values.specs.Networks.{Network, IsNetwork, network_text}

-- the rule is * and a suffix, and the principal is one or more bytes followed by that suffix
pub record MeetsSuffix (principal rule : List ℕ) : Type 0 where
  pub front : List ℕ
  pub suffix : List ℕ
  pub starred : rule ≡ codes "*" ++ suffix
  pub spelled : principal ≡ front ++ suffix
  pub longer : 0 < length front

-- the principal is the rule itself, or is longer than the rule's suffix and ends with it
abbrev pub Meets : List ℕ → List ℕ → Type 0
Meets principal rule = (principal ≡ rule) ⊎ MeetsSuffix principal rule

-- the principal is the name and the suffix, and isn't root if the suffix is empty
pub record IsNamed (name principal suffix : List ℕ) : Type 0 where
  pub spelled : principal ≡ name ++ suffix
  pub other : suffix ≡ [] → principal ≢ codes "root"

-- the rule is {name} and a suffix, and the principal is the name and that suffix
abbrev pub MeetsName : (name principal rule : List ℕ) → Type 0
MeetsName name principal rule =
    (suffix : List ℕ) × (rule ≡ codes "{name}" ++ suffix) × IsNamed name principal suffix

-- the principal meets the rule: one without {name}, or one with it by this name
abbrev pub MeetsFor : (name principal rule : List ℕ) → Type 0
MeetsFor name principal rule =
    MeetsName name principal rule ⊎ ((is_for_names rule ≡ false) × Meets principal rule)

-- the administrator is a prefix and {name}, and the caller is that prefix and the name
abbrev pub IsMeant : (name caller administrator : List ℕ) → Type 0
IsMeant name caller administrator =
    (prefix : List ℕ) × (administrator ≡ prefix ++ codes "{name}") × (caller ≡ prefix ++ name)

-- the name of a department, / and 1 to 64 printable bytes
pub record IsKeyId (t department : List ℕ) : Type 0 where
  pub rest : List ℕ
  pub spelled : t ≡ department ++ (codes "/" ++ rest)
  pub named : IsTrue (is_name department)
  pub sized : IsTrue (has_size 1 64 rest)
  pub printable : IsTrue (list_all is_key_id_byte rest)

-- 1 to 8 networks, joined by commas
pub record AreNetworks (t : List ℕ) : Type 0 where
  pub networks : List Network
  pub some : 0 < length networks
  pub few : length networks ≤ 8
  pub each : All IsNetwork networks
  pub spelled : t ≡ join_with_byte 44 (map network_text networks)

-- no text equals an earlier one
abbrev pub AreDistinct : List (List ℕ) → Type 0
AreDistinct ts = (i j : ℕ) → i < j → j < length ts → slice_index_or ts i [] ≢ slice_index_or ts j []
