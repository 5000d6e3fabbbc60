-- Questions that are read from files.
use Rattle.std.specs.Prelude.{◌≡◌, ◌≤◌, ◌++◌, ℕ, List, [], ◌∷◌, Bool, length, Option, IfSome}
use Rattle.lines.specs.declared.key_line.KeyLine.{KeyLine}
use Rattle.lines.specs.declared.key_line.LineFault.{LineFault}
use Rattle.list_guard.specs.Machine.{Question}
use Rattle.station_jobs.specs.declared.station_fault.StationFault.{StationFault}
use Rattle.station_jobs.specs.declared.station_fault.StationFault.TheVariants.{File, Line, NoMemory}
use Rattle.station_jobs.specs.KeyFiles.{HasLineFault, IsKeyText}
use Rattle.station_jobs.specs.declared.surroundings.Surroundings.{Ghosts}

-- `around` has the files, found by their paths, and the clock. `remaining` has the bytes that a file gives.
module _ {E F : Type 0} (world : Ghosts E F) (around : E) (remaining : F → Option (List ℕ)) where
  -- a file at the path has the public-key line of this key
  pub record IsKeyAt (path key : List ℕ) : Type 0 where
    pub file : F
    pub found : world.has around path file
    pub line : KeyLine
    pub read : IfSome (remaining file) (λ text. IsKeyText text line)
    pub key_is : key ≡ line.key

  -- this holds for each path and its key, in order
  abbrev pub AreKeysAt : (paths keys : List (List ℕ)) → Type 0
  AreKeysAt [] [] = Unit {0}
  AreKeysAt [] (key ∷ keys) = ⊥
  AreKeysAt (path ∷ paths) [] = ⊥
  AreKeysAt (path ∷ paths) (key ∷ keys) = IsKeyAt path key × AreKeysAt paths keys

  -- this is the first fault of the line in a file at the path
  pub record HasFaultAt (path : List ℕ) (e : LineFault) : Type 0 where
    pub file : F
    pub found : world.has around path file
    pub is : IfSome (remaining file) (λ text. HasLineFault text e)

  -- one of the paths has this fault, and the keys at those before it were read
  pub record IsFirstFault (paths : List (List ℕ)) (e : LineFault) : Type 0 where
    pub before : List (List ℕ)
    pub path : List ℕ
    pub later : List (List ℕ)
    pub in_order : paths ≡ before ++ path ∷ later
    pub keys : List (List ℕ)
    pub read : AreKeysAt before keys
    pub fault : HasFaultAt path e

  -- The faults of reading the keys and the list. A fault of a line is the first one of the files with the keys.
  abbrev pub IsFaultOf : (cas : List (List ℕ)) → StationFault → Type 0
  IsFaultOf cas File = Unit {0}
  IsFaultOf cas NoMemory = Unit {0}
  IsFaultOf cas (Line e) = IsFirstFault cas e
  IsFaultOf cas other = ⊥

  -- a file at the path has exactly these bytes, for which a register has room
  pub record IsListAt (path bytes : List ℕ) : Type 0 where
    pub file : F
    pub found : world.has around path file
    pub whole : IfSome (remaining file) (λ text. bytes ≡ text)
    pub short : length bytes ≤ 268435456

  -- the question is about the list in one file, with the keys in the others
  pub record Asks (cas : List (List ℕ)) (begins : Bool) (path : List ℕ) (q : Question) : Type 0 where
    pub keys : AreKeysAt cas q.cas
    pub list : IsListAt path q.list
    pub begins_is : q.begins ≡ begins
