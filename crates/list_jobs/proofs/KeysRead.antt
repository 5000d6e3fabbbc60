-- Reading keys one after the other.
use Rattle.std.proofs.Common.{◌++◌, ◌+◌, ◌<◌, ◌≡◌, ◌∙◌, ◌∷◌, [], List, Option, ap, append_assoc, drop, get_or, length, map}
use Rattle.std.proofs.Common.{refl, sym, take, ℕ}
use Rattle.std.proofs.lemmas.List.{map-append, map_push, take-append-drop, take_more}
use Rattle.lines.specs.declared.key_line.LineFault.{LineFault}
use Rattle.list_jobs.specs.Asking.{AreKeysAt, HasFaultAt, IsFaultOf, IsKeyAt}
use Rattle.station_jobs.specs.Faults.{IsOfAFile, IsOfAKey}
use Rattle.station_jobs.specs.declared.station_fault.StationFault.{StationFault}
use Rattle.station_jobs.specs.declared.station_fault.StationFault.TheVariants.{File, Line, NoMemory}
use Rattle.station_jobs.specs.declared.surroundings.Surroundings.{Ghosts}

pub keys_more : {E F : Type 0} (world : Ghosts E F) (around : E) (remaining : F → Option (List ℕ))
    (paths keys : List (List ℕ)) (path key : List ℕ) → AreKeysAt world around remaining paths keys
    → IsKeyAt world around remaining path key
    → AreKeysAt world around remaining (paths ++ path ∷ []) (keys ++ key ∷ [])
keys_more world around remaining [] [] path key h one = (one, tt)
keys_more world around remaining [] (k ∷ keys) path key h one = absurd h
keys_more world around remaining (p ∷ paths) [] path key h one = absurd h
keys_more world around remaining (p ∷ paths) (k ∷ keys) path key h one =
    (h.0, keys_more world around remaining paths keys path key h.1 one)

-- the first paths and the next one
pub next_path : {X : Type 0} (f : X → List ℕ) (xs : List X) (i : ℕ) (x : X) (path : List ℕ) → i < length xs
    → x ≡ get_or xs i x → path ≡ f x → map f (take i xs) ++ path ∷ [] ≡ map f (take (i + 1) xs)
next_path f xs i x path within is same =
    sym (ap (map f) (take_more xs i x within) ∙ map_push f (take i xs) (get_or xs i x)
    ∙ ap (λ p. map f (take i xs) ++ p ∷ []) (ap f (sym is) ∙ sym same))

module _ {E F : Type 0} (world : Ghosts E F) (around : E) (remaining : F → Option (List ℕ)) where
  -- a fault of the list's file is one that reading the question may have
  pub of_a_file : (cas : List (List ℕ)) (e : StationFault) → IsOfAFile e → IsFaultOf world around remaining cas e
  of_a_file cas File h = tt
  of_a_file cas NoMemory h = tt
  of_a_file cas other h = absurd h

  -- the first fault of the files with the keys
  pub first_fault : (cas before later : List (List ℕ)) (path : List ℕ) (keys : List (List ℕ)) (e : StationFault)
      → cas ≡ before ++ path ∷ later → AreKeysAt world around remaining before keys → IsOfAKey e
      → ((l : LineFault) → e ≡ Line l → HasFaultAt world around remaining path l)
      → IsFaultOf world around remaining cas e
  first_fault cas before later path keys File is read only fault = tt
  first_fault cas before later path keys NoMemory is read only fault = tt
  first_fault cas before later path keys (Line l) is read only fault = record {
    before = before;
    path = path;
    later = later;
    in_order = is;
    keys = keys;
    read = read;
    fault = fault l refl;
  }
  first_fault cas before later path keys other is read only fault = absurd only

-- the first paths, the next one, and the later ones
pub paths_around : {X : Type 0} (f : X → List ℕ) (xs : List X) (i : ℕ) (x : X) (path : List ℕ) → i < length xs
    → x ≡ get_or xs i x → path ≡ f x → map f xs ≡ map f (take i xs) ++ path ∷ map f (drop (i + 1) xs)
paths_around f xs i x path within is same =
    ap (map f) (sym (take-append-drop (i + 1) xs)) ∙ map-append f (take (i + 1) xs) (drop (i + 1) xs)
    ∙ ap (λ p. p ++ map f (drop (i + 1) xs)) (sym (next_path f xs i x path within is same))
    ∙ append_assoc (map f (take i xs)) (path ∷ []) (map f (drop (i + 1) xs))
