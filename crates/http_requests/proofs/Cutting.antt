-- Dividing the path of a message into caller and key.
use Rattle.http_requests.proofs.Words.{IsPath, List, Some, and_parts, ap, arith, codes, drop, drop-append_seam}
use Rattle.http_requests.proofs.Words.{has_size, is_name_byte, lacks_from, length, length-append, lt-ltb, message}
use Rattle.http_requests.proofs.Words.{path_text, refl, sym, take, take-append_seam, ℕ, ◌++◌, ◌==◌, ◌∙◌, ◌∷◌, ◌≡◌}
use Rattle.std.specs.Prelude.{position}
use Rattle.std.proofs.lemmas.Option.{same_Some}
use Rattle.values.proofs.Lacking.{first_after}

-- the rest of a message's path, after its prefix, is divided at its first slash
pub record IsCut (rest caller key : List ℕ) : Type 0 where
  pub slash : position (λ b. b == 47) rest ≡ Some (length caller)
  pub front : (n : ℕ) → position (λ b. b == 47) rest ≡ Some n → take n rest ≡ caller
  pub back : (n : ℕ) → position (λ b. b == 47) rest ≡ Some n → drop n rest ≡ codes "/requests/" ++ key

pub message_cut : (path rest caller key : List ℕ) → IsPath (message caller key)
    → path ≡ path_text (message caller key) → rest ≡ drop 12 path → IsCut rest caller key
message_cut path rest caller key is e f =
    let tail = codes "requests/" ++ key in
    let whole : rest ≡ caller ++ 47 ∷ tail = f ∙ ap (drop 12) e in
    let bytes = (and_parts (has_size 1 32 caller) _ is.0).1 in
    let at = first_after 47 caller tail (lacks_from is_name_byte 47 caller refl bytes) in
    let size = length-append caller (47 ∷ tail) in
    let inside = lt-ltb (length caller) (length (caller ++ 47 ∷ tail)) (omega (arith, size)) in
    let slash : position (λ b. b == 47) rest ≡ Some (length caller) = rw (whole, at, inside) refl in
    record {
      slash = slash;
      front = λ n found.
          rw (same_Some n (length caller) (sym found ∙ slash), whole) (take-append_seam caller (47 ∷ tail));
      back = λ n found.
          rw (same_Some n (length caller) (sym found ∙ slash), whole) (drop-append_seam caller (47 ∷ tail));
    }
