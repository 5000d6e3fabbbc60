-- The structure of a blob.
use Rattle.std.proofs.Common.{◌≡◌, ℕ, ◌+◌, eqb, nat_lt, ◌&&◌, List, ◌++◌}
use Rattle.std.proofs.Common.{length, drop, Some, None, refl, sym, ap, subst, ◌∙◌, arith}
use Rattle.std.specs.Prelude.{IsTrue}
use Rattle.std.specs.List.{list_all}
use Rattle.std.specs.Str.{bytes_eq}
use Rattle.std.proofs.lemmas.Bool.{and_parts, and_from, eqb-true, eq-eqb}
use Rattle.std.proofs.lemmas.Bool.{cond-true}
use Rattle.std.proofs.lemmas.List.{length-drop}
use Rattle.std.proofs.lemmas.Option.{cond_some}
use Rattle.std.proofs.lemmas.Slice.Eq.{bytes_eq-Decides}
use Rattle.text.specs.Bytes.{IsBytes}
use Rattle.text.proofs.ByteLemmas.{IsBytes-append, IsBytes_from, all_bytes}
use Rattle.wire.specs.Texts.{string_text, u32_text}
use Rattle.lines.specs.Keys.{ed25519, key_blob, key_of}
use Rattle.lines.specs.KeyLines.{is_key}

-- The key is preceded by 19 bytes.
pub length-key_blob : (key : List ℕ) → length (key_blob key) ≡ 19 + length key
length-key_blob key = omega arith

-- A key that is found in a blob has this blob.
pub key_of_found : (blob key : List ℕ) → key_of blob ≡ Some key → (blob ≡ key_blob key) × (length key ≡ 32)
key_of_found blob key e =
    let is = cond_some (bytes_eq blob (key_blob (drop 19 blob)) && eqb (length blob) 51) (drop 19 blob) key e in
    let parts = and_parts _ _ is.0 in
    let same : blob ≡ key_blob (drop 19 blob) = (bytes_eq-Decides _ _).0 parts.0 in
    (same ∙ ap key_blob is.1, omega (arith, ap length is.1, length-drop 19 blob, eqb-true _ _ parts.1))

-- The key of a blob is found.
pub key_of_again : (key : List ℕ) → length key ≡ 32 → key_of (key_blob key) ≡ Some key
key_of_again key len =
    let same = (bytes_eq-Decides (key_blob key) (key_blob key)).1 refl in
    let size : length (key_blob key) ≡ 51 = omega (arith, length-key_blob key) in
    cond-true _ (Some key) None (and_from _ _ same (eq-eqb _ _ size))

-- 32 bytes are a key.
pub is_key_from : (key : List ℕ) → length key ≡ 32 → IsBytes key → IsTrue (is_key key)
is_key_from key len fits = and_from _ _ (eq-eqb _ _ len) (all_bytes key fits)

-- A key is 32 bytes.
pub is_key_parts : (key : List ℕ) → IsTrue (is_key key) → (length key ≡ 32) × IsBytes key
is_key_parts key e =
    let parts = and_parts (eqb (length key) 32) (list_all (λ b. nat_lt b 256) key) e in
    (eqb-true _ _ parts.0, IsBytes_from key parts.1)

-- The blob of a key consists of bytes.
pub IsBytes-key_blob : (key : List ℕ) → length key ≡ 32 → IsBytes key → IsBytes (key_blob key)
IsBytes-key_blob key len fits =
    let head : List ℕ = string_text ed25519 ++ u32_text 32 in
    let is : key_blob key ≡ head ++ key = ap (λ (n : ℕ). string_text ed25519 ++ (u32_text n ++ key)) len in
    subst IsBytes (sym is) (IsBytes-append head key (IsBytes_from head refl) fits)
