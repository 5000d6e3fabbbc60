-- Files of an interrupted first open hold no database.
use Rattle.std.proofs.Common.{◌≡◌, ℕ, ◌<◌, ◌≤◌, true, false, List, [], length, take, slice_index, unwrap_or, Option}
use Rattle.std.proofs.Common.{Some, inl, inr, sym, ap, ◌∙◌, arith, get_or-take}
use Rattle.std.proofs.lemmas.List.{length-take}
use Rattle.std.proofs.Math.Logic.{∥∥₁_elim}
use Rattle.sqlite_wal.specs.Recovery.{Image}
use Rattle.sqlite_wal.proofs.AppendLemmas.{some_value}
use Rattle.sqlite_wal.proofs.CreateLemmas.{begun_is_not_blank}
use Rattle.sqlite_pages.specs.PageMap.{PageMap}
use Rattle.sqlite_pool.specs.Stored.{Adopts, sealed, stored_size, used_size}
use Rattle.sqlite_pool.specs.StoredLaws.{trimmed_some}
use Rattle.sqlite_pool.specs.Header.{first_page}
use Rattle.sqlite_pool.specs.File.{IsSoundFile, header_in}
use Rattle.sqlite_pool.proofs.ProbeLemmas.{first_byte}
use Rattle.sqlite_trees.specs.Tree.{Trees}
use Rattle.sqlite.specs.Files.{AreFoundIn, IsEmpty, IsNothing}

-- files from which pages were read, the first of them with a header, are neither empty nor half made
begun : (size : ℕ) (image : Image) (pages : PageMap) → Adopts size image pages → IsSoundFile size pages
    → IsNothing image → ⊥
begun size image pages found sound nothing =
    let (page, is) = some_value (found.stored 1) found.whole.first in
    let len = found.whole.sized 1 page is in
    let used : pages 1 ≡ Some (take size page) =
    ap (λ (p : PageMap). p 1) (sym found.shows) ∙ trimmed_some size _ 1 page is in
    let head : header_in pages ≡ take 100 (take size page) =
    ap (λ (o : Option (List ℕ)). take 100 (unwrap_or o [])) used in
    let magic = sound.header.0.magic in
    let long : length (take 16 (take 100 (take size page))) ≡ 16 =
    ap (λ (h : List ℕ). length (take 16 h)) (sym head) ∙ ap length magic in
    let front = take size page in
    let large : 16 ≤ size =
    omega (arith, length-take 16 (take 100 front), length-take 100 front, length-take size page) in
    let first : slice_index page 0 ≡ 83 =
    sym (get_or-take size page 0 0 (omega arith)) ∙ sym (get_or-take 100 (take size page) 0 0 (omega arith))
    ∙ ap (λ (h : List ℕ). slice_index h 0) (sym head) ∙ sym (get_or-take 16 (header_in pages) 0 0 (omega arith))
    ∙ ap (λ (b : List ℕ). slice_index b 0) magic in
    let never = λ (other : ℕ) (some : 0 < other).
    let gate = first_byte other some in
    begun_is_not_blank (sealed (first_page other)) page (stored_size size) image found.stored found.found is len
    (omega arith) (first ∙ sym gate) (λ none. let wrong = sym gate ∙ none in omega arith) in
    elim nothing [
      | inl plain ↦ never (used_size 4096 false) (omega arith) plain
      | inr summed ↦ never (used_size 4096 true) (omega arith) summed
    ]

-- no row is read from half-made files
pub found_nothing : (image : Image) (db : Trees) → IsNothing image → AreFoundIn image db → IsEmpty db
found_nothing image db nothing (inl there) =
    absurd (∥∥₁_elim there.4 (λ a b. absurd a) (λ ours. begun there.0 image there.1 there.3 ours.file.sound nothing))
found_nothing image db nothing (inr empty) = empty.1
