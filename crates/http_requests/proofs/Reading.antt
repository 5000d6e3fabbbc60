-- Heads in bytes that come one at a time.
use Rattle.http_requests.proofs.Words.{Bool, HasCome, List, ReadsRequest, ReadsRequest-append, RequestHead, Waits, []}
use Rattle.http_requests.proofs.Words.{ap, append-nil, arith, false, length, length-append, nat_lt, nat_tests}
use Rattle.http_requests.proofs.Words.{print_request, refl, subst, sym, take, take-append-le, take-append_seam, true, ℕ}
use Rattle.http_requests.proofs.Words.{◌++◌, ◌∙◌, ◌∷◌, ◌≡◌, ◌≤◌}
use Rattle.std.proofs.Math.Seq.{take-length}
use Rattle.http_requests.specs.Heads.{IsGood}
use Rattle.http_requests.specs.Reading.{HoldsNone, IsNoMore, WaitsBefore}

-- the empty list has no shorter prefix
pub waits_before_nothing : WaitsBefore []
waits_before_nothing n below = absurd (omega (arith, below))

-- bytes that may become a head, and one more byte
pub waits_before_more : (bytes : List ℕ) (b : ℕ) → WaitsBefore bytes → HasCome Waits bytes
    → WaitsBefore (bytes ++ b ∷ [])
waits_before_more bytes b before waits n below =
    let size = length-append bytes (b ∷ []) in
    let fits : n ≤ length bytes = omega (arith, size, below) in
    let P : List ℕ → Type 0 = HasCome Waits in
    subst P (sym (take-append-le n bytes (b ∷ []) fits)) (by (nat_lt n (length bytes)) refl fits)
  where
    by : (v : Bool) → nat_lt n (length bytes) ≡ v → n ≤ length bytes → HasCome Waits (take n bytes)
    by true e fits = before n (grind (arith, nat_tests))
    by false e fits =
        let P : List ℕ → Type 0 = HasCome Waits in
        let same : n ≡ length bytes = grind (arith, nat_tests) in
        subst P (sym (ap (λ n. take n bytes) same ∙ take-length bytes)) waits

-- if no shorter prefix has a head, a head is all of the bytes
pub no_more_of_waits : (bytes : List ℕ) → WaitsBefore bytes → IsNoMore bytes
no_more_of_waits bytes before h [] reads = refl
no_more_of_waits bytes before h (x ∷ rest) reads =
    let p = print_request h in
    let size = simp length-append at (ap length reads.0.1) in
    let cut = ap (take (length p)) reads.0.1 ∙ take-append_seam p (x ∷ rest) in
    let P : List ℕ → Type 0 = HoldsNone in
    let none = subst P cut (before (length p) (omega (arith, size))).0 in
    absurd (none h [] ((reads.0.0, sym (append-nil p)), reads.1))

-- a good head that is all of the bytes is a head of these bytes with a body after them
pub good_with_body : (before body rest : List ℕ) (h : RequestHead) → IsGood before h rest → IsNoMore before
    → IsGood (before ++ body) h body
good_with_body before body rest h good all =
    let none = all h rest (good.0.reads, good.0.lines) in
    let more = ReadsRequest-append before h rest body good.0.reads in
    let P : List ℕ → Type 0 = λ r. ReadsRequest (before ++ body) h (r ++ body) in
    (record { reads = subst P none more; size = good.0.size; lines = good.0.lines }, good.1)
