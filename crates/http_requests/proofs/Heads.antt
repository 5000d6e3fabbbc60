-- Heads in the bytes of a request and in a prefix of them.
use Rattle.http_requests.proofs.Words.{Field, List, ReadsRequest, ReadsRequest-append, RequestHead, ap, arith, drop}
use Rattle.http_requests.proofs.Words.{length, length-append, length-take, min, print_request, sym, take}
use Rattle.http_requests.proofs.Words.{take-append-drop, ℕ, ◌++◌, ◌+◌, ◌-◌, ◌∙◌, ◌≡◌, ◌≤◌}
use Rattle.std.proofs.Math.Seq.{take-append-add}
use Rattle.std.proofs.lemmas.List.{drop-append-le, length-map}
use Rattle.httparse.specs.declared.spans.HeaderSpan.{HeaderSpan}
use Rattle.httparse.specs.Spans.{AreFieldsAt}

-- a head of the prefix is a head of the bytes
pub head_of_front : (bytes : List ℕ) (n k : ℕ) (h : RequestHead) → k ≤ length (take n bytes)
    → ReadsRequest (take n bytes) h (drop k (take n bytes)) → ReadsRequest bytes h (drop k bytes)
head_of_front bytes n k h fits reads =
    let whole = take-append-drop n bytes in
    let more = ReadsRequest-append (take n bytes) h (drop k (take n bytes)) (drop n bytes) reads in
    let rest = sym (drop-append-le k (take n bytes) (drop n bytes) fits) ∙ ap (drop k) whole in
    (more.0, sym whole ∙ more.1 ∙ ap (λ r. print_request h ++ r) rest)

-- a head of the bytes that fits in the prefix is a head of the prefix
pub head_in_front : (bytes : List ℕ) (n : ℕ) (h : RequestHead) (rest : List ℕ) → n ≡ min (length bytes) 8192
    → length (print_request h) ≤ 8192
    → ReadsRequest bytes h rest → ReadsRequest (take n bytes) h (take (n - length (print_request h)) rest)
head_in_front bytes n h rest cut fits reads =
    let p = print_request h in
    let size = simp length-append at (ap length reads.1) in
    let e : n ≡ length p + (n - length p) = omega arith in
    (reads.0, ap (take n) reads.1 ∙ ap (λ m. take m (p ++ rest)) e ∙ take-append-add p rest (n - length p))

-- there are no more fields than header spans
pub fields_fit : (bytes : List ℕ) (headers : List HeaderSpan) (count : ℕ) (fields : List Field)
    → AreFieldsAt bytes headers count fields → length fields ≤ length headers
fields_fit bytes headers count fields same =
    let e = simp (length-map, length-take) at (ap length same) in
    omega (arith, e)
