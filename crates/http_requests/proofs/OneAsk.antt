-- Distinct paths have distinct texts, so a request has at most one reading.
use Rattle.http_requests.proofs.Words.{Ask, Asks, Fixed, HeadAsks, IsPath, List, Path, RequestHead, Resource, ap}
use Rattle.http_requests.proofs.Words.{asked_at, codes, decimal, decimal_injective, drop, inl, inr, is_serial, length}
use Rattle.http_requests.proofs.Words.{message, path_text, refl, request_unique, resource, route_row, serial_small}
use Rattle.http_requests.proofs.Words.{subst, sym, true, ℕ, ◌∙◌, ◌≡◌}
use Rattle.std.proofs.lemmas.List.{append_cancel_right}
use Rattle.http_requests.specs.declared.resource.Resource.TheVariants.{Certificate, Body}
use Rattle.http_requests.proofs.Finding.{routed, same_route, kind_at}
use Rattle.http_requests.proofs.Cutting.{message_cut}

-- two messages whose paths have the same text have the same caller and the same key
same_message : (c k d l : List ℕ) → IsPath (message c k) → IsPath (message d l)
    → path_text (message c k) ≡ path_text (message d l) → message c k ≡ message d l
same_message c k d l is also e =
    let text = path_text (message c k) in
    let one = message_cut text (drop 12 text) c k is refl refl in
    let two = message_cut text (drop 12 text) d l also e refl in
    let callers : c ≡ d = sym (one.front (length c) one.slash) ∙ two.front (length c) one.slash in
    let tails = sym (one.back (length c) one.slash) ∙ two.back (length c) one.slash in
    let keys : k ≡ l = ap (drop 10) tails in
    cc

-- serials with the same text are equal
same_serial : (m n : ℕ) → is_serial m ≡ true → is_serial n ≡ true → decimal m ≡ decimal n → m ≡ n
same_serial m n is also = decimal_injective m n (serial_small m is) (serial_small n also)

-- a path of a fixed route is the route's path
at_fixed : (r : Resource) (q : Path) → Fixed r ≡ kind_at q → resource r ≡ q
at_fixed r (resource (Certificate n)) kind = cc
at_fixed r q kind = cc

-- paths with the same route and the same text are equal
same_at : (p q : Path) → IsPath p → IsPath q → path_text p ≡ path_text q → kind_at p ≡ kind_at q → p ≡ q
same_at (message c k) (message d l) is also e kind = same_message c k d l is also e
same_at (message c k) (resource (Certificate n)) is also e kind = cc
same_at (message c k) q is also e kind = cc
same_at (resource (Certificate m)) (resource (Certificate n)) is also e kind =
    ap (λ n. resource (Certificate n)) (same_serial m n is also (ap (drop 10) e))
same_at (resource (Certificate m)) q is also e kind = cc
same_at (resource (Body m)) (resource (Body n)) is also e kind =
    let digits = append_cancel_right (decimal m) (decimal n) (codes "/body") (ap (drop 10) e) in
    ap (λ n. resource (Body n)) (same_serial m n is also digits)
same_at (resource (Body m)) q is also e kind = cc
same_at (resource r) q is also e kind = at_fixed r q kind

-- paths with the same text are equal
pub same_path : (p q : Path) → IsPath p → IsPath q → path_text p ≡ path_text q → p ≡ q
same_path p q is also e =
    same_at p q is also e (same_route (path_text p) (route_row (kind_at p)) q also (routed p is) e)

-- a head has at most one reading
one_of_head : (h : RequestHead) (rest : List ℕ) (a b : Ask) → HeadAsks h rest a → HeadAsks h rest b → a ≡ b
one_of_head h rest a b (inl (none, e)) (inl (also, f)) = e ∙ sym f
one_of_head h rest a b (inl (none, e)) (inr (p, is, text, f)) = absurd (none p is text)
one_of_head h rest a b (inr (p, is, text, e)) (inl (none, f)) = absurd (none p is text)
one_of_head h rest a b (inr (p, is, text, e)) (inr (q, also, other, f)) =
    e ∙ ap (λ r. asked_at r h rest) (same_path p q is also (sym text ∙ other)) ∙ sym f

-- a request has at most one reading
pub one_of : (bytes : List ℕ) (a b : Ask) → Asks bytes a → Asks bytes b → a ≡ b
one_of bytes a b (inl (none, e)) (inl (also, f)) = e ∙ sym f
one_of bytes a b (inl (none, e)) (inr (h, rest, good, asked)) = absurd (none h rest good)
one_of bytes a b (inr (h, rest, good, asked)) (inl (none, f)) = absurd (none h rest good)
one_of bytes a b (inr (h, rest, good, asked)) (inr (k, more, well, other)) =
    let same = request_unique bytes k h more rest well.0.reads good.0.reads in
    let P : RequestHead → Type 0 = λ k. HeadAsks k more b in
    let Q : List ℕ → Type 0 = λ r. HeadAsks h r b in
    one_of_head h rest a b asked (subst Q same.1 (subst P same.0 other))
