-- The text of each path finds its route.
use Rattle.http_requests.proofs.Words.{Body, Bool, Certificate, Fixed, IsPath, IsTrue, List, Message, Path, RouteKind}
use Rattle.http_requests.proofs.Words.{RouteOf, Some, [], and_parts, ap, arith, codes, decimal, false, first, get_or}
use Rattle.http_requests.proofs.Words.{has_size, is_name, is_name_byte, is_serial, lacks_from, length, list_all}
use Rattle.http_requests.proofs.Words.{message, nat_le, nat_tests, path_text, refl, resource, route_row, routing}
use Rattle.http_requests.proofs.Words.{serial_small, subst, sym, true, ℕ, ◌++◌, ◌<◌, ◌==◌, ◌∙◌, ◌∷◌, ◌≡◌}
use Rattle.std.specs.Char.{is_ascii_digit}
use Rattle.std.proofs.lemmas.Bool.{leb-true}
use Rattle.std.proofs.lemmas.Fmt.{decimal_nonempty, digits_decimal}
use Rattle.std.proofs.lemmas.List.Elements.{recursion_from_All}
use Rattle.std.proofs.lemmas.List.Sums.{AllPass-from_list_all}
use Rattle.matchit.proofs.OnLiterals.{matchit_on_literals}
use Rattle.values.proofs.DecimalLemmas.{own}
use Rattle.http_requests.specs.declared.resource.Resource.TheVariants as a
use Rattle.http_requests.proofs.Seeking.{IsPart, lits, at_end, cuts_none, cuts_slash, to_slash, to_end}

-- ---- parameters

-- bytes of a class that excludes the slash
part_from : (test : ℕ → Bool) (c : List ℕ) → test 47 ≡ false → ((b : ℕ) → test b ≡ true → b < 256) → 0 < length c
    → list_all test c ≡ true → IsPart c
part_from test c off small some all = record {
  some = some;
  clear = recursion_from_All (λ b. (b == 47) ≡ false) c (lacks_from test 47 c off all);
  byte = small (get_or c 0 0) (AllPass-from_list_all test c all 0 0 some);
}

pub part_of_name : (name : List ℕ) → IsTrue (is_name name) → IsPart name
part_of_name name is =
    let parts = and_parts (has_size 1 32 name) _ is in
    let some = leb-true 1 (length name) (and_parts (nat_le 1 (length name)) _ parts.0).0 in
    part_from is_name_byte name refl (λ b h. grind (arith, nat_tests)) some parts.1

pub part_of_serial : (n : ℕ) → is_serial n ≡ true → IsPart (decimal n)
part_of_serial n is =
    let small = serial_small n is in
    part_from is_ascii_digit (decimal n) refl (λ b h. grind (arith, nat_tests)) (decimal_nonempty n small)
    (digits_decimal own n small)

-- a byte isn't the token of a parameter
byte_misses : (x : ℕ) → x < 256 → (256 == x) ≡ false
byte_misses x h = grind (arith, nat_tests)

-- ---- paths

message_found : (c k : List ℕ) → IsPart c → IsPart k
    → first routing (codes "/v1/callers/" ++ (c ++ (codes "/requests/" ++ k))) ≡ Some (route_row Message)
message_found c k caller key =
    lits (codes "/v1/callers/") routing (c ++ (codes "/requests/" ++ k)) (route_row Message)
    (to_slash _ c (codes "requests/" ++ k) (route_row Message) caller (λ x h. rw (byte_misses x h) (refl {a = []}))
    (rw (cuts_slash c caller.some) (refl {a = 47 ∷ []})) (lits (codes "/requests/") _ k (route_row Message)
    (to_end _ k (route_row Message) key (λ x h. rw (byte_misses x h) (refl {a = []})) refl refl)))

certificate_found : (c : List ℕ) → IsPart c → first routing (codes "/v1/certs/" ++ c) ≡ Some (route_row Certificate)
certificate_found c part = lits (codes "/v1/certs/") routing c (route_row Certificate)
    (to_end _ c (route_row Certificate) part (λ x h. rw (byte_misses x h) (refl {a = []}))
    (rw (cuts_none c part.clear) (refl {a = []})) refl)

body_found : (c : List ℕ) → IsPart c → first routing (codes "/v1/certs/" ++ (c ++ codes "/body")) ≡ Some (route_row Body)
body_found c part = lits (codes "/v1/certs/") routing (c ++ codes "/body") (route_row Body)
    (to_slash _ c (codes "body") (route_row Body) part (λ x h. rw (byte_misses x h) (refl {a = []}))
    (rw (cuts_slash c part.some) (refl {a = 47 ∷ []}))
    (lits (codes "/body") _ [] (route_row Body) (at_end (([], route_row Body) ∷ []))))

-- the route of a path
abbrev pub kind_at : Path → RouteKind
kind_at (message caller key) = Message
kind_at (resource (a.Certificate n)) = Certificate
kind_at (resource (a.Body n)) = Body
kind_at (resource r) = Fixed r

-- the text of a path finds the path's route
pub routed : (p : Path) → IsPath p → first routing (path_text p) ≡ Some (route_row (kind_at p))
unfolding matchit_on_literals
routed (message caller key) is = message_found caller key (part_of_name caller is.0) (part_of_name key is.1)
routed (resource (a.Certificate n)) is = certificate_found (decimal n) (part_of_serial n is)
routed (resource (a.Body n)) is = body_found (decimal n) (part_of_serial n is)
routed (resource r) is = refl

-- a text that finds a route and is the text of a path finds that path's route
pub same_route : (path : List ℕ) (r : RouteOf RouteKind) (p : Path)
    → IsPath p → first routing path ≡ Some r → path ≡ path_text p → r.value ≡ kind_at p
same_route path r p is found e =
    let same = sym found ∙ ap (first routing) e ∙ routed p is in
    let row : r ≡ route_row (kind_at p) = cc in
    ap (λ r. r.value) row

-- ---- the path of a route

-- the text is that of a path of this route
abbrev pub IsOf : RouteKind → List ℕ → Type 0
IsOf Message text = (caller key : List ℕ) × IsPath (message caller key) × (text ≡ path_text (message caller key))
IsOf Certificate text =
    (n : ℕ) × IsPath (resource (a.Certificate n)) × (text ≡ path_text (resource (a.Certificate n)))
IsOf Body text = (n : ℕ) × IsPath (resource (a.Body n)) × (text ≡ path_text (resource (a.Body n)))
IsOf (Fixed r) text = text ≡ path_text (resource r)

of_kind : (p : Path) → IsPath p → IsOf (kind_at p) (path_text p)
of_kind (message caller key) is = (caller, key, is, refl)
of_kind (resource (a.Certificate n)) is = (n, is, refl)
of_kind (resource (a.Body n)) is = (n, is, refl)
of_kind (resource r) is = refl

-- if the text of a path finds this route, it is the text of one of the route's paths
pub found_of : (kind : RouteKind) (path : List ℕ) (r : RouteOf RouteKind) (p : Path) → first routing path ≡ Some r
    → r.value ≡ kind → IsPath p → path ≡ path_text p → IsOf kind path
found_of kind path r p found of is e =
    let P : RouteKind → Type 0 = λ kind. IsOf kind path in
    let Q : List ℕ → Type 0 = IsOf (kind_at p) in
    subst P (sym (same_route path r p is found e) ∙ of) (subst Q (sym e) (of_kind p is))
