-- The readings of the requests for the list and for reports.
use Rattle.std.proofs.Common.{◌≡◌, ◌<◌, inr, ℕ, true, List, [], length, codes, IsUtf8, All, refl, arith}
use Rattle.std.specs.List.{list_all}
use Rattle.std.proofs.lemmas.List.Sums.{AllPass-from_list_all}
use Rattle.httparse.specs.Grammar.{RequestHead, IsField, IsRequestHead, crlf, is_token_byte, is_uri_byte, print_request}
use Rattle.http_requests.specs.declared.resource.Resource.TheVariants.{RevocationList, Signers, Table}
use Rattle.http_requests.specs.Asks.{Asks, get}
use Rattle.http_requests.specs.Paths.{resource}

-- a GET of this target, without header lines
abbrev head_of : List ℕ → RequestHead
head_of target = record {
  blank = [];
  method = codes "GET";
  target = target;
  minor = 1;
  line_end = crlf;
  fields = [];
  last = crlf;
}

is_get : list_all is_token_byte (codes "GET") ≡ true
unfolding is_token_byte
is_get = refl

no_field : All IsField []
no_field = λ k d inside. absurd (omega (arith, inside))

-- such a head is valid
is_head : (target : List ℕ) → 0 < length target → list_all is_uri_byte target ≡ true → IsUtf8 target
    → IsRequestHead (head_of target)
is_head target some all utf8 = record {
  method = (omega arith, AllPass-from_list_all is_token_byte (codes "GET") is_get);
  target = (some, AllPass-from_list_all is_uri_byte target all);
  target_text = utf8;
  minor = omega arith;
  fields = no_field;
}

pub asks_signers : Asks (codes "GET /v1/signers HTTP/1.1\r\n\r\n") (get Signers)
unfolding print_request lib.Utf8.encode
asks_signers =
    let target : List ℕ = codes "/v1/signers" in
    inr (
      head_of target,
      [],
      (
        record {
          reads = (is_head target (omega arith) refl (target, (refl, refl)), refl);
          size = omega arith;
          lines = omega arith;
        },
        record { one = omega arith; digits = λ k d inside. absurd (omega (arith, inside)) },
      ),
      inr (resource Signers, tt, refl, refl),
    )

pub asks_table : Asks (codes "GET /v1/table HTTP/1.1\r\n\r\n") (get Table)
unfolding print_request lib.Utf8.encode
asks_table =
    let target : List ℕ = codes "/v1/table" in
    inr (
      head_of target,
      [],
      (
        record {
          reads = (is_head target (omega arith) refl (target, (refl, refl)), refl);
          size = omega arith;
          lines = omega arith;
        },
        record { one = omega arith; digits = λ k d inside. absurd (omega (arith, inside)) },
      ),
      inr (resource Table, tt, refl, refl),
    )

pub asks_list : Asks (codes "GET /v1/krl HTTP/1.1\r\n\r\n") (get RevocationList)
unfolding print_request lib.Utf8.encode
asks_list =
    let target : List ℕ = codes "/v1/krl" in
    inr (
      head_of target,
      [],
      (
        record {
          reads = (is_head target (omega arith) refl (target, (refl, refl)), refl);
          size = omega arith;
          lines = omega arith;
        },
        record { one = omega arith; digits = λ k d inside. absurd (omega (arith, inside)) },
      ),
      inr (resource RevocationList, tt, refl, refl),
    )
