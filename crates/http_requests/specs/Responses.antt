-- Responses: RFC 9112, sections 4 and 5, with the phrases of RFC 9110, section 15.
use Rattle.std.specs.Prelude.{ℕ, List, [], ◌++◌, length, codes, decimal, unwrap_or}
use Rattle.http.specs.StatusCode.{code_digits, reason_phrase}
use Rattle.values.specs.declared.refusal.Refusal.{Refusal}
use Rattle.values.specs.Refusals.{refusal_number, refusal_name, refusal_status}
use Rattle.http_requests.specs.declared.response.MediaType.{MediaType}
use Rattle.http_requests.specs.declared.response.MediaType.TheVariants.{PlainText, Bytes}

-- the phrase of a status code
unfoldable pub phrase : ℕ → List ℕ
phrase status = unwrap_or (reason_phrase status) []

-- the name of a media type
abbrev pub media_type_text : MediaType → List ℕ
media_type_text PlainText = codes "text/plain"
media_type_text Bytes = codes "application/octet-stream"

-- the status line, the header lines and the empty line before a body of this many bytes
abbrev pub response_head : ℕ → MediaType → ℕ → List ℕ
response_head status media size =
    codes "HTTP/1.1 " ++ code_digits status ++ codes " " ++ phrase status
    ++ codes "\r\ncontent-type: " ++ media_type_text media
    ++ codes "\r\ncontent-length: " ++ decimal size
    ++ codes "\r\nconnection: close\r\n\r\n"

-- a whole response
abbrev pub response_text : ℕ → MediaType → List ℕ → List ℕ
response_text status media body = response_head status media (length body) ++ body

-- the body of a refusal
abbrev pub refusal_text : Refusal → List ℕ
refusal_text r = codes "refused " ++ decimal (refusal_number r) ++ codes " " ++ refusal_name r ++ codes "\n"

-- the response of a refusal
abbrev pub refusal_response : Refusal → List ℕ
refusal_response r = response_text (refusal_status r) PlainText (refusal_text r)
