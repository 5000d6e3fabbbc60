use Rattle.http_requests.proofs.Words.{List, [], append-nil, append_assoc, codes, decimal, ℕ, ◌++◌, ◌∙◌, ◌≡◌}
use Rattle.http.specs.StatusCode.{code_digits}
use Rattle.http_requests.specs.Responses.{phrase, media_type_text}
use Rattle.http_requests.proofs.response.put_head.Goals as goal

-- nine pieces, of which the first and the even ones are replaced by equals
nine : {o v x y z u : List ℕ} (w a b c d e f g h i : List ℕ) → v ≡ a → x ≡ b → y ≡ d → z ≡ f → u ≡ h
    → o ≡ w ++ (v ++ (x ++ (c ++ (y ++ (e ++ (z ++ (g ++ (u ++ (i ++ [])))))))))
    → o ≡ w ++ (a ++ b ++ c ++ d ++ e ++ f ++ g ++ h ++ i)
nine w a b c d e f g h i j k l m n o = rw (o, j, k, l, m, n) (simp (append_assoc, append-nil))

pub returns-clause-items : goal.returns-clause-items
returns-clause-items c =
    nine c.args.out.now.items (codes "HTTP/1.1 ") (code_digits c.args.status) (codes " ") (phrase c.args.status)
    (codes "\r\ncontent-type: ") (media_type_text c.args.media) (codes "\r\ncontent-length: ") (decimal c.args.size)
    (codes "\r\nconnection: close\r\n\r\n")
    c.as_slice.ensures
    (c.as_bytes-code.ensures.value ∙ c.as_str.ensures)
    (c.as_bytes-phrase.ensures.value ∙ c.phrase_of.ensures.value)
    (c.as_bytes-media_type.ensures.value ∙ c.as_str-2.ensures.value)
    (c.as_bytes-length.ensures.value ∙ c.format.ensures.text)
    c.put_pieces.ensures.items
