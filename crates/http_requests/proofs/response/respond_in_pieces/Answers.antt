use Rattle.http_requests.proofs.Words.{Bor, List, ap, arith, flat_map, sym, ℕ, ◌++◌, ◌∙◌}
use Rattle.std.proofs.lemmas.List.Concat.{length-flat_map}
use Rattle.http_requests.specs.Responses.{response_head}
use Rattle.http_requests.proofs.response.respond_in_pieces.Goals as goal

pub total_len-requires : goal.total_len-requires
total_len-requires c =
    let size = length-flat_map (λ (p : Bor (List ℕ)). p.now) c.args.body.now in
    omega (arith, size)

pub returns : goal.returns
returns c =
    let now = λ (p : Bor (List ℕ)). p.now in
    let size = c.total_len.ensures ∙ sym (length-flat_map now c.args.body.now) in
    let head = c.put_head.ensures.items
    ∙ ap (λ r. r ++ response_head c.args.status c.args.media c.total_len.result) c.requires.empty
    ∙ ap (response_head c.args.status c.args.media) size in
    c.put_pieces.ensures.items ∙ ap (λ t. t ++ flat_map now c.args.body.now) head
