use Rattle.std.proofs.Common.{◌≡◌, ◌*◌, ◌∙◌, ap, arith, drop, length, min, take, ℕ}
use Rattle.std.proofs.lemmas.List.{take_min, take_rest}
use Rattle.list_sql.proofs.pieces.piece_at.Goals as goal

pub returns : goal.returns
returns c =
    let list = c.args.list.now in
    let from = c.args.at * 65536 in
    let rest = take_rest list from in
    let least : c.min.result ≡ min 65536 (length (drop from list)) = omega (arith, c.min.ensures, ap length rest) in
    ap (take c.min.result) rest ∙ ap (λ (n : ℕ). take n (drop from list)) least ∙ take_min 65536 (drop from list)
