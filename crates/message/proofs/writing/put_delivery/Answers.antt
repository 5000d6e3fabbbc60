use Rattle.message.proofs.Words.{codes, decimal, line, refl, signature_text}
use Rattle.std.proofs.lemmas.Result.{on_ok_weaker}
use Rattle.message.proofs.PutLines.{none_put, then_line}
use Rattle.message.proofs.writing.put_delivery.Goals as goal

pub returns : goal.returns
returns c =
    let d = c.args.delivery.now in
    let none = none_put c.args.out.now.items in
    let serial = then_line none (line (codes "deliver") (decimal d.serial)) refl c.in_ok-put_number.ensures in
    let digest = then_line serial (line (codes "digest") d.digest) refl c.in_ok-put_line.ensures in
    on_ok_weaker c.put_signature.result (λ put. (then_line digest (line (codes "signature") (signature_text d.signature)) refl put).is)
    c.put_signature.ensures
