use Rattle.std.proofs.Common.{◌≡◌, ◌++◌, ap, sym, ◌∙◌}
use Rattle.lines.specs.Signers.{list_text, others_text}
use Rattle.lines.proofs.Pieces.{list_text-cons, writes_as, writes_failed, writes_stop, writes_then}
use Rattle.lines.proofs.signers.write_list.Goals as goal

pub returns-in_err-write_piece : goal.returns-in_err-write_piece
returns-in_err-write_piece g c =
    let is : c.in-Some.first.now ++ others_text c.in-Some.others.now ≡ list_text c.args.texts.now =
    sym (list_text-cons c.in-Some.first.now c.in-Some.others.now) ∙ ap list_text (sym c.in-Some.ensures.cases.0) in
    writes_failed c.from_residual.result _ _ _ c.from_residual.ensures.0
    (writes_as is (writes_stop _ _ c.in-Some.first.now (others_text c.in-Some.others.now)
    (writes_as c.as_slice.ensures c.in_err-write_piece.ensures)))

pub returns : goal.returns
returns g c =
    let is : c.in-Some.first.now ++ others_text c.in-Some.others.now ≡ list_text c.args.texts.now =
    sym (list_text-cons c.in-Some.first.now c.in-Some.others.now) ∙ ap list_text (sym c.in-Some.ensures.cases.0) in
    writes_as is (writes_then _ _ _ _ c.in-Some.first.now (others_text c.in-Some.others.now)
    (writes_as c.as_slice.ensures c.in_ok-write_piece.ensures) c.write_others.ensures)
