use Rattle.cert.proofs.Words.{CertFields, ◌∙◌}
use Rattle.std.proofs.lemmas.Result.{err_from_is_err_and}
use Rattle.cert.proofs.Steps.{found_rest, goes_on, in_four, stops, stops_behind}
use Rattle.cert.proofs.body_reader.read_from_key_id.Goals as goal

pub returns-in_err-key_id : goal.returns-in_err-key_id
returns-in_err-key_id c =
    let p = err_from_is_err_and c.from_residual.result c.from_residual.ensures.1 in
    rw (p.1, p.2, in_four) (stops _ _ _ (found_rest _ _ _ c.in_err-key_id.ensures))

pub returns-in_err-after : goal.returns-in_err-after
returns-in_err-after c =
    let p = err_from_is_err_and c.from_residual-in_err-after.result c.from_residual-in_err-after.ensures.1 in
    let e = c.in_err-after.field-0.0 in
    rw (p.1, p.2, in_four) (stops_behind {B = CertFields} e _ _ _ c.in_ok-key_id.ensures
    (stops {B = CertFields} e _ _ (found_rest _ _ _ c.in_err-after.ensures)))

pub returns-in_err-options : goal.returns-in_err-options
returns-in_err-options c =
    let p = err_from_is_err_and c.from_residual-in_err-options.result c.from_residual-in_err-options.ensures.1 in
    let e = c.in_err-options.field-0.0 in
    rw (p.1, p.2, in_four) (stops_behind {B = CertFields} e _ _ _ c.in_ok-key_id.ensures
    (stops_behind {B = CertFields} e _ _ _ c.in_ok-after.ensures
    (stops {B = CertFields} e _ _ (found_rest _ _ _ c.in_err-options.ensures))))

pub returns-in_err-ca : goal.returns-in_err-ca
returns-in_err-ca c =
    let p = err_from_is_err_and c.from_residual-in_err-ca.result c.from_residual-in_err-ca.ensures.1 in
    let e = c.in_err-ca.field-0.0 in
    rw (p.1, p.2, in_four) (stops_behind {B = CertFields} e _ _ _ c.in_ok-key_id.ensures
    (stops_behind {B = CertFields} e _ _ _ c.in_ok-after.ensures
    (stops_behind {B = CertFields} e _ _ _ c.in_ok-options.ensures
    (stops {B = CertFields} e _ _ c.in_err-ca.ensures))))

pub returns : goal.returns
returns c =
    in_four _ _ _ _ _ _ ∙ goes_on _ _ _ c.in_ok-key_id.ensures ∙ goes_on _ _ _ c.in_ok-after.ensures
    ∙ goes_on _ _ _ c.in_ok-options.ensures ∙ goes_on _ _ _ c.in_ok-ca.ensures
