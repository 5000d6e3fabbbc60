use Rattle.store.proofs.Words.{Err, Ok, option_copied, refl}
use Rattle.store.proofs.Marking.{first_flag, two_flags}
use Rattle.store.proofs.Showing.{asks_shown, asks_failed}
use Rattle.store.proofs.reads.marks.marks_of.Goals as goal

pub returns : goal.returns
returns g c =
    let first = c.in_ok-is_revoked.is_revoked in
    let key = c.in_ok-is_key_id_revoked.is_key_id_revoked in
    let any = c.in_ok-has_revoked_key_ids.has_revoked_key_ids in
    two_flags (option_copied c.args.certificate) c.args.message.now _ _ _ _ first key
    (Ok (record { is_revoked = first; is_key_id_revoked = key; has_revoked_key_ids = any }))
    c.in_ok-is_revoked.ensures c.in_ok-is_key_id_revoked.ensures
    (asks_shown c.in_ok-has_revoked_key_ids.ensures (λ s kept lawful says revoked key_id. record {
      revoked = revoked;
      key_id = key_id;
      key_ids = says;
    }))

pub returns-in_err-has_revoked_key_ids : goal.returns-in_err-has_revoked_key_ids
returns-in_err-has_revoked_key_ids g c =
    let f = c.in_err-has_revoked_key_ids.field-0.0 in
    asks_failed (two_flags (option_copied c.args.certificate) c.args.message.now _ _ _ _ c.in_ok-is_revoked.is_revoked
    c.in_ok-is_key_id_revoked.is_key_id_revoked (Err f) c.in_ok-is_revoked.ensures c.in_ok-is_key_id_revoked.ensures
    (asks_failed c.in_err-has_revoked_key_ids.ensures refl)) c.from_residual-in_err-has_revoked_key_ids.ensures.1

pub returns-in_err-is_key_id_revoked : goal.returns-in_err-is_key_id_revoked
returns-in_err-is_key_id_revoked g c =
    let f = c.in_err-is_key_id_revoked.field-0.0 in
    asks_failed (first_flag (option_copied c.args.certificate) c.args.message.now _ _ _ c.in_ok-is_revoked.is_revoked
    (Err f) c.in_ok-is_revoked.ensures (asks_failed c.in_err-is_key_id_revoked.ensures refl))
    c.from_residual-in_err-is_key_id_revoked.ensures.1

pub returns-in_err-is_revoked : goal.returns-in_err-is_revoked
returns-in_err-is_revoked g c = asks_failed c.in_err-is_revoked.ensures c.from_residual.ensures.1
