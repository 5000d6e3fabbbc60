-- Bytes that have fields are an unsigned certificate (body) of the profile.
use Rattle.std.proofs.Common.{◌≡◌, ℕ, List, Bool, true, false, cond, length, Some, None, Result, Ok, Err, refl}
use Rattle.std.specs.Prelude.{nat_lt}
use Rattle.std.specs.Result.{result_ok}
use Rattle.std.proofs.lemmas.Bool.{ltb-false}
use Rattle.text.specs.Bytes.{IsBytes}
use Rattle.cert.specs.Reading.{body_at}
use Rattle.cert.specs.declared.cert_fault.CertFault.{CertFault}
use Rattle.cert.specs.declared.fields.CertFields.{CertFields}
use Rattle.cert.proofs.BodyLaws.{found_from}
use Rattle.guard.specs.State.{fields_of}
use Rattle.guard.specs.Laws.{IsBodyOf}

was_read : (r : Result CertFields CertFault) (c : CertFields) → result_ok r ≡ Some c → r ≡ Ok c
was_read (Ok x) c e = cc
was_read (Err x) c e = absurd cc

by_length : (bytes : List ℕ) (c : CertFields) (long : Bool) → IsBytes bytes → nat_lt 16384 (length bytes) ≡ long
    → cond long None (result_ok (body_at bytes)) ≡ Some c → IsBodyOf bytes c
by_length bytes c true fits long e = absurd cc
by_length bytes c false fits long e =
    let found = found_from bytes (Ok c) fits (was_read (body_at bytes) c e) in
    record { short = ltb-false _ _ long; fields = found.0; text = found.1 }

pub is_body : (bytes : List ℕ) (c : CertFields) → IsBytes bytes → fields_of bytes ≡ Some c → IsBodyOf bytes c
is_body bytes c fits e = by_length bytes c (nat_lt 16384 (length bytes)) fits refl e
