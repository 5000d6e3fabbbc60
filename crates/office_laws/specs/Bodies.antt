-- The body (the unsigned certificate) for a serial.
use Rattle.std.specs.Prelude.{◌≡◌, ℕ, List}
use Rattle.cert.specs.Bodies.{body_text}
use Rattle.office.specs.declared.certificate.Certificate.{Certificate}

-- the body is made from the certificate's fields, which have the serial and the signer's key
pub record IsBodyFor (serial : ℕ) (signer : List ℕ) (c : Certificate) : Type 0 where
  pub serial_number : c.fields.serial ≡ serial
  pub ca : c.fields.ca ≡ signer
  pub body : c.body ≡ body_text c.fields
