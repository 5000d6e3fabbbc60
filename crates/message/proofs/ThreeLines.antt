-- Messages of three lines: renewals and deliveries.
use Rattle.message.proofs.Words.{Lacks, List, Signature, and_from, and_parts, ap, codes, delivery_lines, is_delivery}
use Rattle.message.proofs.Words.{is_end, is_renewal, is_serial, is_signature, lacks_from, refl, renewal_lines}
use Rattle.message.proofs.Words.{replicate, serial_small, true, ℕ, ◌≡◌}
use Rattle.message.specs.declared.delivery.Delivery.{Delivery}
use Rattle.message.specs.declared.renewal.Renewal.{Renewal}
use Rattle.message.specs.Values.{is_digest, is_lower_hex}
use Rattle.message.specs.Reading.{delivery_in, renewal_in}
use Rattle.message.proofs.Fields.{text_field}
use Rattle.message.proofs.Numbers.{end_small, number_field}
use Rattle.message.proofs.Signatures.{signature_field}
use Rattle.message.proofs.Readings.{IsReading, and_then, same_values}
use Rattle.message.proofs.Choices.{line_then}
use Rattle.message.proofs.Ends.{then_end}

-- ---- renewals

-- The values of a renewal's lines, in order, are valid, and there are no others.
abbrev IsWholeRenewal : Renewal → Type 0
IsWholeRenewal r = (is_serial r.serial ≡ true) × ((is_end r.after ≡ true) × ((is_end r.before ≡ true) × (r ≡ r)))

renewal_whole : IsReading 0 renewal_in IsWholeRenewal renewal_lines
unfolding renewal_in
renewal_whole =
    line_then 0 _ _ _ (λ r. r.serial) _ _ _
    (number_field is_serial (codes "renew ") refl refl serial_small) 1 refl
    (λ serial _. line_then 1 _ _ _ (λ r. r.after) _ _ _
    (number_field is_end (codes "after ") refl refl end_small) 0 refl
    (λ after _. line_then 2 _ _ _ (λ r. r.before) _ _ _
    (number_field is_end (codes "before ") refl refl end_small) 0 refl
    (λ before _. then_end 3 (record { serial = serial; after = after; before = before }))
    (λ x r e. ap (λ (r : Renewal). r.before) e)) (λ x r p. ap (λ (r : Renewal). r.after) p.1))
    (λ x r p. ap (λ (r : Renewal). r.serial) p.1.1)

-- a text is read as a renewal exactly when it is its text, and a fault is at the first line that fits no renewal
pub renewal_reads : IsReading 0 renewal_in (λ r. is_renewal r ≡ true) renewal_lines
renewal_reads =
    same_values renewal_whole (λ r is. and_from _ _ is.0 (and_from _ _ is.1.0 is.1.1.0))
    (λ r. and_then _ _ (and_then _ _ (λ e. (e, refl))))

-- ---- deliveries

digest_line : (t : List ℕ) → is_digest t ≡ true → Lacks 10 t
digest_line t is = lacks_from is_lower_hex 10 t refl (and_parts _ _ is).1

-- a valid signature
abbrev some_signature : Signature
some_signature = record { bytes = replicate 64 0 }

-- The values of a delivery's lines, in order, are valid, and there are no others.
abbrev IsWholeDelivery : Delivery → Type 0
IsWholeDelivery d =
    (is_serial d.serial ≡ true) × ((is_digest d.digest ≡ true) × ((is_signature d.signature ≡ true) × (d ≡ d)))

delivery_whole : IsReading 0 delivery_in IsWholeDelivery delivery_lines
unfolding delivery_in
delivery_whole =
    line_then 0 _ _ _ (λ d. d.serial) _ _ _
    (number_field is_serial (codes "deliver ") refl refl serial_small) 1 refl
    (λ serial _. line_then 1 _ _ _ (λ d. d.digest) _ _ _
    (text_field (codes "digest ") is_digest refl refl digest_line) (replicate 64 48) refl
    (λ digest _. line_then 2 _ _ _ (λ d. d.signature) _ _ _
    (signature_field (codes "signature ") refl refl) some_signature refl
    (λ signature _. then_end 3 (record { serial = serial; digest = digest; signature = signature }))
    (λ x d e. ap (λ (d : Delivery). d.signature) e)) (λ x d p. ap (λ (d : Delivery). d.digest) p.1))
    (λ x d p. ap (λ (d : Delivery). d.serial) p.1.1)

-- a text is read as a delivery exactly when it is its text, and a fault is at the first line that fits no delivery
pub delivery_reads : IsReading 0 delivery_in (λ d. is_delivery d ≡ true) delivery_lines
delivery_reads =
    same_values delivery_whole (λ d is. and_from _ _ is.0 (and_from _ _ is.1.0 is.1.1.0))
    (λ d. and_then _ _ (and_then _ _ (λ e. (e, refl))))
