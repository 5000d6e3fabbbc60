-- Messages of all kinds: a text is read exactly when it is a message's, and a fault is at the first bad line.
use Rattle.message.proofs.Words.{Message, [], ap, codes, decimal, delivery_lines, department_lines, false, is_delivery}
use Rattle.message.proofs.Words.{is_department, is_issue, is_key_id, is_key_line, is_message, is_range, is_renewal}
use Rattle.message.proofs.Words.{is_serial, issue_lines, key_id_after, key_line_after, key_line_text, line, message_in}
use Rattle.message.proofs.Words.{message_lines, number_after, range_after, range_words, refl, renewal_lines, true, ◌∙◌}
use Rattle.message.proofs.Words.{◌∷◌, ◌≡◌}
use Rattle.message.specs.declared.kinds.Message.TheVariants as message
use Rattle.message.specs.Reading.{delivery_in, department_in, issue_in, one_line_in, one_line_message_in, renewal_in}
use Rattle.message.proofs.Readings.{IsReading, same_values}
use Rattle.message.proofs.KindsInTurn.{Either, IsOf, kind_alone, kind_or}
use Rattle.message.proofs.Departments.{department_reads}
use Rattle.message.proofs.Issues.{issue_reads}
use Rattle.message.proofs.ThreeLines.{delivery_reads, renewal_reads}
use Rattle.message.proofs.OneLines.{key_id_reads, no_rollover, range_reads, rollover_reads, serial_reads}

-- A message of one of the kinds, in the order in which they are tried.
abbrev IsOfSome : Message → Type 0
IsOfSome =
    Either (IsOf (λ d. message.Department d) (λ d. is_department d ≡ true))
    (Either (IsOf (λ i. message.Issue i) (λ i. is_issue i ≡ true))
    (Either (IsOf (λ r. message.Renew r) (λ r. is_renewal r ≡ true))
    (Either (IsOf (λ d. message.Deliver d) (λ d. is_delivery d ≡ true))
    (Either (IsOf (λ n. message.RevokeSerial n) (λ n. is_serial n ≡ true))
    (Either (IsOf (λ r. message.RevokeRange r) (λ r. is_range r ≡ true))
    (Either (IsOf (λ k. message.RevokeKeyId k) (λ k. is_key_id k ≡ true))
    (IsOf (λ k. message.Rollover k) (λ k. is_key_line k ≡ true))))))))

some_read : IsReading 0 message_in IsOfSome message_lines
unfolding one_line_message_in
some_read = (
    kind_or message_lines (codes "department ") (λ d. message.Department d) department_in
    (λ d. is_department d ≡ true) department_lines (λ d. refl) department_reads (λ d. (_, _, refl)) (
    kind_or message_lines (codes "issue ") (λ i. message.Issue i) issue_in
    (λ i. is_issue i ≡ true) issue_lines (λ i. refl) issue_reads (λ i. (_, _, refl)) (
    kind_or message_lines (codes "renew ") (λ r. message.Renew r) renewal_in
    (λ r. is_renewal r ≡ true) renewal_lines (λ r. refl) renewal_reads (λ r. (_, _, refl)) (
    kind_or message_lines (codes "deliver ") (λ d. message.Deliver d) delivery_in
    (λ d. is_delivery d ≡ true) delivery_lines (λ d. refl) delivery_reads (λ d. (_, _, refl)) (
    kind_or message_lines (codes "revoke-serial ") (λ n. message.RevokeSerial n)
    (one_line_in (number_after is_serial (codes "revoke-serial ")))
    (λ n. is_serial n ≡ true) (λ n. line (codes "revoke-serial") (decimal n) ∷ []) (λ n. refl) serial_reads
    (λ n. (_, _, refl)) (
    kind_or message_lines (codes "revoke-range ") (λ r. message.RevokeRange r)
    (one_line_in (range_after (codes "revoke-range ")))
    (λ r. is_range r ≡ true) (λ r. line (codes "revoke-range") (range_words r) ∷ []) (λ r. refl) range_reads
    (λ r. (_, _, refl)) (
    kind_or message_lines (codes "revoke-keyid ") (λ k. message.RevokeKeyId k)
    (one_line_in (key_id_after (codes "revoke-keyid ")))
    (λ k. is_key_id k ≡ true) (λ k. line (codes "revoke-keyid") k ∷ []) (λ k. refl) key_id_reads
    (λ k. (_, _, refl)) (
    kind_alone message_lines (codes "rollover ") (λ k. message.Rollover k)
    (one_line_in (key_line_after (codes "rollover ")))
    (λ k. is_key_line k ≡ true) (λ k. line (codes "rollover") (key_line_text k) ∷ []) (λ k. refl) rollover_reads
    (λ k. (_, _, refl)) no_rollover) refl) refl) refl) refl) refl) refl) refl).reads

-- a text is read as a message exactly when it is its text, and a fault is at the first line that fits no message
pub messages_read : IsReading 0 message_in (λ m. is_message m ≡ true) message_lines
messages_read = same_values some_read to from
  where
    to : (m : Message) → IsOfSome m → is_message m ≡ true
    to m (true, is) = ap is_message is.1 ∙ is.2
    to m (false, (true, is)) = ap is_message is.1 ∙ is.2
    to m (false, (false, (true, is))) = ap is_message is.1 ∙ is.2
    to m (false, (false, (false, (true, is)))) = ap is_message is.1 ∙ is.2
    to m (false, (false, (false, (false, (true, is))))) = ap is_message is.1 ∙ is.2
    to m (false, (false, (false, (false, (false, (true, is)))))) = ap is_message is.1 ∙ is.2
    to m (false, (false, (false, (false, (false, (false, (true, is))))))) = ap is_message is.1 ∙ is.2
    to m (false, (false, (false, (false, (false, (false, (false, is))))))) = ap is_message is.1 ∙ is.2

    from : (m : Message) → is_message m ≡ true → IsOfSome m
    from (message.Department d) is = (true, (d, refl, is))
    from (message.Issue i) is = (false, (true, (i, refl, is)))
    from (message.Renew r) is = (false, (false, (true, (r, refl, is))))
    from (message.Deliver d) is = (false, (false, (false, (true, (d, refl, is)))))
    from (message.RevokeSerial n) is = (false, (false, (false, (false, (true, (n, refl, is))))))
    from (message.RevokeRange r) is = (false, (false, (false, (false, (false, (true, (r, refl, is)))))))
    from (message.RevokeKeyId k) is = (false, (false, (false, (false, (false, (false, (true, (k, refl, is))))))))
    from (message.Rollover k) is = (false, (false, (false, (false, (false, (false, (false, (k, refl, is))))))))
