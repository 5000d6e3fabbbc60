-- Messages of one line: revocations, and rollovers.
use Rattle.message.proofs.Words.{Err, List, None, Option, Result, Some, [], rest_after, codes, decimal, false}
use Rattle.message.proofs.Words.{is_key_id}
use Rattle.message.proofs.Words.{is_key_line, is_range, is_serial, is_some, key_id_after, key_line_after, key_line_text}
use Rattle.message.proofs.Words.{line, line_of, number_after, option_and_then, or_fault, range_after, range_words, refl}
use Rattle.message.proofs.Words.{serial_small, true, ℕ, ◌>>=◌, ◌∷◌, ◌≡◌}
use Rattle.message.specs.Reading.{one_line_in}
use Rattle.message.proofs.Elements.{key_id_line}
use Rattle.message.proofs.Ends.{one_line}
use Rattle.message.proofs.Fields.{text_field}
use Rattle.message.proofs.KindsInTurn.{has_head}
use Rattle.message.proofs.Keys.{key_field, some_key}
use Rattle.message.proofs.Numbers.{number_field, range_field}
use Rattle.message.proofs.Readings.{IsReading}

pub serial_reads : IsReading 0 (one_line_in (number_after is_serial (codes "revoke-serial "))) (λ n. is_serial n ≡ true)
    (λ n. line (codes "revoke-serial") (decimal n) ∷ [])
serial_reads = one_line _ _ _ (number_field is_serial (codes "revoke-serial ") refl refl serial_small) 1 refl

pub range_reads : IsReading 0 (one_line_in (range_after (codes "revoke-range "))) (λ r. is_range r ≡ true)
    (λ r. line (codes "revoke-range") (range_words r) ∷ [])
range_reads = one_line _ _ _ (range_field (codes "revoke-range ") refl refl) (record { lo = 1; hi = 1 }) refl

pub key_id_reads : IsReading 0 (one_line_in (key_id_after (codes "revoke-keyid "))) (λ k. is_key_id k ≡ true)
    (λ k. line (codes "revoke-keyid") k ∷ [])
key_id_reads =
    one_line _ _ _ (text_field (codes "revoke-keyid ") is_key_id refl refl key_id_line) (codes "a/a") refl

pub rollover_reads : IsReading 0 (one_line_in (key_line_after (codes "rollover "))) (λ k. is_key_line k ≡ true)
    (λ k. line (codes "rollover") (key_line_text k) ∷ [])
rollover_reads = one_line _ _ _ (key_field (codes "rollover ") refl refl) some_key refl

none_after : {A B : Type 0} (f : List ℕ → Option A) (g : A → Result B ℕ) (o : Option (List ℕ)) → is_some o ≡ false
    → (or_fault 1 (option_and_then f o) >>= g) ≡ Err 1
none_after f g None e = refl
none_after f g (Some t) e = absurd cc

-- if line 1 does not begin with `rollover `, there is no rollover
pub no_rollover : (ps : List (List ℕ)) → has_head (codes "rollover ") (line_of 1 ps) ≡ false
    → one_line_in (key_line_after (codes "rollover ")) ps ≡ Err 1
unfolding one_line_in
no_rollover ps e = none_after _ _ (rest_after (codes "rollover ") (line_of 1 ps)) e
