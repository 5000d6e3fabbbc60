use Rattle.std.proofs.Common.{◌≡◌, ◌<◌, ◌≤◌, ◌++◌, ◌∷◌, [], ◌∙◌, List, ℕ, length, decimal, ap, arith, lit<, lit≤}
use Rattle.std.proofs.Common.{length-append}
use Rattle.std.proofs.lemmas.Fmt.{length-decimal-le}
use Rattle.values.specs.declared.refusal.Refusal.{Refusal}
use Rattle.values.specs.declared.refusal.Refusal.TheVariants.{BadHead}
use Rattle.values.specs.Refusals.{refusal_number, refusal_name}
use Rattle.http_requests.proofs.response.refuse.Goals as goal

-- a refusal's number has at most two digits, and its name at most 16 bytes
short_refusal : (r : Refusal) → (refusal_number r < 100) × (length (refusal_name r) ≤ 16)
short_refusal BadHead = (lit< tt, lit≤ tt)
short_refusal r = (lit< tt, lit≤ tt)

-- five pieces, of which the second and the fourth have at most 2 and 16 bytes
five : (v x y : List ℕ) → length v ≡ 8 → length x ≤ 2 → length y ≤ 16
    → length (v ++ (x ++ 32 ∷ (y ++ 10 ∷ []))) ≤ 28
five v x y a b c = simp length-append (omega arith)

pub respond_in_pieces-requires-clause-space : goal.respond_in_pieces-requires-clause-space
respond_in_pieces-requires-clause-space c =
    let short = short_refusal c.args.refusal in
    let digits = length-decimal-le 2 (refusal_number c.args.refusal) (omega arith) short.0 (omega (arith, short.0)) in
    let number = ap length (c.as_bytes-number.ensures.value ∙ c.format.ensures.text ∙ ap decimal c.number.ensures) in
    let name = ap length (c.as_bytes-name.ensures.value ∙ c.name.ensures) in
    let all = five c.as_slice.result.now c.as_bytes-number.result.now c.as_bytes-name.result.now
    (ap length c.as_slice.ensures) (omega (arith, digits, number)) (omega (arith, name, short.1)) in
    omega (arith, all)
