use Rattle.std.proofs.Common.{◌≡◌, ℕ, List, [], ◌∷◌, ◌++◌, codes, decimal, length, ap, append_assoc, sym, ◌∙◌}
use Rattle.lines.proofs.Pieces.{writes_as, writes_failed, writes_stop, writes_then}
use Rattle.web.specs.declared.exchange.Given.{Given}
use Rattle.web.specs.declared.exchange.Given.TheVariants.{Answer}
use Rattle.exchanges.specs.Printing.{given_text}
use Rattle.exchanges.proofs.printing.print_one.Goals as goal

-- the line before a response
head : List ℕ → List ℕ
head response = codes "answer " ++ (decimal (length response) ++ 10 ∷ [])

-- that line and the response are the text of the response
is_text : (given : Given) (response looked : List ℕ) → given ≡ Answer response → looked ≡ response
    → head looked ++ looked ≡ given_text given
unfolding head
is_text given response looked is same =
    append_assoc (codes "answer ") (decimal (length looked) ++ 10 ∷ []) looked
    ∙ ap (λ (t : List ℕ). codes "answer " ++ t) (append_assoc (decimal (length looked)) (10 ∷ []) looked)
    ∙ ap (λ (t : List ℕ). given_text (Answer t)) same ∙ ap given_text (sym is)

pub returns-in_err-print_head-in-Answer : goal.returns-in_err-print_head-in-Answer
unfolding head
returns-in_err-print_head-in-Answer g c =
    let looked : List ℕ = c.as_slice-response.result.now in
    writes_failed c.from_residual.result _ _ _ c.from_residual.ensures.0
    (writes_as (is_text c.args.given.now c.in-Answer.response looked c.in-Answer.is c.as_slice-response.ensures)
    (writes_stop _ _ (head looked) looked c.in_err-print_head-in-Answer.ensures))

pub returns-in_ok-print_head-in-Answer : goal.returns-in_ok-print_head-in-Answer
unfolding head
returns-in_ok-print_head-in-Answer g c =
    let looked : List ℕ = c.as_slice-response.result.now in
    writes_as (is_text c.args.given.now c.in-Answer.response looked c.in-Answer.is c.as_slice-response.ensures)
    (writes_then _ _ _ _ (head looked) looked c.in_ok-print_head-in-Answer.ensures c.print_piece.ensures)
