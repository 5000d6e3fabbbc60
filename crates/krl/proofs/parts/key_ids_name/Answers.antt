use Rattle.krl.proofs.Words.{Bool, IsString, List, [], arith, bytes_eq, string_text, subst, sym, ℕ, ◌||◌, ◌∙◌, ◌≡◌}
use Rattle.text.proofs.ByteLemmas.{IsBytes_left}
use Rattle.krl.proofs.Items.{SoFar, so_far_more, stops_within, no_items}
use Rattle.krl.proofs.Texts.{string_texts}
use Rattle.krl.proofs.parts.key_ids_name.Goals as goal

pub returns-then-at_end-clause-none : goal.returns-then-at_end-clause-none
returns-then-at_end-clause-none c ids some h e =
    let end : c.new-cursor.result ≡ [] = grind (arith, c.if-at_end.ensures, c.if-at_end.true) in
    no_items string_texts ids some (sym e ∙ sym c.new-cursor.ensures ∙ end)

pub returns-in_default-clause-none : goal.returns-in_default-clause-none
returns-in_default-clause-none c ids some =
    stops_within string_texts (λ i. bytes_eq i c.args.key_id.now) c.args.bytes.now c.loop-cursor.cursor _
    c.loop-cursor.invariant.so_far (λ end. absurd (cc (c.loop-cursor-test.ensures.1 end))) c.in_default.ensures.cut ids

pub loop-cursor-preserved : goal.loop-cursor-preserved
loop-cursor-preserved c =
    let test : List ℕ → Bool = λ i. bytes_eq i c.args.key_id.now in
    let found = c.in-Some.ensures.found in
    record {
      bytes_left = IsBytes_left _ (string_text c.in-Some.next.now) _ c.loop-cursor.invariant.bytes_left found.1;
      so_far =
          subst (λ (b : Bool). SoFar string_text IsString test c.args.bytes.now c.next_string.new.cursor
          (c.loop-cursor.named || b)) (sym c.is_same-named.ensures)
          (so_far_more string_text IsString test c.args.bytes.now _ _ c.loop-cursor.named c.in-Some.next.now
          c.loop-cursor.invariant.so_far found.0 found.1);
    }
