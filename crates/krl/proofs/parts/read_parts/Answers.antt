use Rattle.krl.proofs.Words.{Bool, IsReadPart, names, part_text, subst, sym, ◌||◌}
use Rattle.text.proofs.ByteLemmas.{IsBytes_left}
use Rattle.krl.proofs.Items.{SoFar, so_far_more}
use Rattle.krl.proofs.parts.read_parts.Goals as goal

pub loop-cursor-preserved : goal.loop-cursor-preserved
loop-cursor-preserved c =
    let part = c.in_ok-named.ensures.found in
    let test = names c.args.serial c.args.key_id.now in
    record {
      bytes_left =
          IsBytes_left c.loop-cursor.cursor
          (part_text part.0) c.read_part.new.cursor c.loop-cursor.invariant.bytes_left part.2;
      so_far =
          subst (λ (b : Bool). SoFar part_text IsReadPart test c.args.cursor.now c.read_part.new.cursor
          (c.loop-cursor.named || b)) (sym part.3)
          (so_far_more part_text IsReadPart test c.args.cursor.now c.loop-cursor.cursor c.read_part.new.cursor
          c.loop-cursor.named part.0 c.loop-cursor.invariant.so_far part.1 part.2);
    }
