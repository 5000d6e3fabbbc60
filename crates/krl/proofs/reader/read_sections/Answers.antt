use Rattle.krl.proofs.Words.{Bool, IsReadSection, section_revokes, section_text, subst, sym, ◌||◌}
use Rattle.text.proofs.ByteLemmas.{IsBytes_left}
use Rattle.krl.proofs.Items.{SoFar, so_far_more}
use Rattle.krl.proofs.reader.read_sections.Goals as goal

pub loop-cursor-preserved : goal.loop-cursor-preserved
loop-cursor-preserved c =
    let section = c.in_ok-revoked.ensures.found in
    let test = section_revokes c.args.blob.now c.args.serial c.args.key_id.now in
    record {
      bytes_left =
          IsBytes_left c.loop-cursor.cursor
          (section_text section.0) c.read_section.new.cursor c.loop-cursor.invariant.bytes_left section.2;
      so_far =
          subst (λ (b : Bool). SoFar section_text IsReadSection test c.args.cursor.now c.read_section.new.cursor
          (c.loop-cursor.revoked || b)) (sym section.3)
          (so_far_more section_text IsReadSection test c.args.cursor.now c.loop-cursor.cursor c.read_section.new.cursor
          c.loop-cursor.revoked section.0 c.loop-cursor.invariant.so_far section.1 section.2);
    }
