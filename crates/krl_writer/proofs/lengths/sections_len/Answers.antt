use Rattle.krl.proofs.Words.{List, ap, arith, section_length, sum_by, sym, take_all, ◌+◌, ◌∙◌}
use Rattle.krl.specs.declared.ca_part.CaPart.{CaPart}
use Rattle.krl.proofs.LengthLaws.{sections_length}
use Rattle.krl_writer.proofs.lengths.sections_len.Goals as goal

pub returns : goal.returns
returns c =
    let all = take_all c.loop-part.part-index c.args.parts.now (omega arith) in (
      rw all at c.loop-part.invariant.fit,
      c.loop-part.invariant.so_far ∙ ap (λ (cas : List CaPart). 44 + sum_by (section_length c.args.ids.now) cas) all
          ∙ ap (λ n. 44 + n) (sym (sections_length c.args.parts.now c.args.ids.now)),
    )
