use Rattle.krl.proofs.Words.{All, AreRuns, List, ap, arith, flat_map, list_all, part_fits, refl, subst}
use Rattle.krl.specs.declared.ca_part.CaPart.{CaPart}
use Rattle.krl.proofs.Words.{take_all, writes_as, writes_failed, writes_more, writes_part, ◌∙◌}
use Rattle.std.proofs.lemmas.List.Recursion.{and_at}
use Rattle.std.proofs.lemmas.List.Elements.{All-more}
use Rattle.krl.proofs.WritingLaws.{sections_text, all_sections}
use Rattle.krl_writer.proofs.writer.write_sections.Goals as goal

pub write_part-requires-clause-fits : goal.write_part-requires-clause-fits
write_part-requires-clause-fits g c =
    rw c.part-item.is
    (and_at (list_all (part_fits c.args.ids.now)) (part_fits c.args.ids.now) refl
    (λ _ _. refl) c.args.parts.now c.loop-part.part-index c.part-item.result (omega arith) c.requires.fits)

pub returns-in_err-write_part-clause-written : goal.returns-in_err-write_part-clause-written
returns-in_err-write_part-clause-written g c =
    writes_failed c.from_residual.result _ _ _ c.from_residual.ensures.0
    (writes_as (all_sections c.args.parts.now c.args.ids.now)
    (writes_part (sections_text c.args.ids.now) c.args.parts.now c.loop-part.part-index c.part-item.result _ _ _
    (omega arith) c.part-item.is c.loop-part.invariant.written c.in_err-write_part.ensures.written))

pub loop-part-preserved : goal.loop-part-preserved
loop-part-preserved g c = record {
  written =
      writes_more (sections_text c.args.ids.now) c.args.parts.now c.loop-part.part-index c.part-item.result _ _ _
      (omega arith) c.part-item.is c.loop-part.invariant.written c.in_ok-write_part.ensures.written;
  lawful = All-more (λ (p : CaPart). AreRuns p.runs) c.args.parts.now c.loop-part.part-index c.part-item.result
      (omega arith) c.loop-part.invariant.lawful
      (subst (λ (p : CaPart). AreRuns p.runs) c.part-item.is c.in_ok-write_part.ensures.lawful);
}

pub returns-clause-written : goal.returns-clause-written
returns-clause-written g c =
    let all = take_all c.loop-part.part-index c.args.parts.now c.loop-part-test.false in
    writes_as (ap (flat_map (sections_text c.args.ids.now)) all
    ∙ all_sections c.args.parts.now c.args.ids.now) c.loop-part.invariant.written

pub returns-clause-lawful : goal.returns-clause-lawful
returns-clause-lawful g c =
    let all = take_all c.loop-part.part-index c.args.parts.now c.loop-part-test.false in
    subst (λ (cas : List CaPart). All (λ p. AreRuns p.runs) cas) all c.loop-part.invariant.lawful
