use Rattle.krl.proofs.Words.{AreRuns, AreShortest, serial_parts}
use Rattle.krl.specs.declared.ca_part.CaPart.{CaPart}
use Rattle.std.proofs.lemmas.List.Elements.{recursion_from_All, All-weaker}
use Rattle.krl.proofs.Publishing.{only_cut, revokes_exactly}
use Rattle.krl.proofs.ShortestParts.{are_shortest}
use Rattle.krl_writer.proofs.writer.write_krl.Goals as goal

abbrev HasRuns : CaPart → Type 0
HasRuns p = AreRuns p.runs

pub returns-clause-one_cut : goal.returns-clause-one_cut
returns-clause-one_cut g c =
    let done = c.in_ok-write_list.ensures in
    only_cut c.args.head.now c.args.parts.now c.args.ids.now done.version done.date
    (recursion_from_All HasRuns c.args.parts.now done.lawful) c.requires.fits

pub returns-clause-exact : goal.returns-clause-exact
returns-clause-exact g c =
    revokes_exactly c.args.head.now c.args.parts.now c.args.ids.now
    (recursion_from_All HasRuns c.args.parts.now c.in_ok-write_list.ensures.lawful)

pub returns-clause-shortest : goal.returns-clause-shortest
returns-clause-shortest g c =
    All-weaker HasRuns (λ (p : CaPart). AreShortest (serial_parts p.runs) p.runs) (λ p is. are_shortest p.runs is)
    c.args.parts.now c.in_ok-write_list.ensures.lawful
