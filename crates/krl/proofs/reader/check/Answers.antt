use Rattle.krl.proofs.Words.{IfOk, List, ReadsList, key_blob, subst, ℕ}
use Rattle.krl.proofs.SectionReading.{only_answer, only_fault}
use Rattle.krl.proofs.reader.check.Goals as goal

-- the result of reading, for the CA's blob
found : (c : goal.After-read_list)
    → IfOk c.read_list.result (ReadsList c.args.bytes.now (key_blob c.args.ca.now) c.args.serial c.args.key_id.now)
found c =
    subst (λ (b : List ℕ). IfOk c.read_list.result (ReadsList c.args.bytes.now b c.args.serial c.args.key_id.now))
    c.key_blob_of.ensures c.read_list.ensures.found

pub returns-clause-only : goal.returns-clause-only
returns-clause-only c =
    only_answer c.args.bytes.now (key_blob c.args.ca.now) c.args.serial c.args.key_id.now c.read_list.result
    (found c) c.read_list.ensures.fault

pub returns-clause-only_fault : goal.returns-clause-only_fault
returns-clause-only_fault c =
    only_fault c.args.bytes.now (key_blob c.args.ca.now) c.args.serial c.args.key_id.now c.read_list.result
    (found c) c.read_list.ensures.fault
