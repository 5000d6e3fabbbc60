use Rattle.cert.proofs.Words.{CertFault, List, None, Ok, Option, Pair, Some, ap, or_fault}
use Rattle.cert.proofs.Words.{◌≡◌}
use Rattle.cert.proofs.OptionLaws.{options_of_ascend}
use Rattle.cert.proofs.body_reader.read_options.Goals as goal

-- what was read without a fault
read_is : (fault : CertFault) (read : Option (List Pair)) (ps : List Pair) → or_fault fault read ≡ Ok ps → read ≡ Some ps
read_is fault None ps e = absurd cc
read_is fault (Some qs) ps e = let same : qs ≡ ps = cc in ap Some same

pub from_pairs-requires : goal.from_pairs-requires
from_pairs-requires c =
    options_of_ascend c.args.field c.args.kind _ c.in_ok-pairs.pairs
    (read_is _ _ c.in_ok-pairs.pairs c.in_ok-pairs.ensures)
