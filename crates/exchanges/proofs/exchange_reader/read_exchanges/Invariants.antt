use Rattle.std.proofs.Common.{◌≡◌, ◌++◌, length}
use Rattle.exchanges.specs.Exchanges.{AreExchanges, exchanges_text}
use Rattle.exchanges.proofs.exchange_reader.read_exchanges.Given as goal

abbrev pub invariant-loop-rest : goal.invariant-loop-rest
invariant-loop-rest l = record {
  are : AreExchanges l.exchanges.items;
  text : l.file ≡ exchanges_text l.exchanges.items ++ l.rest;
}

abbrev pub decreases-loop-rest : goal.decreases-loop-rest
decreases-loop-rest l = length l.rest
