use Rattle.std.proofs.Common.{◌≡◌, map, take}
use Rattle.web.specs.Reports.{pattern_of}
use Rattle.web.proofs.publishing.patterns_of.Given as goal

abbrev pub invariant-loop-rule : goal.invariant-loop-rule
invariant-loop-rule l = l.patterns ≡ map pattern_of (take l.rule-index l.rules)
