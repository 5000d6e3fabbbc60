-- What a register in memory has.
use Rattle.guard.specs.Reported.{LastFault}
use Rattle.guard.specs.State.{State}

pub record Memory : Type 0 where
  pub kept : State
  pub reported : LastFault
