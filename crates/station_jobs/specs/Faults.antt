-- Which fault of a job each underlying fault becomes, and which faults each step may have.
use Rattle.std.specs.Prelude.{ℕ}
use Rattle.std.specs.declared.io.ErrorKind.{ErrorKind}
use Rattle.std.specs.declared.io.ErrorKind.TheVariants.{OutOfMemory}
use Rattle.lines.specs.declared.key_line.LineFault.{LineFault}
use Rattle.lines.specs.declared.key_line.LineFault.TheVariants as line
use Rattle.guard.specs.declared.policy_fault.PolicyFault.{PolicyFault}
use Rattle.guard.specs.declared.policy_fault.PolicyFault.TheVariants as policy
use Rattle.guard.specs.declared.register.RegisterFault.{RegisterFault}
use Rattle.guard.specs.declared.register.RegisterFault.TheVariants as register
use Rattle.guard.specs.declared.retiring.RetireFault.{RetireFault}
use Rattle.guard.specs.declared.retiring.RetireFault.TheVariants as retiring
use Rattle.station_jobs.specs.declared.station_fault.StationFault.{StationFault}
use Rattle.station_jobs.specs.declared.station_fault.StationFault.TheVariants as fault

-- the fault of a file whose opening or reading ended with an error of this kind
abbrev pub of_file : ErrorKind → StationFault
of_file OutOfMemory = fault.NoMemory
of_file kind = fault.File

-- the fault of a register that didn't answer
abbrev pub of_register : RegisterFault → StationFault
of_register register.Device = fault.Device
of_register register.Damaged = fault.Damaged
of_register register.NoMemory = fault.NoMemory

-- the fault of a last serial that wasn't lowered
abbrev pub of_retiring : RetireFault → StationFault
of_retiring (retiring.Register e) = of_register e
of_retiring retiring.BadSerials = fault.BadSerials
of_retiring retiring.SerialApproved = fault.SerialApproved

-- the fault of a file that isn't a policy
abbrev pub of_policy : PolicyFault → StationFault
of_policy policy.TooLong = fault.File
of_policy (policy.BadPolicy line) = fault.BadPolicy line
of_policy policy.NoMemory = fault.NoMemory

-- the fault of a text that isn't a public-key line
abbrev pub of_line : LineFault → StationFault
of_line line.NoMemory = fault.NoMemory
of_line other = fault.Line other

-- The faults of reading a file.
abbrev pub IsOfAFile : StationFault → Type 0
IsOfAFile fault.File = Unit {0}
IsOfAFile fault.NoMemory = Unit {0}
IsOfAFile other = ⊥

-- The faults of reading bodies from the input.
abbrev pub IsOfAnInput : StationFault → Type 0
IsOfAnInput fault.Input = Unit {0}
IsOfAnInput other = IsOfAFile other

-- The faults of reading an unsigned certificate (body) and the clock.
abbrev pub IsOfABody : StationFault → Type 0
IsOfABody fault.File = Unit {0}
IsOfABody fault.NoMemory = Unit {0}
IsOfABody fault.Clock = Unit {0}
IsOfABody other = ⊥

-- The faults of printing an answer.
abbrev pub IsOfAnAnswer : StationFault → Type 0
IsOfAnAnswer fault.Write = Unit {0}
IsOfAnAnswer fault.NoMemory = Unit {0}
IsOfAnAnswer other = ⊥

-- The faults of reading a policy.
abbrev pub IsOfAPolicy : StationFault → Type 0
IsOfAPolicy fault.File = Unit {0}
IsOfAPolicy fault.NoMemory = Unit {0}
IsOfAPolicy (fault.BadPolicy line) = Unit {0}
IsOfAPolicy other = ⊥

-- The faults of printing a policy.
abbrev pub IsOfAPrintedPolicy : StationFault → Type 0
IsOfAPrintedPolicy fault.Write = Unit {0}
IsOfAPrintedPolicy other = IsOfAPolicy other

-- The faults of reading a key.
abbrev pub IsOfAKey : StationFault → Type 0
IsOfAKey fault.File = Unit {0}
IsOfAKey fault.NoMemory = Unit {0}
IsOfAKey (fault.Line e) = Unit {0}
IsOfAKey other = ⊥

-- The faults of printing the line of a row. It is reported as damaged only if it isn't as a guard writes it.
abbrev pub IsOfARow : (IsWhole : Type 0) → StationFault → Type 0
IsOfARow IsWhole fault.Write = Unit {0}
IsOfARow IsWhole fault.NoMemory = Unit {0}
IsOfARow IsWhole fault.Damaged = IsWhole → ⊥
IsOfARow IsWhole other = ⊥

-- The faults of a register that didn't answer.
abbrev pub IsOfARegister : StationFault → Type 0
IsOfARegister fault.Device = Unit {0}
IsOfARegister fault.Damaged = Unit {0}
IsOfARegister fault.NoMemory = Unit {0}
IsOfARegister other = ⊥

-- The faults of printing the rows of a register.
abbrev pub IsOfRows : StationFault → Type 0
IsOfRows fault.Write = Unit {0}
IsOfRows other = IsOfARegister other

-- The faults of a question: those of the register, and of printing the answer.
abbrev pub IsOfAQuestion : StationFault → Type 0
IsOfAQuestion fault.Write = Unit {0}
IsOfAQuestion other = IsOfARegister other

-- The faults of judging bodies by a policy that was read: those of their files, of the clock, and of the questions.
abbrev pub IsOfBodies : StationFault → Type 0
IsOfBodies fault.File = Unit {0}
IsOfBodies fault.Clock = Unit {0}
IsOfBodies other = IsOfAQuestion other

-- The faults of judging the bodies of an input: the policy is read again for each batch, and `Bad` says at which line it
-- may be invalid.
abbrev pub IsOfJudging : (Bad : ℕ → Type 0) → StationFault → Type 0
IsOfJudging Bad fault.Input = Unit {0}
IsOfJudging Bad (fault.BadPolicy line) = Bad line
IsOfJudging Bad other = IsOfBodies other
