-- The texts that are printed.
use Rattle.std.specs.Prelude.{ℕ, List, [], ◌∷◌, ◌++◌, codes}
use Rattle.std.specs.Fmt.{decimal}
use Rattle.web.specs.declared.serve_fault.ServeFault.{ServeFault}
use Rattle.web.specs.declared.serve_fault.ServeFault.TheVariants as serve
use Rattle.server.specs.declared.connection_fault.Fault.{Fault}
use Rattle.server.specs.declared.connection_fault.Fault.TheVariants.{Socket, Clock, Serving}
use Rattle.server.specs.declared.connection_fault.SelftestFault.{SelftestFault}
use Rattle.server.specs.declared.connection_fault.SelftestFault.TheVariants.{Unserved, Mismatch}

abbrev pub serve_fault_name : ServeFault → List ℕ
serve_fault_name serve.Read = codes "Read"
serve_fault_name serve.Nonces = codes "Nonces"
serve_fault_name serve.Store = codes "Store"
serve_fault_name serve.NoMemory = codes "NoMemory"
serve_fault_name serve.Write = codes "Write"

abbrev pub fault_name : Fault → List ℕ
fault_name Socket = codes "Socket"
fault_name Clock = codes "Clock"
fault_name (Serving fault) = serve_fault_name fault

abbrev pub selftest_fault_name : SelftestFault → List ℕ
selftest_fault_name (Unserved fault) = fault_name fault
selftest_fault_name Mismatch = codes "Mismatch"

-- the line for a connection's fault; connections are counted from 1
abbrev pub connection_line : ℕ → Fault → List ℕ
connection_line number fault = codes "sshoffice: connection " ++ (decimal number ++ 32 ∷ (fault_name fault ++ 10 ∷ []))

-- the line if there was no memory to serve anybody
abbrev pub no_memory_line : List ℕ
no_memory_line = codes "sshoffice: NoMemory\n"

-- the line for the port on which a server listens
abbrev pub listening_line : ℕ → List ℕ
listening_line port = codes "listening " ++ (decimal port ++ 10 ∷ [])
