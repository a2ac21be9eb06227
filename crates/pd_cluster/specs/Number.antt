-- The status of a program by its number.
use Rattle.std.specs.Prelude.{ℕ}
use Rattle.pd_cluster.specs.declared.status.Status.{Status}
use Rattle.pd_cluster.specs.declared.status.Status.TheVariants.{Done, Usage, Refused, ReadFault, WriteFault, NoMemory, Limit}

-- the exit status of the process
abbrev pub status_number : Status → ℕ
status_number Done = 0
status_number Usage = 1
status_number Refused = 2
status_number ReadFault = 3
status_number WriteFault = 4
status_number NoMemory = 5
status_number Limit = 6
