-- How a run ends, from what was to be written.
use Rattle.std.proofs.Common.{◌≢◌, inr, ℕ, List, Option, refl}
use Rattle.pd_cluster.specs.Outcome.{Answers, Ends}
use Rattle.pd_cluster.specs.Talks.{Benches}
use Rattle.pd_cluster.specs.declared.command.Command.{Command}
use Rattle.pd_cluster.specs.declared.status.Status.{Status}
use Rattle.pd_cluster.specs.declared.status.Status.TheVariants.{Done, Usage, Refused, ReadFault, WriteFault, NoMemory, Limit}

pub ends : (benches : Benches) (command : Command) (status : Status) (a b c d : Option (List ℕ)) → status ≢ ReadFault → Answers benches command status a b c d → Ends benches command status a b c d
ends benches command Done a b c d no_fault h = h
ends benches command Usage a b c d no_fault h = h
ends benches command Refused a b c d no_fault h = h
ends benches command ReadFault a b c d no_fault h = absurd (no_fault refl)
ends benches command WriteFault a b c d no_fault h = h
ends benches command NoMemory a b c d no_fault h = inr h
ends benches command Limit a b c d no_fault h = h
