use Rattle.std.proofs.Common.{map}
use Rattle.pd_shared.specs.Outlets.{named}
use Rattle.pd_shared.proofs.tests.a_sent_step_is_pushed_to_its_store.Given as goal

-- the metadata of the seat that was just opened, and the streams of the outlets that were just made
abbrev pub ghosts-play : goal.ghosts-play
ghosts-play g a = record { meta = a.seat.turn; streams = map (named 1) a.givers.items }
