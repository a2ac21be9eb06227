-- What the entries of a cluster's journal tell of its driver's bench of schedulers (pd-ctl, `scheduler show` and `scheduler remove`).
use Rattle.std.specs.Prelude.{◌≡◌, ◌≤◌, ◌++◌, Bool, false, List, ℕ, Option, Some, None, Result, Ok, codes, if◌then◌else◌}
use Rattle.std.specs.Str.{bytes_eq}
use Rattle.pd_types.specs.declared.request.Request.{Request}
use Rattle.pd_types.specs.declared.request.Request.TheVariants as ask
use Rattle.sched_api.specs.Benches.{Seats, names_of}
use Rattle.pd_ctl.specs.declared.command.Command.{Command}
use Rattle.pd_ctl.specs.declared.command.Command.TheVariants as commands
use Rattle.pd_ctl.specs.declared.fault.CtlFault.{CtlFault}
use Rattle.pd_state.specs.BenchHeard.{Becomes, fate_told, names_heard, names_left}
use Rattle.pd_state.specs.Reports.{command_told}
use Rattle.pd_state.specs.State.{moment_of}
use Rattle.pd_state.specs.declared.entry.Entry.{Entry}
use Rattle.pd_state.specs.declared.reply.Reply.{Reply}
use Rattle.pd_state.specs.declared.reply.Reply.TheVariants as replies

-- the reply tells that a scheduler was removed
abbrev pub tells_removed : Reply → Bool
tells_removed (replies.Report json) = bytes_eq json (codes "{\"done\":\"Removed\"}")
tells_removed _ = false

-- the name of the scheduler that a command removes
abbrev pub name_to_remove : Result Command CtlFault → Option (List ℕ)
name_to_remove (Ok (commands.SchedulerRemove name)) = Some name
name_to_remove _ = None

-- the name of the scheduler that was removed by a request with this reply
abbrev pub removed_with : Request → Reply → Option (List ℕ)
removed_with (ask.Ctl moment words) reply = if tells_removed reply then name_to_remove (command_told words) else None
removed_with request reply = None

-- the name of the scheduler that an entry removed: that of a `scheduler remove` that was answered Removed
abbrev pub removed_name : Entry → Option (List ℕ)
removed_name entry = removed_with entry.request entry.reply

-- An entry was made over a bench: it heard the names where it asked for them; a scheduler that it let propose was asked with a clock that has the request's moment
-- and told what became of just that proposal; what the bench said grew by just what the entry heard of it; the names stay, but for the first of the name that the
-- entry removed
pub record IsOver (entry : Entry) (old new : Seats) : Type 0 where
  pub names : entry.names ≡ names_heard entry.request (names_of old)
  pub now : ℕ
  pub moment : moment_of entry.request ≤ now
  pub becomes : Becomes now (fate_told entry.reply) entry.bench (removed_name entry) old new
  pub said : new.said ≡ old.said ++ entry.bench
  pub left : names_of new ≡ names_left (removed_name entry) (names_of old)
