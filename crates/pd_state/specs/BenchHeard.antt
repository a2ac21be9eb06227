-- What a request hears of the bench of schedulers, and what it leaves of it (PD documentation, "Scheduling"; pd-ctl, `scheduler show` and `scheduler remove`).
use Rattle.std.specs.Prelude.{◌≡◌, ℕ, max, ◌++◌, Bool, true, false, List, [], ◌∷◌, length, if◌then◌else◌, Option, Some, None, Result, Ok}
use Rattle.std.specs.Str.{bytes_eq}
use Rattle.pd_types.specs.declared.request.Request.{Request}
use Rattle.pd_types.specs.declared.request.Request.TheVariants as ask
use Rattle.rule_fit.specs.Suits.{is_among}
use Rattle.sched_api.specs.Benches.{Drops, Seat, Seats, TakesTurn, Tells, names_of}
use Rattle.sched_api.specs.declared.scheduler.Fate.{Fate}
use Rattle.sched_api.specs.declared.scheduler.Said.{Said}
use Rattle.pd_ctl.specs.declared.command.Command.{Command}
use Rattle.pd_ctl.specs.declared.command.Command.TheVariants as commands
use Rattle.pd_ctl.specs.declared.fault.CtlFault.{CtlFault}
use Rattle.pd_state.specs.Reports.{command_told}
use Rattle.pd_state.specs.Scheduling.{fate}
use Rattle.pd_state.specs.State.{moment_of}
use Rattle.pd_state.specs.Wishing.{region_of}
use Rattle.pd_state.specs.declared.entry.Entry.{Entry}
use Rattle.pd_state.specs.declared.heard.Heard.{Heard}
use Rattle.pd_state.specs.declared.part.Part.{Part}
use Rattle.pd_state.specs.declared.reply.Reply.{Reply}
use Rattle.pd_state.specs.declared.reply.Reply.TheVariants as replies

-- the command is about schedulers
abbrev pub names_by : Result Command CtlFault → Bool
names_by (Ok commands.SchedulerShow) = true
names_by (Ok (commands.SchedulerRemove name)) = true
names_by _ = false

-- the request asks for the names of the schedulers
abbrev pub asks_names : Request → Bool
asks_names (ask.Schedule moment) = true
asks_names (ask.Ctl moment words) = names_by (command_told words)
asks_names _ = false

-- of these names, what a request hears: none where it doesn't ask for them
abbrev pub names_heard : Request → List (List ℕ) → List (List ℕ)
names_heard request names = if asks_names request then names else []

-- one turn, where there is a scheduler
abbrev pub one_turn : List (List ℕ) → ℕ
one_turn [] = 0
one_turn (name ∷ names) = 1

-- how many turns a request lets schedulers take: one in a term, for a request that schedules
abbrev pub turns_of : Option Part → Request → List (List ℕ) → ℕ
turns_of (Some part) (ask.Schedule moment) names = one_turn names
turns_of part request names = 0

-- the name, where one of these is the same
abbrev pub found_name : List ℕ → List (List ℕ) → Option (List ℕ)
found_name name names = if is_among name names then Some name else None

-- the name that a command takes out of these
abbrev pub dropped_by : Result Command CtlFault → List (List ℕ) → Option (List ℕ)
dropped_by (Ok (commands.SchedulerRemove name)) names = found_name name names
dropped_by _ names = None

-- the name that a request takes out of these, in a term
abbrev pub dropped : Option Part → Request → List (List ℕ) → Option (List ℕ)
dropped (Some part) (ask.Ctl moment words) names = dropped_by (command_told words) names
dropped part request names = None

-- the names without the first that is this one
abbrev pub without_first : List ℕ → List (List ℕ) → List (List ℕ)
without_first name [] = []
without_first name (one ∷ names) = if bytes_eq one name then names else one ∷ without_first name names

-- the names that are left
abbrev pub names_left : Option (List ℕ) → List (List ℕ) → List (List ℕ)
names_left None names = names
names_left (Some name) names = without_first name names

-- the clock with which a request lets a scheduler propose: the cluster's, once it has the request's own moment; without a term none proposes
abbrev pub asked_at : Option Part → Request → ℕ
asked_at (Some part) request = max part.clock (moment_of request)
asked_at None request = moment_of request

-- what the scheduler is told that proposed: what became of its proposal, by the reply; one that proposed nothing is told nothing
abbrev pub fate_told : Reply → Option Fate
fate_told (replies.Proposed name proposal came) = Some (fate came (region_of proposal))
fate_told reply = None

-- the bench once the scheduler asked last was told this; where there is nothing to tell it stays
abbrev pub IsTold : Option Fate → Seats → Seats → Type 0
IsTold None old new = new ≡ old
IsTold (Some fate) old new = Tells fate old new

-- a whole turn: the scheduler whose turn it was was asked with this clock and said this, and was then told what there is to tell it
pub record Turned (now : ℕ) (fate : Option Fate) (said : Said) (old new : Seats) : Type 0 where
  pub asked : Seats
  pub turn : TakesTurn old asked now said
  pub told : IsTold fate asked new

-- the scheduler that said this was asked with this clock, and this is what it was told since
pub record HasHeard (now : ℕ) (fate : Option Fate) (said : Said) (one : Seat) : Type 0 where
  pub name : one.name ≡ said.name
  pub last : one.last ≡ said.proposal
  pub at : one.at ≡ now
  pub heard : one.heard ≡ fate

-- the bench once the first scheduler of a name was taken out of it; without a name it stays
abbrev pub Leaves : Option (List ℕ) → Seats → Seats → Type 0
Leaves (Some name) old new = Drops name old new
Leaves None old new = new ≡ old

-- the bench once it said this, asked with this clock and told this fate, or once a scheduler was taken out of it
abbrev pub Becomes : ℕ → Option Fate → List Said → Option (List ℕ) → Seats → Seats → Type 0
Becomes now fate (said ∷ more) name old new = Turned now fate said old new
Becomes now fate [] name old new = Leaves name old new

-- What a request heard of a bench and left of it: as many answers as it lets schedulers take turns, the names where it asks for them, and the bench as they leave it
pub record HearsBench (part : Option Part) (request : Request) (reply : Reply) (heard : Heard) (old new : Seats) : Type 0 where
  pub turns : length heard.bench ≡ turns_of part request heard.names
  pub names : heard.names ≡ names_heard request (names_of old)
  pub becomes : Becomes (asked_at part request) (fate_told reply) heard.bench (dropped part request heard.names) old new

-- An entry was made over a bench: it heard the names where it asked for them; a scheduler that it let propose was asked with the cluster's clock and told what
-- became of just that proposal; what the bench said grew by just what the entry heard of it; the names stay, but for the first of the name that it took out
pub record OverBench (part : Option Part) (entry : Entry) (old new : Seats) : Type 0 where
  pub names : entry.names ≡ names_heard entry.request (names_of old)
  pub becomes : Becomes (asked_at part entry.request) (fate_told entry.reply) entry.bench (dropped part entry.request entry.names) old new
  pub said : new.said ≡ old.said ++ entry.bench
  pub left : names_of new ≡ names_left (dropped part entry.request entry.names) (names_of old)
