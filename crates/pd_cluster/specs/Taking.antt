-- In which order stores take the messages of a driver's cluster, said of all that was sent and of all that stores were answered, looked back over (that 64 messages
-- wait for a store at most is our own choice: a step is sent again at each heartbeat until it is finished). In each list the latest stands first.
use Rattle.std.specs.Prelude.{◌≡◌, ℕ, ◌+◌, Bool, false, ◌&&◌, ◌||◌, nat_eq, nat_lt, List, [], ◌∷◌, ◌++◌, length, Option, Some, None, if◌then◌else◌}
use Rattle.pd_types.specs.declared.oracle.Actor.{Actor}
use Rattle.pd_types.specs.declared.oracle.Actor.TheVariants.{Driver, Client, Store}
use Rattle.pd_types.specs.declared.step.StepMsg.{StepMsg}
use Rattle.pd_script.specs.declared.act.Act.{Act}
use Rattle.pd_script.specs.declared.act.Act.TheVariants.{Ask, Pop}
use Rattle.pd_script.specs.declared.act.Line.{Line}
use Rattle.pd_script.specs.declared.script.Script.{Script}
use Rattle.pd_cluster.specs.Replay.{State, Turned, line_step, past_at, start}
use Rattle.pd_cluster.specs.Streams.{Waiting, last_sends, left_by, oldest_in, with_message}
use Rattle.pd_cluster.specs.Talks.{Talk}
use Rattle.pd_cluster.specs.declared.said.Said.{Said}
use Rattle.pd_cluster.specs.declared.said.Said.TheVariants.{ByOracle, ByCluster, Popped}
use Rattle.pd_cluster.specs.declared.streams.TheConstants.{MOST_MESSAGES}

-- the cluster sent a message, or a store that asked for one was answered this: a message, or that none waits
pub data Event : Type 0 where
  Sent : StepMsg → Event
  Answered : ℕ → Option StepMsg → Event

-- the actor is this store
abbrev pub is_store : ℕ → Option Actor → Bool
is_store store None = false
is_store store (Some (Driver driver)) = false
is_store store (Some (Client client)) = false
is_store store (Some (Store other)) = nat_eq store other

-- the store acts in one of these lines
abbrev pub acts_in : List Line → ℕ → Bool
acts_in [] store = false
acts_in (line ∷ lines) store = is_store store line.actor || acts_in lines store

-- the messages that the store took
abbrev pub taken_by : ℕ → List Event → List StepMsg
taken_by store [] = []
taken_by store (Sent message ∷ past) = taken_by store past
taken_by store (Answered other None ∷ past) = taken_by store past
taken_by store (Answered other (Some message) ∷ past) = if nat_eq store other then message ∷ taken_by store past else taken_by store past

-- a message is kept for the store: it is to this store, which acts in the lines, and fewer than 64 wait of what was kept, where this was taken
abbrev pub is_kept : List Line → ℕ → StepMsg → List StepMsg → List StepMsg → Bool
is_kept lines store message kept taken = nat_eq store message.to && (acts_in lines store && nat_lt (length kept) (length taken + MOST_MESSAGES))

-- what was kept for the store
abbrev pub kept_for : List Line → ℕ → List Event → List StepMsg
kept_for lines store [] = []
kept_for lines store (Sent message ∷ past) =
    if is_kept lines store message (kept_for lines store past) (taken_by store past) then message ∷ kept_for lines store past else kept_for lines store past
kept_for lines store (Answered other answer ∷ past) = kept_for lines store past

-- What a store has to be answered behind these events: the oldest message that was kept for it and that it didn't take, so that what it took stays the oldest
-- part of what was kept; and that none waits exactly where it took all
abbrev pub IsDue : List Line → List Event → ℕ → Option StepMsg → Type 0
IsDue lines past store None = kept_for lines store past ≡ taken_by store past
IsDue lines past store (Some message) = (newer : List StepMsg) × (kept_for lines store past ≡ newer ++ message ∷ taken_by store past)

-- each store was answered what it had to be, by what had happened before
abbrev pub AreInOrder : List Line → List Event → Type 0
AreInOrder lines [] = Unit {0}
AreInOrder lines (Sent message ∷ past) = AreInOrder lines past
AreInOrder lines (Answered store answer ∷ past) = IsDue lines past store answer × AreInOrder lines past

-- the streams after these events
abbrev pub streams_after : Waiting → List Event → Waiting
streams_after opening [] = opening
streams_after opening (Sent message ∷ past) = with_message (streams_after opening past) message
streams_after opening (Answered store answer ∷ past) = left_by (streams_after opening past) store

-- each store was answered by the streams
abbrev pub AreByStreams : Waiting → List Event → Type 0
AreByStreams opening [] = Unit {0}
AreByStreams opening (Sent message ∷ past) = AreByStreams opening past
AreByStreams opening (Answered store answer ∷ past) = (answer ≡ oldest_in (streams_after opening past) store) × AreByStreams opening past

-- with messages that were sent one after another
abbrev pub with_sent : List StepMsg → List Event → List Event
with_sent [] past = past
with_sent (message ∷ messages) past = with_sent messages (Sent message ∷ past)

-- with what a store was answered
abbrev pub with_said : ℕ → Said → List Event → List Event
with_said store (Popped answer) past = Answered store answer ∷ past
with_said store (ByOracle reply) past = past
with_said store (ByCluster reply) past = past

-- with what a line adds at a driver: what the entry that it made of the driver's journal sent, or what a store was answered there
abbrev pub with_line : ℕ → Act → Turned → List Event → List Event
with_line driver (Ask other request) turned past = if nat_eq other driver then with_sent (last_sends (past_at turned.after.kept.journals driver)) past else past
with_line driver (Pop store other) turned past = if nat_eq other driver then with_said store turned.said past else past
with_line driver _ turned past = past

-- what happened at a driver with these lines, over what happened before
abbrev pub events_from : ℕ → State → List Line → List Event → List Event
events_from driver state [] past = past
events_from driver state (line ∷ lines) past = events_from driver (line_step state line).after lines (with_line driver line.act (line_step state line) past)

-- what happened at a driver in the replay of a script, where the benches say this
abbrev pub events_at : List Talk → Script → ℕ → List Event
events_at talks script driver = events_from driver (start talks script) script.lines []
