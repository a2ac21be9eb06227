-- What the clusters sent to the stores that act, until those take it (PD sends a step in the answer to a region heartbeat; that 64 messages wait for a store at
-- most, and that no more are kept, is our own choice: a step is sent again at each heartbeat until it is finished).
use Rattle.std.specs.Prelude.{ℕ, nat_lt, Bool, false, List, [], ◌∷◌, ◌++◌, length, Option, Some, None, if◌then◌else◌}
use Rattle.std.specs.FinMap as map
use Rattle.std.specs.Ordering.{nat_cmp}
use Rattle.pd_types.specs.declared.oracle.Actor.{Actor}
use Rattle.pd_types.specs.declared.oracle.Actor.TheVariants.{Driver, Client, Store}
use Rattle.pd_types.specs.declared.step.StepMsg.{StepMsg}
use Rattle.pd_script.specs.declared.act.Line.{Line}
use Rattle.pd_state.specs.declared.entry.Entry.{Entry}
use Rattle.pd_cluster.specs.declared.streams.TheConstants.{MOST_MESSAGES}

-- of one driver: for each store that acts the messages that wait for it, the oldest first
abbrev pub Waiting : Type 0
Waiting = map.FinMap nat_cmp (List StepMsg)

-- with the store that acts in a line, where one does
abbrev pub with_actor : Waiting → Option Actor → Waiting
with_actor waiting None = waiting
with_actor waiting (Some (Driver driver)) = waiting
with_actor waiting (Some (Client client)) = waiting
with_actor waiting (Some (Store store)) = map.insert waiting store []

-- with the stores that act in these lines
abbrev pub with_actors : Waiting → List Line → Waiting
with_actors waiting [] = waiting
with_actors waiting (line ∷ lines) = with_actors (with_actor waiting line.actor) lines

-- no message waits for any store that acts in these lines
abbrev pub waiting_for : List Line → Waiting
waiting_for lines = with_actors map.empty lines

-- the store acts, and fewer than 64 messages wait for it
abbrev pub has_room : Option (List StepMsg) → Bool
has_room None = false
has_room (Some messages) = nat_lt (length messages) MOST_MESSAGES

-- these messages, none where the store doesn't act
abbrev pub messages_in : Option (List StepMsg) → List StepMsg
messages_in None = []
messages_in (Some messages) = messages

-- a message that is sent: it waits behind the others for its store, where that store acts and there is room
abbrev pub with_message : Waiting → StepMsg → Waiting
with_message waiting message =
    if has_room (map.get waiting message.to) then map.insert waiting message.to (messages_in (map.get waiting message.to) ++ message ∷ []) else waiting

-- messages that are sent one after another
abbrev pub with_messages : Waiting → List StepMsg → Waiting
with_messages waiting [] = waiting
with_messages waiting (message ∷ messages) = with_messages (with_message waiting message) messages

-- the first of these, where there is one
abbrev pub first_of : Option (List StepMsg) → Option StepMsg
first_of None = None
first_of (Some []) = None
first_of (Some (message ∷ messages)) = Some message

-- the oldest message that waits for a store
abbrev pub oldest_in : Waiting → ℕ → Option StepMsg
oldest_in waiting store = first_of (map.get waiting store)

-- without the first of these, which wait for the store
abbrev pub without_first : Option (List StepMsg) → Waiting → ℕ → Waiting
without_first None waiting store = waiting
without_first (Some []) waiting store = waiting
without_first (Some (message ∷ messages)) waiting store = map.insert waiting store messages

-- without the oldest message that waits for a store
abbrev pub left_by : Waiting → ℕ → Waiting
left_by waiting store = without_first (map.get waiting store) waiting store

-- what the last entry of a journal sent; the latest entry stands first
abbrev pub last_sends : List Entry → List StepMsg
last_sends [] = []
last_sends (entry ∷ past) = entry.sends
