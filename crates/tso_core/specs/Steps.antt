-- Each single step with its answer: what it finds decides what the actor does next.
use Rattle.std.specs.Prelude.{ℕ, ◌+◌, ◌*◌, ◌/◌, ◌%◌, max, Bool, true, false, Option, None, Some, nat_eq, nat_lt, ◌==◌, if◌then◌else◌}
use Rattle.pd_types.specs.declared.oracle.CellWord.{CellWord}
use Rattle.pd_types.specs.declared.oracle.Seen.{Seen}
use Rattle.pd_types.specs.declared.oracle.Window.{Window}
use Rattle.pd_types.specs.declared.oracle.Actor.{Actor}
use Rattle.pd_types.specs.declared.oracle.Actor.TheVariants.{Driver, Client, Store}
use Rattle.pd_types.specs.declared.stamp.TheConstants.{LOGICAL}
use Rattle.pd_types.specs.declared.oracle.TheConstants.{LAST_TERM}
use Rattle.tso_model.specs.declared.view.View.{View}
use Rattle.tso_model.specs.declared.entries.Limit.{Limit}
use Rattle.tso_model.specs.declared.step.WordStep.{WordStep}
use Rattle.tso_model.specs.declared.step.WordStep.TheVariants.{LoadCell, ClaimTerm, SaveEnd, RaiseCursor, StoreLimit, ClearLimit, LoadLimit, ArmCount, AddArmed}
use Rattle.tso_model.specs.Words.{packed, cell_of, cell_word, passes}
use Rattle.tso_model.specs.Steps.{held, hand, batch_of}
use Rattle.tso_core.specs.declared.turn.Turn.{Turn}
use Rattle.tso_core.specs.declared.turn.Decided.{Decided}
use Rattle.tso_core.specs.declared.reply.Due.{Due}
use Rattle.tso_core.specs.declared.reply.Due.TheVariants.{Rest, Campaign, Save, Raise, Publish, Arm, Draw}
use Rattle.tso_core.specs.declared.reply.Kind.{Kind}
use Rattle.tso_core.specs.declared.reply.Kind.TheVariants.{Read, Campaign as ToCampaign, Save as ToSave, Probe, Raise as ToRaise, Publish as ToPublish, Resign, Look, Arm as ToArm, Draw as ToDraw}
use Rattle.tso_core.specs.declared.reply.Reply.{Reply}
use Rattle.tso_core.specs.declared.reply.Reply.TheVariants.{Beaten, Lost, TermsSpent, ClockRange, Idle, NotLeading, Resigned, Got, Again, NotLeader, Stale, OutOfTurn, CellRead, Claimed, Saved, Raised, Probed, Published, Looked, Armed}
use Rattle.tso_core.specs.Due.{same_due, due_for, at_rest}
use Rattle.tso_model.specs.Plan.{end_of, past_clock, lead_next, tick_next, saves_for}
use Rattle.tso_core.specs.Whole.{Whole, place_of_client, view_at, turn_at, found_by, made, turned}

-- an answer, and the state after it
pub record Stepped : Type 0 where
  pub reply : Reply
  pub after : Whole

-- nothing changes, and the step that is next is named
abbrev pub out_of_turn : Whole → Due → Stepped
out_of_turn w due = record { reply = OutOfTurn due; after = w }

-- the driver has answered, and stands there
abbrev pub decided : Whole → ℕ → Decided → Stepped
decided w d r = record { reply = r.reply; after = turned w d r.turn }

-- the call ends with this answer
abbrev pub ends : Reply → Decided
ends reply = record { reply = reply; turn = at_rest }

-- this answer is followed by another step
abbrev pub goes : Reply → Due → ℕ → Bool → Decided
goes reply due next publishes = record { reply = reply; turn = record { due = due; next = next; publishes = publishes } }

-- a cell that was read at a moment: a campaign is next where there is a term and a time left
abbrev pub read_decides : CellWord → ℕ → Decided
read_decides cell now =
    if nat_eq cell.term LAST_TERM then ends TermsSpent
    else if past_clock (lead_next cell.saved now) then ends ClockRange
    else goes (CellRead cell) Campaign (lead_next cell.saved now) true

-- a driver reads the cell
abbrev pub read_of : Whole → ℕ → ℕ → Stepped
read_of w d now = decided (made w d LoadCell) d (read_decides (cell_of (found_by w d LoadCell)) now)

-- the next term is claimed where the cell was still the known one, and a save is next
abbrev pub campaign_decides : CellWord → ℕ → ℕ → Decided
campaign_decides known next found =
    if found == cell_word known then goes (Claimed (known.term + 1)) Save next true else ends (Beaten (cell_of found))

-- a driver campaigns
abbrev pub campaign_of : Whole → ℕ → Stepped
campaign_of w d = decided (made w d ClaimTerm) d (campaign_decides (view_at w d).cell (turn_at w d).next (found_by w d ClaimTerm))

-- a later end is saved where the cell was the own window's end and term, and a raise is next; else a publish of 0
abbrev pub save_decides : Window → ℕ → ℕ → Decided
save_decides own next found =
    if found == packed own.hi own.term then goes (Saved (end_of next)) Raise next true else goes (Lost (cell_of found)) Publish 0 false

-- the save that is due for the driver
abbrev pub its_save : Whole → ℕ → WordStep
its_save w d = SaveEnd (end_of (turn_at w d).next)

-- a driver saves
abbrev pub save_of : Whole → ℕ → Stepped
save_of w d = decided (made w d (its_save w d)) d (save_decides (held (view_at w d)) (turn_at w d).next (found_by w d (its_save w d)))

-- the cursor is raised, and a publish is next where the end was saved
abbrev pub raise_decides : Turn → ℕ → Decided
raise_decides turn found = record {
  reply = Raised (max found (turn.next * LOGICAL));
  turn = if turn.publishes then record { due = Publish; next = 0; publishes = true } else at_rest;
}

-- the raise that is due for the driver
abbrev pub its_raise : Whole → ℕ → WordStep
its_raise w d = RaiseCursor ((turn_at w d).next * LOGICAL)

-- a driver raises its cursor
abbrev pub raise_of : Whole → ℕ → Stepped
raise_of w d = decided (made w d (its_raise w d)) d (raise_decides (turn_at w d) (found_by w d (its_raise w d)))

-- the publish that is due for the driver: of its window's end, or of 0 after a lost save
abbrev pub its_publish : Whole → ℕ → WordStep
its_publish w d = if (turn_at w d).publishes then StoreLimit else ClearLimit

-- the end that it answers
abbrev pub its_end : Whole → ℕ → ℕ
its_end w d = if (turn_at w d).publishes then (held (view_at w d)).hi else 0

-- a driver publishes
abbrev pub publish_of : Whole → ℕ → Stepped
publish_of w d = decided (made w d (its_publish w d)) d (ends (Published (its_end w d)))

-- a save is next where at most a millisecond of the held window is left, else a raise
abbrev pub moves_to : ℕ → ℕ → ℕ → Decided
moves_to hi cursor next =
    if saves_for next hi then
    (if past_clock next then ends ClockRange else goes (Probed cursor) Save next true)
    else goes (Probed cursor) Raise next false

-- what a tick does with the cursor that its probe found
abbrev pub goes_to : ℕ → ℕ → Option ℕ → Decided
goes_to hi cursor None = ends Idle
goes_to hi cursor (Some next) = moves_to hi cursor next

-- what a tick does over this held end, at this moment, with this cursor
abbrev pub probe_decides : ℕ → ℕ → ℕ → Decided
probe_decides hi now cursor = goes_to hi cursor (tick_next cursor hi now)

-- a driver with a term reads its cursor at a moment
abbrev pub probe_of : Whole → ℕ → ℕ → Stepped
probe_of w d now =
    if (view_at w d).holds then decided (made w d (RaiseCursor 0)) d (probe_decides (held (view_at w d)).hi now (found_by w d (RaiseCursor 0)))
    else record { reply = NotLeading; after = w }

-- a driver with a term stores 0 and holds none
abbrev pub resign_of : Whole → ℕ → Stepped
resign_of w d =
    if (view_at w d).holds then decided (made w d ClearLimit) d (ends Resigned)
    else record { reply = NotLeading; after = w }

-- what a limit word tells a client that has seen this
abbrev pub looked_reply : ℕ → Seen → Reply
looked_reply word seen =
    if nat_eq word 0 then NotLeader
    else if nat_lt (word % LOGICAL) seen.term then Stale seen.term
    else Looked (word % LOGICAL) (word / LOGICAL)

-- a client loads the limit of a driver, and arms next where that isn't 0 nor of a term below the seen one
abbrev pub look_of : Whole → ℕ → ℕ → Stepped
look_of w c d = record { reply = looked_reply (found_by w (place_of_client w c) (LoadLimit d)) (view_at w (place_of_client w c)).seen; after = made w (place_of_client w c) (LoadLimit d) }

-- what a cursor tells a client that arms n
abbrev pub arm_reply : ℕ → ℕ → ℕ → Reply
arm_reply at hi n = if passes at hi n then Again at hi n else Armed at

-- a client loads the cursor, and draws next where n more fit
abbrev pub arm_of : Whole → ℕ → ℕ → Stepped
arm_of w c n = record {
  reply = arm_reply (found_by w (place_of_client w c) (ArmCount n)) (hand (view_at w (place_of_client w c))).hi n;
  after = made w (place_of_client w c) (ArmCount n);
}

-- what the cursor that a draw finds tells the client
abbrev pub draw_reply : ℕ → View → Reply
draw_reply at v = if passes at (hand v).hi v.armed then Again at (hand v).hi v.armed else Got (batch_of at v)

-- a client adds what it armed, and has the batch where it still fits
abbrev pub draw_of : Whole → ℕ → Stepped
draw_of w c = record {
  reply = draw_reply (found_by w (place_of_client w c) AddArmed) (view_at w (place_of_client w c));
  after = made w (place_of_client w c) AddArmed;
}

-- what is next with this in hand and so much armed
abbrev pub hand_due : Option Limit → ℕ → Due
hand_due None armed = Rest
hand_due (Some limit) armed = if nat_eq armed 0 then Arm else Draw

-- what is next for a client: a look, with a limit in hand an arm, with a count armed a draw
abbrev pub client_due : View → Due
client_due v = hand_due v.hand v.armed

-- what is next for an actor
abbrev pub due_of : Whole → Actor → Due
due_of w (Driver d) = (turn_at w d).due
due_of w (Client c) = client_due (view_at w (place_of_client w c))
due_of w (Store s) = Rest

-- what is next for the client
abbrev pub due_at : Whole → ℕ → Due
due_at w c = client_due (view_at w (place_of_client w c))

-- The table of moves: what the step of a kind is for an actor. Clients look, arm and draw, drivers make all others, and stores none
abbrev pub move_of : Actor → Kind → Option (Whole → Stepped)
move_of (Driver d) (Read now) = Some (λ w. read_of w d now)
move_of (Driver d) ToCampaign = Some (λ w. campaign_of w d)
move_of (Driver d) ToSave = Some (λ w. save_of w d)
move_of (Driver d) (Probe now) = Some (λ w. probe_of w d now)
move_of (Driver d) ToRaise = Some (λ w. raise_of w d)
move_of (Driver d) ToPublish = Some (λ w. publish_of w d)
move_of (Driver d) Resign = Some (λ w. resign_of w d)
move_of (Client c) (Look d) = Some (λ w. look_of w c d)
move_of (Client c) (ToArm n) = Some (λ w. arm_of w c n)
move_of (Client c) ToDraw = Some (λ w. draw_of w c)
move_of actor kind = None

-- the move, or where there is none the refusal at this due
abbrev pub moved_or : Due → Option (Whole → Stepped) → Whole → Stepped
moved_or due None w = out_of_turn w due
moved_or due (Some move) w = move w

-- the step of a kind that comes at the actor's due
abbrev pub due_step : Whole → Actor → Kind → Stepped
due_step w actor kind = moved_or (due_for kind) (move_of actor kind) w

-- one step of any actor: what it is, where it is next for that actor, else nothing
abbrev pub step_of : Whole → Actor → Kind → Stepped
step_of w actor kind = if same_due (due_for kind) (due_of w actor) then due_step w actor kind else out_of_turn w (due_of w actor)
