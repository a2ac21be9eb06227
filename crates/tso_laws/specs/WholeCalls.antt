-- What a whole call of an actor at rest answers, exactly when, and what it leaves: over the words as they stand before it, without a step between (PD documentation, "Timestamp Oracle"; the answers are own choice).
use Rattle.std.specs.Prelude.{◌≡◌, ◌≢◌, ℕ, ◌+◌, ◌*◌, ◌/◌, ◌%◌, ◌<◌, ◌≤◌, max, Bool, true, false, Some, None, List, [], ◌∷◌, ◌++◌, map, slice_index}
use Rattle.pd_types.specs.declared.oracle.Actor.{Actor}
use Rattle.pd_types.specs.declared.oracle.Actor.TheVariants.{Driver, Client}
use Rattle.pd_types.specs.declared.oracle.Batch.{Batch}
use Rattle.pd_types.specs.declared.oracle.CellWord.{CellWord}
use Rattle.pd_types.specs.declared.oracle.Seen.{Seen}
use Rattle.pd_types.specs.declared.oracle.Window.{Window}
use Rattle.pd_types.specs.declared.stamp.TheConstants.{LOGICAL}
use Rattle.pd_types.specs.declared.oracle.TheConstants.{CLOCK_END, LAST_TERM}
use Rattle.tso_model.specs.Words.{packed, cell_of, limit_at, cursor_at, window, passes}
use Rattle.tso_model.specs.Plan.{lead_next, tick_next}
use Rattle.tso_model.specs.Steps.{held, hand}
use Rattle.tso_model.specs.Ledger.{place}
use Rattle.tso_model.specs.declared.plan.TheConstants.{AHEAD_MS}
use Rattle.tso_core.specs.declared.reply.Kind.{Kind}
use Rattle.tso_core.specs.declared.reply.Kind.TheVariants.{Read, Campaign, Save, Probe, Raise, Publish, Resign, Look, Arm, Draw}
use Rattle.tso_core.specs.declared.reply.Due.TheVariants.{Rest}
use Rattle.tso_core.specs.declared.reply.Reply.{Reply}
use Rattle.tso_core.specs.declared.reply.Reply.TheVariants.{Won, Lost, TermsSpent, ClockRange, Moved, Idle, NotLeading, Resigned, Got, Again, NotLeader, Stale, Told, Heard, Nothing, CellRead, Claimed, Beaten, Saved, Probed, Raised, Published, Looked, Armed}
use Rattle.tso_core.specs.Whole.{Whole, place_of_client, view_at, post_at}
use Rattle.tso_core.specs.Steps.{Stepped, due_of, step_of}
use Rattle.tso_core.specs.Rows.{lead_of, tick_of, resigned_of, take_of}
use Rattle.tso_core.specs.Notes.{tell_of, hear_of}
use Rattle.tso_core.specs.Sound.{HasDriver, HasClient}
use Rattle.tso_core.specs.Asked.{IsCount}
use Rattle.tso_laws.specs.Laws.{Step, played, seen_at}

-- the call leaves what these steps of the actor leave, one after another
abbrev pub IsRow : Whole → Actor → List Kind → Stepped → Type 0
IsRow w actor kinds r = r.after ≡ played w (map (Step actor) kinds)

-- the saved time and the last term
abbrev pub cell_at : Whole → CellWord
cell_at w = cell_of (slice_index w.words 0)

-- the cursor of the driver d
abbrev pub cursor_of : Whole → ℕ → ℕ
cursor_of w d = slice_index w.words (cursor_at d)

-- the limit that clients find at the driver d, 0 for none
abbrev pub limit_of : Whole → ℕ → ℕ
limit_of w d = slice_index w.words (limit_at d)

-- What a call of a driver can change
pub record DriverState : Type 0 where
  pub cell : CellWord
  pub limit : ℕ
  pub cursor : ℕ
  -- the windows of the run
  pub windows : List Window
  -- it holds a term, that of its latest window
  pub holds : Bool
  pub window : Window

-- these, of the driver d
abbrev pub driver_state : Whole → ℕ → DriverState
driver_state w d = record {
  cell = cell_at w;
  limit = limit_of w d;
  cursor = cursor_of w d;
  windows = w.windows;
  holds = (view_at w d).holds;
  window = held (view_at w d);
}

-- All else stays: the other words and actors, the notes and the batches; the driver is at rest again
pub record LeavesOthers (w : Whole) (d : ℕ) (u : Whole) : Type 0 where
  pub setup : u.setup ≡ w.setup
  pub words : (i : ℕ) → i ≢ 0 → i ≢ limit_at d → i ≢ cursor_at d
      → slice_index u.words i ≡ slice_index w.words i
  pub views : (id : ℕ) → id ≢ d → view_at u id ≡ view_at w id
  pub turns : u.turns ≡ w.turns
  pub posts : u.posts ≡ w.posts
  pub batches : u.batches ≡ w.batches

-- A call of the driver d that makes these steps, answers this, and leaves this of what it can change
pub record Answers (w : Whole) (d : ℕ) (kinds : List Kind) (reply : Reply) (state : DriverState) (r : Stepped) :
    Type 0 where
  pub row : IsRow w (Driver d) kinds r
  pub reply_is : r.reply ≡ reply
  pub state_is : driver_state r.after d ≡ state
  pub others : LeavesOthers w d r.after

-- a driver without a term is told so, and nothing changes
abbrev pub NotLeads : Whole → Stepped → Type 0
NotLeads w r = r ≡ record { reply = NotLeading; after = w }

-- the state of a driver that won the next term, with a window from this start on for 3,000 milliseconds
abbrev pub winner : Whole → ℕ → ℕ → DriverState
winner w d start = record {
  cell = record { saved = start + AHEAD_MS; term = (cell_at w).term + 1 };
  limit = packed (start + AHEAD_MS) ((cell_at w).term + 1);
  cursor = max (cursor_of w d) (start * LOGICAL);
  windows = w.windows ++ window ((cell_at w).term + 1) d start (start + AHEAD_MS) ∷ [];
  holds = true;
  window = window ((cell_at w).term + 1) d start (start + AHEAD_MS);
}

-- where a lead begins at this moment
abbrev pub start_of : Whole → ℕ → ℕ
start_of w now = lead_next (cell_at w).saved now

-- what a lead answers that wins from this start on
abbrev pub won_from : Whole → ℕ → Reply
won_from w start = Won ((cell_at w).term + 1) start (start + AHEAD_MS)

-- A lead of a driver at rest. Its start is the moment, or one millisecond past the saved time where that is later. The last term and then the end of the clock refuse it, and change nothing of this; else it wins
pub record LeadTells (w : Whole) (d now : ℕ) : Type 0 where
  pub spent : (cell_at w).term ≡ LAST_TERM
      → Answers w d (Read now ∷ []) TermsSpent (driver_state w d) (lead_of w d now)
  pub clock : (cell_at w).term ≢ LAST_TERM → CLOCK_END ≤ start_of w now + AHEAD_MS
      → Answers w d (Read now ∷ []) ClockRange (driver_state w d) (lead_of w d now)
  pub won : (cell_at w).term ≢ LAST_TERM → start_of w now + AHEAD_MS < CLOCK_END
      → Answers w d (Read now ∷ Campaign ∷ Save ∷ Raise ∷ Publish ∷ []) (won_from w (start_of w now))
      (winner w d (start_of w now)) (lead_of w d now)

-- the cell is that of the driver's own window
abbrev pub IsOwn : Whole → ℕ → Type 0
IsOwn w d = cell_at w ≡ record { saved = (held (view_at w d)).hi; term = (held (view_at w d)).term }

-- where a tick of the driver d at this moment goes
abbrev pub Goes : Whole → ℕ → ℕ → ℕ → Type 0
Goes w d now next = tick_next (cursor_of w d) (held (view_at w d)).hi now ≡ Some next

-- the state of a driver that raised its cursor to this time
abbrev pub mover : Whole → ℕ → ℕ → DriverState
mover w d next = record (driver_state w d) { cursor = max (cursor_of w d) (next * LOGICAL) }

-- the driver's latest window, with its end 3,000 milliseconds past this time
abbrev pub later_window : Whole → ℕ → ℕ → Window
later_window w d next = record (held (view_at w d)) { hi = next + AHEAD_MS }

-- the state of a driver that made its window longer, which is the last of these windows, and raised its cursor
abbrev pub saver : Whole → ℕ → ℕ → List Window → DriverState
saver w d next older = record {
  cell = record { saved = next + AHEAD_MS; term = (held (view_at w d)).term };
  limit = packed (next + AHEAD_MS) (held (view_at w d)).term;
  cursor = max (cursor_of w d) (next * LOGICAL);
  windows = older ++ later_window w d next ∷ [];
  holds = true;
  window = later_window w d next;
}

-- the state of a driver that holds no term and has no limit any more
abbrev pub loser : Whole → ℕ → DriverState
loser w d = record (driver_state w d) { limit = 0; holds = false }

-- the last window of the run is the driver's own
pub record LastIsOwn (w : Whole) (d : ℕ) (older : List Window) : Type 0 where
  pub last : w.windows ≡ older ++ held (view_at w d) ∷ []

-- the end of the driver's window
abbrev pub end_at : Whole → ℕ → ℕ
end_at w d = (held (view_at w d)).hi

-- A tick of a driver at rest. Where more than a millisecond of its window is left it moves its cursor; else it saves a later end first, where that isn't past the clock, and is lost where the cell is another's by then
pub record TickTells (w : Whole) (d now : ℕ) : Type 0 where
  pub not_leading : (view_at w d).holds ≡ false → NotLeads w (tick_of w d now)
  pub idle : (view_at w d).holds ≡ true → tick_next (cursor_of w d) (end_at w d) now ≡ None
      → Answers w d (Probe now ∷ []) Idle (driver_state w d) (tick_of w d now)
  pub moved : (view_at w d).holds ≡ true → (next : ℕ) → Goes w d now next → next + 1 < end_at w d
      → Answers w d (Probe now ∷ Raise ∷ []) (Moved next (end_at w d)) (mover w d next) (tick_of w d now)
  pub clock : (view_at w d).holds ≡ true → (next : ℕ) → Goes w d now next → end_at w d ≤ next + 1
      → CLOCK_END ≤ next + AHEAD_MS → Answers w d (Probe now ∷ []) ClockRange (driver_state w d) (tick_of w d now)
  pub lost : (view_at w d).holds ≡ true → (next : ℕ) → Goes w d now next → end_at w d ≤ next + 1
      → next + AHEAD_MS < CLOCK_END → ¬ IsOwn w d
      → Answers w d (Probe now ∷ Save ∷ Publish ∷ []) (Lost (cell_at w)) (loser w d) (tick_of w d now)
  pub saved : (view_at w d).holds ≡ true → (next : ℕ) → Goes w d now next → end_at w d ≤ next + 1
      → next + AHEAD_MS < CLOCK_END → IsOwn w d → (older : List Window) × LastIsOwn w d older
      × Answers w d (Probe now ∷ Save ∷ Raise ∷ Publish ∷ []) (Moved next (next + AHEAD_MS)) (saver w d next older)
      (tick_of w d now)

-- A resignation of a driver at rest
pub record ResignTells (w : Whole) (d : ℕ) : Type 0 where
  pub not_leading : (view_at w d).holds ≡ false → NotLeads w (resigned_of w d)
  pub resigned : (view_at w d).holds ≡ true → Answers w d (Resign ∷ []) Resigned (loser w d) (resigned_of w d)

-- What a draw can change: the cursor of the driver, the batches of the run, what the client has seen
pub record DrawState : Type 0 where
  pub cursor : ℕ
  pub batches : List Batch
  pub seen : Seen

-- these, of the client c and the driver d
abbrev pub draw_state : Whole → ℕ → ℕ → DrawState
draw_state w c d = record { cursor = cursor_of w d; batches = w.batches; seen = seen_at w c }

-- All else stays: the other words and actors, the notes and the windows; the client is at rest again
pub record LeavesRest (w : Whole) (c d : ℕ) (u : Whole) : Type 0 where
  pub setup : u.setup ≡ w.setup
  pub words : (i : ℕ) → i ≢ cursor_at d → slice_index u.words i ≡ slice_index w.words i
  pub views : (id : ℕ) → id ≢ place_of_client w c → view_at u id ≡ view_at w id
  pub turns : u.turns ≡ w.turns
  pub posts : u.posts ≡ w.posts
  pub windows : u.windows ≡ w.windows
  pub due : due_of u (Client c) ≡ Rest

-- A draw that makes these steps, answers this, and leaves this of what it can change
pub record Draws (w : Whole) (c d : ℕ) (kinds : List Kind) (reply : Reply) (state : DrawState) (r : Stepped) : Type 0 where
  pub row : IsRow w (Client c) kinds r
  pub reply_is : r.reply ≡ reply
  pub state_is : draw_state r.after c d ≡ state
  pub rest : LeavesRest w c d r.after

-- the n timestamps behind the cursor of the driver d, in the term of its limit
abbrev pub next_batch : Whole → ℕ → ℕ → Batch
next_batch w d n = record { term = limit_of w d % LOGICAL; driver = d; last = cursor_of w d + n; count = n }

-- the state with this batch granted
abbrev pub grantee : Whole → ℕ → ℕ → DrawState
grantee w d n = record {
  cursor = cursor_of w d + n;
  batches = place (next_batch w d n) w.batches;
  seen = record { term = limit_of w d % LOGICAL; last = cursor_of w d + n };
}

-- the term of the driver's limit
abbrev pub limit_term : Whole → ℕ → ℕ
limit_term w d = limit_of w d % LOGICAL

-- the end of the driver's limit
abbrev pub limit_end : Whole → ℕ → ℕ
limit_end w d = limit_of w d / LOGICAL

-- A draw of n by a client at rest: refused where the driver has no limit, then where the limit's term is below the seen one, then where n more than the cursor pass the limit's end or the logical part, each without a change of this; else it gets the next n timestamps
pub record TakeTells (w : Whole) (c d n : ℕ) : Type 0 where
  pub not_leader : limit_of w d ≡ 0
      → Draws w c d (Look d ∷ []) NotLeader (draw_state w c d) (take_of w c d n)
  pub stale : limit_of w d ≢ 0 → limit_term w d < (seen_at w c).term
      → Draws w c d (Look d ∷ []) (Stale (seen_at w c).term) (draw_state w c d) (take_of w c d n)
  pub again : limit_of w d ≢ 0 → (seen_at w c).term ≤ limit_term w d
      → passes (cursor_of w d) (limit_end w d) n ≡ true
      → Draws w c d (Look d ∷ Arm n ∷ []) (Again (cursor_of w d) (limit_end w d) n) (draw_state w c d)
      (take_of w c d n)
  pub got : limit_of w d ≢ 0 → (seen_at w c).term ≤ limit_term w d
      → passes (cursor_of w d) (limit_end w d) n ≡ false
      → Draws w c d (Look d ∷ Arm n ∷ Draw ∷ []) (Got (next_batch w d n)) (grantee w d n) (take_of w c d n)

-- the pairs of the notes that wait for the client c, the oldest first
abbrev pub waits_for : Whole → ℕ → List Seen
waits_for w c = map (λ (note : ℕ). (view_at w note).seen) (post_at w c)

-- notes touch no word, no turn and no list of the run
pub record LeavesRun (w u : Whole) : Type 0 where
  pub setup : u.setup ≡ w.setup
  pub words : u.words ≡ w.words
  pub turns : u.turns ≡ w.turns
  pub windows : u.windows ≡ w.windows
  pub batches : u.batches ≡ w.batches

-- What a client at rest tells: its pair waits for the other then, behind all that waited there
pub record TellTells (w : Whole) (from to : ℕ) : Type 0 where
  pub told : (tell_of w from to).reply ≡ Told
  pub waits : waits_for (tell_of w from to).after to ≡ waits_for w to ++ seen_at w from ∷ []
  pub others : (e : ℕ) → HasClient w.setup e → e ≢ to
      → waits_for (tell_of w from to).after e ≡ waits_for w e
  pub run : LeavesRun w (tell_of w from to).after

-- a client that hears this pair, and leaves these to wait
pub record Hears (w : Whole) (c : ℕ) (pair : Seen) (pairs : List Seen) (r : Stepped) : Type 0 where
  pub reply_is : r.reply ≡ Heard pair
  pub waits : waits_for r.after c ≡ pairs
  pub others : (e : ℕ) → HasClient w.setup e → e ≢ c → waits_for r.after e ≡ waits_for w e
  pub run : LeavesRun w r.after

-- What a client at rest hears: the oldest pair that waits for it, once; nothing where none waits
pub record HearTells (w : Whole) (c : ℕ) : Type 0 where
  pub nothing : waits_for w c ≡ [] → hear_of w c ≡ record { reply = Nothing; after = w }
  pub heard : (pair : Seen) (pairs : List Seen) → waits_for w c ≡ pair ∷ pairs → Hears w c pair pairs (hear_of w c)

-- a single step of the driver d answers with a word as it stands after the step
abbrev pub NamesWord : Whole → ℕ → Reply → Type 0
NamesWord u d (CellRead cell) = cell ≡ cell_at u
NamesWord u d (Claimed term) = term ≡ (cell_at u).term
NamesWord u d (Beaten cell) = cell ≡ cell_at u
NamesWord u d (Saved hi) = hi ≡ (cell_at u).saved
NamesWord u d (Lost cell) = cell ≡ cell_at u
NamesWord u d (Probed cursor) = cursor ≡ cursor_of u d
NamesWord u d (Raised cursor) = cursor ≡ cursor_of u d
NamesWord u d (Published hi) = hi ≡ limit_of u d / LOGICAL
NamesWord u d _ = Unit {0}

-- a single step of a client answers with the limit of this driver, or with its cursor, as it stands after the step
abbrev pub NamesLimit : Whole → ℕ → Reply → Type 0
NamesLimit u d (Looked term hi) = (term ≡ limit_of u d % LOGICAL) × (hi ≡ limit_of u d / LOGICAL)
NamesLimit u d (Armed at) = at ≡ cursor_of u d
NamesLimit u d _ = Unit {0}

-- What single steps answer with, where they are in turn
pub record StepsName (w : Whole) : Type 0 where
  pub driver : (d : ℕ) (kind : Kind) → HasDriver w.setup d
      → NamesWord (step_of w (Driver d) kind).after d (step_of w (Driver d) kind).reply
  pub look : (c d : ℕ) → HasClient w.setup c
      → NamesLimit (step_of w (Client c) (Look d)).after d (step_of w (Client c) (Look d)).reply
  pub arm : (c n : ℕ) → HasClient w.setup c
      → NamesLimit (step_of w (Client c) (Arm n)).after (hand (view_at w (place_of_client w c))).driver
      (step_of w (Client c) (Arm n)).reply

-- so it is with each whole call of an actor at rest
pub record EachWholeCallTells (w : Whole) : Type 0 where
  pub lead : (d now : ℕ) → HasDriver w.setup d → due_of w (Driver d) ≡ Rest → LeadTells w d now
  pub tick : (d now : ℕ) → HasDriver w.setup d → due_of w (Driver d) ≡ Rest → TickTells w d now
  pub resign : (d : ℕ) → HasDriver w.setup d → due_of w (Driver d) ≡ Rest → ResignTells w d
  pub take : (c d n : ℕ) → HasClient w.setup c → HasDriver w.setup d → IsCount n → due_of w (Client c) ≡ Rest
      → TakeTells w c d n
  pub tell : (from to : ℕ) → HasClient w.setup from → HasClient w.setup to → due_of w (Client from) ≡ Rest
      → TellTells w from to
  pub hear : (c : ℕ) → HasClient w.setup c → due_of w (Client c) ≡ Rest → HearTells w c
