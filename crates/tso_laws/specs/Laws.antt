-- What is true of every sound state, of every list of calls and of every answer.
use Rattle.std.specs.Prelude.{◌≡◌, ◌≢◌, ℕ, ◌+◌, ◌-◌, ◌*◌, ◌≤◌, max, true, List, [], ◌∷◌, ◌++◌, map, All, Option, None, Some, IfSome, IsTrue, is_some, option_to_list, slice_index, nat_eq, nat_lt, if◌then◌else◌}
use Rattle.pd_types.specs.declared.oracle.Actor.{Actor}
use Rattle.pd_types.specs.declared.oracle.Actor.TheVariants.{Driver, Client, Store}
use Rattle.pd_types.specs.declared.oracle.Batch.{Batch}
use Rattle.pd_types.specs.declared.oracle.Seen.{Seen}
use Rattle.pd_types.specs.declared.oracle.Window.{Window}
use Rattle.pd_types.specs.declared.stamp.TheConstants.{LOGICAL}
use Rattle.tso_model.specs.declared.entries.Claim.{Claim}
use Rattle.tso_model.specs.declared.view.Setup.{Setup}
use Rattle.tso_model.specs.Words.{opening_claim, cell_of, cursor_at, window, passes, last_end}
use Rattle.tso_model.specs.Moves.{greater, nothing_seen}
use Rattle.tso_model.specs.Ledger.{IsWindowList, IsDrawList, place}
use Rattle.tso_model.specs.OneHistory.{IsAbove}
use Rattle.tso_model.specs.declared.plan.TheConstants.{AHEAD_MS}
use Rattle.tso_core.specs.declared.reply.Kind.{Kind}
use Rattle.tso_core.specs.declared.reply.Due.{Due}
use Rattle.tso_core.specs.declared.reply.Due.TheVariants.{Rest, Draw as DrawDue}
use Rattle.tso_core.specs.declared.reply.Reply.{Reply}
use Rattle.tso_core.specs.declared.reply.Reply.TheVariants.{Got, Again, OutOfTurn}
use Rattle.tso_core.specs.Due.{due_for}
use Rattle.tso_core.specs.Whole.{Whole, place_of_client, view_at}
use Rattle.tso_core.specs.Steps.{Stepped, due_of, due_at, draw_of, move_of, step_of}
use Rattle.tso_core.specs.Rows.{lead_of, tick_of, resigned_of, take_of}
use Rattle.tso_core.specs.Notes.{tell_of, hear_of}
use Rattle.tso_core.specs.Says.{OfWindows, Stay, Begin, BeginEmpty, End, HasPassed, says}
use Rattle.tso_core.specs.Sound.{IsSound, HasDriver, HasClient}
use Rattle.tso_core.specs.Asked.{HasActor, IsAsked, IsCount}

-- The windows follow one another from the opening one on, and the batches lie inside windows of their own terms and rise
pub record AreLedger (w : Whole) : Type 0 where
  pub claims : List Claim
  pub windows : w.windows ≡ map (λ (c : Claim). c.window) claims
  pub rise : IsWindowList (opening_claim w.setup.cell) claims
  pub draws : IsDrawList claims w.batches

-- a cursor stands at most 64 milliseconds past the saved end, however many draws were refused
abbrev pub AreBounded : Whole → Type 0
AreBounded w = (d : ℕ) → HasDriver w.setup d → slice_index w.words (cursor_at d) ≤ ((cell_of (slice_index w.words 0)).saved + 64) * LOGICAL

-- A batch that a client gets is above all that it had seen, notes included, and is kept among the others
pub record IsGranted (w : Whole) (c : ℕ) (b : Batch) : Type 0 where
  pub above : IsAbove (view_at w (place_of_client w c)).seen b
  pub kept : (draw_of w c).after.batches ≡ place b w.batches

-- so it is with each draw that is due
abbrev pub DrawsGrant : Whole → Type 0
DrawsGrant w = (c : ℕ) → HasClient w.setup c → due_at w c ≡ DrawDue → (b : Batch) → (draw_of w c).reply ≡ Got b → IsGranted w c b

-- where a step is refused for its count, the count passed there
abbrev pub AgainPassed : Whole → Type 0
AgainPassed w = (actor : Actor) (kind : Kind) (at hi n : ℕ) → (step_of w actor kind).reply ≡ Again at hi n → passes at hi n ≡ true

-- the same of a whole draw
abbrev pub TakeAgainPassed : Whole → Type 0
TakeAgainPassed w = (c d m at hi n : ℕ) → (take_of w c d m).reply ≡ Again at hi n → passes at hi n ≡ true

-- who makes steps of a kind, by the table of moves: a client looks, arms and draws, and a driver makes all others
abbrev pub Makes : Actor → Kind → Type 0
Makes actor kind = IsTrue (is_some (move_of actor kind))

-- the kind is the actor's next
abbrev pub IsNext : Whole → Actor → Kind → Type 0
IsNext w actor kind = (due_for kind ≡ due_of w actor) × Makes actor kind

-- the answer isn't that a call is out of turn, whatever is next
abbrev pub IsInTurn : Reply → Type 0
IsInTurn reply = (due : Due) → ¬ (reply ≡ OutOfTurn due)

-- A whole call of an actor that is at this due: out of turn exactly where that isn't rest; it names what is next then, and changes nothing
pub record ComesAtRest (w : Whole) (due : Due) (r : Stepped) : Type 0 where
  pub refused : due ≢ Rest → r ≡ record { reply = OutOfTurn due; after = w }
  pub made : due ≡ Rest → IsInTurn r.reply

-- A step is out of turn exactly where its kind isn't the actor's next, and a whole call exactly where the actor isn't at rest; it names what is next then, and changes nothing
pub record RefusesOutOfTurn (w : Whole) : Type 0 where
  pub refused : (actor : Actor) (kind : Kind) → ¬ IsNext w actor kind
      → step_of w actor kind ≡ record { reply = OutOfTurn (due_of w actor); after = w }
  pub made : (actor : Actor) (kind : Kind) → IsNext w actor kind → IsInTurn (step_of w actor kind).reply
  pub lead : (d now : ℕ) → ComesAtRest w (due_of w (Driver d)) (lead_of w d now)
  pub tick : (d now : ℕ) → ComesAtRest w (due_of w (Driver d)) (tick_of w d now)
  pub resign : (d : ℕ) → ComesAtRest w (due_of w (Driver d)) (resigned_of w d)
  pub take : (c d n : ℕ) → ComesAtRest w (due_of w (Client c)) (take_of w c d n)
  pub tell : (from to : ℕ) → ComesAtRest w (due_of w (Client from)) (tell_of w from to)
  pub hear : (c : ℕ) → ComesAtRest w (due_of w (Client c)) (hear_of w c)

-- the batches with one that is granted, behind all of its term and of lower terms
abbrev pub with_batch : Option Batch → List Batch → List Batch
with_batch None bs = bs
with_batch (Some b) bs = place b bs

-- what an answer adds to the batches: the granted one, or nothing
abbrev pub Adds : Reply → List Batch → List Batch → Type 0
Adds reply old new = new ≡ with_batch (says reply).batch old

-- each call adds to the batches exactly what it answers
pub record BatchesGrow (w : Whole) : Type 0 where
  pub step : (actor : Actor) (kind : Kind) → Adds (step_of w actor kind).reply w.batches (step_of w actor kind).after.batches
  pub lead : (d now : ℕ) → Adds (lead_of w d now).reply w.batches (lead_of w d now).after.batches
  pub tick : (d now : ℕ) → Adds (tick_of w d now).reply w.batches (tick_of w d now).after.batches
  pub resign : (d : ℕ) → Adds (resigned_of w d).reply w.batches (resigned_of w d).after.batches
  pub take : (c d n : ℕ) → Adds (take_of w c d n).reply w.batches (take_of w c d n).after.batches
  pub tell : (from to : ℕ) → Adds (tell_of w from to).reply w.batches (tell_of w from to).after.batches
  pub hear : (c : ℕ) → Adds (hear_of w c).reply w.batches (hear_of w c).after.batches

-- a batch that a whole draw gets is above all that the client had seen before it
abbrev pub TakesGrant : Whole → Type 0
TakesGrant w = (c d n : ℕ) → HasClient w.setup c → HasDriver w.setup d → IsCount n → (b : Batch) → (take_of w c d n).reply ≡ Got b → IsAbove (view_at w (place_of_client w c)).seen b

-- one atomic step of an actor, or a note
pub data Call : Type 0 where
  Step : Actor → Kind → Call
  Tell : ℕ → ℕ → Call
  Hear : ℕ → Call

-- the numbers of a call are in range
abbrev pub IsCall : Setup → Call → Type 0
IsCall k (Step actor kind) = HasActor k actor × IsAsked k kind
IsCall k (Tell from to) = HasClient k from × HasClient k to
IsCall k (Hear c) = HasClient k c

-- the state after a call
abbrev pub after_call : Whole → Call → Whole
after_call w (Step actor kind) = (step_of w actor kind).after
after_call w (Tell from to) = (tell_of w from to).after
after_call w (Hear c) = (hear_of w c).after

-- the state after a list of calls
abbrev pub played : Whole → List Call → Whole
played w [] = w
played w (call ∷ calls) = played (after_call w call) calls

-- the numbers of all calls are in range
abbrev pub AreCalls : Setup → List Call → Type 0
AreCalls k [] = Unit {0}
AreCalls k (call ∷ calls) = IsCall k call × AreCalls k calls

-- the client of a step, 0 where a driver makes it
abbrev pub client_of : Actor → ℕ
client_of (Driver d) = 0
client_of (Client c) = c
client_of (Store s) = 0

-- what a client has seen
abbrev pub seen_at : Whole → ℕ → Seen
seen_at w c = (view_at w (place_of_client w c)).seen

-- what an answer shows its caller: the pair of its batch, or of the note
abbrev pub seen_by : Reply → List Seen
seen_by reply = option_to_list (says reply).pair

-- the greater of what was seen and of a pair that is shown
abbrev pub seen_with : Option Seen → Seen → Seen
seen_with None seen = seen
seen_with (Some pair) seen = greater seen pair

-- what the caller of an answer has seen then: the greater of what it had seen, and of its batch or of a note
abbrev pub learned : Reply → Seen → Seen
learned reply seen = seen_with (says reply).pair seen

-- the one pair is at most the other, by term and by number
pub record IsUpTo (a b : Seen) : Type 0 where
  pub term : a.term ≤ b.term
  pub last : a.last ≤ b.last

-- a window that ends here now: once it is open its start stays; else it begins 3,000 milliseconds before its end, or where it stood where that is later
abbrev pub ended_at : ℕ → Window → Window
ended_at hi w = record w { lo = if nat_lt w.lo w.hi then w.lo else max (hi - AHEAD_MS) w.lo; hi = hi }

-- the window, made longer where it is this driver's and ends below this end
abbrev pub longer_by : ℕ → ℕ → Window → Window
longer_by d hi w = if nat_eq w.driver d then (if nat_lt w.hi hi then ended_at hi w else w) else w

-- the windows, with the last one made longer by an end that this driver answered
abbrev pub lengthened_by : ℕ → ℕ → List Window → List Window
lengthened_by d hi [] = []
lengthened_by d hi (w ∷ []) = longer_by d hi w ∷ []
lengthened_by d hi (w ∷ x ∷ ws) = w ∷ lengthened_by d hi (x ∷ ws)

-- the windows as a driver told of them
abbrev pub windows_with : ℕ → OfWindows → List Window → List Window
windows_with d Stay ws = ws
windows_with d (Begin term lo hi) ws = ws ++ window term d lo hi ∷ []
windows_with d (BeginEmpty term) ws = ws ++ window term d (last_end ws) (last_end ws) ∷ []
windows_with d (End hi) ws = lengthened_by d hi ws

-- the windows after an answer of this driver, from the windows before it: what a reader of the printed answers can work out
abbrev pub windows_told : ℕ → Reply → List Window → List Window
windows_told d reply ws = windows_with d (says reply).windows ws

-- A batch is above all that its caller had seen, and an `again` passed the end of its window or of the logical part
pub record IsFair (reply : Reply) (seen : Seen) : Type 0 where
  pub above : IfSome (says reply).batch (IsAbove seen)
  pub passed : IfSome (says reply).refused HasPassed

-- the driver of a step, 0 where a client makes it
abbrev pub driver_of : Actor → ℕ
driver_of (Driver d) = d
driver_of (Client c) = 0
driver_of (Store s) = 0

-- What the answer to a call of the driver d or of the client c says, where the other is 0, and what the call leaves: a sound state; the windows that the answer tells and the batches with the granted one; what its client has seen, which has risen to what the answer shows, and all others as before. Of the client 0 anything may be taken for seen
pub record Tells (w : Whole) (d c : ℕ) (r : Stepped) : Type 0 where
  pub sound : IsSound r.after
  pub setup : r.after.setup ≡ w.setup
  pub windows : r.after.windows ≡ windows_told d r.reply w.windows
  pub batches : Adds r.reply w.batches r.after.batches
  pub fair : (seen : Seen) → (HasClient w.setup c → seen_at w c ≡ seen) → IsFair r.reply seen
  pub own : HasClient w.setup c → seen_at r.after c ≡ learned r.reply (seen_at w c)
  pub risen : HasClient w.setup c → IsUpTo (seen_at w c) (seen_at r.after c)
  pub shown : HasClient w.setup c → All (λ (seen : Seen). IsUpTo seen (seen_at r.after c)) (seen_by r.reply)
  pub others : (e : ℕ) → HasClient w.setup e → e ≢ c → seen_at r.after e ≡ seen_at w e

-- so it is with each call
pub record EachCallTells (w : Whole) : Type 0 where
  pub step : (actor : Actor) (kind : Kind) → HasActor w.setup actor → IsAsked w.setup kind → Tells w (driver_of actor) (client_of actor) (step_of w actor kind)
  pub lead : (d now : ℕ) → HasDriver w.setup d → Tells w d 0 (lead_of w d now)
  pub tick : (d now : ℕ) → HasDriver w.setup d → Tells w d 0 (tick_of w d now)
  pub resign : (d : ℕ) → HasDriver w.setup d → Tells w d 0 (resigned_of w d)
  pub take : (c d n : ℕ) → HasClient w.setup c → HasDriver w.setup d → IsCount n → Tells w 0 c (take_of w c d n)
  pub tell : (from to : ℕ) → HasClient w.setup from → HasClient w.setup to → Tells w 0 from (tell_of w from to)
  pub hear : (c : ℕ) → HasClient w.setup c → Tells w 0 c (hear_of w c)

-- a new oracle is sound, has the window of its opening cell alone, which is of driver 0 and has no length, and no client has seen anything
pub record IsNew (w : Whole) : Type 0 where
  pub sound : IsSound w
  pub windows : w.windows ≡ window w.setup.cell.term 0 w.setup.cell.saved w.setup.cell.saved ∷ []
  pub unseen : (c : ℕ) → HasClient w.setup c → seen_at w c ≡ nothing_seen
