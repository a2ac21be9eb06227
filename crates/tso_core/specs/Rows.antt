-- The whole calls: rows of kinds, each made where it comes to be the actor's next (own choice).
use Rattle.std.specs.Prelude.{ℕ, List, [], ◌∷◌, Option, None, Some, unwrap_or, if◌then◌else◌}
use Rattle.pd_types.specs.declared.oracle.Actor.{Actor}
use Rattle.pd_types.specs.declared.oracle.Actor.TheVariants.{Driver, Client}
use Rattle.pd_types.specs.declared.oracle.Window.{Window}
use Rattle.tso_core.specs.declared.reply.Due.TheVariants.{Rest}
use Rattle.tso_core.specs.declared.reply.Kind.{Kind}
use Rattle.tso_core.specs.declared.reply.Kind.TheVariants.{Read, Campaign, Save, Probe, Raise, Publish, Resign, Look, Arm, Draw}
use Rattle.tso_core.specs.declared.reply.Reply.{Reply}
use Rattle.tso_core.specs.declared.reply.Reply.TheVariants.{Won, Moved}
use Rattle.tso_model.specs.Steps.{held}
use Rattle.tso_core.specs.Due.{same_due, due_for}
use Rattle.tso_core.specs.Whole.{Whole, view_at, turn_at}
use Rattle.tso_core.specs.Steps.{Stepped, out_of_turn, due_of, due_step}

-- the steps of a lead
abbrev pub lead_kinds : ℕ → List Kind
lead_kinds now = Read now ∷ Campaign ∷ Save ∷ Raise ∷ Publish ∷ []

-- the steps of a tick; without a save the window is long enough, and no publish is due either
abbrev pub tick_kinds : ℕ → List Kind
tick_kinds now = Probe now ∷ Save ∷ Raise ∷ Publish ∷ []

-- the one step of a resignation
abbrev pub resign_kinds : List Kind
resign_kinds = Resign ∷ []

-- the steps of a draw of n from a driver
abbrev pub take_kinds : ℕ → ℕ → List Kind
take_kinds d n = Look d ∷ Arm n ∷ Draw ∷ []

-- where the driver goes: the physical time of its turn, and the end that it holds
abbrev pub moved_to : Whole → ℕ → Reply
moved_to w d = Moved (turn_at w d).next (held (view_at w d)).hi

-- what a row answers in place of the step's own answer, over the state before the step: a raise tells where the driver goes, and a publish leaves the answer before it
abbrev pub told : Kind → Actor → Whole → Reply → Option Reply
told Raise (Driver d) w before = Some (moved_to w d)
told Publish actor w before = Some before
told kind actor w before = None

-- a row with one more step, as an answer and the state after it
abbrev pub gone : Actor → Kind → Stepped → Stepped → Stepped
gone actor kind r s = record { reply = unwrap_or (told kind actor r.after r.reply) s.reply; after = s.after }

-- a row goes on with a step where that is the actor's next
abbrev pub goes_on : Actor → Stepped → Kind → Stepped
goes_on actor r kind = if same_due (due_for kind) (due_of r.after actor) then gone actor kind r (due_step r.after actor kind) else r

-- the steps of these kinds in a row, behind an answer and the state after it
abbrev pub row : Actor → List Kind → Stepped → Stepped
row actor [] r = r
row actor (kind ∷ kinds) r = row actor kinds (goes_on actor r kind)

-- a whole call: a row of steps of an actor at rest, and else out of turn
abbrev pub call_of : Whole → Actor → List Kind → Stepped
call_of w actor kinds = if same_due (due_of w actor) Rest then row actor kinds (out_of_turn w (due_of w actor)) else out_of_turn w (due_of w actor)

-- a lead that went on to its end has won this window
abbrev pub won_by : Window → Reply → Reply
won_by window (Moved next hi) = Won window.term window.lo window.hi
won_by window reply = reply

-- what a lead answers that did this
abbrev pub won : ℕ → Stepped → Stepped
won d r = record { reply = won_by (held (view_at r.after d)) r.reply; after = r.after }

-- a lead: a read, a campaign, a save, a raise and a publish, as far as they come
abbrev pub lead_of : Whole → ℕ → ℕ → Stepped
lead_of w d now = won d (call_of w (Driver d) (lead_kinds now))

-- a tick: a probe, at times a save, a raise, and a publish after a save
abbrev pub tick_of : Whole → ℕ → ℕ → Stepped
tick_of w d now = call_of w (Driver d) (tick_kinds now)

-- resigning is one step
abbrev pub resigned_of : Whole → ℕ → Stepped
resigned_of w d = call_of w (Driver d) resign_kinds

-- a draw of n: a look, an arm and a draw, as far as they come
abbrev pub take_of : Whole → ℕ → ℕ → ℕ → Stepped
take_of w c d n = call_of w (Client c) (take_kinds d n)
