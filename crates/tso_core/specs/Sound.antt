-- The state invariant of the oracle: that of its words, views and lists, and where each actor stands.
use Rattle.std.specs.Prelude.{◌≡◌, ◌⊎◌, ℕ, ◌+◌, ◌<◌, ◌≤◌, true, false, List, length, get_or}
use Rattle.pd_types.specs.Numbers.{IsOneOf}
use Rattle.pd_types.specs.declared.stamp.TheConstants.{LOGICAL}
use Rattle.pd_types.specs.declared.oracle.TheConstants.{CLOCK_END, LAST_TERM}
use Rattle.tso_model.specs.declared.view.View.{View}
use Rattle.tso_model.specs.declared.view.Setup.{Setup}
use Rattle.tso_model.specs.Lists.{total, times}
use Rattle.tso_model.specs.Words.{IsOpen}
use Rattle.tso_model.specs.declared.step.WordStep.{WordStep}
use Rattle.tso_model.specs.Steps.{held, May}
use Rattle.tso_model.specs.Moves.{blank, spent_view}
use Rattle.tso_model.specs.Ledger.{Recorded}
use Rattle.tso_core.specs.declared.turn.Turn.{Turn}
use Rattle.tso_core.specs.declared.reply.Due.{Due}
use Rattle.tso_core.specs.declared.reply.Due.TheVariants.{Rest, Campaign, Save, Raise, Publish, Arm, Draw}
use Rattle.tso_model.specs.Plan.{end_of}
use Rattle.tso_core.specs.Due.{at_rest}
use Rattle.tso_core.specs.Whole.{Whole, place_of_client, view_at, turn_at}

-- the view of the driver d
pub record IsDriver (d : ℕ) (v : View) : Type 0 where
  pub live : v.spent ≡ false
  pub driver : v.driver ≡ d
  pub quota : v.quota ≤ LOGICAL

-- the view of the client c, which knows no cell but the opening one
pub record IsClient (k : Setup) (c : ℕ) (v : View) : Type 0 where
  pub live : v.spent ≡ false
  pub client : v.client ≡ c
  pub driver : v.driver ≡ 0
  pub cell : v.cell ≡ k.cell
  pub quota : v.quota ≡ LOGICAL

-- a term is held with the mark that the cursor was raised to its start
abbrev pub IsSettled : View → Type 0
IsSettled v = v.holds ≡ true → v.marked ≡ true

-- a campaign is due: there is a term and a time left
pub record MayCampaign (next : ℕ) (v : View) : Type 0 where
  pub settled : IsSettled v
  pub term : v.cell.term < LAST_TERM
  pub above : v.cell.saved < next
  pub clock : end_of next < CLOCK_END

-- a save is due: the end is above the held one, and either this is the first save of the term or the window is marked
pub record MaySave (next : ℕ) (v : View) : Type 0 where
  pub holds : v.holds ≡ true
  pub above : (held v).hi < end_of next
  pub clock : end_of next < CLOCK_END
  pub start : (v.marked ≡ true) ⊎ (((held v).lo ≡ (held v).hi) × ((held v).hi ≤ next))

-- a raise is due: it goes at most to the held end, and the window is marked by then
pub record MayRaise (next : ℕ) (v : View) : Type 0 where
  pub holds : v.holds ≡ true
  pub below : next ≤ (held v).hi
  pub start : (v.marked ≡ true) ⊎ (IsOpen (held v) × ((held v).lo ≤ next))

-- what a driver's due says of its turn and its view: at rest it goes nowhere and owes no publish, a publish goes nowhere either, and an arm or a draw is never due
abbrev pub StandsAt : Due → Turn → View → Type 0
StandsAt Rest turn v = (turn ≡ at_rest) × IsSettled v
StandsAt Campaign turn v = MayCampaign turn.next v
StandsAt Save turn v = MaySave turn.next v
StandsAt Raise turn v = MayRaise turn.next v
StandsAt Publish turn v = (turn.next ≡ 0) × (turn.publishes ≡ true → v.marked ≡ true)
StandsAt Arm turn v = ⊥
StandsAt Draw turn v = ⊥

-- the driver d with its turn
pub record DriverFits (d : ℕ) (turn : Turn) (v : View) : Type 0 where
  pub own : IsDriver d v
  pub stands : StandsAt turn.due turn v

-- the view at this place may make the step
pub record MayMake (w : Whole) (id : ℕ) (step : WordStep) : Type 0 where
  pub inside : id < length w.views
  pub live : (view_at w id).spent ≡ false
  pub quota : (view_at w id).quota ≤ LOGICAL
  pub may : May w.setup step (view_at w id)

-- how often the view at this place waits as a note
abbrev pub waiting : ℕ → List (List ℕ) → ℕ
waiting id posts = total (λ (post : List ℕ). times id post) posts

-- a note that waits: a copy of what was seen, and nothing else
pub record IsNote (k : Setup) (views : List View) (id : ℕ) : Type 0 where
  pub behind : k.drivers + k.clients < id
  pub inside : id < length views
  pub copy : get_or views id spent_view ≡ record (blank k.cell) { seen = (get_or views id spent_view).seen }

-- the driver is one of the oracle's
abbrev pub HasDriver : Setup → ℕ → Type 0
HasDriver k d = IsOneOf k.drivers d

-- the client is one of the oracle's
abbrev pub HasClient : Setup → ℕ → Type 0
HasClient k c = IsOneOf k.clients c

-- The invariant
pub record IsSound (w : Whole) : Type 0 where
  pub recorded : Recorded w.setup w.words w.views w.windows w.batches
  pub wide : w.setup.drivers + w.setup.clients < length w.views
  pub turns : length w.turns ≡ w.setup.drivers + 1
  pub posts : length w.posts ≡ w.setup.clients + 1
  pub drivers : (d : ℕ) → 0 < d → d ≤ w.setup.drivers → DriverFits d (turn_at w d) (view_at w d)
  pub clients : (c : ℕ) → 0 < c → c ≤ w.setup.clients → IsClient w.setup c (view_at w (place_of_client w c))
  pub notes : (id : ℕ) → 0 < waiting id w.posts → IsNote w.setup w.views id
  pub once : (id : ℕ) → waiting id w.posts ≤ 1
