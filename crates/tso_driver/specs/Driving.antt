-- What a driver's call does to what the driver knows, by its answer.
use Rattle.std.specs.Prelude.{◌≡◌, ℕ, ◌*◌, ◌<◌, ◌≤◌, ◌⊎◌, true, false, List, [], ◌∷◌, ◌++◌, map, Option, Some, None, option_to_list, cond, Contains}
use Rattle.pd_types.specs.declared.oracle.CellWord.{CellWord}
use Rattle.pd_types.specs.declared.oracle.Window.{Window}
use Rattle.pd_types.specs.declared.stamp.TheConstants.{LOGICAL}
use Rattle.pd_types.specs.declared.oracle.TheConstants.{LAST_TERM}
use Rattle.tso_model.specs.declared.entries.Claim.{Claim}
use Rattle.tso_model.specs.declared.entries.Start.{Start}
use Rattle.tso_model.specs.declared.entries.Published.{Published}
use Rattle.tso_model.specs.declared.view.View.{View}
use Rattle.tso_model.specs.Words.{packed, window, claim}
use Rattle.tso_model.specs.History.{claims, greatest, Extends}
use Rattle.tso_model.specs.Steps.{held}
use Rattle.tso_board.specs.Told.{IsHigher, holding}
use Rattle.tso_model.specs.Plan.{end_of, past_clock, lead_next, tick_next, saves_for}
use Rattle.tso_driver.specs.declared.said.DriverSaid.{DriverSaid}
use Rattle.tso_driver.specs.declared.said.DriverSaid.TheVariants.{Led, Ticked, Resigned}
use Rattle.tso_driver.specs.declared.reply.LeadReply.TheVariants.{Won, Beaten, Lost as LeadLost, TermsSpent, ClockRange as LeadPast}
use Rattle.tso_driver.specs.declared.reply.TickReply.{TickReply}
use Rattle.tso_driver.specs.declared.reply.TickReply.TheVariants.{Moved, Idle, Lost as TickLost, ClockRange as TickPast, NotLeading}

-- WHAT THE ANSWERS SAY BY THEMSELVES

-- the held window, with its end where a tick put it
abbrev pub moved_to : ℕ → Option Window → Option Window
moved_to hi None = None
moved_to hi (Some w) = Some (record w { hi = hi })

-- the window that the driver d holds after an answer: it holds a term from an answer `won` until an answer `lost` or `resigned`
abbrev pub held_after : ℕ → DriverSaid → Option Window → Option Window
held_after d (Led now (Won term lo hi)) holds = Some (window term d lo hi)
held_after d (Led now (Beaten found)) holds = holds
held_after d (Led now (LeadLost found)) holds = None
held_after d (Led now TermsSpent) holds = holds
held_after d (Led now LeadPast) holds = holds
held_after d (Ticked now (Moved next hi)) holds = moved_to hi holds
held_after d (Ticked now Idle) holds = holds
held_after d (Ticked now (TickLost found)) holds = None
held_after d (Ticked now TickPast) holds = holds
held_after d (Ticked now NotLeading) holds = holds
held_after d (Resigned true) holds = None
held_after d (Resigned false) holds = holds

-- where an answer says that the cursor was raised to: the start of the window won, or the moment moved to
abbrev pub raises : DriverSaid → List ℕ
raises (Led now (Won term lo hi)) = lo * LOGICAL ∷ []
raises (Led now (Beaten found)) = []
raises (Led now (LeadLost found)) = []
raises (Led now TermsSpent) = []
raises (Led now LeadPast) = []
raises (Ticked now (Moved next hi)) = next * LOGICAL ∷ []
raises (Ticked now Idle) = []
raises (Ticked now (TickLost found)) = []
raises (Ticked now TickPast) = []
raises (Ticked now NotLeading) = []
raises (Resigned held) = []

-- the word that the answer says was published, by a driver that held this window before
abbrev pub Publishes : Option Window → DriverSaid → ℕ → Type 0
Publishes holds (Led now (Won term lo hi)) word = word ≡ packed hi term
Publishes holds (Led now (Beaten found)) word = ⊥
Publishes holds (Led now (LeadLost found)) word = word ≡ 0
Publishes holds (Led now TermsSpent) word = ⊥
Publishes holds (Led now LeadPast) word = ⊥
Publishes holds (Ticked now (Moved next hi)) word = (w : Window) × (holds ≡ Some w) × (word ≡ packed hi w.term)
Publishes holds (Ticked now Idle) word = ⊥
Publishes holds (Ticked now (TickLost found)) word = word ≡ 0
Publishes holds (Ticked now TickPast) word = ⊥
Publishes holds (Ticked now NotLeading) word = ⊥
Publishes holds (Resigned true) word = word ≡ 0
Publishes holds (Resigned false) word = ⊥

-- the end after a tick that moves to `next` over the held end
abbrev pub end_after : ℕ → ℕ → ℕ
end_after next hi = cond (saves_for next hi) (end_of next) hi

-- what a tick may answer at this moment, over the held end and a cursor
abbrev pub IsTick : ℕ → ℕ → ℕ → TickReply → Type 0
IsTick now hi cursor (Moved next end) = (tick_next cursor hi now ≡ Some next) × (end ≡ end_after next hi) × (saves_for next hi ≡ true → past_clock next ≡ false)
IsTick now hi cursor Idle = tick_next cursor hi now ≡ None
IsTick now hi cursor (TickLost found) = (next : ℕ) × (tick_next cursor hi now ≡ Some next) × (saves_for next hi ≡ true) × (past_clock next ≡ false)
IsTick now hi cursor TickPast = (next : ℕ) × (tick_next cursor hi now ≡ Some next) × (saves_for next hi ≡ true) × (past_clock next ≡ true)
IsTick now hi cursor NotLeading = ⊥

-- WHAT A CALL DOES TO THE DRIVER'S VIEW

-- what stood in one list stands in the other
abbrev pub Keeps : {A : Type 0} → List A → List A → Type 0
Keeps {A} xs ys = (x : A) → Contains xs x → Contains ys x

-- a start of the driver
abbrev pub start_at : ℕ → ℕ → Start
start_at d at = record { driver = d; at = at }

-- No window is lost: each stays or was made longer. One that is new has a term above the cell that was known before, and below 262144. All are the driver's own
pub record ClaimsGrow (old new : View) : Type 0 where
  pub kept : (c : Claim) → Contains (claims old) c → (e : Claim) × Contains (claims new) e × Extends c e × (e.at ≡ c.at)
  pub back : (e : Claim) → Contains (claims new) e → ((c : Claim) × Contains (claims old) c × (c.window.term ≡ e.window.term)) ⊎ ((old.cell.term < e.window.term) × (e.window.term < LOGICAL))
  pub own : ((c : Claim) → Contains (claims old) c → c.window.driver ≡ old.driver) → (e : Claim) → Contains (claims new) e → e.window.driver ≡ old.driver

-- the term that a call with this answer claimed: the one that was won; one that no answer tells where a lead lost it at once; else none
abbrev pub ClaimsTerm : DriverSaid → Option ℕ → Type 0
ClaimsTerm (Led now (Won term lo hi)) claimed = claimed ≡ Some term
ClaimsTerm (Led now (Beaten found)) claimed = claimed ≡ None
ClaimsTerm (Led now (LeadLost found)) claimed = (term : ℕ) × (claimed ≡ Some term)
ClaimsTerm (Led now TermsSpent) claimed = claimed ≡ None
ClaimsTerm (Led now LeadPast) claimed = claimed ≡ None
ClaimsTerm (Ticked now reply) claimed = claimed ≡ None
ClaimsTerm (Resigned held) claimed = claimed ≡ None

-- the terms of the driver's windows, in the order of their claims
abbrev pub terms : View → List ℕ
terms v = map (λ (c : Claim). c.window.term) (claims v)

-- The terms grow by the one that the call claimed, if any. It is above the cell that was known before, and not above the one known after
pub record TermsGrow (said : DriverSaid) (old new : View) : Type 0 where
  pub claimed : Option ℕ
  pub told : ClaimsTerm said claimed
  pub grown : terms new ≡ terms old ++ option_to_list claimed
  pub later : (term : ℕ) → claimed ≡ Some term → (old.cell.term < term) × (term ≤ new.cell.term)

-- the found cell has such a term, and is what the driver knows now
pub record IsFoundAbove (found : CellWord) (new : View) : Type 0 where
  pub higher : IsHigher new found.term
  pub known : found.term ≤ new.cell.term

-- a lead that won: its window stands among the driver's, claimed at some saved time, and the moment's plan over that time gave its start and end
pub record HasWon (now term lo hi : ℕ) (new : View) : Type 0 where
  pub saved : ℕ
  pub stands : Contains (claims new) (claim (window term new.driver lo hi) saved)
  pub plan : (lo ≡ lead_next saved now) × (hi ≡ end_of lo)

-- a tick over the held window, and a cursor that it found
pub record HasTicked (now : ℕ) (reply : TickReply) (old new : View) : Type 0 where
  pub window : Window
  pub held_is : holding old ≡ Some window
  pub cursor : ℕ
  pub found : Contains new.founds (record { driver = old.driver; cursor = cursor; start = greatest old.driver old.starts })
  pub plan : IsTick now window.hi cursor reply

-- what the answer tells
abbrev pub DriverTold : DriverSaid → View → View → Type 0
DriverTold (Led now (Won term lo hi)) old new = HasWon now term lo hi new
DriverTold (Led now (Beaten found)) old new = IsFoundAbove found new
DriverTold (Led now (LeadLost found)) old new = IsFoundAbove found new
DriverTold (Led now TermsSpent) old new = LAST_TERM ≤ new.cell.term
DriverTold (Led now LeadPast) old new = past_clock (lead_next new.cell.saved now) ≡ true
DriverTold (Ticked now (Moved next hi)) old new = HasTicked now (Moved next hi) old new
DriverTold (Ticked now Idle) old new = HasTicked now Idle old new
DriverTold (Ticked now (TickLost found)) old new = HasTicked now (TickLost found) old new × IsFoundAbove found new
DriverTold (Ticked now TickPast) old new = HasTicked now TickPast old new
DriverTold (Ticked now NotLeading) old new = holding old ≡ None
DriverTold (Resigned true) old new = (w : Window) × (holding old ≡ Some w)
DriverTold (Resigned false) old new = holding old ≡ None

-- A call of a driver, from what it knew to what it knows: the cell that it knows never falls; its windows grow, by one where its answer says so; it raised its cursor to what it answered and to nothing else; the cursors that it found stay; besides 0 it published only the end that it answered; it holds what its answer says
pub record DriverDid (said : DriverSaid) (old new : View) : Type 0 where
  pub driver : new.driver ≡ old.driver
  pub opening : new.opening ≡ old.opening
  pub term : old.cell.term ≤ new.cell.term
  pub saved : old.cell.saved ≤ new.cell.saved
  pub windows : ClaimsGrow old new
  pub claimed : TermsGrow said old new
  pub starts : new.starts ≡ old.starts ++ map (start_at old.driver) (raises said)
  pub founds : Keeps old.founds new.founds
  pub published : (p : Published) → Contains new.published p → Contains old.published p ⊎ ((p.driver ≡ old.driver) × Publishes (holding old) said p.word)
  pub holds : holding new ≡ held_after old.driver said (holding old)
  pub told : DriverTold said old new
