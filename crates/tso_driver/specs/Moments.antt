-- What a driver's call makes at a moment: its steps in a row, over the cell and the cursor that they find (PD documentation, "Timestamp Oracle": a leader saves an end of its window ahead, and moves the physical part on with the clock; the exact conditions are own choice, those of tso_model's plan). So each answer comes exactly where it says.
use Rattle.std.specs.Prelude.{◌≡◌, ◌≢◌, ℕ, ◌+◌, ◌*◌, ◌<◌, ◌⊎◌, Bool, true, false, Option, Some, None}
use Rattle.pd_types.specs.declared.oracle.CellWord.{CellWord}
use Rattle.pd_types.specs.declared.oracle.Window.{Window}
use Rattle.pd_types.specs.declared.stamp.TheConstants.{LOGICAL}
use Rattle.pd_types.specs.declared.oracle.TheConstants.{LAST_TERM}
use Rattle.tso_model.specs.declared.view.View.{View}
use Rattle.tso_model.specs.Steps.{knows, claimed, saves, raised}
use Rattle.tso_model.specs.Plan.{end_of, past_clock, lead_next, tick_next, saves_for}
use Rattle.tso_board.specs.Told.{Rises, Missed, holding, given_up, told_limit}
use Rattle.tso_model.specs.Words.{IsCell}
use Rattle.tso_driver.specs.declared.reply.LeadReply.{LeadReply}
use Rattle.tso_driver.specs.declared.reply.LeadReply.TheVariants.{Won, Beaten, Lost as LeadLost, TermsSpent, ClockRange as LeadPast}
use Rattle.tso_driver.specs.declared.reply.TickReply.{TickReply}
use Rattle.tso_driver.specs.declared.reply.TickReply.TheVariants.{Moved, Idle, Lost as TickLost, ClockRange as TickPast, NotLeading}

-- LEADS

-- a lead goes on over this cell: its term isn't the last one, and the end that it would save is in the clock's range
pub record MayCampaign (now : ℕ) (read : CellWord) : Type 0 where
  pub term : read.term < LAST_TERM
  pub clock : past_clock (lead_next read.saved now) ≡ false

-- the driver that read this cell and claimed the term after its
abbrev pub claims_next : CellWord → View → View
claims_next read v = claimed (knows read v)

-- the same driver once it saved its window from `lo` on, raised its cursor, which it found at `cursor`, and published the end
abbrev pub opens : ℕ → CellWord → ℕ → View → View
opens lo read cursor v = told_limit (raised (lo * LOGICAL) cursor (saves (end_of lo) (claims_next read v) (claims_next read v).latest))

-- a driver that found this cell at its save, and gave its term up
pub record GaveUp (found : CellWord) (old new : View) : Type 0 where
  pub missed : View
  pub misses : Missed found old missed
  pub gives : new ≡ given_up missed

-- what a lead answers over the cell that it read, and what it makes of what the driver knows
abbrev pub LeadsOver : ℕ → CellWord → LeadReply → View → View → Type 0
LeadsOver now read TermsSpent old new = (read.term ≡ LAST_TERM) × (new ≡ knows read old)
LeadsOver now read LeadPast old new = (read.term < LAST_TERM) × (past_clock (lead_next read.saved now) ≡ true) × (new ≡ knows read old)
LeadsOver now read (Beaten found) old new = MayCampaign now read × (found ≢ read) × Missed found (knows read old) new
LeadsOver now read (LeadLost found) old new = MayCampaign now read × GaveUp found (claims_next read old) new
LeadsOver now read (Won term lo hi) old new = MayCampaign now read × (term ≡ read.term + 1) × (lo ≡ lead_next read.saved now) × (hi ≡ end_of lo) × (cursor : ℕ) × (new ≡ opens lo read cursor old)

-- A lead at this moment: it read a cell in range that isn't below the known one, and did over it what its answer says
pub record Leads (now : ℕ) (reply : LeadReply) (old new : View) : Type 0 where
  pub read : CellWord
  pub cell : IsCell read
  pub rises : Rises old.cell read
  pub does : LeadsOver now read reply old new

-- TICKS

-- a tick goes to this moment over the held window and the cursor that it found
abbrev pub Goes : ℕ → Window → ℕ → ℕ → Type 0
Goes now w cursor next = tick_next cursor w.hi now ≡ Some next

-- It goes there, and at most a millisecond is left of the window then; the end that it would save is in the clock's range, or past it
pub record NeedsSave (now : ℕ) (w : Window) (cursor next : ℕ) (past : Bool) : Type 0 where
  pub goes : Goes now w cursor next
  pub ends : saves_for next w.hi ≡ true
  pub clock : past_clock next ≡ past

-- the driver that read its cursor
abbrev pub probes : ℕ → View → View
probes cursor v = raised 0 cursor v

-- more than a millisecond is left: the cursor was raised, and the window stays
pub record JustMoves (now : ℕ) (w : Window) (cursor next hi : ℕ) (old new : View) : Type 0 where
  pub goes : Goes now w cursor next
  pub stays : saves_for next w.hi ≡ false
  pub end : hi ≡ w.hi
  pub again : ℕ
  pub view : new ≡ raised (next * LOGICAL) again (probes cursor old)

-- a later end was saved over the driver's own cell, the cursor raised, and the end published
pub record SavesAndMoves (now : ℕ) (w : Window) (cursor next hi : ℕ) (old new : View) : Type 0 where
  pub needs : NeedsSave now w cursor next false
  pub end : hi ≡ end_of next
  pub own : Rises old.cell (record { saved = w.hi; term = w.term })
  pub again : ℕ
  pub view : new ≡ told_limit (raised (next * LOGICAL) again (saves (end_of next) (probes cursor old) old.latest))

-- what a tick answers over the held window and the cursor that it found, and what it makes of what the driver knows
abbrev pub TicksOver : ℕ → Window → ℕ → TickReply → View → View → Type 0
TicksOver now w cursor NotLeading old new = ⊥
TicksOver now w cursor Idle old new = (tick_next cursor w.hi now ≡ None) × (new ≡ probes cursor old)
TicksOver now w cursor TickPast old new = (next : ℕ) × NeedsSave now w cursor next true × (new ≡ probes cursor old)
TicksOver now w cursor (TickLost found) old new = (next : ℕ) × NeedsSave now w cursor next false × GaveUp found (probes cursor old) new
TicksOver now w cursor (Moved next hi) old new = JustMoves now w cursor next hi old new ⊎ SavesAndMoves now w cursor next hi old new

-- a tick by the window that the driver holds, or by none
abbrev pub TicksWith : Option Window → ℕ → TickReply → View → View → Type 0
TicksWith None now reply old new = (reply ≡ NotLeading) × (new ≡ old)
TicksWith (Some w) now reply old new = (cursor : ℕ) × TicksOver now w cursor reply old new

-- a tick at this moment
abbrev pub Ticks : ℕ → TickReply → View → View → Type 0
Ticks now reply old new = TicksWith (holding old) now reply old new

-- RESIGNATIONS

-- by the window that the driver holds, or by none
abbrev pub ResignsWith : Option Window → Bool → View → View → Type 0
ResignsWith None held old new = (held ≡ false) × (new ≡ old)
ResignsWith (Some w) held old new = (held ≡ true) × (new ≡ given_up old)

-- a resignation
abbrev pub Resigns : Bool → View → View → Type 0
Resigns held old new = ResignsWith (holding old) held old new
