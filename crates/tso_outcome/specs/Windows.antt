-- The windows of a lawful run: those of all terms, one behind the other; and leads and ticks went by the plan of their moment (PD documentation, "Timestamp Oracle"; the exact plan is own choice, that of tso_model).
use Rattle.std.specs.Prelude.{◌≡◌, ℕ, ◌+◌, ◌≤◌, ◌⊎◌, true, false, List, map, Some, None, Contains}
use Rattle.pd_types.specs.declared.oracle.CellWord.{CellWord}
use Rattle.pd_types.specs.declared.oracle.Window.{Window}
use Rattle.tso_model.specs.declared.entries.Claim.{Claim}
use Rattle.tso_model.specs.Words.{opening_claim, last_end}
use Rattle.tso_model.specs.Ledger.{IsWindowList}
use Rattle.tso_model.specs.Plan.{end_of, lead_next}
use Rattle.tso_model.specs.declared.plan.TheConstants.{AHEAD_MS}
use Rattle.tso_driver.specs.declared.said.DriverSaid.{DriverSaid}
use Rattle.tso_driver.specs.declared.said.DriverSaid.TheVariants.{Led, Ticked, Resigned}
use Rattle.tso_driver.specs.declared.reply.LeadReply.TheVariants.{Won, Beaten, Lost as LeadLost, TermsSpent, ClockRange as LeadPast}
use Rattle.tso_driver.specs.declared.reply.TickReply.{TickReply}
use Rattle.tso_driver.specs.declared.reply.TickReply.TheVariants.{Moved, Idle, Lost as TickLost, ClockRange as TickPast, NotLeading}
use Rattle.tso_driver.specs.Driving.{IsTick}
use Rattle.tso_outcome.specs.declared.said.DriverAnswer.{DriverAnswer}
use Rattle.tso_outcome.specs.Drives.{held_by, raised}
use Rattle.pd_types.specs.Numbers.{greatest_of}
use Rattle.pd_types.specs.declared.oracle.TheConstants.{CLOCK_END, LAST_TERM}
use Rattle.tso_outcome.specs.Runs.{Run, DriverPart, EachAnswer, asked_of_all}

-- the windows of all terms from this opening cell's on, each at or behind the end of the one before
pub record AreWindowsFrom (cell : CellWord) (windows : List Window) : Type 0 where
  pub claims : List Claim
  pub are : windows ≡ map (λ (c : Claim). c.window) claims
  pub rise : IsWindowList (opening_claim cell) claims

-- a lead that won: its term's window is the driver's, began where the moment's plan over the end of the window before says, and ended there or was made longer
pub record IsWon (run : Run) (d now term lo hi : ℕ) : Type 0 where
  pub before : Window
  pub own : Window
  pub before_there : Contains run.windows before
  pub own_there : Contains run.windows own
  pub next : before.term + 1 ≡ term
  pub is_own : (own.term ≡ term) × (own.driver ≡ d) × (own.lo ≡ lo) × (hi ≤ own.hi)
  pub plan : (lo ≡ lead_next before.hi now) × (hi ≡ end_of lo)

-- a tick: the moment's plan over the held window and some cursor, which lies between the greatest start that was answered before and that start with all counts that were asked for
pub record IsPlanned (run : Run) (d now : ℕ) (before : List DriverAnswer) (reply : TickReply) : Type 0 where
  pub window : Window
  pub holds : held_by d None before ≡ Some window
  pub cursor : ℕ
  pub low : greatest_of (raised before) ≤ cursor
  pub high : cursor ≤ greatest_of (raised before) + asked_of_all d run.clients
  pub plan : IsTick now window.hi cursor reply

-- what an answer of the driver d says of windows, over the answers before it
abbrev pub KeepsPlan : Run → ℕ → List DriverAnswer → DriverSaid → Type 0
KeepsPlan run d before (Led now (Won term lo hi)) = IsWon run d now term lo hi
KeepsPlan run d before (Led now (Beaten found)) = Unit {0}
KeepsPlan run d before (Led now (LeadLost found)) = Unit {0}
KeepsPlan run d before (Led now TermsSpent) = (w : Window) × Contains run.windows w × (w.term ≡ LAST_TERM)
KeepsPlan run d before (Led now LeadPast) = (CLOCK_END ≤ now + AHEAD_MS) ⊎ (CLOCK_END ≤ last_end run.windows + (AHEAD_MS + 1))
KeepsPlan run d before (Ticked now (Moved next hi)) = IsPlanned run d now before (Moved next hi)
KeepsPlan run d before (Ticked now Idle) = IsPlanned run d now before Idle
KeepsPlan run d before (Ticked now (TickLost found)) = IsPlanned run d now before (TickLost found)
KeepsPlan run d before (Ticked now TickPast) = IsPlanned run d now before TickPast
KeepsPlan run d before (Ticked now NotLeading) = held_by d None before ≡ None
KeepsPlan run d before (Resigned true) = (w : Window) × (held_by d None before ≡ Some w)
KeepsPlan run d before (Resigned false) = held_by d None before ≡ None

-- The windows are those of all terms, in order; leads and ticks went by the moment's plan; a driver leads from `won` to `lost` or `resigned`
pub record KeepWindows (run : Run) : Type 0 where
  pub windows : AreWindowsFrom run.setup.cell run.windows
  pub plans : (part : DriverPart) → Contains run.drivers part → EachAnswer (λ before a. KeepsPlan run part.number before a.said) part.answers
