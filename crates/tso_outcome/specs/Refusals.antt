-- The refusals of a lawful run: each `again` has its cause (own choice: a draw whose count passes the end of the window, or the logical part, grants nothing).
use Rattle.std.specs.Prelude.{◌≡◌, ℕ, ◌+◌, ◌*◌, ◌≤◌, true, List, Some, None, Ok, Err, Contains}
use Rattle.pd_types.specs.declared.oracle.Window.{Window}
use Rattle.pd_types.specs.declared.stamp.TheConstants.{LOGICAL}
use Rattle.tso_model.specs.Words.{passes}
use Rattle.tso_driver.specs.declared.said.DriverSaid.{DriverSaid}
use Rattle.tso_driver.specs.declared.said.DriverSaid.TheVariants.{Led, Ticked, Resigned}
use Rattle.tso_driver.specs.declared.reply.LeadReply.TheVariants.{Won, Beaten, Lost as LeadLost, TermsSpent, ClockRange as LeadPast}
use Rattle.tso_driver.specs.declared.reply.TickReply.TheVariants.{Moved, Idle, Lost as TickLost, ClockRange as TickPast, NotLeading}
use Rattle.tso_client.specs.declared.draw.DrawFault.TheVariants.{NotLeader, Stale, Again}
use Rattle.tso_outcome.specs.declared.said.DriverAnswer.{DriverAnswer}
use Rattle.tso_outcome.specs.declared.said.ClientAnswer.{ClientAnswer}
use Rattle.tso_outcome.specs.declared.said.ClientSaid.{ClientSaid}
use Rattle.tso_outcome.specs.declared.said.ClientSaid.TheVariants.{Took, Told, Heard}
use Rattle.tso_outcome.specs.Drives.{held_by, raised}
use Rattle.tso_outcome.specs.Clients.{asked_by}
use Rattle.tso_outcome.specs.Runs.{Run, DriverPart, ClientPart, EachAnswer, Place, asked_of_others}

-- the answer gave this end of a limit, for a window from this start on: `won`, or `moved` over the window that the driver held
abbrev pub GaveEnd : ℕ → List DriverAnswer → DriverSaid → ℕ → ℕ → Type 0
GaveEnd d before (Led now (Won term start end)) hi lo = (end ≡ hi) × (start ≡ lo)
GaveEnd d before (Led now (Beaten found)) hi lo = ⊥
GaveEnd d before (Led now (LeadLost found)) hi lo = ⊥
GaveEnd d before (Led now TermsSpent) hi lo = ⊥
GaveEnd d before (Led now LeadPast) hi lo = ⊥
GaveEnd d before (Ticked now (Moved next end)) hi lo = (end ≡ hi) × ((w : Window) × (held_by d None before ≡ Some w) × (w.lo ≡ lo))
GaveEnd d before (Ticked now Idle) hi lo = ⊥
GaveEnd d before (Ticked now (TickLost found)) hi lo = ⊥
GaveEnd d before (Ticked now TickPast) hi lo = ⊥
GaveEnd d before (Ticked now NotLeading) hi lo = ⊥
GaveEnd d before (Resigned held) hi lo = ⊥

-- `again`: it passed the end or the logical part; the end is that of a `won` or a `moved` of the driver; and the cursor lies between a start of that driver, in that window or a later one, and this start with all counts that others asked for, or this client before
pub record IsAgain (run : Run) (c : ℕ) (before : List ClientAnswer) (d n at hi m : ℕ) : Type 0 where
  pub count : m ≡ n
  pub passed : passes at hi m ≡ true
  pub driver : DriverPart
  pub there : Contains run.drivers driver
  pub number : driver.number ≡ d
  pub place : Place driver.answers
  pub lo : ℕ
  pub gave : GaveEnd d place.before place.one.said hi lo
  pub start : ℕ
  pub raised_to : Contains (raised driver.answers) start
  pub begins : lo * LOGICAL ≤ start
  pub low : start ≤ at
  pub high : at ≤ start + (asked_by d before + asked_of_others c d run.clients)

-- what an answer of the client c says where it is `again`
abbrev pub KeepsAgain : Run → ℕ → List ClientAnswer → ClientSaid → Type 0
KeepsAgain run c before (Took d n (Ok b)) = Unit {0}
KeepsAgain run c before (Took d n (Err (Again at hi m))) = IsAgain run c before d n at hi m
KeepsAgain run c before (Took d n (Err NotLeader)) = Unit {0}
KeepsAgain run c before (Took d n (Err (Stale term))) = Unit {0}
KeepsAgain run c before (Told to) = Unit {0}
KeepsAgain run c before (Heard heard) = Unit {0}

-- Each `again` has its cause
pub record KeepRefusals (run : Run) : Type 0 where
  pub again : (part : ClientPart) → Contains run.clients part → EachAnswer (λ before a. KeepsAgain run part.number before a.said) part.answers
