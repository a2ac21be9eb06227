-- How a driver makes a step of each kind: on which word, and what it answers and does next by what the step found and did.
use Rattle.std.specs.Prelude.{ℕ, ◌*◌, ◌<◌, ◌^◌, Bool, true, Option, None, Some, if◌then◌else◌}
use Rattle.pd_types.specs.declared.stamp.TheConstants.{LOGICAL}
use Rattle.tso_model.specs.declared.step.WordStep.{WordStep}
use Rattle.tso_model.specs.declared.step.WordStep.TheVariants.{LoadCell, ClaimTerm, SaveEnd, RaiseCursor, StoreLimit, ClearLimit}
use Rattle.tso_model.specs.Plan.{end_of}
use Rattle.tso_model.specs.Words.{cell_of}
use Rattle.tso_core.specs.declared.done.Done.{Done}
use Rattle.tso_core.specs.declared.turn.Decided.{Decided}
use Rattle.tso_core.specs.declared.reply.Kind.{Kind}
use Rattle.tso_core.specs.declared.reply.Kind.TheVariants.{Read, Campaign, Save, Probe, Raise, Publish, Resign}
use Rattle.tso_core.specs.declared.reply.Reply.TheVariants.{Resigned}
use Rattle.tso_core.specs.declared.turn.Turn.{Turn}
use Rattle.tso_core.specs.Done.{reply_of, follow}
use Rattle.tso_core.specs.Steps.{ends, read_decides, probe_decides}

-- the step on a word, a publish of the held window's end or after a lost save of 0; a client's kinds have none
abbrev pub driver_step : Kind → Turn → Option WordStep
driver_step (Read now) turn = Some LoadCell
driver_step Campaign turn = Some ClaimTerm
driver_step Save turn = Some (SaveEnd (end_of turn.next))
driver_step (Probe now) turn = Some (RaiseCursor 0)
driver_step Raise turn = Some (RaiseCursor (turn.next * LOGICAL))
driver_step Publish turn = Some (if turn.publishes then StoreLimit else ClearLimit)
driver_step Resign turn = Some ClearLimit
driver_step kind turn = None

-- a probe and a resignation are for a driver that holds a term
abbrev pub has_term_for : Kind → Bool → Bool
has_term_for (Probe now) holds = holds
has_term_for Resign holds = holds
has_term_for kind holds = true

-- what a read finds is a cell in range
abbrev pub IsInTime : Kind → ℕ → Type 0
IsInTime (Read now) found = found < 2 ^ 63
IsInTime kind found = Unit {0}

-- a read and a probe ask the plan of their moment, over this held end; a resignation ends; all others go on as what they did says
abbrev pub decides_by : Kind → Turn → ℕ → ℕ → Done → Decided
decides_by (Read now) turn hi found done = read_decides (cell_of found) now
decides_by (Probe now) turn hi found done = probe_decides hi now found
decides_by Resign turn hi found done = ends Resigned
decides_by kind turn hi found done = record { reply = reply_of done; turn = follow turn done }
