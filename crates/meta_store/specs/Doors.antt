-- What a door says of its calls, and what a journal makes of them.
use Rattle.std.specs.Prelude.{◌≡◌, ◌⊎◌, ℕ, List, [], ◌∷◌, ◌++◌, Option, Some, None}
use Rattle.std.specs.Option.{option_map}
use Rattle.pd_turn.specs.Turns.{TurnValue}
use Rattle.meta_store.specs.declared.record.Cell.{Cell}
use Rattle.meta_store.specs.declared.record.MetaAnswer.{MetaAnswer}
use Rattle.meta_store.specs.declared.record.MetaCall.{MetaCall}
use Rattle.meta_store.specs.declared.record.MetaCall.TheVariants as calls
use Rattle.meta_store.specs.declared.record.MetaEntry.{MetaEntry}
use Rattle.meta_store.specs.declared.record.MetaVerdict.{MetaVerdict}
use Rattle.meta_store.specs.declared.record.MetaVerdict.TheVariants as verdicts
use Rattle.meta_store.specs.declared.fault.MetaFault.{MetaFault}
use Rattle.meta_store.specs.declared.fault.MetaFault.TheVariants as faults
use Rattle.meta_store.specs.Past.{noted, records_of}

-- what no call of a door changes: the one driver that it serves, or none where it serves all; the turn of the metadata that it goes through, or none; and the name of what it was lent, or 0
pub record Place : Type 0 where
  pub driver : Option ℕ
  pub turn : Option TurnValue
  pub lent : ℕ

-- a place, by its parts
abbrev pub place_of : Option ℕ → Option TurnValue → ℕ → Place
place_of driver turn lent = record { driver = driver; turn = turn; lent = lent }

-- the door serves the driver
abbrev pub Serves : Place → ℕ → Type 0
Serves place driver = (place.driver ≡ None) ⊎ (place.driver ≡ Some driver)

-- what a door said and told, before calls and after them
pub record Spoken : Type 0 where
  pub said_old : List MetaAnswer
  pub said_new : List MetaAnswer
  pub told_old : Option (List MetaEntry)
  pub told_new : Option (List MetaEntry)

-- an answer, by its parts
abbrev pub answer_of : MetaCall → MetaVerdict → List Cell → MetaAnswer
answer_of call verdict cells = record { call = call; verdict = verdict; cells = cells }

-- the revision that a driver hears of an accepted call: a lead tells none
abbrev pub heard_revision : MetaCall → ℕ → ℕ
heard_revision (calls.Lead term) revision = 0
heard_revision (calls.Put term key expected bytes) revision = revision
heard_revision (calls.Delete term key expected) revision = revision

-- the verdict that a driver hears
abbrev pub heard : MetaCall → MetaVerdict → MetaVerdict
heard call (verdicts.Accepted revision) = verdicts.Accepted (heard_revision call revision)
heard call (verdicts.OldTerm fence) = verdicts.OldTerm fence
heard call (verdicts.Conflict found) = verdicts.Conflict found
heard call verdicts.Limit = verdicts.Limit

-- an accepted lead hands out these records, a write none
abbrev pub lead_cells : MetaCall → List Cell → List Cell
lead_cells (calls.Lead term) cells = cells
lead_cells (calls.Put term key expected bytes) cells = []
lead_cells (calls.Delete term key expected) cells = []

-- the records that a call hands out
abbrev pub handed_out : List MetaEntry → MetaCall → MetaVerdict → List Cell
handed_out past call (verdicts.Accepted revision) = lead_cells call (records_of past)
handed_out past call (verdicts.OldTerm fence) = []
handed_out past call (verdicts.Conflict found) = []
handed_out past call verdicts.Limit = []

-- what the drivers heard of these entries, which have the latest first, in the order of the calls
abbrev pub said_of : List MetaEntry → List MetaAnswer
said_of [] = []
said_of (entry ∷ past) = said_of past ++ answer_of entry.call (heard entry.call entry.verdict) (handed_out past entry.call entry.verdict) ∷ []

-- what a door said, once it refused a call
abbrev pub said_refused : MetaFault → MetaCall → List MetaAnswer → List MetaAnswer
said_refused (faults.OldTerm fence) call said = said ++ answer_of call (verdicts.OldTerm fence) [] ∷ []
said_refused (faults.Conflict found) call said = said ++ answer_of call (verdicts.Conflict found) [] ∷ []
said_refused faults.Limit call said = said ++ answer_of call verdicts.Limit [] ∷ []
said_refused faults.NoMemory call said = said

-- the journal that a door tells, with the entry of one call more
abbrev pub told_more : Option (List MetaEntry) → ℕ → MetaCall → Option (List MetaEntry)
told_more told driver call = option_map (λ journal. noted journal driver call) told

-- the same, once it refused a call
abbrev pub told_refused : MetaFault → ℕ → MetaCall → Option (List MetaEntry) → Option (List MetaEntry)
told_refused (faults.OldTerm fence) driver call told = told_more told driver call
told_refused (faults.Conflict found) driver call told = told_more told driver call
told_refused faults.Limit driver call told = told_more told driver call
told_refused faults.NoMemory driver call told = told
