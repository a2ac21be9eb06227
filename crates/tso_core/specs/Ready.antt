-- What a step asks of a view and of the words, so that no number is out of range.
use Rattle.std.specs.Prelude.{ℕ, ◌+◌, ◌<◌, ◌≤◌, ◌^◌, [], ◌∷◌, ◌++◌}
use Rattle.pd_types.specs.declared.oracle.Seen.{Seen}
use Rattle.pd_types.specs.declared.stamp.TheConstants.{LOGICAL}
use Rattle.pd_types.specs.declared.oracle.TheConstants.{CLOCK_END, LAST_TERM}
use Rattle.tso_model.specs.declared.view.View.{View}
use Rattle.tso_model.specs.declared.step.WordStep.{WordStep}
use Rattle.tso_model.specs.declared.step.WordStep.TheVariants.{LoadCell, ClaimTerm, SaveEnd, RaiseCursor, StoreLimit, ClearLimit, LoadLimit, ArmCount, AddArmed}
use Rattle.tso_model.specs.History.{added_by}
use Rattle.tso_model.specs.Moves.{greater}
use Rattle.tso_model.specs.Steps.{held, hand}
use Rattle.tso_model.specs.Words.{IsCell}

-- the view that heard a note with this pair
abbrev pub heard : Seen → View → View
heard seen v = record v {
  took_drivers = v.took_drivers ++ 0 ∷ [];
  took_clients = v.took_clients ++ 0 ∷ [];
  seen = greater v.seen seen;
}

-- above each word that a step finds: a cursor stands at most 64 ms past a saved end, which is below 2^45 ms
abbrev pub word_end : ℕ
word_end = 2 ^ 63 + 2 ^ 26

-- the cell that it knows is in range
abbrev pub CellFits : View → Type 0
CellFits v = IsCell v.cell

-- its latest window is in range
pub record HeldFits (v : View) : Type 0 where
  pub hi : (held v).hi < CLOCK_END
  pub term : (held v).term < LOGICAL

-- the limit in hand and what is armed are in range
pub record HandFits (v : View) : Type 0 where
  pub hi : (hand v).hi < CLOCK_END
  pub driver : (hand v).driver < 8
  pub armed : v.armed ≤ LOGICAL

-- what the step uses of the view is in range, and so is its own number
abbrev pub Suits : WordStep → View → Type 0
Suits LoadCell v = Unit {0}
Suits ClaimTerm v = CellFits v × (v.cell.term < LAST_TERM)
Suits (SaveEnd hi) v = HeldFits v × (hi < CLOCK_END)
Suits (RaiseCursor at) v = Unit {0}
Suits StoreLimit v = HeldFits v
Suits ClearLimit v = Unit {0}
Suits (LoadLimit d) v = Unit {0}
Suits (ArmCount n) v = HandFits v × (n < LOGICAL)
Suits AddArmed v = HandFits v × (added_by v.client (hand v).driver v.added + v.armed < 2 ^ 64)
