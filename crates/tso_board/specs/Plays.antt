-- What each step on the table tells: of the step, the seat before, the number found and the seat after.
use Rattle.std.specs.Prelude.{◌≡◌, ◌≢◌, true, false, ℕ, ◌+◌, ◌/◌, ◌^◌, ◌<◌}
use Rattle.pd_types.specs.declared.stamp.TheConstants.{LOGICAL}
use Rattle.atomic_table.specs.Table.{Me, Step}
use Rattle.tso_model.specs.declared.view.View.{View}
use Rattle.tso_model.specs.declared.step.WordStep.TheVariants.{LoadCell, ClaimTerm, SaveEnd, RaiseCursor, StoreLimit, ClearLimit, LoadLimit, ArmCount, AddArmed}
use Rattle.tso_model.specs.Words.{cell_of, cell_word, packed, passes}
use Rattle.tso_model.specs.Steps.{view_after, held, hand, batch_of}
use Rattle.tso_board.specs.Told.{Read, Claimed, Missed, Saved, Drawn, NotDrawn}

-- the table has no slot, so that a slot's value is a unit
abbrev pub Sat : Type 0
Sat = Me (Unit {0}) View

-- what a step tells: of the step, what its actor knew, the number found and what it knows then
abbrev pub Play : Type 1
Play = Step (Unit {0}) → Sat → ℕ → Sat → Type 0

-- the cell was loaded
abbrev pub read : Play
read st m found n = (n ≡ (view_after LoadCell found m.0, m.1)) × (found < 2 ^ 63) × Read (cell_of found) m.0 (view_after LoadCell found m.0)

-- the cell was compared with the known one and exchanged for the next term
abbrev pub campaigned : Play
campaigned st m found n = (n ≡ (view_after ClaimTerm found m.0, m.1)) × (found < 2 ^ 63)
    × (found ≡ cell_word m.0.cell → Claimed (m.0.cell.term + 1) m.0 (view_after ClaimTerm found m.0)) × (found ≢ cell_word m.0.cell → Missed (cell_of found) m.0 (view_after ClaimTerm found m.0))

-- the cell was compared with the held window's and exchanged for a later end, which is the time in the step's second number
abbrev pub saved : Play
saved st m found n = (n ≡ (view_after (SaveEnd (st.second / LOGICAL)) found m.0, m.1)) × (found < 2 ^ 63)
    × (found ≡ packed (held m.0).hi (held m.0).term → Saved (st.second / LOGICAL) m.0 (view_after (SaveEnd (st.second / LOGICAL)) found m.0))
    × (found ≢ packed (held m.0).hi (held m.0).term → Missed (cell_of found) m.0 (view_after (SaveEnd (st.second / LOGICAL)) found m.0))

-- what was armed was added to the cursor
abbrev pub drew : Play
drew st m found n = (n ≡ (view_after AddArmed found m.0, m.1)) × (found + m.0.armed < 2 ^ 64)
    × (passes found (hand m.0).hi m.0.armed ≡ false → Drawn (batch_of found m.0) m.0 (view_after AddArmed found m.0)) × (passes found (hand m.0).hi m.0.armed ≡ true → NotDrawn found m.0 (view_after AddArmed found m.0))

-- the cursor was raised to the step's first number
abbrev pub raised_to : Play
raised_to st m found n = n ≡ (view_after (RaiseCursor st.first) found m.0, m.1)

-- the end and the term of the held window were stored
abbrev pub published : Play
published st m found n = n ≡ (view_after StoreLimit 0 m.0, m.1)

-- 0 was stored as the limit
abbrev pub gave_up : Play
gave_up st m found n = n ≡ (view_after ClearLimit 0 m.0, m.1)

-- the limit word of a driver was loaded, whose number is that of the word
abbrev pub limited : Play
limited st m found n = (n ≡ (view_after (LoadLimit ((st.word + 1) / 2)) found m.0, m.1)) × (found < 2 ^ 63)

-- the cursor was loaded, and this count armed where it fits
abbrev pub armed_by : ℕ → Play
armed_by count st m found n = (n ≡ (view_after (ArmCount count) found m.0, m.1)) × (found + LOGICAL < 2 ^ 64)
