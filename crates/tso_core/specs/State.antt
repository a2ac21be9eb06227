-- The state that a `Core` in memory means.
use Rattle.tso_core.specs.declared.oracle.Core.TheInside.{Inside}
use Rattle.tso_core.specs.Machine.{whole_of}
use Rattle.tso_core.specs.Whole.{Whole}
use Rattle.tso_core.specs.Sound.{IsSound}

-- the state
abbrev pub state_of : Inside → Whole
state_of c = whole_of c.machine

-- it is sound
abbrev pub IsKept : Inside → Type 0
IsKept c = IsSound (state_of c)
