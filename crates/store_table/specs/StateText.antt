-- The names of store states (pd-ctl, `store`: `state_name`).
use Rattle.std.specs.Prelude.{ℕ, List, codes}
use Rattle.store_table.specs.declared.names.StateName.{StateName}
use Rattle.store_table.specs.declared.names.StateName.TheVariants.{Up, Disconnected, Down, Offline, Tombstone}

-- the name itself
abbrev pub state_text : StateName → List ℕ
state_text Up = codes "Up"
state_text Disconnected = codes "Disconnected"
state_text Down = codes "Down"
state_text Offline = codes "Offline"
state_text Tombstone = codes "Tombstone"
