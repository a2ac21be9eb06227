-- How a run names its metadata and the streams to its stores (own choice: what lies behind a lock is known by its type alone).
use Rattle.std.specs.Prelude.{ℕ, List, [], filter, ◌==◌}
use Rattle.atomic_table.specs.Seated.{TableId}
use Rattle.pd_turn.specs.Turns.{TurnValue, turn_value}

-- a stream: of which driver's cluster, to which store, and which stream it is
pub record StreamName : Type 0 where
  pub driver : ℕ
  pub store : ℕ
  pub stream : TableId

-- the stream with these parts
abbrev pub stream_name : ℕ → ℕ → TableId → StreamName
stream_name driver store stream = record { driver = driver; store = store; stream = stream }

-- the streams of one driver's cluster
abbrev pub streams_of : ℕ → List StreamName → List StreamName
streams_of driver streams = filter (λ (name : StreamName). name.driver == driver) streams

-- the metadata that no call picked
abbrev pub no_meta : TurnValue
no_meta = turn_value (record { words = 0; slots = 0; views_name = 0; atom = 0; block = 0; offset = 0; slot_names = [] }) []
