-- The streams of a run, from each driver's cluster to each store that acts, and the ports that stores get.
use Rattle.std.specs.Prelude.{◌≡◌, ℕ, ◌+◌, List, [], ◌∷◌, ◌++◌, false, All, map}
use Rattle.std.specs.Arc.{arc_value}
use Rattle.step_stream.specs.Streams.{end_value, taker_value}
use Rattle.pd_shared.specs.Names.{StreamName, stream_name}
use Rattle.pd_shared.specs.Outlets.{OutletValue, outlet_of}
use Rattle.pd_shared.specs.Shares.{SharedValue, actor_of, new_share}
use Rattle.pd_run.specs.declared.begin.PopEnd.{PopEnd}
use Rattle.pd_run.specs.declared.line.StoreLines.{StoreLines}
use Rattle.pd_run.specs.declared.pipe.Pipe.{Pipe}
use Rattle.pd_run.specs.declared.storing.Port.{Port}
use Rattle.pd_run.specs.declared.storing.StoreWork.{StoreWork}

-- a stream with both its ends, by which nothing was pushed or popped
pub record IsNewPipe (p : Pipe) : Type 0 where
  pub giver : p.giver ≡ end_value (arc_value p.stream) []
  pub taker : p.taker ≡ taker_value (arc_value p.stream) [] []

-- a new stream to each of these stores, in their order
pub record ArePipesTo (stores : List ℕ) (pipes : List Pipe) : Type 0 where
  pub new : All IsNewPipe pipes
  pub stores_are : map (λ (p : Pipe). p.store) pipes ≡ stores

-- the name of a stream from the cluster of this driver
abbrev pub pipe_name : ℕ → Pipe → StreamName
pipe_name driver p = stream_name driver p.store (arc_value p.stream)

-- the names of the streams from the clusters of all drivers, from this one on
abbrev pub names_from : ℕ → List (List Pipe) → List StreamName
names_from driver [] = []
names_from driver (pipes ∷ more) = map (pipe_name driver) pipes ++ names_from (driver + 1) more

-- the cluster's end of a stream
abbrev pub outlet_by : Pipe → OutletValue
outlet_by p = outlet_of p.store (arc_value p.stream) []

-- the store's end of a stream
abbrev pub end_by : Pipe → PopEnd
end_by p = record { stream = p.stream; taker = p.taker }

-- a new port of a pipe's store to this cluster
pub record OpensPort {N : Type 0} (cluster : SharedValue) (pipe : Pipe) (p : Port N) : Type 0 where
  pub share_is : p.share ≡ new_share cluster (actor_of cluster.driver pipe.store)
  pub taker_is : p.taker ≡ taker_value (arc_value pipe.stream) [] []
  pub stream_is : arc_value p.stream ≡ arc_value pipe.stream

-- a worker of a store with these lines, which has no port yet
pub record BeginsStore {N : Type 0} (lines : StoreLines) (w : StoreWork N) : Type 0 where
  pub store : w.store ≡ lines.store
  pub lines_are : w.lines ≡ lines.lines
  pub ports : w.ports.items ≡ []
  pub answers : w.answers.items ≡ []
  pub fine : w.failed ≡ false

-- a store got a port behind those that it had
pub record GotPort {N : Type 0} (port : Port N) (old new : StoreWork N) : Type 0 where
  pub store : new.store ≡ old.store
  pub ports : new.ports.items ≡ old.ports.items ++ port ∷ []
  pub lines_are : new.lines ≡ old.lines
  pub answers : new.answers ≡ old.answers
  pub failed : new.failed ≡ old.failed

-- each store got one of the ports behind those that it had
abbrev pub GotPorts : {N : Type 0} → List (Port N) → List (StoreWork N) → List (StoreWork N) → Type 0
GotPorts [] [] [] = Unit {0}
GotPorts (p ∷ ports) (old ∷ olds) (new ∷ news) = GotPort p old new × GotPorts ports olds news
GotPorts _ _ _ = ⊥
