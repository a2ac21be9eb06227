use Rattle.std.proofs.Common.{◌≡◌, ◌++◌, ℕ, List, All}
use Rattle.std.specs.Prelude.{Contains}
use Rattle.std.specs.Vec.Iter.{into_iter_items}
use Rattle.step_stream.specs.Streams.{TakerValue}
use Rattle.pd_shared.specs.Names.{stream_name}
use Rattle.pd_run.specs.Ends.{IsSettled}
use Rattle.pd_run.proofs.end.close.Given as goal

abbrev pub invariant-loop-store : goal.invariant-loop-store
invariant-loop-store g l = record {
  same : l.givers.items ≡ l.initial.givers.items;
  named : All (λ (end : ℕ × TakerValue). Contains g.N.ClusterName.streams (stream_name l.fn.cluster.driver end.0 end.1.stream)) (into_iter_items l.store-iterator);
  settled : (done : List (ℕ × TakerValue)) × (done ++ into_iter_items l.store-iterator ≡ into_iter_items l.initial.store-iterator) × All (IsSettled l.initial.givers.items) done;
}
