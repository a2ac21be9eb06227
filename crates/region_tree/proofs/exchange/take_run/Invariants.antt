use Rattle.std.proofs.Common.{◌≡◌, ◌≤◌, ◌++◌, ℕ, cond, nat_eq, None, vec_capacity}
use Rattle.std.specs.FinMap as map
use Rattle.std.specs.List.{list_any}
use Rattle.std.specs.Vec.Iter.{drain_items}
use Rattle.region_tree.proofs.exchange.take_run.Given as goal

abbrev pub invariant-loop-one : goal.invariant-loop-one
invariant-loop-one l = record {
  so_far : l.removed.items ++ drain_items l.one-iterator ≡ drain_items l.initial.one-iterator;
  room : vec_capacity l.initial.removed ≤ vec_capacity l.removed;
  index : (q : ℕ) → map.get l.index q ≡ cond (list_any (λ one. nat_eq one.region.id q) l.removed.items) None (map.get l.initial.index q);
}
