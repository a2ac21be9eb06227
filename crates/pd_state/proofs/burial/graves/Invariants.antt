use Rattle.std.proofs.Common.{◌≡◌, ◌<◌, take}
use Rattle.store_table.specs.Entries.{AreRising}
use Rattle.pd_state.proofs.Walks.{graves_of}
use Rattle.pd_state.proofs.burial.graves.Given as goal

abbrev pub invariant-loop-place : goal.invariant-loop-place
invariant-loop-place l = record {
  found : l.graves ≡ graves_of l.part.standing (take l.place l.part.stores);
  rising : 0 < l.place → AreRising l.part.stores;
}
