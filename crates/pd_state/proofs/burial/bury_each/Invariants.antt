use Rattle.std.proofs.Common.{◌≡◌, ◌≤◌, drop, ◌<◌, false, All, AllPairs, Some}
use Rattle.pd_types.specs.declared.store.StoreRec.{StoreRec}
use Rattle.pd_types.specs.declared.store.StoreState.TheVariants as states
use Rattle.store_table.specs.Entries.{state_at}
use Rattle.pd_state.specs.Asking.{Ear, Talks, ear}
use Rattle.pd_state.specs.Checking.{Burial, burial_at, bury}
use Rattle.pd_state.proofs.burial.bury_each.Given as goal

-- what the rest comes to is what the whole comes to; the stores that are left are Offline still
abbrev pub invariant-loop-grave : goal.invariant-loop-grave
invariant-loop-grave g l = record {
  on : (value : Burial) (last : Ear) → Talks Burial (bury l.fn.part.term (drop l.grave-index l.graves) (burial_at l.part l.burial)) value l.driver (ear l.answers l.part.known (g.M.Door.said l.door) (g.M.Door.told l.door)) last
      → Talks Burial (bury l.fn.part.term l.graves (burial_at l.fn.part (record { buried = 0; stopped = false }))) value l.driver (ear l.fn.answers l.fn.part.known (g.M.Door.said l.fn.door) (g.M.Door.told l.fn.door)) last;
  few : l.burial.buried ≤ l.grave-index;
  offline : All (λ (grave : StoreRec). state_at grave.id l.part.stores ≡ Some states.Offline) (drop l.grave-index l.graves);
  apart : AllPairs (λ (one other : StoreRec). one.id < other.id) (drop l.grave-index l.graves);
  rest : l.part ≡ record l.fn.part { stores = l.part.stores; known = l.part.known };
  place : g.M.Door.place l.door ≡ g.M.Door.place l.fn.door;
}
