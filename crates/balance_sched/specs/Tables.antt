-- What a scheduler goes by, and what it counts on a store (PD documentation, "Scheduling": balance of regions and of leaders).
use Rattle.std.specs.Prelude.{ℕ, List}
use Rattle.pd_types.specs.declared.region.RegionBeat.{RegionBeat}
use Rattle.pd_types.specs.declared.rule.Rule.{Rule}
use Rattle.store_table.specs.declared.entry.StoreEntry.{StoreEntry}
use Rattle.heartbeat.specs.Counts.{region_count, leader_count}
use Rattle.balance_sched.specs.declared.moves.Kind.{Kind}
use Rattle.balance_sched.specs.declared.moves.Kind.TheVariants.{Regions, Leaders}

-- the stores, the region heartbeats that stand, the rules, the regions that have an operator, and the clock
pub record Tables : Type 0 where
  pub stores : List StoreEntry
  pub held : List RegionBeat
  pub rules : List Rule
  pub busy : List ℕ
  pub now : ℕ

-- the tables with these parts
abbrev pub tables_of : List StoreEntry → List RegionBeat → List Rule → List ℕ → ℕ → Tables
tables_of stores held rules busy now = record { stores = stores; held = held; rules = rules; busy = busy; now = now }

-- what is balanced: the regions that have a peer on the store, or those that have their leader there
abbrev pub count_of : Kind → ℕ → List RegionBeat → ℕ
count_of Regions store held = region_count store held
count_of Leaders store held = leader_count store held
