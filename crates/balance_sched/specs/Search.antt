-- What a search has found so far. Private contracts alone cite this.
use Rattle.std.specs.Prelude.{◌≡◌, ◌<◌, ◌≤◌, ℕ, nat_lt, nat_eq, nat_le, Bool, true, false, not, ◌&&◌, ◌||◌, List, map, Option, Some, None, slice_get, IfSome, ◌⊎◌, ⊤}
use Rattle.pd_types.specs.declared.region.RegionBeat.{RegionBeat}
use Rattle.store_table.specs.declared.entry.StoreEntry.{StoreEntry}
use Rattle.store_table.specs.Entries.{is_live, is_usable}
use Rattle.balance_sched.specs.declared.moves.Kind.{Kind}
use Rattle.balance_sched.specs.declared.moves.Kind.TheVariants.{Regions, Leaders}
use Rattle.balance_sched.specs.declared.moves.Move.{Move}
use Rattle.balance_sched.specs.Tables.{Tables, count_of}
use Rattle.balance_sched.specs.Moves.{FitsRules, IsMoveOf, IsAdmissible, done, goes_before, is_target}

-- the stores to which a region's moves may go: all, or those of its peers
abbrev pub targets : Kind → RegionBeat → List StoreEntry → List ℕ
targets Regions beat stores = map (λ entry. entry.store.id) stores
targets Leaders beat stores = map (λ peer. peer.store) beat.region.peers

-- the move goes before what was found
abbrev pub Beats : Move → Option Move → Type 0
Beats move None = ⊤
Beats move (Some best) = goes_before move best ≡ true

-- something was found, before which the move doesn't go
abbrev pub Loses : Move → Option Move → Type 0
Loses move None = ⊥
Loses move (Some best) = goes_before move best ≡ false

-- what is found is what was found before, or a move of the region that goes before it
abbrev pub Follows : Kind → Tables → RegionBeat → Option Move → Option Move → Type 0
Follows kind tables beat old new = (new ≡ old) ⊎ ((move : Move) × ((new ≡ Some move) × IsMoveOf kind tables beat move × Beats move old))

-- each move of the region loses
abbrev pub AllLose : Kind → Tables → RegionBeat → Option Move → Type 0
AllLose kind tables beat best = (move : Move) → IsMoveOf kind tables beat move → Loses move best

-- each move of the region from this store loses
abbrev pub LoseFrom : Kind → Tables → RegionBeat → ℕ → Option Move → Type 0
LoseFrom kind tables beat from best = (move : Move) → move.from ≡ from → IsMoveOf kind tables beat move → Loses move best

-- each move of the region between these stores loses
abbrev pub LoseBetween : Kind → Tables → RegionBeat → ℕ → ℕ → Option Move → Type 0
LoseBetween kind tables beat from to best = (move : Move) → move.from ≡ from → move.to ≡ to → IsMoveOf kind tables beat move → Loses move best

-- of the first n regions the best move
pub record IsBest (kind : Kind) (tables : Tables) (n : ℕ) (best : Option Move) : Type 0 where
  pub found : IfSome best (IsAdmissible kind tables)
  pub none : (k : ℕ) (beat : RegionBeat) → k < n → slice_get tables.held k ≡ Some beat → AllLose kind tables beat best

-- each live and usable store has at least this count
abbrev pub IsLeast : Kind → Tables → ℕ → Type 0
IsLeast kind tables least = (store : ℕ) → is_live store tables.now tables.stores ≡ true → is_usable store tables.now tables.stores ≡ true → least ≤ count_of kind store tables.held

-- a move of this region with a difference of at most `most` can go before what was found
abbrev pub can_win : Option Move → ℕ → ℕ → Bool
can_win None region most = not (nat_lt most 2)
can_win (Some best) region most = not (nat_lt most 2) && (nat_lt best.difference most || (nat_eq best.difference most && nat_le region best.region))

-- both stores and the region's peers allow the move
abbrev pub may_go : Kind → Tables → RegionBeat → Move → Bool
may_go kind tables beat move =
    is_live move.from tables.now tables.stores && (is_live move.to tables.now tables.stores && (is_usable move.to tables.now tables.stores && is_target kind tables move.to beat))

-- and the region fits once it is done
pub record IsAllowed (kind : Kind) (tables : Tables) (beat : RegionBeat) (move : Move) : Type 0 where
  pub goes : may_go kind tables beat move ≡ true
  pub after : FitsRules tables (done kind move beat)
