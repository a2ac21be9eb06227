-- Which id a new peer gets, in words (PD's id allocator: ids rise, and none is given out twice; that an id of the region is passed over is our own choice).
use Rattle.std.specs.Prelude.{◌≡◌, ℕ, ◌+◌, ◌<◌, ◌≤◌, Bool, true, false, Some, None}
use Rattle.pd_types.specs.declared.region.RegionBeat.{RegionBeat}
use Rattle.id_alloc.specs.Windows.{is_used_up}
use Rattle.op_step.specs.Peers.{has_id}
use Rattle.op_control.specs.declared.operator.NewOp.{NewOp}
use Rattle.op_control.specs.Adding.{refusal_of, with_new_id}
use Rattle.pd_state.specs.Adding.{Around, Planning, Work, asks_id, entered, left_out, with_window}
use Rattle.pd_state.specs.declared.adding.Adding.{Adding}
use Rattle.pd_state.specs.declared.adding.Adding.TheVariants as adding

-- each id above the one number and below the other is that of a peer of the region
abbrev pub ArePeers : RegionBeat → ℕ → ℕ → Type 0
ArePeers beat from to = (id : ℕ) → from < id → id < to → has_id id beat ≡ true

-- the id is the least above the taken ones that no peer of the region has
pub record IsNextFree (beat : RegionBeat) (taken id : ℕ) : Type 0 where
  pub above : taken < id
  pub free : has_id id beat ≡ false
  pub least : ArePeers beat taken id

-- the operator was added: its new peer has the next free id, and all ids up to that one are taken then
pub record HasNewId (around : Around) (op : NewOp) (beat : RegionBeat) (old : Planning) (work : Work) : Type 0 where
  pub id : ℕ
  pub next : IsNextFree beat old.window.taken id
  pub taken : work.planning.window.taken ≡ id
  pub enters : work ≡ entered around (with_new_id op id) beat (with_window old work.planning.window)

-- No id was left for its new peer: what was left of the window were ids of the region's peers, which stay taken. Nothing else changed
pub record LacksId (beat : RegionBeat) (old : Planning) (work : Work) : Type 0 where
  pub kept : old.window.taken ≤ work.planning.window.taken
  pub passed : ArePeers beat old.window.taken (work.planning.window.taken + 1)
  pub none : is_used_up work.planning.window ≡ true
  pub rest : work ≡ left_out (with_window old work.planning.window) work.adding

-- an operator was added that has a new peer, or has none
abbrev pub Enters : Bool → Around → NewOp → RegionBeat → Planning → Work → Type 0
Enters true around op beat old work = HasNewId around op beat old work
Enters false around op beat old work = work ≡ entered around op beat old

-- what came of adding an operator, by its answer: where a test of its fails, nothing changed, and no id was taken. Its steps were built before
abbrev pub Comes : Adding → Around → NewOp → RegionBeat → Planning → Work → Type 0
Comes (adding.Add fault) around op beat old work = (refusal_of old.operators op (Some beat) old.limits around.now ≡ Some fault) × (work ≡ left_out old (adding.Add fault))
Comes (adding.Build fault) around op beat old work = ⊥
Comes (adding.Added answer) around op beat old work = (refusal_of old.operators op (Some beat) old.limits around.now ≡ None) × Enters (asks_id op.steps) around op beat old work
Comes (adding.OldTerm fence) around op beat old work = (refusal_of old.operators op (Some beat) old.limits around.now ≡ None) × LacksId beat old work
Comes (adding.Conflict found) around op beat old work = (refusal_of old.operators op (Some beat) old.limits around.now ≡ None) × LacksId beat old work
Comes adding.MetaLimit around op beat old work = (refusal_of old.operators op (Some beat) old.limits around.now ≡ None) × LacksId beat old work
Comes adding.IdsSpent around op beat old work = (refusal_of old.operators op (Some beat) old.limits around.now ≡ None) × LacksId beat old work
