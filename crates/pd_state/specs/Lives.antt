-- The lives of operators between two entries (PD, the states of an operator; pd-ctl, `operator check`). Each list of entries has the latest first.
use Rattle.std.specs.Prelude.{◌≡◌, ◌⊎◌, ℕ, ⊤, false, List, [], ◌∷◌, Option, Some, None}
use Rattle.std.specs.FinMap as map
use Rattle.pd_types.specs.declared.request.Request.{Request}
use Rattle.pd_types.specs.declared.request.Request.TheVariants as ask
use Rattle.op_control.specs.declared.operator.Operator.{Operator}
use Rattle.op_control.specs.declared.operator.OpState.{OpState}
use Rattle.op_control.specs.declared.operator.OpState.TheVariants.{Created}
use Rattle.op_control.specs.Life.{Lives, Where, is_active}
use Rattle.op_control.specs.Table.{Table}

-- one step of a life: to which state, and by which line of the table
pub record Turn : Type 0 where
  pub to : OpState
  pub at : Where

-- from a state these steps lead to the other, each by its line of the table
abbrev pub Leads : OpState → List Turn → OpState → Type 0
Leads from [] to = from ≡ to
Leads from (turn ∷ turns) to = Lives from turn.to turn.at × Leads turn.to turns to

-- a life goes on from a state to another by steps of the table alone, or stays there
pub record GoesOn (from to : OpState) : Type 0 where
  pub turns : List Turn
  pub leads : Leads from turns to

-- it is the same operator, whose life goes on
pub record IsFurther (old new : Operator) : Type 0 where
  pub region : new.region ≡ old.region
  pub epoch : new.epoch ≡ old.epoch
  pub kind : new.kind ≡ old.kind
  pub steps : new.steps ≡ old.steps
  pub priority : new.priority ≡ old.priority
  pub created : new.created ≡ old.created
  pub state : GoesOn old.state new.state

-- the life of the one goes on to its end, and the other is Created in its place and goes on
pub record IsReplaced (old new : Operator) : Type 0 where
  pub end : OpState
  pub ends : GoesOn old.state end
  pub ended : is_active end ≡ false
  pub begins : GoesOn Created new.state

-- what becomes of a region's last operator: none is forgotten
abbrev pub LivesOn : Option Operator → Option Operator → Type 0
LivesOn None None = ⊤
LivesOn None (Some new) = GoesOn Created new.state
LivesOn (Some old) None = ⊥
LivesOn (Some old) (Some new) = IsFurther old new ⊎ IsReplaced old new

-- so it is of each region
abbrev pub AreLives : Table → Table → Type 0
AreLives before after = (region : ℕ) → LivesOn (map.get before.last region) (map.get after.last region)

-- the request goes on with the tables that stand: a Term makes them anew
abbrev pub GoesWith : Request → Type 0
GoesWith (ask.Term term moment) = ⊥
GoesWith _ = ⊤
