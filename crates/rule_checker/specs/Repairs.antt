-- Plans that are carried out one after the other, while the stores, the rules and the clock stay.
use Rattle.std.specs.Prelude.{◌≡◌, ℕ, List, [], ◌∷◌, ⊤}
use Rattle.pd_types.specs.WellFormed.{IsWellFormed}
use Rattle.pd_types.specs.declared.region.RegionBeat.{RegionBeat}
use Rattle.pd_types.specs.declared.rule.Rule.{Rule}
use Rattle.pd_types.specs.declared.step.Step.{Step}
use Rattle.store_table.specs.declared.entry.StoreEntry.{StoreEntry}
use Rattle.op_step.specs.Carried.{MayTake, left_by}
use Rattle.rule_checker.specs.declared.class.Class.{Class}
use Rattle.rule_checker.specs.declared.verdict.Verdict.TheVariants.{Plan}
use Rattle.rule_checker.specs.Plan.{IsVerdict}

-- the checker, beside whatever heartbeats stood, had a plan for the region, and the region is now as its steps leave it, the new peer with an id of its own
pub record IsRepaired (set : List Rule) (stores : List StoreEntry) (now : ℕ) (beat later : RegionBeat) : Type 0 where
  pub formed : IsWellFormed beat
  pub held : List RegionBeat
  pub class : Class
  pub steps : List Step
  pub from : ℕ
  pub to : ℕ
  pub plan : IsVerdict beat set stores held now (Plan class steps from to)
  pub id : ℕ
  pub free : MayTake id beat
  pub left : later ≡ left_by id steps beat

-- each heartbeat is of the region as the plan for the one before it leaves it
abbrev pub AreRepairs : List Rule → List StoreEntry → ℕ → RegionBeat → List RegionBeat → Type 0
AreRepairs set stores now beat [] = ⊤
AreRepairs set stores now beat (later ∷ rest) = IsRepaired set stores now beat later × AreRepairs set stores now later rest
