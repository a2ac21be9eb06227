-- What the checker says of a region: its plan is the candidate of the first class that has one which lowers the misfit
-- number, and in that class the one before which no other goes.
use Rattle.std.specs.Prelude.{◌≡◌, ◌≢◌, ◌<◌, ℕ, false, List, [], length, Contains, ⊤}
use Rattle.pd_types.specs.declared.region.RegionBeat.{RegionBeat}
use Rattle.pd_types.specs.declared.rule.Rule.{Rule}
use Rattle.pd_types.specs.declared.step.Step.{Step}
use Rattle.store_table.specs.declared.entry.StoreEntry.{StoreEntry}
use Rattle.rule_set.specs.InForce.{rules_at}
use Rattle.rule_set.specs.Borders.{AreRising, IsBorder}
use Rattle.rule_fit.specs.declared.answer.Certificate.{Certificate}
use Rattle.rule_fit.specs.Assignment.{Fits}
use Rattle.rule_fit.specs.Certificate.{Certifies}
use Rattle.rule_fit.specs.Suits.{suits_in, counts_of}
use Rattle.rule_checker.specs.declared.class.Class.{Class}
use Rattle.rule_checker.specs.declared.class.Ranked.{Ranked}
use Rattle.rule_checker.specs.declared.verdict.Verdict.{Verdict}
use Rattle.rule_checker.specs.declared.verdict.Verdict.TheVariants.{NeedsSplit, NoFault, Plan, NoPlan}
use Rattle.rule_checker.specs.Candidates.{steps_of}
use Rattle.rule_checker.specs.Ranks.{is_before, place_of}
use Rattle.rule_checker.specs.Measure.{HasNumber, Lowers}

-- no candidate of the class lowers the number
abbrev pub HasNone : Class → RegionBeat → List Rule → List StoreEntry → ℕ → ℕ → Type 0
HasNone class beat rules stores now from = (one : Ranked) → Lowers class beat rules stores now from one → ⊥

-- the class's candidate that lowers the number and before which no other one goes
pub record IsFirst (class : Class) (beat : RegionBeat) (rules : List Rule) (stores : List StoreEntry) (held : List RegionBeat) (now : ℕ) (from : ℕ) (best : Ranked) : Type 0 where
  pub lowers : Lowers class beat rules stores now from best
  pub first : (other : Ranked) → Lowers class beat rules stores now from other → is_before class held other best ≡ false

-- by the region's misfit number, of the first class that has a candidate which lowers it the one that goes first; its steps, and what they leave
pub record IsPlan (beat : RegionBeat) (rules : List Rule) (stores : List StoreEntry) (held : List RegionBeat) (now : ℕ) (class : Class) (steps : List Step) (from to : ℕ) : Type 0 where
  pub number : HasNumber beat rules stores now from
  pub best : Ranked
  pub first : IsFirst class beat rules stores held now from best
  pub earlier : (other : Class) → place_of other < place_of class → HasNone other beat rules stores now from
  pub carried : steps ≡ steps_of class beat stores now best.peer
  pub left : to ≡ best.to

-- no candidate of any class lowers the number, and the certificate shows that the region doesn't fit
pub record IsStuck (beat : RegionBeat) (rules : List Rule) (stores : List StoreEntry) (now : ℕ) (from : ℕ) (certificate : Certificate) : Type 0 where
  pub number : HasNumber beat rules stores now from
  pub none : (class : Class) → HasNone class beat rules stores now from
  pub certified : Certifies (suits_in beat rules stores now) beat.region.peers (counts_of rules) certificate

-- the borders inside the region, of which there are some
pub record Crosses (beat : RegionBeat) (set : List Rule) (keys : List (List ℕ)) : Type 0 where
  pub some : keys ≢ []
  pub rising : AreRising keys
  pub inside : (key : List ℕ) → Contains keys key → IsBorder set beat.region key
  pub every : (key : List ℕ) → IsBorder set beat.region key → Contains keys key

-- the region crosses no border
abbrev pub IsWhole : RegionBeat → List Rule → Type 0
IsWhole beat set = (key : List ℕ) → IsBorder set beat.region key → ⊥

-- each peer can be given a rule that it suits, and each rule its count
abbrev pub FitsRules : RegionBeat → List Rule → List StoreEntry → ℕ → Type 0
FitsRules beat rules stores now = Fits (suits_in beat rules stores now) (length beat.region.peers) (counts_of rules)

-- the verdict on a region that crosses no border, by the rules in force at its start
abbrev pub Judges : RegionBeat → List Rule → List StoreEntry → List RegionBeat → ℕ → Verdict → Type 0
Judges beat rules stores held now (NeedsSplit keys) = ⊥
Judges beat rules stores held now NoFault = FitsRules beat rules stores now
Judges beat rules stores held now (Plan class steps from to) = (¬ FitsRules beat rules stores now) × IsPlan beat rules stores held now class steps from to
Judges beat rules stores held now (NoPlan from certificate) = (¬ FitsRules beat rules stores now) × IsStuck beat rules stores now from certificate

-- the verdict
abbrev pub IsVerdict : RegionBeat → List Rule → List StoreEntry → List RegionBeat → ℕ → Verdict → Type 0
IsVerdict beat set stores held now (NeedsSplit keys) = Crosses beat set keys
IsVerdict beat set stores held now verdict = IsWhole beat set × Judges beat (rules_at beat.region.start set) stores held now verdict

-- a plan leaves less than the region's misfit number, by which it starts
abbrev pub LowersNumber : RegionBeat → List Rule → List StoreEntry → ℕ → Verdict → Type 0
LowersNumber beat set stores now (Plan class steps from to) = (to < from) × HasNumber beat (rules_at beat.region.start set) stores now from
LowersNumber beat set stores now verdict = ⊤
