-- The verdict on a region that crosses no border.
use Rattle.std.proofs.Common.{◌≡◌, ℕ, List, [], arith, subst, Result, Ok, Err, IfOk}
use Rattle.std.specs.List.{Contains}
use Rattle.pd_types.specs.declared.memory.NoMemory.{NoMemory}
use Rattle.pd_types.specs.declared.rule.Rule.{Rule}
use Rattle.pd_types.specs.declared.region.RegionBeat.{RegionBeat}
use Rattle.store_table.specs.declared.entry.StoreEntry.{StoreEntry}
use Rattle.rule_set.specs.InForce.{rules_at}
use Rattle.rule_set.specs.Borders.{IsBorder}
use Rattle.rule_checker.specs.declared.verdict.Verdict.{Verdict}
use Rattle.rule_checker.specs.declared.verdict.Verdict.TheVariants.{NeedsSplit, NoFault, Plan, NoPlan}
use Rattle.rule_checker.specs.Plan.{IsVerdict, IsWhole, Judges}

pub no_border : (beat : RegionBeat) (set : List Rule) (keys : List (List ℕ)) → keys ≡ [] → ((key : List ℕ) → IsBorder set beat.region key → Contains keys key) → IsWhole beat set
no_border beat set keys e every = λ key border. inside key (subst (λ (ks : List (List ℕ)). Contains ks key) e (every key border))
  where
    inside : (key : List ℕ) → Contains [] key → ⊥
    inside key held = let low = held.1 in absurd (omega arith)

verdict_of : (beat : RegionBeat) (set rules : List Rule) (stores : List StoreEntry) (held : List RegionBeat) (now : ℕ) (verdict : Verdict) → rules ≡ rules_at beat.region.start set → IsWhole beat set → Judges beat rules stores held now verdict → IsVerdict beat set stores held now verdict
verdict_of beat set rules stores held now (NeedsSplit keys) e whole fact = absurd fact
verdict_of beat set rules stores held now NoFault e whole fact = (whole, subst (λ (rs : List Rule). Judges beat rs stores held now NoFault) e fact)
verdict_of beat set rules stores held now (Plan class steps from to) e whole fact = (whole, subst (λ (rs : List Rule). Judges beat rs stores held now (Plan class steps from to)) e fact)
verdict_of beat set rules stores held now (NoPlan from certificate) e whole fact = (whole, subst (λ (rs : List Rule). Judges beat rs stores held now (NoPlan from certificate)) e fact)

pub whole_verdict : (beat : RegionBeat) (set rules : List Rule) (stores : List StoreEntry) (held : List RegionBeat) (now : ℕ) (answer : Result Verdict NoMemory) → rules ≡ rules_at beat.region.start set → IsWhole beat set → IfOk answer (Judges beat rules stores held now) → IfOk answer (IsVerdict beat set stores held now)
whole_verdict beat set rules stores held now (Ok verdict) e whole fact = verdict_of beat set rules stores held now verdict e whole fact
whole_verdict beat set rules stores held now (Err fault) e whole fact = tt
