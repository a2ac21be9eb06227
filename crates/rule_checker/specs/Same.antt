-- When two verdicts say the same, certificates aside.
use Rattle.std.specs.Prelude.{◌≡◌, ℕ, List, Contains, ⊤}
use Rattle.rule_checker.specs.declared.verdict.Verdict.{Verdict}
use Rattle.rule_checker.specs.declared.verdict.Verdict.TheVariants.{NeedsSplit, NoFault, Plan, NoPlan}

-- the same kind of verdict, with the same keys, class, steps and numbers
abbrev pub SaysSame : Verdict → Verdict → Type 0
SaysSame (NeedsSplit keys) (NeedsSplit others) = (key : List ℕ) → Contains keys key → Contains others key
SaysSame NoFault NoFault = ⊤
SaysSame (Plan class steps from to) (Plan class' steps' from' to') = (class ≡ class') × (steps ≡ steps') × (from ≡ from') × (to ≡ to')
SaysSame (NoPlan from certificate) (NoPlan from' certificate') = from ≡ from'
SaysSame one other = ⊥
