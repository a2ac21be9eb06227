-- The greatest numbers that events name.
use Rattle.std.proofs.Common.{ℕ, ◌≤◌, List, [], ◌∷◌, All, arith}
use Rattle.std.specs.List.{AllByRecursion}
use Rattle.std.proofs.lemmas.List.Elements.{All-from_recursion}
use Rattle.pd_script.specs.Scripts.{greatest}
use Rattle.pd_script.specs.declared.event.Event.{Event}
use Rattle.pd_script.specs.declared.event.Numbered.{Numbered}

pub at_least_one : (of : Event → ℕ) (events : List Numbered) → 1 ≤ greatest of events
at_least_one of [] = omega arith
at_least_one of (e ∷ es) = omega (arith, at_least_one of es)

each_below : (of : Event → ℕ) (most : ℕ) (events : List Numbered) → greatest of events ≤ most → AllByRecursion (λ e. of e.event ≤ most) events
each_below of most [] h = tt
each_below of most (e ∷ es) h = (omega arith, each_below of most es (omega arith))

pub each_within : (of : Event → ℕ) (most : ℕ) (events : List Numbered) → greatest of events ≤ most → All (λ e. of e.event ≤ most) events
each_within of most events h = All-from_recursion _ _ (each_below of most events h)
