-- Sets of peers and of rules, by a test of their places.
use Rattle.std.specs.Prelude.{ℕ, Bool, false, List, length, get_or, cond, nat_eq}
use Rattle.std.specs.List.{list_any}
use Rattle.rule_fit.specs.Sums.{sum_below, any_below}

-- the place is in the list
abbrev pub listed : List ℕ → ℕ → Bool
listed places p = list_any (λ place. nat_eq place p) places

-- how many peers are chosen
abbrev pub size_of : ℕ → (ℕ → Bool) → ℕ
size_of peers chosen = sum_below peers (λ p. cond (chosen p) 1 0)

-- a chosen peer suits the rule at r
abbrev pub wanted : (ℕ → ℕ → Bool) → ℕ → (ℕ → Bool) → ℕ → Bool
wanted suits peers chosen r = any_below peers (λ p. cond (chosen p) (suits p r) false)

-- the sum of the counts of the rules that pass
abbrev pub capacity : List ℕ → (ℕ → Bool) → ℕ
capacity counts test = sum_below (length counts) (λ r. cond (test r) (get_or counts r 0) 0)
