-- The misfit number as a value, for definitions that compute with it: of all ways to give the peers rules the best one counts. No program looks at them all;
-- the law `one_misfit_number` says that each misfit number is this one.
use Rattle.std.specs.Prelude.{ℕ, zero, suc, ◌+◌, ◌-◌, nat_le, Bool, true, ◌&&◌, List, [], ◌∷◌, ◌++◌, length, map, filter, sum, Option, Some, None}
use Rattle.pd_types.specs.Numbers.{greatest_of}
use Rattle.rule_fit.specs.Assignment.{held, placed}

-- what one peer may be given of so many rules: the place of one of them, or none
abbrev pub choices : ℕ → List (Option ℕ)
choices zero = None ∷ []
choices (suc n) = Some n ∷ choices n

-- each of these before each of these lists
abbrev pub with_each : List (Option ℕ) → List (List (Option ℕ)) → List (List (Option ℕ))
with_each [] rests = []
with_each (choice ∷ more) rests = map (λ rest. choice ∷ rest) rests ++ with_each more rests

-- every way to give so many peers so many rules
abbrev pub ways : ℕ → ℕ → List (List (Option ℕ))
ways zero rules = [] ∷ []
ways (suc peers) rules = with_each (choices rules) (ways peers rules)

-- each peer, from this place on, suits the rule that it is given
abbrev pub all_suited : (ℕ → ℕ → Bool) → ℕ → List (Option ℕ) → Bool
all_suited suits p [] = true
all_suited suits p (None ∷ given) = all_suited suits (suc p) given
all_suited suits p (Some r ∷ given) = suits p r && all_suited suits (suc p) given

-- no rule, from this place on, has more peers than its count
abbrev pub all_within : ℕ → List ℕ → List (Option ℕ) → Bool
all_within r [] given = true
all_within r (count ∷ counts) given = nat_le (held given r) count && all_within (suc r) counts given

-- the way gives no peer a rule that it doesn't suit, and no rule too many
abbrev pub is_allowed : (ℕ → ℕ → Bool) → List ℕ → List (Option ℕ) → Bool
is_allowed suits counts given = all_suited suits 0 given && all_within 0 counts given

-- how many peers can be given a rule at most
abbrev pub most_placed : (ℕ → ℕ → Bool) → ℕ → List ℕ → ℕ
most_placed suits peers counts = greatest_of (map placed (filter (is_allowed suits counts) (ways peers (length counts))))

-- what is missing of the counts and of the peers where the most peers have a rule
unfoldable pub misfit_number : (ℕ → ℕ → Bool) → ℕ → List ℕ → ℕ
misfit_number suits peers counts = (sum counts - most_placed suits peers counts) + (peers - most_placed suits peers counts)
