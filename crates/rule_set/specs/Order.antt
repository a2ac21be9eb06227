-- The order of placement rules (PD documentation, "Placement Rules": by group, index and id).
use Rattle.std.specs.Prelude.{◌≡◌, ℕ, Bool, true, ◌&&◌, not, List, ◌∷◌, ◌++◌, filter, AllPairs}
use Rattle.std.specs.Ordering.{nat_cmp, ordering_then, is_lt}
use Rattle.std.specs.declared.cmp.Ordering.{Ordering}
use Rattle.pd_types.specs.declared.rule.Rule.{Rule}
use Rattle.pd_types.specs.Keys.{bytes_order}
use Rattle.std.specs.Str.{bytes_eq}

-- by group, then by index, then by id
abbrev pub order_of : Rule → Rule → Ordering
order_of one other =
    ordering_then (bytes_order one.group other.group) (ordering_then (nat_cmp one.index other.index) (bytes_order one.id other.id))

-- the first rule comes before the second
abbrev pub comes_before : Rule → Rule → Bool
comes_before one other = is_lt (order_of one other)

-- each rule comes before those behind it
abbrev pub AreInOrder : List Rule → Type 0
AreInOrder rules = AllPairs (λ one later. comes_before one later ≡ true) rules

-- two rules have another group or another id
abbrev pub AreApart : Rule → Rule → Type 0
AreApart one other = one.group ≡ other.group → one.id ≡ other.id → ⊥

-- no two rules have one group and id
abbrev pub AreNamedApart : List Rule → Type 0
AreNamedApart rules = AllPairs AreApart rules

-- the rule has this group and this id
abbrev pub is_named : List ℕ → List ℕ → Rule → Bool
is_named group id rule = bytes_eq rule.group group && bytes_eq rule.id id

-- the rules of other names
abbrev pub without : List ℕ → List ℕ → List Rule → List Rule
without group id rules = filter (λ rule. not (is_named group id rule)) rules

-- the rule behind those that come before it, and before the others
abbrev pub placed : Rule → List Rule → List Rule
placed rule rules = filter (λ one. comes_before one rule) rules ++ (rule ∷ filter (λ one. not (comes_before one rule)) rules)
