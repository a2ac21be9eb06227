-- Which placement rules are in force at a key (PD documentation, "Placement Rules": `start_key`, `end_key`, `override`).
use Rattle.std.specs.Prelude.{◌≡◌, ◌<◌, slice_get, Some, ℕ, Bool, true, false, ◌&&◌, not, if◌then◌else◌, List, [], ◌∷◌}
use Rattle.std.specs.List.{list_any}
use Rattle.pd_types.specs.declared.rule.Rule.{Rule}
use Rattle.pd_types.specs.Keys.{in_range}
use Rattle.std.specs.Str.{bytes_eq}

-- the rule's range holds the key
abbrev pub holds : Rule → List ℕ → Bool
holds rule key = in_range rule.start rule.end key

-- a later rule hides a rule at a key: it is of its group, its range holds the key, and it overrides
abbrev pub hides : List ℕ → Rule → Rule → Bool
hides key rule later = later.overrides && bytes_eq later.group rule.group && holds later key

-- the rule stands at a place, its range holds the key, and no rule at a later place hides it there
pub record IsInForce (rules : List Rule) (key : List ℕ) (rule : Rule) : Type 0 where
  pub place : ℕ
  pub here : slice_get rules place ≡ Some rule
  pub held : holds rule key ≡ true
  pub free : (later : ℕ) (other : Rule) → place < later → slice_get rules later ≡ Some other → hides key rule other ≡ false

-- of rules in order, those whose range holds the key and that no later one hides
abbrev pub rules_at : List ℕ → List Rule → List Rule
rules_at key [] = []
rules_at key (rule ∷ later) =
    if holds rule key && not (list_any (hides key rule) later) then rule ∷ rules_at key later else rules_at key later
