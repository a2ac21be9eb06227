-- The value that a rule is printed as has no float, and nests little.
use Rattle.std.proofs.Common.{ℕ, ◌≡◌, ◌≤◌, refl, arith, List, [], ◌∷◌, map, false}
use Rattle.serde_json.specs.Data.{string, depth, items_depth}
use Rattle.serde_json.specs.View.{items_of}
use Rattle.serde_json.specs.Read.{max_depth}
use Rattle.serde_json.specs.Written.{has_float, items_have_float}
use Rattle.pd_types.specs.declared.rule.Constraint.{Constraint}
use Rattle.pd_types.specs.declared.rule.Rule.{Rule}
use Rattle.rule_text.specs.Meaning.{constraint_data, rule_data}

texts_whole : (texts : List (List ℕ)) → items_have_float (items_of (map string texts)) ≡ false
texts_whole [] = refl
texts_whole (t ∷ texts) = texts_whole texts

ones_whole : (ones : List Constraint) → items_have_float (items_of (map constraint_data ones)) ≡ false
ones_whole [] = refl
ones_whole (one ∷ ones) = rw (texts_whole one.values) (ones_whole ones)

pub rule_whole : (rule : Rule) → has_float (rule_data rule) ≡ false
rule_whole rule = rw (ones_whole rule.constraints, texts_whole rule.locations) refl

texts_flat : (texts : List (List ℕ)) → items_depth (items_of (map string texts)) ≡ 0
texts_flat [] = refl
texts_flat (t ∷ texts) = rw (texts_flat texts) refl

ones_flat : (ones : List Constraint) → items_depth (items_of (map constraint_data ones)) ≤ 2
ones_flat [] = omega arith
ones_flat (one ∷ ones) = let rest = ones_flat ones in rw (texts_flat one.values) (omega arith)

pub rule_shallow : (rule : Rule) → depth (rule_data rule) ≤ max_depth
rule_shallow rule = let ones = ones_flat rule.constraints in rw (texts_flat rule.locations) (omega arith)
