-- Bytes mean one rule at most.
use Rattle.std.proofs.Common.{ℕ, ◌≡◌, sym, ap, ◌∙◌, List, Some, None, inl, inr}
use Rattle.serde_json.specs.Data.{Data}
use Rattle.pd_types.specs.declared.rule.Rule.{Rule}
use Rattle.rule_text.specs.declared.fault.RuleFault.{RuleFault}
use Rattle.rule_text.specs.declared.fault.RuleFault.TheVariants.{NoMemory}
use Rattle.rule_text.specs.Meaning.{rule_of}
use Rattle.rule_text.specs.Tests.{first_failing, tests_of, Means, RefusedText}

pub one_value : (a b : Data) → Some a ≡ Some b → a ≡ b
one_value a b h = cc h

pub one_rule : (bytes : List ℕ) (a b : Rule) → Means bytes a → Means bytes b → a ≡ b
one_rule bytes a b m n =
    let same : m.value ≡ n.value = one_value m.value n.value (sym m.json ∙ n.json) in
    m.rule_is ∙ (ap rule_of same ∙ sym n.rule_is)

no_other : (fault : RuleFault) (d : Data) → first_failing (tests_of d) ≡ None → first_failing (tests_of d) ≡ Some fault → ⊥
no_other fault d h k = cc (h, k)

pub only_memory : (bytes : List ℕ) (rule : Rule) (fault : RuleFault) → Means bytes rule → RefusedText bytes fault → fault ≡ NoMemory
only_memory bytes rule fault m (inl h) = h
only_memory bytes rule fault m (inr (inl h)) = absurd (cc (m.json, h.1 m.text))
only_memory bytes rule fault m (inr (inr h)) =
    let same : m.value ≡ h.value = one_value m.value h.value (sym m.json ∙ h.json) in
    absurd (no_other fault h.value (ap (λ (d : Data). first_failing (tests_of d)) (sym same) ∙ m.passes) h.first)
