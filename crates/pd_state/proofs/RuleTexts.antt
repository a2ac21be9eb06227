-- What a text tells, against how rules are read.
use Rattle.std.proofs.Common.{refl, ◌≡◌, ◌≢◌, ℕ, Bool, true, false, cond, List, ap, sym, ◌∙◌, Option, None, inl, inr, IsUtf8}
use Rattle.std.specs.Prelude.{Ok, Err}
use Rattle.std.specs.Str.{is_utf8}
use Rattle.std.proofs.lemmas.Str.{IsUtf8-from_is_utf8, is_utf8-from_IsUtf8}
use Rattle.serde_json.specs.Read.{read}
use Rattle.pd_types.specs.declared.rule.Rule.{Rule}
use Rattle.rule_text.specs.declared.fault.RuleFault.{RuleFault}
use Rattle.rule_text.specs.declared.fault.RuleFault.TheVariants.{NoMemory, NotJson}
use Rattle.rule_text.specs.Tests.{Fails, Means, RefusedText}
use Rattle.pd_state.specs.StoredRules.{rule_or, rule_told, value_tells}

pub means_told : (bytes : List ℕ) (rule : Rule) → Means bytes rule → rule_told bytes ≡ Ok rule
unfolding rule_told
means_told bytes rule m =
    ap (λ (t : Bool). cond t (value_tells (read bytes)) (Err NotJson)) (is_utf8-from_IsUtf8 bytes m.text) ∙ ap value_tells m.json
    ∙ ap (λ (f : Option RuleFault). rule_or f m.value) m.passes ∙ ap (λ (r : Rule). Ok r) (sym m.rule_is)

no_json : (bytes : List ℕ) → (IsUtf8 bytes → read bytes ≡ None) → rule_told bytes ≡ Err NotJson
unfolding rule_told
no_json bytes none = by (is_utf8 bytes) refl
  where
    by : (t : Bool) → is_utf8 bytes ≡ t → cond t (value_tells (read bytes)) (Err NotJson) ≡ Err NotJson
    by true is = ap value_tells (none (IsUtf8-from_is_utf8 bytes is))
    by false is = refl

fails_told : (bytes : List ℕ) (fault : RuleFault) → Fails bytes fault → rule_told bytes ≡ Err fault
unfolding rule_told
fails_told bytes fault f =
    ap (λ (t : Bool). cond t (value_tells (read bytes)) (Err NotJson)) (is_utf8-from_IsUtf8 bytes f.text) ∙ ap value_tells f.json
    ∙ ap (λ (o : Option RuleFault). rule_or o f.value) f.first

pub refused_told : (bytes : List ℕ) (fault : RuleFault) → RefusedText bytes fault → fault ≢ NoMemory → rule_told bytes ≡ Err fault
refused_told bytes fault (inl wanting) other = absurd (other wanting)
refused_told bytes fault (inr (inl (is, none))) other = no_json bytes none ∙ ap (λ (e : RuleFault). Err e) (sym is)
refused_told bytes fault (inr (inr f)) other = fails_told bytes fault f
