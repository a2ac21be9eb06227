-- What a refused call leaves, and what a store's hello and a rule write.
use Rattle.std.proofs.Common.{refl, ◌≡◌, ℕ, List, [], ◌∷◌, max, ap, sym, ◌∙◌, Option, Some, None, subst}
use Rattle.std.specs.Option.{option_map}
use Rattle.std.specs.Prelude.{Result, Ok}
use Rattle.pd_types.specs.declared.rule.Rule.{Rule}
use Rattle.pd_types.specs.declared.store.StoreRec.{StoreRec}
use Rattle.pd_types.specs.declared.store.StoreState.TheVariants.{Up}
use Rattle.store_table.specs.declared.entry.StoreEntry.{StoreEntry}
use Rattle.meta_store.specs.declared.record.MetaAnswer.{MetaAnswer}
use Rattle.meta_store.specs.declared.record.MetaVerdict.{MetaVerdict}
use Rattle.meta_store.specs.declared.record.MetaVerdict.TheVariants as verdicts
use Rattle.rule_set.specs.Changes.{set_refusal}
use Rattle.rule_text.specs.declared.fault.RuleFault.{RuleFault}
use Rattle.pd_state.specs.declared.part.Part.{Part}
use Rattle.pd_state.specs.declared.reply.Reply.{Reply}
use Rattle.pd_state.specs.declared.reply.Reply.TheVariants as replies
use Rattle.pd_state.specs.Calls.{rule_calls, told_calls, unless}
use Rattle.pd_state.specs.Replies.{by_answers, or_then, set_refused, verdict_refusal}
use Rattle.pd_state.specs.State.{kept_state, set_by}
use Rattle.pd_state.specs.Steps.{begun_part, greeted, put_after}
use Rattle.pd_state.specs.StoredRules.{rule_told}

pub no_term : (verdict : MetaVerdict) (reply : Reply) → verdict_refusal verdict ≡ Some reply → (term moment : ℕ) (answers : List MetaAnswer) → begun_part reply term moment answers ≡ None
no_term (verdicts.Accepted revision) reply is term moment answers = absurd cc
no_term (verdicts.OldTerm fence) reply is term moment answers = let e : replies.OldTerm fence ≡ reply = cc in subst (λ r. begun_part r term moment answers ≡ None) e refl
no_term (verdicts.Conflict found) reply is term moment answers = let e : replies.Conflict found ≡ reply = cc in subst (λ r. begun_part r term moment answers ≡ None) e refl
no_term verdicts.Limit reply is term moment answers = let e : replies.MetaLimit ≡ reply = cc in subst (λ r. begun_part r term moment answers ≡ None) e refl

pub no_store : (verdict : MetaVerdict) (reply : Reply) → verdict_refusal verdict ≡ Some reply → (entry : StoreEntry) (entries : List StoreEntry) → put_after reply entry entries ≡ entries
no_store (verdicts.Accepted revision) reply is entry entries = absurd cc
no_store (verdicts.OldTerm fence) reply is entry entries = let e : replies.OldTerm fence ≡ reply = cc in subst (λ r. put_after r entry entries ≡ entries) e refl
no_store (verdicts.Conflict found) reply is entry entries = let e : replies.Conflict found ≡ reply = cc in subst (λ r. put_after r entry entries ≡ entries) e refl
no_store verdicts.Limit reply is entry entries = let e : replies.MetaLimit ≡ reply = cc in subst (λ r. put_after r entry entries ≡ entries) e refl

-- the record that a hello writes
pub kept_id : (o : Option StoreRec) (rec : StoreRec) → (kept_state o rec).id ≡ rec.id
kept_id None rec = refl
kept_id (Some known) rec = refl

pub new_up : (o : Option StoreEntry) (rec : StoreRec) → rec.state ≡ Up → option_map (λ (entry : StoreEntry). entry.store.state) o ≡ None → (kept_state (option_map (λ (entry : StoreEntry). entry.store) o) rec).state ≡ Up
new_up None rec up none = up
new_up (Some known) rec up none = absurd cc

pub kept_greeted : (o : Option StoreEntry) (rec : StoreRec) (began moment : ℕ) → greeted o (kept_state (option_map (λ (entry : StoreEntry). entry.store) o) rec) began moment ≡ greeted o rec began moment
kept_greeted None rec began moment = refl
kept_greeted (Some known) rec began moment = refl

-- the reply of a refused call sets no rule
no_rule_by : (verdict : MetaVerdict) (rest : Reply) (told : Result Rule RuleFault) (rules : List Rule) → set_by rest told rules ≡ rules → set_by (or_then (verdict_refusal verdict) rest) told rules ≡ rules
no_rule_by (verdicts.Accepted revision) rest told rules same = same
no_rule_by (verdicts.OldTerm fence) rest told rules same = refl
no_rule_by (verdicts.Conflict found) rest told rules same = refl
no_rule_by verdicts.Limit rest told rules same = refl

pub no_rule : (answers : List MetaAnswer) (told : Result Rule RuleFault) (rules : List Rule) → set_by (by_answers replies.Absent answers) told rules ≡ rules
no_rule [] told rules = refl
no_rule (answer ∷ answers) told rules = no_rule_by answer.verdict (by_answers replies.Absent answers) told rules (no_rule answers told rules)

-- the clock decides no call
pub told_at : (part mid : Part) (moment : ℕ) (json : List ℕ) (rule : Rule) → mid ≡ record part { clock = max part.clock moment } → rule_told json ≡ Ok rule → set_refused (set_refusal rule mid.rules) ≡ None
    → told_calls mid (Ok rule) ≡ rule_calls part (rule_told json)
told_at part mid moment json rule mid_is told free =
    let here : set_refused (set_refusal rule part.rules) ≡ None = ap (λ (p : Part). set_refused (set_refusal rule p.rules)) (sym mid_is) ∙ free in
    ap (λ (p : Part). told_calls p (Ok rule)) mid_is ∙ ap (λ (o : Option Reply). unless o (told_calls part (Ok rule))) (sym here) ∙ ap (rule_calls part) (sym told)
