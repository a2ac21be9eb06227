-- Which calls set and remove a rule.
use Rattle.std.proofs.Common.{refl, ◌≡◌, ◌≢◌, ℕ, zero, suc, ◌<◌, ◌≤◌, Bool, true, false, cond, ◌||◌, nat_lt, List, [], ◌∷◌, length, codes, ap, subst, ◌∙◌, Option, Some, None, arith, ◌⊎◌, inl, inr}
use Rattle.std.specs.Prelude.{Result, Ok, Err}
use Rattle.std.specs.List.{Any, cons_option, find, list_any}
use Rattle.std.specs.Option.{option_map}
use Rattle.std.proofs.lemmas.Bool.{cases_Bool}
use Rattle.std.proofs.lemmas.Bool.Decides.{nat_tests}
use Rattle.serde_json.specs.Written.{compact_text}
use Rattle.pd_types.specs.declared.request.Request.TheVariants as ask
use Rattle.pd_types.specs.declared.rule.Rule.{Rule}
use Rattle.meta_store.specs.declared.record.MetaAnswer.{MetaAnswer}
use Rattle.meta_store.specs.declared.record.MetaCall.{MetaCall}
use Rattle.meta_store.specs.declared.record.MetaCall.TheVariants as calls
use Rattle.meta_store.specs.Asked.{AreAsked}
use Rattle.meta_store.specs.Cells.{cell_at, revision_in}
use Rattle.rule_set.specs.declared.fault.RemoveFault.{RemoveFault}
use Rattle.rule_set.specs.declared.fault.RemoveFault.TheVariants.{Absent, LastRule}
use Rattle.rule_set.specs.Changes.{knows, remove_refusal, set_refusal}
use Rattle.rule_set.proofs.NameLemmas.{named_self, named_true}
use Rattle.rule_text.specs.declared.fault.RuleFault.{RuleFault}
use Rattle.rule_text.specs.declared.fault.RuleFault.TheVariants.{NoMemory}
use Rattle.rule_text.specs.Meaning.{rule_data}
use Rattle.rule_text.specs.Tests.{Means, RefusedText}
use Rattle.pd_state.specs.declared.part.Part.{Part}
use Rattle.pd_state.specs.declared.reply.Reply.{Reply}
use Rattle.pd_state.specs.declared.reply.Reply.TheVariants as replies
use Rattle.pd_state.specs.Calls.{AreCalls, default_put, in_turn, is_default, next_call, rule_calls, rule_delete, rule_put, rule_revision, told_calls, unless}
use Rattle.pd_state.specs.Replies.{removal_refused, rule_refusal, set_refused}
use Rattle.pd_state.specs.StoredRules.{rule_key, rule_told}
use Rattle.pd_state.proofs.CallLemmas.{asked_calls, none_left}
use Rattle.pd_state.proofs.RuleReplies.{absent_rule, free_rule, full_set, last_rule}
use Rattle.pd_state.proofs.RuleTexts.{means_told, refused_told}
use Rattle.pd_state.proofs.RulesTold.{default_key}

-- the answers are to the calls that what was told gives
told_asked : (part : Part) (moment : ℕ) (json : List ℕ) (told : Result Rule RuleFault) (o : Option Reply) (answers : List MetaAnswer) → AreAsked (next_call (Some part) (ask.Rule moment json) []) [] answers
    → rule_told json ≡ told → rule_refusal told part.rules ≡ o → AreCalls (unless o (told_calls part told)) answers
told_asked part moment json told o answers asked is refusal =
    asked_calls (unless o (told_calls part told)) answers
    (subst (λ (r : Option Reply). AreAsked (in_turn (unless r (told_calls part told))) [] answers) refusal (subst (λ (t : Result Rule RuleFault). AreAsked (in_turn (rule_calls part t)) [] answers) is asked))

pub bad_calls : (part : Part) (moment : ℕ) (json : List ℕ) (fault : RuleFault) (answers : List MetaAnswer) → AreAsked (next_call (Some part) (ask.Rule moment json) []) [] answers → RefusedText json fault → fault ≢ NoMemory → answers ≡ []
bad_calls part moment json fault answers asked refused other =
    none_left answers (told_asked part moment json (Err fault) (Some (replies.BadRule fault)) answers asked (refused_told json fault refused other) refl)

pub limit_calls : (part : Part) (moment : ℕ) (json : List ℕ) (rule : Rule) (answers : List MetaAnswer) → AreAsked (next_call (Some part) (ask.Rule moment json) []) [] answers → Means json rule
    → knows rule.group rule.id part.rules ≡ false → 64 ≤ length part.rules → answers ≡ []
limit_calls part moment json rule answers asked means unknown many =
    none_left answers (told_asked part moment json (Ok rule) (Some replies.RuleLimit) answers asked (means_told json rule means) (ap set_refused (full_set rule part.rules unknown many)))

put_calls : (part : Part) (moment : ℕ) (json : List ℕ) (rule : Rule) (first : Option MetaCall) (answers : List MetaAnswer) → AreAsked (next_call (Some part) (ask.Rule moment json) []) [] answers → Means json rule
    → set_refusal rule part.rules ≡ None → default_put part rule ≡ first → AreCalls (cons_option first (rule_put part rule ∷ [])) answers
put_calls part moment json rule first answers asked means room is =
    subst (λ (o : Option MetaCall). AreCalls (cons_option o (rule_put part rule ∷ [])) answers) is
    (told_asked part moment json (Ok rule) None answers asked (means_told json rule means) (ap set_refused room))

-- when the default rule isn't written
none_anyhow : (t : Bool) → (let o : Option MetaCall = cond t None None in o) ≡ None
none_anyhow true = refl
none_anyhow false = refl

is_the_default : (part : Part) (rule : Rule) → rule.group ≡ codes "pd" → rule.id ≡ codes "default" → default_put part rule ≡ None
is_the_default part rule group id =
    ap (λ (t : Bool). cond (t || nat_lt 0 (rule_revision part (codes "pd") (codes "default"))) None (option_map (rule_put part) (find is_default part.rules))) (named_self (codes "pd") (codes "default") rule group id)

at_default : (part : Part) → rule_revision part (codes "pd") (codes "default") ≡ revision_in (cell_at (codes "rule/7064/64656661756c74") part.known)
at_default part = ap (λ (key : List ℕ). revision_in (cell_at key part.known)) default_key

default_stored : (part : Part) (rule : Rule) → 0 < revision_in (cell_at (codes "rule/7064/64656661756c74") part.known) → default_put part rule ≡ None
default_stored part rule stored = by (is_default rule)
  where
    here : (n : ℕ) → n ≡ revision_in (cell_at (codes "rule/7064/64656661756c74") part.known) → nat_lt 0 n ≡ true
    here n is = grind (arith, nat_tests)

    by : (t : Bool) → cond (t || nat_lt 0 (rule_revision part (codes "pd") (codes "default"))) None (option_map (rule_put part) (find is_default part.rules)) ≡ None
    by true = refl
    by false = ap (λ (t : Bool). cond t None (option_map (rule_put part) (find is_default part.rules))) (here (rule_revision part (codes "pd") (codes "default")) (at_default part))

find_none : (p : Rule → Bool) (rules : List Rule) → list_any p rules ≡ false → find p rules ≡ None
find_none p [] none = refl
find_none p (rule ∷ rules) none = by (p rule) none (find_none p rules)
  where
    by : (t : Bool) → (t || list_any p rules) ≡ false → (list_any p rules ≡ false → find p rules ≡ None) → cond t (Some rule) (find p rules) ≡ None
    by true h rest = absurd cc
    by false h rest = rest h

default_gone : (part : Part) (rule : Rule) → knows (codes "pd") (codes "default") part.rules ≡ false → default_put part rule ≡ None
default_gone part rule none =
    ap (λ (o : Option Rule). cond (is_default rule || nat_lt 0 (rule_revision part (codes "pd") (codes "default"))) None (option_map (rule_put part) o)) (find_none is_default part.rules none)
    ∙ none_anyhow (is_default rule || nat_lt 0 (rule_revision part (codes "pd") (codes "default")))

pub default_alone : (part : Part) (moment : ℕ) (json : List ℕ) (rule : Rule) (answers : List MetaAnswer) → AreAsked (next_call (Some part) (ask.Rule moment json) []) [] answers → Means json rule
    → set_refusal rule part.rules ≡ None → rule.group ≡ codes "pd" → rule.id ≡ codes "default" → AreCalls (rule_put part rule ∷ []) answers
default_alone part moment json rule answers asked means room group id = put_calls part moment json rule None answers asked means room (is_the_default part rule group id)

pub stored_alone : (part : Part) (moment : ℕ) (json : List ℕ) (rule : Rule) (answers : List MetaAnswer) → AreAsked (next_call (Some part) (ask.Rule moment json) []) [] answers → Means json rule
    → set_refusal rule part.rules ≡ None → 0 < revision_in (cell_at (codes "rule/7064/64656661756c74") part.known) → AreCalls (rule_put part rule ∷ []) answers
stored_alone part moment json rule answers asked means room stored = put_calls part moment json rule None answers asked means room (default_stored part rule stored)

pub gone_alone : (part : Part) (moment : ℕ) (json : List ℕ) (rule : Rule) (answers : List MetaAnswer) → AreAsked (next_call (Some part) (ask.Rule moment json) []) [] answers → Means json rule
    → set_refusal rule part.rules ≡ None → knows (codes "pd") (codes "default") part.rules ≡ false → AreCalls (rule_put part rule ∷ []) answers
gone_alone part moment json rule answers asked means room none = put_calls part moment json rule None answers asked means room (default_gone part rule none)

-- when it is
find_any : (p : Rule → Bool) (rules : List Rule) → list_any p rules ≡ true → Any (λ (kept : Rule). (find p rules ≡ Some kept) × (p kept ≡ true)) rules
find_any p [] some = absurd cc
find_any p (rule ∷ rules) some = by (p rule) refl some (find_any p rules)
  where
    by : (t : Bool) → p rule ≡ t → (t || list_any p rules) ≡ true → (list_any p rules ≡ true → Any (λ (kept : Rule). (find p rules ≡ Some kept) × (p kept ≡ true)) rules)
        → Any (λ (kept : Rule). (find p (rule ∷ rules) ≡ Some kept) × (p kept ≡ true)) (rule ∷ rules)
    by true is h rest = (zero, rule, omega arith, refl, (ap (λ (t : Bool). cond t (Some rule) (find p rules)) is, is))
    by false is h rest = let (k, kept, low, at, found) = rest h in (suc k, kept, omega arith, at, (ap (λ (t : Bool). cond t (Some rule) (find p rules)) is ∙ found.0, found.1))

not_default : (rule : Rule) → (rule.group ≡ codes "pd" → rule.id ≡ codes "default" → ⊥) → is_default rule ≡ false
not_default rule other = by (cases_Bool (is_default rule))
  where
    by : (is_default rule ≡ true) ⊎ (is_default rule ≡ false) → is_default rule ≡ false
    by (inl is) = let names = named_true (codes "pd") (codes "default") rule is in absurd (other names.0 names.1)
    by (inr is) = is

-- the write of the default rule that the set has
kept_put : (part : Part) (kept : Rule) → kept.group ≡ codes "pd" → kept.id ≡ codes "default" → revision_in (cell_at (codes "rule/7064/64656661756c74") part.known) ≡ 0
    → rule_put part kept ≡ calls.Put part.term (codes "rule/7064/64656661756c74") 0 (compact_text (rule_data kept))
kept_put part kept group id unstored =
    let key : rule_key kept.group kept.id ≡ codes "rule/7064/64656661756c74" =
    ap (λ (g : List ℕ). rule_key g kept.id) group ∙ ap (λ (i : List ℕ). rule_key (codes "pd") i) id ∙ default_key in
    ap (λ (k : List ℕ). calls.Put part.term k (revision_in (cell_at k part.known)) (compact_text (rule_data kept))) key
    ∙ ap (λ (n : ℕ). calls.Put part.term (codes "rule/7064/64656661756c74") n (compact_text (rule_data kept))) unstored

pub default_first : (part : Part) (rule : Rule) (kept : Option Rule) → is_default rule ≡ false → rule_revision part (codes "pd") (codes "default") ≡ 0 → find is_default part.rules ≡ kept
    → default_put part rule ≡ option_map (rule_put part) kept
default_first part rule kept other unstored found =
    ap (λ (t : Bool). cond (t || nat_lt 0 (rule_revision part (codes "pd") (codes "default"))) None (option_map (rule_put part) (find is_default part.rules))) other
    ∙ ap (λ (n : ℕ). cond (nat_lt 0 n) None (option_map (rule_put part) (find is_default part.rules))) unstored ∙ ap (λ (o : Option Rule). option_map (rule_put part) o) found

pub behind_default : (part : Part) (moment : ℕ) (json : List ℕ) (rule : Rule) (answers : List MetaAnswer) → AreAsked (next_call (Some part) (ask.Rule moment json) []) [] answers → Means json rule
    → set_refusal rule part.rules ≡ None → (rule.group ≡ codes "pd" → rule.id ≡ codes "default" → ⊥) → revision_in (cell_at (codes "rule/7064/64656661756c74") part.known) ≡ 0
    → knows (codes "pd") (codes "default") part.rules ≡ true
    → Any (λ (kept : Rule). (kept.group ≡ codes "pd") × (kept.id ≡ codes "default") × AreCalls (calls.Put part.term (codes "rule/7064/64656661756c74") 0 (compact_text (rule_data kept)) ∷ rule_put part rule ∷ []) answers) part.rules
behind_default part moment json rule answers asked means room other unstored has =
    let (k, kept, low, at, found) = find_any is_default part.rules has in
    let names = named_true (codes "pd") (codes "default") kept found.1 in
    let first = default_first part rule (Some kept) (not_default rule other) (at_default part ∙ unstored) found.0 ∙ ap (λ (call : MetaCall). Some call) (kept_put part kept names.0 names.1 unstored) in
    (k, kept, low, at, (names.0, names.1, put_calls part moment json rule (Some (calls.Put part.term (codes "rule/7064/64656661756c74") 0 (compact_text (rule_data kept)))) answers asked means room first))

-- removing a rule
removal_asked : (part : Part) (moment : ℕ) (group id : List ℕ) (o : Option RemoveFault) (first : Option MetaCall) (answers : List MetaAnswer) → AreAsked (next_call (Some part) (ask.Unrule moment group id) []) [] answers
    → remove_refusal group id part.rules ≡ o → rule_delete part group id ≡ first → AreCalls (unless (removal_refused o) (cons_option first [])) answers
removal_asked part moment group id o first answers asked is call =
    asked_calls (unless (removal_refused o) (cons_option first [])) answers
    (subst (λ (c : Option MetaCall). AreAsked (in_turn (unless (removal_refused o) (cons_option c []))) [] answers) call
    (subst (λ (f : Option RemoveFault). AreAsked (in_turn (unless (removal_refused f) (cons_option (rule_delete part group id) []))) [] answers) is asked))

pub absent_calls : (part : Part) (moment : ℕ) (group id : List ℕ) (answers : List MetaAnswer) → AreAsked (next_call (Some part) (ask.Unrule moment group id) []) [] answers → knows group id part.rules ≡ false → answers ≡ []
absent_calls part moment group id answers asked unknown =
    none_left answers (removal_asked part moment group id (Some Absent) (rule_delete part group id) answers asked (absent_rule group id part.rules unknown) refl)

pub last_calls : (part : Part) (moment : ℕ) (group id : List ℕ) (answers : List MetaAnswer) → AreAsked (next_call (Some part) (ask.Unrule moment group id) []) [] answers → length part.rules ≡ 1 → answers ≡ []
last_calls part moment group id answers asked one = by (cases_Bool (knows group id part.rules))
  where
    by : (knows group id part.rules ≡ true) ⊎ (knows group id part.rules ≡ false) → answers ≡ []
    by (inl known) = none_left answers (removal_asked part moment group id (Some LastRule) (rule_delete part group id) answers asked (last_rule group id part.rules known one) refl)
    by (inr unknown) = absent_calls part moment group id answers asked unknown

pub delete_calls : (part : Part) (moment : ℕ) (group id : List ℕ) (answers : List MetaAnswer) → AreAsked (next_call (Some part) (ask.Unrule moment group id) []) [] answers → knows group id part.rules ≡ true
    → length part.rules ≢ 1 → 0 < revision_in (cell_at (rule_key group id) part.known)
    → AreCalls (calls.Delete part.term (rule_key group id) (revision_in (cell_at (rule_key group id) part.known)) ∷ []) answers
delete_calls part moment group id answers asked known more stored =
    removal_asked part moment group id None (Some (calls.Delete part.term (rule_key group id) (revision_in (cell_at (rule_key group id) part.known)))) answers asked (free_rule group id part.rules known more)
    (ap (λ (t : Bool). cond t (Some (calls.Delete part.term (rule_key group id) (rule_revision part group id))) None) here)
  where
    here : nat_lt 0 (rule_revision part group id) ≡ true
    here = grind (arith, nat_tests)

pub unstored_calls : (part : Part) (moment : ℕ) (group id : List ℕ) (answers : List MetaAnswer) → AreAsked (next_call (Some part) (ask.Unrule moment group id) []) [] answers
    → revision_in (cell_at (rule_key group id) part.known) ≡ 0 → answers ≡ []
unstored_calls part moment group id answers asked unstored =
    none_left answers (subst (λ (l : List MetaCall). AreCalls l answers) (nothing (removal_refused (remove_refusal group id part.rules)))
    (removal_asked part moment group id (remove_refusal group id part.rules) None answers asked refl (ap (λ (n : ℕ). cond (nat_lt 0 n) (Some (calls.Delete part.term (rule_key group id) n)) None) unstored)))
  where
    nothing : (o : Option Reply) → unless o [] ≡ []
    nothing None = refl
    nothing (Some reply) = refl
