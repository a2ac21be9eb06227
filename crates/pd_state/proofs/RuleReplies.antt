-- How requests that set and remove a rule are answered.
use Rattle.std.proofs.Common.{refl, ◌≡◌, ◌≢◌, ℕ, zero, suc, ◌≤◌, Bool, true, false, cond, nat_le, List, [], ◌∷◌, ◌++◌, length, ap, subst, ◌∙◌, Option, Some, None, arith}
use Rattle.std.specs.Prelude.{Result, Err, ◌==◌}
use Rattle.std.specs.List.{All}
use Rattle.std.specs.Str.{is_utf8}
use Rattle.std.proofs.lemmas.Bool.Decides.{nat_tests}
use Rattle.serde_json.specs.Data.{Data}
use Rattle.serde_json.specs.Read.{read}
use Rattle.pd_types.specs.declared.request.Request.TheVariants as ask
use Rattle.pd_types.specs.declared.rule.Rule.{Rule}
use Rattle.meta_store.specs.declared.record.MetaAnswer.{MetaAnswer}
use Rattle.meta_store.specs.declared.record.MetaCall.{MetaCall}
use Rattle.meta_store.specs.declared.record.MetaVerdict.{MetaVerdict}
use Rattle.meta_store.specs.declared.record.MetaVerdict.TheVariants as verdicts
use Rattle.meta_store.specs.Doors.{answer_of}
use Rattle.meta_store.specs.Past.{is_accepted}
use Rattle.rule_set.specs.declared.fault.RemoveFault.{RemoveFault}
use Rattle.rule_set.specs.declared.fault.RemoveFault.TheVariants.{Absent, LastRule}
use Rattle.rule_set.specs.declared.fault.SetFault.{SetFault}
use Rattle.rule_set.specs.declared.fault.SetFault.TheVariants.{Limit}
use Rattle.pd_types.specs.declared.rule.TheConstants.{MAX_RULES}
use Rattle.rule_set.specs.Changes.{knows, remove_refusal, set_refusal}
use Rattle.rule_text.specs.declared.fault.RuleFault.{RuleFault}
use Rattle.rule_text.specs.declared.fault.RuleFault.TheVariants.{NoMemory, NotJson}
use Rattle.rule_text.specs.Tests.{Means, RefusedText, Test, first_failing, tests_of}
use Rattle.pd_state.specs.Heard.{hears}
use Rattle.pd_state.specs.declared.heard.Heard.{Heard}
use Rattle.pd_state.specs.declared.part.Part.{Part}
use Rattle.pd_state.specs.declared.reply.Reply.{Reply}
use Rattle.pd_state.specs.declared.reply.Reply.TheVariants as replies
use Rattle.pd_state.specs.Legal.{first_reply}
use Rattle.pd_state.specs.Replies.{by_answers, or_then, removal_refused, rule_reply, set_refused, verdict_refusal}
use Rattle.pd_state.specs.ReplyText.{rule_fault_number}
use Rattle.pd_state.specs.StoredRules.{rule_or, rule_told, value_tells}
use Rattle.pd_state.proofs.RuleTexts.{means_told, refused_told}

abbrev Accepted : List MetaAnswer → Type 0
Accepted answers = All (λ (answer : MetaAnswer). is_accepted answer.verdict ≡ true) answers

not_refused : (verdict : MetaVerdict) → is_accepted verdict ≡ true → verdict_refusal verdict ≡ None
not_refused (verdicts.Accepted revision) is = refl
not_refused (verdicts.OldTerm fence) is = absurd cc
not_refused (verdicts.Conflict found) is = absurd cc
not_refused verdicts.Limit is = absurd cc

-- accepted answers decide nothing
behind_accepted : (done : Reply) (before rest : List MetaAnswer) → Accepted before → by_answers done (before ++ rest) ≡ by_answers done rest
behind_accepted done [] rest all = refl
behind_accepted done (answer ∷ before) rest all =
    ap (λ (o : Option Reply). or_then o (by_answers done (before ++ rest))) (not_refused answer.verdict (all zero answer (omega arith)))
    ∙ behind_accepted done before rest (λ k d low. all (suc k) d (omega arith))

all_accepted : (done : Reply) (answers : List MetaAnswer) → Accepted answers → by_answers done answers ≡ done
all_accepted done [] all = refl
all_accepted done (answer ∷ answers) all =
    ap (λ (o : Option Reply). or_then o (by_answers done answers)) (not_refused answer.verdict (all zero answer (omega arith))) ∙ all_accepted done answers (λ k d low. all (suc k) d (omega arith))

-- setting a rule
pub bad_reply : (driver : ℕ) (part : Part) (moment : ℕ) (json : List ℕ) (fault : RuleFault) (heard : Heard) → RefusedText json fault → fault ≢ NoMemory → first_reply driver (Some part) (ask.Rule moment json) heard ≡ replies.BadRule fault
bad_reply driver part moment json fault heard refused other = ap (λ (told : Result Rule RuleFault). rule_reply told part.rules heard) (refused_told json fault refused other)

told_reply : (driver : ℕ) (part : Part) (moment : ℕ) (json : List ℕ) (rule : Rule) (heard : Heard) (o : Option SetFault) → Means json rule → set_refusal rule part.rules ≡ o
    → first_reply driver (Some part) (ask.Rule moment json) heard ≡ or_then (set_refused o) (by_answers replies.RulePut heard.answers)
told_reply driver part moment json rule heard o means is =
    ap (λ (told : Result Rule RuleFault). rule_reply told part.rules heard) (means_told json rule means) ∙ ap (λ (fault : Option SetFault). or_then (set_refused fault) (by_answers replies.RulePut heard.answers)) is

pub put_reply : (driver : ℕ) (part : Part) (moment : ℕ) (json : List ℕ) (rule : Rule) (heard : Heard) → Means json rule → set_refusal rule part.rules ≡ None → All (λ (answer : MetaAnswer). is_accepted answer.verdict ≡ true) heard.answers
    → first_reply driver (Some part) (ask.Rule moment json) heard ≡ replies.RulePut
put_reply driver part moment json rule heard means room all = told_reply driver part moment json rule heard None means room ∙ all_accepted replies.RulePut heard.answers all

pub refused_reply : (verdict : MetaVerdict) (driver : ℕ) (part : Part) (moment : ℕ) (json : List ℕ) (rule : Rule) (before : List MetaAnswer) (call : MetaCall) → Means json rule → set_refusal rule part.rules ≡ None
    → All (λ (answer : MetaAnswer). is_accepted answer.verdict ≡ true) before
    → first_reply driver (Some part) (ask.Rule moment json) (hears (before ++ answer_of call verdict [] ∷ [])) ≡ or_then (verdict_refusal verdict) replies.RulePut
refused_reply verdict driver part moment json rule before call means room all =
    told_reply driver part moment json rule (hears (before ++ answer_of call verdict [] ∷ [])) None means room ∙ behind_accepted replies.RulePut before (answer_of call verdict [] ∷ []) all

not_limit : (verdict : MetaVerdict) (rest : Reply) → rest ≢ replies.RuleLimit → or_then (verdict_refusal verdict) rest ≢ replies.RuleLimit
not_limit (verdicts.Accepted revision) rest other h = other h
not_limit (verdicts.OldTerm fence) rest other h = cc
not_limit (verdicts.Conflict found) rest other h = cc
not_limit verdicts.Limit rest other h = cc

never_limit : (answers : List MetaAnswer) → by_answers replies.RulePut answers ≢ replies.RuleLimit
never_limit [] h = cc
never_limit (answer ∷ answers) h = not_limit answer.verdict (by_answers replies.RulePut answers) (never_limit answers) h

pub full_set : (rule : Rule) (rules : List Rule) → knows rule.group rule.id rules ≡ false → 64 ≤ length rules → set_refusal rule rules ≡ Some Limit
full_set rule rules unknown many =
    ap (λ (t : Bool). cond t None (cond (nat_le MAX_RULES (length rules)) (Some Limit) None)) unknown ∙ ap (λ (t : Bool). cond t (Some Limit) None) full
  where
    full : nat_le MAX_RULES (length rules) ≡ true
    full = grind (arith, nat_tests)

abbrev IsFull : Rule → List Rule → Type 0
IsFull rule rules = (knows rule.group rule.id rules ≡ false) × (64 ≤ length rules)

room_or_full : (rule : Rule) (rules : List Rule) → (set_refusal rule rules ≡ None → IsFull rule rules) → IsFull rule rules
room_or_full rule rules free = by (knows rule.group rule.id rules) refl
  where
    many : (t : Bool) → nat_le MAX_RULES (length rules) ≡ t → knows rule.group rule.id rules ≡ false → IsFull rule rules
    many true is unknown = (unknown, grind (arith, nat_tests))
    many false is unknown =
        free (ap (λ (t : Bool). cond t None (cond (nat_le MAX_RULES (length rules)) (Some Limit) None)) unknown ∙ ap (λ (t : Bool). cond t (Some Limit) None) is)

    by : (t : Bool) → knows rule.group rule.id rules ≡ t → IsFull rule rules
    by true is = free (ap (λ (t : Bool). cond t None (cond (nat_le MAX_RULES (length rules)) (Some Limit) None)) is)
    by false is = many (nat_le MAX_RULES (length rules)) refl is

pub limit_from : (driver : ℕ) (part : Part) (moment : ℕ) (json : List ℕ) (rule : Rule) (heard : Heard) → Means json rule → first_reply driver (Some part) (ask.Rule moment json) heard ≡ replies.RuleLimit
    → (knows rule.group rule.id part.rules ≡ false) × (64 ≤ length part.rules)
limit_from driver part moment json rule heard means is =
    room_or_full rule part.rules (λ room. absurd (never_limit heard.answers (sym_of (told_reply driver part moment json rule heard None means room) is)))
  where
    sym_of : {a b c : Reply} → a ≡ b → a ≡ c → b ≡ c
    sym_of h k = cc

pub limit_to : (driver : ℕ) (part : Part) (moment : ℕ) (json : List ℕ) (rule : Rule) (heard : Heard) → Means json rule → (knows rule.group rule.id part.rules ≡ false) × (64 ≤ length part.rules)
    → first_reply driver (Some part) (ask.Rule moment json) heard ≡ replies.RuleLimit
limit_to driver part moment json rule heard means full = told_reply driver part moment json rule heard (Some Limit) means (full_set rule part.rules full.0 full.1)

-- removing a rule
pub absent_rule : (group id : List ℕ) (rules : List Rule) → knows group id rules ≡ false → remove_refusal group id rules ≡ Some Absent
absent_rule group id rules unknown = ap (λ (t : Bool). cond t (cond (length rules == 1) (Some LastRule) None) (Some Absent)) unknown

pub last_rule : (group id : List ℕ) (rules : List Rule) → knows group id rules ≡ true → length rules ≡ 1 → remove_refusal group id rules ≡ Some LastRule
last_rule group id rules known one =
    ap (λ (t : Bool). cond t (cond (length rules == 1) (Some LastRule) None) (Some Absent)) known ∙ ap (λ (n : ℕ). cond (n == 1) (Some LastRule) None) one

pub free_rule : (group id : List ℕ) (rules : List Rule) → knows group id rules ≡ true → length rules ≢ 1 → remove_refusal group id rules ≡ None
free_rule group id rules known more =
    ap (λ (t : Bool). cond t (cond (length rules == 1) (Some LastRule) None) (Some Absent)) known ∙ ap (λ (t : Bool). cond t (Some LastRule) None) other
  where
    other : (length rules == 1) ≡ false
    other = grind (arith, nat_tests)

pub removal_reply : (driver : ℕ) (part : Part) (moment : ℕ) (group id : List ℕ) (heard : Heard) (o : Option RemoveFault) → remove_refusal group id part.rules ≡ o
    → first_reply driver (Some part) (ask.Unrule moment group id) heard ≡ or_then (removal_refused o) (by_answers replies.RuleRemoved heard.answers)
removal_reply driver part moment group id heard o is = ap (λ (fault : Option RemoveFault). or_then (removal_refused fault) (by_answers replies.RuleRemoved heard.answers)) is

pub removed_reply : (driver : ℕ) (part : Part) (moment : ℕ) (group id : List ℕ) (heard : Heard) → knows group id part.rules ≡ true → length part.rules ≢ 1 → All (λ (answer : MetaAnswer). is_accepted answer.verdict ≡ true) heard.answers
    → first_reply driver (Some part) (ask.Unrule moment group id) heard ≡ replies.RuleRemoved
removed_reply driver part moment group id heard known more all =
    removal_reply driver part moment group id heard None (free_rule group id part.rules known more) ∙ all_accepted replies.RuleRemoved heard.answers all

-- the numbers of the tests that a text fails
abbrev IsNumber : RuleFault → Type 0
IsNumber fault = (1 ≤ rule_fault_number fault) × (rule_fault_number fault ≤ 10)

abbrev AreNumbered : List Test → Type 0
AreNumbered [] = Unit {0}
AreNumbered (test ∷ tests) = IsNumber test.fault × AreNumbered tests

failing_number : (tests : List Test) (fault : RuleFault) → AreNumbered tests → first_failing tests ≡ Some fault → IsNumber fault
failing_number [] fault numbered is = absurd cc
failing_number (test ∷ tests) fault numbered is = by test.passes is (failing_number tests fault numbered.1)
  where
    same : (one : RuleFault) → Some one ≡ Some fault → one ≡ fault
    same one h = cc

    by : (t : Bool) → cond t (first_failing tests) (Some test.fault) ≡ Some fault → (first_failing tests ≡ Some fault → IsNumber fault) → IsNumber fault
    by true h rest = rest h
    by false h rest = subst IsNumber (same test.fault h) numbered.0

numbered_tests : (value : Data) → AreNumbered (tests_of value)
numbered_tests value = (two, (three, (four, (five, (six, (seven, (eight, (nine, (ten, tt)))))))))
  where
    two : (1 ≤ 2) × (2 ≤ 10)
    two = (omega arith, omega arith)

    three : (1 ≤ 3) × (3 ≤ 10)
    three = (omega arith, omega arith)

    four : (1 ≤ 4) × (4 ≤ 10)
    four = (omega arith, omega arith)

    five : (1 ≤ 5) × (5 ≤ 10)
    five = (omega arith, omega arith)

    six : (1 ≤ 6) × (6 ≤ 10)
    six = (omega arith, omega arith)

    seven : (1 ≤ 7) × (7 ≤ 10)
    seven = (omega arith, omega arith)

    eight : (1 ≤ 8) × (8 ≤ 10)
    eight = (omega arith, omega arith)

    nine : (1 ≤ 9) × (9 ≤ 10)
    nine = (omega arith, omega arith)

    ten : (1 ≤ 10) × (10 ≤ 10)
    ten = (omega arith, omega arith)

told_number : (value : Data) (fault : RuleFault) (o : Option RuleFault) → first_failing (tests_of value) ≡ o → rule_or o value ≡ Err fault → IsNumber fault
told_number value fault None is h = absurd cc
told_number value fault (Some one) is h = let same : one ≡ fault = cc in failing_number (tests_of value) fault (numbered_tests value) (is ∙ ap (λ (x : RuleFault). Some x) same)

value_number : (o : Option Data) (fault : RuleFault) → value_tells o ≡ Err fault → IsNumber fault
value_number None fault h = let same : NotJson ≡ fault = cc in subst IsNumber same (omega arith, omega arith)
value_number (Some value) fault h = told_number value fault (first_failing (tests_of value)) refl h

pub answered_number : (json : List ℕ) (fault : RuleFault) → rule_told json ≡ Err fault → (1 ≤ rule_fault_number fault) × (rule_fault_number fault ≤ 10)
unfolding rule_told
answered_number json fault h = by (is_utf8 json) h
  where
    by : (t : Bool) → cond t (value_tells (read json)) (Err NotJson) ≡ Err fault → IsNumber fault
    by true told = value_number (read json) fault told
    by false told = value_number None fault told
