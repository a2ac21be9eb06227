-- What setting and removing a rule leave, of the rules and of what is stored.
use Rattle.std.proofs.Common.{refl, ◌≡◌, ◌≢◌, ℕ, Bool, false, cond, List, [], ◌∷◌, ◌++◌, codes, map, reverse, ap, sym, subst, ◌∙◌, ◌⊎◌, inl, inr}
use Rattle.std.specs.Prelude.{Result, ◌↔◌}
use Rattle.std.specs.List.{Contains}
use Rattle.pd_types.specs.declared.request.Request.{Request}
use Rattle.pd_types.specs.declared.request.Request.TheVariants as ask
use Rattle.pd_types.specs.declared.rule.Rule.{Rule}
use Rattle.pd_types.specs.declared.store.StoreRec.{StoreRec}
use Rattle.pd_types.proofs.KeyLemmas.{equal_keys}
use Rattle.region_tree.specs.Standing.{table_of}
use Rattle.store_table.specs.declared.entry.StoreEntry.{StoreEntry}
use Rattle.meta_store.specs.declared.record.Cell.{Cell}
use Rattle.meta_store.specs.declared.record.MetaAnswer.{MetaAnswer}
use Rattle.meta_store.specs.declared.record.MetaCall.{MetaCall}
use Rattle.meta_store.specs.declared.record.MetaCall.TheVariants as calls
use Rattle.meta_store.specs.declared.record.MetaVerdict.{MetaVerdict}
use Rattle.meta_store.specs.declared.record.MetaVerdict.TheVariants as verdicts
use Rattle.meta_store.specs.Cells.{cell_at, revision_in}
use Rattle.meta_store.specs.Doors.{answer_of}
use Rattle.meta_store.specs.Known.{known_revision, revision_heard}
use Rattle.meta_store.specs.Past.{is_accepted}
use Rattle.meta_store.proofs.Kept.{kept_known}
use Rattle.rule_set.specs.Changes.{with_rule}
use Rattle.rule_set.specs.Order.{AreApart, without}
use Rattle.rule_set.proofs.SetLemmas.{left_from, left_old, with_from, with_here, with_old}
use Rattle.rule_text.specs.declared.fault.RuleFault.{RuleFault}
use Rattle.rule_text.specs.Tests.{Means}
use Rattle.pd_state.specs.declared.entry.Entry.{Entry}
use Rattle.pd_state.specs.declared.reply.Reply.{Reply}
use Rattle.pd_state.specs.declared.reply.Reply.TheVariants as replies
use Rattle.pd_state.specs.Heard.{answers_of, heard_of}
use Rattle.pd_state.specs.State.{began_by, began_of, beats_by, beats_of, heartbeat, heartbeat_by, part_of, records_by, removed_by, rules_by, rules_of, set_by, term_by, term_of}
use Rattle.pd_state.specs.StoredRules.{rule_key, rule_told}
use Rattle.pd_state.proofs.Records.{records_of}
use Rattle.pd_state.proofs.RuleTexts.{means_told}

-- the rules after an entry that asked this
asked_rules : (entries : List Entry) (entry : Entry) (request : Request) → entry.request ≡ request → rules_of (entry ∷ entries) ≡ rules_by request entry.reply (heard_of entry) (rules_of entries)
asked_rules entries entry request asked = ap (λ (r : Request). rules_by r entry.reply (heard_of entry) (rules_of entries)) asked

-- a rule that was set
set_rules : (entries : List Entry) (entry : Entry) (moment : ℕ) (json : List ℕ) (rule : Rule) → entry.request ≡ ask.Rule moment json → entry.reply ≡ replies.RulePut → Means json rule
    → rules_of (entry ∷ entries) ≡ with_rule rule (rules_of entries)
set_rules entries entry moment json rule asked put means =
    asked_rules entries entry (ask.Rule moment json) asked ∙ ap (λ (p : Reply). set_by p (rule_told json) (rules_of entries)) put
    ∙ ap (λ (told : Result Rule RuleFault). set_by replies.RulePut told (rules_of entries)) (means_told json rule means)

with_back : (rule one : Rule) (rules : List Rule) → (rule ≡ one) ⊎ (Contains rules one × AreApart one rule) → Contains (with_rule rule rules) one
with_back rule one rules (inl here) = subst (Contains (with_rule rule rules)) here (with_here rule rules)
with_back rule one rules (inr old) = with_old rule one rules old.0 old.1

pub put_left : (entries : List Entry) (entry : Entry) (moment : ℕ) (json : List ℕ) (rule one : Rule) → entry.request ≡ ask.Rule moment json → entry.reply ≡ replies.RulePut → Means json rule
    → Contains (part_of (entry ∷ entries)).rules one ↔ ((rule ≡ one) ⊎ (Contains (part_of entries).rules one × AreApart one rule))
put_left entries entry moment json rule one asked put means =
    subst (λ (rules : List Rule). Contains rules one ↔ ((rule ≡ one) ⊎ (Contains (rules_of entries) one × AreApart one rule))) (sym (set_rules entries entry moment json rule asked put means))
    (with_from rule one (rules_of entries), with_back rule one (rules_of entries))

unset : (reply : Reply) (told : Result Rule RuleFault) (rules : List Rule) → reply ≢ replies.RulePut → set_by reply told rules ≡ rules
unset replies.RulePut told rules other = absurd (other refl)
unset reply told rules other = refl

pub unput_left : (entries : List Entry) (entry : Entry) (moment : ℕ) (json : List ℕ) → entry.request ≡ ask.Rule moment json → entry.reply ≢ replies.RulePut → (part_of (entry ∷ entries)).rules ≡ (part_of entries).rules
unput_left entries entry moment json asked other = asked_rules entries entry (ask.Rule moment json) asked ∙ unset entry.reply (rule_told json) (rules_of entries) other

-- a rule that was removed
pub removed_left : (entries : List Entry) (entry : Entry) (moment : ℕ) (group id : List ℕ) (one : Rule) → entry.request ≡ ask.Unrule moment group id → entry.reply ≡ replies.RuleRemoved
    → Contains (part_of (entry ∷ entries)).rules one ↔ (Contains (part_of entries).rules one × (one.group ≡ group → one.id ≡ id → ⊥))
removed_left entries entry moment group id one asked removed =
    subst (λ (rules : List Rule). Contains rules one ↔ (Contains (rules_of entries) one × (one.group ≡ group → one.id ≡ id → ⊥))) (sym gone)
    (left_from group id one (rules_of entries), λ both. left_old group id one (rules_of entries) both.0 both.1)
  where
    gone : rules_of (entry ∷ entries) ≡ without group id (rules_of entries)
    gone = asked_rules entries entry (ask.Unrule moment group id) asked ∙ ap (λ (p : Reply). removed_by p group id (rules_of entries)) removed

unremoved : (reply : Reply) (group id : List ℕ) (rules : List Rule) → reply ≢ replies.RuleRemoved → removed_by reply group id rules ≡ rules
unremoved replies.RuleRemoved group id rules other = absurd (other refl)
unremoved reply group id rules other = refl

pub kept_left : (entries : List Entry) (entry : Entry) (moment : ℕ) (group id : List ℕ) → entry.request ≡ ask.Unrule moment group id → entry.reply ≢ replies.RuleRemoved
    → (part_of (entry ∷ entries)).rules ≡ (part_of entries).rules
kept_left entries entry moment group id asked other = asked_rules entries entry (ask.Unrule moment group id) asked ∙ unremoved entry.reply group id (rules_of entries) other

-- any other request but a Term
pub other_left : (request : Request) (entries : List Entry) (entry : Entry) → ((reply : Reply) → rules_by request reply (heard_of entry) (rules_of entries) ≡ rules_of entries) → entry.request ≡ request
    → (part_of (entry ∷ entries)).rules ≡ (part_of entries).rules
other_left request entries entry same asked = asked_rules entries entry request asked ∙ same entry.reply

-- what is known of the metadata
heard_nothing : (call : MetaCall) (verdict : MetaVerdict) (cells : List Cell) (key : List ℕ) (before : ℕ) → is_accepted verdict ≡ false → revision_heard call verdict cells key before ≡ before
heard_nothing call (verdicts.Accepted revision) cells key before is = absurd cc
heard_nothing call (verdicts.OldTerm fence) cells key before is = refl
heard_nothing call (verdicts.Conflict found) cells key before is = refl
heard_nothing call verdicts.Limit cells key before is = refl

known_at : (entries : List Entry) (entry : Entry) (answers : List MetaAnswer) (key : List ℕ) → entry.answers ≡ answers
    → revision_in (cell_at key (part_of (entry ∷ entries)).known) ≡ known_revision key (reverse answers ++ answers_of entries)
known_at entries entry answers key is = kept_known (answers_of (entry ∷ entries)) key ∙ ap (λ (l : List MetaAnswer). known_revision key (reverse l ++ answers_of entries)) is

pub default_stays : (entries : List Entry) (entry : Entry) (second : MetaAnswer) (term revision : ℕ) (bytes : List ℕ)
    → entry.answers ≡ answer_of (calls.Put term (codes "rule/7064/64656661756c74") 0 bytes) (verdicts.Accepted revision) [] ∷ second ∷ [] → is_accepted second.verdict ≡ false
    → revision_in (cell_at (codes "rule/7064/64656661756c74") (part_of (entry ∷ entries)).known) ≡ revision
default_stays entries entry second term revision bytes is refused =
    let key = codes "rule/7064/64656661756c74" in
    let first = answer_of (calls.Put term (codes "rule/7064/64656661756c74") 0 bytes) (verdicts.Accepted revision) [] in
    known_at entries entry (first ∷ second ∷ []) key is
    ∙ heard_nothing second.call second.verdict second.cells key (known_revision key (first ∷ answers_of entries)) refused
    ∙ ap (λ (t : Bool). cond t revision (known_revision key (answers_of entries))) (equal_keys key key refl)

pub deleted_known : (entries : List Entry) (entry : Entry) (term expected revision : ℕ) (group id : List ℕ)
    → entry.answers ≡ answer_of (calls.Delete term (rule_key group id) expected) (verdicts.Accepted revision) [] ∷ [] → revision_in (cell_at (rule_key group id) (part_of (entry ∷ entries)).known) ≡ 0
deleted_known entries entry term expected revision group id is =
    known_at entries entry (answer_of (calls.Delete term (rule_key group id) expected) (verdicts.Accepted revision) [] ∷ []) (rule_key group id) is
    ∙ ap (λ (t : Bool). cond t 0 (known_revision (rule_key group id) (answers_of entries))) (equal_keys (rule_key group id) (rule_key group id) refl)

-- the stores after an entry that asked this
abbrev stores_by : List Entry → Entry → Request → List StoreEntry
stores_by entries entry request =
    map (λ (rec : StoreRec). let x : StoreEntry = record { store = rec; began = began_by request (began_of entries); beat = heartbeat_by request entry.reply rec.id (heartbeat entries rec.id) } in x)
    (records_by request entry.reply (heard_of entry) (part_of entries) (records_of entries))

abbrev LeavesAlone : List Entry → Entry → Type 0
LeavesAlone entries entry =
    ((part_of (entry ∷ entries)).term ≡ (part_of entries).term) × ((part_of (entry ∷ entries)).began ≡ (part_of entries).began)
    × ((part_of (entry ∷ entries)).stores ≡ (part_of entries).stores) × ((part_of (entry ∷ entries)).standing ≡ (part_of entries).standing)

pub rule_alone : (entries : List Entry) (entry : Entry) (moment : ℕ) (json : List ℕ) → entry.request ≡ ask.Rule moment json → LeavesAlone entries entry
rule_alone entries entry moment json asked = (
  ap (λ (r : Request). term_by r (term_of entries)) asked,
  ap (λ (r : Request). began_by r (began_of entries)) asked,
  ap (stores_by entries entry) asked,
  ap (λ (r : Request). table_of (beats_by r entry.reply (beats_of entries))) asked,
)

pub unrule_alone : (entries : List Entry) (entry : Entry) (moment : ℕ) (group id : List ℕ) → entry.request ≡ ask.Unrule moment group id → LeavesAlone entries entry
unrule_alone entries entry moment group id asked = (
  ap (λ (r : Request). term_by r (term_of entries)) asked,
  ap (λ (r : Request). began_by r (began_of entries)) asked,
  ap (stores_by entries entry) asked,
  ap (λ (r : Request). table_of (beats_by r entry.reply (beats_of entries))) asked,
)
