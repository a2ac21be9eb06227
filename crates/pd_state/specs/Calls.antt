-- What each request asks of the metadata (own choice: which calls, in which order, and that none is made after a refused one).
use Rattle.std.specs.Prelude.{◌≡◌, ℕ, ◌+◌, nat_lt, Bool, true, false, ◌||◌, if◌then◌else◌, List, [], ◌∷◌, codes, find, length, Result, Ok, Err, Option, Some, None, option_map}
use Rattle.std.specs.List.{cons_option}
use Rattle.std.specs.Option.{option_map_or}
use Rattle.pd_types.specs.declared.region.RegionBeat.{RegionBeat}
use Rattle.pd_types.specs.declared.request.Request.{Request}
use Rattle.pd_types.specs.declared.request.Request.TheVariants as ask
use Rattle.serde_json.specs.Written.{compact_text}
use Rattle.pd_types.specs.declared.rule.Rule.{Rule}
use Rattle.pd_types.specs.declared.store.Label.{Label}
use Rattle.pd_types.specs.declared.store.StoreRec.{StoreRec}
use Rattle.store_table.specs.Entries.{entry_at, state_at}
use Rattle.rule_set.specs.Changes.{remove_refusal}
use Rattle.rule_set.specs.Order.{is_named}
use Rattle.rule_text.specs.declared.fault.RuleFault.{RuleFault}
use Rattle.rule_text.specs.Meaning.{rule_data}
use Rattle.meta_store.specs.declared.record.MetaAnswer.{MetaAnswer}
use Rattle.meta_store.specs.declared.record.MetaCall.{MetaCall}
use Rattle.meta_store.specs.declared.record.MetaCall.TheVariants as calls
use Rattle.meta_store.specs.Cells.{cell_at, revision_in}
use Rattle.meta_store.specs.Past.{is_accepted}
use Rattle.meta_store.specs.Stores.{store_bytes, store_key}
use Rattle.pd_state.specs.Asking.{hearing, wanted}
use Rattle.sched_api.specs.declared.scheduler.Said.{Said}
use Rattle.pd_state.specs.Checking.{check_of, patrol_of}
use Rattle.pd_state.specs.Ctl.{ctl_of}
use Rattle.pd_state.specs.Scheduling.{schedule_of}
use Rattle.pd_state.specs.declared.part.Part.{Part}
use Rattle.pd_state.specs.declared.reply.Reply.{Reply}
use Rattle.pd_state.specs.Replies.{hello_refusal, removal_refused, rule_refusal}
use Rattle.pd_state.specs.Sends.{region_in}
use Rattle.pd_state.specs.State.{greeting, kept_state}
use Rattle.pd_state.specs.StoredRules.{rule_key, rule_told}

-- of these calls, made one after another, the one that comes next after the answers so far; none after a refused one
abbrev pub in_turn : List MetaCall → List MetaAnswer → Option MetaCall
in_turn [] before = None
in_turn (call ∷ calls) [] = Some call
in_turn (call ∷ calls) (answer ∷ before) = if is_accepted answer.verdict then in_turn calls before else None

-- no call where a reply comes before it
abbrev pub unless : Option Reply → List MetaCall → List MetaCall
unless None calls = calls
unless (Some reply) calls = []

-- a write at the revision that is known of the key
abbrev pub put_call : Part → List ℕ → List ℕ → MetaCall
put_call part key bytes = calls.Put part.term key (revision_in (cell_at key part.known)) bytes

-- the record of a store that says hello: a known one keeps its state
abbrev pub greeted_record : Part → ℕ → List ℕ → List Label → StoreRec
greeted_record part store address labels = kept_state (option_map (λ entry. entry.store) (entry_at store part.stores)) (greeting store address labels)

-- a hello writes the store's record
abbrev pub hello_calls : Part → ℕ → List ℕ → List Label → List MetaCall
hello_calls part store address labels =
    unless (hello_refusal (state_at store part.stores) (length part.stores)) (put_call part (store_key store) (store_bytes (greeted_record part store address labels)) ∷ [])

-- the name of the default rule
abbrev pub is_default : Rule → Bool
is_default rule = is_named (codes "pd") (codes "default") rule

-- a write of a rule's text under its key
abbrev pub rule_put : Part → Rule → MetaCall
rule_put part rule = put_call part (rule_key rule.group rule.id) (compact_text (rule_data rule))

-- the revision that is known of a rule's record; 0 where it isn't stored
abbrev pub rule_revision : Part → List ℕ → List ℕ → ℕ
rule_revision part group id = revision_in (cell_at (rule_key group id) part.known)

-- Before another rule is set, the default rule is written, where the set still has it and its key isn't stored: a new term would
-- otherwise be without it
abbrev pub default_put : Part → Rule → Option MetaCall
default_put part rule =
    if is_default rule || nat_lt 0 (rule_revision part (codes "pd") (codes "default")) then None else option_map (rule_put part) (find is_default part.rules)

-- a rule that was told is written behind that
abbrev pub told_calls : Part → Result Rule RuleFault → List MetaCall
told_calls part (Ok rule) = cons_option (default_put part rule) (rule_put part rule ∷ [])
told_calls part (Err fault) = []

-- what setting a rule writes
abbrev pub rule_calls : Part → Result Rule RuleFault → List MetaCall
rule_calls part told = unless (rule_refusal told part.rules) (told_calls part told)

-- the deletion of a rule's record, where it is stored
abbrev pub rule_delete : Part → List ℕ → List ℕ → Option MetaCall
rule_delete part group id =
    if nat_lt 0 (rule_revision part group id) then Some (calls.Delete part.term (rule_key group id) (rule_revision part group id)) else None

-- what removing a rule deletes
abbrev pub unrule_calls : Part → List ℕ → List ℕ → List MetaCall
unrule_calls part group id = unless (removal_refused (remove_refusal group id part.rules)) (cons_option (rule_delete part group id) [])

-- the call that a request makes next where the bench said this, after these answers: a Term announces its term, and without a term part no other request makes one
abbrev pub next_call : Option Part → Request → List Said → List MetaAnswer → Option MetaCall
next_call part (ask.Term term moment) said before = in_turn (calls.Lead term ∷ []) before
next_call (Some part) (ask.Hello store moment address labels) said before = in_turn (hello_calls part store address labels) before
next_call (Some part) (ask.Rule moment json) said before = in_turn (rule_calls part (rule_told json)) before
next_call (Some part) (ask.Unrule moment group id) said before = in_turn (unrule_calls part group id) before
next_call (Some part) (ask.Check moment region) said before = wanted (check_of part moment region (hearing part.known before))
next_call (Some part) (ask.Patrol moment workers) said before = wanted (patrol_of part moment (hearing part.known before))
next_call (Some part) (ask.Schedule moment) said before = wanted (schedule_of part moment said (hearing part.known before))
next_call (Some part) (ask.Ctl moment words) said before = wanted (ctl_of part moment words (hearing part.known before))
next_call _ _ said before = None

-- the peers of regions, and one more for each region: as many ids are drawn at most for the plans of all
abbrev pub most_draws : List RegionBeat → ℕ
most_draws [] = 0
most_draws (beat ∷ beats) = length beat.region.peers + 1 + most_draws beats

-- how many calls a request makes at most: a check draws an id of a new peer and passes over the region's own; a patrol does so for each region, and writes the
-- record of each store that it buries; a turn of a scheduler and a command of pd-ctl do so for one region at most, or write one store's record
abbrev pub most_calls : Option Part → Request → ℕ
most_calls (Some part) (ask.Check moment region) = option_map_or (λ (beat : RegionBeat). length beat.region.peers + 1) (region_in region part.standing) 0
most_calls (Some part) (ask.Patrol moment workers) = most_draws part.standing + length part.stores
most_calls (Some part) (ask.Schedule moment) = most_draws part.standing
most_calls (Some part) (ask.Ctl moment words) = most_draws part.standing + 1
most_calls part request = 2

-- what is said of the answers behind one: the same of those to the calls that are left, or there are none
abbrev pub AreLeft : Bool → Type 0 → List MetaAnswer → Type 0
AreLeft true rest answers = rest
AreLeft false rest answers = answers ≡ []

-- these answers are to these calls, in their order: all of them, or those up to the first that was refused
abbrev pub AreCalls : List MetaCall → List MetaAnswer → Type 0
AreCalls [] answers = answers ≡ []
AreCalls (call ∷ calls) [] = ⊥
AreCalls (call ∷ calls) (answer ∷ answers) = (answer.call ≡ call) × AreLeft (is_accepted answer.verdict) (AreCalls calls answers) answers
