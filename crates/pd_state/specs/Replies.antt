-- What comes first of each request's replies, by the state and by what the metadata answered.
use Rattle.std.specs.Prelude.{ℕ, nat_le, if◌then◌else◌, List, [], ◌∷◌, length, Option, Some, None, Result, Ok, Err}
use Rattle.pd_types.specs.declared.rule.Rule.{Rule}
use Rattle.pd_types.specs.declared.store.StoreState.{StoreState}
use Rattle.pd_types.specs.declared.store.StoreState.TheVariants as states
use Rattle.store_table.specs.declared.table.TheConstants.{MOST_STORES}
use Rattle.heartbeat.specs.declared.intake.Intake.{Intake}
use Rattle.heartbeat.specs.declared.intake.Intake.TheVariants as intakes
use Rattle.op_control.specs.declared.turn.Dispatch.{Dispatch}
use Rattle.rule_set.specs.Changes.{remove_refusal, set_refusal}
use Rattle.rule_set.specs.declared.fault.RemoveFault.{RemoveFault}
use Rattle.rule_set.specs.declared.fault.RemoveFault.TheVariants.{Absent, LastRule}
use Rattle.rule_set.specs.declared.fault.SetFault.{SetFault}
use Rattle.rule_text.specs.declared.fault.RuleFault.{RuleFault}
use Rattle.meta_store.specs.declared.record.MetaAnswer.{MetaAnswer}
use Rattle.meta_store.specs.declared.record.MetaVerdict.{MetaVerdict}
use Rattle.meta_store.specs.declared.record.MetaVerdict.TheVariants as verdicts
use Rattle.pd_state.specs.HandedOut.{or_default, rules_told, stores_told}
use Rattle.pd_state.specs.Heard.{handed_out}
use Rattle.pd_state.specs.declared.heard.Heard.{Heard}
use Rattle.pd_state.specs.declared.reply.Reply.{Reply}
use Rattle.pd_state.specs.declared.reply.Reply.TheVariants as replies

-- the reply that a refused call gives
abbrev pub verdict_refusal : MetaVerdict → Option Reply
verdict_refusal (verdicts.Accepted revision) = None
verdict_refusal (verdicts.OldTerm fence) = Some (replies.OldTerm fence)
verdict_refusal (verdicts.Conflict found) = Some (replies.Conflict found)
verdict_refusal verdicts.Limit = Some replies.MetaLimit

-- a reply that comes before, else the other one
abbrev pub or_then : Option Reply → Reply → Reply
or_then (Some reply) done = reply
or_then None done = done

-- the reply that answers in a row give: that of the first call that was refused, else this one
abbrev pub by_answers : Reply → List MetaAnswer → Reply
by_answers done [] = done
by_answers done (answer ∷ answers) = or_then (verdict_refusal answer.verdict) (by_answers done answers)

-- what a Term is answered where its lead is accepted: how many stores and rules it begins with
abbrev pub begun_reply : ℕ → Heard → Reply
begun_reply term heard = replies.Term term (length (stores_told (handed_out heard.answers))) (length (or_default (rules_told (handed_out heard.answers))))

-- a Term
abbrev pub begin_reply : ℕ → Heard → Reply
begin_reply term heard = by_answers (begun_reply term heard) heard.answers

-- what refuses a hello before the metadata is asked, by the store's known state and the number of known stores
abbrev pub hello_refusal : Option StoreState → ℕ → Option Reply
hello_refusal (Some states.Tombstone) known = Some replies.Tombstone
hello_refusal (Some states.Up) known = None
hello_refusal (Some states.Offline) known = None
hello_refusal None known = if nat_le MOST_STORES known then Some replies.Limit else None

-- a hello
abbrev pub hello_reply : Option StoreState → ℕ → Heard → Reply
hello_reply state known heard = or_then (hello_refusal state known) (by_answers replies.StorePut heard.answers)

-- the reply to a rule that a full set refuses
abbrev pub set_refused : Option SetFault → Option Reply
set_refused None = None
set_refused (Some fault) = Some replies.RuleLimit

-- what refuses a rule before the metadata is asked: its text, or 64 rules of other names
abbrev pub rule_refusal : Result Rule RuleFault → List Rule → Option Reply
rule_refusal (Err fault) rules = Some (replies.BadRule fault)
rule_refusal (Ok rule) rules = set_refused (set_refusal rule rules)

-- a rule
abbrev pub rule_reply : Result Rule RuleFault → List Rule → Heard → Reply
rule_reply told rules heard = or_then (rule_refusal told rules) (by_answers replies.RulePut heard.answers)

-- the reply to a removal that the set refuses
abbrev pub removal_refused : Option RemoveFault → Option Reply
removal_refused None = None
removal_refused (Some Absent) = Some replies.Absent
removal_refused (Some LastRule) = Some replies.LastRule

-- a removal
abbrev pub unrule_reply : List ℕ → List ℕ → List Rule → Heard → Reply
unrule_reply group id rules heard = or_then (removal_refused (remove_refusal group id rules)) (by_answers replies.RuleRemoved heard.answers)

-- a store heartbeat, by the store's known state
abbrev pub alive_reply : Option StoreState → Reply
alive_reply None = replies.UnknownStore
alive_reply (Some states.Tombstone) = replies.Tombstone
alive_reply (Some states.Up) = replies.Alive
alive_reply (Some states.Offline) = replies.Alive

-- a region heartbeat, whose region's operator is dispatched with this answer where it is accepted
abbrev pub beat_reply : Intake → Dispatch → Reply
beat_reply (intakes.Bad fault) answer = replies.Bad fault
beat_reply (intakes.Stale kept) answer = replies.Stale kept
beat_reply intakes.Full answer = replies.Full
beat_reply (intakes.Accepted removed) answer = replies.Accepted (length removed) answer
