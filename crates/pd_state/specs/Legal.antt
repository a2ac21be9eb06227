-- Which entries a journal may have: each with the first reply that applies over the entries before it, with the answers to just its calls, with as many answers of
-- schedulers as it lets take a turn, and with just the steps that it sent. Each list of entries has the latest first.
use Rattle.std.specs.Prelude.{◌≡◌, ℕ, ◌+◌, max, List, [], ◌∷◌, length, map, Option, Some, None}
use Rattle.pd_types.specs.declared.region.RegionBeat.{RegionBeat}
use Rattle.pd_types.specs.declared.request.Request.{Request}
use Rattle.pd_types.specs.declared.request.Request.TheVariants as ask
use Rattle.pd_types.specs.declared.step.StepMsg.{StepMsg}
use Rattle.store_table.specs.Entries.{state_at}
use Rattle.heartbeat.specs.Intakes.{intake_of}
use Rattle.meta_store.specs.Asked.{AreAsked}
use Rattle.op_control.specs.declared.turn.Dispatch.{Dispatch}
use Rattle.op_control.specs.Table.{dispatch_answer}
use Rattle.pd_state.specs.BenchHeard.{names_heard, turns_of}
use Rattle.pd_state.specs.Calls.{next_call}
use Rattle.pd_state.specs.Checking.{check_of, deed_of, patrol_of}
use Rattle.pd_state.specs.Ctl.{ctl_of, reply_or, report_told}
use Rattle.pd_state.specs.Scheduling.{schedule_of}
use Rattle.pd_state.specs.Sends.{message, sent_by}
use Rattle.pd_state.specs.Heard.{heard_of}
use Rattle.pd_state.specs.Replies.{alive_reply, beat_reply, begin_reply, hello_reply, rule_reply, unrule_reply}
use Rattle.pd_state.specs.StoredRules.{rule_told}
use Rattle.pd_state.specs.declared.entry.Entry.{Entry}
use Rattle.pd_state.specs.declared.heard.Heard.{Heard}
use Rattle.pd_state.specs.declared.part.Part.{Part}
use Rattle.pd_state.specs.declared.sent.Sent.{Sent}
use Rattle.pd_state.specs.declared.reply.Reply.{Reply}
use Rattle.pd_state.specs.declared.reply.Reply.TheVariants as replies
use Rattle.pd_state.specs.State.{freed, part_after}

-- the answer of the dispatch by a heartbeat of this moment, once the operators of the regions that it displaces are gone
abbrev pub beat_dispatch : Part → ℕ → RegionBeat → Dispatch
beat_dispatch part moment beat = dispatch_answer (freed beat part.standing part.operators) beat part.stores (max part.clock moment)

-- the first reply that applies, in a term part of this driver's cluster
abbrev pub term_reply : ℕ → Part → Request → Heard → Reply
term_reply driver part (ask.Term term moment) heard = begin_reply term heard
term_reply driver part ask.Retire heard = replies.Retired
term_reply driver part (ask.Hello store moment address labels) heard = hello_reply (state_at store part.stores) (length part.stores) heard
term_reply driver part (ask.Alive store moment) heard = alive_reply (state_at store part.stores)
term_reply driver part (ask.Beat store moment beat) heard = beat_reply (intake_of beat part.standing) (beat_dispatch part moment beat)
term_reply driver part (ask.Rule moment json) heard = rule_reply (rule_told json) part.rules heard
term_reply driver part (ask.Unrule moment group id) heard = unrule_reply group id part.rules heard
term_reply driver part (ask.Check moment region) heard = (deed_of (check_of part moment region) part moment heard.answers).reply
term_reply driver part (ask.Patrol moment workers) heard = (deed_of (patrol_of part moment) part moment heard.answers).reply
term_reply driver part (ask.Schedule moment) heard = (deed_of (schedule_of part moment heard.bench) part moment heard.answers).reply
term_reply driver part (ask.Ctl moment words) heard = reply_or (report_told driver part moment words heard.names) (deed_of (ctl_of part moment words) part moment heard.answers).reply

-- the first reply that applies: without a term part every request but Term is not served
abbrev pub first_reply : ℕ → Option Part → Request → Heard → Reply
first_reply driver None (ask.Term term moment) heard = begin_reply term heard
first_reply driver None _ heard = replies.NotLeading
first_reply driver (Some part) request heard = term_reply driver part request heard

-- the steps that an accepted heartbeat sends
abbrev pub beat_sents : Reply → RegionBeat → List Sent
beat_sents (replies.Accepted removed answer) beat = sent_by beat answer
beat_sents _ beat = []

-- the steps that a request sends, in a term part: those that its dispatches answer with Send
abbrev pub term_sents : Part → Request → Reply → Heard → List Sent
term_sents part (ask.Beat store moment beat) reply heard = beat_sents reply beat
term_sents part (ask.Check moment region) reply heard = (deed_of (check_of part moment region) part moment heard.answers).sents
term_sents part (ask.Patrol moment workers) reply heard = (deed_of (patrol_of part moment) part moment heard.answers).sents
term_sents part (ask.Schedule moment) reply heard = (deed_of (schedule_of part moment heard.bench) part moment heard.answers).sents
term_sents part (ask.Ctl moment words) reply heard = (deed_of (ctl_of part moment words) part moment heard.answers).sents
term_sents part _ reply heard = []

-- the steps that a request sends: none without a term part
abbrev pub sents_by : Option Part → Request → Reply → Heard → List Sent
sents_by None request reply heard = []
sents_by (Some part) request reply heard = term_sents part request reply heard

-- the number of the term; 0 without one
abbrev pub term_in : Option Part → ℕ
term_in None = 0
term_in (Some part) = part.term

-- the messages that a request sends to a driver's cluster with this past, where it has this reply
abbrev pub sends_by : ℕ → List Entry → Request → Reply → Heard → List StepMsg
sends_by driver past request reply heard = map (message driver (term_in (part_after past)) (length past + 1)) (sents_by (part_after past) request reply heard)

-- an entry that this past of a driver's cluster allows
pub record IsLegalAfter (driver : ℕ) (past : List Entry) (entry : Entry) : Type 0 where
  pub reply_is : entry.reply ≡ first_reply driver (part_after past) entry.request (heard_of entry)
  pub asked : AreAsked (next_call (part_after past) entry.request entry.bench) [] entry.answers
  pub turns_are : length entry.bench ≡ turns_of (part_after past) entry.request entry.names
  pub names_are : entry.names ≡ names_heard entry.request entry.names
  pub sends_are : entry.sends ≡ sends_by driver past entry.request entry.reply (heard_of entry)

-- each entry is one that those before it allow
abbrev pub IsLegal : ℕ → List Entry → Type 0
IsLegal driver [] = Unit {0}
IsLegal driver (entry ∷ past) = IsLegalAfter driver past entry × IsLegal driver past
