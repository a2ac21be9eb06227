-- Where a cluster's answer tells a step as sent, its request sent one that the answer tells.
use Rattle.std.proofs.Common.{refl, ◌≡◌, ℕ, ◌+◌, Bool, true, false, cond, nat_le, List, [], ◌∷◌, length, max, ap, sym, ◌∙◌, Option, Some, None, arith}
use Rattle.std.specs.Prelude.{Contains, Result, Ok, Err, codes}
use Rattle.pd_types.specs.declared.region.Peer.{Peer}
use Rattle.pd_types.specs.declared.region.RegionBeat.{RegionBeat}
use Rattle.pd_types.specs.declared.request.Request.{Request}
use Rattle.pd_types.specs.declared.request.Request.TheVariants as ask
use Rattle.pd_types.specs.declared.rule.Rule.{Rule}
use Rattle.pd_types.specs.declared.step.Step.{Step}
use Rattle.pd_types.specs.declared.store.StoreState.{StoreState}
use Rattle.pd_types.specs.declared.store.StoreState.TheVariants as states
use Rattle.heartbeat.specs.declared.intake.Intake.{Intake}
use Rattle.heartbeat.specs.declared.intake.Intake.TheVariants as intakes
use Rattle.heartbeat.specs.Intakes.{intake_of}
use Rattle.id_alloc.specs.Windows.{Window, id_call, is_spent, is_used_up, with_next}
use Rattle.meta_store.specs.declared.record.MetaAnswer.{MetaAnswer}
use Rattle.meta_store.specs.declared.record.MetaVerdict.{MetaVerdict}
use Rattle.meta_store.specs.declared.record.MetaVerdict.TheVariants as verdicts
use Rattle.op_control.specs.Adding.{refusal_of, with_new_id}
use Rattle.op_control.specs.declared.operator.NewOp.{NewOp}
use Rattle.op_control.specs.declared.adding.AddFault.{AddFault}
use Rattle.op_control.specs.declared.turn.Dispatch.{Dispatch}
use Rattle.op_control.specs.declared.turn.Dispatch.TheVariants as dispatch
use Rattle.op_step.specs.Peers.{has_id}
use Rattle.rule_checker.specs.Told.{Told, Fits, Plans, Splits, Stuck}
use Rattle.rule_set.specs.Changes.{remove_refusal, set_refusal}
use Rattle.rule_set.specs.declared.fault.RemoveFault.{RemoveFault}
use Rattle.rule_set.specs.declared.fault.RemoveFault.TheVariants.{Absent, LastRule}
use Rattle.rule_set.specs.declared.fault.SetFault.{SetFault}
use Rattle.rule_text.specs.declared.fault.RuleFault.{RuleFault}
use Rattle.store_table.specs.Entries.{entry_at, state_at}
use Rattle.store_table.specs.declared.table.TheConstants.{MOST_STORES}
use Rattle.pd_state.specs.Adding.{Around, Drawn, Planning, Work, add_by, add_op, around_at, asks_id, draw, draw_saved, drawn, enter, entered, entered_with, free_id, pass_over, planning_of, saved_by, with_window}
use Rattle.pd_state.specs.Asking.{Asking, Hearing, ask as ask_one, done, hearing, write}
use Rattle.pd_state.specs.Checking.{Burial, Deed, Round, bury_all, check_held, check_of, check_op, check_told, deed_of, first_round, idle, patrol, patrol_deed, patrol_of, planned, plans_in, sweep, told_in}
use Rattle.pd_types.specs.declared.proposal.Proposal.{Proposal}
use Rattle.sched_api.specs.declared.scheduler.Said.{Said}
use Rattle.store_limit.specs.declared.limits.LimitKind.{LimitKind}
use Rattle.pd_ctl.specs.declared.command.Command.{Command}
use Rattle.pd_ctl.specs.declared.command.Command.TheVariants as commands
use Rattle.pd_ctl.specs.declared.fault.CtlFault.{CtlFault}
use Rattle.pd_ctl.specs.Trees.{fault_tree}
use Rattle.pd_state.specs.AddingText.{adding_text}
use Rattle.pd_state.specs.Reports.{added_tree, adding_tree, command_told, done_tree, reported}
use Rattle.pd_state.specs.ReplyText.{reply_text}
use Rattle.pd_state.specs.Scheduling.{heed, proposed, schedule, schedule_of, scheduler}
use Rattle.pd_state.specs.declared.wishing.Asker.{Asker}
use Rattle.serde_json.specs.Data.{Data}
use Rattle.op_step.specs.Wishes.{Plan, plan_of}
use Rattle.op_step.specs.declared.wishes.Wish.{Wish}
use Rattle.op_control.specs.Table.{active_at}
use Rattle.op_control.specs.declared.operator.Operator.{Operator}
use Rattle.pd_types.specs.declared.store.StoreRec.{StoreRec}
use Rattle.meta_store.specs.Stores.{store_bytes, store_key}
use Rattle.store_table.specs.declared.entry.StoreEntry.{StoreEntry}
use Rattle.pd_state.specs.Ctl.{added_by_hand, admin, command_done, command_report, ctl_of, delete_by, delete_found, deleted_by, deletion_by, faulted, limit_found, rated, remove_found, removed, reply_or, report_told, words_done, words_report}
use Rattle.pd_state.specs.Wishing.{op_of, planned_or, region_of, steps_in, try_wished, wish_of, wished, wished_by}
use Rattle.pd_state.specs.declared.patrol.Planned.{Planned}
use Rattle.pd_state.specs.Legal.{beat_dispatch, beat_sents, first_reply, sents_by, term_reply, term_sents}
use Rattle.pd_state.specs.Replies.{alive_reply, beat_reply, begun_reply, by_answers, hello_reply, or_then, removal_refused, rule_reply, set_refused, unrule_reply, verdict_refusal}
use Rattle.pd_state.specs.Sends.{leader_store, region_in, sent_by}
use Rattle.pd_state.specs.StoredRules.{rule_told}
use Rattle.pd_state.specs.declared.adding.Adding.{Adding}
use Rattle.pd_state.specs.declared.adding.Adding.TheVariants as adding
use Rattle.pd_state.specs.declared.heard.Heard.{Heard}
use Rattle.pd_state.specs.declared.part.Part.{Part}
use Rattle.pd_state.specs.declared.reply.Reply.{Reply}
use Rattle.pd_state.specs.declared.reply.Reply.TheVariants as replies
use Rattle.pd_state.specs.declared.sent.Sent.{Sent}
use Rattle.pd_state.specs.StepTold.{TellsStep, sent_report, step_added, step_of}
use Rattle.pd_state.proofs.Ends.{Ends, ends_any, ends_if, ends_map, ends_on, ends_or}
use Rattle.pd_state.proofs.Reported.{NoneTold, added_no, done_no, fault_no, words_no}

-- one of these was sent with this step
pub record Among (step : Step) (sents : List Sent) : Type 0 where
  pub sent : Sent
  pub here : Contains sents sent
  pub is : sent.step ≡ step

told_by : (beat : RegionBeat) (answer : Dispatch) (step : Step) → step_of answer ≡ Some step → Among step (sent_by beat answer)
told_by beat (dispatch.Send one) step is = record { sent = record { region = beat.region.id; to = leader_store beat; step = one }; here = (0, omega arith, refl); is = cc }
told_by beat dispatch.NoOperator step is = absurd cc
told_by beat (dispatch.Wait held) step is = absurd cc
told_by beat dispatch.Done step is = absurd cc
told_by beat (dispatch.Ended state) step is = absurd cc

-- an id that isn't drawn has a refusal, which sends nothing
abbrev IsRefusal : Result ℕ Adding → Type 0
IsRefusal (Ok id) = Unit {0}
IsRefusal (Err why) = step_added why ≡ None

saved_refuses : (window : Window) (verdict : MetaVerdict) → IsRefusal (saved_by window verdict).id
saved_refuses window (verdicts.Accepted revision) = tt
saved_refuses window (verdicts.OldTerm fence) = refl
saved_refuses window (verdicts.Conflict found) = refl
saved_refuses window verdicts.Limit = refl

abbrev DrawsOr : Drawn → Type 0
DrawsOr one = IsRefusal one.id

draw_saved_refuses : (term : ℕ) (window : Window) (at : Hearing) → Ends Drawn DrawsOr (draw_saved term window at)
draw_saved_refuses term window at =
    ends_if Drawn DrawsOr (is_spent window) (done (drawn window (Err adding.IdsSpent))) _ at (λ spent. refl)
    (λ room. ends_on MetaVerdict Drawn (λ v. Unit {0}) DrawsOr (λ verdict. done (saved_by window verdict)) (ask_one (id_call term window) at) (ends_any MetaVerdict _) (λ verdict then u. saved_refuses window verdict))

draw_refuses : (term : ℕ) (window : Window) (at : Hearing) → Ends Drawn DrawsOr (draw term window at)
draw_refuses term window at =
    ends_if Drawn DrawsOr (is_used_up window) (draw_saved term window) (done (drawn (with_next window) (Ok (window.taken + 1)))) at (λ used. draw_saved_refuses term window at) (λ left. tt)

pass_refuses : (beat : RegionBeat) (again : Window → Asking Drawn) (window : Window) (id : Result ℕ Adding) (at : Hearing) → ((w : Window) (h : Hearing) → Ends Drawn DrawsOr (again w h)) → IsRefusal id → Ends Drawn DrawsOr (pass_over beat again window id at)
pass_refuses beat again window (Ok id) at goes_on h = ends_if Drawn DrawsOr (has_id id beat) (again window) (done (drawn window (Ok id))) at (λ has. goes_on window at) (λ free. tt)
pass_refuses beat again window (Err why) at goes_on h = h

free_refuses : (peers : List Peer) (beat : RegionBeat) (term : ℕ) (window : Window) (at : Hearing) → Ends Drawn DrawsOr (free_id peers beat term window at)
free_refuses [] beat term window at = draw_refuses term window at
free_refuses (peer ∷ more) beat term window at =
    ends_on Drawn Drawn DrawsOr DrawsOr (λ one. pass_over beat (free_id more beat term) one.window one.id) (draw term window at) (draw_refuses term window at)
    (λ one then h. pass_refuses beat (free_id more beat term) one.window one.id then (λ w k. free_refuses more beat term w k) h)

-- what adding an operator tells was sent
abbrev WorkTells : Work → Type 0
WorkTells work = (step : Step) → step_added work.adding ≡ Some step → Among step work.sents

entered_tells : (around : Around) (op : NewOp) (beat : RegionBeat) (planning : Planning) → WorkTells (entered around op beat planning)
entered_tells around op beat planning step is = told_by beat _ step is

none_tells : (o : Option Step) (step : Step) (sents : List Sent) → o ≡ None → o ≡ Some step → Among step sents
none_tells o step sents none is = absurd (let both : None ≡ Some step = sym none ∙ is in cc)

with_tells : (around : Around) (op : NewOp) (beat : RegionBeat) (planning : Planning) (window : Window) (id : Result ℕ Adding) → IsRefusal id → WorkTells (entered_with around op beat planning window id)
with_tells around op beat planning window (Ok id) h = entered_tells around (with_new_id op id) beat (with_window planning window)
with_tells around op beat planning window (Err why) h = λ step is. none_tells (step_added why) step [] h is

enter_tells : (around : Around) (op : NewOp) (beat : RegionBeat) (planning : Planning) (at : Hearing) → Ends Work WorkTells (enter around op beat planning at)
enter_tells around op beat planning at =
    ends_if Work WorkTells (asks_id op.steps) _ (done (entered around op beat planning)) at
    (λ asks. ends_on Drawn Work DrawsOr WorkTells (λ one. done (entered_with around op beat planning one.window one.id)) (free_id beat.region.peers beat around.term planning.window at) (free_refuses beat.region.peers beat around.term planning.window at)
    (λ one then h. with_tells around op beat planning one.window one.id h))
    (λ none. entered_tells around op beat planning)

add_tells : (fault : Option AddFault) (around : Around) (op : NewOp) (beat : RegionBeat) (planning : Planning) (at : Hearing) → Ends Work WorkTells (add_by fault around op beat planning at)
add_tells (Some fault) around op beat planning at = λ step is. none_tells None step [] refl is
add_tells None around op beat planning at = enter_tells around op beat planning at

-- a wish without an operator tells no step
abbrev FoundTells : Result Planned Adding → Type 0
FoundTells (Ok planned) = Unit {0}
FoundTells (Err why) = step_added why ≡ None

-- one of these was sent, and the answer tells its step
pub record AmongTold (reply : Reply) (sents : List Sent) : Type 0 where
  pub sent : Sent
  pub here : Contains sents sent
  pub told : TellsStep reply sent.step

-- the answer tells no step
abbrev Silent : Reply → Type 0
Silent reply = (step : Step) → TellsStep reply step → ⊥

-- what a request tells was sent
abbrev DeedTells : Deed → Type 0
DeedTells deed = (step : Step) → TellsStep deed.reply step → AmongTold deed.reply deed.sents

-- what came of an operator, where the answer tells just that
came_tells : (reply : Reply) (came : Adding) (sents : List Sent) → ((step : Step) → TellsStep reply step → step_added came ≡ Some step) → ((step : Step) → step_added came ≡ Some step → TellsStep reply step)
    → ((step : Step) → step_added came ≡ Some step → Among step sents) → (step : Step) → TellsStep reply step → AmongTold reply sents
came_tells reply came sents reads tells work step is =
    let a = work step (reads step is) in
    record { sent = a.sent; here = a.here; told = tells a.sent.step (reads step is ∙ ap (λ (s : Step). Some s) (sym a.is)) }

check_tells : (around : Around) (beat : RegionBeat) (planning : Planning) (told : Told) (at : Hearing) → Ends Deed DeedTells (check_told around beat planning told at)
check_tells around beat planning (Splits key) at = λ step is. absurd is
check_tells around beat planning Fits at = λ step is. absurd is
check_tells around beat planning (Stuck from) at = λ step is. absurd is
check_tells around beat planning (Plans class list from to) at =
    ends_on Work Deed WorkTells DeedTells (λ work. done (planned around class from to work)) (add_op around (check_op beat list) beat planning at)
    (add_tells (refusal_of planning.operators (check_op beat list) (Some beat) planning.limits around.now) around (check_op beat list) beat planning at)
    (λ work then h. came_tells (replies.Plan class from to work.adding) work.adding work.sents (λ step is. is) (λ step is. is) h)

held_tells : (around : Around) (planning : Planning) (o : Option RegionBeat) (at : Hearing) → Ends Deed DeedTells (check_held around planning o at)
held_tells around planning None at = λ step is. absurd is
held_tells around planning (Some beat) at = check_tells around beat planning (told_in around beat) at

patrol_tells : (around : Around) (planning : Planning) (at : Hearing) → Ends Deed DeedTells (patrol around planning at)
patrol_tells around planning at =
    ends_on Round Deed (λ round. Unit {0}) DeedTells _ (sweep around (plans_in around) (first_round planning) at) (ends_any Round _)
    (λ round then h. ends_on Burial Deed (λ burial. Unit {0}) DeedTells (λ burial. done (patrol_deed around round burial)) (bury_all around then) (ends_any Burial _) (λ burial last v. λ step is. absurd is))

idle_tells : (around : Around) (planning : Planning) → DeedTells (idle around planning replies.NotLeading)
idle_tells around planning step is = absurd is

-- a wish without an operator tells no step
planned_refuses : (beat : RegionBeat) (plan : Plan) → FoundTells (planned_or beat plan)
planned_refuses beat (Ok steps) = tt
planned_refuses beat (Err fault) = refl

wish_refuses : (around : Around) (wish : Wish) (o : Option RegionBeat) → FoundTells (wished_by o around wish)
wish_refuses around wish None = refl
wish_refuses around wish (Some beat) = planned_refuses beat (plan_of wish beat around.stores around.now)

found_tells : (around : Around) (asker : Asker) (planning : Planning) (found : Result Planned Adding) (at : Hearing) → FoundTells found → Ends Work WorkTells (try_wished around asker planning found at)
found_tells around asker planning (Ok planned) at h =
    add_tells (refusal_of planning.operators (op_of asker planned) (Some planned.beat) planning.limits around.now) around (op_of asker planned) planned.beat planning at
found_tells around asker planning (Err why) at h = λ step is. none_tells (step_added why) step [] h is

try_tells : (around : Around) (asker : Asker) (planning : Planning) (region : ℕ) (wish : Wish) (at : Hearing) → Ends Work WorkTells (try_wished around asker planning (wished around region wish) at)
try_tells around asker planning region wish at = found_tells around asker planning (wished around region wish) at (wish_refuses around wish (region_in region around.held))

-- what a scheduler's turn tells was sent
heed_tells : (around : Around) (planning : Planning) (name : List ℕ) (proposal : Option Proposal) (at : Hearing) → Ends Deed DeedTells (heed around planning name proposal at)
heed_tells around planning name None at = λ step is. absurd is
heed_tells around planning name (Some proposal) at =
    ends_on Work Deed WorkTells DeedTells (λ work. done (proposed around name proposal work)) (try_wished around (scheduler name) planning (wished around (region_of proposal) (wish_of proposal)) at)
    (try_tells around (scheduler name) planning (region_of proposal) (wish_of proposal) at)
    (λ work then h. came_tells (replies.Proposed name proposal work.adding) work.adding work.sents (λ step is. is) (λ step is. is) h)

schedule_tells : (around : Around) (planning : Planning) (said : List Said) (at : Hearing) → Ends Deed DeedTells (schedule around planning said at)
schedule_tells around planning [] at = λ step is. absurd is
schedule_tells around planning (one ∷ more) at = heed_tells around planning one.name one.proposal at

-- what an operator by hand tells was sent
answer_tells : (steps : ℕ) (answer : Dispatch) (sents : List Sent) → ((step : Step) → step_of answer ≡ Some step → Among step sents) → (step : Step) → TellsStep (reported (added_tree steps answer)) step → AmongTold (reported (added_tree steps answer)) sents
answer_tells steps (dispatch.Send one) sents work step is =
    let a = work one refl in
    record { sent = a.sent; here = a.here; told = (steps, ap (λ (s : Step). sent_report steps s) (sym a.is)) }
answer_tells steps dispatch.NoOperator sents work step is = absurd (added_no steps dispatch.NoOperator (λ s h. cc) is.0 step is.1)
answer_tells steps (dispatch.Wait held) sents work step is = absurd (added_no steps (dispatch.Wait held) (λ s h. cc) is.0 step is.1)
answer_tells steps dispatch.Done sents work step is = absurd (added_no steps dispatch.Done (λ s h. cc) is.0 step is.1)
answer_tells steps (dispatch.Ended state) sents work step is = absurd (added_no steps (dispatch.Ended state) (λ s h. cc) is.0 step is.1)

hand_tells : (steps : ℕ) (came : Adding) (sents : List Sent) → ((step : Step) → step_added came ≡ Some step → Among step sents) → (step : Step) → TellsStep (reported (adding_tree steps came)) step → AmongTold (reported (adding_tree steps came)) sents
hand_tells steps (adding.Added answer) sents work step is = answer_tells steps answer sents work step is
hand_tells steps (adding.Build fault) sents work step is = absurd (fault_no (adding_text (adding.Build fault)) is.0 step is.1)
hand_tells steps (adding.Add fault) sents work step is = absurd (fault_no (adding_text (adding.Add fault)) is.0 step is.1)
hand_tells steps (adding.OldTerm fence) sents work step is = absurd (fault_no (adding_text (adding.OldTerm fence)) is.0 step is.1)
hand_tells steps (adding.Conflict found) sents work step is = absurd (fault_no (adding_text (adding.Conflict found)) is.0 step is.1)
hand_tells steps adding.MetaLimit sents work step is = absurd (fault_no (adding_text adding.MetaLimit) is.0 step is.1)
hand_tells steps adding.IdsSpent sents work step is = absurd (fault_no (adding_text adding.IdsSpent) is.0 step is.1)

-- the other commands that change something tell no step
fault_silent : (text : List ℕ) → Silent (reported (fault_tree text))
fault_silent text step is = fault_no text is.0 step is.1

done_silent : (name : List ℕ) → Silent (reported (done_tree name))
done_silent name step is = done_no name is.0 step is.1

quiet_tells : (deed : Deed) → Silent deed.reply → DeedTells deed
quiet_tells deed silent step is = absurd (silent step is)

deleted_silent : (around : Around) (planning : Planning) (id : ℕ) (verdict : MetaVerdict) → Silent (deleted_by around planning id verdict).reply
deleted_silent around planning id (verdicts.Accepted revision) = done_silent (codes "Offline")
deleted_silent around planning id (verdicts.OldTerm fence) = fault_silent (reply_text (replies.OldTerm fence))
deleted_silent around planning id (verdicts.Conflict found) = fault_silent (reply_text (replies.Conflict found))
deleted_silent around planning id verdicts.Limit = fault_silent (reply_text replies.MetaLimit)

-- a deletion that is refused reports
abbrev SilentErr : Result StoreRec Reply → Type 0
SilentErr (Ok rec) = Unit {0}
SilentErr (Err reply) = Silent reply

state_silent : (state : StoreState) (rec : StoreRec) → SilentErr (deletion_by state rec)
state_silent states.Up rec = tt
state_silent states.Offline rec = tt
state_silent states.Tombstone rec = fault_silent (codes "tombstone")

by_tells : (r : Result StoreRec Reply) (around : Around) (planning : Planning) (at : Hearing) → SilentErr r → Ends Deed DeedTells (delete_by r around planning at)
by_tells (Ok rec) around planning at h =
    ends_on MetaVerdict Deed (λ v. Unit {0}) DeedTells (λ verdict. done (deleted_by around planning rec.id verdict)) (write around.term (store_key rec.id) (store_bytes rec) at) (ends_any MetaVerdict _)
    (λ verdict then u. quiet_tells (deleted_by around planning rec.id verdict) (deleted_silent around planning rec.id verdict))
by_tells (Err reply) around planning at h = quiet_tells (idle around planning reply) h

delete_tells : (o : Option StoreEntry) (around : Around) (planning : Planning) (at : Hearing) → Ends Deed DeedTells (delete_found o around planning at)
delete_tells None around planning at = quiet_tells (idle around planning (reported (fault_tree (codes "unknown-store")))) (fault_silent (codes "unknown-store"))
delete_tells (Some entry) around planning at = by_tells (deletion_by entry.store.state entry.store) around planning at (state_silent entry.store.state entry.store)

limit_tells : (o : Option StoreEntry) (around : Around) (planning : Planning) (id rate : ℕ) (kind : LimitKind) (at : Hearing) → Ends Deed DeedTells (limit_found o around planning id rate kind at)
limit_tells None around planning id rate kind at = quiet_tells (faulted around planning (codes "unknown-store")) (fault_silent (codes "unknown-store"))
limit_tells (Some entry) around planning id rate kind at = quiet_tells (rated around planning id rate kind) (done_silent (codes "Limit"))

remove_tells : (o : Option Operator) (around : Around) (planning : Planning) (region : ℕ) (at : Hearing) → Ends Deed DeedTells (remove_found o around planning region at)
remove_tells None around planning region at = quiet_tells (faulted around planning (codes "absent")) (fault_silent (codes "absent"))
remove_tells (Some op) around planning region at = quiet_tells (removed around planning region) (done_silent (codes "Canceled"))

-- a command is told by what it did, unless a report stands before it
abbrev CommandTells : Command → Deed → Type 0
CommandTells command deed = (driver : ℕ) (part : Part) (now : ℕ) (names : List (List ℕ)) → command_report driver part now names command ≡ None → DeedTells deed

command_tells : (around : Around) (planning : Planning) (command : Command) (at : Hearing) → Ends Deed (CommandTells command) (command_done around planning command at)
command_tells around planning (commands.StoreDelete id) at = ends_map Deed DeedTells (CommandTells (commands.StoreDelete id)) (delete_found (entry_at id around.stores) around planning at) (λ deed h driver part now names none. h) (delete_tells (entry_at id around.stores) around planning at)
command_tells around planning (commands.StoreLimit id rate kind) at =
    ends_map Deed DeedTells (CommandTells (commands.StoreLimit id rate kind)) (limit_found (entry_at id around.stores) around planning id rate kind at) (λ deed h driver part now names none. h) (limit_tells (entry_at id around.stores) around planning id rate kind at)
command_tells around planning (commands.OperatorAdd region wish) at =
    ends_on Work Deed WorkTells (CommandTells (commands.OperatorAdd region wish)) (λ work. done (added_by_hand around (steps_in (wished around region wish)) work)) (try_wished around admin planning (wished around region wish) at)
    (try_tells around admin planning region wish at) (λ work then h driver part now names none. hand_tells (steps_in (wished around region wish)) work.adding work.sents h)
command_tells around planning (commands.OperatorRemove region) at =
    ends_map Deed DeedTells (CommandTells (commands.OperatorRemove region)) (remove_found (active_at planning.operators region) around planning region at) (λ deed h driver part now names none. h) (remove_tells (active_at planning.operators region) around planning region at)
command_tells around planning command at = λ driver part now names none. absurd cc

abbrev WordsTell : Result Command CtlFault → Deed → Type 0
WordsTell told deed = (driver : ℕ) (part : Part) (now : ℕ) (names : List (List ℕ)) → words_report driver part now names told ≡ None → DeedTells deed

words_tells : (around : Around) (planning : Planning) (told : Result Command CtlFault) (at : Hearing) → Ends Deed (WordsTell told) (words_done around planning told at)
words_tells around planning (Ok command) at = command_tells around planning command at
words_tells around planning (Err fault) at = λ driver part now names none. absurd cc

report_tells : (o : Option Data) (deed : Deed) → NoneTold o → (o ≡ None → DeedTells deed) → (step : Step) → TellsStep (reply_or o deed.reply) step → AmongTold (reply_or o deed.reply) deed.sents
report_tells (Some tree) deed silent h step is = absurd (silent is.0 step is.1)
report_tells None deed silent h step is = h refl step is

-- a heartbeat's answer
beat_tells : (i : Intake) (came : Dispatch) (beat : RegionBeat) (step : Step) → TellsStep (beat_reply i came) step → AmongTold (beat_reply i came) (beat_sents (beat_reply i came) beat)
beat_tells (intakes.Bad fault) came beat step is = absurd is
beat_tells (intakes.Stale kept) came beat step is = absurd is
beat_tells intakes.Full came beat step is = absurd is
beat_tells (intakes.Accepted removed) came beat step is =
    let a = told_by beat came step is in
    record { sent = a.sent; here = a.here; told = is ∙ ap (λ (s : Step). Some s) (sym a.is) }

-- the other answers tell no step
verdict_silent : (verdict : MetaVerdict) (reply : Reply) → Silent reply → Silent (or_then (verdict_refusal verdict) reply)
verdict_silent (verdicts.Accepted revision) reply h = h
verdict_silent (verdicts.OldTerm fence) reply h = λ step is. is
verdict_silent (verdicts.Conflict found) reply h = λ step is. is
verdict_silent verdicts.Limit reply h = λ step is. is

answers_silent : (reply : Reply) (answers : List MetaAnswer) → Silent reply → Silent (by_answers reply answers)
answers_silent reply [] h = h
answers_silent reply (answer ∷ answers) h = verdict_silent answer.verdict (by_answers reply answers) (answers_silent reply answers h)

limit_silent : (b : Bool) (reply : Reply) → Silent reply → Silent (or_then (cond b (Some replies.Limit) None) reply)
limit_silent true reply h = λ step is. is
limit_silent false reply h = h

hello_silent : (state : Option StoreState) (known : ℕ) (heard : Heard) → Silent (hello_reply state known heard)
hello_silent (Some states.Tombstone) known heard = λ step is. is
hello_silent (Some states.Up) known heard = answers_silent replies.StorePut heard.answers (λ step is. is)
hello_silent (Some states.Offline) known heard = answers_silent replies.StorePut heard.answers (λ step is. is)
hello_silent None known heard = limit_silent (nat_le MOST_STORES known) (by_answers replies.StorePut heard.answers) (answers_silent replies.StorePut heard.answers (λ step is. is))

alive_silent : (state : Option StoreState) → Silent (alive_reply state)
alive_silent None = λ step is. is
alive_silent (Some states.Tombstone) = λ step is. is
alive_silent (Some states.Up) = λ step is. is
alive_silent (Some states.Offline) = λ step is. is

set_silent : (o : Option SetFault) (reply : Reply) → Silent reply → Silent (or_then (set_refused o) reply)
set_silent None reply h = h
set_silent (Some fault) reply h = λ step is. is

rule_silent : (told : Result Rule RuleFault) (rules : List Rule) (heard : Heard) → Silent (rule_reply told rules heard)
rule_silent (Err fault) rules heard = λ step is. is
rule_silent (Ok rule) rules heard = set_silent (set_refusal rule rules) (by_answers replies.RulePut heard.answers) (answers_silent replies.RulePut heard.answers (λ step is. is))

removal_silent : (o : Option RemoveFault) (reply : Reply) → Silent reply → Silent (or_then (removal_refused o) reply)
removal_silent None reply h = h
removal_silent (Some Absent) reply h = λ step is. is
removal_silent (Some LastRule) reply h = λ step is. is

unrule_silent : (group id : List ℕ) (rules : List Rule) (heard : Heard) → Silent (unrule_reply group id rules heard)
unrule_silent group id rules heard = removal_silent (remove_refusal group id rules) (by_answers replies.RuleRemoved heard.answers) (answers_silent replies.RuleRemoved heard.answers (λ step is. is))

-- each answer of a request
term_tells : (driver : ℕ) (part : Part) (request : Request) (heard : Heard) (step : Step) → TellsStep (term_reply driver part request heard) step → AmongTold (term_reply driver part request heard) (term_sents part request (term_reply driver part request heard) heard)
term_tells driver part (ask.Beat store moment beat) heard step is = beat_tells (intake_of beat part.standing) (beat_dispatch part moment beat) beat step is
term_tells driver part (ask.Check moment region) heard step is =
    ends_or Deed DeedTells (idle (around_at part moment) (planning_of part) replies.NotLeading) (check_of part moment region (hearing part.known heard.answers)) (idle_tells (around_at part moment) (planning_of part))
    (held_tells (around_at part moment) (planning_of part) (region_in region part.standing) (hearing part.known heard.answers)) step is
term_tells driver part (ask.Patrol moment workers) heard step is =
    ends_or Deed DeedTells (idle (around_at part moment) (planning_of part) replies.NotLeading) (patrol_of part moment (hearing part.known heard.answers)) (idle_tells (around_at part moment) (planning_of part))
    (patrol_tells (around_at part moment) (planning_of part) (hearing part.known heard.answers)) step is
term_tells driver part (ask.Schedule moment) heard step is =
    ends_or Deed DeedTells (idle (around_at part moment) (planning_of part) replies.NotLeading) (schedule_of part moment heard.bench (hearing part.known heard.answers)) (idle_tells (around_at part moment) (planning_of part))
    (schedule_tells (around_at part moment) (planning_of part) heard.bench (hearing part.known heard.answers)) step is
term_tells driver part (ask.Ctl moment words) heard step is =
    report_tells (report_told driver part moment words heard.names) (deed_of (ctl_of part moment words) part moment heard.answers) (words_no driver part (max part.clock moment) heard.names (command_told words))
    (ends_or Deed (WordsTell (command_told words)) (idle (around_at part moment) (planning_of part) replies.NotLeading) (ctl_of part moment words (hearing part.known heard.answers))
    (λ d p now names none. idle_tells (around_at part moment) (planning_of part))
    (words_tells (around_at part moment) (planning_of part) (command_told words) (hearing part.known heard.answers)) driver part (max part.clock moment) heard.names) step is
term_tells driver part (ask.Term term moment) heard step is = absurd (answers_silent (begun_reply term heard) heard.answers (λ s h. h) step is)
term_tells driver part ask.Retire heard step is = absurd is
term_tells driver part (ask.Hello store moment address labels) heard step is = absurd (hello_silent (state_at store part.stores) (length part.stores) heard step is)
term_tells driver part (ask.Alive store moment) heard step is = absurd (alive_silent (state_at store part.stores) step is)
term_tells driver part (ask.Rule moment json) heard step is = absurd (rule_silent (rule_told json) part.rules heard step is)
term_tells driver part (ask.Unrule moment group id) heard step is = absurd (unrule_silent group id part.rules heard step is)

pub told_sent : (driver : ℕ) (part : Option Part) (request : Request) (heard : Heard) (step : Step) → TellsStep (first_reply driver part request heard) step → AmongTold (first_reply driver part request heard) (sents_by part request (first_reply driver part request heard) heard)
told_sent driver (Some part) request heard step is = term_tells driver part request heard step is
told_sent driver None (ask.Term term moment) heard step is = absurd (answers_silent (begun_reply term heard) heard.answers (λ s h. h) step is)
told_sent driver None _ heard step is = absurd is
