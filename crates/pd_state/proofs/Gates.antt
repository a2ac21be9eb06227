-- Each step that an entry sends is safe there: by the answer of its dispatch alone, whoever asked for its operator.
use Rattle.std.proofs.Common.{refl, arith, suc, ◌<◌, get_or, ◌≡◌, ℕ, Bool, true, false, cond, ◌+◌, nat_eq, List, [], ◌∷◌, ◌++◌, length, map, max, ap, sym, ◌∙◌, subst, Option, Some, None}
use Rattle.std.proofs.lemmas.List.Elements.{All-nil, All-cons}
use Rattle.std.specs.List.{All}
use Rattle.std.specs.Option.{option_map}
use Rattle.std.specs.Prelude.{Result, Ok, Err}
use Rattle.pd_types.specs.declared.region.RegionBeat.{RegionBeat}
use Rattle.pd_types.specs.declared.request.Request.{Request}
use Rattle.pd_types.specs.declared.request.Request.TheVariants as ask
use Rattle.store_table.specs.declared.entry.StoreEntry.{StoreEntry}
use Rattle.meta_store.specs.declared.record.MetaAnswer.{MetaAnswer}
use Rattle.op_step.specs.Safe.{IsSafe}
use Rattle.op_control.specs.declared.operator.NewOp.{NewOp}
use Rattle.op_control.specs.declared.operator.Operator.{Operator}
use Rattle.op_control.specs.declared.adding.AddFault.{AddFault}
use Rattle.op_control.specs.declared.turn.Dispatch.{Dispatch}
use Rattle.op_control.specs.declared.turn.Dispatch.TheVariants as dispatch
use Rattle.op_control.specs.Adding.{added, refusal_of, with_new_id}
use Rattle.op_control.specs.Changes.{SendsSafe}
use Rattle.op_control.specs.Table.{Table, dispatch_answer}
use Rattle.pd_state.specs.Adding.{Around, Drawn, Planning, Work, add_by, add_op, around_at, asks_id, enter, entered, entered_with, free_id, planning_of, with_window}
use Rattle.pd_state.specs.Asking.{Hearing, done, hearing, write}
use Rattle.pd_state.specs.Gates.{IsGated, IsSafeThere}
use Rattle.pd_state.specs.Legal.{IsLegal, IsLegalAfter}
use Rattle.pd_state.specs.Sends.{leader_store, message, region_in, sent_by}
use Rattle.pd_state.specs.declared.entry.Entry.{Entry}
use Rattle.pd_state.specs.declared.part.Part.{Part}
use Rattle.pd_state.specs.declared.sent.Sent.{Sent}
use Rattle.pd_state.proofs.Ends.{Ends, ends_any, ends_if, ends_on, ends_or}
use Rattle.std.proofs.lemmas.List.{get_or_default}
use Rattle.std.specs.List.{cons_option, filter_map}
use Rattle.pd_types.proofs.Numbers.{equal, same_number}
use Rattle.op_control.specs.Table.{active_at, answered_by}
use Rattle.op_control.proofs.SendLemmas.{answer-safe}
use Rattle.region_tree.specs.Standing.{AreApart, IsTable, table_of}
use Rattle.region_tree.proofs.Puts.{found_put}
use Rattle.region_tree.proofs.Spots.{own_found}
use Rattle.region_tree.proofs.Stand.{stand_more}
use Rattle.heartbeat.specs.declared.intake.Intake.{Intake}
use Rattle.heartbeat.specs.declared.intake.Intake.TheVariants as intakes
use Rattle.heartbeat.specs.Intakes.{intake_of}
use Rattle.rule_checker.specs.Told.{Told, Fits, Plans, Splits, Stuck}
use Rattle.pd_state.specs.Checking.{Burial, Deed, Round, bury_all, check_held, check_of, check_op, check_told, deed_of, first_round, idle, is_busy, patrol, patrol_deed, patrol_of, plan_told, planned, plans_in, round_after, sweep, told_in, visit}
use Rattle.pd_types.specs.declared.proposal.Proposal.{Proposal}
use Rattle.sched_api.specs.declared.scheduler.Said.{Said}
use Rattle.store_limit.specs.declared.limits.LimitKind.{LimitKind}
use Rattle.store_table.specs.Entries.{entry_at}
use Rattle.pd_ctl.specs.declared.command.Command.{Command}
use Rattle.pd_ctl.specs.declared.command.Command.TheVariants as commands
use Rattle.pd_ctl.specs.declared.fault.CtlFault.{CtlFault}
use Rattle.pd_state.specs.Reports.{command_told}
use Rattle.pd_state.specs.Scheduling.{heed, proposed, schedule, schedule_of, scheduler}
use Rattle.pd_state.specs.declared.wishing.Asker.{Asker}
use Rattle.op_step.specs.Wishes.{Plan, plan_of}
use Rattle.op_step.specs.declared.wishes.Wish.{Wish}
use Rattle.pd_types.specs.declared.store.StoreRec.{StoreRec}
use Rattle.meta_store.specs.Stores.{store_bytes, store_key}
use Rattle.meta_store.specs.declared.record.MetaVerdict.{MetaVerdict}
use Rattle.meta_store.specs.declared.record.MetaVerdict.TheVariants as verdicts
use Rattle.pd_state.specs.Ctl.{added_by_hand, admin, command_done, ctl_of, delete_by, delete_found, deleted_by, deletion, limit_found, remove_found, resigns, words_done}
use Rattle.pd_state.specs.Heard.{heard_of}
use Rattle.pd_state.specs.Wishing.{op_of, planned_or, region_of, steps_in, try_wished, wish_of, wished, wished_by}
use Rattle.pd_state.specs.Legal.{beat_dispatch, beat_sents, first_reply, sents_by, term_in, term_sents}
use Rattle.pd_state.specs.Replies.{beat_reply}
use Rattle.pd_state.specs.Since.{since, since_by}
use Rattle.pd_state.specs.State.{accepted_by, beats_by, beats_of, clock_of, freed, moment_of, part_of, term_of}
use Rattle.pd_state.specs.declared.adding.Adding.{Adding}
use Rattle.pd_state.specs.declared.adding.Adding.TheVariants as adding
use Rattle.pd_state.specs.declared.patrol.Planned.{Planned}
use Rattle.pd_state.specs.declared.reply.Reply.{Reply}
use Rattle.pd_state.specs.declared.reply.Reply.TheVariants as replies
use Rattle.pd_state.proofs.Ranged.{standing_is}

-- a step that was sent is safe beside these regions and stores
record SafeSent (held : List RegionBeat) (stores : List StoreEntry) (now : ℕ) (sent : Sent) : Type 0 where
  beat : RegionBeat
  held_at : region_in sent.region held ≡ Some beat
  leader : sent.to ≡ leader_store beat
  safe : IsSafe sent.step beat stores now

abbrev AreSafe : List RegionBeat → List StoreEntry → ℕ → List Sent → Type 0
AreSafe held stores now [] = Unit {0}
AreSafe held stores now (sent ∷ sents) = SafeSent held stores now sent × AreSafe held stores now sents

safe_append : (held : List RegionBeat) (stores : List StoreEntry) (now : ℕ) (xs ys : List Sent) → AreSafe held stores now xs → AreSafe held stores now ys → AreSafe held stores now (xs ++ ys)
safe_append held stores now [] ys h k = k
safe_append held stores now (x ∷ xs) ys h k = (h.0, safe_append held stores now xs ys h.1 k)

-- what a dispatch sends
answered_safe : (o : Option Operator) (beat : RegionBeat) (stores : List StoreEntry) (now : ℕ) → SendsSafe (answered_by o beat stores now) beat stores now
answered_safe None beat stores now = tt
answered_safe (Some op) beat stores now = answer-safe op beat stores now

dispatch_safe : (table : Table) (beat : RegionBeat) (stores : List StoreEntry) (now : ℕ) → SendsSafe (dispatch_answer table beat stores now) beat stores now
dispatch_safe table beat stores now = answered_safe (active_at table beat.region.id) beat stores now

sent_safe : (held : List RegionBeat) (stores : List StoreEntry) (now : ℕ) (beat : RegionBeat) (answer : Dispatch) → region_in beat.region.id held ≡ Some beat → SendsSafe answer beat stores now → AreSafe held stores now (sent_by beat answer)
sent_safe held stores now beat (dispatch.Send step) at safe = (record { beat = beat; held_at = at; leader = refl; safe = safe }, tt)
sent_safe held stores now beat dispatch.NoOperator at safe = tt
sent_safe held stores now beat (dispatch.Wait h) at safe = tt
sent_safe held stores now beat dispatch.Done at safe = tt
sent_safe held stores now beat (dispatch.Ended state) at safe = tt

-- what adding an operator sends
abbrev WorkSafe : Around → Work → Type 0
WorkSafe around work = AreSafe around.held around.stores around.now work.sents

entered_safe : (around : Around) (op : NewOp) (beat : RegionBeat) (planning : Planning) → region_in beat.region.id around.held ≡ Some beat → WorkSafe around (entered around op beat planning)
entered_safe around op beat planning at = sent_safe around.held around.stores around.now beat _ at (dispatch_safe (added planning.operators op around.now) beat around.stores around.now)

with_safe : (around : Around) (op : NewOp) (beat : RegionBeat) (planning : Planning) (one : Drawn) → region_in beat.region.id around.held ≡ Some beat → WorkSafe around (entered_with around op beat planning one.window one.id)
with_safe around op beat planning one at = by one.id
  where
    by : (id : Result ℕ Adding) → WorkSafe around (entered_with around op beat planning one.window id)
    by (Ok id) = entered_safe around (with_new_id op id) beat (with_window planning one.window) at
    by (Err why) = tt

enter_safe : (around : Around) (op : NewOp) (beat : RegionBeat) (planning : Planning) (at : Hearing) → region_in beat.region.id around.held ≡ Some beat → Ends Work (WorkSafe around) (enter around op beat planning at)
enter_safe around op beat planning at here =
    ends_if Work (WorkSafe around) (asks_id op.steps) _ (done (entered around op beat planning)) at
    (λ asks. ends_on Drawn Work (λ one. Unit {0}) (WorkSafe around) (λ one. done (entered_with around op beat planning one.window one.id)) (free_id beat.region.peers beat around.term planning.window at) (ends_any Drawn _)
    (λ one then u. with_safe around op beat planning one here))
    (λ none. entered_safe around op beat planning here)

add_safe : (fault : Option AddFault) (around : Around) (op : NewOp) (beat : RegionBeat) (planning : Planning) (at : Hearing) → region_in beat.region.id around.held ≡ Some beat → Ends Work (WorkSafe around) (add_by fault around op beat planning at)
add_safe (Some fault) around op beat planning at here = tt
add_safe None around op beat planning at here = enter_safe around op beat planning at here

-- what a check sends
abbrev DeedSafe : Around → Deed → Type 0
DeedSafe around deed = AreSafe around.held around.stores around.now deed.sents

told_safe : (around : Around) (beat : RegionBeat) (planning : Planning) (told : Told) (at : Hearing) → region_in beat.region.id around.held ≡ Some beat → Ends Deed (DeedSafe around) (check_told around beat planning told at)
told_safe around beat planning (Splits key) at here = tt
told_safe around beat planning Fits at here = tt
told_safe around beat planning (Stuck from) at here = tt
told_safe around beat planning (Plans class list from to) at here =
    ends_on Work Deed (WorkSafe around) (DeedSafe around) (λ work. done (planned around class from to work)) (add_op around (check_op beat list) beat planning at)
    (add_safe (refusal_of planning.operators (check_op beat list) (Some beat) planning.limits around.now) around (check_op beat list) beat planning at here) (λ work then h. h)

found_id : (region : ℕ) (held : List RegionBeat) (beat : RegionBeat) → region_in region held ≡ Some beat → beat.region.id ≡ region
found_id region [] beat h = absurd cc
found_id region (one ∷ held) beat h = by (nat_eq one.region.id region) refl h (found_id region held beat)
  where
    by : (t : Bool) → nat_eq one.region.id region ≡ t → cond t (Some one) (region_in region held) ≡ Some beat → (region_in region held ≡ Some beat → beat.region.id ≡ region) → beat.region.id ≡ region
    by true is e rest = let same : one ≡ beat = cc in ap (λ (b : RegionBeat). b.region.id) (sym same) ∙ same_number one.region.id region is
    by false is e rest = rest e

check_safe : (around : Around) (region : ℕ) (planning : Planning) (o : Option RegionBeat) (at : Hearing) → region_in region around.held ≡ o → Ends Deed (DeedSafe around) (check_held around planning o at)
check_safe around region planning None at is = tt
check_safe around region planning (Some beat) at is =
    told_safe around beat planning (told_in around beat) at (ap (λ (id : ℕ). region_in id around.held) (found_id region around.held beat is) ∙ is)

checked_safe : (part : Part) (moment region : ℕ) (answers : List MetaAnswer) → DeedSafe (around_at part moment) (deed_of (check_of part moment region) part moment answers)
checked_safe part moment region answers =
    ends_or Deed (DeedSafe (around_at part moment)) (idle (around_at part moment) (planning_of part) replies.NotLeading) (check_of part moment region (hearing part.known answers)) tt
    (check_safe (around_at part moment) region (planning_of part) (region_in region part.standing) (hearing part.known answers) refl)

-- what a patrol sends
abbrev AreFound : List RegionBeat → List RegionBeat → Type 0
AreFound held [] = Unit {0}
AreFound held (beat ∷ beats) = (region_in beat.region.id held ≡ Some beat) × AreFound held beats

abbrev ArePlanned : List RegionBeat → List Planned → Type 0
ArePlanned held [] = Unit {0}
ArePlanned held (one ∷ plans) = (region_in one.beat.region.id held ≡ Some one.beat) × ArePlanned held plans

plans_found : (around : Around) (held beats : List RegionBeat) → AreFound held beats → ArePlanned held (filter_map (λ beat. plan_told beat (told_in around beat)) beats)
plans_found around held [] h = tt
plans_found around held (beat ∷ beats) h = by (told_in around beat) (plans_found around held beats h.1)
  where
    by : (told : Told) → ArePlanned held (filter_map (λ b. plan_told b (told_in around b)) beats) → ArePlanned held (cons_option (plan_told beat told) (filter_map (λ b. plan_told b (told_in around b)) beats))
    by (Splits key) k = k
    by Fits k = k
    by (Stuck from) k = k
    by (Plans class list from to) k = (h.0, k)

abbrev RoundSafe : Around → Round → Type 0
RoundSafe around round = AreSafe around.held around.stores around.now round.sents

round_safe : (around : Around) (round : Round) (work : Work) (came : Adding) → RoundSafe around round → WorkSafe around work → RoundSafe around (round_after round work came)
round_safe around round work (adding.Added answer) h k = safe_append around.held around.stores around.now round.sents work.sents h k
round_safe around round work (adding.Build fault) h k = h
round_safe around round work (adding.Add fault) h k = h
round_safe around round work (adding.OldTerm fence) h k = h
round_safe around round work (adding.Conflict found) h k = h
round_safe around round work adding.MetaLimit h k = h
round_safe around round work adding.IdsSpent h k = h

visit_safe : (around : Around) (one : Planned) (round : Round) (at : Hearing) → region_in one.beat.region.id around.held ≡ Some one.beat → RoundSafe around round → Ends Round (RoundSafe around) (visit around one round at)
visit_safe around one round at here h =
    ends_if Round (RoundSafe around) round.stopped (done round) _ at (λ s. h)
    (λ s. ends_if Round (RoundSafe around) (is_busy round.planning one.beat.region.id) (done round) _ at (λ b. h)
    (λ b. ends_on Work Round (WorkSafe around) (RoundSafe around) (λ work. done (round_after round work work.adding)) (add_op around (check_op one.beat one.steps) one.beat round.planning at)
    (add_safe (refusal_of round.planning.operators (check_op one.beat one.steps) (Some one.beat) round.planning.limits around.now) around (check_op one.beat one.steps) one.beat round.planning at here)
    (λ work then k. round_safe around round work work.adding h k)))

sweep_safe : (around : Around) (plans : List Planned) (round : Round) (at : Hearing) → ArePlanned around.held plans → RoundSafe around round → Ends Round (RoundSafe around) (sweep around plans round at)
sweep_safe around [] round at are h = h
sweep_safe around (one ∷ plans) round at are h =
    ends_on Round Round (RoundSafe around) (RoundSafe around) (λ next. sweep around plans next) (visit around one round at) (visit_safe around one round at are.0 h) (λ next then k. sweep_safe around plans next then are.1 k)

patrol_safe : (around : Around) (planning : Planning) (at : Hearing) → AreFound around.held around.held → Ends Deed (DeedSafe around) (patrol around planning at)
patrol_safe around planning at found =
    ends_on Round Deed (RoundSafe around) (DeedSafe around) _ (sweep around (plans_in around) (first_round planning) at) (sweep_safe around (plans_in around) (first_round planning) at (plans_found around around.held around.held found) tt)
    (λ round then h. ends_on Burial Deed (λ burial. Unit {0}) (DeedSafe around) (λ burial. done (patrol_deed around round burial)) (bury_all around then) (ends_any Burial _) (λ burial last v. h))

patrolled_safe : (part : Part) (moment : ℕ) (answers : List MetaAnswer) → AreFound part.standing part.standing → DeedSafe (around_at part moment) (deed_of (patrol_of part moment) part moment answers)
patrolled_safe part moment answers found =
    ends_or Deed (DeedSafe (around_at part moment)) (idle (around_at part moment) (planning_of part) replies.NotLeading) (patrol_of part moment (hearing part.known answers)) tt
    (patrol_safe (around_at part moment) (planning_of part) (hearing part.known answers) found)

-- each region of a table is the one of its id
found_at : (held : List RegionBeat) → AreApart held → (k : ℕ) (d : RegionBeat) → k < length held → region_in (get_or held k d).region.id held ≡ Some (get_or held k d)
found_at held apart k d low =
    sym (own_found held k (get_or held k d).region.id (get_or held k d) d apart
    (low, λ other. equal (get_or held k other).region.id (get_or held k d).region.id (ap (λ (b : RegionBeat). b.region.id) (get_or_default held k other d low))) refl)

found_all : (held beats : List RegionBeat) → ((k : ℕ) (d : RegionBeat) → k < length beats → region_in (get_or beats k d).region.id held ≡ Some (get_or beats k d)) → AreFound held beats
found_all held [] h = tt
found_all held (beat ∷ beats) h = (h 0 beat (omega arith), found_all held beats (λ k d low. h (suc k) d (omega arith)))

-- what a wish sends
abbrev FoundOr : List RegionBeat → Result Planned Adding → Type 0
FoundOr held (Ok planned) = region_in planned.beat.region.id held ≡ Some planned.beat
FoundOr held (Err why) = Unit {0}

built_found : (held : List RegionBeat) (beat : RegionBeat) (plan : Plan) → region_in beat.region.id held ≡ Some beat → FoundOr held (planned_or beat plan)
built_found held beat (Ok steps) here = here
built_found held beat (Err fault) here = tt

wish_found : (around : Around) (region : ℕ) (wish : Wish) (o : Option RegionBeat) → region_in region around.held ≡ o → FoundOr around.held (wished_by o around wish)
wish_found around region wish None is = tt
wish_found around region wish (Some beat) is = built_found around.held beat (plan_of wish beat around.stores around.now) (ap (λ (id : ℕ). region_in id around.held) (found_id region around.held beat is) ∙ is)

try_safe : (around : Around) (asker : Asker) (planning : Planning) (found : Result Planned Adding) (at : Hearing) → FoundOr around.held found → Ends Work (WorkSafe around) (try_wished around asker planning found at)
try_safe around asker planning (Ok planned) at here =
    add_safe (refusal_of planning.operators (op_of asker planned) (Some planned.beat) planning.limits around.now) around (op_of asker planned) planned.beat planning at here
try_safe around asker planning (Err why) at here = tt

wish_safe : (around : Around) (asker : Asker) (planning : Planning) (region : ℕ) (wish : Wish) (at : Hearing) → Ends Work (WorkSafe around) (try_wished around asker planning (wished around region wish) at)
wish_safe around asker planning region wish at = try_safe around asker planning (wished around region wish) at (wish_found around region wish (region_in region around.held) refl)

-- what a scheduler's turn sends
answer_safe : (around : Around) (planning : Planning) (name : List ℕ) (proposal : Option Proposal) (at : Hearing) → Ends Deed (DeedSafe around) (heed around planning name proposal at)
answer_safe around planning name None at = tt
answer_safe around planning name (Some proposal) at =
    ends_on Work Deed (WorkSafe around) (DeedSafe around) (λ work. done (proposed around name proposal work)) (try_wished around (scheduler name) planning (wished around (region_of proposal) (wish_of proposal)) at)
    (wish_safe around (scheduler name) planning (region_of proposal) (wish_of proposal) at) (λ work then h. h)

schedule_safe : (around : Around) (planning : Planning) (said : List Said) (at : Hearing) → Ends Deed (DeedSafe around) (schedule around planning said at)
schedule_safe around planning [] at = tt
schedule_safe around planning (one ∷ more) at = answer_safe around planning one.name one.proposal at

scheduled_safe : (part : Part) (moment : ℕ) (said : List Said) (answers : List MetaAnswer) → DeedSafe (around_at part moment) (deed_of (schedule_of part moment said) part moment answers)
scheduled_safe part moment said answers =
    ends_or Deed (DeedSafe (around_at part moment)) (idle (around_at part moment) (planning_of part) replies.NotLeading) (schedule_of part moment said (hearing part.known answers)) tt
    (schedule_safe (around_at part moment) (planning_of part) said (hearing part.known answers))

-- what a command sends
verdict_safe : (around : Around) (planning : Planning) (id : ℕ) (verdict : MetaVerdict) → DeedSafe around (deleted_by around planning id verdict)
verdict_safe around planning id (verdicts.Accepted revision) = tt
verdict_safe around planning id (verdicts.OldTerm fence) = tt
verdict_safe around planning id (verdicts.Conflict found) = tt
verdict_safe around planning id verdicts.Limit = tt

by_safe : (r : Result StoreRec Reply) (around : Around) (planning : Planning) (at : Hearing) → Ends Deed (DeedSafe around) (delete_by r around planning at)
by_safe (Ok rec) around planning at =
    ends_on MetaVerdict Deed (λ v. Unit {0}) (DeedSafe around) (λ verdict. done (deleted_by around planning rec.id verdict)) (write around.term (store_key rec.id) (store_bytes rec) at) (ends_any MetaVerdict _)
    (λ verdict then u. verdict_safe around planning rec.id verdict)
by_safe (Err reply) around planning at = tt

delete_safe : (o : Option StoreEntry) (around : Around) (planning : Planning) (at : Hearing) → Ends Deed (DeedSafe around) (delete_found o around planning at)
delete_safe o around planning at = by_safe (deletion o) around planning at

limit_safe : (o : Option StoreEntry) (around : Around) (planning : Planning) (id rate : ℕ) (kind : LimitKind) (at : Hearing) → Ends Deed (DeedSafe around) (limit_found o around planning id rate kind at)
limit_safe None around planning id rate kind at = tt
limit_safe (Some entry) around planning id rate kind at = tt

remove_safe : (o : Option Operator) (around : Around) (planning : Planning) (region : ℕ) (at : Hearing) → Ends Deed (DeedSafe around) (remove_found o around planning region at)
remove_safe None around planning region at = tt
remove_safe (Some op) around planning region at = tt

command_safe : (around : Around) (planning : Planning) (command : Command) (at : Hearing) → Ends Deed (DeedSafe around) (command_done around planning command at)
command_safe around planning (commands.StoreDelete id) at = delete_safe (entry_at id around.stores) around planning at
command_safe around planning (commands.StoreLimit id rate kind) at = limit_safe (entry_at id around.stores) around planning id rate kind at
command_safe around planning (commands.OperatorAdd region wish) at =
    ends_on Work Deed (WorkSafe around) (DeedSafe around) (λ work. done (added_by_hand around (steps_in (wished around region wish)) work)) (try_wished around admin planning (wished around region wish) at)
    (wish_safe around admin planning region wish at) (λ work then h. h)
command_safe around planning (commands.OperatorRemove region) at = remove_safe (active_at planning.operators region) around planning region at
command_safe around planning command at = tt

words_safe : (around : Around) (planning : Planning) (told : Result Command CtlFault) (at : Hearing) → Ends Deed (DeedSafe around) (words_done around planning told at)
words_safe around planning (Ok command) at = command_safe around planning command at
words_safe around planning (Err fault) at = tt

commanded_safe : (part : Part) (moment : ℕ) (words : List ℕ) (answers : List MetaAnswer) → DeedSafe (around_at part moment) (deed_of (ctl_of part moment words) part moment answers)
commanded_safe part moment words answers =
    ends_or Deed (DeedSafe (around_at part moment)) (idle (around_at part moment) (planning_of part) replies.NotLeading) (ctl_of part moment words (hearing part.known answers)) tt
    (words_safe (around_at part moment) (planning_of part) (command_told words) (hearing part.known answers))

-- a command that leaves a term
goes_on : (t : Bool) (es : List Entry) (after : Part) → option_map part_of (cond t None (Some es)) ≡ Some after → Some (part_of es) ≡ Some after
goes_on true es after is = absurd cc
goes_on false es after is = is

-- an accepted heartbeat stands afterwards
beat_held : (bs : List RegionBeat) (beat : RegionBeat) → region_in beat.region.id (table_of (beat ∷ bs)) ≡ Some beat
beat_held bs beat = ap (region_in beat.region.id) (stand_more beat bs) ∙ found_put beat (table_of bs)

answer_is : (i : Intake) (removed : ℕ) (answer came : Dispatch) → replies.Accepted removed answer ≡ beat_reply i came → answer ≡ came
answer_is (intakes.Accepted ids) removed answer came h = cc
answer_is (intakes.Bad fault) removed answer came h = absurd cc
answer_is (intakes.Stale kept) removed answer came h = absurd cc
answer_is intakes.Full removed answer came h = absurd cc

beat_safe : (bs : List RegionBeat) (stores : List StoreEntry) (now : ℕ) (beat : RegionBeat) (i : Intake) (came : Dispatch) (p : Reply) → p ≡ beat_reply i came → SendsSafe came beat stores now → AreSafe (table_of (accepted_by p beat bs)) stores now (beat_sents p beat)
beat_safe bs stores now beat i came (replies.Accepted removed answer) h safe =
    sent_safe (table_of (beat ∷ bs)) stores now beat answer (beat_held bs beat) (subst (λ (d : Dispatch). SendsSafe d beat stores now) (sym (answer_is i removed answer came h)) safe)
beat_safe bs stores now beat i came p h safe = tt

some_part : (a b : Part) → Some a ≡ Some b → a ≡ b
some_part a b h = cc

-- the regions after an entry that asked this
after_is : (e : Entry) (es : List Entry) (r : Request) (after : Part) → e.request ≡ r → Some (part_of (e ∷ es)) ≡ Some after → after.standing ≡ table_of (beats_by r e.reply (beats_of es))
after_is e es r after asked is = ap (λ (p : Part). p.standing) (sym (some_part _ after is)) ∙ ap (λ (q : Request). table_of (beats_by q e.reply (beats_of es))) asked

abbrev SafeBy : Part → Part → Entry → Request → Type 0
SafeBy before after e r = AreSafe after.standing before.stores (max before.clock (moment_of r)) (term_sents before r e.reply (heard_of e))

safe_by : (driver : ℕ) (e : Entry) (es : List Entry) (r : Request) (after : Part) → e.request ≡ r → IsTable (beats_of es) (part_of es).standing → e.reply ≡ first_reply driver (Some (part_of es)) r (heard_of e) → option_map part_of (since_by r e (Some es)) ≡ Some after → SafeBy (part_of es) after e r
safe_by driver e es (ask.Beat store moment beat) after asked table said is =
    subst (λ (held : List RegionBeat). AreSafe held (part_of es).stores (max (clock_of es) moment) (beat_sents e.reply beat)) (sym (after_is e es (ask.Beat store moment beat) after asked is))
    (beat_safe (beats_of es) (part_of es).stores (max (clock_of es) moment) beat (intake_of beat (part_of es).standing) (beat_dispatch (part_of es) moment beat) e.reply said (dispatch_safe (freed beat (part_of es).standing (part_of es).operators) beat (part_of es).stores (max (clock_of es) moment)))
safe_by driver e es (ask.Check moment region) after asked table said is =
    subst (λ (held : List RegionBeat). AreSafe held (part_of es).stores (max (clock_of es) moment) (deed_of (check_of (part_of es) moment region) (part_of es) moment e.answers).sents) (sym (after_is e es (ask.Check moment region) after asked is))
    (checked_safe (part_of es) moment region e.answers)
safe_by driver e es (ask.Patrol moment workers) after asked table said is =
    subst (λ (held : List RegionBeat). AreSafe held (part_of es).stores (max (clock_of es) moment) (deed_of (patrol_of (part_of es) moment) (part_of es) moment e.answers).sents) (sym (after_is e es (ask.Patrol moment workers) after asked is))
    (patrolled_safe (part_of es) moment e.answers (found_all (part_of es).standing (part_of es).standing (found_at (part_of es).standing table.apart)))
safe_by driver e es (ask.Schedule moment) after asked table said is =
    subst (λ (held : List RegionBeat). AreSafe held (part_of es).stores (max (clock_of es) moment) (deed_of (schedule_of (part_of es) moment e.bench) (part_of es) moment e.answers).sents) (sym (after_is e es (ask.Schedule moment) after asked is))
    (scheduled_safe (part_of es) moment e.bench e.answers)
safe_by driver e es (ask.Ctl moment words) after asked table said is =
    subst (λ (held : List RegionBeat). AreSafe held (part_of es).stores (max (clock_of es) moment) (deed_of (ctl_of (part_of es) moment words) (part_of es) moment e.answers).sents)
    (sym (after_is e es (ask.Ctl moment words) after asked (goes_on (resigns words) (e ∷ es) after is))) (commanded_safe (part_of es) moment words e.answers)
safe_by driver e es _ after asked table said is = tt

messages_safe : (before after : Part) (now driver term entry : ℕ) (sents : List Sent) → AreSafe after.standing before.stores now sents → All (IsSafeThere before after now) (map (message driver term entry) sents)
messages_safe before after now driver term entry [] h = All-nil (IsSafeThere before after now)
messages_safe before after now driver term entry (sent ∷ sents) h =
    All-cons (IsSafeThere before after now) (message driver term entry sent) (map (message driver term entry) sents)
    (let s = h.0 in record { beat = s.beat; held = s.held_at; leader = s.leader; safe = s.safe }) (messages_safe before after now driver term entry sents h.1)

gated_by : (s : Option (List Entry)) (e : Entry) (driver entry : ℕ) → ((es : List Entry) → s ≡ Some es → IsTable (beats_of es) (part_of es).standing) → e.reply ≡ first_reply driver (option_map part_of s) e.request (heard_of e)
    → e.sends ≡ map (message driver (term_in (option_map part_of s)) entry) (sents_by (option_map part_of s) e.request e.reply (heard_of e))
    → (before after : Part) → option_map part_of s ≡ Some before → option_map part_of (since_by e.request e s) ≡ Some after → All (IsSafeThere before after (max before.clock (moment_of e.request))) e.sends
gated_by None e driver entry table said sends before after was is = absurd cc
gated_by (Some es) e driver entry table said sends before after was is =
    let same : part_of es ≡ before = some_part (part_of es) before was in
    subst (λ (p : Part). All (IsSafeThere p after (max p.clock (moment_of e.request))) e.sends) same
    (subst (All (IsSafeThere (part_of es) after (max (clock_of es) (moment_of e.request)))) (sym sends)
    (messages_safe (part_of es) after (max (clock_of es) (moment_of e.request)) driver (term_of es) entry (term_sents (part_of es) e.request e.reply (heard_of e)) (safe_by driver e es e.request after refl (table es refl) said is)))

pub gated : (driver : ℕ) (past : List Entry) (entry : Entry) → IsLegal driver past → IsLegalAfter driver past entry → IsGated past entry
gated driver past entry legal here = λ before after was is.
    gated_by (since past) entry driver (length past + 1) (λ es h. standing_is driver past es legal h) here.reply_is here.sends_are before after was is
