-- A check that is refused leaves what was planned, and so do a patrol and a scheduler's turn, and the stores; a command that only reads leaves both.
use Rattle.std.proofs.Common.{refl, ◌≡◌, ℕ, true, false, List, [], ◌∷◌, sym, ◌∙◌, Option, Some, None}
use Rattle.std.specs.Prelude.{Result, Ok, Err}
use Rattle.pd_types.specs.declared.region.Peer.{Peer}
use Rattle.pd_types.specs.declared.region.RegionBeat.{RegionBeat}
use Rattle.meta_store.specs.declared.record.MetaAnswer.{MetaAnswer}
use Rattle.meta_store.specs.declared.record.MetaVerdict.{MetaVerdict}
use Rattle.meta_store.specs.declared.record.MetaVerdict.TheVariants as verdicts
use Rattle.id_alloc.specs.Windows.{Window, id_call, is_spent, is_used_up}
use Rattle.op_step.specs.Peers.{has_id}
use Rattle.op_control.specs.declared.operator.NewOp.{NewOp}
use Rattle.op_control.specs.declared.adding.AddFault.{AddFault}
use Rattle.op_control.specs.Adding.{refusal_of}
use Rattle.rule_checker.specs.Told.{Told, Fits, Plans, Splits, Stuck}
use Rattle.pd_state.specs.Adding.{Around, Drawn, Planning, Work, add_by, add_op, around_at, asks_id, draw, drawn, draw_saved, enter, entered, entered_with, free_id, pass_over, planning_of, saved_by}
use Rattle.pd_state.specs.Asking.{Asking, Hearing, ask, done, hearing}
use Rattle.pd_state.specs.Checking.{Burial, Deed, Round, bury_all, check_held, check_of, check_op, check_told, deed_of, first_round, idle, patrol, patrol_deed, patrol_of, planned, plans_in, sweep, told_in}
use Rattle.pd_types.specs.declared.proposal.Proposal.{Proposal}
use Rattle.sched_api.specs.declared.scheduler.Said.{Said}
use Rattle.pd_ctl.specs.Reports.{only_reads}
use Rattle.pd_ctl.specs.declared.command.Command.{Command}
use Rattle.pd_ctl.specs.declared.command.Command.TheVariants as commands
use Rattle.pd_ctl.specs.declared.fault.CtlFault.{CtlFault}
use Rattle.pd_state.specs.Clusters.{refuses, refuses_adding}
use Rattle.pd_state.specs.Ctl.{command_done, ctl_of, reads_by, reads_only, resigns, resigns_by, words_done}
use Rattle.pd_state.specs.Reports.{command_told}
use Rattle.pd_state.specs.Scheduling.{heed, proposed, schedule, schedule_of, scheduler}
use Rattle.pd_state.specs.Wishing.{op_of, region_of, try_wished, wish_of, wished}
use Rattle.pd_state.specs.declared.patrol.Planned.{Planned}
use Rattle.pd_state.specs.declared.wishing.Asker.{Asker}
use Rattle.pd_state.specs.Sends.{region_in}
use Rattle.pd_state.specs.declared.adding.Adding.{Adding}
use Rattle.pd_state.specs.declared.part.Part.{Part}
use Rattle.pd_state.specs.declared.reply.Reply.TheVariants as replies
use Rattle.pd_state.proofs.Ends.{Ends, ends_any, ends_if, ends_on, ends_or}

-- why no id was taken isn't a test of an operator
abbrev HasNoFault : Result ℕ Adding → Type 0
HasNoFault (Ok id) = Unit {0}
HasNoFault (Err why) = refuses_adding why ≡ false

abbrev IsDrawn : Drawn → Type 0
IsDrawn one = HasNoFault one.id

saved_drawn : (window : Window) (verdict : MetaVerdict) → IsDrawn (saved_by window verdict)
saved_drawn window (verdicts.Accepted revision) = tt
saved_drawn window (verdicts.OldTerm fence) = refl
saved_drawn window (verdicts.Conflict found) = refl
saved_drawn window verdicts.Limit = refl

draw_drawn : (term : ℕ) (window : Window) (at : Hearing) → Ends Drawn IsDrawn (draw term window at)
draw_drawn term window at =
    ends_if Drawn IsDrawn (is_used_up window) (draw_saved term window) _ at
    (λ used. ends_if Drawn IsDrawn (is_spent window) _ _ at (λ spent. refl)
    (λ room. ends_on MetaVerdict Drawn (λ v. Unit {0}) IsDrawn (λ verdict. done (saved_by window verdict)) (ask (id_call term window) at) (ends_any MetaVerdict _) (λ verdict then u. saved_drawn window verdict)))
    (λ left. tt)

passed_drawn : (beat : RegionBeat) (again : Window → Asking Drawn) (window : Window) (id : Result ℕ Adding) (at : Hearing) → ((window : Window) (at : Hearing) → Ends Drawn IsDrawn (again window at)) → HasNoFault id
    → Ends Drawn IsDrawn (pass_over beat again window id at)
passed_drawn beat again window (Ok id) at more h = ends_if Drawn IsDrawn (has_id id beat) (again window) (done (drawn window (Ok id))) at (λ is. more window at) (λ is. tt)
passed_drawn beat again window (Err why) at more h = h

free_drawn : (peers : List Peer) (beat : RegionBeat) (term : ℕ) (window : Window) (at : Hearing) → Ends Drawn IsDrawn (free_id peers beat term window at)
free_drawn [] beat term window at = draw_drawn term window at
free_drawn (peer ∷ peers) beat term window at =
    ends_on Drawn Drawn IsDrawn IsDrawn (λ one. pass_over beat (free_id peers beat term) one.window one.id) (draw term window at) (draw_drawn term window at)
    (λ one then h. passed_drawn beat (free_id peers beat term) one.window one.id then (λ w a. free_drawn peers beat term w a) h)

abbrev pub WorkLeaves : Planning → Work → Type 0
WorkLeaves planning work = refuses_adding work.adding ≡ true → work.planning ≡ planning

with_leaves : (around : Around) (op : NewOp) (beat : RegionBeat) (planning : Planning) (window : Window) (id : Result ℕ Adding) → HasNoFault id → WorkLeaves planning (entered_with around op beat planning window id)
with_leaves around op beat planning window (Ok id) h = λ no. absurd cc
with_leaves around op beat planning window (Err why) h = λ no. absurd (let both : true ≡ false = sym no ∙ h in cc)

enter_leaves : (around : Around) (op : NewOp) (beat : RegionBeat) (planning : Planning) (at : Hearing) → Ends Work (WorkLeaves planning) (enter around op beat planning at)
enter_leaves around op beat planning at =
    ends_if Work (WorkLeaves planning) (asks_id op.steps) _ (done (entered around op beat planning)) at
    (λ asks. ends_on Drawn Work IsDrawn (WorkLeaves planning) (λ one. done (entered_with around op beat planning one.window one.id)) (free_id beat.region.peers beat around.term planning.window at)
    (free_drawn beat.region.peers beat around.term planning.window at) (λ one then h. with_leaves around op beat planning one.window one.id h))
    (λ none. λ no. absurd cc)

pub add_leaves : (fault : Option AddFault) (around : Around) (op : NewOp) (beat : RegionBeat) (planning : Planning) (at : Hearing) → Ends Work (WorkLeaves planning) (add_by fault around op beat planning at)
add_leaves (Some fault) around op beat planning at = λ no. refl
add_leaves None around op beat planning at = enter_leaves around op beat planning at

abbrev DeedLeaves : Around → Planning → Deed → Type 0
DeedLeaves around planning deed = refuses deed.reply ≡ true → (deed.planning ≡ planning) × (deed.stores ≡ around.stores)

told_leaves : (around : Around) (beat : RegionBeat) (planning : Planning) (told : Told) (at : Hearing) → Ends Deed (DeedLeaves around planning) (check_told around beat planning told at)
told_leaves around beat planning (Splits key) at = λ no. (refl, refl)
told_leaves around beat planning Fits at = λ no. (refl, refl)
told_leaves around beat planning (Stuck from) at = λ no. (refl, refl)
told_leaves around beat planning (Plans class list from to) at =
    ends_on Work Deed (WorkLeaves planning) (DeedLeaves around planning) (λ work. done (planned around class from to work)) (add_op around (check_op beat list) beat planning at)
    (add_leaves (refusal_of planning.operators (check_op beat list) (Some beat) planning.limits around.now) around (check_op beat list) beat planning at) (λ work then h. λ no. (h no, refl))

check_leaves : (around : Around) (planning : Planning) (held : Option RegionBeat) (at : Hearing) → Ends Deed (DeedLeaves around planning) (check_held around planning held at)
check_leaves around planning None at = λ no. (refl, refl)
check_leaves around planning (Some beat) at = told_leaves around beat planning (told_in around beat) at

pub refused_check : (part : Part) (moment region : ℕ) (answers : List MetaAnswer) → DeedLeaves (around_at part moment) (planning_of part) (deed_of (check_of part moment region) part moment answers)
refused_check part moment region answers =
    ends_or Deed (DeedLeaves (around_at part moment) (planning_of part)) (idle (around_at part moment) (planning_of part) replies.NotLeading) (check_of part moment region (hearing part.known answers)) (λ no. (refl, refl))
    (check_leaves (around_at part moment) (planning_of part) (region_in region part.standing) (hearing part.known answers))

patrol_leaves : (around : Around) (planning : Planning) (at : Hearing) → Ends Deed (DeedLeaves around planning) (patrol around planning at)
patrol_leaves around planning at =
    ends_on Round Deed (λ round. Unit {0}) (DeedLeaves around planning) _ (sweep around (plans_in around) (first_round planning) at) (ends_any Round _)
    (λ round then u. ends_on Burial Deed (λ burial. Unit {0}) (DeedLeaves around planning) (λ burial. done (patrol_deed around round burial)) (bury_all around then) (ends_any Burial _) (λ burial last v. λ no. absurd cc))

pub refused_patrol : (part : Part) (moment : ℕ) (answers : List MetaAnswer) → DeedLeaves (around_at part moment) (planning_of part) (deed_of (patrol_of part moment) part moment answers)
refused_patrol part moment answers =
    ends_or Deed (DeedLeaves (around_at part moment) (planning_of part)) (idle (around_at part moment) (planning_of part) replies.NotLeading) (patrol_of part moment (hearing part.known answers)) (λ no. (refl, refl))
    (patrol_leaves (around_at part moment) (planning_of part) (hearing part.known answers))

-- a wish whose operator was tried
try_leaves : (around : Around) (asker : Asker) (planning : Planning) (found : Result Planned Adding) (at : Hearing) → Ends Work (WorkLeaves planning) (try_wished around asker planning found at)
try_leaves around asker planning (Ok planned) at =
    add_leaves (refusal_of planning.operators (op_of asker planned) (Some planned.beat) planning.limits around.now) around (op_of asker planned) planned.beat planning at
try_leaves around asker planning (Err why) at = λ no. refl

answered_leaves : (around : Around) (planning : Planning) (name : List ℕ) (proposal : Option Proposal) (at : Hearing) → Ends Deed (DeedLeaves around planning) (heed around planning name proposal at)
answered_leaves around planning name None at = λ no. (refl, refl)
answered_leaves around planning name (Some proposal) at =
    ends_on Work Deed (WorkLeaves planning) (DeedLeaves around planning) (λ work. done (proposed around name proposal work)) (try_wished around (scheduler name) planning (wished around (region_of proposal) (wish_of proposal)) at)
    (try_leaves around (scheduler name) planning (wished around (region_of proposal) (wish_of proposal)) at) (λ work then h. λ no. (h no, refl))

schedule_leaves : (around : Around) (planning : Planning) (said : List Said) (at : Hearing) → Ends Deed (DeedLeaves around planning) (schedule around planning said at)
schedule_leaves around planning [] at = λ no. (refl, refl)
schedule_leaves around planning (one ∷ more) at = answered_leaves around planning one.name one.proposal at

pub refused_schedule : (part : Part) (moment : ℕ) (said : List Said) (answers : List MetaAnswer) → DeedLeaves (around_at part moment) (planning_of part) (deed_of (schedule_of part moment said) part moment answers)
refused_schedule part moment said answers =
    ends_or Deed (DeedLeaves (around_at part moment) (planning_of part)) (idle (around_at part moment) (planning_of part) replies.NotLeading) (schedule_of part moment said (hearing part.known answers)) (λ no. (refl, refl))
    (schedule_leaves (around_at part moment) (planning_of part) said (hearing part.known answers))

-- a command that only reads
abbrev DeedStays : Around → Planning → Deed → Type 0
DeedStays around planning deed = (deed.planning ≡ planning) × (deed.stores ≡ around.stores)

command_stays : (around : Around) (planning : Planning) (command : Command) (at : Hearing) → only_reads command ≡ true → Ends Deed (DeedStays around planning) (command_done around planning command at)
command_stays around planning (commands.StoreDelete id) at h = absurd cc
command_stays around planning (commands.StoreLimit id rate kind) at h = absurd cc
command_stays around planning (commands.OperatorAdd region wish) at h = absurd cc
command_stays around planning (commands.OperatorRemove region) at h = absurd cc
command_stays around planning command at h = (refl, refl)

words_stay : (around : Around) (planning : Planning) (told : Result Command CtlFault) (at : Hearing) → reads_by told ≡ true → Ends Deed (DeedStays around planning) (words_done around planning told at)
words_stay around planning (Ok command) at h = command_stays around planning command at h
words_stay around planning (Err fault) at h = (refl, refl)

pub reading_ctl : (part : Part) (moment : ℕ) (words : List ℕ) (answers : List MetaAnswer) → reads_only words ≡ true → DeedStays (around_at part moment) (planning_of part) (deed_of (ctl_of part moment words) part moment answers)
reading_ctl part moment words answers h =
    ends_or Deed (DeedStays (around_at part moment) (planning_of part)) (idle (around_at part moment) (planning_of part) replies.NotLeading) (ctl_of part moment words (hearing part.known answers)) (refl, refl)
    (words_stay (around_at part moment) (planning_of part) (command_told words) (hearing part.known answers) h)

-- it doesn't give the term up
stays_by : (told : Result Command CtlFault) → reads_by told ≡ true → resigns_by told ≡ false
stays_by (Ok commands.LeaderResign) h = absurd cc
stays_by told h = refl

pub reading_stays : (words : List ℕ) → reads_only words ≡ true → resigns words ≡ false
reading_stays words h = stays_by (command_told words) h
