-- The lives of operators between two entries.
use Rattle.std.proofs.Common.{refl, ◌≡◌, ◌≢◌, ◌⊎◌, inl, inr, ℕ, Bool, true, false, cond, eqb, fold, IsTrue, List, [], ◌∷◌, ◌++◌, sym, ◌∙◌, subst, Option, Some, None}
use Rattle.std.proofs.lemmas.Bool.{cases_eq, eq-eqb, ne_eqb, false≢true}
use Rattle.std.specs.FinMap as map
use Rattle.std.specs.Ordering.{nat_cmp}
use Rattle.std.specs.Option.{option_map}
use Rattle.std.specs.Prelude.{Result, Ok, Err}
use Rattle.pd_types.specs.declared.region.RegionBeat.{RegionBeat}
use Rattle.pd_types.specs.declared.request.Request.{Request}
use Rattle.pd_types.specs.declared.request.Request.TheVariants as ask
use Rattle.store_table.specs.declared.entry.StoreEntry.{StoreEntry}
use Rattle.meta_store.specs.declared.record.MetaAnswer.{MetaAnswer}
use Rattle.region_tree.specs.Stale.{ids_of, removed_by}
use Rattle.op_control.specs.declared.operator.NewOp.{NewOp}
use Rattle.op_control.specs.declared.operator.Operator.{Operator}
use Rattle.op_control.specs.declared.operator.OpState.{OpState}
use Rattle.op_control.specs.declared.operator.OpState.TheVariants.{Created, Started, Success, Canceled, Replaced, Expired, Timeout}
use Rattle.op_control.specs.declared.adding.AddFault.{AddFault}
use Rattle.op_control.specs.declared.turn.Dispatch.{Dispatch}
use Rattle.op_control.specs.declared.turn.Dispatch.TheVariants as dispatch
use Rattle.op_control.specs.Adding.{added, created, refusal_of, with_new_id}
use Rattle.op_control.specs.Life.{Lives, Where, is_active, lives, FirstSend, NoStepLeft, ConfVerGrew, RegionLeft, HigherPriority, TooLate}
use Rattle.op_control.specs.Table.{Table, active_at, active_by, cancel, canceled, canceled_by, dispatched, turned_by}
use Rattle.op_control.specs.Turn.{answer_of, moves, stays_active, stays_started, turned}
use Rattle.op_control.proofs.ChangeLemmas.{active-state}
use Rattle.op_control.proofs.LifeLemmas.{gone-by, moved-turned}
use Rattle.rule_checker.specs.Told.{Told, Fits, Plans, Splits, Stuck}
use Rattle.pd_state.specs.Adding.{Around, Drawn, Planning, Work, add_by, add_op, around_at, asks_id, enter, entered, entered_with, free_id, planning_of, with_window}
use Rattle.pd_state.specs.Asking.{Hearing, done, hearing, write}
use Rattle.pd_state.specs.Checking.{Burial, Deed, Round, bury_all, check_held, check_of, check_op, check_told, deed_of, first_round, idle, is_busy, patrol, patrol_deed, patrol_of, planned, plans_in, round_after, sweep, told_in, visit}
use Rattle.pd_types.specs.declared.proposal.Proposal.{Proposal}
use Rattle.sched_api.specs.declared.scheduler.Said.{Said}
use Rattle.store_limit.specs.declared.limits.LimitKind.{LimitKind}
use Rattle.store_table.specs.Entries.{entry_at}
use Rattle.pd_ctl.specs.declared.command.Command.{Command}
use Rattle.pd_ctl.specs.declared.command.Command.TheVariants as commands
use Rattle.pd_ctl.specs.declared.fault.CtlFault.{CtlFault}
use Rattle.pd_state.specs.Reports.{command_told}
use Rattle.pd_state.specs.Scheduling.{heed, proposed, schedule, schedule_of, scheduler}
use Rattle.pd_state.specs.declared.wishing.Asker.{Asker}
use Rattle.pd_types.specs.declared.store.StoreRec.{StoreRec}
use Rattle.id_map.proofs.Inserted.{get-insert}
use Rattle.meta_store.specs.Stores.{store_bytes, store_key}
use Rattle.meta_store.specs.declared.record.MetaVerdict.{MetaVerdict}
use Rattle.meta_store.specs.declared.record.MetaVerdict.TheVariants as verdicts
use Rattle.pd_state.specs.Ctl.{added_by_hand, admin, command_done, ctl_of, delete_by, delete_found, deleted_by, deletion, limit_found, remove_found, resigns, words_done}
use Rattle.pd_state.specs.Heard.{heard_of}
use Rattle.pd_state.specs.Wishing.{op_of, region_of, steps_in, try_wished, wish_of, wished}
use Rattle.pd_state.specs.Lives.{AreLives, GoesOn, GoesWith, IsFurther, IsReplaced, Leads, LivesOn, Turn}
use Rattle.pd_state.specs.Sends.{region_in}
use Rattle.pd_state.specs.Since.{since, since_by}
use Rattle.pd_state.specs.State.{freed, part_after, part_of, planned_beat, planned_by, planned_hello}
use Rattle.pd_state.specs.declared.adding.Adding.{Adding}
use Rattle.pd_state.specs.declared.adding.Adding.TheVariants as adding
use Rattle.pd_state.specs.declared.entry.Entry.{Entry}
use Rattle.pd_state.specs.declared.heard.Heard.{Heard}
use Rattle.pd_state.specs.declared.part.Part.{Part}
use Rattle.pd_state.specs.declared.patrol.Planned.{Planned}
use Rattle.pd_state.specs.declared.reply.Reply.{Reply}
use Rattle.pd_state.specs.declared.reply.Reply.TheVariants as replies
use Rattle.pd_state.proofs.Ends.{Ends, ends_any, ends_if, ends_on, ends_or}

-- steps in a row
leads_on : (from mid to : OpState) (xs ys : List Turn) → Leads from xs mid → Leads mid ys to → Leads from (xs ++ ys) to
leads_on from mid to [] ys h k = subst (λ (s : OpState). Leads s ys to) (sym h) k
leads_on from mid to (x ∷ xs) ys h k = (h.0, leads_on x.to mid to xs ys h.1 k)

goes_on : (from mid to : OpState) → GoesOn from mid → GoesOn mid to → GoesOn from to
goes_on from mid to one two = record { turns = one.turns ++ two.turns; leads = leads_on from mid to one.turns two.turns one.leads two.leads }

stays : (s t : OpState) → s ≡ t → GoesOn s t
stays s t is = record { turns = []; leads = is }

turns_to : (from to : OpState) (at : Where) → Lives from to at → GoesOn from to
turns_to from to at h = record { turns = record { to = to; at = at } ∷ []; leads = (h, refl) }

same_on : (a b c : Operator) → IsFurther a b → IsFurther b c → IsFurther a c
same_on a b c s t = record {
  region = t.region ∙ s.region;
  epoch = t.epoch ∙ s.epoch;
  kind = t.kind ∙ s.kind;
  steps = t.steps ∙ s.steps;
  priority = t.priority ∙ s.priority;
  created = t.created ∙ s.created;
  state = goes_on a.state b.state c.state s.state t.state;
}

lives_then : (a b c : Option Operator) → LivesOn a b → LivesOn b c → LivesOn a c
lives_then None None None h k = tt
lives_then None None (Some c) h k = k
lives_then None (Some b) None h k = absurd k
lives_then None (Some b) (Some c) h (inl same) = goes_on Created b.state c.state h same.state
lives_then None (Some b) (Some c) h (inr other) = other.begins
lives_then (Some a) None c h k = absurd h
lives_then (Some a) (Some b) None h k = absurd k
lives_then (Some a) (Some b) (Some c) (inl s) (inl t) = inl (same_on a b c s t)
lives_then (Some a) (Some b) (Some c) (inl s) (inr t) = inr (record { end = t.end; ends = goes_on a.state b.state t.end s.state t.ends; ended = t.ended; begins = t.begins })
lives_then (Some a) (Some b) (Some c) (inr s) (inl t) = inr (record { end = s.end; ends = s.ends; ended = s.ended; begins = goes_on Created b.state c.state s.begins t.state })
lives_then (Some a) (Some b) (Some c) (inr s) (inr t) = inr (record { end = s.end; ends = s.ends; ended = s.ended; begins = t.begins })

lives_same : (o : Option Operator) → LivesOn o o
lives_same None = tt
lives_same (Some a) = inl (record { region = refl; epoch = refl; kind = refl; steps = refl; priority = refl; created = refl; state = stays a.state a.state refl })

pub tables_then : (x y z : Table) → AreLives x y → AreLives y z → AreLives x z
tables_then x y z h k = λ region. lives_then (map.get x.last region) (map.get y.last region) (map.get z.last region) (h region) (k region)

pub table_same : (table : Table) → AreLives table table
table_same table = λ region. lives_same (map.get table.last region)

-- another operator of one region
written_lives : (m : map.FinMap nat_cmp Operator) (region : ℕ) (new : Operator) → LivesOn (map.get m region) (Some new) → (q : ℕ) → LivesOn (map.get m q) (map.get (map.insert m region new) q)
written_lives m region new h q = subst (λ (o : Option Operator). LivesOn (map.get m q) o) (sym (get-insert m region new q)) (by (cases_eq q region))
  where
    by : (q ≡ region) ⊎ (q ≢ region) → LivesOn (map.get m q) (cond (eqb q region) (Some new) (map.get m q))
    by (inl same) = subst (λ (b : Bool). LivesOn (map.get m q) (cond b (Some new) (map.get m q))) (sym (eq-eqb q region same)) (subst (λ (k : ℕ). LivesOn (map.get m k) (Some new)) (sym same) h)
    by (inr apart) = subst (λ (b : Bool). LivesOn (map.get m q) (cond b (Some new) (map.get m q))) (sym (ne_eqb q region apart)) (lives_same (map.get m q))

active_is : (o : Option Operator) (op : Operator) → active_by o ≡ Some op → o ≡ Some op
active_is None op e = absurd cc
active_is (Some x) op e = by (is_active x.state) e
  where
    by : (b : Bool) → cond b (Some x) None ≡ Some op → (let o : Option Operator = Some x in o) ≡ Some op
    by true h = h
    by false h = absurd cc

-- a heartbeat
stays_eq : (from to : OpState) → IsTrue (stays_started from to) → from ≡ to
stays_eq Started Started h = refl
stays_eq Started Created h = absurd (false≢true h)
stays_eq Started Success h = absurd (false≢true h)
stays_eq Started Canceled h = absurd (false≢true h)
stays_eq Started Replaced h = absurd (false≢true h)
stays_eq Started Expired h = absurd (false≢true h)
stays_eq Started Timeout h = absurd (false≢true h)
stays_eq Created to h = absurd (false≢true h)
stays_eq Success to h = absurd (false≢true h)
stays_eq Canceled to h = absurd (false≢true h)
stays_eq Replaced to h = absurd (false≢true h)
stays_eq Expired to h = absurd (false≢true h)
stays_eq Timeout to h = absurd (false≢true h)

held_eq : (from to : OpState) → IsTrue (stays_active from to) → from ≡ to
held_eq Created Created h = refl
held_eq Created Started h = absurd (false≢true h)
held_eq Created Success h = absurd (false≢true h)
held_eq Created Canceled h = absurd (false≢true h)
held_eq Created Replaced h = absurd (false≢true h)
held_eq Created Expired h = absurd (false≢true h)
held_eq Created Timeout h = absurd (false≢true h)
held_eq Started Started h = refl
held_eq Started Created h = absurd (false≢true h)
held_eq Started Success h = absurd (false≢true h)
held_eq Started Canceled h = absurd (false≢true h)
held_eq Started Replaced h = absurd (false≢true h)
held_eq Started Expired h = absurd (false≢true h)
held_eq Started Timeout h = absurd (false≢true h)
held_eq Success to h = absurd (false≢true h)
held_eq Canceled to h = absurd (false≢true h)
held_eq Replaced to h = absurd (false≢true h)
held_eq Expired to h = absurd (false≢true h)
held_eq Timeout to h = absurd (false≢true h)

sent_goes : (b : Bool) (from to : OpState) → stays_started from to ≡ b → IsTrue (cond b true (lives from to FirstSend)) → GoesOn from to
sent_goes true from to is h = stays from to (stays_eq from to is)
sent_goes false from to is h = turns_to from to FirstSend h

moves_goes : (from to : OpState) (answer : Dispatch) → IsTrue (moves from to answer) → GoesOn from to
moves_goes from to dispatch.NoOperator h = absurd (false≢true h)
moves_goes from to (dispatch.Send step) h = sent_goes (stays_started from to) from to refl h
moves_goes from to (dispatch.Wait held) h = stays from to (held_eq from to h)
moves_goes from to dispatch.Done h = turns_to from to NoStepLeft h
moves_goes from to (dispatch.Ended Canceled) h = turns_to from to ConfVerGrew h
moves_goes from to (dispatch.Ended Created) h = turns_to from to TooLate h
moves_goes from to (dispatch.Ended Started) h = turns_to from to TooLate h
moves_goes from to (dispatch.Ended Success) h = turns_to from to TooLate h
moves_goes from to (dispatch.Ended Replaced) h = turns_to from to TooLate h
moves_goes from to (dispatch.Ended Expired) h = turns_to from to TooLate h
moves_goes from to (dispatch.Ended Timeout) h = turns_to from to TooLate h

turned_further : (op : Operator) (beat : RegionBeat) (stores : List StoreEntry) (now : ℕ) → IsTrue (is_active op.state) → IsFurther op (turned op beat stores now)
turned_further op beat stores now active = record {
  region = refl;
  epoch = refl;
  kind = refl;
  steps = refl;
  priority = refl;
  created = refl;
  state = moves_goes op.state (turned op beat stores now).state (answer_of op beat stores now) (moved-turned op beat stores now active);
}

dispatched_lives : (table : Table) (beat : RegionBeat) (stores : List StoreEntry) (now : ℕ) → AreLives table (dispatched table beat stores now)
dispatched_lives table beat stores now = by (active_at table beat.region.id) refl
  where
    by : (o : Option Operator) → active_at table beat.region.id ≡ o → AreLives table (turned_by o table beat stores now)
    by None is = table_same table
    by (Some op) is = written_lives table.last beat.region.id (turned op beat stores now)
        (subst (λ (o : Option Operator). LivesOn o (Some (turned op beat stores now))) (sym (active_is (map.get table.last beat.region.id) op is))
        (inl (turned_further op beat stores now (active-state (map.get table.last beat.region.id) op is))))

-- a region that left
canceled_further : (op : Operator) → IsTrue (is_active op.state) → IsFurther op (cancel op)
canceled_further op active = record { region = refl; epoch = refl; kind = refl; steps = refl; priority = refl; created = refl; state = turns_to op.state Canceled RegionLeft (gone-by op.state active) }

canceled_lives : (table : Table) (region : ℕ) → AreLives table (canceled table region)
canceled_lives table region = by (active_at table region) refl
  where
    by : (o : Option Operator) → active_at table region ≡ o → AreLives table (canceled_by o table region)
    by None is = table_same table
    by (Some op) is = written_lives table.last region (cancel op)
        (subst (λ (o : Option Operator). LivesOn o (Some (cancel op))) (sym (active_is (map.get table.last region) op is)) (inl (canceled_further op (active-state (map.get table.last region) op is))))

freed_lives : (ids : List ℕ) (table : Table) → AreLives table (fold canceled table ids)
freed_lives [] table = table_same table
freed_lives (id ∷ ids) table = tables_then table (canceled table id) (fold canceled (canceled table id) ids) (canceled_lives table id) (freed_lives ids (canceled table id))

-- a new operator
replaced : (old new : Operator) → GoesOn Created new.state → IsReplaced old new
replaced old new goes = by old.state refl
  where
    by : (s : OpState) → old.state ≡ s → IsReplaced old new
    by Created is = record { end = Replaced; ends = turns_to old.state Replaced HigherPriority (subst (λ (t : OpState). Lives t Replaced HigherPriority) (sym is) refl); ended = refl; begins = goes }
    by Started is = record { end = Replaced; ends = turns_to old.state Replaced HigherPriority (subst (λ (t : OpState). Lives t Replaced HigherPriority) (sym is) refl); ended = refl; begins = goes }
    by Success is = record { end = Success; ends = stays old.state Success is; ended = refl; begins = goes }
    by Canceled is = record { end = Canceled; ends = stays old.state Canceled is; ended = refl; begins = goes }
    by Replaced is = record { end = Replaced; ends = stays old.state Replaced is; ended = refl; begins = goes }
    by Expired is = record { end = Expired; ends = stays old.state Expired is; ended = refl; begins = goes }
    by Timeout is = record { end = Timeout; ends = stays old.state Timeout is; ended = refl; begins = goes }

new_lives : (o : Option Operator) (new : Operator) → GoesOn Created new.state → LivesOn o (Some new)
new_lives None new goes = goes
new_lives (Some old) new goes = inr (replaced old new goes)

added_lives : (table : Table) (op : NewOp) (now : ℕ) → AreLives table (added table op now)
added_lives table op now = written_lives table.last op.region (created op now) (new_lives (map.get table.last op.region) (created op now) (stays Created Created refl))

-- what adding an operator leaves
abbrev pub WorkLives : Planning → Work → Type 0
WorkLives planning work = AreLives planning.operators work.planning.operators

entered_lives : (around : Around) (op : NewOp) (beat : RegionBeat) (planning : Planning) → WorkLives planning (entered around op beat planning)
entered_lives around op beat planning =
    tables_then planning.operators (added planning.operators op around.now) (dispatched (added planning.operators op around.now) beat around.stores around.now) (added_lives planning.operators op around.now)
    (dispatched_lives (added planning.operators op around.now) beat around.stores around.now)

with_lives : (around : Around) (op : NewOp) (beat : RegionBeat) (planning : Planning) (one : Drawn) → WorkLives planning (entered_with around op beat planning one.window one.id)
with_lives around op beat planning one = by one.id
  where
    by : (id : Result ℕ Adding) → WorkLives planning (entered_with around op beat planning one.window id)
    by (Ok id) = entered_lives around (with_new_id op id) beat (with_window planning one.window)
    by (Err why) = table_same planning.operators

enter_lives : (around : Around) (op : NewOp) (beat : RegionBeat) (planning : Planning) (at : Hearing) → Ends Work (WorkLives planning) (enter around op beat planning at)
enter_lives around op beat planning at =
    ends_if Work (WorkLives planning) (asks_id op.steps) _ (done (entered around op beat planning)) at
    (λ asks. ends_on Drawn Work (λ one. Unit {0}) (WorkLives planning) (λ one. done (entered_with around op beat planning one.window one.id)) (free_id beat.region.peers beat around.term planning.window at) (ends_any Drawn _)
    (λ one then u. with_lives around op beat planning one))
    (λ none. entered_lives around op beat planning)

pub add_lives : (fault : Option AddFault) (around : Around) (op : NewOp) (beat : RegionBeat) (planning : Planning) (at : Hearing) → Ends Work (WorkLives planning) (add_by fault around op beat planning at)
add_lives (Some fault) around op beat planning at = table_same planning.operators
add_lives None around op beat planning at = enter_lives around op beat planning at

-- what a check leaves
abbrev DeedLives : Planning → Deed → Type 0
DeedLives planning deed = AreLives planning.operators deed.planning.operators

told_lives : (around : Around) (beat : RegionBeat) (planning : Planning) (told : Told) (at : Hearing) → Ends Deed (DeedLives planning) (check_told around beat planning told at)
told_lives around beat planning (Splits key) at = table_same planning.operators
told_lives around beat planning Fits at = table_same planning.operators
told_lives around beat planning (Stuck from) at = table_same planning.operators
told_lives around beat planning (Plans class list from to) at =
    ends_on Work Deed (WorkLives planning) (DeedLives planning) (λ work. done (planned around class from to work)) (add_op around (check_op beat list) beat planning at)
    (add_lives (refusal_of planning.operators (check_op beat list) (Some beat) planning.limits around.now) around (check_op beat list) beat planning at) (λ work then h. h)

check_lives : (around : Around) (planning : Planning) (o : Option RegionBeat) (at : Hearing) → Ends Deed (DeedLives planning) (check_held around planning o at)
check_lives around planning None at = table_same planning.operators
check_lives around planning (Some beat) at = told_lives around beat planning (told_in around beat) at

checked_lives : (part : Part) (moment region : ℕ) (answers : List MetaAnswer) → DeedLives (planning_of part) (deed_of (check_of part moment region) part moment answers)
checked_lives part moment region answers =
    ends_or Deed (DeedLives (planning_of part)) (idle (around_at part moment) (planning_of part) replies.NotLeading) (check_of part moment region (hearing part.known answers)) (table_same part.operators)
    (check_lives (around_at part moment) (planning_of part) (region_in region part.standing) (hearing part.known answers))

-- what a patrol leaves
abbrev RoundLives : Planning → Round → Type 0
RoundLives planning round = AreLives planning.operators round.planning.operators

round_lives : (first : Planning) (round : Round) (work : Work) (came : Adding) → RoundLives first round → WorkLives round.planning work → RoundLives first (round_after round work came)
round_lives first round work (adding.Added answer) h k = tables_then first.operators round.planning.operators work.planning.operators h k
round_lives first round work (adding.Build fault) h k = h
round_lives first round work (adding.Add fault) h k = h
round_lives first round work (adding.OldTerm fence) h k = tables_then first.operators round.planning.operators work.planning.operators h k
round_lives first round work (adding.Conflict found) h k = tables_then first.operators round.planning.operators work.planning.operators h k
round_lives first round work adding.MetaLimit h k = tables_then first.operators round.planning.operators work.planning.operators h k
round_lives first round work adding.IdsSpent h k = tables_then first.operators round.planning.operators work.planning.operators h k

visit_lives : (first : Planning) (around : Around) (one : Planned) (round : Round) (at : Hearing) → RoundLives first round → Ends Round (RoundLives first) (visit around one round at)
visit_lives first around one round at h =
    ends_if Round (RoundLives first) round.stopped (done round) _ at (λ s. h)
    (λ s. ends_if Round (RoundLives first) (is_busy round.planning one.beat.region.id) (done round) _ at (λ b. h)
    (λ b. ends_on Work Round (WorkLives round.planning) (RoundLives first) (λ work. done (round_after round work work.adding)) (add_op around (check_op one.beat one.steps) one.beat round.planning at)
    (add_lives (refusal_of round.planning.operators (check_op one.beat one.steps) (Some one.beat) round.planning.limits around.now) around (check_op one.beat one.steps) one.beat round.planning at)
    (λ work then k. round_lives first round work work.adding h k)))

sweep_lives : (first : Planning) (around : Around) (plans : List Planned) (round : Round) (at : Hearing) → RoundLives first round → Ends Round (RoundLives first) (sweep around plans round at)
sweep_lives first around [] round at h = h
sweep_lives first around (one ∷ plans) round at h =
    ends_on Round Round (RoundLives first) (RoundLives first) (λ next. sweep around plans next) (visit around one round at) (visit_lives first around one round at h) (λ next then k. sweep_lives first around plans next then k)

patrol_lives : (around : Around) (planning : Planning) (at : Hearing) → Ends Deed (DeedLives planning) (patrol around planning at)
patrol_lives around planning at =
    ends_on Round Deed (RoundLives planning) (DeedLives planning) _ (sweep around (plans_in around) (first_round planning) at) (sweep_lives planning around (plans_in around) (first_round planning) at (table_same planning.operators))
    (λ round then h. ends_on Burial Deed (λ burial. Unit {0}) (DeedLives planning) (λ burial. done (patrol_deed around round burial)) (bury_all around then) (ends_any Burial _) (λ burial last v. h))

patrolled_lives : (part : Part) (moment : ℕ) (answers : List MetaAnswer) → DeedLives (planning_of part) (deed_of (patrol_of part moment) part moment answers)
patrolled_lives part moment answers =
    ends_or Deed (DeedLives (planning_of part)) (idle (around_at part moment) (planning_of part) replies.NotLeading) (patrol_of part moment (hearing part.known answers)) (table_same part.operators)
    (patrol_lives (around_at part moment) (planning_of part) (hearing part.known answers))

-- what a wish leaves
try_lives : (around : Around) (asker : Asker) (planning : Planning) (found : Result Planned Adding) (at : Hearing) → Ends Work (WorkLives planning) (try_wished around asker planning found at)
try_lives around asker planning (Ok planned) at =
    add_lives (refusal_of planning.operators (op_of asker planned) (Some planned.beat) planning.limits around.now) around (op_of asker planned) planned.beat planning at
try_lives around asker planning (Err why) at = table_same planning.operators

-- what a scheduler's turn leaves
answer_lives : (around : Around) (planning : Planning) (name : List ℕ) (proposal : Option Proposal) (at : Hearing) → Ends Deed (DeedLives planning) (heed around planning name proposal at)
answer_lives around planning name None at = table_same planning.operators
answer_lives around planning name (Some proposal) at =
    ends_on Work Deed (WorkLives planning) (DeedLives planning) (λ work. done (proposed around name proposal work)) (try_wished around (scheduler name) planning (wished around (region_of proposal) (wish_of proposal)) at)
    (try_lives around (scheduler name) planning (wished around (region_of proposal) (wish_of proposal)) at) (λ work then h. h)

schedule_lives : (around : Around) (planning : Planning) (said : List Said) (at : Hearing) → Ends Deed (DeedLives planning) (schedule around planning said at)
schedule_lives around planning [] at = table_same planning.operators
schedule_lives around planning (one ∷ more) at = answer_lives around planning one.name one.proposal at

scheduled_lives : (part : Part) (moment : ℕ) (said : List Said) (answers : List MetaAnswer) → DeedLives (planning_of part) (deed_of (schedule_of part moment said) part moment answers)
scheduled_lives part moment said answers =
    ends_or Deed (DeedLives (planning_of part)) (idle (around_at part moment) (planning_of part) replies.NotLeading) (schedule_of part moment said (hearing part.known answers)) (table_same part.operators)
    (schedule_lives (around_at part moment) (planning_of part) said (hearing part.known answers))

-- what a command leaves
verdict_lives : (around : Around) (planning : Planning) (id : ℕ) (verdict : MetaVerdict) → DeedLives planning (deleted_by around planning id verdict)
verdict_lives around planning id (verdicts.Accepted revision) = table_same planning.operators
verdict_lives around planning id (verdicts.OldTerm fence) = table_same planning.operators
verdict_lives around planning id (verdicts.Conflict found) = table_same planning.operators
verdict_lives around planning id verdicts.Limit = table_same planning.operators

by_lives : (r : Result StoreRec Reply) (around : Around) (planning : Planning) (at : Hearing) → Ends Deed (DeedLives planning) (delete_by r around planning at)
by_lives (Ok rec) around planning at =
    ends_on MetaVerdict Deed (λ v. Unit {0}) (DeedLives planning) (λ verdict. done (deleted_by around planning rec.id verdict)) (write around.term (store_key rec.id) (store_bytes rec) at) (ends_any MetaVerdict _)
    (λ verdict then u. verdict_lives around planning rec.id verdict)
by_lives (Err reply) around planning at = table_same planning.operators

delete_lives : (o : Option StoreEntry) (around : Around) (planning : Planning) (at : Hearing) → Ends Deed (DeedLives planning) (delete_found o around planning at)
delete_lives o around planning at = by_lives (deletion o) around planning at

limit_lives : (o : Option StoreEntry) (around : Around) (planning : Planning) (id rate : ℕ) (kind : LimitKind) (at : Hearing) → Ends Deed (DeedLives planning) (limit_found o around planning id rate kind at)
limit_lives None around planning id rate kind at = table_same planning.operators
limit_lives (Some entry) around planning id rate kind at = table_same planning.operators

remove_lives : (o : Option Operator) (around : Around) (planning : Planning) (region : ℕ) (at : Hearing) → Ends Deed (DeedLives planning) (remove_found o around planning region at)
remove_lives None around planning region at = table_same planning.operators
remove_lives (Some op) around planning region at = canceled_lives planning.operators region

command_lives : (around : Around) (planning : Planning) (command : Command) (at : Hearing) → Ends Deed (DeedLives planning) (command_done around planning command at)
command_lives around planning (commands.StoreDelete id) at = delete_lives (entry_at id around.stores) around planning at
command_lives around planning (commands.StoreLimit id rate kind) at = limit_lives (entry_at id around.stores) around planning id rate kind at
command_lives around planning (commands.OperatorAdd region wish) at =
    ends_on Work Deed (WorkLives planning) (DeedLives planning) (λ work. done (added_by_hand around (steps_in (wished around region wish)) work)) (try_wished around admin planning (wished around region wish) at)
    (try_lives around admin planning (wished around region wish) at) (λ work then h. h)
command_lives around planning (commands.OperatorRemove region) at = remove_lives (active_at planning.operators region) around planning region at
command_lives around planning command at = table_same planning.operators

words_lives : (around : Around) (planning : Planning) (told : Result Command CtlFault) (at : Hearing) → Ends Deed (DeedLives planning) (words_done around planning told at)
words_lives around planning (Ok command) at = command_lives around planning command at
words_lives around planning (Err fault) at = table_same planning.operators

commanded_lives : (part : Part) (moment : ℕ) (words : List ℕ) (answers : List MetaAnswer) → DeedLives (planning_of part) (deed_of (ctl_of part moment words) part moment answers)
commanded_lives part moment words answers =
    ends_or Deed (DeedLives (planning_of part)) (idle (around_at part moment) (planning_of part) replies.NotLeading) (ctl_of part moment words (hearing part.known answers)) (table_same part.operators)
    (words_lives (around_at part moment) (planning_of part) (command_told words) (hearing part.known answers))

-- what an entry leaves
hello_lives : (p : Reply) (store now : ℕ) (planning : Planning) → AreLives planning.operators (planned_hello p store now planning).operators
hello_lives replies.StorePut store now planning = table_same planning.operators
hello_lives p store now planning = table_same planning.operators

beat_lives : (p : Reply) (beat : RegionBeat) (around : Around) (planning : Planning) → AreLives planning.operators (planned_beat p beat around planning).operators
beat_lives (replies.Accepted removed answer) beat around planning =
    tables_then planning.operators (freed beat around.held planning.operators) (dispatched (freed beat around.held planning.operators) beat around.stores around.now) (freed_lives (ids_of (removed_by beat around.held)) planning.operators)
    (dispatched_lives (freed beat around.held planning.operators) beat around.stores around.now)
beat_lives p beat around planning = table_same planning.operators

planned_lives : (r : Request) (p : Reply) (heard : Heard) (part : Part) → GoesWith r → AreLives part.operators (planned_by r p heard part).operators
planned_lives (ask.Term term moment) p heard part goes = absurd goes
planned_lives (ask.Hello store moment address labels) p heard part goes = hello_lives p store _ (planning_of part)
planned_lives (ask.Beat store moment beat) p heard part goes = beat_lives p beat (around_at part moment) (planning_of part)
planned_lives (ask.Check moment region) p heard part goes = checked_lives part moment region heard.answers
planned_lives (ask.Patrol moment workers) p heard part goes = patrolled_lives part moment heard.answers
planned_lives (ask.Schedule moment) p heard part goes = scheduled_lives part moment heard.bench heard.answers
planned_lives (ask.Ctl moment words) p heard part goes = commanded_lives part moment words heard.answers
planned_lives _ p heard part goes = table_same part.operators

some_part : (a b : Part) → Some a ≡ Some b → a ≡ b
some_part a b h = cc

stays_on : (t : Bool) (es : List Entry) (after : Part) → option_map part_of (cond t None (Some es)) ≡ Some after → Some (part_of es) ≡ Some after
stays_on true es after is = absurd cc
stays_on false es after is = is

more_lives : (e : Entry) (es : List Entry) (r : Request) (after : Part) → GoesWith r → option_map part_of (since_by r e (Some es)) ≡ Some after → AreLives (part_of es).operators (part_of (e ∷ es)).operators → AreLives (part_of es).operators after.operators
more_lives e es (ask.Term term moment) after goes is h = absurd goes
more_lives e es ask.Retire after goes is h = absurd cc
more_lives e es (ask.Ctl moment words) after goes is h = subst (λ (p : Part). AreLives (part_of es).operators p.operators) (some_part _ after (stays_on (resigns words) (e ∷ es) after is)) h
more_lives e es _ after goes is h = subst (λ (p : Part). AreLives (part_of es).operators p.operators) (some_part _ after is) h

since_lives : (s : Option (List Entry)) (e : Entry) → GoesWith e.request → (before after : Part) → option_map part_of s ≡ Some before → option_map part_of (since_by e.request e s) ≡ Some after → AreLives before.operators after.operators
since_lives None e goes before after was is = absurd cc
since_lives (Some es) e goes before after was is =
    subst (λ (p : Part). AreLives p.operators after.operators) (some_part (part_of es) before was)
    (more_lives e es e.request after goes is (planned_lives e.request e.reply (heard_of e) (part_of es) goes))

pub lives_between : (past : List Entry) (entry : Entry) (before after : Part) → part_after past ≡ Some before → part_after (entry ∷ past) ≡ Some after → GoesWith entry.request → AreLives before.operators after.operators
lives_between past entry before after was is goes = since_lives (since past) entry goes before after was is
