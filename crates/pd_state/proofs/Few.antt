-- How many calls a request makes at most.
use Rattle.std.proofs.Common.{ap, refl, ◌≡◌, ℕ, ◌+◌, ◌≤◌, ◌<◌, Bool, true, false, cond, nat_eq, subst, List, [], ◌∷◌, ◌++◌, length, length-append, map, Option, Some, None, arith}
use Rattle.std.specs.Prelude.{Result, Ok, Err, codes, filter, filter_map}
use Rattle.std.specs.Option.{option_map_or}
use Rattle.pd_types.specs.declared.region.Peer.{Peer}
use Rattle.pd_types.specs.declared.region.RegionBeat.{RegionBeat}
use Rattle.pd_types.specs.declared.request.Request.{Request}
use Rattle.pd_types.specs.declared.request.Request.TheVariants as ask
use Rattle.pd_types.specs.declared.store.StoreRec.{StoreRec}
use Rattle.store_table.specs.declared.entry.StoreEntry.{StoreEntry}
use Rattle.region_tree.specs.Cover.{covers_all}
use Rattle.meta_store.specs.declared.record.Cell.{Cell}
use Rattle.meta_store.specs.declared.record.MetaAnswer.{MetaAnswer}
use Rattle.meta_store.specs.declared.record.MetaCall.{MetaCall}
use Rattle.meta_store.specs.declared.record.MetaCall.TheVariants as calls
use Rattle.meta_store.specs.Past.{is_accepted}
use Rattle.store_table.specs.Entries.{entry_at, state_at}
use Rattle.meta_store.specs.declared.record.MetaVerdict.{MetaVerdict}
use Rattle.meta_store.specs.Asked.{AreAsked}
use Rattle.meta_store.specs.Stores.{store_bytes, store_key}
use Rattle.id_alloc.specs.Windows.{Window, id_call, is_spent, is_used_up, with_next}
use Rattle.op_control.specs.declared.operator.NewOp.{NewOp}
use Rattle.op_control.specs.declared.adding.AddFault.{AddFault}
use Rattle.op_control.specs.Adding.{refusal_of}
use Rattle.op_step.specs.Peers.{has_id}
use Rattle.rule_checker.specs.Told.{Told, Fits, Plans, Splits, Stuck}
use Rattle.pd_state.specs.Adding.{Around, Drawn, Planning, Work, add_by, add_op, around_at, asks_id, draw, draw_saved, drawn, enter, entered, entered_with, free_id, left_out, pass_over, planning_of, saved_by}
use Rattle.pd_state.specs.Asking.{Asking, Hearing, Point, and_then, answered, ask as ask_one, done, ended, go_on, hearing, wanted, waits, write}
use Rattle.pd_types.specs.declared.proposal.Proposal.{Proposal}
use Rattle.sched_api.specs.declared.scheduler.Said.{Said}
use Rattle.store_limit.specs.declared.limits.LimitKind.{LimitKind}
use Rattle.pd_ctl.specs.declared.command.Command.{Command}
use Rattle.pd_ctl.specs.declared.command.Command.TheVariants as commands
use Rattle.pd_ctl.specs.declared.fault.CtlFault.{CtlFault}
use Rattle.pd_state.specs.Reports.{command_told}
use Rattle.pd_state.specs.Scheduling.{heed, proposed, schedule, schedule_of, scheduler}
use Rattle.pd_state.specs.declared.wishing.Asker.{Asker}
use Rattle.op_step.specs.Wishes.{Plan, plan_of}
use Rattle.op_step.specs.declared.wishes.Wish.{Wish}
use Rattle.op_control.specs.Table.{active_at}
use Rattle.op_control.specs.declared.operator.Operator.{Operator}
use Rattle.pd_state.specs.Ctl.{add_by_hand, added_by_hand, admin, command_done, ctl_of, delete_by, delete_found, deleted_by, deletion, faulted, limit_found, rated, remove_found, removed, words_done}
use Rattle.pd_state.specs.Wishing.{op_of, planned_or, region_of, steps_in, try_wished, wish_of, wished, wished_by}
use Rattle.pd_state.specs.Calls.{greeted_record, hello_calls, in_turn, most_calls, most_draws, next_call, put_call, rule_calls, unrule_calls}
use Rattle.pd_state.specs.Replies.{hello_refusal}
use Rattle.pd_state.specs.StoredRules.{rule_told}
use Rattle.pd_state.specs.Checking.{Burial, Deed, Round, burial_after, bury, bury_all, bury_one, check_held, check_of, check_op, check_told, first_round, graves_in, idle, is_busy, is_grave, patrol_deed, patrol_of, plan_told, planned, plans_in, round_after, sweep, told_in, tombstone, visit}
use Rattle.pd_state.specs.Sends.{region_in}
use Rattle.pd_state.specs.declared.adding.Adding.{Adding}
use Rattle.pd_state.specs.declared.adding.Adding.TheVariants as adding
use Rattle.pd_state.specs.declared.part.Part.{Part}
use Rattle.pd_state.specs.declared.patrol.Planned.{Planned}
use Rattle.pd_state.specs.declared.reply.Reply.{Reply}
use Rattle.pd_state.specs.declared.reply.Reply.TheVariants as replies
use Rattle.pd_state.proofs.CallLemmas.{no_calls, rule_few, two_calls, unless_few, unrule_few}

-- an asking that came here heard so many answers at most
abbrev Within : {A : Type 0} → ℕ → Hearing → Point A → Type 0
Within n at (ended value after) = length at.left ≤ n + length after.left
Within n at (waits call) = length at.left < n

-- it makes so many calls at most
abbrev Takes : {A : Type 0} → ℕ → Asking A → Type 0
Takes n asking = (at : Hearing) → Within n at (asking at)

more_within : (A : Type 0) (n m : ℕ) (at : Hearing) (p : Point A) → n ≤ m → Within n at p → Within m at p
more_within A n m at (ended value after) low h = omega (arith, low, h)
more_within A n m at (waits call) low h = omega (arith, low, h)

takes_more : (A : Type 0) (n m : ℕ) (asking : Asking A) → n ≤ m → Takes n asking → Takes m asking
takes_more A n m asking low t at = more_within A n m at (asking at) low (t at)

takes_done : (A : Type 0) (n : ℕ) (value : A) → Takes n (done value)
takes_done A n value at = omega arith

takes_if : (A : Type 0) (n : ℕ) (b : Bool) (x y : Asking A) → Takes n x → Takes n y → Takes n (cond b x y)
takes_if A n true x y t u = t
takes_if A n false x y t u = u

answered_few : (call : MetaCall) (known : List Cell) (left : List MetaAnswer) → Within 1 (hearing known left) (answered call known left)
answered_few call known [] = omega arith
answered_few call known (answer ∷ left) = omega arith

takes_ask : (call : MetaCall) → Takes 1 (ask_one call)
takes_ask call at = answered_few call at.known at.left

takes_write : (term : ℕ) (key bytes : List ℕ) → Takes 1 (write term key bytes)
takes_write term key bytes at = takes_ask _ at

behind : (B : Type 0) (n m : ℕ) (at after : Hearing) (p : Point B) → length at.left ≤ n + length after.left → Within m after p → Within (n + m) at p
behind B n m at after (ended value last) h k = omega (arith, h, k)
behind B n m at after (waits call) h k = omega (arith, h, k)

went_on : (A B : Type 0) (n m : ℕ) (next : A → Asking B) → ((a : A) → Takes m (next a)) → (at : Hearing) (p : Point A) → Within n at p → Within (n + m) at (go_on next p)
went_on A B n m next two at (ended value after) h = behind B n m at after (next value after) h (two value after)
went_on A B n m next two at (waits call) h = omega (arith, h)

takes_then : (A B : Type 0) (n m : ℕ) (first : Asking A) (next : A → Asking B) → Takes n first → ((a : A) → Takes m (next a)) → Takes (n + m) (and_then first next)
takes_then A B n m first next one two at = went_on A B n m next two at (first at) (one at)

-- what takes so many, and then no more
takes_last : (A B : Type 0) (n : ℕ) (first : Asking A) (value : A → B) → Takes n first → Takes n (and_then first (λ a. done (value a)))
takes_last A B n first value one = takes_more B (n + 0) n (and_then first (λ a. done (value a))) (omega arith) (takes_then A B n 0 first (λ a. done (value a)) one (λ a. takes_done B 0 (value a)))

-- an id
draw_few : (term : ℕ) (window : Window) → Takes 1 (draw term window)
draw_few term window = takes_if Drawn 1 (is_used_up window) (draw_saved term window) _
    (takes_if Drawn 1 (is_spent window) _ _ (takes_done Drawn 1 (drawn window (Err adding.IdsSpent))) (takes_last MetaVerdict Drawn 1 (ask_one (id_call term window)) (λ verdict. saved_by window verdict) (takes_ask (id_call term window))))
    (takes_done Drawn 1 (drawn (with_next window) (Ok (window.taken + 1))))

passed_few : (beat : RegionBeat) (again : Window → Asking Drawn) (n : ℕ) (window : Window) (id : Result ℕ Adding) → ((w : Window) → Takes n (again w)) → Takes n (pass_over beat again window id)
passed_few beat again n window (Ok id) t = takes_if Drawn n (has_id id beat) (again window) _ (t window) (takes_done Drawn n (drawn window (Ok id)))
passed_few beat again n window (Err why) t = takes_done Drawn n (drawn window (Err why))

free_few : (peers : List Peer) (beat : RegionBeat) (term : ℕ) (window : Window) → Takes (length peers + 1) (free_id peers beat term window)
free_few [] beat term window = draw_few term window
free_few (peer ∷ more) beat term window =
    takes_more Drawn (1 + (length more + 1)) (length (peer ∷ more) + 1) (free_id (peer ∷ more) beat term window) (omega arith)
    (takes_then Drawn Drawn 1 (length more + 1) (draw term window) (λ one. pass_over beat (free_id more beat term) one.window one.id) (draw_few term window)
    (λ one. passed_few beat (free_id more beat term) (length more + 1) one.window one.id (λ w. free_few more beat term w)))

-- an operator
enter_few : (around : Around) (op : NewOp) (beat : RegionBeat) (planning : Planning) → Takes (length beat.region.peers + 1) (enter around op beat planning)
enter_few around op beat planning =
    takes_if Work (length beat.region.peers + 1) (asks_id op.steps)
    (and_then (free_id beat.region.peers beat around.term planning.window) (λ one. done (entered_with around op beat planning one.window one.id))) (done (entered around op beat planning))
    (takes_last Drawn Work (length beat.region.peers + 1) (free_id beat.region.peers beat around.term planning.window) (λ one. entered_with around op beat planning one.window one.id)
    (free_few beat.region.peers beat around.term planning.window))
    (takes_done Work (length beat.region.peers + 1) (entered around op beat planning))

by_few : (fault : Option AddFault) (around : Around) (op : NewOp) (beat : RegionBeat) (planning : Planning) → Takes (length beat.region.peers + 1) (add_by fault around op beat planning)
by_few (Some fault) around op beat planning = takes_done Work (length beat.region.peers + 1) (left_out planning (adding.Add fault))
by_few None around op beat planning = enter_few around op beat planning

add_few : (around : Around) (op : NewOp) (beat : RegionBeat) (planning : Planning) → Takes (length beat.region.peers + 1) (add_op around op beat planning)
add_few around op beat planning = by_few (refusal_of planning.operators op (Some beat) planning.limits around.now) around op beat planning

-- a check
told_few : (around : Around) (beat : RegionBeat) (planning : Planning) (told : Told) → Takes (length beat.region.peers + 1) (check_told around beat planning told)
told_few around beat planning (Splits key) = takes_done Deed (length beat.region.peers + 1) (idle around planning (replies.NeedsSplit key))
told_few around beat planning Fits = takes_done Deed (length beat.region.peers + 1) (idle around planning replies.NoFault)
told_few around beat planning (Stuck from) = takes_done Deed (length beat.region.peers + 1) (idle around planning (replies.NoPlan from))
told_few around beat planning (Plans class list from to) =
    takes_last Work Deed (length beat.region.peers + 1) (add_op around (check_op beat list) beat planning) (λ w. planned around class from to w) (add_few around (check_op beat list) beat planning)

held_few : (around : Around) (planning : Planning) (held : Option RegionBeat) → Takes (option_map_or (λ (beat : RegionBeat). length beat.region.peers + 1) held 0) (check_held around planning held)
held_few around planning None = takes_done Deed 0 (idle around planning replies.NoRegion)
held_few around planning (Some beat) = told_few around beat planning (told_in around beat)

-- a wish
draws_by : (held : List RegionBeat) (region : ℕ) (o : Option RegionBeat) → region_in region held ≡ o → option_map_or (λ (beat : RegionBeat). length beat.region.peers + 1) o 0 ≤ most_draws held
draws_by held region None is = omega arith
draws_by [] region (Some beat) is = absurd cc
draws_by (one ∷ held) region (Some beat) is = by (nat_eq one.region.id region) is (draws_by held region (Some beat))
  where
    by : (t : Bool) → cond t (Some one) (region_in region held) ≡ Some beat → (region_in region held ≡ Some beat → length beat.region.peers + 1 ≤ most_draws held) → length beat.region.peers + 1 ≤ most_draws (one ∷ held)
    by true h rest = let same : one ≡ beat = cc in subst (λ (b : RegionBeat). length b.region.peers + 1 ≤ most_draws (one ∷ held)) same (omega arith)
    by false h rest = let low = rest h in omega (arith, low)

abbrev draws_in : Result Planned Adding → ℕ
draws_in (Ok planned) = length planned.beat.region.peers + 1
draws_in (Err why) = 0

built_few : (beat : RegionBeat) (plan : Plan) → draws_in (planned_or beat plan) ≤ length beat.region.peers + 1
built_few beat (Ok steps) = omega arith
built_few beat (Err fault) = omega arith

wished_few : (around : Around) (wish : Wish) (o : Option RegionBeat) → draws_in (wished_by o around wish) ≤ option_map_or (λ (beat : RegionBeat). length beat.region.peers + 1) o 0
wished_few around wish None = omega arith
wished_few around wish (Some beat) = built_few beat (plan_of wish beat around.stores around.now)

try_few : (around : Around) (asker : Asker) (planning : Planning) (found : Result Planned Adding) → Takes (draws_in found) (try_wished around asker planning found)
try_few around asker planning (Ok planned) = add_few around (op_of asker planned) planned.beat planning
try_few around asker planning (Err why) = takes_done Work 0 (left_out planning why)

wish_few : (around : Around) (asker : Asker) (planning : Planning) (region : ℕ) (wish : Wish) → Takes (most_draws around.held) (try_wished around asker planning (wished around region wish))
wish_few around asker planning region wish =
    let one = wished_few around wish (region_in region around.held) in
    let two = draws_by around.held region (region_in region around.held) refl in
    takes_more Work (draws_in (wished around region wish)) (most_draws around.held) (try_wished around asker planning (wished around region wish)) (omega (arith, one, two)) (try_few around asker planning (wished around region wish))

-- a scheduler's turn
answer_few : (around : Around) (planning : Planning) (name : List ℕ) (proposal : Option Proposal) → Takes (most_draws around.held) (heed around planning name proposal)
answer_few around planning name None = takes_done Deed (most_draws around.held) (idle around planning (replies.Silent name))
answer_few around planning name (Some proposal) =
    takes_last Work Deed (most_draws around.held) (try_wished around (scheduler name) planning (wished around (region_of proposal) (wish_of proposal))) (λ w. proposed around name proposal w)
    (wish_few around (scheduler name) planning (region_of proposal) (wish_of proposal))

schedule_few : (around : Around) (planning : Planning) (said : List Said) → Takes (most_draws around.held) (schedule around planning said)
schedule_few around planning [] = takes_done Deed (most_draws around.held) (idle around planning replies.NoScheduler)
schedule_few around planning (one ∷ more) = answer_few around planning one.name one.proposal

-- a command
by_deletion : (r : Result StoreRec Reply) (around : Around) (planning : Planning) → Takes 1 (delete_by r around planning)
by_deletion (Ok rec) around planning = takes_last MetaVerdict Deed 1 (write around.term (store_key rec.id) (store_bytes rec)) (λ verdict. deleted_by around planning rec.id verdict) (takes_write around.term (store_key rec.id) (store_bytes rec))
by_deletion (Err reply) around planning = takes_done Deed 1 (idle around planning reply)

delete_few : (o : Option StoreEntry) (around : Around) (planning : Planning) → Takes 1 (delete_found o around planning)
delete_few o around planning = by_deletion (deletion o) around planning

limit_few : (o : Option StoreEntry) (around : Around) (planning : Planning) (id rate : ℕ) (kind : LimitKind) → Takes 0 (limit_found o around planning id rate kind)
limit_few None around planning id rate kind = takes_done Deed 0 (faulted around planning (codes "unknown-store"))
limit_few (Some entry) around planning id rate kind = takes_done Deed 0 (rated around planning id rate kind)

remove_few : (o : Option Operator) (around : Around) (planning : Planning) (region : ℕ) → Takes 0 (remove_found o around planning region)
remove_few None around planning region = takes_done Deed 0 (faulted around planning (codes "absent"))
remove_few (Some op) around planning region = takes_done Deed 0 (removed around planning region)

command_few : (around : Around) (planning : Planning) (command : Command) → Takes (most_draws around.held + 1) (command_done around planning command)
command_few around planning (commands.StoreDelete id) = takes_more Deed 1 (most_draws around.held + 1) (delete_found (entry_at id around.stores) around planning) (omega arith) (delete_few (entry_at id around.stores) around planning)
command_few around planning (commands.StoreLimit id rate kind) =
    takes_more Deed 0 (most_draws around.held + 1) (limit_found (entry_at id around.stores) around planning id rate kind) (omega arith) (limit_few (entry_at id around.stores) around planning id rate kind)
command_few around planning (commands.OperatorAdd region wish) =
    takes_more Deed (most_draws around.held) (most_draws around.held + 1) (add_by_hand around planning region wish) (omega arith)
    (takes_last Work Deed (most_draws around.held) (try_wished around admin planning (wished around region wish)) (λ w. added_by_hand around (steps_in (wished around region wish)) w) (wish_few around admin planning region wish))
command_few around planning (commands.OperatorRemove region) =
    takes_more Deed 0 (most_draws around.held + 1) (remove_found (active_at planning.operators region) around planning region) (omega arith) (remove_few (active_at planning.operators region) around planning region)
command_few around planning command = takes_done Deed (most_draws around.held + 1) (idle around planning (replies.Report []))

words_few : (around : Around) (planning : Planning) (told : Result Command CtlFault) → Takes (most_draws around.held + 1) (words_done around planning told)
words_few around planning (Ok command) = command_few around planning command
words_few around planning (Err fault) = takes_done Deed (most_draws around.held + 1) (idle around planning (replies.Report []))

-- a patrol
abbrev draws_for : List Planned → ℕ
draws_for [] = 0
draws_for (one ∷ more) = length one.beat.region.peers + 1 + draws_for more

visit_few : (around : Around) (one : Planned) (round : Round) → Takes (length one.beat.region.peers + 1) (visit around one round)
visit_few around one round =
    takes_if Round (length one.beat.region.peers + 1) round.stopped _ _ (takes_done Round (length one.beat.region.peers + 1) round)
    (takes_if Round (length one.beat.region.peers + 1) (is_busy round.planning one.beat.region.id) _ _ (takes_done Round (length one.beat.region.peers + 1) round)
    (takes_last Work Round (length one.beat.region.peers + 1) (add_op around (check_op one.beat one.steps) one.beat round.planning) (λ w. round_after round w w.adding)
    (add_few around (check_op one.beat one.steps) one.beat round.planning)))

sweep_few : (around : Around) (plans : List Planned) (round : Round) → Takes (draws_for plans) (sweep around plans round)
sweep_few around [] round = takes_done Round 0 round
sweep_few around (one ∷ more) round =
    takes_then Round Round (length one.beat.region.peers + 1) (draws_for more) (visit around one round) (λ next. sweep around more next) (visit_few around one round) (λ next. sweep_few around more next)

module _ (around : Around) where
  abbrev plans_of : List RegionBeat → List Planned
  plans_of beats = filter_map (λ beat. plan_told beat (told_in around beat)) beats

  plan_few : (told : Told) (beat : RegionBeat) (beats : List RegionBeat) → told_in around beat ≡ told → draws_for (plans_of beats) ≤ most_draws beats → draws_for (plans_of (beat ∷ beats)) ≤ most_draws (beat ∷ beats)
  plan_few (Splits key) beat beats is rest = rw (is) (omega (arith, rest))
  plan_few Fits beat beats is rest = rw (is) (omega (arith, rest))
  plan_few (Stuck from) beat beats is rest = rw (is) (omega (arith, rest))
  plan_few (Plans class list from to) beat beats is rest = rw (is) (omega (arith, rest))

  plans_few : (beats : List RegionBeat) → draws_for (plans_of beats) ≤ most_draws beats
  plans_few [] = omega arith
  plans_few (beat ∷ beats) = plan_few (told_in around beat) beat beats refl (plans_few beats)

-- the stores that are to be buried
one_few : (term : ℕ) (rec : StoreRec) (burial : Burial) → Takes 1 (bury_one term rec burial)
one_few term rec burial =
    takes_if Burial 1 burial.stopped (done burial) (and_then (write term (store_key rec.id) (store_bytes rec)) (λ verdict. done (burial_after rec burial verdict))) (takes_done Burial 1 burial)
    (takes_last MetaVerdict Burial 1 (write term (store_key rec.id) (store_bytes rec)) (λ verdict. burial_after rec burial verdict) (takes_write term (store_key rec.id) (store_bytes rec)))

bury_few : (term : ℕ) (recs : List StoreRec) (burial : Burial) → Takes (length recs) (bury term recs burial)
bury_few term [] burial = takes_done Burial 0 burial
bury_few term (rec ∷ more) burial =
    takes_more Burial (1 + length more) (length (rec ∷ more)) (bury term (rec ∷ more) burial) (omega arith)
    (takes_then Burial Burial 1 (length more) (bury_one term rec burial) (λ next. bury term more next) (one_few term rec burial) (λ next. bury_few term more next))

module _ (f : StoreRec → Bool) where
  abbrev kept : List StoreEntry → List StoreRec
  kept stores = map tombstone (filter f (map (λ (entry : StoreEntry). entry.store) stores))

  kept_one : (b : Bool) (entry : StoreEntry) (stores : List StoreEntry) → f entry.store ≡ b → length (kept stores) ≤ length stores → length (kept (entry ∷ stores)) ≤ length (entry ∷ stores)
  kept_one true entry stores is rest = rw (is) (omega (arith, rest))
  kept_one false entry stores is rest = rw (is) (omega (arith, rest))

  kept_few : (stores : List StoreEntry) → length (kept stores) ≤ length stores
  kept_few [] = omega arith
  kept_few (entry ∷ stores) = kept_one (f entry.store) entry stores refl (kept_few stores)

graves_by : (b : Bool) (recs : List StoreRec) (n : ℕ) → length recs ≤ n → length (cond b recs []) ≤ n
graves_by true recs n low = low
graves_by false recs n low = omega arith

graves_few : (around : Around) → length (graves_in around) ≤ length around.stores
graves_few around = graves_by (covers_all around.held) (kept (is_grave around.held) around.stores) (length around.stores) (kept_few (is_grave around.held) around.stores)

module _ (part : Part) (moment : ℕ) where
  abbrev around : Around
  around = around_at part moment

  bury_last : (round : Round) → Takes (length part.stores) (and_then (bury_all around) (λ burial. done (patrol_deed around round burial)))
  bury_last round = takes_last Burial Deed (length part.stores) (bury_all around) (λ burial. patrol_deed around round burial)
      (takes_more Burial (length (graves_in around)) (length part.stores) (bury_all around) (graves_few around) (bury_few around.term (graves_in around) (record { stores = around.stores; buried = 0; stopped = false })))

  patrol_few : Takes (most_draws part.standing + length part.stores) (patrol_of part moment)
  patrol_few = takes_then Round Deed (most_draws part.standing) (length part.stores) (sweep around (plans_in around) (first_round (planning_of part))) (λ round. and_then (bury_all around) (λ burial. done (patrol_deed around round burial)))
      (takes_more Round (draws_for (plans_in around)) (most_draws part.standing) (sweep around (plans_in around) (first_round (planning_of part))) (plans_few around part.standing) (sweep_few around (plans_in around) (first_round (planning_of part))))
      bury_last

-- so many answers
asked_few : (next : List MetaAnswer → Option MetaCall) (n : ℕ) → ((before : List MetaAnswer) (call : MetaCall) → next before ≡ Some call → length before < n) → (before answers : List MetaAnswer) → length before ≤ n → AreAsked next before answers
    → length before + length answers ≤ n
asked_few next n low before [] few asked = omega (arith, few)
asked_few next n low before (answer ∷ answers) few asked =
    let one = low before answer.call asked.0 in
    let len = length-append before (answer ∷ []) in
    let rest = asked_few next n low (before ++ answer ∷ []) answers (omega (arith, one, len)) asked.1 in
    omega (arith, rest, len)

waits_low : (A : Type 0) (n : ℕ) (at : Hearing) (p : Point A) (call : MetaCall) → Within n at p → wanted p ≡ Some call → length at.left < n
waits_low A n at (ended value after) call h is = absurd cc
waits_low A n at (waits other) call h is = h

takes_few : (A : Type 0) (n : ℕ) (asking : Asking A) (known : List Cell) (answers : List MetaAnswer) → Takes n asking → AreAsked (λ before. wanted (asking (hearing known before))) [] answers → length answers ≤ n
takes_few A n asking known answers t asked =
    let all = asked_few (λ before. wanted (asking (hearing known before))) n (λ before call is. waits_low A n (hearing known before) (asking (hearing known before)) call (t (hearing known before)) is) [] answers (omega arith) asked in
    omega (arith, all)

pub few_answers : (part : Option Part) (request : Request) (said : List Said) (answers : List MetaAnswer) → AreAsked (next_call part request said) [] answers → length answers ≤ most_calls part request
few_answers (Some part) (ask.Check moment region) said answers asked =
    takes_few Deed _ (check_of part moment region) part.known answers (held_few (around_at part moment) (planning_of part) (region_in region part.standing)) asked
few_answers (Some part) (ask.Patrol moment workers) said answers asked = takes_few Deed _ (patrol_of part moment) part.known answers (patrol_few part moment) asked
few_answers (Some part) (ask.Schedule moment) said answers asked = takes_few Deed _ (schedule_of part moment said) part.known answers (schedule_few (around_at part moment) (planning_of part) said) asked
few_answers (Some part) (ask.Ctl moment words) said answers asked = takes_few Deed _ (ctl_of part moment words) part.known answers (words_few (around_at part moment) (planning_of part) (command_told words)) asked
few_answers None (ask.Term term moment) said answers asked = two_calls None (ask.Term term moment) said answers tt asked
few_answers None _ said answers asked = omega (arith, ap length (no_calls answers asked))
few_answers (Some part) request said answers asked = two_calls (Some part) request said answers tt asked

-- a call comes only behind so few answers
turn_low : (calls : List MetaCall) (before : List MetaAnswer) (call : MetaCall) → in_turn calls before ≡ Some call → length before < length calls
turn_low [] before call is = absurd cc
turn_low (one ∷ calls) [] call is = omega arith
turn_low (one ∷ calls) (answer ∷ before) call is = by (is_accepted answer.verdict) (turn_low calls before call) is
  where
    by : (t : Bool) → (in_turn calls before ≡ Some call → length before < length calls) → cond t (in_turn calls before) None ≡ Some call → length (answer ∷ before) < length (one ∷ calls)
    by true rest is = let low = rest is in omega (arith, low)
    by false rest is = absurd cc

pub waits_few : (part : Option Part) (request : Request) (said : List Said) (before : List MetaAnswer) (call : MetaCall) → next_call part request said before ≡ Some call → length before < most_calls part request
waits_few None (ask.Term term moment) said before call is = let low = turn_low (calls.Lead term ∷ []) before call is in omega (arith, low)
waits_few (Some part) (ask.Term term moment) said before call is = let low = turn_low (calls.Lead term ∷ []) before call is in omega (arith, low)
waits_few (Some part) (ask.Hello store moment address labels) said before call is =
    let low = turn_low (hello_calls part store address labels) before call is in
    let one = unless_few (hello_refusal (state_at store part.stores) (length part.stores)) (put_call part (store_key store) (store_bytes (greeted_record part store address labels))) in
    omega (arith, low, one)
waits_few (Some part) (ask.Rule moment json) said before call is =
    let low = turn_low (rule_calls part (rule_told json)) before call is in
    let two = rule_few part (rule_told json) in
    omega (arith, low, two)
waits_few (Some part) (ask.Unrule moment group id) said before call is =
    let low = turn_low (unrule_calls part group id) before call is in
    let one = unrule_few part group id in
    omega (arith, low, one)
waits_few (Some part) (ask.Check moment region) said before call is =
    waits_low Deed _ (hearing part.known before) (check_of part moment region (hearing part.known before)) call (held_few (around_at part moment) (planning_of part) (region_in region part.standing) (hearing part.known before)) is
waits_few (Some part) (ask.Patrol moment workers) said before call is =
    waits_low Deed _ (hearing part.known before) (patrol_of part moment (hearing part.known before)) call (patrol_few part moment (hearing part.known before)) is
waits_few (Some part) (ask.Schedule moment) said before call is =
    waits_low Deed _ (hearing part.known before) (schedule_of part moment said (hearing part.known before)) call (schedule_few (around_at part moment) (planning_of part) said (hearing part.known before)) is
waits_few (Some part) (ask.Ctl moment words) said before call is =
    waits_low Deed _ (hearing part.known before) (ctl_of part moment words (hearing part.known before)) call (words_few (around_at part moment) (planning_of part) (command_told words) (hearing part.known before)) is
waits_few _ _ said before call is = absurd cc
