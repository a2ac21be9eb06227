-- What the answers of a replay tell that schedulers said is, driver by driver, what its benches said in it.
use Rattle.std.proofs.Common.{◌≡◌, ◌≢◌, ◌⊎◌, inl, inr, ◌<◌, ◌≤◌, ℕ, zero, suc, ◌+◌, nat_eq, nat_le, Bool, true, false, cond, List, [], ◌∷◌, ◌++◌, length, length-set, take, drop, get_or, replicate, Option, Some, None, refl, sym, ap, subst, ◌∙◌, append_assoc, append-nil, arith}
use Rattle.std.proofs.Math.Seq.{drop-length}
use Rattle.std.proofs.lemmas.List.{get_or-set_other, get_or-set_same}
use Rattle.std.specs.List.{AllByRecursion}
use Rattle.std.specs.Prelude.{Result, Ok, Err}
use Rattle.pd_types.proofs.Numbers.{other_number, same_number}
use Rattle.pd_types.specs.declared.oracle.Actor.{Actor}
use Rattle.pd_types.specs.declared.region.RegionBeat.{RegionBeat}
use Rattle.pd_types.specs.declared.proposal.Proposal.{Proposal}
use Rattle.pd_types.specs.declared.request.Request.{Request}
use Rattle.pd_types.specs.declared.request.Request.TheVariants as ask
use Rattle.pd_types.specs.declared.rule.Rule.{Rule}
use Rattle.pd_types.specs.declared.store.StoreRec.{StoreRec}
use Rattle.pd_types.specs.declared.store.StoreState.{StoreState}
use Rattle.pd_types.specs.declared.store.StoreState.TheVariants as states
use Rattle.heartbeat.specs.declared.intake.Intake.{Intake}
use Rattle.heartbeat.specs.declared.intake.Intake.TheVariants as intakes
use Rattle.heartbeat.specs.Intakes.{intake_of}
use Rattle.meta_store.specs.Asked.{AreAsked}
use Rattle.meta_store.specs.Stores.{store_bytes, store_key}
use Rattle.meta_store.specs.declared.record.MetaAnswer.{MetaAnswer}
use Rattle.meta_store.specs.declared.record.MetaCall.{MetaCall}
use Rattle.meta_store.specs.declared.record.MetaVerdict.{MetaVerdict}
use Rattle.meta_store.specs.declared.record.MetaVerdict.TheVariants as verdicts
use Rattle.op_control.specs.Table.{active_at}
use Rattle.op_control.specs.declared.operator.Operator.{Operator}
use Rattle.op_control.specs.declared.turn.Dispatch.{Dispatch}
use Rattle.pd_ctl.specs.declared.command.Command.{Command}
use Rattle.pd_ctl.specs.declared.command.Command.TheVariants as commands
use Rattle.pd_ctl.specs.declared.fault.CtlFault.{CtlFault}
use Rattle.rule_checker.specs.Told.{Told, Fits, Plans, Splits, Stuck}
use Rattle.rule_set.specs.Changes.{remove_refusal, set_refusal}
use Rattle.rule_set.specs.declared.fault.RemoveFault.{RemoveFault}
use Rattle.rule_set.specs.declared.fault.RemoveFault.TheVariants.{Absent, LastRule}
use Rattle.rule_set.specs.declared.fault.SetFault.{SetFault}
use Rattle.rule_text.specs.declared.fault.RuleFault.{RuleFault}
use Rattle.sched_api.specs.Benches.{Seats}
use Rattle.sched_api.specs.declared.scheduler.Said.{Said as Heeded}
use Rattle.serde_json.specs.Data.{Data}
use Rattle.store_limit.specs.declared.limits.LimitKind.{LimitKind}
use Rattle.store_table.specs.Entries.{entry_at, state_at}
use Rattle.store_table.specs.declared.entry.StoreEntry.{StoreEntry}
use Rattle.store_table.specs.declared.table.TheConstants.{MOST_STORES}
use Rattle.pd_state.specs.Adding.{Around, Planning, Work, add_op, around_at, planning_of}
use Rattle.pd_state.specs.Asking.{Hearing, Point, done, ended, hearing, value_or, waits, wanted, write}
use Rattle.pd_state.specs.BenchHeard.{one_turn, turns_of}
use Rattle.pd_state.specs.Calls.{next_call}
use Rattle.pd_state.specs.Checking.{Burial, Deed, Round, bury_all, check_held, check_of, check_op, check_told, deed_of, first_round, idle, patrol, patrol_deed, patrol_of, planned, plans_in, sweep, told_in}
use Rattle.pd_state.specs.Ctl.{added_by_hand, admin, command_done, ctl_of, delete_by, delete_found, deleted_by, deletion_by, limit_found, remove_found, reply_or, report_told, words_done}
use Rattle.pd_state.specs.Legal.{beat_dispatch, first_reply}
use Rattle.pd_state.specs.Replies.{alive_reply, beat_reply, begun_reply, by_answers, hello_reply, or_then, removal_refused, rule_reply, set_refused, unrule_reply, verdict_refusal}
use Rattle.pd_state.specs.Reports.{command_told}
use Rattle.pd_state.specs.Scheduling.{heed, proposed, schedule, schedule_of, scheduler}
use Rattle.pd_state.specs.Sends.{region_in}
use Rattle.pd_state.specs.StoredRules.{rule_told}
use Rattle.pd_state.specs.Wishing.{region_of, steps_in, try_wished, wish_of, wished}
use Rattle.pd_state.specs.declared.heard.Heard.{Heard}
use Rattle.pd_state.specs.declared.part.Part.{Part}
use Rattle.pd_state.specs.declared.reply.Reply.{Reply}
use Rattle.pd_state.specs.declared.reply.Reply.TheVariants as replies
use Rattle.pd_state.proofs.Ends.{Ends, ends_any, ends_on, ends_or}
use Rattle.pd_script.specs.Lawful.{IsLawful, actor_in}
use Rattle.pd_script.specs.Scripts.{asker}
use Rattle.pd_script.specs.declared.act.Act.{Act}
use Rattle.pd_script.specs.declared.act.Act.TheVariants.{Ask, Pop}
use Rattle.pd_script.specs.declared.act.Line.{Line}
use Rattle.pd_cluster.specs.Answers.{Answer, driver_in}
use Rattle.pd_cluster.specs.Replay.{Kept, State, act_step, answers_at, answers_from, asked_besides, heard_at, lead_at, line_step, names_at, oracle_line, part_at, said_at, served, state_after, talk_after, with_besides, with_served}
use Rattle.pd_cluster.specs.Talks.{AreHeeded, GoOn, Talk, heeded, heeded_by, heeded_of, silence, talk_at, talks_from, talks_of}
use Rattle.pd_cluster.specs.declared.said.Said.{Said}
use Rattle.pd_cluster.specs.declared.said.Said.TheVariants.{ByCluster}
use Rattle.pd_cluster.proofs.Benching.{all_silent}
use Rattle.pd_cluster.proofs.Sending.{AreTurnless, IsTurnless, besides_turnless, nothing_said, put_at, served_asked, turnless}

-- REPLIES THAT TELL OF NO SCHEDULER
abbrev Quiet : Reply → Type 0
Quiet reply = heeded reply ≡ []

verdict_quiet : (verdict : MetaVerdict) (reply : Reply) → Quiet reply → Quiet (or_then (verdict_refusal verdict) reply)
verdict_quiet (verdicts.Accepted revision) reply h = h
verdict_quiet (verdicts.OldTerm fence) reply h = refl
verdict_quiet (verdicts.Conflict found) reply h = refl
verdict_quiet verdicts.Limit reply h = refl

answers_quiet : (reply : Reply) (answers : List MetaAnswer) → Quiet reply → Quiet (by_answers reply answers)
answers_quiet reply [] h = h
answers_quiet reply (answer ∷ answers) h = verdict_quiet answer.verdict (by_answers reply answers) (answers_quiet reply answers h)

limit_quiet : (b : Bool) (reply : Reply) → Quiet reply → Quiet (or_then (cond b (Some replies.Limit) None) reply)
limit_quiet true reply h = refl
limit_quiet false reply h = h

hello_quiet : (state : Option StoreState) (known : ℕ) (heard : Heard) → Quiet (hello_reply state known heard)
hello_quiet (Some states.Tombstone) known heard = refl
hello_quiet (Some states.Up) known heard = answers_quiet replies.StorePut heard.answers refl
hello_quiet (Some states.Offline) known heard = answers_quiet replies.StorePut heard.answers refl
hello_quiet None known heard = limit_quiet (nat_le MOST_STORES known) (by_answers replies.StorePut heard.answers) (answers_quiet replies.StorePut heard.answers refl)

alive_quiet : (state : Option StoreState) → Quiet (alive_reply state)
alive_quiet None = refl
alive_quiet (Some states.Tombstone) = refl
alive_quiet (Some states.Up) = refl
alive_quiet (Some states.Offline) = refl

beat_quiet : (intake : Intake) (came : Dispatch) → Quiet (beat_reply intake came)
beat_quiet (intakes.Bad fault) came = refl
beat_quiet (intakes.Stale kept) came = refl
beat_quiet intakes.Full came = refl
beat_quiet (intakes.Accepted removed) came = refl

set_quiet : (o : Option SetFault) (reply : Reply) → Quiet reply → Quiet (or_then (set_refused o) reply)
set_quiet None reply h = h
set_quiet (Some fault) reply h = refl

rule_quiet : (told : Result Rule RuleFault) (rules : List Rule) (heard : Heard) → Quiet (rule_reply told rules heard)
rule_quiet (Err fault) rules heard = refl
rule_quiet (Ok rule) rules heard = set_quiet (set_refusal rule rules) (by_answers replies.RulePut heard.answers) (answers_quiet replies.RulePut heard.answers refl)

removal_quiet : (o : Option RemoveFault) (reply : Reply) → Quiet reply → Quiet (or_then (removal_refused o) reply)
removal_quiet None reply h = h
removal_quiet (Some Absent) reply h = refl
removal_quiet (Some LastRule) reply h = refl

unrule_quiet : (group id : List ℕ) (rules : List Rule) (heard : Heard) → Quiet (unrule_reply group id rules heard)
unrule_quiet group id rules heard = removal_quiet (remove_refusal group id rules) (by_answers replies.RuleRemoved heard.answers) (answers_quiet replies.RuleRemoved heard.answers refl)

-- of deeds
abbrev DeedQuiet : Deed → Type 0
DeedQuiet deed = Quiet deed.reply

check_quiet : (around : Around) (beat : RegionBeat) (planning : Planning) (told : Told) (at : Hearing) → Ends Deed DeedQuiet (check_told around beat planning told at)
check_quiet around beat planning (Splits key) at = refl
check_quiet around beat planning Fits at = refl
check_quiet around beat planning (Stuck from) at = refl
check_quiet around beat planning (Plans class list from to) at =
    ends_on Work Deed (λ work. Unit {0}) DeedQuiet (λ work. done (planned around class from to work)) (add_op around (check_op beat list) beat planning at) (ends_any Work _) (λ work then u. refl)

held_quiet : (around : Around) (planning : Planning) (o : Option RegionBeat) (at : Hearing) → Ends Deed DeedQuiet (check_held around planning o at)
held_quiet around planning None at = refl
held_quiet around planning (Some beat) at = check_quiet around beat planning (told_in around beat) at

patrol_quiet : (around : Around) (planning : Planning) (at : Hearing) → Ends Deed DeedQuiet (patrol around planning at)
patrol_quiet around planning at =
    ends_on Round Deed (λ round. Unit {0}) DeedQuiet _ (sweep around (plans_in around) (first_round planning) at) (ends_any Round _)
    (λ round then h. ends_on Burial Deed (λ burial. Unit {0}) DeedQuiet (λ burial. done (patrol_deed around round burial)) (bury_all around then) (ends_any Burial _) (λ burial last v. refl))

deleted_quiet : (around : Around) (planning : Planning) (id : ℕ) (verdict : MetaVerdict) → DeedQuiet (deleted_by around planning id verdict)
deleted_quiet around planning id (verdicts.Accepted revision) = refl
deleted_quiet around planning id (verdicts.OldTerm fence) = refl
deleted_quiet around planning id (verdicts.Conflict found) = refl
deleted_quiet around planning id verdicts.Limit = refl

abbrev QuietErr : Result StoreRec Reply → Type 0
QuietErr (Ok rec) = Unit {0}
QuietErr (Err reply) = Quiet reply

state_quiet : (state : StoreState) (rec : StoreRec) → QuietErr (deletion_by state rec)
state_quiet states.Up rec = tt
state_quiet states.Offline rec = tt
state_quiet states.Tombstone rec = refl

by_quiet : (r : Result StoreRec Reply) (around : Around) (planning : Planning) (at : Hearing) → QuietErr r → Ends Deed DeedQuiet (delete_by r around planning at)
by_quiet (Ok rec) around planning at h =
    ends_on MetaVerdict Deed (λ v. Unit {0}) DeedQuiet (λ verdict. done (deleted_by around planning rec.id verdict)) (write around.term (store_key rec.id) (store_bytes rec) at) (ends_any MetaVerdict _)
    (λ verdict then u. deleted_quiet around planning rec.id verdict)
by_quiet (Err reply) around planning at h = h

delete_quiet : (o : Option StoreEntry) (around : Around) (planning : Planning) (at : Hearing) → Ends Deed DeedQuiet (delete_found o around planning at)
delete_quiet None around planning at = refl
delete_quiet (Some entry) around planning at = by_quiet (deletion_by entry.store.state entry.store) around planning at (state_quiet entry.store.state entry.store)

rated_quiet : (o : Option StoreEntry) (around : Around) (planning : Planning) (id rate : ℕ) (kind : LimitKind) (at : Hearing) → Ends Deed DeedQuiet (limit_found o around planning id rate kind at)
rated_quiet None around planning id rate kind at = refl
rated_quiet (Some entry) around planning id rate kind at = refl

gone_quiet : (o : Option Operator) (around : Around) (planning : Planning) (region : ℕ) (at : Hearing) → Ends Deed DeedQuiet (remove_found o around planning region at)
gone_quiet None around planning region at = refl
gone_quiet (Some op) around planning region at = refl

command_quiet : (around : Around) (planning : Planning) (command : Command) (at : Hearing) → Ends Deed DeedQuiet (command_done around planning command at)
command_quiet around planning (commands.StoreDelete id) at = delete_quiet (entry_at id around.stores) around planning at
command_quiet around planning (commands.StoreLimit id rate kind) at = rated_quiet (entry_at id around.stores) around planning id rate kind at
command_quiet around planning (commands.OperatorAdd region wish) at =
    ends_on Work Deed (λ work. Unit {0}) DeedQuiet (λ work. done (added_by_hand around (steps_in (wished around region wish)) work)) (try_wished around admin planning (wished around region wish) at) (ends_any Work _) (λ work then u. refl)
command_quiet around planning (commands.OperatorRemove region) at = gone_quiet (active_at planning.operators region) around planning region at
command_quiet around planning command at = refl

words_quiet : (around : Around) (planning : Planning) (told : Result Command CtlFault) (at : Hearing) → Ends Deed DeedQuiet (words_done around planning told at)
words_quiet around planning (Ok command) at = command_quiet around planning command at
words_quiet around planning (Err fault) at = refl

report_quiet : (o : Option Data) (reply : Reply) → Quiet reply → Quiet (reply_or o reply)
report_quiet (Some tree) reply h = refl
report_quiet None reply h = h

-- A SCHEDULER'S TURN
abbrev Heeds : List Heeded → Deed → Type 0
Heeds said deed = heeded deed.reply ≡ said

heed_heeds : (around : Around) (planning : Planning) (name : List ℕ) (proposal : Option Proposal) (at : Hearing) → Ends Deed (Heeds (record { name = name; proposal = proposal } ∷ [])) (heed around planning name proposal at)
heed_heeds around planning name None at = refl
heed_heeds around planning name (Some proposal) at =
    ends_on Work Deed (λ work. Unit {0}) (Heeds (record { name = name; proposal = Some proposal } ∷ [])) (λ work. done (proposed around name proposal work))
    (try_wished around (scheduler name) planning (wished around (region_of proposal) (wish_of proposal)) at) (ends_any Work _) (λ work then u. refl)

schedule_heeds : (around : Around) (planning : Planning) (said : List Heeded) (at : Hearing) → length said ≤ 1 → Ends Deed (Heeds said) (schedule around planning said at)
schedule_heeds around planning [] at few = refl
schedule_heeds around planning (one ∷ []) at few = heed_heeds around planning one.name one.proposal at
schedule_heeds around planning (one ∷ other ∷ more) at few = absurd (omega (arith, few))

-- an asking that waits for nothing has ended
ends_last : (A : Type 0) (P : A → Type 0) (other : A) (point : Point A) → wanted point ≡ None → Ends A P point → P (value_or other point)
ends_last A P other (ended value at) none h = h
ends_last A P other (waits call) none h = absurd cc

-- ALL REPLIES
pub none_at_all : (said : List Heeded) → length said ≤ 0 → [] ≡ said
none_at_all [] few = refl
none_at_all (one ∷ said) few = absurd (omega (arith, few))

term_quiet : (driver : ℕ) (part : Option Part) (request : Request) (heard : Heard) → ((moment : ℕ) → request ≢ ask.Schedule moment) → Quiet (first_reply driver part request heard)
term_quiet driver (Some part) (ask.Schedule moment) heard other = absurd (other moment refl)
term_quiet driver None (ask.Schedule moment) heard other = absurd (other moment refl)
term_quiet driver (Some part) (ask.Beat store moment beat) heard other = beat_quiet (intake_of beat part.standing) (beat_dispatch part moment beat)
term_quiet driver (Some part) (ask.Check moment region) heard other =
    ends_or Deed DeedQuiet (idle (around_at part moment) (planning_of part) replies.NotLeading) (check_of part moment region (hearing part.known heard.answers)) refl
    (held_quiet (around_at part moment) (planning_of part) (region_in region part.standing) (hearing part.known heard.answers))
term_quiet driver (Some part) (ask.Patrol moment workers) heard other =
    ends_or Deed DeedQuiet (idle (around_at part moment) (planning_of part) replies.NotLeading) (patrol_of part moment (hearing part.known heard.answers)) refl
    (patrol_quiet (around_at part moment) (planning_of part) (hearing part.known heard.answers))
term_quiet driver (Some part) (ask.Ctl moment words) heard other =
    report_quiet (report_told driver part moment words heard.names) (deed_of (ctl_of part moment words) part moment heard.answers).reply
    (ends_or Deed DeedQuiet (idle (around_at part moment) (planning_of part) replies.NotLeading) (ctl_of part moment words (hearing part.known heard.answers)) refl
    (words_quiet (around_at part moment) (planning_of part) (command_told words) (hearing part.known heard.answers)))
term_quiet driver (Some part) (ask.Term term moment) heard other = answers_quiet (begun_reply term heard) heard.answers refl
term_quiet driver (Some part) ask.Retire heard other = refl
term_quiet driver (Some part) (ask.Hello store moment address labels) heard other = hello_quiet (state_at store part.stores) (length part.stores) heard
term_quiet driver (Some part) (ask.Alive store moment) heard other = alive_quiet (state_at store part.stores)
term_quiet driver (Some part) (ask.Rule moment json) heard other = rule_quiet (rule_told json) part.rules heard
term_quiet driver (Some part) (ask.Unrule moment group id) heard other = unrule_quiet group id part.rules heard
term_quiet driver None (ask.Term term moment) heard other = answers_quiet (begun_reply term heard) heard.answers refl
term_quiet driver None _ heard other = refl

one_turn_few : (names : List (List ℕ)) → one_turn names ≤ 1
one_turn_few [] = omega arith
one_turn_few (name ∷ names) = omega arith

-- a reply that heard a bench tells of just what it said
pub reply_heeds : (driver : ℕ) (part : Option Part) (request : Request) (heard : Heard) → length heard.bench ≤ turns_of part request heard.names → next_call part request heard.bench heard.answers ≡ None
    → heeded (first_reply driver part request heard) ≡ heard.bench
reply_heeds driver (Some part) (ask.Schedule moment) heard few last =
    ends_last Deed (Heeds heard.bench) (idle (around_at part moment) (planning_of part) replies.NotLeading) (schedule_of part moment heard.bench (hearing part.known heard.answers)) last
    (schedule_heeds (around_at part moment) (planning_of part) heard.bench (hearing part.known heard.answers) (omega (arith, few, one_turn_few heard.names)))
reply_heeds driver None (ask.Schedule moment) heard few last = none_at_all heard.bench few
reply_heeds driver None (ask.Term term moment) heard few last = term_quiet driver None (ask.Term term moment) heard (λ m h. cc) ∙ none_at_all heard.bench few
reply_heeds driver None _ heard few last = none_at_all heard.bench few
reply_heeds driver (Some part) request heard few last = term_quiet driver (Some part) request heard (λ m h. cc) ∙ none_at_all heard.bench few

-- no call comes behind the last answer
pub asked_end : (next : List MetaAnswer → Option MetaCall) (before answers : List MetaAnswer) → AreAsked next before answers → next (before ++ answers) ≡ None
asked_end next before [] asked = ap next (append-nil before) ∙ asked
asked_end next before (a ∷ answers) asked = ap next (sym (append_assoc before (a ∷ []) answers)) ∙ asked_end next (before ++ a ∷ []) answers asked.1

take_few : (n : ℕ) (xs : List Heeded) → length (take n xs) ≤ n
take_few zero xs = omega arith
take_few (suc n) [] = omega arith
take_few (suc n) (x ∷ xs) = let rest = take_few n xs in omega (arith, rest)

served_heeds : (kept : Kept) (d n : ℕ) (request : Request) → heeded (served kept d n request).reply ≡ said_at kept d request
served_heeds kept d n request =
    let part = part_at kept d in
    let said = said_at kept d request in
    reply_heeds d part request (heard_at kept d request) (take_few (turns_of part request (names_at kept d request)) (talk_at kept.talks d).said) (asked_end (next_call part request said) [] (answers_at kept d request) (served_asked kept d request))

-- A LINE
-- what the driver's bench says from here on
abbrev left_at : State → ℕ → List Heeded
left_at state e = (talk_at state.kept.talks e).said

-- what an answer tells of the driver
abbrev told_of : ℕ → Option Actor → Said → List Heeded
told_of e actor said = cond (nat_eq (driver_in actor) e) (heeded_by said) []

cond_none : (b : Bool) → cond {A = List Heeded} b [] [] ≡ []
cond_none true = refl
cond_none false = refl

-- the driver itself asks, or no scheduler takes a turn
by_itself : (d : ℕ) (request : Request) → (driver_in (Some (asker d request)) ≡ d) ⊎ IsTurnless request
by_itself d (ask.Schedule moment) = inl refl
by_itself d request = inr (turnless request (λ m h. cc))

-- what a request leaves of a bench
module _ (kept : Kept) (d n : ℕ) (request : Request) (e : ℕ) where
  abbrev said : List Heeded
  said = said_at kept d request

  abbrev after : Kept
  after = with_served kept d n request

  abbrev all : List Heeded
  all = (talk_at kept.talks d).said

  same_left : d < length kept.talks → e ≡ d → (talk_at after.talks e).said ≡ drop (length said) all
  same_left within is = ap (λ (k : ℕ). (talk_at after.talks k).said) is ∙ ap (λ (t : Talk). t.said) (get_or-set_same kept.talks d (talk_after kept d request) silence within)

  other_left : e ≢ d → (talk_at after.talks e).said ≡ (talk_at kept.talks e).said
  other_left apart = ap (λ (t : Talk). t.said) (get_or-set_other kept.talks d e (talk_after kept d request) silence apart)

  -- it takes what it says from the front
  taken : said ++ drop (length said) all ≡ all
  taken = by (turns_of (part_at kept d) request (names_at kept d request)) all
    where
      by : (m : ℕ) (xs : List Heeded) → take m xs ++ drop (length (take m xs)) xs ≡ xs
      by zero xs = refl
      by (suc m) [] = refl
      by (suc m) (x ∷ xs) = ap (λ (ys : List Heeded). x ∷ ys) (by m xs)

  turnless_left : IsTurnless request → (talk_at after.talks e).said ≡ (talk_at kept.talks e).said
  turnless_left none = elim (put_at kept.talks d e (talk_after kept d request) silence) [
    | inl same ↦ ap (λ (t : Talk). t.said) same
    | inr put ↦ ap (λ (t : Talk). t.said) put.1 ∙ ap (λ (xs : List Heeded). drop (length xs) all) (nothing_said kept d request none) ∙ ap (λ (k : ℕ). (talk_at kept.talks k).said) (sym put.0)
  ]

  -- what the answer tells of this driver, and what its bench says from then on
  asked_left : d < length kept.talks → told_of e (Some (asker d request)) (ByCluster (served kept d n request).reply) ++ (talk_at after.talks e).said ≡ (talk_at kept.talks e).said
  asked_left within = elim (by_itself d request) [
    | inl own ↦ ap (λ (k : ℕ). cond (nat_eq k e) (heeded (served kept d n request).reply) [] ++ (talk_at after.talks e).said) own ∙ by (nat_eq d e) refl
    | inr none ↦ ap (λ (xs : List Heeded). cond (nat_eq (driver_in (Some (asker d request))) e) xs [] ++ (talk_at after.talks e).said) (served_heeds kept d n request ∙ nothing_said kept d request none)
        ∙ ap (λ (xs : List Heeded). xs ++ (talk_at after.talks e).said) (cond_none (nat_eq (driver_in (Some (asker d request))) e)) ∙ turnless_left none
  ]
    where
      by : (t : Bool) → nat_eq d e ≡ t → cond t (heeded (served kept d n request).reply) [] ++ (talk_at after.talks e).said ≡ (talk_at kept.talks e).said
      by true is =
          ap (λ (xs : List Heeded). xs ++ (talk_at after.talks e).said) (served_heeds kept d n request) ∙ ap (λ (xs : List Heeded). said ++ xs) (same_left within (sym (same_number d e is))) ∙ taken
          ∙ ap (λ (k : ℕ). (talk_at kept.talks k).said) (same_number d e is)
      by false is = other_left (other_number d e is)

besides_left : (kept : Kept) (d n : ℕ) (o : Option Request) (e : ℕ) → AreTurnless o → (talk_at (with_besides kept d n o).talks e).said ≡ (talk_at kept.talks e).said
besides_left kept d n None e none = refl
besides_left kept d n (Some request) e none = turnless_left kept d n request e none

besides_talks : (kept : Kept) (d n : ℕ) (o : Option Request) → length (with_besides kept d n o).talks ≡ length kept.talks
besides_talks kept d n None = refl
besides_talks kept d n (Some request) = length-set kept.talks d (talk_after kept d request)

-- what a line tells and leaves
record IsHeard (state : State) (line : Line) (e : ℕ) : Type 0 where
  left : told_of e line.actor (line_step state line).said ++ left_at (line_step state line).after e ≡ left_at state e
  places : length (line_step state line).after.kept.talks ≡ length state.kept.talks

oracle_heard : (state : State) (line : Line) (e : ℕ) → (told_of e line.actor (oracle_line state line).said ++ left_at (oracle_line state line).after e ≡ left_at state e) × (length (oracle_line state line).after.kept.talks ≡ length state.kept.talks)
oracle_heard state line e =
    let d = driver_in line.actor in
    let reply = (act_step state.oracle line.act).reply in
    let o = asked_besides line.act reply (lead_at state d) in (
      ap (λ (xs : List Heeded). xs ++ left_at (oracle_line state line).after e) (cond_none (nat_eq (driver_in line.actor) e)) ∙ besides_left state.kept d line.number o e (besides_turnless line.act reply (lead_at state d)),
      besides_talks state.kept d line.number o,
    )

line_heard : (drivers clients : ℕ) (state : State) (n : ℕ) (act : Act) (e : ℕ) → drivers < length state.kept.talks → IsLawful drivers clients act → (let line : Line = record { number = n; actor = actor_in act; act = act } in IsHeard state line e)
line_heard drivers clients state n (Ask d request) e places lawful = record {
  left = asked_left state.kept d n request e (omega (arith, places, lawful.0.high));
  places = length-set state.kept.talks d (talk_after state.kept d request);
}
line_heard drivers clients state n (Pop store d) e places lawful = record {
  left = ap (λ (xs : List Heeded). xs ++ left_at state e) (cond_none (nat_eq (driver_in (actor_in (Pop store d))) e));
  places = refl;
}
line_heard drivers clients state n act e places lawful =
    let line : Line = record { number = n; actor = actor_in act; act = act } in
    let h = oracle_heard state line e in
    record { left = h.0; places = h.1 }

-- ALL LINES
pub heard_all : (drivers clients : ℕ) (lines : List Line) (state : State) (e : ℕ) → drivers < length state.kept.talks → AllByRecursion (λ (line : Line). IsLawful drivers clients line.act) lines → AllByRecursion (λ (line : Line). line.actor ≡ actor_in line.act) lines
    → heeded_of e (answers_from state lines) ++ left_at (state_after state lines) e ≡ left_at state e
heard_all drivers clients [] state e places lawful actors = refl
heard_all drivers clients (line ∷ lines) state e places lawful actors =
    let full : Line = record { number = line.number; actor = actor_in line.act; act = line.act } in
    let same : full ≡ line = λ i. record { number = line.number; actor = sym actors.0 i; act = line.act } in
    let one : IsHeard state line e = subst (λ (l : Line). IsHeard state l e) same (line_heard drivers clients state line.number line.act e places lawful.0) in
    let next : State = (line_step state line).after in
    let first : List Heeded = told_of e line.actor (line_step state line).said in
    let rest = heard_all drivers clients lines next e (omega (arith, places, one.places)) lawful.1 actors.1 in
    append_assoc first (heeded_of e (answers_from next lines)) (left_at (state_after next lines) e) ∙ ap (λ (xs : List Heeded). first ++ xs) rest ∙ one.left

-- WHERE ALL WAS SAID
-- a bench that goes on to what it is says nothing more
pub all_said : (places : ℕ) (seats : List Seats) (k : ℕ) → (talk_at (talks_of places seats seats) (suc k)).said ≡ []
all_said places seats k = by seats k
  where
    by : (some : List Seats) (i : ℕ) → (get_or (talks_from some some ++ replicate places silence) i silence).said ≡ []
    by [] i = ap (λ (t : Talk). t.said) (all_silent places i)
    by (one ∷ some) zero = drop-length one.said
    by (one ∷ some) (suc i) = by some i

-- so the answers tell just what each said
pub are_heeded : (answers : List Answer) (first : ℕ) (old new : List Seats) (rest : List Talk) → GoOn old new → ((k : ℕ) → heeded_of (first + k) answers ≡ (get_or (talks_from old new ++ rest) k silence).said) → AreHeeded answers first old new
are_heeded answers first [] [] rest goes told = tt
are_heeded answers first [] (other ∷ new) rest goes told = goes
are_heeded answers first (one ∷ old) [] rest goes told = goes
are_heeded answers first (one ∷ old) (other ∷ new) rest goes told = (
  goes.0 ∙ ap (λ (xs : List Heeded). one.said ++ xs) (sym (ap (λ (k : ℕ). heeded_of k answers) (let same : first ≡ first + 0 = omega arith in same) ∙ told 0)),
  are_heeded answers (first + 1) old new rest goes.1 (λ k. ap (λ (i : ℕ). heeded_of i answers) (let same : first + 1 + k ≡ first + suc k = omega arith in same) ∙ told (suc k)),
)
