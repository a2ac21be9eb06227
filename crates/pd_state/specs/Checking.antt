-- What the requests do that check one region and all regions (PD's checkers and its patrol of the regions).
use Rattle.std.specs.Prelude.{ℕ, ◌+◌, ◌<◌, ◌≤◌, ◌^◌, ⊤, nat_eq, Bool, true, false, List, [], ◌∷◌, ◌++◌, codes, length, map, filter, filter_map, count_by, if◌then◌else◌, is_some, Option, Some, None}
use Rattle.pd_types.specs.declared.region.RegionBeat.{RegionBeat}
use Rattle.pd_types.specs.declared.step.Step.{Step}
use Rattle.pd_types.specs.declared.store.StoreRec.{StoreRec}
use Rattle.pd_types.specs.declared.store.StoreState.{StoreState}
use Rattle.pd_types.specs.declared.store.StoreState.TheVariants as states
use Rattle.store_table.specs.declared.entry.StoreEntry.{StoreEntry}
use Rattle.store_table.specs.Calls.{in_state}
use Rattle.store_table.specs.Entries.{changed}
use Rattle.region_tree.specs.Cover.{covers_all}
use Rattle.heartbeat.specs.Counts.{region_count}
use Rattle.meta_store.specs.declared.record.MetaAnswer.{MetaAnswer}
use Rattle.meta_store.specs.declared.record.MetaVerdict.{MetaVerdict}
use Rattle.meta_store.specs.declared.record.MetaVerdict.TheVariants as verdicts
use Rattle.meta_store.specs.Stores.{store_bytes, store_key}
use Rattle.op_control.specs.declared.operator.NewOp.{NewOp}
use Rattle.op_control.specs.Table.{active_at}
use Rattle.rule_checker.specs.declared.class.Class.{Class}
use Rattle.rule_checker.specs.Told.{Told, Fits, Plans, Splits, Stuck, told_of}
use Rattle.pd_state.specs.Adding.{Around, Planning, Work, add_op, around_at, planning_of}
use Rattle.pd_state.specs.Asking.{Asking, Ear, Talks, and_then, done, hearing, value_or, write}
use Rattle.pd_state.specs.Sends.{region_in}
use Rattle.pd_state.specs.declared.adding.Adding.{Adding}
use Rattle.pd_state.specs.declared.adding.Adding.TheVariants as adding
use Rattle.pd_state.specs.declared.checking.TheConstants.{CHECK_PRIORITY}
use Rattle.pd_state.specs.declared.burial.Burial.{Burial as CodeBurial}
use Rattle.pd_state.specs.declared.part.Part.{Part}
use Rattle.pd_state.specs.declared.patrol.Planned.{Planned}
use Rattle.pd_state.specs.declared.patrol.Round.{Round as CodeRound}
use Rattle.pd_state.specs.declared.patrol.Survey.{Survey}
use Rattle.pd_state.specs.declared.heard.Done.{Done}
use Rattle.rule_checker.specs.declared.verdict.Verdict.{Verdict}
use Rattle.rule_checker.specs.declared.verdict.Verdict.TheVariants as verdict
use Rattle.pd_state.specs.declared.reply.Reply.{Reply}
use Rattle.pd_state.specs.declared.reply.Reply.TheVariants as replies
use Rattle.pd_state.specs.declared.sent.Sent.{Sent}

-- what such a request did: what is planned after it, the stores after it, what it sent, and its reply
pub record Deed : Type 0 where
  pub planning : Planning
  pub stores : List StoreEntry
  pub sents : List Sent
  pub reply : Reply

-- it did nothing but reply
abbrev pub idle : Around → Planning → Reply → Deed
idle around planning reply = record { planning = planning; stores = around.stores; sents = []; reply = reply }

-- the operator that the checker asks for
abbrev pub check_op : RegionBeat → List Step → NewOp
check_op beat list = record { region = beat.region.id; epoch = beat.region.epoch; steps = list; kind = codes "check"; priority = CHECK_PRIORITY }

-- what the checker tells of a held region
abbrev pub told_in : Around → RegionBeat → Told
told_in around beat = told_of beat around.rules around.stores around.held around.now

-- a plan was carried as far as this
abbrev pub planned : Around → Class → ℕ → ℕ → Work → Deed
planned around class from to work = record { planning = work.planning; stores = around.stores; sents = work.sents; reply = replies.Plan class from to work.adding }

-- a region of which this is told
abbrev pub check_told : Around → RegionBeat → Planning → Told → Asking Deed
check_told around beat planning (Splits key) = done (idle around planning (replies.NeedsSplit key))
check_told around beat planning Fits = done (idle around planning replies.NoFault)
check_told around beat planning (Stuck from) = done (idle around planning (replies.NoPlan from))
check_told around beat planning (Plans class list from to) = and_then (add_op around (check_op beat list) beat planning) (λ work. done (planned around class from to work))

-- a region, where it is held
abbrev pub check_held : Around → Planning → Option RegionBeat → Asking Deed
check_held around planning None = done (idle around planning replies.NoRegion)
check_held around planning (Some beat) = check_told around beat planning (told_in around beat)

-- the request that checks a region
abbrev pub check : Around → ℕ → Planning → Asking Deed
check around region planning = check_held around planning (region_in region around.held)

-- the plan in what is told
abbrev pub plan_told : RegionBeat → Told → Option Planned
plan_told beat (Splits key) = None
plan_told beat Fits = None
plan_told beat (Stuck from) = None
plan_told beat (Plans class list from to) = Some (record { beat = beat; steps = list })

-- the regions that have a plan, in key order. What is told of them is told before anything is added
abbrev pub plans_in : Around → List Planned
plans_in around = filter_map (λ beat. plan_told beat (told_in around beat)) around.held

-- how far a patrol came with adding operators: what is planned, what was sent, how many were added, and whether a refusal of an id stopped it
pub record Round : Type 0 where
  pub planning : Planning
  pub sents : List Sent
  pub added : ℕ
  pub stopped : Bool

-- at the beginning
abbrev pub first_round : Planning → Round
first_round planning = record { planning = planning; sents = []; added = 0; stopped = false }

-- after a refused id
abbrev pub stopped_round : Round → Work → Round
stopped_round round work = record { planning = work.planning; sents = round.sents; added = round.added; stopped = true }

-- once one operator came to this: it was added, passed over, or had no id
abbrev pub round_after : Round → Work → Adding → Round
round_after round work (adding.Added answer) = record { planning = work.planning; sents = round.sents ++ work.sents; added = round.added + 1; stopped = false }
round_after round work (adding.Build fault) = round
round_after round work (adding.Add fault) = round
round_after round work (adding.OldTerm fence) = stopped_round round work
round_after round work (adding.Conflict found) = stopped_round round work
round_after round work adding.MetaLimit = stopped_round round work
round_after round work adding.IdsSpent = stopped_round round work

-- the region has an operator
abbrev pub is_busy : Planning → ℕ → Bool
is_busy planning region = is_some (active_at planning.operators region)

-- one plan: nothing where the patrol was stopped, or where the region has an operator
abbrev pub visit : Around → Planned → Round → Asking Round
visit around one round =
    if round.stopped then done round
    else (if is_busy round.planning one.beat.region.id then done round
    else and_then (add_op around (check_op one.beat one.steps) one.beat round.planning) (λ work. done (round_after round work work.adding)))

-- the plans in turn
abbrev pub sweep : Around → List Planned → Round → Asking Round
sweep around [] round = done round
sweep around (one ∷ more) round = and_then (visit around one round) (λ next. sweep around more next)

-- a store in this state is to be buried that has so many regions' peers
abbrev pub grave_by : StoreState → ℕ → Bool
grave_by states.Offline regions = nat_eq regions 0
grave_by states.Up regions = false
grave_by states.Tombstone regions = false

-- the store is Offline, and no held region has a peer on it
abbrev pub is_grave : List RegionBeat → StoreRec → Bool
is_grave held rec = grave_by rec.state (region_count rec.id held)

-- the record, as a tombstone's
abbrev pub tombstone : StoreRec → StoreRec
tombstone rec = record { id = rec.id; address = rec.address; labels = rec.labels; state = states.Tombstone }

-- the records of the stores that are to be buried: none while the held regions leave a key out
abbrev pub graves_in : Around → List StoreRec
graves_in around =
    if covers_all around.held then map tombstone (filter (is_grave around.held) (map (λ (entry : StoreEntry). entry.store) around.stores)) else []

-- how far a patrol came with burying stores
pub record Burial : Type 0 where
  pub stores : List StoreEntry
  pub buried : ℕ
  pub stopped : Bool

-- after a refused write
abbrev pub stopped_burial : Burial → Burial
stopped_burial burial = record { stores = burial.stores; buried = burial.buried; stopped = true }

-- once the write of a store's record has this verdict
abbrev pub burial_after : StoreRec → Burial → MetaVerdict → Burial
burial_after rec burial (verdicts.Accepted revision) = record { stores = changed rec.id (in_state states.Tombstone) burial.stores; buried = burial.buried + 1; stopped = false }
burial_after rec burial (verdicts.OldTerm fence) = stopped_burial burial
burial_after rec burial (verdicts.Conflict found) = stopped_burial burial
burial_after rec burial verdicts.Limit = stopped_burial burial

-- one store: its record is written first
abbrev pub bury_one : ℕ → StoreRec → Burial → Asking Burial
bury_one term rec burial =
    if burial.stopped then done burial else and_then (write term (store_key rec.id) (store_bytes rec)) (λ verdict. done (burial_after rec burial verdict))

-- these stores in turn
abbrev pub bury : ℕ → List StoreRec → Burial → Asking Burial
bury term [] burial = done burial
bury term (rec ∷ more) burial = and_then (bury_one term rec burial) (λ next. bury term more next)

-- all that are to be buried
abbrev pub bury_all : Around → Asking Burial
bury_all around = bury around.term (graves_in around) (record { stores = around.stores; buried = 0; stopped = false })

-- of what is told, whether it is a fit
abbrev pub is_fit : Told → Bool
is_fit (Splits key) = false
is_fit Fits = true
is_fit (Plans class list from to) = false
is_fit (Stuck from) = false

-- a border
abbrev pub is_split : Told → Bool
is_split (Splits key) = true
is_split Fits = false
is_split (Plans class list from to) = false
is_split (Stuck from) = false

-- a plan
abbrev pub is_plan : Told → Bool
is_plan (Splits key) = false
is_plan Fits = false
is_plan (Plans class list from to) = true
is_plan (Stuck from) = false

-- that there is none
abbrev pub is_stuck : Told → Bool
is_stuck (Splits key) = false
is_stuck Fits = false
is_stuck (Plans class list from to) = false
is_stuck (Stuck from) = true

-- what is told of all regions, in key order
abbrev pub told_all : Around → List Told
told_all around = map (told_in around) around.held

-- the numbers of a patrol
abbrev pub patrolled : Around → ℕ → ℕ → Reply
patrolled around added buried =
    replies.Patrolled (length around.held) (count_by is_fit (told_all around)) (count_by is_split (told_all around)) (count_by is_plan (told_all around)) (count_by is_stuck (told_all around)) added buried

-- what a patrol did
abbrev pub patrol_deed : Around → Round → Burial → Deed
patrol_deed around round burial = record { planning = round.planning; stores = burial.stores; sents = round.sents; reply = patrolled around round.added burial.buried }

-- the request that checks every region: it adds the plans' operators, and then buries stores, also where it was stopped before
abbrev pub patrol : Around → Planning → Asking Deed
patrol around planning =
    and_then (sweep around (plans_in around) (first_round planning)) (λ round. and_then (bury_all around) (λ burial. done (patrol_deed around round burial)))

-- the request of this moment to a term's cluster that checks this region
abbrev pub check_of : Part → ℕ → ℕ → Asking Deed
check_of part moment region = check (around_at part moment) region (planning_of part)

-- the one that checks every region
abbrev pub patrol_of : Part → ℕ → Asking Deed
patrol_of part moment = patrol (around_at part moment) (planning_of part)

-- what such a request did that heard these answers. One that still waits for an answer, which no entry of a journal does, did nothing
abbrev pub deed_of : Asking Deed → Part → ℕ → List MetaAnswer → Deed
deed_of asking part moment answers = value_or (idle (around_at part moment) (planning_of part) replies.NotLeading) (asking (hearing part.known answers))

-- how far a patrol is: what is planned in the tables, what was sent so far, and the code's two numbers
abbrev pub round_at : Part → List Sent → CodeRound → Round
round_at part sents round = record { planning = planning_of part; sents = sents; added = round.added; stopped = round.stopped }

-- how far the burials are, in the tables and by the code's two numbers
abbrev pub burial_at : Part → CodeBurial → Burial
burial_at part burial = record { stores = part.stores; buried = burial.buried; stopped = burial.stopped }

-- what is told of these regions, counted: how many there are, how many of each kind, and those that have a plan
abbrev pub surveyed : Around → List RegionBeat → Survey
surveyed around beats = record {
  regions = length beats;
  ok = count_by is_fit (map (told_in around) beats);
  split = count_by is_split (map (told_in around) beats);
  plan = count_by is_plan (map (told_in around) beats);
  no_plan = count_by is_stuck (map (told_in around) beats);
  plans = filter_map (λ beat. plan_told beat (told_in around beat)) beats;
}

-- nothing is counted yet
abbrev pub no_survey : Survey
no_survey = record { regions = 0; ok = 0; split = 0; plan = 0; no_plan = 0; plans = [] }

-- with one region more
abbrev pub survey_more : Survey → RegionBeat → Told → Survey
survey_more survey beat (Splits key) = record survey { regions = survey.regions + 1; split = survey.split + 1 }
survey_more survey beat Fits = record survey { regions = survey.regions + 1; ok = survey.ok + 1 }
survey_more survey beat (Stuck from) = record survey { regions = survey.regions + 1; no_plan = survey.no_plan + 1 }
survey_more survey beat (Plans class list from to) =
    record survey { regions = survey.regions + 1; plan = survey.plan + 1; plans = survey.plans ++ record { beat = beat; steps = list } ∷ [] }

-- no kind has more regions than there are
pub record AreCounts (survey : Survey) : Type 0 where
  pub ok : survey.ok ≤ survey.regions
  pub split : survey.split ≤ survey.regions
  pub plan : survey.plan ≤ survey.regions
  pub no_plan : survey.no_plan ≤ survey.regions

-- the operator of a plan has few steps
abbrev pub IsShort : Verdict → Type 0
IsShort (verdict.NeedsSplit keys) = ⊤
IsShort verdict.NoFault = ⊤
IsShort (verdict.Plan class list from to) = length list < 2 ^ 32
IsShort (verdict.NoPlan from certificate) = ⊤

-- a request was carried out over a door: this is planned then, the stores are these, and it sent and replied this
abbrev pub Does : Asking Deed → Planning → List StoreEntry → Done → ℕ → Ear → Ear → Type 0
Does asking planning stores did driver old new = Talks Deed asking (record { planning = planning; stores = stores; sents = did.sents; reply = did.reply }) driver old new

-- the code's two numbers, once one operator came to this
abbrev pub tallied : CodeRound → Adding → CodeRound
tallied round (adding.Added answer) = record { added = round.added + 1; stopped = false }
tallied round (adding.Build fault) = round
tallied round (adding.Add fault) = round
tallied round (adding.OldTerm fence) = record { added = round.added; stopped = true }
tallied round (adding.Conflict found) = record { added = round.added; stopped = true }
tallied round adding.MetaLimit = record { added = round.added; stopped = true }
tallied round adding.IdsSpent = record { added = round.added; stopped = true }
