-- What the entries of a term part say of the present: its clock, stores, rules, regions, which revisions it knows, and what is planned. Each list of entries has the latest first.
use Rattle.std.specs.FinMap as finmap
use Rattle.std.specs.Prelude.{ℕ, nat_eq, max, fold, if◌then◌else◌, List, [], ◌∷◌, map, Option, Some, None, option_map, Result, Ok}
use Rattle.pd_types.specs.declared.region.RegionBeat.{RegionBeat}
use Rattle.pd_types.specs.declared.request.Request.{Request}
use Rattle.pd_types.specs.declared.request.Request.TheVariants as ask
use Rattle.pd_types.specs.declared.rule.Rule.{Rule}
use Rattle.pd_types.specs.declared.store.Label.{Label}
use Rattle.pd_types.specs.declared.store.StoreRec.{StoreRec}
use Rattle.pd_types.specs.declared.store.StoreState.TheVariants.{Up}
use Rattle.region_tree.specs.Stale.{ids_of, removed_by as removed_beats}
use Rattle.region_tree.specs.Standing.{table_of}
use Rattle.store_limit.specs.Limits.{known}
use Rattle.id_alloc.specs.Windows.{window_in}
use Rattle.op_control.specs.Table.{Table, canceled, dispatched}
use Rattle.store_table.specs.declared.entry.StoreEntry.{StoreEntry}
use Rattle.store_table.specs.Live.{later}
use Rattle.rule_set.specs.Changes.{with_rule}
use Rattle.rule_set.specs.Order.{without}
use Rattle.rule_text.specs.declared.fault.RuleFault.{RuleFault}
use Rattle.meta_store.specs.declared.record.Cell.{Cell}
use Rattle.meta_store.specs.Known.{kept_of}
use Rattle.pd_state.specs.StoredRules.{rule_told}
use Rattle.pd_state.specs.Adding.{Around, Planning, around_at, planning_of}
use Rattle.pd_state.specs.Checking.{check_of, deed_of, patrol_of}
use Rattle.pd_state.specs.Ctl.{ctl_of}
use Rattle.pd_state.specs.Scheduling.{schedule_of}
use Rattle.pd_state.specs.HandedOut.{limits_of, or_default, record_at, rules_told, stores_told, with_record}
use Rattle.pd_state.specs.Heard.{answers_of, handed_out, heard_of}
use Rattle.pd_state.specs.declared.entry.Entry.{Entry}
use Rattle.pd_state.specs.declared.heard.Heard.{Heard}
use Rattle.pd_state.specs.declared.part.Part.{Part}
use Rattle.pd_state.specs.declared.reply.Reply.{Reply}
use Rattle.pd_state.specs.declared.reply.Reply.TheVariants as replies
use Rattle.pd_state.specs.Since.{since}

-- a request's own moment; 0 where it has none
abbrev pub moment_of : Request → ℕ
moment_of (ask.Term term moment) = moment
moment_of ask.Retire = 0
moment_of (ask.Hello store moment address labels) = moment
moment_of (ask.Alive store moment) = moment
moment_of (ask.Beat store moment beat) = moment
moment_of (ask.Rule moment json) = moment
moment_of (ask.Unrule moment group id) = moment
moment_of (ask.Check moment region) = moment
moment_of (ask.Patrol moment workers) = moment
moment_of (ask.Schedule moment) = moment
moment_of (ask.Ctl moment words) = moment

-- the clock: the greatest moment of all requests, refused, bad and stale ones too
abbrev pub clock_of : List Entry → ℕ
clock_of [] = 0
clock_of (entry ∷ entries) = max (clock_of entries) (moment_of entry.request)

-- the number of a Term, else the one before
abbrev pub term_by : Request → ℕ → ℕ
term_by (ask.Term term moment) before = term
term_by _ before = before

-- the number of the last Term
abbrev pub term_of : List Entry → ℕ
term_of [] = 0
term_of (entry ∷ entries) = term_by entry.request (term_of entries)

-- the moment of a Term, else the one before
abbrev pub began_by : Request → ℕ → ℕ
began_by (ask.Term term moment) before = moment
began_by _ before = before

-- the moment of the last Term
abbrev pub began_of : List Entry → ℕ
began_of [] = 0
began_of (entry ∷ entries) = began_by entry.request (began_of entries)

-- a region heartbeat, where it was accepted, before those that came earlier
abbrev pub accepted_by : Reply → RegionBeat → List RegionBeat → List RegionBeat
accepted_by (replies.Accepted removed answer) beat earlier = beat ∷ earlier
accepted_by _ beat earlier = earlier

-- the accepted region heartbeats with one request more
abbrev pub beats_by : Request → Reply → List RegionBeat → List RegionBeat
beats_by (ask.Beat store moment beat) reply earlier = accepted_by reply beat earlier
beats_by _ reply earlier = earlier

-- the accepted region heartbeats, the latest first
abbrev pub beats_of : List Entry → List RegionBeat
beats_of [] = []
beats_of (entry ∷ entries) = beats_by entry.request entry.reply (beats_of entries)

-- the greater of the moment and the last heartbeat, where it is the store's own
abbrev pub heard : ℕ → ℕ → ℕ → Option ℕ → Option ℕ
heard store at moment before = if nat_eq store at then Some (later before moment) else before

-- an accepted hello is a heartbeat of its store
abbrev pub hello_by : Reply → ℕ → ℕ → ℕ → Option ℕ → Option ℕ
hello_by replies.StorePut store at moment before = heard store at moment before
hello_by _ store at moment before = before

-- so is an accepted alive
abbrev pub alive_by : Reply → ℕ → ℕ → ℕ → Option ℕ → Option ℕ
alive_by replies.Alive store at moment before = heard store at moment before
alive_by _ store at moment before = before

-- no other request is one
abbrev pub heartbeat_by : Request → Reply → ℕ → Option ℕ → Option ℕ
heartbeat_by (ask.Hello at moment address labels) reply store before = hello_by reply store at moment before
heartbeat_by (ask.Alive at moment) reply store before = alive_by reply store at moment before
heartbeat_by _ reply store before = before

-- a store's last heartbeat: the greatest moment of its accepted hellos and alives
abbrev pub heartbeat : List Entry → ℕ → Option ℕ
heartbeat [] store = None
heartbeat (entry ∷ entries) store = heartbeat_by entry.request entry.reply store (heartbeat entries store)

-- the record of a store that says hello
abbrev pub greeting : ℕ → List ℕ → List Label → StoreRec
greeting store address labels = record { id = store; address = address; labels = labels; state = Up }

-- a known store keeps its state
abbrev pub kept_state : Option StoreRec → StoreRec → StoreRec
kept_state None rec = rec
kept_state (Some known) rec = record rec { state = known.state }

-- an accepted hello changes the record of its store
abbrev pub greeted_by : Reply → StoreRec → List StoreRec → List StoreRec
greeted_by replies.StorePut rec recs = with_record (kept_state (record_at rec.id recs) rec) recs
greeted_by _ rec recs = recs

-- a Term's records are those that it was handed; a hello changes that of its store, a patrol those of the stores that it buries, and pd-ctl that of the store that
-- it deletes
abbrev pub records_by : Request → Reply → Heard → Part → List StoreRec → List StoreRec
records_by (ask.Term term moment) reply heard part recs = stores_told (handed_out heard.answers)
records_by (ask.Hello store moment address labels) reply heard part recs = greeted_by reply (greeting store address labels) recs
records_by (ask.Patrol moment workers) reply heard part recs = map (λ (entry : StoreEntry). entry.store) (deed_of (patrol_of part moment) part moment heard.answers).stores
records_by (ask.Ctl moment words) reply heard part recs = map (λ (entry : StoreEntry). entry.store) (deed_of (ctl_of part moment words) part moment heard.answers).stores
records_by _ reply heard part recs = recs

-- what a term begins with that was handed these records: no operator, full limits, and a window that is used up
abbrev pub planning_told : ℕ → List Cell → Planning
planning_told moment cells = record { operators = record { last = finmap.empty; busy = [] }; limits = limits_of moment (stores_told cells); window = window_in cells }

-- a store that says hello has limits
abbrev pub planned_hello : Reply → ℕ → ℕ → Planning → Planning
planned_hello replies.StorePut store now planning = record { operators = planning.operators; limits = known planning.limits store now; window = planning.window }
planned_hello _ store now planning = planning

-- the operators without those of the regions that a heartbeat displaces
abbrev pub freed : RegionBeat → List RegionBeat → Table → Table
freed beat held operators = fold canceled operators (ids_of (removed_beats beat held))

-- an accepted heartbeat: operators of regions that left are gone, and its own region's is dispatched
abbrev pub planned_beat : Reply → RegionBeat → Around → Planning → Planning
planned_beat (replies.Accepted removed answer) beat around planning = record {
  operators = dispatched (freed beat around.held planning.operators) beat around.stores around.now;
  limits = planning.limits;
  window = planning.window;
}
planned_beat _ beat around planning = planning

-- what is planned after a request, by what stood before it and what it heard
abbrev pub planned_by : Request → Reply → Heard → Part → Planning
planned_by (ask.Term term moment) reply heard part = planning_told moment (handed_out heard.answers)
planned_by (ask.Hello store moment address labels) reply heard part = planned_hello reply store (max part.clock moment) (planning_of part)
planned_by (ask.Beat store moment beat) reply heard part = planned_beat reply beat (around_at part moment) (planning_of part)
planned_by (ask.Check moment region) reply heard part = (deed_of (check_of part moment region) part moment heard.answers).planning
planned_by (ask.Patrol moment workers) reply heard part = (deed_of (patrol_of part moment) part moment heard.answers).planning
planned_by (ask.Schedule moment) reply heard part = (deed_of (schedule_of part moment heard.bench) part moment heard.answers).planning
planned_by (ask.Ctl moment words) reply heard part = (deed_of (ctl_of part moment words) part moment heard.answers).planning
planned_by _ reply heard part = planning_of part

-- a rule that was told, where the reply sets it
abbrev pub set_by : Reply → Result Rule RuleFault → List Rule → List Rule
set_by replies.RulePut (Ok rule) rules = with_rule rule rules
set_by _ told rules = rules

-- the rule of this group and id goes, where the reply removes it
abbrev pub removed_by : Reply → List ℕ → List ℕ → List Rule → List Rule
removed_by replies.RuleRemoved group id rules = without group id rules
removed_by _ group id rules = rules

-- a Term's rules are those that it was handed; an accepted Rule sets one, and an accepted Unrule removes one
abbrev pub rules_by : Request → Reply → Heard → List Rule → List Rule
rules_by (ask.Term term moment) reply heard rules = or_default (rules_told (handed_out heard.answers))
rules_by (ask.Rule moment json) reply heard rules = set_by reply (rule_told json) rules
rules_by (ask.Unrule moment group id) reply heard rules = removed_by reply group id rules
rules_by _ reply heard rules = rules

-- the rules that the Term was handed, with the later accepted changes
abbrev pub rules_of : List Entry → List Rule
rules_of [] = []
rules_of (entry ∷ entries) = rules_by entry.request entry.reply (heard_of entry) (rules_of entries)

-- a record with the beginning of the term and the store's last heartbeat
abbrev pub store_of : List Entry → StoreRec → StoreEntry
store_of entries rec = record { store = rec; began = began_of entries; beat = heartbeat entries rec.id }

-- What a term keeps that rests on all that stood before each request: its stores' records, and what is planned
pub record Kept : Type 0 where
  pub records : List StoreRec
  pub planning : Planning

-- what stands after these entries of a term part, where this is kept
abbrev pub part_with : List Entry → Kept → Part
part_with entries kept = record {
  term = term_of entries;
  began = began_of entries;
  clock = clock_of entries;
  stores = map (store_of entries) kept.records;
  standing = table_of (beats_of entries);
  rules = rules_of entries;
  known = kept_of (answers_of entries);
  operators = kept.planning.operators;
  limits = kept.planning.limits;
  window = kept.planning.window;
}

-- what is kept after an entry, by what stood before it
abbrev pub kept_by : Entry → Kept → Part → Kept
kept_by entry kept part = record {
  records = records_by entry.request entry.reply (heard_of entry) part kept.records;
  planning = planned_by entry.request entry.reply (heard_of entry) part;
}

-- what is kept after these entries: the records that the Term was handed, with the later accepted changes; the operators that were added and haven't ended,
-- the charges of their steps, and the ids that were taken
abbrev pub kept_after : List Entry → Kept
kept_after [] = record { records = []; planning = planning_told 0 [] }
kept_after (entry ∷ entries) = kept_by entry (kept_after entries) (part_with entries (kept_after entries))

-- what stands after these entries of a term part
abbrev pub part_of : List Entry → Part
part_of entries = part_with entries (kept_after entries)

-- the tables after a journal: none without a term part
abbrev pub part_after : List Entry → Option Part
part_after past = option_map part_of (since past)
