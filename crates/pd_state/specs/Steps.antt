-- What a request changes in the tables. Private to the crate: no public clause names it.
use Rattle.std.specs.Prelude.{ℕ, nat_le, if◌then◌else◌, length, List, [], map, max, Option, Some, None, option_map}
use Rattle.pd_types.specs.declared.region.RegionBeat.{RegionBeat}
use Rattle.pd_types.specs.declared.request.Request.{Request}
use Rattle.pd_types.specs.declared.request.Request.TheVariants as ask
use Rattle.pd_types.specs.declared.rule.Rule.{Rule}
use Rattle.pd_types.specs.declared.store.StoreRec.{StoreRec}
use Rattle.meta_store.specs.declared.record.MetaAnswer.{MetaAnswer}
use Rattle.region_tree.specs.Stale.{put_beat}
use Rattle.store_table.specs.declared.entry.StoreEntry.{StoreEntry}
use Rattle.store_table.specs.declared.table.TheConstants.{MOST_STORES}
use Rattle.store_table.specs.Calls.{answered, heard, loaded}
use Rattle.store_table.specs.Entries.{entry_at, placed, changed}
use Rattle.pd_state.specs.HandedOut.{or_default, rules_told, stores_told}
use Rattle.pd_state.specs.Heard.{handed_out, known_after}
use Rattle.pd_state.specs.declared.heard.Heard.{Heard}
use Rattle.pd_state.specs.declared.part.Part.{Part}
use Rattle.pd_state.specs.declared.reply.Reply.{Reply}
use Rattle.pd_state.specs.declared.reply.Reply.TheVariants as replies
use Rattle.pd_state.specs.Checking.{deed_of, patrol_of}
use Rattle.pd_state.specs.Ctl.{ctl_of, resigns}
use Rattle.pd_state.specs.State.{moment_of, greeting, kept_state, planned_by, planning_told, removed_by, set_by}
use Rattle.pd_state.specs.StoredRules.{rule_told}

-- a store that says hello: a new one's term began with that of its cluster
abbrev pub greeted : Option StoreEntry → StoreRec → ℕ → ℕ → StoreEntry
greeted None rec began moment = record { store = rec; began = began; beat = Some moment }
greeted (Some known) rec began moment = answered rec moment (Some known)

-- the entries with this one, where the reply puts it
abbrev pub put_after : Reply → StoreEntry → List StoreEntry → List StoreEntry
put_after replies.StorePut entry entries = placed entry entries
put_after _ entry entries = entries

-- the entries after a hello with this reply, whose record this is
abbrev pub hello_after : Reply → StoreRec → ℕ → ℕ → List StoreEntry → List StoreEntry
hello_after reply rec began moment entries = put_after reply (greeted (entry_at rec.id entries) rec began moment) entries

-- the entries after an alive with this reply
abbrev pub heard_after : Reply → ℕ → ℕ → List StoreEntry → List StoreEntry
heard_after replies.Alive store moment entries = changed store (heard moment) entries
heard_after _ store moment entries = entries

-- the entries after a request with this reply
abbrev pub stores_after : Request → Reply → Heard → Part → ℕ → List StoreEntry → List StoreEntry
stores_after (ask.Hello store moment address labels) reply heard part began entries =
    hello_after reply (kept_state (option_map (λ entry. entry.store) (entry_at store entries)) (greeting store address labels)) began moment entries
stores_after (ask.Alive store moment) reply heard part began entries = heard_after reply store moment entries
stores_after (ask.Patrol moment workers) reply heard part began entries = (deed_of (patrol_of part moment) part moment heard.answers).stores
stores_after (ask.Ctl moment words) reply heard part began entries = (deed_of (ctl_of part moment words) part moment heard.answers).stores
stores_after _ reply heard part began entries = entries

-- the regions after a heartbeat with this reply
abbrev pub beat_after : Reply → RegionBeat → List RegionBeat → List RegionBeat
beat_after (replies.Accepted removed answer) beat held = put_beat beat held
beat_after _ beat held = held

-- the regions after a request with this reply
abbrev pub standing_after : Request → Reply → List RegionBeat → List RegionBeat
standing_after (ask.Beat store moment beat) reply held = beat_after reply beat held
standing_after _ reply held = held

-- the rules after a request with this reply
abbrev pub rules_after : Request → Reply → List Rule → List Rule
rules_after (ask.Rule moment json) reply rules = set_by reply (rule_told json) rules
rules_after (ask.Unrule moment group id) reply rules = removed_by reply group id rules
rules_after _ reply rules = rules

-- the tables of a term after a request with this reply, that heard this
abbrev pub changed_part : Part → Request → Reply → Heard → Part
changed_part part request reply heard = record {
  term = part.term;
  began = part.began;
  clock = max part.clock (moment_of request);
  stores = stores_after request reply heard part part.began part.stores;
  standing = standing_after request reply part.standing;
  rules = rules_after request reply part.rules;
  known = known_after heard.answers part.known;
  operators = (planned_by request reply heard part).operators;
  limits = (planned_by request reply heard part).limits;
  window = (planned_by request reply heard part).window;
}

-- the tables with what a command of pd-ctl may change as the others have it
abbrev pub rewritten : Part → Part → Part
rewritten part new = record part { stores = new.stores; operators = new.operators; limits = new.limits; window = new.window; known = new.known }

-- the entry of a store that a term was handed
abbrev pub loaded_at : ℕ → StoreRec → StoreEntry
loaded_at moment rec = loaded rec moment

-- the entries with one that was told, while fewer than 256 are there
abbrev pub entry_more : ℕ → Option StoreRec → List StoreEntry → List StoreEntry
entry_more moment None entries = entries
entry_more moment (Some rec) entries = if nat_le MOST_STORES (length entries) then entries else placed (loaded_at moment rec) entries

-- the rules of a set that may not have begun
abbrev pub set_list : Option (List Rule) → List Rule
set_list None = []
set_list (Some rules) = rules

-- the tables at the beginning of a term
abbrev pub new_part : ℕ → ℕ → List MetaAnswer → Part
new_part term moment answers = record {
  term = term;
  began = moment;
  clock = moment;
  stores = map (loaded_at moment) (stores_told (handed_out answers));
  standing = [];
  rules = or_default (rules_told (handed_out answers));
  known = known_after answers [];
  operators = (planning_told moment (handed_out answers)).operators;
  limits = (planning_told moment (handed_out answers)).limits;
  window = (planning_told moment (handed_out answers)).window;
}

-- the tables after a Term with this reply
abbrev pub begun_part : Reply → ℕ → ℕ → List MetaAnswer → Option Part
begun_part (replies.Term number stores rules) term moment answers = Some (new_part term moment answers)
begun_part _ term moment answers = None

-- the tables after a request with this reply, that heard this
abbrev pub stepped : Option Part → Request → Reply → Heard → Option Part
stepped part (ask.Term term moment) reply heard = begun_part reply term moment heard.answers
stepped part ask.Retire reply heard = None
stepped None request reply heard = None
stepped (Some part) (ask.Ctl moment words) reply heard = if resigns words then None else Some (changed_part part (ask.Ctl moment words) reply heard)
stepped (Some part) request reply heard = Some (changed_part part request reply heard)
