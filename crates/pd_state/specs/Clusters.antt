-- What contracts see of a cluster.
use Rattle.std.specs.Prelude.{◌≡◌, ℕ, List, [], ◌∷◌, ◌++◌, reverse, Bool, true, false, Option, option_map, max}
use Rattle.pd_types.specs.declared.oracle.Actor.{Actor}
use Rattle.pd_types.specs.declared.request.Request.{Request}
use Rattle.pd_types.specs.declared.request.Request.TheVariants as ask
use Rattle.meta_store.specs.Doors.{Spoken}
use Rattle.pd_state.specs.declared.adding.Adding.{Adding}
use Rattle.pd_state.specs.declared.adding.Adding.TheVariants as adding
use Rattle.pd_state.specs.declared.entry.Entry.{Entry}
use Rattle.pd_state.specs.declared.part.Part.{Part}
use Rattle.pd_state.specs.declared.reply.Reply.{Reply}
use Rattle.pd_state.specs.declared.reply.Reply.TheVariants as replies
use Rattle.sched_api.specs.Benches.{Seats}
use Rattle.pd_state.specs.BenchHeard.{OverBench}
use Rattle.pd_state.specs.Ctl.{reads_only}
use Rattle.pd_state.specs.State.{moment_of, part_after}
use Rattle.pd_state.specs.Heard.{known_after, told_all}
use Rattle.pd_state.specs.Gates.{IsGated}
use Rattle.pd_state.specs.Legal.{IsLegalAfter}

-- a cluster: its driver, its journal, whether want of memory ended it, and its tables
pub record ClusterValue : Type 0 where
  pub driver : ℕ
  pub entries : List Entry
  pub dead : Bool
  pub part : Option Part

-- the value with these parts
abbrev pub cluster_value : ℕ → List Entry → Bool → Option Part → ClusterValue
cluster_value driver entries dead part = record { driver = driver; entries = entries; dead = dead; part = part }

-- unless want of memory ended it, the tables are what the journal replays to
abbrev pub Replays : ClusterValue → Type 0
Replays cluster = cluster.dead ≡ false → cluster.part ≡ part_after (reverse cluster.entries)

-- want of memory ended it, and no entry was appended; nothing is said of the tables
pub record Died (old new : ClusterValue) : Type 0 where
  pub driver_is : new.driver ≡ old.driver
  pub entries_is : new.entries ≡ old.entries
  pub dead_is : new.dead ≡ true

-- an operator couldn't be built or failed its tests; where it had no id, those that were passed over count as taken
abbrev pub refuses_adding : Adding → Bool
refuses_adding (adding.Added answer) = false
refuses_adding (adding.Build fault) = true
refuses_adding (adding.Add fault) = true
refuses_adding (adding.OldTerm fence) = false
refuses_adding (adding.Conflict found) = false
refuses_adding adding.MetaLimit = false
refuses_adding adding.IdsSpent = false

-- the reply is a refusal, or a scheduler's that proposes nothing
abbrev pub refuses : Reply → Bool
refuses (replies.Term term stores rules) = false
refuses replies.Retired = false
refuses replies.StorePut = false
refuses replies.Alive = false
refuses (replies.Accepted removed answer) = false
refuses replies.RulePut = false
refuses replies.RuleRemoved = false
refuses replies.NoFault = false
refuses (replies.Plan class from to came) = refuses_adding came
refuses (replies.Patrolled regions ok split plan no_plan added buried) = false
refuses (replies.Proposed name proposal came) = refuses_adding came
refuses (replies.Report json) = false
refuses _ = true

-- a request with this reply is refused, or asks for nothing but a report; a Term isn't among these, since a refused one ends the term before it
abbrev pub refused_by : Request → Reply → Bool
refused_by (ask.Term term moment) reply = false
refused_by (ask.Ctl moment words) reply = reads_only words
refused_by _ reply = refuses reply

-- the entry is a request that was refused, and no Term
abbrev pub is_refused : Entry → Bool
is_refused entry = refused_by entry.request entry.reply

-- the tables with the clock raised to the entry's moment and its answers heard, and nothing else changed
abbrev pub raised : Entry → Part → Part
raised entry part = record part { clock = max part.clock (moment_of entry.request); known = known_after entry.answers part.known }

-- the same, where there is a term
abbrev pub with_clock : Entry → Option Part → Option Part
with_clock entry part = option_map (raised entry) part

-- One entry was appended, of this actor, line and request, with this reply, and the entries before it allow it; the door said just
-- its answers, and told their calls; the bench said just what the entry heard of it; a refused request leaves all but the clock and
-- what its answers tell of revisions
pub record Served (old new : ClusterValue) (door : Spoken) (bench_old bench_new : Seats) (actor : Actor) (line : ℕ) (request : Request) (reply : Reply) : Type 0 where
  pub entry : Entry
  pub alive : old.dead ≡ false
  pub driver_is : new.driver ≡ old.driver
  pub appended : new.entries ≡ old.entries ++ entry ∷ []
  pub actor_is : entry.actor ≡ actor
  pub line_is : entry.line ≡ line
  pub request_is : entry.request ≡ request
  pub reply_is : entry.reply ≡ reply
  pub said : door.said_new ≡ door.said_old ++ entry.answers
  pub told : door.told_new ≡ told_all door.told_old old.driver entry.answers
  pub bench : OverBench (part_after (reverse old.entries)) entry bench_old bench_new
  pub lives : new.dead ≡ false
  pub replays : new.part ≡ part_after (reverse new.entries)
  pub legal : IsLegalAfter old.driver (reverse old.entries) entry
  pub gated : IsGated (reverse old.entries) entry
  pub leaves : is_refused entry ≡ true → new.part ≡ with_clock entry old.part
