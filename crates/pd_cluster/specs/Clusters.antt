-- What the replay in memory means.
use Rattle.std.specs.Prelude.{◌≡◌, ◌<◌, ◌+◌, ℕ, List, get_or, length, map, reverse, slice_set, Some, false, All}
use Rattle.pd_types.specs.declared.request.Request.{Request}
use Rattle.meta_store.specs.Doors.{said_of, Spoken}
use Rattle.pd_script.specs.Scripts.{asker}
use Rattle.pd_state.specs.Clusters.{ClusterValue, Served}
use Rattle.pd_state.specs.declared.reply.Reply.{Reply}
use Rattle.pd_state.specs.declared.entry.Entry.{Entry}
use Rattle.pd_cluster.specs.declared.replay.Replay.{Replay}
use Rattle.meta_store.specs.declared.record.MetaEntry.{MetaEntry}
use Rattle.pd_cluster.specs.Replay.{Kept, State}
use Rattle.pd_cluster.specs.Talks.{GoOn, talks_of}
use Rattle.sched_api.specs.Benches.{Seats}

-- what a cluster was asked and replied, the latest first
abbrev pub past_of : ClusterValue → List Entry
past_of cluster = reverse cluster.entries

-- the journals of the clusters
abbrev pub journals_of : List ClusterValue → List (List Entry)
journals_of clusters = map past_of clusters

-- what the clusters keep, the metadata, and what the benches go on to say until they said in the end what the last of these tell
abbrev pub kept_of : List ClusterValue → List MetaEntry → List Seats → List Seats → Kept
kept_of clusters journal benches ends = record { journals = journals_of clusters; metadata = reverse journal; talks = talks_of (length clusters) benches ends }

-- the state, with benches that go on to these
abbrev pub state_of : Replay → List Seats → List Seats → State
state_of replay benches ends = record {
  oracle = replay.core;
  leads = replay.leads.items;
  kept = kept_of replay.clusters.items replay.meta benches ends;
  streams = replay.streams.items;
}

-- a claim about how benches go on, wherever that ends
abbrev pub HoweverTheyEnd : List Seats → (List Seats → Type 0) → Type 0
HoweverTheyEnd benches Says = (ends : List Seats) → GoOn benches ends → Says ends

-- want of memory ended none of the clusters
abbrev pub AreAlive : List ClusterValue → Type 0
AreAlive clusters = All (λ cluster. cluster.dead ≡ false) clusters

-- each cluster is that of the driver whose number its place has
abbrev pub AreNumbered : List ClusterValue → Type 0
AreNumbered clusters = (d : ℕ) (any : ClusterValue) → d < length clusters → (get_or clusters d any).driver ≡ d

-- what the metadata said and told of a request, before and after
abbrev pub spoken : List MetaEntry → List MetaEntry → Spoken
spoken journal now = record { said_old = said_of (reverse journal); said_new = said_of (reverse now); told_old = Some journal; told_new = Some now }

-- the driver's cluster served a request over the metadata and over a bench, and the other clusters stay
pub record IsServedBy (items after : List ClusterValue) (journal now : List MetaEntry) (bench_old bench_new : Seats) (driver line : ℕ) (request : Request) (reply : Reply) : Type 0 where
  pub old : ClusterValue
  pub new : ClusterValue
  pub stood : old ≡ get_or items driver old
  pub put : after ≡ slice_set items driver new
  pub served : Served old new (spoken journal now) bench_old bench_new (asker driver request) line request reply

-- there is a place for each driver and one before them, and each cluster lives and is its driver's
pub record IsReady (replay : Replay) : Type 0 where
  pub leads : length replay.leads.items ≡ replay.core.setup.drivers + 1
  pub clusters : length replay.clusters.items ≡ replay.core.setup.drivers + 1
  pub streams : length replay.streams.items ≡ replay.core.setup.drivers + 1
  pub alive : AreAlive replay.clusters.items
  pub numbered : AreNumbered replay.clusters.items
