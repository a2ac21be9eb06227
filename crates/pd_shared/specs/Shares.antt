-- What contracts see of a shared cluster and of its shares.
use Rattle.std.specs.Prelude.{◌≡◌, ◌++◌, ◌∷◌, [], ◌==◌, ℕ, Bool, false, List, All, Contains, filter, map, None, if◌then◌else◌}
use Rattle.pd_turn.specs.Turns.{TicketValue, TurnValue, ticket_value}
use Rattle.pd_types.specs.declared.oracle.Actor.{Actor}
use Rattle.pd_types.specs.declared.oracle.Actor.TheVariants.{Driver, Client, Store}
use Rattle.pd_types.specs.declared.request.Request.{Request}
use Rattle.pd_state.specs.declared.entry.Entry.{Entry}
use Rattle.pd_state.specs.declared.reply.Reply.{Reply}
use Rattle.sched_api.specs.Benches.{Seats}
use Rattle.pd_shared.specs.Benches.{IsOver}
use Rattle.pd_shared.specs.Kept.{IsEntryOf, number_of}

-- a shared cluster: the turn by which it is reached, and its driver
pub record SharedValue : Type 0 where
  pub turn : TurnValue
  pub driver : ℕ

-- the shared cluster with these parts
abbrev pub shared_of : TurnValue → ℕ → SharedValue
shared_of turn driver = record { turn = turn; driver = driver }

-- whose share a number is, of a driver's cluster: the driver's is 0, a store's is its id
abbrev pub actor_of : ℕ → ℕ → Actor
actor_of driver number = if number == 0 then Driver driver else Store number

-- all actors that have a share
abbrev pub actors_of : SharedValue → List Actor
actors_of cluster = map (actor_of cluster.driver) cluster.turn.numbers

-- a share: of which cluster, its actor, and the entries of its own calls, in their order
pub record ShareValue : Type 0 where
  pub cluster : SharedValue
  pub actor : Actor
  pub list : List Entry

-- the share with these parts
abbrev pub share_of : SharedValue → Actor → List Entry → ShareValue
share_of cluster actor list = record { cluster = cluster; actor = actor; list = list }

-- the share of an actor that made no call yet
abbrev pub new_share : SharedValue → Actor → ShareValue
new_share cluster actor = share_of cluster actor []

-- the share whose list gained this entry
abbrev pub gains : Entry → ShareValue → ShareValue
gains entry share = share_of share.cluster share.actor (share.list ++ entry ∷ [])

-- a call by the share: its list gained just one entry, of its actor and of this line and request, with this reply, which was made over
-- the bench that was lent for the call
pub record Called (old new : ShareValue) (bench_old bench_new : Seats) (line : ℕ) (request : Request) (reply : Reply) : Type 0 where
  pub entry : Entry
  pub entry_is : IsEntryOf entry old.actor line request reply
  pub gained : new ≡ gains entry old
  pub over : IsOver entry bench_old bench_new

-- shares of this cluster, and one of each actor
pub record AreSharesOf (cluster : SharedValue) (shares : List ShareValue) : Type 0 where
  pub of : All (λ (share : ShareValue). share.cluster ≡ cluster) shares
  pub each : All (λ (actor : Actor). Contains (map (λ (share : ShareValue). share.actor) shares) actor) (actors_of cluster)

-- two actors are the same
abbrev pub same_actor : Actor → Actor → Bool
same_actor (Driver one) (Driver other) = one == other
same_actor (Driver one) (Client other) = false
same_actor (Driver one) (Store other) = false
same_actor (Client one) (Driver other) = false
same_actor (Client one) (Client other) = one == other
same_actor (Client one) (Store other) = false
same_actor (Store one) (Driver other) = false
same_actor (Store one) (Client other) = false
same_actor (Store one) (Store other) = one == other

-- the entries of an actor, in their order
abbrev pub entries_of : Actor → List Entry → List Entry
entries_of actor entries = filter (λ (entry : Entry). same_actor entry.actor actor) entries

-- the share's list is its actor's entries in the journal
abbrev pub IsInJournal : List Entry → ShareValue → Type 0
IsInJournal journal share = share.list ≡ entries_of share.actor journal

-- the share of a ticket of the turn of a driver's cluster
abbrev pub share_by : ℕ → TicketValue Entry → ShareValue
share_by driver ticket = share_of (shared_of ticket.turn driver) (actor_of driver ticket.number) ticket.list

-- the ticket of a share
abbrev pub ticket_by : ShareValue → TicketValue Entry
ticket_by share = ticket_value share.cluster.turn (number_of share.actor) share.list None

-- each entry of the share's list is its actor's, who is the driver or a store
pub record IsOwn (share : ShareValue) : Type 0 where
  pub entries : All (λ (entry : Entry). entry.actor ≡ share.actor) share.list
  pub actor_is : share.actor ≡ actor_of share.cluster.driver (number_of share.actor)

-- a ticket with nothing taken, each of whose entries is of the number's actor
pub record IsOpen (driver : ℕ) (ticket : TicketValue Entry) : Type 0 where
  pub none : ticket.taken ≡ None
  pub entries : All (λ (entry : Entry). entry.actor ≡ actor_of driver ticket.number) ticket.list
