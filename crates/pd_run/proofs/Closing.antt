-- One driver's cluster is closed: what is taken of the stores for it, and what is known of it then.
use Rattle.std.proofs.Common.{◌≡◌, ℕ, suc, ◌<◌, cond, List, [], ◌∷◌, length, map, refl, sym, ap, ◌∙◌, arith, subst, eq-eqb, ne_eqb}
use Rattle.std.specs.Prelude.{All, Contains, zip}
use mathlib.Core.Option.{some}
use Rattle.std.specs.List.{AllZip}
use Rattle.std.proofs.lemmas.List.Elements.{All-cons, All-contains, All-contains_itself, All-head, All-nil, All-tail, All-weaker}
use Rattle.pd_turn.specs.Turns.{Among, AreApart, TurnValue}
use Rattle.pd_types.specs.declared.oracle.Actor.{Actor}
use Rattle.pd_types.specs.declared.oracle.Actor.TheVariants.{Driver, Store}
use Rattle.pd_run.proofs.Lists.{head_or}
use Rattle.step_stream.specs.Streams.{TakerValue}
use Rattle.meta_store.specs.Seats.{SeatValue}
use Rattle.pd_state.specs.Clusters.{ClusterValue}
use Rattle.pd_state.specs.declared.entry.Entry.{Entry}
use Rattle.pd_shared.specs.Names.{StreamName, stream_name}
use Rattle.pd_shared.specs.Outlets.{ArePushed, IsServed, OutletValue, sends_to}
use Rattle.pd_shared.specs.Shares.{AreSharesOf, IsInJournal, ShareValue, SharedValue, actor_of, actors_of, entries_of}
use Rattle.pd_run.specs.Ends.{EndsOf, HasPortTo, IsClosed, IsClosing, IsDriverOfCluster, IsDriversOwn, IsSettled, LostPort, LostPorts}
use Rattle.pd_run.specs.Runs.{ArePopped}
use Rattle.pd_run.specs.Works.{IsPort, made_at, popped_at}
use Rattle.pd_run.specs.declared.driving.DriverWork.{DriverWork}
use Rattle.pd_run.specs.declared.storing.Port.{Port}
use Rattle.pd_run.specs.declared.storing.StoreWork.{StoreWork}

-- the numbers of stores, none of which is 0
pub store_actors : (driver : ℕ) (ids : List ℕ) → (Among 0 ids → ⊥) → map (actor_of driver) ids ≡ map Store ids
store_actors driver [] none = refl
store_actors driver (n ∷ ids) none =
    let one : actor_of driver n ≡ Store n = ap (λ b. cond b (Driver driver) (Store n)) (ne_eqb n 0 (λ zero. none (0, ap some zero))) in
    let rest = store_actors driver ids (λ among. none (suc among.0, among.1)) in
    λ i. one i ∷ rest i

pub driver_actor : (driver : ℕ) → actor_of driver 0 ≡ Driver driver
driver_actor driver = ap (λ b. cond b (Driver driver) (Store 0)) (eq-eqb 0 0 refl)

-- the stream whose end popped has one of these names
abbrev NamedEnd : List StreamName → SharedValue → ℕ × TakerValue → Type 0
NamedEnd names cluster end = Contains names (stream_name cluster.driver end.0 end.1.stream)

module _ {N : Type 0} (names : List StreamName) (cluster : SharedValue) where
  -- the first port of a store
  record IsFirst (w : StoreWork N) (p : Port N) : Type 0 where
    others : List (Port N)
    ports : w.ports.items ≡ p ∷ others
    is : IsPort w.store cluster p
    named : Contains names (stream_name cluster.driver w.store p.taker.stream)

  first_port : (p : Port N) (old new : StoreWork N) → HasPortTo names cluster old → LostPort p old new → IsFirst old p
  first_port p old new has lost =
      let same : has.port ≡ p = ap (head_or p) (sym has.ports ∙ lost.ports) in record {
        others = new.ports.items;
        ports = lost.ports;
        is = subst (IsPort old.store cluster) same has.is;
        named = subst (λ (q : Port N). Contains names (stream_name cluster.driver old.store q.taker.stream)) same has.named;
      }

  first_ports : (ports : List (Port N)) (olds news : List (StoreWork N)) → LostPorts ports olds news → All (HasPortTo names cluster) olds → AllZip IsFirst olds ports
  first_ports [] [] [] lost has = tt
  first_ports [] [] (n ∷ news) lost has = absurd lost
  first_ports [] (o ∷ olds) news lost has = absurd lost
  first_ports (p ∷ ports) [] news lost has = absurd lost
  first_ports (p ∷ ports) (o ∷ olds) [] lost has = absurd lost
  first_ports (p ∷ ports) (o ∷ olds) (n ∷ news) lost has = (first_port p o n (All-head (HasPortTo names cluster) o olds has) lost.0, first_ports ports olds news lost.1 (All-tail (HasPortTo names cluster) o olds has))

  their_clusters : (olds : List (StoreWork N)) (ports : List (Port N)) → AllZip IsFirst olds ports → All (λ (s : ShareValue). s.cluster ≡ cluster) (map (λ (p : Port N). p.share) ports)
  their_clusters [] [] first = All-nil (λ (s : ShareValue). s.cluster ≡ cluster)
  their_clusters [] (p ∷ ports) first = absurd first
  their_clusters (o ∷ olds) [] first = absurd first
  their_clusters (o ∷ olds) (p ∷ ports) first = All-cons (λ (s : ShareValue). s.cluster ≡ cluster) p.share (map (λ (q : Port N). q.share) ports) first.0.is.cluster_is (their_clusters olds ports first.1)

  their_actors : (olds : List (StoreWork N)) (ports : List (Port N)) → AllZip IsFirst olds ports → map (λ (s : ShareValue). s.actor) (map (λ (p : Port N). p.share) ports) ≡ map Store (map (λ (w : StoreWork N). w.store) olds)
  their_actors [] [] first = refl
  their_actors [] (p ∷ ports) first = absurd first
  their_actors (o ∷ olds) [] first = absurd first
  their_actors (o ∷ olds) (p ∷ ports) first = let one = first.0.is.actor_is in let rest = their_actors olds ports first.1 in λ i. one i ∷ rest i

  their_names : (olds : List (StoreWork N)) (ports : List (Port N)) → AllZip IsFirst olds ports → All (NamedEnd names cluster) (zip (map (λ (w : StoreWork N). w.store) olds) (map (λ (p : Port N). p.taker) ports))
  their_names [] [] first = All-nil (NamedEnd names cluster)
  their_names [] (p ∷ ports) first = absurd first
  their_names (o ∷ olds) [] first = absurd first
  their_names (o ∷ olds) (p ∷ ports) first = All-cons (NamedEnd names cluster) (o.store, p.taker) (zip (map (λ (w : StoreWork N). w.store) olds) (map (λ (q : Port N). q.taker) ports)) first.0.named (their_names olds ports first.1)

  -- what each store made is its entries in the journal
  they_made : (entries : List Entry) (olds : List (StoreWork N)) (ports : List (Port N)) → AllZip IsFirst olds ports → All (IsInJournal entries) (map (λ (p : Port N). p.share) ports)
      → All (λ (w : StoreWork N). made_at w.ports.items 1 ≡ entries_of (Store w.store) entries) olds
  they_made entries [] [] first lists = All-nil (λ (w : StoreWork N). made_at w.ports.items 1 ≡ entries_of (Store w.store) entries)
  they_made entries [] (p ∷ ports) first lists = absurd first
  they_made entries (o ∷ olds) [] first lists = absurd first
  they_made entries (o ∷ olds) (p ∷ ports) first lists =
      let own : p.share.list ≡ entries_of p.share.actor entries = All-head (IsInJournal entries) p.share (map (λ (q : Port N). q.share) ports) lists in
      All-cons (λ (w : StoreWork N). made_at w.ports.items 1 ≡ entries_of (Store w.store) entries) o olds
      (ap (λ (ps : List (Port N)). made_at ps 1) first.0.ports ∙ own ∙ ap (λ a. entries_of a entries) first.0.is.actor_is)
      (they_made entries olds ports first.1 (All-tail (IsInJournal entries) p.share (map (λ (q : Port N). q.share) ports) lists))

  -- what each store popped was pushed before
  popped_one : (entries : List Entry) (outlets : List OutletValue) (w : StoreWork N) (p : Port N) → All (IsServed entries) outlets → IsFirst w p → IsSettled outlets (w.store, p.taker) → ArePopped entries w.store (popped_at w.ports.items 1)
  popped_one entries outlets w p served first settled =
      let there = All-contains (IsServed entries) outlets settled.0 served settled.1 in
      subst (ArePopped entries w.store) (sym (ap (λ (ps : List (Port N)). popped_at ps 1) first.ports)) (settled.0.pushed, subst (λ s. ArePushed 0 (sends_to s entries) settled.0.pushed) settled.2 there, settled.3)

  they_popped : (entries : List Entry) (outlets : List OutletValue) (olds : List (StoreWork N)) (ports : List (Port N)) → All (IsServed entries) outlets → AllZip IsFirst olds ports
      → All (IsSettled outlets) (zip (map (λ (w : StoreWork N). w.store) olds) (map (λ (p : Port N). p.taker) ports)) → All (λ (w : StoreWork N). ArePopped entries w.store (popped_at w.ports.items 1)) olds
  they_popped entries outlets [] [] served first settled = All-nil (λ (w : StoreWork N). ArePopped entries w.store (popped_at w.ports.items 1))
  they_popped entries outlets [] (p ∷ ports) served first settled = absurd first
  they_popped entries outlets (o ∷ olds) [] served first settled = absurd first
  they_popped entries outlets (o ∷ olds) (p ∷ ports) served first settled =
      let rest = zip (map (λ (w : StoreWork N). w.store) olds) (map (λ (q : Port N). q.taker) ports) in
      All-cons (λ (w : StoreWork N). ArePopped entries w.store (popped_at w.ports.items 1)) o olds (popped_one entries outlets o p served first.0 (All-head (IsSettled outlets) (o.store, p.taker) rest settled))
      (they_popped entries outlets olds ports served first.1 (All-tail (IsSettled outlets) (o.store, p.taker) rest settled))

  pub has_ports : (ws : List (StoreWork N)) → All (HasPortTo names cluster) ws → All (λ (w : StoreWork N). 0 < length w.ports.items) ws
  has_ports ws has = All-weaker (HasPortTo names cluster) (λ (w : StoreWork N). 0 < length w.ports.items) (λ w h. let long = ap length h.ports in omega (arith, long)) ws has

  module _ {B : Type 0} (work : DriverWork N B) (olds news : List (StoreWork N)) (shares : List ShareValue) (takers : List (ℕ × TakerValue)) (ends : EndsOf work.means.share olds news shares takers) (has : All (HasPortTo names cluster) olds) where
    abbrev ids : List ℕ
    ids = map (λ (w : StoreWork N). w.store) olds

    firsts : AllZip IsFirst olds ends.ports
    firsts = first_ports ends.ports olds news ends.lost has

    pub named_ends : All (NamedEnd names cluster) takers
    named_ends = subst (All (NamedEnd names cluster)) (sym ends.takers_are) (their_names olds ends.ports firsts)

    module _ (of : IsDriverOfCluster ids cluster.driver work cluster) (apart : AreApart (0 ∷ ids)) where
      actors : map (λ (s : ShareValue). s.actor) shares ≡ actors_of cluster
      actors =
          ap (map (λ (s : ShareValue). s.actor)) ends.shares_are
          ∙ (λ i. (of.actor ∙ sym (driver_actor cluster.driver)) i ∷ (their_actors olds ends.ports firsts ∙ sym (store_actors cluster.driver ids apart.0)) i)
          ∙ ap (map (actor_of cluster.driver)) (sym of.numbers)

      pub are_shares : AreSharesOf cluster shares
      are_shares = record {
        of = subst (All (λ (s : ShareValue). s.cluster ≡ cluster)) (sym ends.shares_are)
            (All-cons (λ (s : ShareValue). s.cluster ≡ cluster) work.means.share (map (λ (p : Port N). p.share) ends.ports) of.cluster_is (their_clusters olds ends.ports firsts));
        each = subst (λ l. All (Contains l) (actors_of cluster)) (sym actors) (All-contains_itself (actors_of cluster));
      }

      module _ (meta : TurnValue) (closed : ClusterValue) (seat : SeatValue) (h : IsClosing meta names cluster shares takers closed seat) where
        pub is_closed : IsClosed meta olds 1 closed seat
        is_closed = record {
          turn = h.kept.turn_is;
          driver = h.kept.driver_is;
          legal = h.kept.legal;
          answers = h.kept.answers h.alive;
          callers = subst (λ (actors : List Actor). All (λ (e : Entry). Contains actors e.actor) closed.entries) (ap (map (actor_of cluster.driver)) of.numbers ∙ ap (λ d. map (actor_of d) (0 ∷ ids)) (sym h.driver)) h.callers;
          made = they_made closed.entries olds ends.ports firsts (All-tail (IsInJournal closed.entries) work.means.share (map (λ (p : Port N). p.share) ends.ports) (subst (All (IsInJournal closed.entries)) ends.shares_are h.lists));
          popped = they_popped closed.entries h.outlets olds ends.ports h.kept.served firsts (subst (All (IsSettled h.outlets)) ends.takers_are h.settled);
        }

        pub drivers_own : IsDriversOwn work closed
        drivers_own =
            let own : work.means.share.list ≡ entries_of work.means.share.actor closed.entries = All-head (IsInJournal closed.entries) work.means.share (map (λ (p : Port N). p.share) ends.ports) (subst (All (IsInJournal closed.entries)) ends.shares_are h.lists) in record {
              driver = h.driver ∙ sym of.number_is;
              own = own ∙ ap (λ a. entries_of a closed.entries) (of.actor ∙ ap Driver (sym of.number_is));
            }
