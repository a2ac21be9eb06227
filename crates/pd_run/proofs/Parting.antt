-- The clusters of all drivers are closed, one after the other.
use Rattle.std.proofs.Common.{◌≡◌, ℕ, suc, ◌+◌, List, [], ◌∷◌, ◌++◌, false, length, map, refl, sym, ap, ◌∙◌, arith, subst, append_assoc}
use Rattle.std.specs.Prelude.{All, Contains, flat_map}
use Rattle.std.specs.List.{AllZip}
use Rattle.std.proofs.lemmas.Grind.{flat_map-append}
use Rattle.std.proofs.lemmas.List.{append-nil, length-append, map-append}
use Rattle.std.proofs.lemmas.List.Elements.{All-cons, All-head, All-nil, All-push, All-tail, All-weaker}
use Rattle.pd_turn.specs.Turns.{TurnValue}
use Rattle.pd_types.specs.declared.oracle.Actor.TheVariants.{Store}
use Rattle.tso_driver.specs.Drivers.{seat_of}
use Rattle.meta_store.specs.Seats.{SeatValue}
use Rattle.pd_state.specs.Clusters.{ClusterValue}
use Rattle.pd_state.specs.declared.entry.Entry.{Entry}
use Rattle.pd_shared.specs.Names.{StreamName, stream_name}
use Rattle.pd_shared.specs.Shares.{SharedValue, actor_of, entries_of}
use Rattle.pd_run.specs.Crews.{AreNamed}
use Rattle.pd_run.specs.Ends.{AreClosed, AreDriversOf, ClosesOne, HasPorts, HasPortTo, IsClosed, IsDriverOfCluster, IsDriversOwn, LostPort, LostPorts, driver_part_of, lent, part_of}
use Rattle.pd_run.specs.Runs.{ArePopped, driver_part}
use Rattle.pd_run.specs.Works.{ArePorts, listed_at, made_at, popped_at, streams_at}
use Rattle.pd_run.specs.declared.driving.DriverWork.{DriverWork}
use Rattle.pd_run.specs.declared.end.DriverParts.{DriverParts}
use Rattle.pd_run.specs.declared.storing.Port.{Port}
use Rattle.pd_run.specs.declared.storing.StoreWork.{StoreWork}
use Rattle.pd_run.proofs.Leading.{zip_length}
use Rattle.pd_run.proofs.Lists.{zip_push}

-- the ports behind those that are gone keep their order
listed_behind : {N X : Type 0} (list : Port N → List X) (gone : List (Port N)) (p : Port N) (rest : List (Port N)) → listed_at list (gone ++ p ∷ rest) (length gone + 1) ≡ list p
listed_behind list [] p rest = refl
listed_behind list (q ∷ gone) p rest = step (length gone) ∙ listed_behind list gone p rest
  where
    step : (n : ℕ) → listed_at list (q ∷ (gone ++ p ∷ rest)) (suc n + 1) ≡ listed_at list (gone ++ p ∷ rest) (n + 1)
    step n = ap (listed_at list (q ∷ (gone ++ p ∷ rest))) (let e : suc n + 1 ≡ suc (suc n) = omega arith in e) ∙ ap (listed_at list (gone ++ p ∷ rest)) (let e : suc n ≡ n + 1 = omega arith in e)

module _ {N : Type 0} where
  -- a store as it was, and as it is behind so many closed clusters
  pub record After (gone : ℕ) (then now : StoreWork N) : Type 0 where
    pub lost : List (Port N)
    pub count : length lost ≡ gone
    pub ports : then.ports.items ≡ lost ++ now.ports.items
    pub store : now.store ≡ then.store
    pub answers : now.answers ≡ then.answers
    pub failed : now.failed ≡ then.failed

  after_none : (ws : List (StoreWork N)) → AllZip (After 0) ws ws
  after_none [] = tt
  after_none (w ∷ ws) = (record { lost = []; count = refl; ports = refl; store = refl; answers = refl; failed = refl }, after_none ws)

  after_one : (gone : ℕ) (p : Port N) (then old new : StoreWork N) → After gone then old → LostPort p old new → After (gone + 1) then new
  after_one gone p then old new h one = record {
    lost = h.lost ++ p ∷ [];
    count = let e = length-append h.lost (p ∷ []) in let f = h.count in omega (arith, e, f);
    ports = h.ports ∙ ap (λ l. h.lost ++ l) one.ports ∙ sym (append_assoc h.lost (p ∷ []) new.ports.items);
    store = one.store ∙ h.store;
    answers = one.answers ∙ h.answers;
    failed = one.failed ∙ h.failed;
  }

  after_more : (gone : ℕ) (ports : List (Port N)) (thens olds news : List (StoreWork N)) → AllZip (After gone) thens olds → LostPorts ports olds news → AllZip (After (gone + 1)) thens news
  after_more gone [] [] [] [] h lost = tt
  after_more gone [] [] [] (n ∷ news) h lost = absurd lost
  after_more gone ports [] (o ∷ olds) news h lost = absurd h
  after_more gone (p ∷ ports) [] [] news h lost = absurd lost
  after_more gone ports (t ∷ thens) [] news h lost = absurd h
  after_more gone [] (t ∷ thens) (o ∷ olds) news h lost = absurd lost
  after_more gone (p ∷ ports) (t ∷ thens) (o ∷ olds) [] h lost = absurd lost
  after_more gone (p ∷ ports) (t ∷ thens) (o ∷ olds) (n ∷ news) h lost = (after_one gone p t o n h.0 lost.0, after_more gone ports thens olds news h.1 lost.1)

  same_after : {X : Type 0} (f : StoreWork N → X) (gone : ℕ) → ((t w : StoreWork N) → After gone t w → f w ≡ f t) → (thens nows : List (StoreWork N)) → AllZip (After gone) thens nows → map f nows ≡ map f thens
  same_after f gone same [] [] h = refl
  same_after f gone same [] (n ∷ nows) h = absurd h
  same_after f gone same (t ∷ thens) [] h = absurd h
  same_after f gone same (t ∷ thens) (n ∷ nows) h = let one = same t n h.0 in let rest = same_after f gone same thens nows h.1 in λ i. one i ∷ rest i

  -- a store's list at the port that comes next
  module _ {X : Type 0} (list : Port N → List X) (gone : ℕ) where
    at_next : (names : List StreamName) (cluster : SharedValue) (t w : StoreWork N) → After gone t w → HasPortTo names cluster w → listed_at list t.ports.items (gone + 1) ≡ listed_at list w.ports.items 1
    at_next names cluster t w h has =
        ap (λ ps. listed_at list ps (gone + 1)) (h.ports ∙ ap (λ ps. h.lost ++ ps) has.ports) ∙ ap (λ n. listed_at list (h.lost ++ has.port ∷ has.others) (n + 1)) (sym h.count)
        ∙ listed_behind list h.lost has.port has.others ∙ sym (ap (λ ps. listed_at list ps 1) has.ports)

  module _ (names : List StreamName) (cluster : SharedValue) (gone : ℕ) (entries : List Entry) where
    abbrev Made : ℕ → StoreWork N → Type 0
    Made place w = made_at w.ports.items place ≡ entries_of (Store w.store) entries

    abbrev Popped : ℕ → StoreWork N → Type 0
    Popped place w = ArePopped entries w.store (popped_at w.ports.items place)

    made_then : (thens nows : List (StoreWork N)) → AllZip (After gone) thens nows → All (HasPortTo names cluster) nows → All (Made 1) nows → All (Made (gone + 1)) thens
    made_then [] [] h has made = All-nil (Made (gone + 1))
    made_then [] (n ∷ nows) h has made = absurd h
    made_then (t ∷ thens) [] h has made = absurd h
    made_then (t ∷ thens) (n ∷ nows) h has made =
        let one : Made 1 n = All-head (Made 1) n nows made in
        All-cons (Made (gone + 1)) t thens (at_next (λ (p : Port N). p.share.list) gone names cluster t n h.0 (All-head (HasPortTo names cluster) n nows has) ∙ one ∙ ap (λ s. entries_of (Store s) entries) h.0.store)
        (made_then thens nows h.1 (All-tail (HasPortTo names cluster) n nows has) (All-tail (Made 1) n nows made))

    popped_then : (thens nows : List (StoreWork N)) → AllZip (After gone) thens nows → All (HasPortTo names cluster) nows → All (Popped 1) nows → All (Popped (gone + 1)) thens
    popped_then [] [] h has popped = All-nil (Popped (gone + 1))
    popped_then [] (n ∷ nows) h has popped = absurd h
    popped_then (t ∷ thens) [] h has popped = absurd h
    popped_then (t ∷ thens) (n ∷ nows) h has popped =
        let same = at_next (λ (p : Port N). p.taker.list) gone names cluster t n h.0 (All-head (HasPortTo names cluster) n nows has) in
        let one : Popped 1 n = All-head (Popped 1) n nows popped in
        All-cons (Popped (gone + 1)) t thens (subst (λ s. ArePopped entries s (popped_at t.ports.items (gone + 1))) h.0.store (subst (ArePopped entries n.store) (sym same) one))
        (popped_then thens nows h.1 (All-tail (HasPortTo names cluster) n nows has) (All-tail (Popped 1) n nows popped))

  -- the first of the ports that a store has
  next_port : (names : List StreamName) (before : ℕ) (c : SharedValue) (cs : List SharedValue) (w : StoreWork N) → c.driver ≡ before + 1 → HasPorts names before (c ∷ cs) w → HasPortTo names c w
  next_port names before c cs w is h = by w.ports.items refl h.ports h.named
    where
      by : (ports : List (Port N)) → w.ports.items ≡ ports → ArePorts w.store (c ∷ cs) ports → AreNamed names (before + 1) w.store (streams_at ports) → HasPortTo names c w
      by [] are to named = absurd to
      by (p ∷ ports) are to named = record {
        port = p;
        others = ports;
        ports = are;
        is = to.0;
        named = subst (λ d. Contains names (stream_name d w.store p.taker.stream)) (sym is) named.0;
      }

  next_ports : (names : List StreamName) (before : ℕ) (c : SharedValue) (cs : List SharedValue) (ws : List (StoreWork N)) → c.driver ≡ before + 1 → All (HasPorts names before (c ∷ cs)) ws → All (HasPortTo names c) ws
  next_ports names before c cs ws is has = All-weaker (HasPorts names before (c ∷ cs)) (HasPortTo names c) (λ w h. next_port names before c cs w is h) ws has

  -- the ports behind it
  port_behind : (names : List StreamName) (before : ℕ) (c : SharedValue) (cs : List SharedValue) (p : Port N) (old new : StoreWork N) → HasPorts names before (c ∷ cs) old → LostPort p old new → HasPorts names (before + 1) cs new
  port_behind names before c cs p old new h lost =
      let ports : ArePorts old.store (c ∷ cs) (p ∷ new.ports.items) = subst (ArePorts old.store (c ∷ cs)) lost.ports h.ports in
      let named : AreNamed names (before + 1) old.store (streams_at (p ∷ new.ports.items)) = subst (λ (ps : List (Port N)). AreNamed names (before + 1) old.store (streams_at ps)) lost.ports h.named in
      record {
        ports = subst (λ s. ArePorts s cs new.ports.items) (sym lost.store) ports.1;
        named = subst (λ s. AreNamed names (before + 1 + 1) s (streams_at new.ports.items)) (sym lost.store) named.1;
      }

  ports_behind : (names : List StreamName) (before : ℕ) (c : SharedValue) (cs : List SharedValue) (ports : List (Port N)) (olds news : List (StoreWork N)) → All (HasPorts names before (c ∷ cs)) olds → LostPorts ports olds news → All (HasPorts names (before + 1) cs) news
  ports_behind names before c cs [] [] [] has lost = All-nil (HasPorts names (before + 1) cs)
  ports_behind names before c cs [] [] (n ∷ news) has lost = absurd lost
  ports_behind names before c cs [] (o ∷ olds) news has lost = absurd lost
  ports_behind names before c cs (p ∷ ports) [] news has lost = absurd lost
  ports_behind names before c cs (p ∷ ports) (o ∷ olds) [] has lost = absurd lost
  ports_behind names before c cs (p ∷ ports) (o ∷ olds) (n ∷ news) has lost =
      All-cons (HasPorts names (before + 1) cs) n news (port_behind names before c cs p o n (All-head (HasPorts names before (c ∷ cs)) o olds has) lost.0) (ports_behind names before c cs ports olds news (All-tail (HasPorts names before (c ∷ cs)) o olds has) lost.1)

  -- one more was closed
  closed_more : (meta : TurnValue) (stores : List (StoreWork N)) (driver : ℕ) (clusters : List ClusterValue) (seats : List SeatValue) (cluster : ClusterValue) (seat : SeatValue) → AreClosed meta stores driver clusters seats
      → cluster.driver ≡ driver + length clusters → IsClosed meta stores (driver + length clusters) cluster seat → AreClosed meta stores driver (clusters ++ cluster ∷ []) (seats ++ seat ∷ [])
  closed_more meta stores driver [] [] cluster seat closed is one =
      let same : driver + 0 ≡ driver = omega arith in (is ∙ same, subst (λ n. IsClosed meta stores n cluster seat) same one, tt)
  closed_more meta stores driver [] (s ∷ seats) cluster seat closed is one = absurd closed
  closed_more meta stores driver (c ∷ clusters) [] cluster seat closed is one = absurd closed
  closed_more meta stores driver (c ∷ clusters) (s ∷ seats) cluster seat closed is one =
      let same : driver + suc (length clusters) ≡ driver + 1 + length clusters = omega arith in
      (closed.0, closed.1, closed_more meta stores (driver + 1) clusters seats cluster seat closed.2 (is ∙ same) (subst (λ n. IsClosed meta stores n cluster seat) same one))

-- ALL OF THEM
module _ {N B : Type 0} where
  -- so many drivers' clusters are closed; the others are left
  pub record Parted (meta : TurnValue) (names : List StreamName) (stores : List (StoreWork N)) (drivers left : List (DriverWork N B)) (clusters : List SharedValue) (parts : DriverParts N B) : Type 0 where
    pub done : List (DriverWork N B)
    pub drivers_are : done ++ left ≡ drivers
    pub of : AreDriversOf (map (λ (w : StoreWork N). w.store) stores) (length done) left clusters
    pub ports : All (HasPorts names (length done) clusters) parts.stores.items
    pub fine : All (λ (w : DriverWork N B). w.failed ≡ false) done
    pub oracle : parts.oracle.items ≡ map (λ (w : DriverWork N B). seat_of w.means.driver) done
    pub answers : map driver_part parts.answers.items ≡ map driver_part_of done
    pub benches : parts.benches.items ≡ flat_map (λ (w : DriverWork N B). lent w.means.bench) done
    pub closed : AreClosed meta stores 1 parts.clusters.items parts.meta.items
    pub own : AllZip IsDriversOwn done parts.clusters.items
    pub after : AllZip (After (length done)) stores parts.stores.items

  module _ (meta : TurnValue) (names : List StreamName) (stores : List (StoreWork N)) (drivers : List (DriverWork N B)) where
    abbrev ids : List ℕ
    ids = map (λ (w : StoreWork N). w.store) stores

    pub parted_none : (left : List (DriverWork N B)) (clusters : List SharedValue) (parts : DriverParts N B) → left ≡ drivers → AreDriversOf ids 0 drivers clusters → All (HasPorts names 0 clusters) stores → parts.stores.items ≡ stores
        → parts.oracle.items ≡ [] → parts.answers.items ≡ [] → parts.benches.items ≡ [] → parts.clusters.items ≡ [] → parts.meta.items ≡ [] → Parted meta names stores drivers left clusters parts
    parted_none left clusters parts all of ports same oracle answers benches none seats = record {
      done = [];
      drivers_are = all;
      of = subst (λ l. AreDriversOf ids 0 l clusters) (sym all) of;
      ports = subst (All (HasPorts names 0 clusters)) (sym same) ports;
      fine = All-nil (λ (w : DriverWork N B). w.failed ≡ false);
      oracle = oracle;
      answers = ap (map driver_part) answers;
      benches = benches;
      closed = subst (λ (y : List ClusterValue × List SeatValue). AreClosed meta stores 1 y.0 y.1) (λ i. (sym none i, sym seats i)) tt;
      own = subst (λ (l : List ClusterValue). AllZip (IsDriversOwn {N = N} {B = B}) [] l) (sym none) tt;
      after = subst (AllZip (After 0) stores) (sym same) (after_none stores);
    }

    -- as many stores as before, with the same ids
    pub same_ids : (left : List (DriverWork N B)) (clusters : List SharedValue) (parts : DriverParts N B) → Parted meta names stores drivers left clusters parts → map (λ (w : StoreWork N). w.store) parts.stores.items ≡ ids
    same_ids left clusters parts h = same_after (λ (w : StoreWork N). w.store) (length h.done) (λ t w a. a.store) stores parts.stores.items h.after

    pub some_cluster : (left rest : List (DriverWork N B)) (d : DriverWork N B) (parts : DriverParts N B) → Parted meta names stores drivers left [] parts → left ≡ d ∷ rest → ⊥
    some_cluster left rest d parts h is = subst (λ l. AreDriversOf ids (length h.done) l []) is h.of

    module _ (left rest : List (DriverWork N B)) (d : DriverWork N B) (clusters fewer : List SharedValue) (c : SharedValue) (parts : DriverParts N B) (h : Parted meta names stores drivers left clusters parts) (is : left ≡ d ∷ rest) (next : clusters ≡ c ∷ fewer) where
      both : AreDriversOf ids (length h.done) (d ∷ rest) (c ∷ fewer)
      both = subst (λ (y : List (DriverWork N B) × List SharedValue). AreDriversOf ids (length h.done) y.0 y.1) (λ i. (is i, next i)) h.of

      pub its_driver : IsDriverOfCluster (map (λ (w : StoreWork N). w.store) parts.stores.items) c.driver d c
      its_driver = subst (λ l. IsDriverOfCluster l c.driver d c) (sym (same_ids left clusters parts h)) (subst (λ n. IsDriverOfCluster ids n d c) (sym both.0.driver) both.0)

      their_ports : All (HasPorts names (length h.done) (c ∷ fewer)) parts.stores.items
      their_ports = subst (λ l. All (HasPorts names (length h.done) l) parts.stores.items) next h.ports

      pub its_ports : All (HasPortTo names c) parts.stores.items
      its_ports = next_ports names (length h.done) c fewer parts.stores.items both.0.driver their_ports

      module _ (more : DriverParts N B) (fine : d.failed ≡ false) (oracle : more.oracle.items ≡ parts.oracle.items ++ seat_of d.means.driver ∷ []) (answers : map driver_part more.answers.items ≡ map driver_part parts.answers.items ++ driver_part_of d ∷ [])
          (benches : more.benches.items ≡ parts.benches.items ++ lent d.means.bench) (one : ClosesOne meta d parts more) where
        count : length (h.done ++ d ∷ []) ≡ length h.done + 1
        count = length-append h.done (d ∷ [])

        its_number : one.cluster.driver ≡ length h.done + 1
        its_number = one.own.driver ∙ both.0.number_is

        place : 1 + length parts.clusters.items ≡ length h.done + 1
        place = let e : length parts.clusters.items ≡ length h.done = zip_length IsDriversOwn h.done parts.clusters.items h.own in omega (arith, e)

        closed_then : IsClosed meta stores (length h.done + 1) one.cluster one.seat
        closed_then = record {
          turn = one.closed.turn;
          driver = one.closed.driver;
          legal = one.closed.legal;
          answers = one.closed.answers;
          callers = subst (λ (l : List ℕ). All (λ (e : Entry). Contains (map (actor_of one.cluster.driver) (0 ∷ l)) e.actor) one.cluster.entries) (same_ids left clusters parts h) one.closed.callers;
          made = made_then names c (length h.done) one.cluster.entries stores parts.stores.items h.after its_ports one.closed.made;
          popped = popped_then names c (length h.done) one.cluster.entries stores parts.stores.items h.after its_ports one.closed.popped;
        }

        pub parted_more : Parted meta names stores drivers rest fewer more
        parted_more = record {
          done = h.done ++ d ∷ [];
          drivers_are = append_assoc h.done (d ∷ []) rest ∙ ap (λ l. h.done ++ l) (sym is) ∙ h.drivers_are;
          of = subst (λ n. AreDriversOf ids n rest fewer) (sym count) both.1;
          ports = subst (λ n. All (HasPorts names n fewer) more.stores.items) (sym count) (ports_behind names (length h.done) c fewer one.ports parts.stores.items more.stores.items their_ports one.lost);
          fine = All-push (λ (w : DriverWork N B). w.failed ≡ false) h.done d h.fine fine;
          oracle = oracle ∙ ap (λ l. l ++ seat_of d.means.driver ∷ []) h.oracle ∙ sym (map-append (λ (w : DriverWork N B). seat_of w.means.driver) h.done (d ∷ []));
          answers = answers ∙ ap (λ l. l ++ driver_part_of d ∷ []) h.answers ∙ sym (map-append driver_part_of h.done (d ∷ []));
          benches = benches ∙ (λ i. h.benches i ++ sym (append-nil (lent d.means.bench)) i) ∙ sym (flat_map-append (λ (w : DriverWork N B). lent w.means.bench) h.done (d ∷ []));
          closed = subst (λ (y : List ClusterValue × List SeatValue). AreClosed meta stores 1 y.0 y.1) (λ i. (sym one.clusters_are i, sym one.seats_are i))
              (closed_more meta stores 1 parts.clusters.items parts.meta.items one.cluster one.seat h.closed (its_number ∙ sym place) (subst (λ n. IsClosed meta stores n one.cluster one.seat) (sym place) closed_then));
          own = subst (AllZip IsDriversOwn (h.done ++ d ∷ [])) (sym one.clusters_are) (zip_push IsDriversOwn h.done parts.clusters.items d one.cluster h.own one.own);
          after = subst (λ n. AllZip (After n) stores more.stores.items) (sym count) (after_more (length h.done) one.ports stores parts.stores.items more.stores.items h.after one.lost);
        }

    module _ (left : List (DriverWork N B)) (clusters : List SharedValue) (parts : DriverParts N B) (h : Parted meta names stores drivers left clusters parts) (none : left ≡ []) where
      pub all_done : h.done ≡ drivers
      all_done = sym (append-nil h.done) ∙ ap (λ l. h.done ++ l) (sym none) ∙ h.drivers_are

      pub same_parts : map part_of parts.stores.items ≡ map part_of stores
      same_parts = same_after part_of (length h.done) (λ t w a. λ i. record { store = a.store i; answers = (a.answers i).items }) stores parts.stores.items h.after

      pub same_failed : map (λ (w : StoreWork N). w.failed) parts.stores.items ≡ map (λ (w : StoreWork N). w.failed) stores
      same_failed = same_after (λ (w : StoreWork N). w.failed) (length h.done) (λ t w a. a.failed) stores parts.stores.items h.after
