-- One more driver's cluster, its driver, and a port of each store to it.
use Rattle.std.proofs.Common.{◌≡◌, ℕ, zero, suc, ◌+◌, ◌-◌, ◌<◌, ◌==◌, Bool, true, false, List, [], ◌∷◌, ◌++◌, cond, filter, get_or, length, map, refl, sym, ap, ◌∙◌, arith, subst, append_assoc, ne_eqb}
use Rattle.std.specs.Prelude.{All, Contains}
use mathlib.Core.Option.{some}
use Rattle.std.specs.Arc.{arc_value}
use Rattle.std.specs.List.{AllZip}
use Rattle.std.proofs.lemmas.List.{length-append, length-map, map-append}
use Rattle.std.proofs.lemmas.List.Elements.{All-cons, All-head, All-nil, All-push, All-tail}
use Rattle.atomic_table.specs.Seated.{TableId}
use Rattle.pd_types.specs.declared.oracle.Actor.TheVariants.{Driver, Store}
use Rattle.pd_turn.specs.Turns.{Among, AreApart, TurnValue}
use Rattle.tso_model.specs.Moves.{numbers_from}
use Rattle.tso_model.proofs.Basics.{in_head, in_tail}
use Rattle.tso_run.proofs.Rows.{numbered}
use Rattle.tso_board.specs.declared.board.Board.{Board}
use Rattle.pd_shared.specs.Names.{StreamName, stream_name, streams_of}
use Rattle.pd_shared.specs.Shares.{SharedValue, actor_of}
use Rattle.pd_run.specs.Crews.{AreLed, AreLedStores, AreNamed, AreStarts, IsLedStore, IsStart}
use Rattle.pd_run.specs.Pipes.{ArePipesTo, GotPort, GotPorts, OpensPort, pipe_name}
use Rattle.pd_run.specs.Works.{ArePorts, IsClusterAt, IsNewDriver, IsPort, listed_at, made_at, popped_at, streams_at}
use Rattle.pd_run.specs.declared.begin.Start.{Start}
use Rattle.pd_run.specs.declared.driving.DriverWork.{DriverWork}
use Rattle.pd_run.specs.declared.pipe.Pipe.{Pipe}
use Rattle.pd_run.specs.declared.storing.Port.{Port}
use Rattle.pd_run.specs.declared.storing.StoreWork.{StoreWork}
use Rattle.pd_run.proofs.Porting.{ports_length}

-- CLUSTERS
get_or_front : {A : Type 0} (xs ys : List A) (k : ℕ) (d : A) → k < length xs → get_or (xs ++ ys) k d ≡ get_or xs k d
get_or_front [] ys k d lt = absurd (omega (arith, lt))
get_or_front (x ∷ xs) ys zero d lt = refl
get_or_front (x ∷ xs) ys (suc k) d lt = get_or_front xs ys k d (omega (arith, lt))

get_or_last : {A : Type 0} (xs : List A) (x d : A) → get_or (xs ++ x ∷ []) (length xs) d ≡ x
get_or_last [] x d = refl
get_or_last (y ∷ xs) x d = get_or_last xs x d

pub cluster_stays : (clusters : List SharedValue) (more : SharedValue) (driver : ℕ) (cluster : SharedValue) → IsClusterAt clusters driver cluster → IsClusterAt (clusters ++ more ∷ []) driver cluster
cluster_stays clusters more driver cluster h = record {
  first = h.first;
  within = omega (arith, h.within, length-append clusters (more ∷ []));
  there = λ any. get_or_front clusters (more ∷ []) (driver - 1) any (omega (arith, h.first, h.within)) ∙ h.there any;
}

pub cluster_last : (clusters : List SharedValue) (cluster : SharedValue) (driver : ℕ) → driver ≡ length clusters + 1 → IsClusterAt (clusters ++ cluster ∷ []) driver cluster
cluster_last clusters cluster driver is = record {
  first = omega (arith, is);
  within = omega (arith, is, length-append clusters (cluster ∷ []));
  there = λ any. ap (λ k. get_or (clusters ++ cluster ∷ []) k any) (let k : driver - 1 ≡ length clusters = omega (arith, is) in k) ∙ get_or_last clusters cluster any;
}

driver_stays : {N B : Type 0} (board : Board) (clusters : List SharedValue) (more : SharedValue) (w : DriverWork N B) → IsNewDriver board clusters w → IsNewDriver board (clusters ++ more ∷ []) w
driver_stays board clusters more w h = record {
  board_is = h.board_is;
  cluster = cluster_stays clusters more w.number w.means.share.cluster h.cluster;
  actor = h.actor;
  view = h.view;
  list = h.list;
  answers = h.answers;
  fine = h.fine;
}

pub drivers_stay : {N B : Type 0} (board : Board) (clusters : List SharedValue) (more : SharedValue) (ws : List (DriverWork N B)) → All (IsNewDriver board clusters) ws → All (IsNewDriver board (clusters ++ more ∷ [])) ws
drivers_stay board clusters more [] h = All-nil (IsNewDriver board (clusters ++ more ∷ []))
drivers_stay board clusters more (w ∷ ws) h = All-cons (IsNewDriver board (clusters ++ more ∷ [])) w ws (driver_stays board clusters more w (All-head (IsNewDriver board clusters) w ws h)) (drivers_stay board clusters more ws (All-tail (IsNewDriver board clusters) w ws h))

-- PORTS
module _ {N : Type 0} where
  pub ports_more : (store : ℕ) (clusters : List SharedValue) (ports : List (Port N)) (cluster : SharedValue) (p : Port N) → ArePorts store clusters ports → IsPort store cluster p → ArePorts store (clusters ++ cluster ∷ []) (ports ++ p ∷ [])
  ports_more store [] [] cluster p h one = (one, tt)
  ports_more store [] (q ∷ ports) cluster p h one = absurd h
  ports_more store (c ∷ clusters) [] cluster p h one = absurd h
  ports_more store (c ∷ clusters) (q ∷ ports) cluster p h one = (h.0, ports_more store clusters ports cluster p h.1 one)

  pub listed_none : {X : Type 0} (list : Port N → List X) (ports : List (Port N)) (p : Port N) → ((d : ℕ) → listed_at list ports d ≡ []) → list p ≡ [] → (d : ℕ) → listed_at list (ports ++ p ∷ []) d ≡ []
  listed_none list [] p h none zero = refl
  listed_none list [] p h none (suc zero) = none
  listed_none list [] p h none (suc (suc d)) = refl
  listed_none list (q ∷ ports) p h none zero = refl
  listed_none list (q ∷ ports) p h none (suc zero) = h 1
  listed_none list (q ∷ ports) p h none (suc (suc d)) = listed_none list ports p (behind list q ports h) none (suc d)
    where
      behind : {X : Type 0} (list : Port N → List X) (q : Port N) (ports : List (Port N)) → ((d : ℕ) → listed_at list (q ∷ ports) d ≡ []) → (d : ℕ) → listed_at list ports d ≡ []
      behind list q [] h d = refl
      behind list q (p ∷ ports) h zero = refl
      behind list q (p ∷ ports) h (suc d) = h (suc (suc d))

-- STORES
module _ {N : Type 0} (names : List StreamName) (clusters : List SharedValue) (cluster : SharedValue) (driver : ℕ) (at : driver ≡ length clusters + 1) (is_driver : cluster.driver ≡ driver) where
  -- a store that got its port to one more cluster
  led_store : (pipe : Pipe) (p : Port N) (old new : StoreWork N) → IsLedStore names clusters old → GotPort p old new → OpensPort cluster pipe p → pipe.store ≡ old.store → (pipe.store ≡ 0 → ⊥) → Contains names (pipe_name driver pipe) → IsLedStore names (clusters ++ cluster ∷ []) new
  led_store pipe p old new h got opened same known listed =
      let actor : p.share.actor ≡ Store old.store = ap (λ s. s.actor) opened.share_is ∙ store_actor cluster.driver pipe.store known ∙ ap Store same in
      let stream : p.taker.stream ≡ arc_value pipe.stream = ap (λ t. t.stream) opened.taker_is in
      let port : IsPort old.store cluster p = record { cluster_is = ap (λ s. s.cluster) opened.share_is; actor_is = actor; stream_is = stream ∙ sym opened.stream_is } in
      let ports : ArePorts old.store (clusters ++ cluster ∷ []) new.ports.items = subst (ArePorts old.store (clusters ++ cluster ∷ [])) (sym got.ports) (ports_more old.store clusters old.ports.items cluster p h.ports port) in
      record {
        ports = subst (λ s. ArePorts s (clusters ++ cluster ∷ []) new.ports.items) (sym got.store) ports;
        none = record {
          made = subst (λ (ps : List (Port N)). (d : ℕ) → made_at ps d ≡ []) (sym got.ports) (listed_none (λ (x : Port N). x.share.list) old.ports.items p h.none.made (ap (λ s. s.list) opened.share_is));
          popped = subst (λ (ps : List (Port N)). (d : ℕ) → popped_at ps d ≡ []) (sym got.ports) (listed_none (λ (x : Port N). x.taker.list) old.ports.items p h.none.popped (ap (λ t. t.list) opened.taker_is));
        };
        named = subst (λ s. AreNamed names 1 s (streams_at new.ports.items)) (sym got.store) (subst (AreNamed names 1 old.store) (sym (ap streams_at got.ports ∙ map-append (λ (x : Port N). x.taker.stream) old.ports.items (p ∷ [])))
            (named_more 1 old.store (streams_at old.ports.items) p.taker.stream h.named (last_named pipe p old same stream (streams_length old h) listed)));
        answers = ap (λ v. v.items) got.answers ∙ h.answers;
        fine = got.failed ∙ h.fine;
      }
    where
      store_actor : (d s : ℕ) → (s ≡ 0 → ⊥) → actor_of d s ≡ Store s
      store_actor d s known = ap (λ b. cond b (Driver d) (Store s)) (ne_eqb s 0 known)

      named_more : (d s : ℕ) (xs : List TableId) (x : TableId) → AreNamed names d s xs → Contains names (stream_name (d + length xs) s x) → AreNamed names d s (xs ++ x ∷ [])
      named_more d s [] x h one = (subst (λ n. Contains names (stream_name n s x)) (let e : d + 0 ≡ d = omega arith in e) one, tt)
      named_more d s (y ∷ xs) x h one = (h.0, named_more (d + 1) s xs x h.1 (subst (λ n. Contains names (stream_name n s x)) (let e : d + suc (length xs) ≡ d + 1 + length xs = omega arith in e) one))

      streams_length : (old : StoreWork N) → IsLedStore names clusters old → length (streams_at old.ports.items) ≡ length clusters
      streams_length old h = length-map old.ports.items (λ (x : Port N). x.taker.stream) ∙ ports_length old.store clusters old.ports.items h.ports

      last_named : (pipe : Pipe) (p : Port N) (old : StoreWork N) → pipe.store ≡ old.store → p.taker.stream ≡ arc_value pipe.stream → length (streams_at old.ports.items) ≡ length clusters → Contains names (pipe_name driver pipe) → Contains names (stream_name (1 + length (streams_at old.ports.items)) old.store p.taker.stream)
      last_named pipe p old same stream long listed =
          let place : driver ≡ 1 + length (streams_at old.ports.items) = omega (arith, at, long) in
          subst (Contains names) (λ i. stream_name (place i) (same i) (sym stream i)) listed

-- LISTS
pub zip_length : {A B : Type 0} (R : A → B → Type 0) (xs : List A) (ys : List B) → AllZip R xs ys → length ys ≡ length xs
zip_length R [] [] h = refl
zip_length R [] (y ∷ ys) h = absurd h
zip_length R (x ∷ xs) [] h = absurd h
zip_length R (x ∷ xs) (y ∷ ys) h = ap suc (zip_length R xs ys h.1)

module _ {N : Type 0} where
  -- what stays of stores that got ports
  pub got_same : {X : Type 0} (f : StoreWork N → X) → ((p : Port N) (old new : StoreWork N) → GotPort p old new → f new ≡ f old) → (ports : List (Port N)) (olds news : List (StoreWork N)) → GotPorts ports olds news → map f news ≡ map f olds
  got_same f same [] [] [] h = refl
  got_same f same [] [] (n ∷ news) h = absurd h
  got_same f same [] (o ∷ olds) news h = absurd h
  got_same f same (p ∷ ports) [] news h = absurd h
  got_same f same (p ∷ ports) (o ∷ olds) [] h = absurd h
  got_same f same (p ∷ ports) (o ∷ olds) (n ∷ news) h = let one = same p o n h.0 in let rest = got_same f same ports olds news h.1 in λ i. one i ∷ rest i

all_kept : {A : Type 0} (test : A → Bool) (whole xs : List A) → ((x : A) → Contains xs x → Contains whole x) → All (Contains whole) (filter test xs)
all_kept test whole [] sub = All-nil (Contains whole)
all_kept {A} test whole (x ∷ xs) sub = by (test x) (all_kept test whole xs (λ y held. sub y (in_tail x xs y held)))
  where
    by : (b : Bool) → All (Contains whole) (filter test xs) → All (Contains whole) (cond b (x ∷ filter test xs) (filter test xs))
    by true rest = All-cons (Contains whole) x (filter test xs) (sub x (in_head x xs)) rest
    by false rest = rest

abbrev first_or : ℕ → List ℕ → ℕ
first_or d [] = d
first_or d (x ∷ xs) = x

abbrev tail_of : List ℕ → List ℕ
tail_of [] = []
tail_of (x ∷ xs) = xs

none_among : (n : ℕ) (x : ℕ) (xs : List ℕ) → (Among n (x ∷ xs) → ⊥) → x ≡ n → ⊥
none_among n x xs none same = none (0, ap some same)

module _ {N : Type 0} (names : List StreamName) (clusters : List SharedValue) (cluster : SharedValue) (driver : ℕ) (at : driver ≡ length clusters + 1) (is_driver : cluster.driver ≡ driver) where
  led_stores : (pipes : List Pipe) (ports : List (Port N)) (olds news : List (StoreWork N)) → AllZip (OpensPort cluster) pipes ports → GotPorts ports olds news → map (λ (p : Pipe). p.store) pipes ≡ map (λ (w : StoreWork N). w.store) olds
      → (Among 0 (map (λ (p : Pipe). p.store) pipes) → ⊥) → All (Contains names) (map (pipe_name driver) pipes) → All (IsLedStore names clusters) olds → All (IsLedStore names (clusters ++ cluster ∷ [])) news
  led_stores [] [] [] [] opened got same known listed led = All-nil (IsLedStore names (clusters ++ cluster ∷ []))
  led_stores [] [] [] (n ∷ news) opened got same known listed led = absurd got
  led_stores [] [] (o ∷ olds) news opened got same known listed led = absurd got
  led_stores [] (p ∷ ports) olds news opened got same known listed led = absurd opened
  led_stores (q ∷ pipes) [] olds news opened got same known listed led = absurd opened
  led_stores (q ∷ pipes) (p ∷ ports) [] news opened got same known listed led = absurd got
  led_stores (q ∷ pipes) (p ∷ ports) (o ∷ olds) [] opened got same known listed led = absurd got
  led_stores (q ∷ pipes) (p ∷ ports) (o ∷ olds) (n ∷ news) opened got same known listed led =
      All-cons (IsLedStore names (clusters ++ cluster ∷ [])) n news
      (led_store names clusters cluster driver at is_driver q p o n (All-head (IsLedStore names clusters) o olds led) got.0 opened.0 (ap (first_or q.store) same) (none_among 0 q.store (map (λ (x : Pipe). x.store) pipes) known)
      (All-head (Contains names) (pipe_name driver q) (map (pipe_name driver) pipes) listed))
      (led_stores pipes ports olds news opened.1 got.1 (ap tail_of same) (λ among. known (suc among.0, among.1)) (All-tail (Contains names) (pipe_name driver q) (map (pipe_name driver) pipes) listed) (All-tail (IsLedStore names clusters) o olds led))

  module _ {B : Type 0} (board : Board) (stores : List ℕ) (drivers : List (DriverWork N B)) (works news : List (StoreWork N)) (led : AreLed board names stores clusters drivers works) (apart : AreApart (0 ∷ stores)) where
    pub led_more : (pipes : List Pipe) (ports : List (Port N)) (more : List SharedValue) (others : List (DriverWork N B)) (w : DriverWork N B) → more ≡ clusters ++ cluster ∷ [] → others ≡ drivers ++ w ∷ []
        → ArePipesTo stores pipes → streams_of driver names ≡ map (pipe_name driver) pipes → AllZip (OpensPort cluster) pipes ports → GotPorts ports works news → cluster.turn.numbers ≡ 0 ∷ stores
        → w.number ≡ driver → IsNewDriver board (clusters ++ cluster ∷ []) w → AreLed board names stores more others news
    led_more pipes ports more others w more_is others_are to listed opened got numbers number new =
        let count : length (clusters ++ cluster ∷ []) ≡ length clusters + 1 = length-append clusters (cluster ∷ []) in
        subst (λ (y : List SharedValue × List (DriverWork N B)). AreLed board names stores y.0 y.1 news) (λ i. (sym more_is i, sym others_are i)) (record {
          numbers = numbered (λ (c : SharedValue). c.driver) clusters (clusters ++ cluster ∷ []) cluster (length clusters) refl led.numbers (is_driver ∙ at) ∙ ap (numbers_from 1) (sym count);
          shares = All-push (λ (c : SharedValue). c.turn.numbers ≡ 0 ∷ stores) clusters cluster led.shares numbers;
          driver_numbers = numbered (λ (x : DriverWork N B). x.number) drivers (drivers ++ w ∷ []) w (length clusters) refl led.driver_numbers (number ∙ at) ∙ ap (numbers_from 1) (sym count);
          new = All-push (IsNewDriver board (clusters ++ cluster ∷ [])) drivers w (drivers_stay board clusters cluster drivers led.new) new;
          led_stores = record {
            ids = got_same (λ (x : StoreWork N). x.store) (λ p old new got. got.store) ports works news got ∙ led.led_stores.ids;
            each = led_stores pipes ports works news opened got (to.stores_are ∙ sym led.led_stores.ids) (subst (λ s. Among 0 s → ⊥) (sym to.stores_are) apart.0)
                (subst (All (Contains names)) listed (all_kept (λ (name : StreamName). name.driver == driver) names names (λ x held. held))) led.led_stores.each;
          };
        })

-- ALL OF THEM
pub led_none : {N B : Type 0} (board : Board) (names : List StreamName) (stores : List ℕ) (clusters : List SharedValue) (drivers : List (DriverWork N B)) (works : List (StoreWork N)) → clusters ≡ [] → drivers ≡ [] → AreLedStores names stores [] works → AreLed board names stores clusters drivers works
led_none {N} {B} board names stores clusters drivers works none nobody led = subst (λ (y : List SharedValue × List (DriverWork N B)). AreLed board names stores y.0 y.1 works) (λ i. (sym none i, sym nobody i)) (record {
  numbers = refl;
  shares = All-nil (λ (c : SharedValue). c.turn.numbers ≡ 0 ∷ stores);
  driver_numbers = refl;
  new = All-nil (IsNewDriver board []);
  led_stores = led;
})

-- of what drivers begin with, the first is that of the next driver, and the others of those behind
pub starts_are : {B : Type 0} (board : Board) (meta : TurnValue) (names : List StreamName) (stores : List ℕ) (before : ℕ) (all rest : List (Start B)) (one : Start B) → AreStarts board meta names stores before all → all ≡ one ∷ rest → IsStart board meta names stores before one × AreStarts board meta names stores (before + 1) rest
starts_are board meta names stores before all rest one are is = subst (AreStarts board meta names stores before) is are

-- one more was mapped from what begins to what works
pub mapped_on : {A B X : Type 0} (f : A → X) (h : B → X) (all rest : List A) (one : A) (old new : List B) (whole : List X) → all ≡ one ∷ rest → map h new ≡ map h old ++ f one ∷ [] → map h old ++ map f all ≡ whole → map h new ++ map f rest ≡ whole
mapped_on f h all rest one old new whole is more so_far = (λ i. more i ++ map f rest) ∙ append_assoc (map h old) (f one ∷ []) (map f rest) ∙ ap (λ l. map h old ++ map f l) (sym is) ∙ so_far
