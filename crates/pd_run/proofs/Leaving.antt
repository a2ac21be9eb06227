-- What all workers hand back to the end of a run.
use Rattle.std.proofs.Common.{◌≡◌, ℕ, suc, ◌+◌, ◌-◌, List, [], ◌∷◌, ◌++◌, Bool, false, get_or, length, map, refl, sym, ap, ◌∙◌, arith, subst, append_assoc}
use Rattle.std.specs.Prelude.{All}
use Rattle.std.specs.List.{AllZip}
use Rattle.std.proofs.lemmas.List.{length-append}
use Rattle.std.proofs.lemmas.List.Elements.{All-cons, All-head, All-nil, All-tail}
use Rattle.atomic_table.specs.Seated.{TableId}
use Rattle.pd_types.specs.declared.oracle.Actor.TheVariants.{Driver}
use Rattle.tso_model.specs.Moves.{numbers_from}
use Rattle.tso_board.specs.declared.board.Board.{Board}
use Rattle.tso_run.specs.declared.line.ClientLine.{ClientLine}
use Rattle.sched_api.specs.Benches.{Seats}
use Rattle.pd_shared.specs.Names.{StreamName}
use Rattle.pd_shared.specs.Shares.{SharedValue}
use Rattle.pd_run.specs.Crews.{AreNamed, CameFrom, IsLedStore}
use Rattle.pd_run.specs.Ends.{AreDriversOf, HasPorts, IsDriverOfCluster}
use Rattle.pd_run.specs.Works.{ArePorts, DriverWorked, IsClusterAt, IsNewDriver, StoreWorked, streams_at}
use Rattle.pd_run.specs.declared.begin.Workers.{Workers}
use Rattle.pd_run.specs.declared.driving.DriverWork.{DriverWork}
use Rattle.pd_run.specs.declared.storing.StoreWork.{StoreWork}

abbrev head_or : ℕ → List ℕ → ℕ
head_or d [] = d
head_or d (x ∷ xs) = x

abbrev rest_of : List ℕ → List ℕ
rest_of [] = []
rest_of (x ∷ xs) = xs

-- DRIVERS
get_behind : {A : Type 0} (front : List A) (x : A) (xs : List A) (d : A) → get_or (front ++ x ∷ xs) (length front) d ≡ x
get_behind [] x xs d = refl
get_behind (y ∷ front) x xs d = get_behind front x xs d

-- the cluster behind so many others is that of the driver with the next number
cluster_there : (front : List SharedValue) (c : SharedValue) (cs : List SharedValue) (driver : ℕ) (cluster : SharedValue) → driver ≡ length front + 1 → IsClusterAt (front ++ c ∷ cs) driver cluster → cluster ≡ c
cluster_there front c cs driver cluster is at =
    let place : driver - 1 ≡ length front = omega (arith, is) in
    sym (at.there c) ∙ ap (λ k. get_or (front ++ c ∷ cs) k c) place ∙ get_behind front c cs c

module _ {N B : Type 0} (seats : B → Seats) (board : Board) (ids : List ℕ) where
  driver_of : (front : List SharedValue) (c : SharedValue) (cs : List SharedValue) (v w : DriverWork N B) → v.number ≡ length front + 1 → c.driver ≡ length front + 1 → c.turn.numbers ≡ 0 ∷ ids
      → IsNewDriver board (front ++ c ∷ cs) v → DriverWorked seats board v w → IsDriverOfCluster ids (length front + 1) w c
  driver_of front c cs v w number driver numbers new worked = record {
    number_is = worked.number ∙ number;
    driver = driver;
    cluster_is = worked.stays.cluster_is ∙ cluster_there front c cs v.number v.means.share.cluster number new.cluster;
    actor = worked.stays.actor_is ∙ new.actor ∙ ap Driver number;
    numbers = numbers;
  }

  drivers_of : (front cs all : List SharedValue) (vs ws : List (DriverWork N B)) → all ≡ front ++ cs → map (λ (c : SharedValue). c.driver) cs ≡ numbers_from (length front + 1) (length cs) → map (λ (v : DriverWork N B). v.number) vs ≡ numbers_from (length front + 1) (length cs)
      → All (λ (c : SharedValue). c.turn.numbers ≡ 0 ∷ ids) cs → All (IsNewDriver board all) vs → AllZip (DriverWorked seats board) vs ws → AreDriversOf ids (length front) ws cs
  drivers_of front [] all [] [] is clusters numbers shares new worked = tt
  drivers_of front [] all (v ∷ vs) ws is clusters numbers shares new worked = absurd (let n : suc (length (map (λ (x : DriverWork N B). x.number) vs)) ≡ 0 = ap length numbers in omega (arith, n))
  drivers_of front cs all [] (w ∷ ws) is clusters numbers shares new worked = absurd worked
  drivers_of front (c ∷ cs) all [] [] is clusters numbers shares new worked = absurd (let n : 0 ≡ suc (length (numbers_from (length front + 1 + 1) (length cs))) = ap length numbers in omega (arith, n))
  drivers_of front cs all (v ∷ vs) [] is clusters numbers shares new worked = absurd worked
  drivers_of front (c ∷ cs) all (v ∷ vs) (w ∷ ws) is clusters numbers shares new worked =
      let count : length (front ++ c ∷ []) ≡ length front + 1 = length-append front (c ∷ []) in
      let behind : all ≡ (front ++ c ∷ []) ++ cs = is ∙ sym (append_assoc front (c ∷ []) cs) in
      let rest = drivers_of (front ++ c ∷ []) cs all vs ws behind (ap rest_of clusters ∙ ap (λ n. numbers_from (n + 1) (length cs)) (sym count)) (ap rest_of numbers ∙ ap (λ n. numbers_from (n + 1) (length cs)) (sym count))
      (All-tail (λ (x : SharedValue). x.turn.numbers ≡ 0 ∷ ids) c cs shares) (All-tail (IsNewDriver board all) v vs new) worked.1 in (
        driver_of front c cs v w (ap (head_or v.number) numbers) (ap (head_or c.driver) clusters) (All-head (λ (x : SharedValue). x.turn.numbers ≡ 0 ∷ ids) c cs shares)
            (subst (λ l. IsNewDriver board l v) is (All-head (IsNewDriver board all) v vs new)) worked.0,
        subst (λ n. AreDriversOf ids n ws cs) count rest,
      )

-- STORES
module _ {N : Type 0} where
  pub acted_same : {X : Type 0} (f : StoreWork N → X) (clusters : List SharedValue) → ((v w : StoreWork N) → StoreWorked clusters v w → f w ≡ f v) → (vs ws : List (StoreWork N)) → AllZip (StoreWorked clusters) vs ws → map f ws ≡ map f vs
  acted_same f clusters same [] [] acted = refl
  acted_same f clusters same [] (w ∷ ws) acted = absurd acted
  acted_same f clusters same (v ∷ vs) [] acted = absurd acted
  acted_same f clusters same (v ∷ vs) (w ∷ ws) acted = let one = same v w acted.0 in let rest = acted_same f clusters same vs ws acted.1 in λ i. one i ∷ rest i

  store_ports : (names : List StreamName) (clusters : List SharedValue) (v w : StoreWork N) → IsLedStore names clusters v → StoreWorked clusters v w → HasPorts names 0 clusters w
  store_ports names clusters v w led acted = record {
    ports = subst (λ s. ArePorts s clusters w.ports.items) (sym acted.store) acted.ports;
    named = subst (λ s. AreNamed names 1 s (streams_at w.ports.items)) (sym acted.store) (subst (AreNamed names 1 v.store) (sym acted.streams) led.named);
  }

  stores_ports : (names : List StreamName) (clusters : List SharedValue) (vs ws : List (StoreWork N)) → All (IsLedStore names clusters) vs → AllZip (StoreWorked clusters) vs ws → All (HasPorts names 0 clusters) ws
  stores_ports names clusters [] [] led acted = All-nil (HasPorts names 0 clusters)
  stores_ports names clusters [] (w ∷ ws) led acted = absurd acted
  stores_ports names clusters (v ∷ vs) [] led acted = absurd acted
  stores_ports names clusters (v ∷ vs) (w ∷ ws) led acted =
      All-cons (HasPorts names 0 clusters) w ws (store_ports names clusters v w (All-head (IsLedStore names clusters) v vs led) acted.0) (stores_ports names clusters vs ws (All-tail (IsLedStore names clusters) v vs led) acted.1)

  -- memory was wanting to none of them, since it was to none of the same ones
  pub all_fine : (xs ys : List (StoreWork N)) → map (λ (w : StoreWork N). w.failed) xs ≡ map (λ (w : StoreWork N). w.failed) ys → All (λ (w : StoreWork N). w.failed ≡ false) xs → All (λ (w : StoreWork N). w.failed ≡ false) ys
  all_fine [] [] same fine = All-nil (λ (w : StoreWork N). w.failed ≡ false)
  all_fine [] (y ∷ ys) same fine = absurd (let n : 0 ≡ suc (length (map (λ (w : StoreWork N). w.failed) ys)) = ap length same in omega (arith, n))
  all_fine (x ∷ xs) [] same fine = absurd (let n : suc (length (map (λ (w : StoreWork N). w.failed) xs)) ≡ 0 = ap length same in omega (arith, n))
  all_fine (x ∷ xs) (y ∷ ys) same fine =
      let one : x.failed ≡ y.failed = ap (first_or x.failed) same in
      All-cons (λ (w : StoreWork N). w.failed ≡ false) y ys (sym one ∙ All-head (λ (w : StoreWork N). w.failed ≡ false) x xs fine) (all_fine xs ys (ap others same) (All-tail (λ (w : StoreWork N). w.failed ≡ false) x xs fine))
    where
      first_or : Bool → List Bool → Bool
      first_or d [] = d
      first_or d (b ∷ bs) = b

      others : List Bool → List Bool
      others [] = []
      others (b ∷ bs) = bs

-- ALL
module _ {N B : Type 0} (name : TableId) (names : List StreamName) (seats : B → Seats) (board : Board) (clients : List ClientLine) (first w : Workers N B) (from : CameFrom name names seats board clients first w) where
  pub same_stores : map (λ (s : StoreWork N). s.store) w.stores.items ≡ map (λ (s : StoreWork N). s.store) first.stores.items
  same_stores = acted_same (λ (s : StoreWork N). s.store) first.clusters.items (λ v s a. a.store) first.stores.items w.stores.items from.worked.acted

  pub are_drivers : AreDriversOf (map (λ (s : StoreWork N). s.store) w.stores.items) 0 w.drivers.items w.clusters.items
  are_drivers =
      let led = from.ready.led in
      subst (λ (y : List ℕ × List SharedValue). AreDriversOf y.0 0 w.drivers.items y.1) (λ i. (sym same_stores i, sym from.worked.clusters i))
      (drivers_of seats board (map (λ (s : StoreWork N). s.store) first.stores.items) [] first.clusters.items first.clusters.items first.drivers.items w.drivers.items refl led.numbers led.driver_numbers led.shares led.new from.worked.drove)

  pub have_ports : All (HasPorts names 0 w.clusters.items) w.stores.items
  have_ports = subst (λ l. All (HasPorts names 0 l) w.stores.items) (sym from.worked.clusters) (stores_ports names first.clusters.items first.stores.items w.stores.items from.ready.led.led_stores.each from.worked.acted)
