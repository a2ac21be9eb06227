-- The shares of a cluster's driver and of one store.
use Rattle.std.proofs.Common.{◌≡◌, List, ℕ, [], ◌∷◌, map, sym, subst, arith}
use Rattle.std.specs.Prelude.{All, Contains}
use Rattle.std.proofs.lemmas.List.Elements.{All-cons, All-nil}
use Rattle.pd_shared.specs.Shares.{AreSharesOf, ShareValue, SharedValue, actor_of}

-- where store 1 alone has a share beside the driver, these two are all shares
pub two_shares : (cluster : SharedValue) (driver store : ShareValue) → cluster.turn.numbers ≡ 0 ∷ 1 ∷ [] → (driver.cluster ≡ cluster) × (driver.actor ≡ actor_of cluster.driver 0)
    → (store.cluster ≡ cluster) × (store.actor ≡ actor_of cluster.driver 1) → AreSharesOf cluster (store ∷ driver ∷ [])
two_shares cluster driver store numbers of_driver of_store =
    let Of = λ (share : ShareValue). share.cluster ≡ cluster in
    let Has = Contains (store.actor ∷ driver.actor ∷ []) in record {
      of = All-cons Of store (driver ∷ []) of_store.0 (All-cons Of driver [] of_driver.0 (All-nil Of));
      each = subst (λ (l : List ℕ). All Has (map (actor_of cluster.driver) l)) (sym numbers)
          (All-cons Has (actor_of cluster.driver 0) (actor_of cluster.driver 1 ∷ []) (1, omega arith, of_driver.1)
          (All-cons Has (actor_of cluster.driver 1) [] (0, omega arith, of_store.1) (All-nil Has)));
    }
