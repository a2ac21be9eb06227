-- The stores lose their first ports, one store after the other.
use Rattle.std.proofs.Common.{◌≡◌, ℕ, ◌<◌, List, [], ◌∷◌, ◌++◌, get_or, length, map, refl, sym, ap, ◌∙◌, arith, subst, append_assoc}
use Rattle.std.specs.Prelude.{remove, zip}
use Rattle.std.proofs.lemmas.List.{append-nil, map-append}
use Rattle.step_stream.specs.Streams.{TakerValue}
use Rattle.pd_shared.specs.Shares.{ShareValue}
use Rattle.pd_run.specs.Ends.{EndsOf, LostPort, LostPorts}
use Rattle.pd_run.specs.declared.storing.Port.{Port}
use Rattle.pd_run.specs.declared.storing.StoreWork.{StoreWork}

module _ {N : Type 0} where
  -- so far the first stores lost their first ports
  pub record Taken (first : List ShareValue) (olds rest news : List (StoreWork N)) (shares : List ShareValue) (takers : List (ℕ × TakerValue)) : Type 0 where
    pub ports : List (Port N)
    pub done : List (StoreWork N)
    pub stores_are : done ++ rest ≡ olds
    pub lost : LostPorts ports done news
    pub shares_are : shares ≡ first ++ map (λ (p : Port N). p.share) ports
    pub takers_are : takers ≡ zip (map (λ (w : StoreWork N). w.store) done) (map (λ (p : Port N). p.taker) ports)

  lost_push : (ports : List (Port N)) (olds news : List (StoreWork N)) (p : Port N) (old new : StoreWork N) → LostPorts ports olds news → LostPort p old new → LostPorts (ports ++ p ∷ []) (olds ++ old ∷ []) (news ++ new ∷ [])
  lost_push [] [] [] p old new h one = (one, tt)
  lost_push [] [] (n ∷ news) p old new h one = absurd h
  lost_push [] (o ∷ olds) news p old new h one = absurd h
  lost_push (q ∷ ports) [] news p old new h one = absurd h
  lost_push (q ∷ ports) (o ∷ olds) [] p old new h one = absurd h
  lost_push (q ∷ ports) (o ∷ olds) (n ∷ news) p old new h one = (h.0, lost_push ports olds news p old new h.1 one)

  -- the stores' ends side by side, with one more
  zip_more : (ports : List (Port N)) (olds news : List (StoreWork N)) (p : Port N) (old : StoreWork N) → LostPorts ports olds news
      → zip (map (λ (w : StoreWork N). w.store) (olds ++ old ∷ [])) (map (λ (x : Port N). x.taker) (ports ++ p ∷ [])) ≡ zip (map (λ (w : StoreWork N). w.store) olds) (map (λ (x : Port N). x.taker) ports) ++ (old.store, p.taker) ∷ []
  zip_more [] [] news p old h = refl
  zip_more [] (o ∷ olds) news p old h = absurd h
  zip_more (q ∷ ports) [] news p old h = absurd h
  zip_more (q ∷ ports) (o ∷ olds) [] p old h = absurd h
  zip_more (q ∷ ports) (o ∷ olds) (n ∷ news) p old h = ap (λ l. (o.store, q.taker) ∷ l) (zip_more ports olds news p old h.1)

  pub taken_none : (first shares : List ShareValue) (olds : List (StoreWork N)) (news : List (StoreWork N)) (takers : List (ℕ × TakerValue)) → shares ≡ first → news ≡ [] → takers ≡ [] → Taken first olds olds news shares takers
  taken_none first shares olds news takers same none nothing = record {
    ports = [];
    done = [];
    stores_are = refl;
    lost = subst (LostPorts [] []) (sym none) tt;
    shares_are = same ∙ sym (append-nil first);
    takers_are = nothing;
  }

  pub taken_more : (first shares more : List ShareValue) (olds rest fewer news works : List (StoreWork N)) (takers others : List (ℕ × TakerValue)) (p : Port N) (old new : StoreWork N) → Taken first olds rest news shares takers → rest ≡ old ∷ fewer → LostPort p old new
      → more ≡ shares ++ p.share ∷ [] → others ≡ takers ++ (old.store, p.taker) ∷ [] → works ≡ news ++ new ∷ [] → Taken first olds fewer works more others
  taken_more first shares more olds rest fewer news works takers others p old new h is lost share taker grown = record {
    ports = h.ports ++ p ∷ [];
    done = h.done ++ old ∷ [];
    stores_are = append_assoc h.done (old ∷ []) fewer ∙ ap (λ l. h.done ++ l) (sym is) ∙ h.stores_are;
    lost = subst (LostPorts (h.ports ++ p ∷ []) (h.done ++ old ∷ [])) (sym grown) (lost_push h.ports h.done news p old new h.lost lost);
    shares_are = share ∙ ap (λ l. l ++ p.share ∷ []) h.shares_are ∙ append_assoc first (map (λ (x : Port N). x.share) h.ports) (p.share ∷ []) ∙ ap (λ l. first ++ l) (sym (map-append (λ (x : Port N). x.share) h.ports (p ∷ [])));
    takers_are = taker ∙ ap (λ l. l ++ (old.store, p.taker) ∷ []) h.takers_are ∙ sym (zip_more h.ports h.done news p old h.lost);
  }

  pub taken_all : (share : ShareValue) (shares : List ShareValue) (olds news : List (StoreWork N)) (takers : List (ℕ × TakerValue)) → Taken (share ∷ []) olds [] news shares takers → EndsOf share olds news shares takers
  taken_all share shares olds news takers h =
      let all : h.done ≡ olds = sym (append-nil h.done) ∙ h.stores_are in record {
        ports = h.ports;
        lost = subst (λ l. LostPorts h.ports l news) all h.lost;
        shares_are = h.shares_are;
        takers_are = h.takers_are ∙ ap (λ (l : List (StoreWork N)). zip (map (λ (w : StoreWork N). w.store) l) (map (λ (p : Port N). p.taker) h.ports)) all;
      }

-- a list whose first was taken out
pub first_removed : {A : Type 0} (xs ys : List A) (x : A) → 0 < length xs → x ≡ get_or xs 0 x → ys ≡ remove xs 0 → xs ≡ x ∷ ys
first_removed [] ys x lt is rest = absurd (omega (arith, lt))
first_removed (z ∷ xs) ys x lt is rest = λ i. sym is i ∷ sym rest i
