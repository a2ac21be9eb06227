-- Each store gets a port, one after the other.
use Rattle.std.proofs.Common.{◌≡◌, List, [], ◌∷◌, ◌++◌, length, refl, sym, ap, ◌∙◌, arith, subst, append_assoc}
use Rattle.std.proofs.lemmas.List.{append-nil}
use Rattle.pd_run.specs.Pipes.{GotPort, GotPorts}
use Rattle.pd_run.specs.declared.storing.Port.{Port}
use Rattle.pd_run.specs.declared.storing.StoreWork.{StoreWork}

module _ {N : Type 0} where
  -- so far each of the first stores got one of the first ports
  pub record Handed (ports left : List (Port N)) (olds rest news : List (StoreWork N)) : Type 0 where
    pub given : List (Port N)
    pub done : List (StoreWork N)
    pub ports_are : given ++ left ≡ ports
    pub stores_are : done ++ rest ≡ olds
    pub got : GotPorts given done news
    pub same : length left ≡ length rest

  got_push : (ports : List (Port N)) (olds news : List (StoreWork N)) (p : Port N) (old new : StoreWork N) → GotPorts ports olds news → GotPort p old new → GotPorts (ports ++ p ∷ []) (olds ++ old ∷ []) (news ++ new ∷ [])
  got_push [] [] [] p old new h one = (one, tt)
  got_push [] [] (n ∷ news) p old new h one = absurd h
  got_push [] (o ∷ olds) news p old new h one = absurd h
  got_push (q ∷ ports) [] news p old new h one = absurd h
  got_push (q ∷ ports) (o ∷ olds) [] p old new h one = absurd h
  got_push (q ∷ ports) (o ∷ olds) (n ∷ news) p old new h one = (h.0, got_push ports olds news p old new h.1 one)

  pub handed_none : (ports : List (Port N)) (olds : List (StoreWork N)) → length ports ≡ length olds → Handed ports ports olds olds []
  handed_none ports olds same = record { given = []; done = []; ports_are = refl; stores_are = refl; got = tt; same = same }

  pub handed_more : (ports left less : List (Port N)) (olds rest fewer news more : List (StoreWork N)) (p : Port N) (old new : StoreWork N) → Handed ports left olds rest news → left ≡ p ∷ less → rest ≡ old ∷ fewer → GotPort p old new → more ≡ news ++ new ∷ [] → Handed ports less olds fewer more
  handed_more ports left less olds rest fewer news more p old new h is store one grown = record {
    given = h.given ++ p ∷ [];
    done = h.done ++ old ∷ [];
    ports_are = append_assoc h.given (p ∷ []) less ∙ ap (λ l. h.given ++ l) (sym is) ∙ h.ports_are;
    stores_are = append_assoc h.done (old ∷ []) fewer ∙ ap (λ l. h.done ++ l) (sym store) ∙ h.stores_are;
    got = subst (GotPorts (h.given ++ p ∷ []) (h.done ++ old ∷ [])) (sym grown) (got_push h.given h.done news p old new h.got one);
    same = omega (arith, h.same, ap length is, ap length store);
  }

  none_left : (xs : List (Port N)) → length xs ≡ 0 → xs ≡ []
  none_left [] h = refl
  none_left (x ∷ xs) h = absurd (omega (arith, h))

  pub handed_all : (ports left : List (Port N)) (olds rest news : List (StoreWork N)) → Handed ports left olds rest news → rest ≡ [] → GotPorts ports olds news
  handed_all ports left olds rest news h none =
      let ports_all : h.given ≡ ports = sym (append-nil h.given) ∙ ap (λ l. h.given ++ l) (sym (none_left left (h.same ∙ ap length none))) ∙ h.ports_are in
      let stores_all : h.done ≡ olds = sym (append-nil h.done) ∙ ap (λ l. h.done ++ l) (sym none) ∙ h.stores_are in
      subst (λ (y : List (Port N) × List (StoreWork N)). GotPorts y.0 y.1 news) (λ i. (ports_all i, stores_all i)) h.got
