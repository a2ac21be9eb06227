-- The ports of a store: one of them does something, and the others stay.
use Rattle.std.proofs.Common.{◌≡◌, ℕ, zero, suc, ◌+◌, ◌-◌, ◌<◌, eqb, cond, List, [], ◌∷◌, ◌++◌, get_or, length, set, refl, sym, ap, ◌∙◌, subst, arith, eq-eqb, ne_eqb}
use mathlib.Core.Logic.{dite}
use native.Mathlib.Decide.{ℕ_discrete}
use Rattle.std.proofs.lemmas.List.{append-nil}
use Rattle.pd_shared.specs.Shares.{SharedValue}
use Rattle.pd_run.specs.Answers.{taken}
use Rattle.pd_run.specs.Tasks.{GoesTo}
use Rattle.pd_run.specs.Turns.{own_at, taken_at}
use Rattle.pd_run.specs.Works.{ArePorts, IsPort, PortDone, StaysPort, listed_at, made_at, popped_at, streams_at}
use Rattle.pd_run.specs.declared.answer.StoreSays.{StoreSays}
use Rattle.pd_run.specs.declared.line.StoreLine.{StoreLine}
use Rattle.pd_run.specs.declared.storing.Port.{Port}

module _ {N : Type 0} where
  -- as many ports as clusters
  pub ports_length : (store : ℕ) (clusters : List SharedValue) (ports : List (Port N)) → ArePorts store clusters ports → length ports ≡ length clusters
  ports_length store [] [] h = refl
  ports_length store [] (p ∷ ports) h = absurd h
  ports_length store (c ∷ clusters) [] h = absurd h
  ports_length store (c ∷ clusters) (p ∷ ports) h = ap suc (ports_length store clusters ports h.1)

  -- the port at a place is one to the cluster there
  pub port_at : (store : ℕ) (clusters : List SharedValue) (ports : List (Port N)) (place : ℕ) (c : SharedValue) (p : Port N) → ArePorts store clusters ports → place < length clusters → IsPort store (get_or clusters place c) (get_or ports place p)
  port_at store [] ports place c p h lt = absurd (omega (arith, lt))
  port_at store (k ∷ clusters) [] place c p h lt = absurd h
  port_at store (k ∷ clusters) (q ∷ ports) zero c p h lt = h.0
  port_at store (k ∷ clusters) (q ∷ ports) (suc place) c p h lt = port_at store clusters ports place c p h.1 (omega (arith, lt))

  stays_port : (store : ℕ) (cluster : SharedValue) (old new : Port N) → IsPort store cluster old → StaysPort old new → IsPort store cluster new
  stays_port store cluster old new h s = record { cluster_is = s.cluster_is ∙ h.cluster_is; actor_is = s.actor_is ∙ h.actor_is; stream_is = s.stream_is }

  pub ports_stay : (store : ℕ) (clusters : List SharedValue) (ports : List (Port N)) (place : ℕ) (p new : Port N) → ArePorts store clusters ports → place < length ports → StaysPort (get_or ports place p) new → ArePorts store clusters (set ports place new)
  ports_stay store clusters [] place p new h lt s = absurd (omega (arith, lt))
  ports_stay store [] (q ∷ ports) place p new h lt s = absurd h
  ports_stay store (c ∷ clusters) (q ∷ ports) zero p new h lt s = (stays_port store c q new h.0 s, h.1)
  ports_stay store (c ∷ clusters) (q ∷ ports) (suc place) p new h lt s = (h.0, ports_stay store clusters ports place p new h.1 (omega (arith, lt)) s)

  pub streams_stay : (ports : List (Port N)) (place : ℕ) (p new : Port N) → place < length ports → StaysPort (get_or ports place p) new → streams_at (set ports place new) ≡ streams_at ports
  streams_stay [] place p new lt s = refl
  streams_stay (q ∷ ports) zero p new lt s = ap (λ x. x ∷ streams_at ports) s.taker_is
  streams_stay (q ∷ ports) (suc place) p new lt s = ap (λ xs. q.taker.stream ∷ xs) (streams_stay ports place p new (omega (arith, lt)) s)

eqb_suc : (a b : ℕ) → eqb (suc a) (suc b) ≡ eqb a b
eqb_suc a b = dite (ℕ_discrete a b)
    (λ same. eq-eqb (suc a) (suc b) (ap suc same) ∙ sym (eq-eqb a b same))
    (λ other. ne_eqb (suc a) (suc b) (λ h. other (omega (arith, h))) ∙ sym (ne_eqb a b other))

-- what is said of one driver and isn't of another
missed : {X : Type 0} (n d : ℕ) (own xs : List X) → (n ≡ d → ⊥) → xs ≡ xs ++ cond (eqb n d) own []
missed n d own xs other = sym (ap (λ b. xs ++ cond b own []) (ne_eqb n d other) ∙ append-nil xs)

met : {X : Type 0} (n d : ℕ) (own xs ys : List X) → n ≡ d → ys ≡ xs ++ own → ys ≡ xs ++ cond (eqb n d) own []
met n d own xs ys same is = is ∙ sym (ap (λ b. xs ++ cond b own []) (eq-eqb n d same))

module _ {N X : Type 0} (list : Port N → List X) where
  -- where the list of one port grew, it is that of its driver alone
  pub grown : (ports : List (Port N)) (place n : ℕ) (p new : Port N) (own : List X) → n ≡ place + 1 → place < length ports → p ≡ get_or ports place p → list new ≡ list p ++ own → (d : ℕ)
      → listed_at list (set ports place new) d ≡ listed_at list ports d ++ cond (eqb n d) own []
  grown [] place n p new own at lt is more d = absurd (omega (arith, lt))
  grown (q ∷ ports) zero n p new own at lt is more zero = missed n 0 own [] (λ h. absurd (omega (arith, h, at)))
  grown (q ∷ ports) zero n p new own at lt is more (suc zero) = met n 1 own (list q) (list new) (omega (arith, at)) (more ∙ ap (λ x. list x ++ own) is)
  grown (q ∷ ports) zero n p new own at lt is more (suc (suc d)) = missed n (suc (suc d)) own (listed_at list ports (suc d)) (λ h. absurd (omega (arith, h, at)))
  grown (q ∷ ports) (suc place) n p new own at lt is more zero = missed n 0 own [] (λ h. absurd (omega (arith, h, at)))
  grown (q ∷ ports) (suc place) n p new own at lt is more (suc zero) = missed n 1 own (list q) (λ h. absurd (omega (arith, h, at)))
  grown (q ∷ ports) (suc place) n p new own at lt is more (suc (suc d)) =
      let m : n ≡ suc (place + 1) = omega (arith, at) in
      grown ports place (place + 1) p new own refl (omega (arith, lt)) is more (suc d)
      ∙ ap (λ b. listed_at list ports (suc d) ++ cond b own []) (sym (eqb_suc (place + 1) (suc d)) ∙ ap (λ k. eqb k (suc (suc d))) (sym m))

module _ {N : Type 0} (store : ℕ) (clusters : List SharedValue) (ports : List (Port N)) (are : ArePorts store clusters ports) (line : StoreLine) (goes : GoesTo (length clusters) line) (p new : Port N) (is : p ≡ get_or ports (line.driver - 1) p) (stays : StaysPort p new) where
  low : line.driver - 1 < length ports
  low = omega (arith, goes.0, goes.1, ports_length store clusters ports are)

  at : line.driver ≡ line.driver - 1 + 1
  at = omega (arith, goes.0)

  stays_there : StaysPort (get_or ports (line.driver - 1) p) new
  stays_there = subst (λ x. StaysPort x new) is stays

  pub ports_after : ArePorts store clusters (set ports (line.driver - 1) new)
  ports_after = ports_stay store clusters ports (line.driver - 1) p new are low stays_there

  pub streams_after : streams_at (set ports (line.driver - 1) new) ≡ streams_at ports
  streams_after = streams_stay ports (line.driver - 1) p new low stays_there

  module _ (says : StoreSays) (done : PortDone line.number line.task says p new) where
    pub made_after : (d : ℕ) → made_at (set ports (line.driver - 1) new) d ≡ made_at ports d ++ own_at d (record { line = line; says = says; own = done.own })
    made_after d = grown (λ (x : Port N). x.share.list) ports (line.driver - 1) line.driver p new done.own at low is done.list d

    pub popped_after : (d : ℕ) → popped_at (set ports (line.driver - 1) new) d ≡ popped_at ports d ++ taken_at d (record { line = line; says = says; own = done.own })
    popped_after d = grown (λ (x : Port N). x.taker.list) ports (line.driver - 1) line.driver p new (taken says) at low is done.popped d
