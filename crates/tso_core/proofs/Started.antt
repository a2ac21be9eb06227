-- Making an oracle: the base gives its numbers one by one, and the state is sound.
use Rattle.std.proofs.Common.{◌≡◌, ℕ, zero, suc, ◌+◌, ◌-◌, ◌*◌, ◌<◌, ◌≤◌, List, [], ◌∷◌, ◌++◌, length, get_or, set, map, refl, sym, ap, subst, ◌∙◌, arith, length-append}
use Rattle.std.proofs.lemmas.List.{append-nil, append_assoc, length-map, length-replicate, get_or-replicate, get_or_append_left, get_or-append_right, get_or-map}
use Rattle.std.specs.Prelude.{replicate}
use Rattle.pd_types.specs.declared.oracle.Batch.{Batch}
use Rattle.pd_types.specs.declared.oracle.Window.{Window}
use Rattle.tso_model.specs.declared.view.View.{View}
use Rattle.tso_model.specs.declared.view.Setup.{Setup}
use Rattle.tso_model.specs.Words.{opening_claim}
use Rattle.tso_model.specs.Moves.{blank, spent_view, numbers_from, first_words, driver_view, client_view}
use Rattle.tso_model.specs.Sound.{IsSetup}
use Rattle.tso_model.specs.Ledger.{Recorded}
use Rattle.tso_model.proofs.Moves.{starts, splits_driver, splits_client}
use Rattle.tso_model.proofs.Numbers.{numbers_at, numbers_length}
use Rattle.tso_core.specs.declared.turn.Turn.{Turn}
use Rattle.tso_core.specs.Due.{at_rest}
use Rattle.tso_core.specs.Whole.{base_view}
use Rattle.tso_core.specs.Sound.{DriverFits, IsClient, IsSound, waiting}
use Rattle.tso_core.specs.Opened.{first_views, opened}

pub first_set : (n x : ℕ) → (let l : List ℕ = set (replicate (n + 1) 0) 0 x in l) ≡ x ∷ replicate n 0
first_set n x = let e : n + 1 ≡ suc n = omega arith in ap (λ (m : ℕ). let l : List ℕ = set (replicate m 0) 0 x in l) e

no_wait : (id n : ℕ) → waiting id (replicate n []) ≡ 0
no_wait id zero = refl
no_wait id (suc n) = omega (arith, no_wait id n)

-- the base with these numbers and this quota to give
abbrev giving : Setup → List ℕ → List ℕ → ℕ → View
giving k ds cs q = record (blank k.cell) { give_drivers = ds; give_clients = cs; quota = q }

module _ (k : Setup) (ws : List Window) (bs : List Batch) where
  gives_drivers : (a n : ℕ) (cs : List ℕ) (q : ℕ) (got : List View) → Recorded k (first_words k) (giving k (numbers_from a n) cs q ∷ got) ws bs
      → Recorded k (first_words k) (giving k [] cs q ∷ (got ++ map (driver_view k) (numbers_from a n))) ws bs
  gives_drivers a zero cs q got s = subst (λ (l : List View). Recorded k (first_words k) (giving k [] cs q ∷ l) ws bs) (sym (append-nil got)) s
  gives_drivers a (suc n) cs q got s =
      subst (λ (l : List View). Recorded k (first_words k) (giving k [] cs q ∷ l) ws bs) (append_assoc got (driver_view k a ∷ []) (map (driver_view k) (numbers_from (a + 1) n)))
      (gives_drivers (a + 1) n cs q (got ++ driver_view k a ∷ [])
      (splits_driver k (first_words k) (giving k (a ∷ numbers_from (a + 1) n) cs q ∷ got) 0 a (numbers_from (a + 1) n) (giving k (a ∷ numbers_from (a + 1) n) cs q) ws bs s refl refl refl))

  gives_clients : (a n : ℕ) (got : List View) → Recorded k (first_words k) (giving k [] (numbers_from a n) (n * 262144) ∷ got) ws bs
      → Recorded k (first_words k) (giving k [] [] 0 ∷ (got ++ map (client_view k) (numbers_from a n))) ws bs
  gives_clients a zero got s = subst (λ (l : List View). Recorded k (first_words k) (giving k [] [] 0 ∷ l) ws bs) (sym (append-nil got)) s
  gives_clients a (suc n) got s =
      let left : suc n * 262144 - 262144 ≡ n * 262144 = omega arith in
      subst (λ (l : List View). Recorded k (first_words k) (giving k [] [] 0 ∷ l) ws bs) (append_assoc got (client_view k a ∷ []) (map (client_view k) (numbers_from (a + 1) n)))
      (gives_clients (a + 1) n (got ++ client_view k a ∷ [])
      (subst (λ (q : ℕ). Recorded k (first_words k) (giving k [] (numbers_from (a + 1) n) q ∷ (got ++ client_view k a ∷ [])) ws bs) left
      (splits_client k (first_words k) (giving k [] (a ∷ numbers_from (a + 1) n) (suc n * 262144) ∷ got) 0 a (numbers_from (a + 1) n) (giving k [] (a ∷ numbers_from (a + 1) n) (suc n * 262144)) ws bs s refl refl refl (omega arith) refl)))

module _ (k : Setup) (ok : IsSetup k) where
  all_given : Recorded k (first_words k) (first_views k) ((opening_claim k.cell).window ∷ []) []
  all_given = gives_clients k ((opening_claim k.cell).window ∷ []) [] 1 k.clients (map (driver_view k) (numbers_from 1 k.drivers))
      (gives_drivers k ((opening_claim k.cell).window ∷ []) [] 1 k.drivers (numbers_from 1 k.clients) (k.clients * 262144) [] (starts k ok))

  drivers_length : length (map (driver_view k) (numbers_from 1 k.drivers)) ≡ k.drivers
  drivers_length = length-map (numbers_from 1 k.drivers) (driver_view k) ∙ numbers_length 1 k.drivers

  clients_length : length (map (client_view k) (numbers_from 1 k.clients)) ≡ k.clients
  clients_length = length-map (numbers_from 1 k.clients) (client_view k) ∙ numbers_length 1 k.clients

  driver_at : (d : ℕ) → 0 < d → d ≤ k.drivers → get_or (first_views k) d spent_view ≡ driver_view k d
  driver_at zero pos low = absurd (omega arith)
  driver_at (suc e) pos low =
      let n : get_or (numbers_from 1 k.drivers) e 0 ≡ suc e = omega (arith, numbers_at 1 k.drivers e (omega arith)) in
      get_or_append_left (map (driver_view k) (numbers_from 1 k.drivers)) (map (client_view k) (numbers_from 1 k.clients)) spent_view e (omega (arith, drivers_length, low))
      ∙ get_or-map (driver_view k) (numbers_from 1 k.drivers) e 0 spent_view (omega (arith, numbers_length 1 k.drivers, low)) ∙ ap (λ (m : ℕ). driver_view k m) n

  pub client_at : (c : ℕ) → 0 < c → c ≤ k.clients → get_or (first_views k) (k.drivers + c) spent_view ≡ client_view k c
  client_at c pos low =
      let i : ℕ = k.drivers + c - (k.drivers + 1) in
      let n : get_or (numbers_from 1 k.clients) (k.drivers + c - (k.drivers + 1)) 0 ≡ c = omega (arith, pos, numbers_at 1 k.clients (k.drivers + c - (k.drivers + 1)) (omega (arith, pos, low))) in
      get_or-append_right (base_view k ∷ map (driver_view k) (numbers_from 1 k.drivers)) (map (client_view k) (numbers_from 1 k.clients)) (k.drivers + 1) (k.drivers + c) spent_view (omega (arith, drivers_length)) (omega (arith, pos))
      ∙ get_or-map (client_view k) (numbers_from 1 k.clients) (k.drivers + c - (k.drivers + 1)) 0 spent_view (omega (arith, numbers_length 1 k.clients, pos, low)) ∙ ap (λ (m : ℕ). client_view k m) n

  idle_driver : (d : ℕ) → DriverFits d at_rest (driver_view k d)
  idle_driver d = record { own = record { live = refl; driver = refl; quota = omega arith }; stands = (refl, λ holds. absurd (cc holds)) }

  pub opened_sound : IsSound (opened k)
  opened_sound = record {
    recorded = all_given;
    wide = omega (arith, length-append (base_view k ∷ map (driver_view k) (numbers_from 1 k.drivers)) (map (client_view k) (numbers_from 1 k.clients)), drivers_length, clients_length);
    turns = length-replicate (k.drivers + 1) at_rest;
    posts = length-replicate (k.clients + 1) [];
    drivers = λ d pos low. subst (λ (t : Turn). DriverFits d t (get_or (first_views k) d spent_view)) (sym (get_or-replicate (k.drivers + 1) d at_rest at_rest (omega (arith, low))))
        (subst (λ (v : View). DriverFits d at_rest v) (sym (driver_at d pos low)) (idle_driver d));
    clients = λ c pos low. subst (λ (v : View). IsClient k c v) (sym (client_at c pos low)) (record { live = refl; client = refl; driver = refl; cell = refl; quota = refl });
    notes = λ id waits. absurd (omega (arith, waits, no_wait id (k.clients + 1)));
    once = λ id. omega (arith, no_wait id (k.clients + 1));
  }
