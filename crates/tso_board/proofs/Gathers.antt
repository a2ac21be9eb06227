-- The lists of a view into which all drivers' and clients' views were joined are theirs together, and it has all their numbers.
use Rattle.std.proofs.Common.{◌≡◌, ℕ, ◌+◌, ◌≤◌, eqb, cond, List, [], ◌∷◌, ◌++◌, sym, refl, ap, ◌∙◌, subst, ⊎_elim, arith, max}
use Rattle.std.specs.Prelude.{Contains, map, option_to_list, reverse}
use Rattle.std.specs.List.Sorted.{IsNonDecreasingBy}
use Rattle.std.proofs.lemmas.List.Elements.{Contains-append_left}
use Rattle.pd_types.specs.declared.oracle.Batch.{Batch}
use Rattle.pd_types.specs.declared.oracle.CellWord.{CellWord}
use Rattle.pd_types.specs.declared.oracle.Seen.{Seen}
use Rattle.pd_types.specs.declared.oracle.Window.{Window}
use Rattle.tso_model.specs.declared.entries.Claim.{Claim}
use Rattle.tso_model.specs.declared.entries.Grant.{Grant}
use Rattle.tso_model.specs.declared.view.View.{View}
use Rattle.tso_model.specs.declared.view.Setup.{Setup}
use Rattle.tso_model.specs.Lists.{total, times}
use Rattle.tso_model.specs.History.{claims}
use Rattle.tso_model.specs.Words.{opening_claim}
use Rattle.tso_model.specs.Moves.{joined, joined_cell, upper}
use Rattle.tso_model.specs.Ledger.{Gathered, HasAll, drawn_by}
use Rattle.tso_model.proofs.Basics.{by_eq, in_head, in_tail, in_cons, in_nil}
use Rattle.tso_model.proofs.Sums.{total-append}
use Rattle.tso_model.proofs.Codes.{claim_code, claim_one, batch_code, batch_one}
use Rattle.tso_model.proofs.Sorted.{gathered_lists, windows_rise, batches_rise}
use Rattle.std.proofs.lemmas.List.{append_assoc, map-append}
use Rattle.tso_board.specs.declared.seat.DriverSeat.{DriverSeat}
use Rattle.tso_board.specs.declared.pass.Pass.{Pass}
use Rattle.tso_board.specs.Seats.{seat_view}
use Rattle.tso_board.specs.Passes.{pass_view}
use Rattle.tso_board.specs.Actors.{IsDriverView, IsClientView}
use Rattle.tso_board.specs.Ledger.{all_joined, first_in, all_claims, all_batches, HasEach, Unites, GatheredFrom}
use Rattle.tso_board.proofs.Risings.{rises_by}

pub joined_append : (v : View) (ds cs : List View) → all_joined v (ds ++ cs) ≡ all_joined (all_joined v ds) cs
joined_append v [] cs = refl
joined_append v (d ∷ ds) cs = joined_append (joined v d) ds cs

-- one field of all of them, added up
field_joined : {A : Type 0} (field : View → List A) (f : A → ℕ) → ((v w : View) → total f (field (joined v w)) ≡ total f (field v) + total f (field w))
    → (v : View) (ws : List View) → total f (field (all_joined v ws)) ≡ total f (field v) + total (λ (w : View). total f (field w)) ws
field_joined field f one v [] = omega arith
field_joined field f one v (w ∷ ws) = omega (arith, one v w, field_joined field f one (joined v w) ws)

claims_joined : (f : Claim → ℕ) (v w : View) → total f (claims (joined v w)) ≡ total f (claims v) + total f (claims w)
claims_joined f v w = omega (arith, total-append f (claims w ++ v.older) (option_to_list v.latest), total-append f (claims w) v.older, total-append f v.older (option_to_list v.latest))

base_stays : (v w : View) → v.driver ≡ 0 → joined_cell v w ≡ upper v.cell w.cell
base_stays v w e = by_eq (λ t. cond t (upper v.cell w.cell) v.cell ≡ upper v.cell w.cell) v.driver 0 (λ _. refl) (λ ne. absurd (ne e))

-- the base knows of the cell at least what each knew
cells_joined : (v : View) (ws : List View) → v.driver ≡ 0 → ((v.cell.term ≤ (all_joined v ws).cell.term) × (v.cell.saved ≤ (all_joined v ws).cell.saved))
    × ((w : View) → Contains ws w → (w.cell.term ≤ (all_joined v ws).cell.term) × (w.cell.saved ≤ (all_joined v ws).cell.saved))
cells_joined v [] e = ((omega arith, omega arith), λ w h. in_nil w h)
cells_joined v (w ∷ ws) e =
    let cell = base_stays v w e in
    let rest = cells_joined (joined v w) ws e in
    let up : ((joined v w).cell.term ≡ max v.cell.term w.cell.term) × ((joined v w).cell.saved ≡ max v.cell.saved w.cell.saved) = ((λ i. (cell i).term), (λ i. (cell i).saved)) in (
      (omega (arith, up.0, rest.0.0), omega (arith, up.1, rest.0.1)),
      λ x h. ⊎_elim
          (λ (s : w ≡ x). (omega (arith, up.0, rest.0.0, ap (λ (y : View). y.cell.term) s), omega (arith, up.1, rest.0.1, ap (λ (y : View). y.cell.saved) s)))
          (λ (z : Contains ws x). rest.1 x z)
          (in_cons w ws x h),
    )

-- where a field is empty in each
none_total : {A : Type 0} (field : View → List A) (f : A → ℕ) (ws : List View) → ((w : View) → Contains ws w → field w ≡ []) → (let n : ℕ = total (λ (w : View). total f (field w)) ws in n) ≡ 0
none_total field f [] each = refl
none_total field f (w ∷ ws) each = omega (arith, ap (total f) (each w (in_head w ws)), none_total field f ws (λ x h. each x (in_tail w ws x h)))

no_claims : (w : View) → IsClientView w → claims w ≡ []
no_claims w c = λ i. c.older i ++ option_to_list (c.latest i)

module _ (cell : CellWord) (seen : Seen) (ds cs : List View) (driver : (w : View) → Contains ds w → IsDriverView w) (client : (w : View) → Contains cs w → IsClientView w) where
  together : Unites (all_joined (first_in cell seen) (ds ++ cs)) ds cs
  together = record {
    claims = λ f. omega (arith, all claims f (claims_joined f), none_total claims f cs (λ w h. no_claims w (client w h)));
    starts = λ f. omega (arith, all (λ w. w.starts) f (λ v w. total-append f v.starts w.starts), none_total (λ w. w.starts) f cs (λ w h. (client w h).starts));
    founds = λ f. omega (arith, all (λ w. w.founds) f (λ v w. total-append f v.founds w.founds), none_total (λ w. w.founds) f cs (λ w h. (client w h).founds));
    published = λ f. omega (arith, all (λ w. w.published) f (λ v w. total-append f v.published w.published), none_total (λ w. w.published) f cs (λ w h. (client w h).published));
    grants = λ f. omega (arith, all (λ w. w.grants) f (λ v w. total-append f v.grants w.grants), none_total (λ w. w.grants) f ds (λ w h. (driver w h).grants));
    looks = λ f. omega (arith, all (λ w. w.looks) f (λ v w. total-append f v.looks w.looks), none_total (λ w. w.looks) f ds (λ w h. (driver w h).looks));
    refusals = λ f. omega (arith, all (λ w. w.refusals) f (λ v w. total-append f v.refusals w.refusals), none_total (λ w. w.refusals) f ds (λ w h. (driver w h).refusals));
    added = λ f. omega (arith, all (λ w. w.added) f (λ v w. total-append f v.added w.added), none_total (λ w. w.added) f ds (λ w h. (driver w h).added));
    cells = λ w h. (cells_joined (first_in cell seen) (ds ++ cs) refl).1 w (Contains-append_left ds cs w h);
  }
    where
      all : {A : Type 0} (field : View → List A) (f : A → ℕ) → ((v w : View) → total f (field (joined v w)) ≡ total f (field v) + total f (field w))
          → total f (field (all_joined (first_in cell seen) (ds ++ cs))) ≡ total f (field (first_in cell seen)) + (total (λ (w : View). total f (field w)) ds + total (λ (w : View). total f (field w)) cs)
      all field f one = omega (arith, field_joined field f one (first_in cell seen) (ds ++ cs), total-append (λ (w : View). total f (field w)) ds cs)

  pub unites : Unites (all_joined (all_joined (first_in cell seen) ds) cs) ds cs
  unites = subst (λ (v : View). Unites v ds cs) (joined_append (first_in cell seen) ds cs) together

-- NUMBERS
one_time : (n m : ℕ) → n ≡ m → 1 ≤ cond (eqb n m) 1 0
one_time n m e = by_eq (λ b. 1 ≤ cond b 1 0) n m (λ _. omega arith) (λ ne. absurd (ne e))

drivers_kept : (x : ℕ) (v : View) (ws : List View) → times x v.took_drivers ≤ times x (all_joined v ws).took_drivers
drivers_kept x v [] = omega arith
drivers_kept x v (w ∷ ws) = omega (arith, drivers_kept x (joined v w) ws, total-append (λ y. cond (eqb y x) 1 0) v.took_drivers (w.driver ∷ w.took_drivers))

drivers_taken : (x : ℕ) (v : View) (ws : List View) → Contains (map (λ (w : View). w.driver) ws) x → 1 ≤ times x (all_joined v ws).took_drivers
drivers_taken x v [] h = in_nil x h
drivers_taken x v (w ∷ ws) h = ⊎_elim
    (λ (e : w.driver ≡ x). omega (arith, drivers_kept x (joined v w) ws, total-append (λ y. cond (eqb y x) 1 0) v.took_drivers (w.driver ∷ w.took_drivers), one_time w.driver x e))
    (λ (z : Contains (map (λ (u : View). u.driver) ws) x). drivers_taken x (joined v w) ws z)
    (in_cons w.driver (map (λ (u : View). u.driver) ws) x h)

clients_kept : (x : ℕ) (v : View) (ws : List View) → times x v.took_clients ≤ times x (all_joined v ws).took_clients
clients_kept x v [] = omega arith
clients_kept x v (w ∷ ws) = omega (arith, clients_kept x (joined v w) ws, total-append (λ y. cond (eqb y x) 1 0) v.took_clients (w.client ∷ w.took_clients))

clients_taken : (x : ℕ) (v : View) (ws : List View) → Contains (map (λ (w : View). w.client) ws) x → 1 ≤ times x (all_joined v ws).took_clients
clients_taken x v [] h = in_nil x h
clients_taken x v (w ∷ ws) h = ⊎_elim
    (λ (e : w.client ≡ x). omega (arith, clients_kept x (joined v w) ws, total-append (λ y. cond (eqb y x) 1 0) v.took_clients (w.client ∷ w.took_clients), one_time w.client x e))
    (λ (z : Contains (map (λ (u : View). u.client) ws) x). clients_taken x (joined v w) ws z)
    (in_cons w.client (map (λ (u : View). u.client) ws) x h)

pub has_all : (k : Setup) (v : View) (ds cs : List View) → HasEach k.drivers (map (λ (w : View). w.driver) ds) → HasEach k.clients (map (λ (w : View). w.client) cs) → HasAll k (all_joined (all_joined v ds) cs)
has_all k v ds cs drivers clients = record {
  drivers = λ x pos le. omega (arith, drivers_taken x v ds (drivers x pos le), drivers_kept x (all_joined v ds) cs);
  clients = λ x pos le. omega (arith, clients_taken x (all_joined v ds) cs (clients x pos le));
}

-- ONE MORE SEAT OR PASS
pub claims_step : (ss rest : List DriverSeat) (s : DriverSeat) (old new all : List Claim) → ss ≡ s ∷ rest → new ≡ old ++ claims (seat_view s) → old ++ all_claims (map seat_view ss) ≡ all → new ++ all_claims (map seat_view rest) ≡ all
claims_step ss rest s old new all is more was =
    ap (λ (l : List Claim). l ++ all_claims (map seat_view rest)) more ∙ append_assoc old (claims (seat_view s)) (all_claims (map seat_view rest))
    ∙ sym (ap (λ (l : List DriverSeat). old ++ all_claims (map seat_view l)) is) ∙ was

pub batches_step : (ps rest : List Pass) (p : Pass) (old new all : List Batch) → ps ≡ p ∷ rest → new ≡ old ++ map (λ (g : Grant). g.batch) (pass_view p).grants → old ++ all_batches (map pass_view ps) ≡ all → new ++ all_batches (map pass_view rest) ≡ all
batches_step ps rest p old new all is more was =
    ap (λ (l : List Batch). l ++ all_batches (map pass_view rest)) more ∙ append_assoc old (map (λ (g : Grant). g.batch) (pass_view p).grants) (all_batches (map pass_view rest))
    ∙ sym (ap (λ (l : List Pass). old ++ all_batches (map pass_view l)) is) ∙ was

-- THE LEDGER
claims_total : (f : Claim → ℕ) (vs : List View) → total f (all_claims vs) ≡ total (λ (w : View). total f (claims w)) vs
claims_total f [] = refl
claims_total f (v ∷ vs) = omega (arith, total-append f (claims v) (all_claims vs), claims_total f vs)

batch_total : (f : Batch → ℕ) (gs : List Grant) → total f (map (λ (g : Grant). g.batch) gs) ≡ total (λ (g : Grant). f g.batch) gs
batch_total f [] = refl
batch_total f (g ∷ gs) = omega (arith, batch_total f gs)

batches_total : (f : Batch → ℕ) (vs : List View) → total f (all_batches vs) ≡ total (λ (w : View). total (λ (g : Grant). f g.batch) w.grants) vs
batches_total f [] = refl
batches_total f (v ∷ vs) = omega (arith, total-append f (map (λ (g : Grant). g.batch) v.grants) (all_batches vs), batch_total f v.grants, batches_total f vs)

module _ (k : Setup) (ds cs : List View) (driver : (w : View) → Contains ds w → IsDriverView w) (client : (w : View) → Contains cs w → IsClientView w) (cell : CellWord) (seen : Seen) (g : Gathered k (all_joined (all_joined (first_in cell seen) ds) cs)) where
  abbrev whole : View
  whole = all_joined (all_joined (first_in cell seen) ds) cs

  -- the sorted windows and batches of all are the ledger
  pub gathered : (xs : List Claim) (ws : List Window) (bs : List Batch) → ws ≡ map (λ (c : Claim). c.window) xs
      → IsNonDecreasingBy (λ (c : Claim). c.window.term) xs → ((f : Claim → ℕ) → total f xs ≡ total f (all_claims ds) + f (opening_claim k.cell))
      → IsNonDecreasingBy (λ (b : Batch). b.last) bs → ((f : Batch → ℕ) → total f bs ≡ total f (all_batches cs)) → GatheredFrom k ds cs ws bs
  gathered xs ws bs are sorted weigh rising weigh' =
      let u = unites cell seen ds cs driver client in
      let claims_weigh : (f : Claim → ℕ) → total f xs ≡ total f (claims whole) + f (opening_claim k.cell) = λ f. omega (arith, weigh f, claims_total f ds, u.claims f) in
      let batches_weigh : (f : Batch → ℕ) → total f bs ≡ total (λ (g : Grant). f g.batch) whole.grants = λ f. omega (arith, weigh' f, batches_total f cs, u.grants (λ (g : Grant). f g.batch)) in
      let rise = rises_by (λ (c : Claim). c.window.term) claim_code claim_one (reverse (g.history.newest ∷ g.history.past)) (windows_rise (opening_claim k.cell) _ g.a.windows) xs sorted (λ f. omega (arith, claims_weigh f, g.a.claims f)) in
      let climb = rises_by (λ (b : Batch). b.last) batch_code batch_one (drawn_by g.history.drawn (g.history.newest ∷ g.history.past)) (batches_rise _ _ g.b.draws) bs rising (λ f. omega (arith, batches_weigh f, g.b.batches f)) in
      let lists = gathered_lists k whole xs bs g rise claims_weigh climb batches_weigh in
      record { view = whole; gathered = g; unites = u; claims = xs; windows_are = are; claims_weigh = claims_weigh; batches_weigh = batches_weigh; window_list = lists.0; draw_list = lists.1 }

-- THE LAST SEAT
-- the seats without the last were joined into the base, and then the last one, and the passes
pub joined_whole : (cell : CellWord) (seen : Seen) (base after own next all : View) (ss rest : List DriverSeat) (last : DriverSeat) (cs : List View) → ss ≡ rest ++ last ∷ []
    → base ≡ first_in cell seen → after ≡ all_joined base (map seat_view rest) → own ≡ seat_view last → next ≡ joined after own → all ≡ all_joined next cs
    → all ≡ all_joined (all_joined (first_in cell seen) (map seat_view ss)) cs
joined_whole cell seen base after own next all ss rest last cs are is is_after is_own is_next is_all =
    let seats : all_joined (first_in cell seen) (map seat_view ss) ≡ joined (all_joined (first_in cell seen) (map seat_view rest)) (seat_view last) =
    ap (λ (l : List DriverSeat). all_joined (first_in cell seen) (map seat_view l)) are ∙ ap (all_joined (first_in cell seen)) (map-append seat_view rest (last ∷ [])) ∙ joined_append (first_in cell seen) (map seat_view rest) (seat_view last ∷ []) in
    is_all ∙ ap (λ (v : View). all_joined v cs) (is_next ∙ (λ i. joined ((is_after ∙ ap (λ (v : View). all_joined v (map seat_view rest)) is) i) (is_own i)) ∙ sym seats)
