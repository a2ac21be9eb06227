-- Each seat's view is a driver's and each pass's a client's, by their types.
use Rattle.std.proofs.Common.{ℕ, zero, suc, ◌+◌, ◌<◌, ◌≤◌, refl, sym, ap, ◌∙◌, arith, ◌≡◌, List, [], ◌∷◌, map, subst, ⊎_elim}
use Rattle.std.specs.Prelude.{Contains}
use Rattle.tso_model.specs.declared.view.View.{View}
use mathlib.Core.Logic.{dite}
use native.Mathlib.Decide.{ℕ_discrete}
use Rattle.tso_model.specs.declared.view.Setup.{Setup}
use Rattle.tso_model.specs.Moves.{numbers_from, driver_view, client_view}
use Rattle.tso_model.proofs.Basics.{in_cons, in_head, in_nil, in_tail}
use Rattle.tso_board.specs.declared.opening.Crew.{Crew}
use Rattle.tso_board.specs.Crews.{IsWhole}
use Rattle.tso_board.specs.Ledger.{HasEach}
use Rattle.tso_board.specs.Opened.{IsOpened}
use Rattle.tso_board.specs.declared.seat.DriverSeat.{DriverSeat}
use Rattle.tso_board.specs.declared.pass.Pass.{Pass}
use Rattle.tso_board.specs.Actors.{IsDriverView, IsClientView}
use Rattle.tso_board.specs.Seats.{seat_view}
use Rattle.tso_board.specs.Passes.{pass_view}

pub drivers_are : (ss : List DriverSeat) (w : View) → Contains (map seat_view ss) w → IsDriverView w
drivers_are [] w h = in_nil w h
drivers_are (s ∷ ss) w h = ⊎_elim (λ (e : seat_view s ≡ w). subst IsDriverView e s.drivers_alone) (λ (z : Contains (map seat_view ss) w). drivers_are ss w z) (in_cons (seat_view s) (map seat_view ss) w h)

pub clients_are : (ps : List Pass) (w : View) → Contains (map pass_view ps) w → IsClientView w
clients_are [] w h = in_nil w h
clients_are (p ∷ ps) w h = ⊎_elim (λ (e : pass_view p ≡ w). subst IsClientView e p.clients_alone) (λ (z : Contains (map pass_view ps) w). clients_are ps w z) (in_cons (pass_view p) (map pass_view ps) w h)

number_in : (a n x : ℕ) → a ≤ x → x < a + n → Contains (numbers_from a n) x
number_in a zero x ge lt = absurd (omega (arith, ge, lt))
number_in a (suc n) x ge lt = dite (ℕ_discrete a x)
    (λ e. subst (Contains (a ∷ numbers_from (a + 1) n)) e (in_head a (numbers_from (a + 1) n)))
    (λ ne. in_tail a (numbers_from (a + 1) n) x (number_in (a + 1) n x (omega (arith, ge, ne)) (omega (arith, lt))))

pub numbers_are_all : (n : ℕ) → HasEach n (numbers_from 1 n)
numbers_are_all n x pos le = number_in 1 n x (omega (arith, pos)) (omega (arith, le))

map_driver : (k : Setup) (ns : List ℕ) → map (λ (v : View). v.driver) (map (driver_view k) ns) ≡ ns
map_driver k [] = refl
map_driver k (n ∷ ns) = ap (λ (l : List ℕ). n ∷ l) (map_driver k ns)

map_client : (k : Setup) (ns : List ℕ) → map (λ (v : View). v.client) (map (client_view k) ns) ≡ ns
map_client k [] = refl
map_client k (n ∷ ns) = ap (λ (l : List ℕ). n ∷ l) (map_client k ns)

-- a crew is whole as it was opened
pub opened_is_whole : (k : Setup) (c : Crew) → IsOpened k c → IsWhole c
opened_is_whole k c o = record {
  seats = o.seats;
  passes = o.passes;
  drivers = λ x pos le. subst (λ (l : List ℕ). Contains l x) (sym (ap (map (λ (v : View). v.driver)) o.drivers ∙ map_driver k (numbers_from 1 k.drivers))) (numbers_are_all k.drivers x pos (omega (arith, le, ap (λ (s : Setup). s.drivers) o.setup)));
  clients = λ x pos le. subst (λ (l : List ℕ). Contains l x) (sym (ap (map (λ (v : View). v.client)) o.clients ∙ map_client k (numbers_from 1 k.clients))) (numbers_are_all k.clients x pos (omega (arith, le, ap (λ (s : Setup). s.clients) o.setup)));
}
