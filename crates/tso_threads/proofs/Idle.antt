-- A new board's seats hold no term, and its passes are at rest.
use Rattle.std.proofs.Common.{◌≡◌, ℕ, suc, List, [], ◌∷◌, map, ap, arith}
use Rattle.std.specs.Prelude.{All}
use Rattle.std.proofs.lemmas.List.Elements.{All-cons, All-nil}
use Rattle.tso_model.specs.declared.view.View.{View}
use Rattle.tso_model.specs.declared.view.Setup.{Setup}
use Rattle.tso_board.specs.declared.pass.Pass.{Pass}
use Rattle.tso_board.specs.declared.seat.DriverSeat.{DriverSeat}
use Rattle.tso_board.specs.declared.board.Board.{Board}
use Rattle.tso_model.specs.Moves.{client_view, driver_view}
use Rattle.tso_board.specs.Passes.{IsPassOf, pass_view}
use Rattle.tso_board.specs.Seats.{IsSeatOf, seat_view}
use Rattle.tso_driver.specs.Settled.{IsSettled}
use Rattle.tso_threads.specs.Workers.{IsClientOf, IsIdleOf}

abbrev head_or : View → List View → View
head_or v [] = v
head_or v (w ∷ ws) = w

abbrev rest_or : List View → List View
rest_or [] = []
rest_or (v ∷ vs) = vs

-- passes that did nothing yet
pub are_clients : (k : Setup) (b : Board) (numbers : List ℕ) (passes : List Pass) → map pass_view passes ≡ map (client_view k) numbers → All (λ (p : Pass). IsPassOf p b) passes → All (IsClientOf b) passes
are_clients k b numbers [] e h = All-nil (IsClientOf b)
are_clients k b [] (p ∷ ps) e h = absurd (cc e)
are_clients k b (n ∷ ns) (p ∷ ps) e h =
    let is : pass_view p ≡ client_view k n = ap (head_or (pass_view p)) e in
    All-cons (IsClientOf b) p ps (h 0 p (omega arith), (ap (λ (v : View). v.hand) is, ap (λ (v : View). v.armed) is)) (are_clients k b ns ps (ap rest_or e) (λ i d lt. h (suc i) d (omega (arith, lt))))

settled : (k : Setup) (n : ℕ) (v : View) → v ≡ driver_view k n → IsSettled v
settled k n v e leads = absurd (cc (ap (λ (v : View). v.holds) e, leads))

-- seats that did nothing yet
pub are_idle : (k : Setup) (b : Board) (numbers : List ℕ) (seats : List DriverSeat) → map seat_view seats ≡ map (driver_view k) numbers → All (λ (s : DriverSeat). IsSeatOf s b) seats → All (IsIdleOf b) seats
are_idle k b numbers [] e h = All-nil (IsIdleOf b)
are_idle k b [] (s ∷ ss) e h = absurd (cc e)
are_idle k b (n ∷ ns) (s ∷ ss) e h = All-cons (IsIdleOf b) s ss (h 0 s (omega arith), settled k n (seat_view s) (ap (head_or (seat_view s)) e)) (are_idle k b ns ss (ap rest_or e) (λ i d lt. h (suc i) d (omega (arith, lt))))
