-- From the seats, streams and lines of a run to what its drivers begin with.
use Rattle.std.proofs.Common.{◌≡◌, ℕ, zero, suc, ◌+◌, ◌-◌, ◌<◌, ◌==◌, cond, List, [], ◌∷◌, ◌++◌, length, map, refl, sym, ap, ◌∙◌, arith, subst, eq-eqb, ne_eqb}
use Rattle.std.specs.Prelude.{All}
use Rattle.std.proofs.lemmas.List.{append-nil}
use Rattle.std.proofs.lemmas.List.Elements.{All-head, All-tail, filter-append}
use Rattle.pd_run.proofs.Lists.{head_or, rest_of}
use Rattle.pd_turn.specs.Turns.{TurnValue}
use Rattle.tso_model.specs.Moves.{numbers_from, driver_view}
use Rattle.tso_board.specs.declared.board.Board.{Board}
use Rattle.tso_board.specs.declared.seat.DriverSeat.{DriverSeat}
use Rattle.tso_board.specs.Boards.{setup_of}
use Rattle.tso_board.specs.Seats.{IsSeatOf, seat_view}
use Rattle.tso_run.proofs.Rows.{row_length, rows_length}
use Rattle.meta_store.specs.Seats.{AreOpened, SeatValue, new_seat}
use Rattle.pd_shared.specs.Names.{StreamName, streams_of}
use Rattle.pd_run.specs.Crews.{AreStarts}
use Rattle.pd_run.specs.Pipes.{ArePipesTo, names_from, pipe_name}
use Rattle.pd_run.specs.Starts.{AreHandedOut, AreNewSeats, AreSpareSeats}
use Rattle.pd_run.specs.declared.begin.Start.{Start}
use Rattle.pd_run.specs.declared.pipe.Pipe.{Pipe}

-- the turn of the first seat
abbrev pub turn_of_seats : TurnValue → List SeatValue → TurnValue
turn_of_seats none [] = none
turn_of_seats none (seat ∷ seats) = seat.turn

-- a seat for each driver
pub seats_count : (board : Board) (seats : List DriverSeat) → map seat_view seats ≡ map (driver_view (setup_of board)) (numbers_from 1 (setup_of board).drivers) → length seats ≡ (setup_of board).drivers
seats_count board seats views =
    let e : length (map seat_view seats) ≡ length (map (driver_view (setup_of board)) (numbers_from 1 (setup_of board).drivers)) = ap length views in
    let a = rows_length seat_view seats in
    let b = row_length (driver_view (setup_of board)) 1 (setup_of board).drivers in
    omega (arith, e, a, b)

-- STREAMS
-- the streams of one driver's pipes are all of that driver, and of no other
own_streams : (driver : ℕ) (pipes : List Pipe) → streams_of driver (map (pipe_name driver) pipes) ≡ map (pipe_name driver) pipes
own_streams driver [] = refl
own_streams driver (p ∷ pipes) = ap (λ b. cond b (pipe_name driver p ∷ streams_of driver (map (pipe_name driver) pipes)) (streams_of driver (map (pipe_name driver) pipes))) (eq-eqb driver driver refl) ∙ ap (λ l. pipe_name driver p ∷ l) (own_streams driver pipes)

others_streams : (driver other : ℕ) (pipes : List Pipe) → (other ≡ driver → ⊥) → streams_of driver (map (pipe_name other) pipes) ≡ []
others_streams driver other [] apart = refl
others_streams driver other (p ∷ pipes) apart =
    ap (λ b. cond b (pipe_name other p ∷ streams_of driver (map (pipe_name other) pipes)) (streams_of driver (map (pipe_name other) pipes))) (ne_eqb other driver apart) ∙ others_streams driver other pipes apart

streams_append : (driver : ℕ) (xs ys : List StreamName) → streams_of driver (xs ++ ys) ≡ streams_of driver xs ++ streams_of driver ys
streams_append driver xs ys = filter-append (λ (name : StreamName). name.driver == driver) xs ys

-- drivers before the first have no streams
none_before : (driver first : ℕ) (pipes : List (List Pipe)) → driver < first → streams_of driver (names_from first pipes) ≡ []
none_before driver first [] low = refl
none_before driver first (one ∷ pipes) low =
    streams_append driver (map (pipe_name first) one) (names_from (first + 1) pipes)
    ∙ (λ i. others_streams driver first one (λ same. absurd (omega (arith, same, low))) i ++ none_before driver (first + 1) pipes (omega (arith, low)) i)

pub first_streams : (driver : ℕ) (one : List Pipe) (pipes : List (List Pipe)) → streams_of driver (names_from driver (one ∷ pipes)) ≡ map (pipe_name driver) one
first_streams driver one pipes =
    streams_append driver (map (pipe_name driver) one) (names_from (driver + 1) pipes)
    ∙ (λ i. own_streams driver one i ++ none_before driver (driver + 1) pipes (omega arith) i) ∙ append-nil (map (pipe_name driver) one)

pub later_streams : (driver first : ℕ) (one : List Pipe) (pipes : List (List Pipe)) → first < driver → streams_of driver (names_from first (one ∷ pipes)) ≡ streams_of driver (names_from (first + 1) pipes)
later_streams driver first one pipes low =
    streams_append driver (map (pipe_name first) one) (names_from (first + 1) pipes)
    ∙ ap (λ l. l ++ streams_of driver (names_from (first + 1) pipes)) (others_streams driver first one (λ same. absurd (omega (arith, same, low))))

-- SEATS AT THE METADATA
pub opened_seats : (seats : List SeatValue) (none : TurnValue) → AreOpened seats → AreNewSeats (turn_of_seats none seats) seats
opened_seats seats none opened = subst (λ (l : List SeatValue). AreNewSeats (turn_of_seats none l) l) (sym opened.seats) (record { numbers = opened.numbers; seats_are = refl })

pub eight_seats : (meta : TurnValue) (seats : List SeatValue) → AreNewSeats meta seats → length seats ≡ 8
eight_seats meta seats new = ap length new.seats_are

-- behind the first of a row stands the rest of it
rest_of_row : (meta : TurnValue) (a n : ℕ) (xs ys : List SeatValue) → xs ++ ys ≡ map (new_seat meta) (numbers_from a n) → ys ≡ map (new_seat meta) (numbers_from (a + length xs) (n - length xs))
rest_of_row meta a n [] ys is = is ∙ (λ i. map (new_seat meta) (numbers_from (first i) (count i)))
  where
    first : a ≡ a + 0
    first = omega arith

    count : n ≡ n - 0
    count = omega arith
rest_of_row meta a zero (x ∷ xs) ys is = absurd (let e : suc (length (xs ++ ys)) ≡ 0 = ap length is in omega (arith, e))
rest_of_row meta a (suc n) (x ∷ xs) ys is = rest_of_row meta (a + 1) n xs ys (ap rest_of is) ∙ (λ i. map (new_seat meta) (numbers_from (first i) (count i)))
  where
    first : a + 1 + length xs ≡ a + suc (length xs)
    first = omega arith

    count : n - length xs ≡ suc n - suc (length xs)
    count = omega arith

pub handed_row : (meta : TurnValue) (given old new : List SeatValue) → AreNewSeats meta old → AreHandedOut given old new → (others : List SeatValue) × (given ++ others ≡ map (new_seat meta) (numbers_from 1 7)) × (new ≡ new_seat meta 0 ∷ others)
handed_row meta given old new seats handed =
    let whole : handed.first ∷ (given ++ handed.others) ≡ new_seat meta 0 ∷ map (new_seat meta) (numbers_from 1 7) = sym handed.old_are ∙ seats.seats_are in
    let first : handed.first ≡ new_seat meta 0 = ap (head_or handed.first) whole in
    (handed.others, ap rest_of whole, handed.new_are ∙ ap (λ s. s ∷ handed.others) first)

pub spare_seats : (meta : TurnValue) (drivers : ℕ) (given old new : List SeatValue) → AreNewSeats meta old → AreHandedOut given old new → length given ≡ drivers → AreSpareSeats meta drivers new
spare_seats meta drivers given old new seats handed count =
    let row = handed_row meta given old new seats handed in record {
      numbers = seats.numbers;
      seats_are = row.2 ∙ ap (λ l. new_seat meta 0 ∷ l) (rest_of_row meta 1 7 given row.0 row.1 ∙ (λ i. map (new_seat meta) (numbers_from (first i) (left i))));
    }
  where
    first : 1 + length given ≡ drivers + 1
    first = omega (arith, count)

    left : 7 - length given ≡ 7 - drivers
    left = omega (arith, count)

-- WHAT DRIVERS BEGIN WITH
module _ {B : Type 0} (board : Board) (meta : TurnValue) (names : List StreamName) (stores : List ℕ) where
  abbrev pub pipes_at : Start B → List Pipe
  pipes_at s = s.pipes.items

  are_starts : (before n m : ℕ) (starts : List (Start B)) (others : List SeatValue) → map (λ (s : Start B). s.driver) starts ≡ numbers_from (before + 1) n → map seat_view (map (λ (s : Start B). s.oracle) starts) ≡ map (driver_view (setup_of board)) (numbers_from (before + 1) n)
      → All (λ (s : DriverSeat). IsSeatOf s board) (map (λ (s : Start B). s.oracle) starts) → map (λ (s : Start B). s.meta) starts ++ others ≡ map (new_seat meta) (numbers_from (before + 1) m) → All (ArePipesTo stores) (map pipes_at starts)
      → ((d : ℕ) → before < d → streams_of d names ≡ streams_of d (names_from (before + 1) (map pipes_at starts))) → AreStarts board meta names stores before starts
  are_starts before n m [] others numbers views seats metas pipes streams = tt
  are_starts before zero m (s ∷ starts) others numbers views seats metas pipes streams = absurd (let e : suc (length (map (λ (x : Start B). x.driver) starts)) ≡ 0 = ap length numbers in omega (arith, e))
  are_starts before (suc n) zero (s ∷ starts) others numbers views seats metas pipes streams = absurd (let e : suc (length (map (λ (x : Start B). x.meta) starts ++ others)) ≡ 0 = ap length metas in omega (arith, e))
  are_starts before (suc n) (suc m) (s ∷ starts) others numbers views seats metas pipes streams = (
    record {
      driver = ap (head_or s.driver) numbers;
      oracle_is = All-head (λ (x : DriverSeat). IsSeatOf x board) s.oracle (map (λ (x : Start B). x.oracle) starts) seats;
      view = ap (head_or (seat_view s.oracle)) views;
      meta_is = ap (head_or s.meta) metas;
      pipes = All-head (ArePipesTo stores) s.pipes.items (map pipes_at starts) pipes;
      listed = streams (before + 1) (omega arith) ∙ first_streams (before + 1) s.pipes.items (map pipes_at starts);
    },
    are_starts (before + 1) n m starts others (ap rest_of numbers) (ap rest_of views) (All-tail (λ (x : DriverSeat). IsSeatOf x board) s.oracle (map (λ (x : Start B). x.oracle) starts) seats) (ap rest_of metas)
        (All-tail (ArePipesTo stores) s.pipes.items (map pipes_at starts) pipes)
        (λ d low. streams d (omega (arith, low)) ∙ later_streams d (before + 1) s.pipes.items (map pipes_at starts) low),
  )

  pub all_starts : (n : ℕ) (starts : List (Start B)) (seats : List DriverSeat) (old new : List SeatValue) (pipes : List (List Pipe)) → map (λ (s : Start B). s.driver) starts ≡ numbers_from 1 n → map (λ (s : Start B). s.oracle) starts ≡ seats
      → map seat_view seats ≡ map (driver_view (setup_of board)) (numbers_from 1 n) → All (λ (s : DriverSeat). IsSeatOf s board) seats → AreNewSeats meta old → AreHandedOut (map (λ (s : Start B). s.meta) starts) old new
      → map pipes_at starts ≡ pipes → All (ArePipesTo stores) pipes → names ≡ names_from 1 pipes → AreStarts board meta names stores 0 starts
  all_starts n starts seats old new pipes numbers oracle views boards opened handed same to streams =
      let row = handed_row meta (map (λ (s : Start B). s.meta) starts) old new opened handed in
      are_starts 0 n 7 starts row.0 numbers (ap (map seat_view) oracle ∙ views) (subst (All (λ (s : DriverSeat). IsSeatOf s board)) (sym oracle) boards) row.1 (subst (All (ArePipesTo stores)) (sym same) to)
      (λ d low. ap (streams_of d) (streams ∙ ap (names_from 1) (sym same)))
