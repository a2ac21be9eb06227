-- What the oracle's part of a run is, once all workers are joined.
use Rattle.std.proofs.Common.{◌≡◌, ◌<◌, List, [], ◌∷◌, false, length, sym, refl, ap, ◌∙◌, arith, subst}
use Rattle.std.specs.Prelude.{map, All, Contains}
use Rattle.std.specs.List.{AllZip}
use Rattle.std.proofs.lemmas.List.Elements.{All-cons, All-contains, All-head, All-nil, All-tail}
use Rattle.atomic_table.specs.Seated.{TableId}
use Rattle.sched_api.specs.Benches.{Seats}
use Rattle.tso_model.specs.declared.view.View.{View}
use Rattle.tso_model.specs.Moves.{numbers_from, driver_view}
use Rattle.tso_model.specs.Sound.{IsSetup}
use Rattle.tso_model.proofs.Numbers.{numbers_length}
use Rattle.tso_board.specs.declared.board.Board.{Board}
use Rattle.tso_board.specs.declared.opening.Crew.{Crew}
use Rattle.tso_board.specs.declared.pass.Pass.{Pass}
use Rattle.tso_board.specs.declared.seat.DriverSeat.{DriverSeat}
use Rattle.tso_board.specs.Boards.{setup_of}
use Rattle.tso_board.specs.Crews.{IsWhole, ledger_batches, ledger_windows}
use Rattle.tso_board.specs.Ledger.{GatheredFrom, HasEach}
use Rattle.tso_board.specs.Passes.{IsPassOf, pass_view}
use Rattle.tso_board.specs.Seats.{IsSeatOf, seat_view}
use Rattle.tso_client.specs.Posts.{IsPost}
use Rattle.tso_client.specs.Slips.{IsInJournal, SlipValue}
use Rattle.tso_driver.specs.Drivers.{IsDriverOf, seat_of, view_of}
use Rattle.tso_outcome.specs.Drives.{Drove}
use Rattle.tso_outcome.specs.Ends.{DriverEnd, IsFinished}
use Rattle.tso_outcome.specs.Lawful.{IsLawful as IsLawfulOracle}
use Rattle.tso_outcome.specs.Runs.{Run as OracleRun}
use Rattle.tso_outcome.proofs.Above.{in_map, keep_batches}
use Rattle.tso_outcome.proofs.Again.{keep_refusals}
use Rattle.tso_outcome.proofs.Drives.{drove_driver}
use Rattle.tso_outcome.proofs.Finish.{came_back}
use Rattle.tso_outcome.proofs.Plans.{keep_windows}
use Rattle.tso_outcome.proofs.Terms.{keep_terms}
use Rattle.tso_run.specs.declared.caller.ClientWork.{ClientWork}
use Rattle.tso_run.specs.declared.line.ClientLine.{ClientLine}
use Rattle.tso_run.specs.Runs.{client_answers}
use Rattle.tso_run.specs.Works.{IsNewClient}
use Rattle.tso_run.proofs.Ending.{ClientDone, all_by, all_map, client_end, client_views, clients_done, clients_each, ends_drew, ends_numbers, ends_slips, has_each, map-map, map-same, parts_are, passes_are, slips_are}
use Rattle.tso_run.proofs.Rows.{rows_length}
use Rattle.pd_run.specs.Answers.{oracle_answers}
use Rattle.pd_run.specs.Crews.{CameFrom}
use Rattle.pd_run.specs.Ends.{driver_part_of}
use Rattle.pd_run.specs.Runs.{driver_part, oracle_part, run_of}
use Rattle.pd_run.specs.Works.{DriverWorked, IsNewDriver}
use Rattle.pd_run.specs.declared.answer.DriverAnswers.{DriverAnswers as DriverLeft}
use Rattle.pd_run.specs.declared.begin.Workers.{Workers}
use Rattle.pd_run.specs.declared.driving.DriverWork.{DriverWork}
use Rattle.pd_run.specs.declared.runner.Left.{Left}
use Rattle.pd_shared.specs.Names.{StreamName}
use Rattle.pd_shared.specs.Shares.{SharedValue}

-- a finished run of the oracle is lawful
pub lawful_oracle : (run : OracleRun) → IsFinished run → IsLawfulOracle run
lawful_oracle run f = let b = came_back run f in record { windows = keep_windows run b; batches = keep_batches run b; refusals = keep_refusals run b; terms = keep_terms run b }

-- DRIVERS
module _ {N B : Type 0} (seats : B → Seats) (board : Board) where
  pub record DriverDone (w : DriverWork N B) : Type 0 where
    pub board_is : IsDriverOf w.means.driver board
    pub number : (view_of w.means.driver).driver ≡ w.number
    pub drove : Drove (driver_view (setup_of board) w.number) (oracle_answers w.answers.items) (view_of w.means.driver)

  driver_done : (clusters : List SharedValue) (v w : DriverWork N B) → IsNewDriver board clusters v → DriverWorked seats board v w → w.failed ≡ false → DriverDone w
  driver_done clusters v w new worked fine =
      let first : view_of v.means.driver ≡ driver_view (setup_of board) w.number = new.view ∙ ap (driver_view (setup_of board)) (sym worked.number) in
      let drove : Drove (driver_view (setup_of board) w.number) (oracle_answers w.answers.items) (view_of w.means.driver) = subst (λ x. Drove x (oracle_answers w.answers.items) (view_of w.means.driver)) first (worked.drove fine) in
      record {
        board_is = worked.stays.board_is;
        number = drove_driver (driver_view (setup_of board) w.number) (oracle_answers w.answers.items) (view_of w.means.driver) drove;
        drove = drove;
      }

  pub drivers_done : (clusters : List SharedValue) (vs ws : List (DriverWork N B)) → All (IsNewDriver board clusters) vs → AllZip (DriverWorked seats board) vs ws → All (λ (w : DriverWork N B). w.failed ≡ false) ws
      → All DriverDone ws × (map (λ (w : DriverWork N B). w.number) ws ≡ map (λ (v : DriverWork N B). v.number) vs)
  drivers_done clusters [] [] new worked fine = (All-nil DriverDone, refl)
  drivers_done clusters [] (w ∷ ws) new worked fine = absurd worked
  drivers_done clusters (v ∷ vs) [] new worked fine = absurd worked
  drivers_done clusters (v ∷ vs) (w ∷ ws) new worked fine =
      let rest = drivers_done clusters vs ws (All-tail (IsNewDriver board clusters) v vs new) worked.1 (All-tail (λ (x : DriverWork N B). x.failed ≡ false) w ws fine) in
      let n : w.number ≡ v.number = worked.0.number in (
        All-cons DriverDone w ws (driver_done clusters v w (All-head (IsNewDriver board clusters) v vs new) worked.0 (All-head (λ (x : DriverWork N B). x.failed ≡ false) w ws fine)) rest.0,
        λ i. n i ∷ rest.1 i,
      )

  module _ (ds : List (DriverWork N B)) (drove : All DriverDone ds) (numbers : map (λ (w : DriverWork N B). w.number) ds ≡ numbers_from 1 (setup_of board).drivers) where
    abbrev pub driver_end : DriverWork N B → DriverEnd
    driver_end w = record { part = oracle_part (driver_part_of w); view = view_of w.means.driver }

    abbrev pub seat_at : DriverWork N B → DriverSeat
    seat_at w = seat_of w.means.driver

    pub seats_are : All (λ s. IsSeatOf s board) (map seat_at ds)
    seats_are = all_map (λ s. IsSeatOf s board) seat_at ds (all_by DriverDone (λ w. IsDriverOf w.means.driver board) (λ w d. d.board_is) ds drove)

    pub drivers_each : HasEach (setup_of board).drivers (map (λ (v : View). v.driver) (map seat_view (map seat_at ds)))
    drivers_each = has_each (setup_of board).drivers (map (λ (v : View). v.driver) (map seat_view (map seat_at ds)))
        (map-map (λ (v : View). v.driver) seat_view (map seat_at ds) ∙ map-map (λ s. (seat_view s).driver) seat_at ds
        ∙ map-same (λ (w : DriverWork N B). (view_of w.means.driver).driver) (λ (w : DriverWork N B). w.number) ds (all_by DriverDone (λ w. (view_of w.means.driver).driver ≡ w.number) (λ w d. d.number) ds drove) ∙ numbers)

    pub driver_views : map seat_view (map seat_at ds) ≡ map (λ (e : DriverEnd). e.view) (map driver_end ds)
    driver_views = map-map seat_view seat_at ds ∙ sym (map-map (λ (e : DriverEnd). e.view) driver_end ds)

    pub driver_numbers : map (λ (e : DriverEnd). e.part.number) (map driver_end ds) ≡ numbers_from 1 (setup_of board).drivers
    driver_numbers = map-map (λ (e : DriverEnd). e.part.number) driver_end ds ∙ numbers

    pub they_drove : (e : DriverEnd) → Contains (map driver_end ds) e → Drove (driver_view (setup_of board) e.part.number) e.part.answers e.view
    they_drove e there = let w = in_map driver_end ds e there in
        let done = All-contains DriverDone ds w.0 drove w.1 in
        subst (λ (x : DriverEnd). Drove (driver_view (setup_of board) x.part.number) x.part.answers x.view) w.2 done.drove

    pub drivers_are : (left : List DriverLeft) → map driver_part left ≡ map driver_part_of ds → map (λ (a : DriverLeft). oracle_part (driver_part a)) left ≡ map (λ (e : DriverEnd). e.part) (map driver_end ds)
    drivers_are left is = sym (map-map oracle_part driver_part left) ∙ ap (map oracle_part) is ∙ map-map oracle_part driver_part_of ds ∙ sym (map-map (λ (e : DriverEnd). e.part) driver_end ds)

-- ALL
module _ {N B : Type 0} (name : TableId) (names : List StreamName) (seats : B → Seats) (board : Board) (clients : List ClientLine) (first w : Workers N B) (from : CameFrom name names seats board clients first w) (setup : IsSetup (setup_of board))
    (fine : All (λ (x : DriverWork N B). x.failed ≡ false) w.drivers.items) (too : All (λ (x : ClientWork N). x.failed ≡ false) w.clients.items) where
  abbrev ds : List (DriverWork N B)
  ds = w.drivers.items

  abbrev cs : List (ClientWork N)
  cs = w.clients.items

  drove_all : All (DriverDone seats board) ds × (map (λ (x : DriverWork N B). x.number) ds ≡ map (λ (v : DriverWork N B). v.number) first.drivers.items)
  drove_all = drivers_done seats board first.clusters.items first.drivers.items ds from.ready.led.new from.worked.drove fine

  pub drove : All (DriverDone seats board) ds
  drove = drove_all.0

  pub numbered_drivers : map (λ (x : DriverWork N B). x.number) ds ≡ numbers_from 1 (setup_of board).drivers
  numbered_drivers = drove_all.1 ∙ from.ready.led.driver_numbers ∙ ap (numbers_from 1) from.ready.count

  called_all : All (ClientDone board w.post clients) cs × (map (λ (x : ClientWork N). x.number) cs ≡ map (λ (v : ClientWork N). v.number) first.clients.items)
  called_all =
      let new : All (IsNewClient name board w.post) first.clients.items = subst (λ p. All (IsNewClient name board p) first.clients.items) (sym from.worked.post) from.ready.clients in
      clients_done name board w.post clients first.clients.items cs new from.worked.called too

  pub called : All (ClientDone board w.post clients) cs
  called = called_all.0

  pub numbered_clients : map (λ (x : ClientWork N). x.number) cs ≡ numbers_from 1 (setup_of board).clients
  numbered_clients = called_all.1 ∙ from.ready.client_numbers

  pub some_slips : (slips : List SlipValue) → slips ≡ map (λ (x : ClientWork N). x.slip) cs → 0 < length slips
  some_slips slips e = omega (arith, setup.clients.0, ap length e, rows_length (λ (x : ClientWork N). x.slip) cs, rows_length (λ (x : ClientWork N). x.number) cs, ap length numbered_clients, numbers_length 1 (setup_of board).clients)

  pub its_slips : (slips : List SlipValue) → slips ≡ map (λ (x : ClientWork N). x.slip) cs → All (λ (s : SlipValue). s.post ≡ w.post) slips
  its_slips slips e = subst (All (λ (s : SlipValue). s.post ≡ w.post)) (sym e) (slips_are board w.post clients cs called numbered_clients)

  pub whole : (crew : Crew) → crew.board ≡ board → crew.seats.items ≡ map (λ (x : DriverWork N B). seat_of x.means.driver) ds → crew.passes.items ≡ map (λ (x : ClientWork N). x.pass) cs → IsWhole crew
  whole crew same given passes = record {
    seats = subst (λ (x : Board × List DriverSeat). All (λ s. IsSeatOf s x.0) x.1) (λ i. (sym same i, sym given i)) (seats_are seats board ds drove numbered_drivers);
    passes = subst (λ (x : Board × List Pass). All (λ p. IsPassOf p x.0) x.1) (λ i. (sym same i, sym passes i)) (passes_are board w.post clients cs called numbered_clients);
    drivers = subst (λ (x : Board × List DriverSeat). HasEach (setup_of x.0).drivers (map (λ (v : View). v.driver) (map seat_view x.1))) (λ i. (sym same i, sym given i)) (drivers_each seats board ds drove numbered_drivers);
    clients = subst (λ (x : Board × List Pass). HasEach (setup_of x.0).clients (map (λ (v : View). v.client) (map pass_view x.1))) (λ i. (sym same i, sym passes i)) (clients_each board w.post clients cs called numbered_clients);
  }

  pub ends_finished : (left : Left) (given : List DriverSeat) (passes : List Pass) (slips : List SlipValue) → given ≡ map (λ (x : DriverWork N B). seat_of x.means.driver) ds → passes ≡ map (λ (x : ClientWork N). x.pass) cs → slips ≡ map (λ (x : ClientWork N). x.slip) cs
      → map driver_part left.drivers.items ≡ map driver_part_of ds → left.clients.items ≡ map client_answers cs
      → GatheredFrom (setup_of board) (map seat_view given) (map pass_view passes) (ledger_windows left.ledger) (ledger_batches left.ledger) → IsPost left.post → All (IsInJournal left.post) slips → IsFinished (run_of (setup_of board) left).oracle
  ends_finished left given passes slips given_are passes_are slips_are drivers answers ledger in_order journal = record {
    setup = setup;
    drivers = map (driver_end seats board ds drove numbered_drivers) ds;
    clients = map (client_end board w.post clients cs called numbered_clients) cs;
    drivers_are = drivers_are seats board ds drove numbered_drivers left.drivers.items drivers;
    clients_are = parts_are board w.post clients cs called numbered_clients left.clients.items answers;
    driver_numbers = driver_numbers seats board ds drove numbered_drivers;
    client_numbers = ends_numbers board w.post clients cs called numbered_clients;
    drove = they_drove seats board ds drove numbered_drivers;
    drew = ends_drew board w.post clients cs called numbered_clients;
    ledger = subst (λ (vs : List View × List View). GatheredFrom (setup_of board) vs.0 vs.1 (ledger_windows left.ledger) (ledger_batches left.ledger))
        (λ i. (
          (ap (map seat_view) given_are ∙ driver_views seats board ds drove numbered_drivers) i,
          (ap (map pass_view) passes_are ∙ client_views board w.post clients cs called numbered_clients) i,
        )) ledger;
    post = in_order;
    slips = ends_slips board w.post clients cs called numbered_clients left.post (subst (All (IsInJournal left.post)) slips_are journal);
  }
