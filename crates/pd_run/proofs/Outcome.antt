-- What a run leaves is lawful, and answers its tasks.
use Rattle.std.proofs.Common.{◌≡◌, ℕ, ◌+◌, ◌-◌, List, [], ◌∷◌, ◌++◌, false, length, map, reverse, refl, sym, ap, ◌∙◌, subst}
use Rattle.std.specs.Prelude.{All, Contains, flat_map}
use Rattle.std.specs.List.{AllZip}
use Rattle.std.proofs.lemmas.List.Elements.{All-append, All-cons, All-head, All-nil, All-tail}
use Rattle.atomic_table.specs.Seated.{TableId}
use Rattle.pd_turn.specs.Turns.{AreApart, TurnValue}
use Rattle.sched_api.specs.Benches.{Seats}
use Rattle.tso_model.specs.Moves.{numbers_from}
use Rattle.tso_model.specs.Sound.{IsSetup}
use Rattle.tso_model.proofs.Numbers.{numbers_length}
use Rattle.tso_board.specs.declared.board.Board.{Board}
use Rattle.tso_board.specs.Boards.{setup_of}
use Rattle.tso_outcome.specs.Lawful.{IsLawful as IsLawfulOracle}
use Rattle.tso_run.specs.declared.caller.ClientWork.{ClientWork}
use Rattle.tso_run.specs.declared.line.ClientLine.{ClientLine}
use Rattle.tso_run.specs.Runs.{client_answers}
use Rattle.tso_run.proofs.Ending.{all_map, map-map, parts_lines, parts_numbers}
use Rattle.meta_store.specs.declared.record.MetaEntry.{MetaEntry}
use Rattle.meta_store.specs.Past.{IsLegal as IsLegalMeta}
use Rattle.meta_store.specs.Seats.{AreOf, AreSeatsOf, IsHeard, SeatValue, new_seat}
use Rattle.pd_shared.specs.Names.{StreamName}
use Rattle.pd_state.specs.Clusters.{ClusterValue}
use Rattle.pd_run.specs.Crews.{CameFrom}
use Rattle.pd_run.specs.Ends.{AreClosed, IsDriversOwn, driver_part_of, lent, part_of}
use Rattle.pd_run.specs.Heard.{AreHeard}
use Rattle.pd_run.specs.Runs.{AnswersTasks, DriverPart, DriversAnswer, IsLawful, IsLawfulJournal, StoreAnswersLines, StorePart, driver_part, journal_of, oracle_part, run_of, store_part}
use Rattle.pd_run.specs.Starts.{AreDealt, AreSpareSeats}
use Rattle.pd_run.specs.declared.begin.Workers.{Workers}
use Rattle.pd_run.specs.declared.driving.DriverWork.{DriverWork}
use Rattle.pd_run.specs.declared.runner.Left.{Left}
use Rattle.pd_run.specs.declared.storing.StoreWork.{StoreWork}
use Rattle.tso_run.proofs.Rows.{rows_length}
use Rattle.pd_run.proofs.Finishing.{called, numbered_clients, numbered_drivers}
use Rattle.pd_run.proofs.Judging.{benches_heard, closed_numbers, closed_seats, driver_lines, drivers_answer, lawful_journals, store_lines, stores_answer, stores_made, took_popped}
use Rattle.pd_run.proofs.Leading.{zip_length}
use Rattle.pd_run.proofs.Spare.{alone}

-- what is true of all is true of those at the front, and of those behind
pub all_front : {A : Type 0} (P : A → Type 0) (xs ys : List A) → All P (xs ++ ys) → All P xs
all_front P [] ys all = All-nil P
all_front P (x ∷ xs) ys all = All-cons P x xs (All-head P x (xs ++ ys) all) (all_front P xs ys (All-tail P x (xs ++ ys) all))

pub all_behind : {A : Type 0} (P : A → Type 0) (xs ys : List A) → All P (xs ++ ys) → All P ys
all_behind P [] ys all = all
all_behind P (x ∷ xs) ys all = all_behind P xs ys (All-tail P x (xs ++ ys) all)

-- the seats that come back are those of the metadata
pub seats_of_meta : {N : Type 0} (meta : TurnValue) (ws : List (StoreWork N)) (drivers : ℕ) (spare back all : List SeatValue) (clusters : List ClusterValue) → AreSpareSeats meta drivers spare → AreClosed meta ws 1 clusters back → all ≡ spare ++ back → AreSeatsOf meta all
seats_of_meta meta ws drivers spare back all clusters are closed is = subst (AreSeatsOf meta) (sym is) (All-append (λ (s : SeatValue). s.turn ≡ meta) spare back of_spare (closed_seats meta ws 1 clusters back closed))
  where
    of_spare : AreSeatsOf meta spare
    of_spare = subst (AreSeatsOf meta) (sym are.seats_are) (all_map (λ (s : SeatValue). s.turn ≡ meta) (new_seat meta) (0 ∷ numbers_from (drivers + 1) (7 - drivers)) (λ k d low. refl))

module _ {N B : Type 0} (name : TableId) (names : List StreamName) (seats : B → Seats) (board : Board) (clients : List ClientLine) (first w : Workers N B) (from : CameFrom name names seats board clients first w) (setup : IsSetup (setup_of board))
    (fine : All (λ (x : DriverWork N B). x.failed ≡ false) w.drivers.items) (too : All (λ (x : ClientWork N). x.failed ≡ false) w.clients.items) (stores_fine : All (λ (x : StoreWork N). x.failed ≡ false) w.stores.items)
    (meta : TurnValue) (left : Left) (back : List SeatValue) (closed : AreClosed meta w.stores.items 1 left.clusters.items back) (own : AllZip IsDriversOwn w.drivers.items left.clusters.items) where
  count : length left.clusters.items ≡ (setup_of board).drivers
  count =
      zip_length IsDriversOwn w.drivers.items left.clusters.items own ∙ sym (rows_length (λ (x : DriverWork N B). x.number) w.drivers.items)
      ∙ ap length (numbered_drivers name names seats board clients first w from setup fine too) ∙ numbers_length 1 (setup_of board).drivers

  pub lawful_run : AreApart (0 ∷ map (λ (x : StoreWork N). x.store) w.stores.items) → map store_part left.stores.items ≡ map part_of w.stores.items → (spare : List SeatValue) → AreSpareSeats meta (setup_of board).drivers spare
      → IsLegalMeta (reverse left.meta) → All (IsHeard left.meta) spare → All (IsHeard left.meta) back → AreOf meta.numbers left.meta → IsLawfulOracle (run_of (setup_of board) left).oracle → IsLawful (run_of (setup_of board) left)
  lawful_run apart stores spare are legal heard heard_too of oracle = record {
    oracle = oracle;
    told = sym (map-map oracle_part driver_part left.drivers.items);
    journals = subst (λ (parts : List StorePart). All (IsLawfulJournal parts left.meta) (map journal_of left.clusters.items)) (sym stores)
        (lawful_journals meta w.stores.items apart left.meta (took_popped first.clusters.items first.stores.items w.stores.items from.worked.acted stores_fine) 1 left.clusters.items back closed heard_too);
    metadata = legal;
    alone = subst (λ (ns : List ℕ). All (λ (e : MetaEntry). Contains ns e.driver) left.meta) (sym (closed_numbers meta w.stores.items 1 left.clusters.items back closed ∙ ap (numbers_from 1) count))
        (alone meta (setup_of board).drivers setup.drivers.1 spare are left.meta heard of);
  }

  pub answers_run : map driver_part left.drivers.items ≡ map driver_part_of w.drivers.items → left.clients.items ≡ map client_answers w.clients.items → map store_part left.stores.items ≡ map part_of w.stores.items
      → AnswersTasks (map driver_lines first.drivers.items) clients (map store_lines first.stores.items) (run_of (setup_of board) left)
  answers_run drivers answers stores =
      let cs = called name names seats board clients first w from setup fine too in
      let numbers = numbered_clients name names seats board clients first w from setup fine too in
      record {
        driver_numbers = ap (map (λ (p : DriverPart). p.number)) drivers ∙ map-map (λ (p : DriverPart). p.number) driver_part_of w.drivers.items ∙ numbered_drivers name names seats board clients first w from setup fine too;
        client_numbers = parts_numbers board w.post clients w.clients.items cs numbers left.clients.items answers;
        drivers_answer = subst (λ (parts : List DriverPart). DriversAnswer (map driver_lines first.drivers.items) parts (map journal_of left.clusters.items)) (sym drivers)
            (drivers_answer seats board first.drivers.items w.drivers.items left.clusters.items from.worked.drove fine own);
        client_lines = parts_lines board w.post clients w.clients.items cs numbers left.clients.items answers;
        stores_answer = subst (AllZip (StoreAnswersLines (map journal_of left.clusters.items)) (map store_lines first.stores.items)) (sym stores)
            (stores_answer (map journal_of left.clusters.items) first.clusters.items first.stores.items w.stores.items from.worked.acted stores_fine (stores_made meta w.stores.items 1 left.clusters.items back closed));
      }

  pub heard_run : (benches others all : List B) → AreDealt benches (map (λ (x : DriverWork N B). x.means.bench) first.drivers.items) others → all ≡ flat_map (λ (x : DriverWork N B). lent x.means.bench) w.drivers.items ++ others
      → AreHeard 1 (map (λ (c : ClusterValue). c.entries) left.clusters.items) (map seats benches) (map seats all)
  heard_run benches others all dealt is = subst (λ (l : List B). AreHeard 1 (map (λ (c : ClusterValue). c.entries) left.clusters.items) (map seats benches) (map seats l)) (sym is)
      (benches_heard seats board 1 (setup_of board).drivers first.drivers.items w.drivers.items left.clusters.items benches others (numbered_drivers name names seats board clients first w from setup fine too) from.worked.drove fine own dealt)
