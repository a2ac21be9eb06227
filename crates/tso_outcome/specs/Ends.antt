-- What a runner knows when its workers are joined, the post is closed and the ledger is gathered.
use Rattle.std.specs.Prelude.{◌≡◌, List, [], map, Contains}
use Rattle.tso_model.specs.declared.view.View.{View}
use Rattle.tso_model.specs.Moves.{numbers_from, driver_view, client_view}
use Rattle.tso_model.specs.Sound.{IsSetup}
use Rattle.tso_board.specs.Ledger.{GatheredFrom}
use Rattle.tso_client.specs.Posts.{IsPost, entries_of}
use Rattle.tso_outcome.specs.Drives.{Drove}
use Rattle.tso_outcome.specs.Clients.{Client, Drew}
use Rattle.tso_outcome.specs.Runs.{Run, DriverPart, ClientPart}

-- a driver's answers, and what it knows in the end
pub record DriverEnd : Type 0 where
  pub part : DriverPart
  pub view : View

-- a client's answers, and what it knows in the end
pub record ClientEnd : Type 0 where
  pub part : ClientPart
  pub last : Client

-- Each driver and client made its calls from a new seat or pass on, one after the other; the ledger is gathered from all of them; the post's journal is in order, and each client's entries in it are its own
pub record IsFinished (run : Run) : Type 0 where
  pub setup : IsSetup run.setup
  pub drivers : List DriverEnd
  pub clients : List ClientEnd
  pub drivers_are : run.drivers ≡ map (λ (e : DriverEnd). e.part) drivers
  pub clients_are : run.clients ≡ map (λ (e : ClientEnd). e.part) clients
  pub driver_numbers : map (λ (e : DriverEnd). e.part.number) drivers ≡ numbers_from 1 run.setup.drivers
  pub client_numbers : map (λ (e : ClientEnd). e.part.number) clients ≡ numbers_from 1 run.setup.clients
  pub drove : (e : DriverEnd) → Contains drivers e → Drove (driver_view run.setup e.part.number) e.part.answers e.view
  pub drew : (e : ClientEnd) → Contains clients e → Drew (record { view = client_view run.setup e.part.number; slip = [] }) e.part.answers e.last
  pub ledger : GatheredFrom run.setup (map (λ (e : DriverEnd). e.view) drivers) (map (λ (e : ClientEnd). e.last.view) clients) run.windows run.batches
  pub post : IsPost run.post
  pub slips : (e : ClientEnd) → Contains clients e → entries_of e.part.number run.post ≡ e.last.slip
