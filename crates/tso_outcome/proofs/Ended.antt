-- What a finished run has, as its proofs use it.
use Rattle.std.specs.Prelude.{◌≡◌, ◌≢◌, ℕ, ◌+◌, ◌<◌, List, [], ◌∷◌, map, Contains}
use Rattle.pd_types.specs.declared.oracle.Batch.{Batch}
use Rattle.tso_model.specs.declared.entries.Claim.{Claim}
use Rattle.tso_model.specs.declared.entries.Grant.{Grant}
use Rattle.tso_model.specs.declared.view.View.{View}
use Rattle.tso_model.specs.Lists.{total}
use Rattle.tso_model.specs.Words.{opening_claim}
use Rattle.tso_model.specs.History.{claims as of_view}
use Rattle.tso_model.specs.Ledger.{Gathered, IsDrawList, IsRisingBy, IsWindowList}
use Rattle.tso_model.specs.Sound.{IsSetup}
use Rattle.tso_model.specs.Moves.{driver_view, client_view}
use Rattle.tso_board.specs.Ledger.{Unites}
use Rattle.tso_client.specs.Posts.{IsPost, entries_of}
use Rattle.tso_outcome.specs.Drives.{Drove}
use Rattle.tso_outcome.specs.Clients.{Drew}
use Rattle.tso_outcome.specs.Runs.{Run}
use Rattle.tso_outcome.specs.Ends.{DriverEnd, ClientEnd}

-- no two have one number
abbrev pub AreDistinctBy : {A : Type 0} → (A → ℕ) → List A → Type 0
AreDistinctBy {A} number [] = Unit {0}
AreDistinctBy {A} number (x ∷ xs) = ((y : A) → Contains xs y → number x ≢ number y) × AreDistinctBy number xs

-- no number stands twice, and the ledger's lists rise
pub record CameBack (run : Run) : Type 0 where
  pub setup : IsSetup run.setup
  pub drivers : List DriverEnd
  pub clients : List ClientEnd
  pub drivers_are : run.drivers ≡ map (λ (e : DriverEnd). e.part) drivers
  pub clients_are : run.clients ≡ map (λ (e : ClientEnd). e.part) clients
  pub drove : (e : DriverEnd) → Contains drivers e → (0 < e.part.number) × Drove (driver_view run.setup e.part.number) e.part.answers e.view
  pub drew : (e : ClientEnd) → Contains clients e → (0 < e.part.number) × Drew (record { view = client_view run.setup e.part.number; slip = [] }) e.part.answers e.last
  pub drivers_once : AreDistinctBy (λ (e : DriverEnd). e.part.number) drivers
  pub clients_once : AreDistinctBy (λ (e : ClientEnd). e.part.number) clients
  pub view : View
  pub gathered : Gathered run.setup view
  pub unites : Unites view (map (λ (e : DriverEnd). e.view) drivers) (map (λ (e : ClientEnd). e.last.view) clients)
  pub claims : List Claim
  pub windows_are : run.windows ≡ map (λ (c : Claim). c.window) claims
  pub claims_rise : IsRisingBy (λ (c : Claim). c.window.term) claims
  pub claims_weigh : (f : Claim → ℕ) → total f claims ≡ total f (of_view view) + f (opening_claim run.setup.cell)
  pub batches_weigh : (f : Batch → ℕ) → total f run.batches ≡ total (λ (g : Grant). f g.batch) view.grants
  pub window_list : IsWindowList (opening_claim run.setup.cell) claims
  pub draw_list : IsDrawList claims run.batches
  pub post : IsPost run.post
  pub slips : (e : ClientEnd) → Contains clients e → entries_of e.part.number run.post ≡ e.last.slip
