-- What is gathered of a whole run. Own choice: a ledger is made of all seats and passes of one board, once nobody steps on it any more.
use Rattle.std.specs.Prelude.{◌≡◌, ℕ, ◌+◌, ◌<◌, ◌≤◌, List, [], ◌∷◌, ◌++◌, map, Contains}
use Rattle.pd_types.specs.declared.oracle.Batch.{Batch}
use Rattle.pd_types.specs.declared.oracle.CellWord.{CellWord}
use Rattle.pd_types.specs.declared.oracle.Seen.{Seen}
use Rattle.pd_types.specs.declared.oracle.Window.{Window}
use Rattle.tso_model.specs.declared.entries.Claim.{Claim}
use Rattle.tso_model.specs.declared.entries.Grant.{Grant}
use Rattle.tso_model.specs.declared.entries.Start.{Start}
use Rattle.tso_model.specs.declared.entries.Found.{Found}
use Rattle.tso_model.specs.declared.entries.Published.{Published}
use Rattle.tso_model.specs.declared.entries.Look.{Look}
use Rattle.tso_model.specs.declared.entries.Refusal.{Refusal}
use Rattle.tso_model.specs.declared.entries.Added.{Added}
use Rattle.tso_model.specs.declared.view.View.{View}
use Rattle.tso_model.specs.declared.view.Setup.{Setup}
use Rattle.tso_model.specs.Lists.{total}
use Rattle.tso_model.specs.Words.{opening_claim}
use Rattle.tso_model.specs.History.{claims, claims as of_view}
use Rattle.tso_model.specs.Moves.{blank, joined}
use Rattle.tso_model.specs.Ledger.{Gathered, IsDrawList, IsWindowList}

-- the view that all are joined into: it has seen something, and did nothing
abbrev pub first_in : CellWord → Seen → View
first_in opening seen = record (blank opening) { seen = seen }

-- the view into which all of these were joined, one after the other
abbrev pub all_joined : View → List View → View
all_joined v [] = v
all_joined v (w ∷ ws) = all_joined (joined v w) ws

-- the windows of all these views
abbrev pub all_claims : List View → List Claim
all_claims [] = []
all_claims (v ∷ vs) = claims v ++ all_claims vs

-- the batches of all these views
abbrev pub all_batches : List View → List Batch
all_batches [] = []
all_batches (v ∷ vs) = map (λ (g : Grant). g.batch) v.grants ++ all_batches vs

-- each number from 1 to n stands in the list
abbrev pub HasEach : ℕ → List ℕ → Type 0
HasEach n numbers = (x : ℕ) → 0 < x → x ≤ n → Contains numbers x

-- The lists of a view are those of these drivers and clients together, and it knows of the cell at least what each driver knew
pub record Unites (v : View) (drivers clients : List View) : Type 0 where
  pub claims : (f : Claim → ℕ) → total f (of_view v) ≡ total (λ (w : View). total f (of_view w)) drivers
  pub starts : (f : Start → ℕ) → total f v.starts ≡ total (λ (w : View). total f w.starts) drivers
  pub founds : (f : Found → ℕ) → total f v.founds ≡ total (λ (w : View). total f w.founds) drivers
  pub published : (f : Published → ℕ) → total f v.published ≡ total (λ (w : View). total f w.published) drivers
  pub grants : (f : Grant → ℕ) → total f v.grants ≡ total (λ (w : View). total f w.grants) clients
  pub looks : (f : Look → ℕ) → total f v.looks ≡ total (λ (w : View). total f w.looks) clients
  pub refusals : (f : Refusal → ℕ) → total f v.refusals ≡ total (λ (w : View). total f w.refusals) clients
  pub added : (f : Added → ℕ) → total f v.added ≡ total (λ (w : View). total f w.added) clients
  pub cells : (w : View) → Contains drivers w → (w.cell.term ≤ v.cell.term) × (w.cell.saved ≤ v.cell.saved)

-- A ledger's lists are gathered from these drivers and clients: one view has all their entries and meets the invariant as the whole run's; the windows are its windows with the opening one, and form a window list; the batches are its batches, and form a draw list over them
pub record GatheredFrom (k : Setup) (drivers clients : List View) (windows : List Window) (batches : List Batch) : Type 0 where
  pub view : View
  pub gathered : Gathered k view
  pub unites : Unites view drivers clients
  pub claims : List Claim
  pub windows_are : windows ≡ map (λ (c : Claim). c.window) claims
  pub claims_weigh : (f : Claim → ℕ) → total f claims ≡ total f (of_view view) + f (opening_claim k.cell)
  pub batches_weigh : (f : Batch → ℕ) → total f batches ≡ total (λ (g : Grant). f g.batch) view.grants
  pub window_list : IsWindowList (opening_claim k.cell) claims
  pub draw_list : IsDrawList claims batches
