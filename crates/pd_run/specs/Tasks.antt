-- What a runner may be handed.
use Rattle.std.specs.Prelude.{◌≡◌, ℕ, ◌<◌, ◌≤◌, ◌∷◌, All, length, map}
use Rattle.pd_turn.specs.Turns.{AreApart}
use Rattle.tso_model.specs.declared.view.Setup.{Setup}
use Rattle.tso_run.specs.Lines.{IsCall}
use Rattle.pd_run.specs.declared.line.StoreLine.{StoreLine}
use Rattle.pd_run.specs.declared.line.StoreLines.{StoreLines}
use Rattle.pd_run.specs.declared.line.Tasks.{Tasks}

-- the line goes to one of so many drivers' clusters
abbrev pub GoesTo : ℕ → StoreLine → Type 0
GoesTo drivers line = (0 < line.driver) × (line.driver ≤ drivers)

-- The lines of the drivers and clients of this setup, and of stores, no two with one id and none with the id 0, each to one of these drivers' clusters
pub record AreTasks (k : Setup) (tasks : Tasks) : Type 0 where
  pub drivers : length tasks.drivers.items ≡ k.drivers
  pub calls : All (λ line. IsCall k line.ask) tasks.clients.items
  pub stores : AreApart (0 ∷ map (λ (s : StoreLines). s.store) tasks.stores.items)
  pub within : All (λ (s : StoreLines). All (GoesTo k.drivers) s.lines.items) tasks.stores.items
