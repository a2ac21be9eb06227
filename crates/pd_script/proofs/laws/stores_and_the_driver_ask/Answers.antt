use Rattle.std.proofs.Common.{◌≡◌, ◌⊎◌, inl, inr, ℕ, refl}
use Rattle.pd_types.specs.declared.oracle.Actor.TheVariants.{Driver, Store}
use Rattle.pd_types.specs.declared.request.Request.{Request}
use Rattle.pd_types.specs.declared.request.Request.TheVariants.{Hello, Alive, Beat}
use Rattle.pd_script.specs.Scripts.{asker}
use Rattle.pd_script.proofs.laws.stores_and_the_driver_ask.Goals as goal

asks : (driver : ℕ) (request : Request) → (asker driver request ≡ Driver driver) ⊎ ((store : ℕ) × (asker driver request ≡ Store store))
asks driver (Hello store moment address labels) = inr (store, refl)
asks driver (Alive store moment) = inr (store, refl)
asks driver (Beat store moment beat) = inr (store, refl)
asks driver _ = inl refl

pub returns-clause-stores : goal.returns-clause-stores
returns-clause-stores c = asks
