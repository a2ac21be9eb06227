-- What may be asked for: the numbers of actors and counts in range.
use Rattle.std.specs.Prelude.{ℕ, ◌<◌, ◌≤◌}
use Rattle.pd_types.specs.declared.oracle.Actor.{Actor}
use Rattle.pd_types.specs.declared.oracle.Actor.TheVariants.{Driver, Client, Store}
use Rattle.pd_types.specs.declared.stamp.TheConstants.{MAX_COUNT}
use Rattle.tso_model.specs.declared.view.Setup.{Setup}
use Rattle.tso_core.specs.declared.reply.Kind.{Kind}
use Rattle.tso_core.specs.declared.reply.Kind.TheVariants.{Look, Arm}
use Rattle.tso_core.specs.Sound.{HasDriver, HasClient}

-- the driver or client is one of the oracle's; a store makes no step
abbrev pub HasActor : Setup → Actor → Type 0
HasActor k (Driver d) = HasDriver k d
HasActor k (Client c) = HasClient k c
HasActor k (Store s) = Unit {0}

-- a count of timestamps that fits the logical part
pub record IsCount (n : ℕ) : Type 0 where
  pub some : 0 < n
  pub most : n ≤ MAX_COUNT

-- the driver that a look names and the count that an arm names are in range
abbrev pub IsAsked : Setup → Kind → Type 0
IsAsked k (Look d) = HasDriver k d
IsAsked k (Arm n) = IsCount n
IsAsked k kind = Unit {0}
