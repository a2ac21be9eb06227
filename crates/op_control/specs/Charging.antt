-- What an operator's steps take of the stores' limits (PD documentation, "Store Limit").
use Rattle.std.specs.Prelude.{ℕ, nat_lt, List, [], ◌∷◌, if◌then◌else◌, Option, Some, None}
use Rattle.pd_types.specs.declared.step.Step.{Step}
use Rattle.pd_types.specs.declared.step.Step.TheVariants as steps
use Rattle.std.specs.Option.{option_or}
use Rattle.store_limit.specs.declared.bucket.TheConstants.{PEER_UNITS}
use Rattle.store_limit.specs.declared.limits.LimitKind.{LimitKind}
use Rattle.store_limit.specs.declared.limits.LimitKind.TheVariants as kinds
use Rattle.store_limit.specs.declared.limits.Limited.{Limited}
use Rattle.store_limit.specs.Limits.{StoreLimits, available_in, taken}

-- AddLearner charges its store a new peer, RemovePeer one that leaves
abbrev pub charge_of : Step → Option (LimitKind × ℕ)
charge_of (steps.AddLearner peer store) = Some (kinds.AddPeer, store)
charge_of (steps.PromoteLearner peer store) = None
charge_of (steps.TransferLeader peer store) = None
charge_of (steps.RemovePeer peer store) = Some (kinds.RemovePeer, store)

-- the limits after that charge
abbrev pub charged_by : Option (LimitKind × ℕ) → StoreLimits → ℕ → StoreLimits
charged_by None limits now = limits
charged_by (Some charge) limits now = taken limits charge.1 charge.0 now

-- the limits after the charges of these steps, one after the other
abbrev pub after_charges : List Step → StoreLimits → ℕ → StoreLimits
after_charges [] limits now = limits
after_charges (step ∷ more) limits now = after_charges more (charged_by (charge_of step) limits now) now

-- fewer units than a peer's are there
abbrev pub refused_at : ℕ → Option Limited
refused_at available = if nat_lt available PEER_UNITS then Some (record { available = available; needed = PEER_UNITS }) else None

-- why the charge is refused
abbrev pub refused_by : Option (LimitKind × ℕ) → StoreLimits → ℕ → Option Limited
refused_by None limits now = None
refused_by (Some charge) limits now = refused_at (available_in limits charge.1 charge.0 now)

-- the first step that a store's limit refuses, after the charges of the steps before it
abbrev pub first_refused : List Step → StoreLimits → ℕ → Option Limited
first_refused [] limits now = None
first_refused (step ∷ more) limits now =
    option_or (refused_by (charge_of step) limits now) (first_refused more (charged_by (charge_of step) limits now) now)
