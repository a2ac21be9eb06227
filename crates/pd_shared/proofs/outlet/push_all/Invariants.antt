use Rattle.std.proofs.Common.{◌≡◌, length, take, drop}
use Rattle.std.specs.List.{AllZip}
use Rattle.pd_shared.specs.Outlets.{TookUp}
use Rattle.pd_shared.proofs.outlet.push_all.Given as goal

abbrev pub invariant-loop-outlet : goal.invariant-loop-outlet
invariant-loop-outlet g l =
    (length l.outlet-items ≡ length l.initial.outlet-items) × AllZip (TookUp l.sends) (take l.outlet-index l.initial.outlet-items) (take l.outlet-index l.outlet-items)
    × (drop l.outlet-index l.outlet-items ≡ drop l.outlet-index l.initial.outlet-items)
