use Rattle.std.proofs.Common.{◌≡◌, ◌∷◌, take}
use Rattle.pd_shared.proofs.shared.numbers.Given as goal

abbrev pub invariant-loop-store : goal.invariant-loop-store
invariant-loop-store l = l.numbers ≡ 0 ∷ take l.store-index l.store-items
