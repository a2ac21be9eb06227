use Rattle.std.proofs.Common.{◌≡◌, [], drop}
use Rattle.pd_script.specs.Scripts.{stores_from}
use Rattle.pd_script.proofs.limits.stores.Given as goal

abbrev pub invariant-loop-numbered : goal.invariant-loop-numbered
invariant-loop-numbered l = stores_from [] l.events ≡ stores_from l.stores.keys (drop l.numbered-index l.events)
