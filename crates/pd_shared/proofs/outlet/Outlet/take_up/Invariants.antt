use Rattle.std.proofs.Common.{take}
use Rattle.pd_shared.specs.Outlets.{TookUp}
use Rattle.pd_shared.proofs.outlet.Outlet.take_up.Given as goal

abbrev pub invariant-loop-msg : goal.invariant-loop-msg
invariant-loop-msg g l = TookUp (take l.msg-index l.sends) l.initial.self l.self
