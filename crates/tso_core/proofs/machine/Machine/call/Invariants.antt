use Rattle.tso_core.proofs.Going.{IsAlong}
use Rattle.tso_core.proofs.machine.Machine.call.Given as goal

abbrev pub invariant-loop-kind : goal.invariant-loop-kind
invariant-loop-kind l = IsAlong l.initial.self l.actor l.kinds l.initial.answer l.kind-index l.self l.answer
