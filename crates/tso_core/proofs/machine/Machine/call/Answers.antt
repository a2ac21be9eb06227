use Rattle.tso_core.specs.declared.reply.Kind.TheVariants.{Read}
use Rattle.tso_core.specs.declared.reply.Reply.TheVariants.{OutOfTurn}
use Rattle.tso_core.proofs.Going.{along_more}
use Rattle.tso_core.proofs.machine.Machine.call.Goals as goal

pub loop-kind-preserved : goal.loop-kind-preserved
loop-kind-preserved c =
    along_more c.reserve.new.self c.args.actor c.args.kinds.now (OutOfTurn c.due-due.result) c.loop-kind.kind-index c.loop-kind.self c.go-answer.new.self c.loop-kind.answer c.go-answer.result (Read 0)
    c.loop-kind.invariant c.loop-kind-test.true c.go-answer.ensures.goes c.go-answer.ensures.sound c.go-answer.ensures.setup
