use Rattle.std.proofs.Common.{arith, subst, sym}
use Rattle.std.specs.Prelude.{All}
use Rattle.std.proofs.lemmas.List.Elements.{All-push, All-rest}
use Rattle.tso_threads.specs.Workers.{IsClientOf, IsWorkerOf}
use Rattle.tso_threads.specs.declared.crew.Worker.TheVariants.{Draws}
use Rattle.tso_threads.proofs.crew.add_drawers.Goals as goal

pub loop-pass-preserved : goal.loop-pass-preserved
loop-pass-preserved c =
    let it = c.loop-pass.invariant in
    let client = (subst (All (IsClientOf c.args._board.now)) c.in-Some.ensures.steps.0 it.0) 0 c.in-Some.pass (omega arith) in (
      All-rest (IsClientOf c.args._board.now) _ _ _ c.in-Some.ensures.steps.0 it.0,
      subst (All (IsWorkerOf c.args._board.now)) (sym c.in_ok-push.ensures.items)
          (All-push (IsWorkerOf c.args._board.now) c.loop-pass.workers.items (Draws (record { pass = c.in-Some.pass; times = c.args.times; count = c.args.count; drawn = 0; keeps = c.args.keeps; got = c.new-got.result })) it.1 (client, c.requires.count.0, c.requires.count.1)),
    )
