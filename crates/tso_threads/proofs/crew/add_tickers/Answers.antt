use Rattle.std.proofs.Common.{subst, sym}
use Rattle.std.specs.Prelude.{All}
use Rattle.std.proofs.lemmas.List.Elements.{All-push, All-rest}
use Rattle.tso_threads.specs.Workers.{IsIdleOf, IsWorkerOf}
use Rattle.tso_threads.specs.declared.crew.Worker.TheVariants.{Ticks}
use Rattle.tso_threads.proofs.crew.add_tickers.Goals as goal

pub loop-seat-preserved : goal.loop-seat-preserved
loop-seat-preserved c =
    let it = c.loop-seat.invariant in (
      All-rest (IsIdleOf c.args.board.now) _ _ _ c.in-Some.ensures.steps.0 it.0,
      subst (All (IsWorkerOf c.args.board.now)) (sym c.in_ok-push.ensures.items)
          (All-push (IsWorkerOf c.args.board.now) c.loop-seat.workers.items (Ticks (record { driver = c.lead.new.self; eager = c.args.eager })) it.1 c.lead.ensures.board),
    )
