use Rattle.std.proofs.Common.{arith, ◌≤◌, ap, ◌∙◌, subst, sym}
use Rattle.std.specs.Prelude.{All}
use Rattle.std.proofs.lemmas.List.Elements.{All-rest}
use Rattle.tso_board.specs.declared.seat.DriverSeat.{DriverSeat}
use Rattle.tso_board.specs.Seats.{seat_spare}
use Rattle.tso_board.proofs.Giving.{all_more}
use Rattle.tso_threads.specs.Workers.{IsContenderOf, IsIdleOf}
use Rattle.tso_threads.proofs.leading.contenders_of.Goals as goal

pub loop-seat-preserved : goal.loop-seat-preserved
loop-seat-preserved c =
    let it = c.loop-seat.invariant in
    let idle = (subst (All (IsIdleOf c.args.board.now)) c.in-Some.ensures.steps.0 it.0) 0 c.in-Some.seat (omega arith) in (
      All-rest (IsIdleOf c.args.board.now) _ _ _ c.in-Some.ensures.steps.0 it.0,
      all_more (IsContenderOf c.args.board.now) c.loop-seat.all.items _ _ c.in_ok-push.ensures.items it.1
          (ap (λ (s : DriverSeat). s.seat.table_id) c.of.ensures.seat ∙ c.reserve.ensures.board ∙ idle.0, subst (λ (s : DriverSeat). c.args.times ≤ seat_spare s) (sym c.of.ensures.seat) c.in_ok-reserve.ensures.ok),
    )
