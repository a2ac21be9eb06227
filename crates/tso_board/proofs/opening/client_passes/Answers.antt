use Rattle.std.proofs.Common.{◌≡◌, arith, ap, ◌∙◌, refl}
use Rattle.tso_board.specs.declared.pass.Pass.{Pass}
use Rattle.tso_model.specs.Moves.{client_view}
use Rattle.tso_board.specs.Passes.{pass_view}
use Rattle.tso_board.proofs.Giving.{has_client, seat_of_client, base_of_client, one_more, all_more}
use Rattle.tso_board.proofs.opening.client_passes.Goals as goal

pub split_client-seat-requires-clause-some : goal.split_client-seat-requires-clause-some
split_client-seat-requires-clause-some c =
    let h = has_client c.args.setup c.args.setup.drivers c.loop-index.index (omega arith) in
    (h.0, h.1, ap (λ m. m.0.give_clients) c.loop-index.invariant.1 ∙ h.2)

pub split_client-seat-requires-clause-quota : goal.split_client-seat-requires-clause-quota
split_client-seat-requires-clause-quota c = omega (arith, ap (λ m. m.0.quota) c.loop-index.invariant.1)

pub new-requires-clause-view : goal.new-requires-clause-view
new-requires-clause-view c =
    let is = seat_of_client c.args.setup c.args.setup.drivers c.loop-index.index _ _ c.loop-index.invariant.1 (omega arith) c.split_client-seat.ensures.seat in
    rw is refl

pub loop-index-preserved : goal.loop-index-preserved
loop-index-preserved c =
    let items = c.in_ok-push.ensures.items in
    let is = seat_of_client c.args.setup c.args.setup.drivers c.loop-index.index _ _ c.loop-index.invariant.1 (omega arith) c.split_client-seat.ensures.seat in (
      c.split_client-seat.ensures.board ∙ c.loop-index.invariant.0,
      base_of_client c.args.setup c.args.setup.drivers c.loop-index.index _ _ c.loop-index.invariant.1 (omega arith) c.split_client-seat.ensures.base,
      one_more pass_view (client_view c.args.setup) c.loop-index.passes.items _ c.new.result c.loop-index.index items c.loop-index.invariant.2 (c.new.ensures.view ∙ ap (λ m. m.0) is),
      all_more (λ (p : Pass). p.seat.table_id ≡ c.args.table.now.shared.table_id) c.loop-index.passes.items _ c.new.result items c.loop-index.invariant.3 (c.new.ensures.board ∙ c.split_client-seat.ensures.same_board),
    )
