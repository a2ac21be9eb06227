use Rattle.std.proofs.Common.{◌≡◌, [], map}
use Rattle.std.specs.Prelude.{All}
use Rattle.tso_model.specs.Moves.{numbers_from, client_view}
use Rattle.tso_board.specs.declared.pass.Pass.{Pass}
use Rattle.tso_board.specs.Opened.{left}
use Rattle.tso_board.specs.Passes.{pass_view}
use Rattle.tso_board.proofs.opening.client_passes.Given as goal

abbrev pub invariant-loop-index : goal.invariant-loop-index
invariant-loop-index l =
    (l.base.table_id ≡ l.initial.base.table_id) × (l.base.me ≡ (left l.fn.setup l.fn.setup.drivers l.index, []))
    × (map pass_view l.passes.items ≡ map (client_view l.fn.setup) (numbers_from 1 l.index))
    × All (λ (p : Pass). p.seat.table_id ≡ l.table.shared.table_id) l.passes.items
