use Rattle.std.proofs.Common.{◌≡◌, All, map, false}
use Rattle.std.specs.Vec.Iter.{into_iter_items}
use Rattle.tso_model.specs.Steps.{AtRest}
use Rattle.tso_board.specs.declared.pass.Pass.{Pass}
use Rattle.tso_board.specs.Ledger.{all_joined}
use Rattle.tso_board.specs.Passes.{pass_view}
use Rattle.tso_board.proofs.ledger.take_passes.Given as goal

abbrev pub invariant-loop-pass : goal.invariant-loop-pass
invariant-loop-pass l = record {
  board : l.base.table_id ≡ l.initial.base.table_id;
  view : all_joined l.base.me.0 (map pass_view (into_iter_items l.pass-iterator)) ≡ all_joined l.initial.base.me.0 (map pass_view (into_iter_items l.initial.pass-iterator));
  slots : l.base.me.1 ≡ l.initial.base.me.1;
  passes : All (λ (p : Pass). p.seat.table_id ≡ l.table.shared.table_id) (into_iter_items l.pass-iterator);
  live : l.base.me.0.spent ≡ false;
  rest : AtRest l.base.me.0;
}
