use Rattle.std.proofs.Common.{◌≡◌, arith, ap, subst}
use Rattle.tso_model.specs.declared.view.View.{View}
use Rattle.tso_model.specs.Moves.{joined}
use Rattle.tso_board.proofs.Allowed.{meets}
use Rattle.tso_board.proofs.pass.Pass.meet.Goals as goal

pub join_seat-requires : goal.join_seat-requires
join_seat-requires c = (c.requires.board, c.requires.note, c.args.note.no_slot, omega (arith, c.args.board.now.sized), meets _ _ _ _ _ c.args.self.now.live (ap (λ (x : View). x.spent) c.args.note.is_note) c.requires.rest)

pub returns-clause-met : goal.returns-clause-met
returns-clause-met c = record {
  opening = c.args.note.seat.me.0.opening;
  view = subst (λ (w : View). c.join_seat.new.seat.me.0 ≡ joined c.args.self.now.seat.me.0 w) c.args.note.is_note (ap (λ m. m.0) c.join_seat.ensures.2);
}
