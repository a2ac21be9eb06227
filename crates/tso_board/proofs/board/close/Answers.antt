use Rattle.tso_model.proofs.Closing.{gathers}
use Rattle.tso_board.proofs.board.close.Goals as goal

pub returns : goal.returns
returns c =
    let end = c.close_with.ensures.values.2 in
    let s = end.0 in
    record { gathered = gathers c.args.table.shared.key s.words s.views c.args.base.id c.args.base.me.0 end.1.0 end.1.1 c.requires.all }
