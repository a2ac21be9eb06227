use Rattle.std.proofs.Common.{sym, subst, All}
use Rattle.tso_run.specs.Works.{IsNewClient}
use Rattle.tso_run.proofs.tests.call_in_order.Goals as goal

pub work_all-requires-after_bounds : goal.work_all-requires-after_bounds
work_all-requires-after_bounds g c κs within k d low =
    let new = subst (All (IsNewClient {N = g.row.N.Denot} g.N.BoardName.board c.args.board.now c.in_ok-post.post)) (sym c.as_mut_slice.ensures.value) c.in_ok-post.ensures.new in
    (new k d low, c.requires.calls)
