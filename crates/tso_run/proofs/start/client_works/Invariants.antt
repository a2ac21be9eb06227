use Rattle.std.proofs.Common.{◌≡◌, ◌-◌}
use Rattle.tso_board.specs.Boards.{setup_of}
use Rattle.tso_run.proofs.Starting.{ClientsLeft}
use Rattle.tso_run.proofs.start.client_works.Given as goal

abbrev pub invariant-loop-pass : goal.invariant-loop-pass
invariant-loop-pass g l =
    (goal.iterator-loop-pass g).can_next l.pass-iterator × (goal.iterator-loop-pass g).is_finite l.pass-iterator
    × ClientsLeft {N = g.row.N.Denot} g.N.BoardName.board l._board l._post l.number l.pass-iterator.rest.items l.slips.rest.items l.works.items
    × (l.slips.rest.len ≡ (setup_of l._board).clients - l.number)
    × (l.pass-iterator.rest.len ≡ (setup_of l._board).clients - l.number)
