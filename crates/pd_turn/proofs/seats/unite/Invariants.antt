use Rattle.std.proofs.Common.{◌≡◌, ◌++◌, [], None, length}
use Rattle.pd_turn.specs.Rule.{lists_of, view_of}
use Rattle.pd_turn.specs.Turns.{turn_value}
use Rattle.pd_turn.specs.Rule.{AreOf}
use Rattle.pd_turn.proofs.seats.unite.Given as goal

abbrev pub invariant-loop-ticket : goal.invariant-loop-ticket
invariant-loop-ticket g l =
    (l.seat.table_id ≡ l.board.table_id)
    × (l.seat.me ≡ (view_of l.initial.seat.me.0.numbers l.seat.me.0.lists None, []))
    × (lists_of l.tickets.items ++ l.seat.me.0.lists ≡ lists_of l.initial.tickets.items ++ l.initial.seat.me.0.lists)
    × AreOf (turn_value l.board.table_id l.initial.seat.me.0.numbers) l.tickets.items

abbrev pub decreases-loop-ticket : goal.decreases-loop-ticket
decreases-loop-ticket g l = length l.tickets.items
