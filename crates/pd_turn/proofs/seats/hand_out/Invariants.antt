use Rattle.std.proofs.Common.{◌≡◌, [], None, map, length, ◌≤◌, vec_capacity, take, drop}
use Rattle.pd_turn.specs.Rule.{opening_lists, view_of}
use Rattle.pd_turn.specs.Turns.{new_ticket, turn_value}
use Rattle.pd_turn.proofs.seats.hand_out.Given as goal

abbrev pub invariant-loop-number : goal.invariant-loop-number
invariant-loop-number g l =
    (l.seat.table_id ≡ l.board.table_id)
    × (l.seat.me ≡ (view_of l.numbers (opening_lists (drop l.number-index l.numbers)) None, []))
    × (l.tickets.items ≡ map (new_ticket (turn_value l.board.table_id l.numbers)) (take l.number-index l.numbers))
    × (length l.numbers ≤ vec_capacity l.tickets)
