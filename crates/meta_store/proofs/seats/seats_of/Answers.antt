use Rattle.std.proofs.Common.{◌∷◌, ◌++◌, [], map, ap, ◌∙◌, sym}
use Rattle.std.proofs.lemmas.List.{append_assoc}
use Rattle.std.proofs.lemmas.List.Elements.{All-rest}
use Rattle.std.specs.Arc.{arc_value}
use Rattle.std.specs.Vec.Iter.{into_iter_items}
use Rattle.meta_store.specs.Seats.{IsOpen, seat_by}
use Rattle.meta_store.proofs.seats.seats_of.Goals as goal

pub loop-ticket-preserved : goal.loop-ticket-preserved
loop-ticket-preserved c =
    let rest = map seat_by (into_iter_items c.next.new.self) in (
      ap (λ l. l ++ rest) c.in_ok-push.ensures.items ∙ append_assoc c.loop-ticket.seats.items (seat_by c.in-Some.ticket ∷ []) rest ∙ ap (λ l. c.loop-ticket.seats.items ++ map seat_by l) (sym c.in-Some.ensures.steps.0) ∙ c.loop-ticket.invariant.0,
      All-rest (IsOpen (arc_value c.args.turn.now)) _ _ _ c.in-Some.ensures.steps.0 c.loop-ticket.invariant.1,
    )
