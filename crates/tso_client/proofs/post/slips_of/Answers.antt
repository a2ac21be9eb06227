use Rattle.std.proofs.Common.{◌∷◌, ◌++◌, [], map, ap, ◌∙◌, sym}
use Rattle.std.proofs.lemmas.List.{append_assoc}
use Rattle.std.proofs.lemmas.List.Elements.{All-rest}
use Rattle.std.specs.Vec.Iter.{into_iter_items}
use Rattle.tso_client.specs.Slips.{IsOpen, slip_by}
use Rattle.tso_client.proofs.post.slips_of.Goals as goal

pub loop-ticket-preserved : goal.loop-ticket-preserved
loop-ticket-preserved g c =
    let rest = map slip_by (into_iter_items c.next.new.self) in (
      ap (λ l. l ++ rest) c.in_ok-push.ensures.items ∙ append_assoc c.loop-ticket.slips.items (slip_by c.in-Some.ticket ∷ []) rest ∙ ap (λ l. c.loop-ticket.slips.items ++ map slip_by l) (sym c.in-Some.ensures.steps.0) ∙ c.loop-ticket.invariant.0,
      All-rest IsOpen _ _ _ c.in-Some.ensures.steps.0 c.loop-ticket.invariant.1,
    )
