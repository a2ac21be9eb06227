use Rattle.std.proofs.Common.{◌∷◌, ◌++◌, [], map, ap, ◌∙◌, sym, subst}
use Rattle.std.specs.Prelude.{All}
use Rattle.std.proofs.lemmas.List.{append-nil, append_assoc, nil_from_length}
use Rattle.std.proofs.lemmas.List.Elements.{All-cons}
use Rattle.std.specs.Vec.Iter.{into_iter_items}
use Rattle.pd_shared.specs.Shares.{IsOwn, ticket_by}
use Rattle.pd_shared.proofs.Sharing.{own_share, same_ticket}
use Rattle.pd_shared.proofs.shared.tickets_of.Goals as goal

pub loop-share-preserved : goal.loop-share-preserved
loop-share-preserved g c =
    let l = c.loop-share in
    let i = c.share.inside in
    let share = c.in-Some.share in
    let rest = into_iter_items c.next.new.self in
    let steps = c.in-Some.ensures.steps.0 in
    let ticket = same_ticket i.driver i.ticket c.share.invariant.none ∙ ap ticket_by c.share.view_is in (
      ap (λ s. s ++ map ticket_by rest) (c.in_ok-push.ensures.items ∙ ap (λ t. l.tickets.items ++ t ∷ []) ticket)
          ∙ append_assoc l.tickets.items (ticket_by share ∷ []) (map ticket_by rest) ∙ ap (λ s. l.tickets.items ++ map ticket_by s) (sym steps) ∙ l.invariant.0,
      λ own. l.invariant.1 (subst (All IsOwn) (sym steps) (All-cons IsOwn share rest (subst IsOwn c.share.view_is (own_share i.driver i.ticket c.share.invariant)) own)),
    )

pub returns-clause-value : goal.returns-clause-value
returns-clause-value g c =
    let l = c.loop-share in
    let none = nil_from_length (into_iter_items l.share-iterator) (sym l.share-iterator.rest.ok.0 ∙ c.in-None.ensures.steps.0) in
    sym (append-nil l.tickets.items) ∙ ap (λ s. l.tickets.items ++ map ticket_by s) (sym none) ∙ l.invariant.0 ∙ ap (map ticket_by) c.into_iter-share-iterator.ensures.into_iter_gives.0
