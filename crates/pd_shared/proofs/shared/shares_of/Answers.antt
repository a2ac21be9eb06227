use Rattle.std.proofs.Common.{◌∷◌, ◌++◌, [], map, ap, ◌∙◌, sym}
use Rattle.std.proofs.lemmas.List.{append_assoc}
use Rattle.std.proofs.lemmas.List.Elements.{All-rest}
use Rattle.std.specs.Vec.Iter.{into_iter_items}
use Rattle.pd_shared.specs.Shares.{IsOpen, share_by}
use Rattle.pd_shared.proofs.shared.shares_of.Goals as goal

pub loop-ticket-preserved : goal.loop-ticket-preserved
loop-ticket-preserved g c =
    let l = c.loop-ticket in
    let rest = map (share_by c.args.driver) (into_iter_items c.next.new.self) in (
      ap (λ s. s ++ rest) c.in_ok-push.ensures.items ∙ append_assoc l.shares.items (share_by c.args.driver c.in-Some.ticket ∷ []) rest
          ∙ ap (λ s. l.shares.items ++ map (share_by c.args.driver) s) (sym c.in-Some.ensures.steps.0) ∙ l.invariant.0,
      All-rest (IsOpen c.args.driver) _ _ _ c.in-Some.ensures.steps.0 l.invariant.1,
    )
