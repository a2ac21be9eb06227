use Rattle.std.proofs.Common.{◌<◌, All, length, refl, sym, subst}
use Rattle.std.proofs.lemmas.List.Elements.{All-rest}
use Rattle.std.specs.Vec.Iter.{into_iter_items}
use Rattle.pd_run.specs.declared.storing.StoreWork.{StoreWork}
use Rattle.pd_run.proofs.Lists.{first_is}
use Rattle.pd_run.proofs.Taking.{first_removed, taken_more, taken_none}
use Rattle.pd_run.proofs.end.ends_of.Goals as goal

pub loop-store-init : goal.loop-store-init
loop-store-init g c = (
  subst (All (λ (w : StoreWork g.row.N.Denot). 0 < length w.ports.items)) (sym c.into_iter-store-iterator.ensures.into_iter_gives.0) c.requires.ports,
  taken_none {N = g.row.N.Denot} c.push.new.self.items c.push.new.self.items (into_iter_items c.into_iter-store-iterator.result) c.new-works.result.items c.new-takers.result.items refl c.new-works.ensures.items c.new-takers.ensures.items,
)

pub loop-store-preserved : goal.loop-store-preserved
loop-store-preserved g c =
    let left = into_iter_items c.loop-store.store-iterator in
    let rest = into_iter_items c.next.new.self in
    let store = c.in-Some.store in
    let port = c.remove-share.result in
    let some : 0 < length store.ports.items = first_is (λ (w : StoreWork g.row.N.Denot). 0 < length w.ports.items) store left rest c.in-Some.ensures.steps.0 c.loop-store.invariant.0 in (
      All-rest (λ (w : StoreWork g.row.N.Denot). 0 < length w.ports.items) _ _ _ c.in-Some.ensures.steps.0 c.loop-store.invariant.0,
      taken_more {N = g.row.N.Denot} c.push.new.self.items c.loop-store.shares.items c.push-in-loop-store.new.self.items (into_iter_items c.into_iter-store-iterator.result) left rest c.loop-store.works.items c.push-in-loop-store-3.new.self.items
          c.loop-store.takers.items c.push-in-loop-store-2.new.self.items port store _ c.loop-store.invariant.1 c.in-Some.ensures.steps.0
          (record { store = refl; ports = first_removed store.ports.items c.remove-share.new.self.items port some c.remove-share.ensures.value c.remove-share.ensures.items; answers = refl; failed = refl })
          c.in_ok-push-2.ensures.items c.in_ok-push-3.ensures.items c.in_ok-push-4.ensures.items,
    )
