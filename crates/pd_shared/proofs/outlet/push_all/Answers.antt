use Rattle.std.proofs.Common.{◌<◌, length, arith, sym, subst, ◌∙◌}
use Rattle.std.proofs.lemmas.List.{length-set}
use Rattle.pd_shared.specs.Outlets.{OutletValue, TookUp}
use Rattle.pd_shared.proofs.Pushing.{zip_more}
use Rattle.pd_shared.proofs.outlet.push_all.Goals as goal

pub loop-outlet-preserved : goal.loop-outlet-preserved
loop-outlet-preserved g c =
    let l = c.loop-outlet in
    let lt : l.outlet-index < length l.outlet-items = omega arith in
    let took = subst (λ (x : OutletValue). TookUp c.args.sends.now x c.take_up.new.self) (sym c.outlet-item.is) c.take_up.ensures.took in
    let more = zip_more (TookUp c.args.sends.now) c.deref_mut-outlet-items.result.now l.outlet-items l.outlet-index c.outlet-item.result c.take_up.new.self lt c.outlet-item.is l.invariant.0 l.invariant.1 l.invariant.2 took in
    (length-set l.outlet-items l.outlet-index c.take_up.new.self ∙ l.invariant.0, more.0, more.1)
