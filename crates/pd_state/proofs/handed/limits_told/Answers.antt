use Rattle.std.proofs.Common.{◌∙◌, ap, sym}
use Rattle.store_limit.specs.Limits.{StoreLimits, known}
use Rattle.pd_state.proofs.Walks.{limits_at}
use Rattle.pd_state.proofs.handed.limits_told.Goals as goal

pub loop-place-preserved : goal.loop-place-preserved
loop-place-preserved c =
    let l = c.loop-place in
    c.in_ok-know.ensures.ok ∙ ap (λ (limits : StoreLimits). known limits c.in-Some.store.now.id c.args.began) l.invariant ∙ limits_at c.args.began c.args.stores.now l.place c.in-Some.store.now (sym c.in-Some.ensures.value)
