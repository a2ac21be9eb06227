use Rattle.std.proofs.Common.{◌<◌, length, sym, subst, arith}
use Rattle.std.proofs.lemmas.List.{take_more}
use Rattle.pd_shared.specs.Outlets.{TookUp}
use Rattle.pd_shared.proofs.Pushing.{took_both}
use Rattle.pd_shared.proofs.outlet.Outlet.take_up.Goals as goal

pub loop-msg-preserved : goal.loop-msg-preserved
loop-msg-preserved g c =
    let lt : c.loop-msg.msg-index < length c.args.sends.now = omega arith in
    subst (λ l. TookUp l c.args.self.now c.offer.new.self) (sym (take_more c.args.sends.now c.loop-msg.msg-index _ lt)) (took_both _ _ _ _ _ c.loop-msg.invariant c.offer.ensures.took)
