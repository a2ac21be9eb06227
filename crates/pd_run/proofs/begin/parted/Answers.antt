use Rattle.std.proofs.Common.{◌∙◌, ap, refl}
use Rattle.std.proofs.lemmas.List.Elements.{All-rest}
use Rattle.std.specs.Vec.Iter.{into_iter_items}
use Rattle.pd_shared.specs.Outlets.{outlet_of}
use Rattle.pd_run.specs.Pipes.{IsNewPipe, end_by, outlet_by}
use Rattle.pd_run.proofs.Lists.{moved_more, first_is}
use Rattle.pd_run.proofs.begin.parted.Goals as goal

pub loop-pipe-preserved : goal.loop-pipe-preserved
loop-pipe-preserved c =
    let pipe = c.in-Some.pipe in
    let left = into_iter_items c.loop-pipe.pipe-iterator in
    let rest = into_iter_items c.next.new.self in
    let new = (first_is IsNewPipe pipe left rest c.in-Some.ensures.steps.0 c.loop-pipe.invariant.0).giver in (
      All-rest IsNewPipe _ _ _ c.in-Some.ensures.steps.0 c.loop-pipe.invariant.0,
      moved_more outlet_by pipe left rest c.loop-pipe.givers.items c.push.new.self.items _ c.new.result c.in-Some.ensures.steps.0 c.in_ok-push.ensures.items
          (c.new.ensures.value ∙ λ i. outlet_of pipe.store (ap (λ e. e.stream) new i) (ap (λ e. e.list) new i)) c.loop-pipe.invariant.1,
      moved_more end_by pipe left rest c.loop-pipe.ends.items c.push-in-loop-pipe.new.self.items _ (end_by pipe) c.in-Some.ensures.steps.0 c.in_ok-push-2.ensures.items refl c.loop-pipe.invariant.2,
    )
