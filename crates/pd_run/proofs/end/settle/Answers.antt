use Rattle.std.proofs.Common.{subst}
use Rattle.pd_run.specs.Ends.{IsPlaceOf}
use Rattle.pd_run.proofs.Settling.{stream_there}
use Rattle.pd_run.proofs.end.settle.Goals as goal

pub settle-requires : goal.settle-requires
settle-requires g c = record {
  stream = stream_there c.args.givers.now.items c.args.store c.args.taker.stream c.in-Some.place c.index_mut.result.now c.requires.apart c.requires.there
      (subst (λ os. IsPlaceOf os c.args.store c.in-Some.place) c.deref.ensures.value c.in-Some.ensures.place) c.index_mut.ensures.value;
}
