use Rattle.rule_fit.proofs.IdLemmas.{ids_skip, ids_push_at, peer_push}
use Rattle.rule_fit.proofs.PickLemmas.{picked_skip, picked_push, picked_end}
use Rattle.rule_fit.proofs.ids.ids_of.Goals as goal

pub loop-place-preserved-then-not-reached-place : goal.loop-place-preserved-then-not-reached-place
loop-place-preserved-then-not-reached-place c = record {
  agree = ids_skip c.loop-place.ids.items c.args.peers.now c.args.reached.now c.loop-place.place c.loop-place.invariant.agree c.if-not-reached-place.true;
  inside = c.loop-place.invariant.inside;
  order = picked_skip c.loop-place.ids.items c.args.peers.now c.args.reached.now c.loop-place.place c.loop-place.invariant.order c.loop-place-test.true c.if-not-reached-place.true;
}

pub loop-place-preserved : goal.loop-place-preserved
loop-place-preserved c = record {
  agree = rw c.in_ok-push.ensures.items (ids_push_at _ c.loop-place.ids.items c.args.peers.now c.args.reached.now c.loop-place.place c.loop-place.invariant.agree c.requires.apart c.loop-place-test.true c.if-not-reached-place.false);
  inside = rw c.in_ok-push.ensures.items (peer_push _ c.args.peers.now c.loop-place.ids.items c.loop-place.place c.loop-place-test.true c.loop-place.invariant.inside);
  order = rw c.in_ok-push.ensures.items (picked_push _ c.loop-place.ids.items c.args.peers.now c.args.reached.now c.loop-place.place c.loop-place.invariant.order c.loop-place-test.true c.if-not-reached-place.false);
}

pub returns-clause-order : goal.returns-clause-order
returns-clause-order c = picked_end c.loop-place.ids.items c.args.peers.now c.args.reached.now c.loop-place.place c.loop-place.invariant.order c.loop-place-test.false
