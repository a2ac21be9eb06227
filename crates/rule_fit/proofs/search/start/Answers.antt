use Rattle.std.proofs.Common.{◌≡◌, length, arith, sym}
use Rattle.rule_fit.proofs.SearchLemmas.{search_skip, search_start, some_not, none_is}
use Rattle.rule_fit.proofs.search.start.Goals as goal

pub loop-peer-preserved-then-is_some : goal.loop-peer-preserved-then-is_some
loop-peer-preserved-then-is_some c = λ test.
    rw c.in_ok-push.ensures.items (search_skip test c.args.given.now c.loop-peer.queue.items c.loop-peer.reached.items c.loop-peer.peer (c.loop-peer.invariant test) (λ e. some_not _ (sym c.if-is_some.ensures) e))

pub loop-peer-preserved : goal.loop-peer-preserved
loop-peer-preserved c = λ test.
    rw (c.in_ok-push-2.ensures.items, c.in_ok-push-3.ensures.items) (search_start test c.args.given.now c.loop-peer.queue.items c.loop-peer.reached.items c.loop-peer.peer (c.loop-peer.invariant test) (omega arith) (none_is _ (sym c.if-is_some.ensures)))

pub returns : goal.returns
returns c = λ test. let whole : c.loop-peer.peer ≡ length c.args.given.now = omega arith in rw (← whole) (c.loop-peer.invariant test)
