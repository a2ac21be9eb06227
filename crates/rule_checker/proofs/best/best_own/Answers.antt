use Rattle.std.proofs.Common.{◌≤◌, ◌+◌, List, Option, subst, sym, ap, ◌∙◌, length, arith}
use Rattle.pd_types.specs.declared.region.Peer.{Peer}
use Rattle.rule_checker.specs.declared.class.Ranked.{Ranked}
use Rattle.rule_checker.specs.Best.{IsBestOf}
use Rattle.rule_checker.specs.Candidates.{pool}
use Rattle.rule_checker.specs.Measure.{Lowers}
use Rattle.rule_checker.specs.Ranks.{is_before}
use Rattle.rule_checker.proofs.BestLemmas.{best_all, best_next}
use Rattle.rule_checker.proofs.PoolLemmas.{at_held, peer_there}
use Rattle.rule_checker.proofs.RankLemmas.{class_choice}
use Rattle.rule_checker.proofs.best.best_own.Goals as goal

pub loop-peer-preserved : goal.loop-peer-preserved
loop-peer-preserved c =
    let told = c.in_ok-one.ensures in
    subst (λ (o : Option Ranked). IsBestOf c.args.class c.args.on.beat.now c.args.on.rules.now c.args.on.stores.now c.args.on.standing.now c.args.on.now c.args.from (c.loop-peer.peer-index + 1) o) (sym c.better_of-best.ensures)
    (best_next (Lowers c.args.class c.args.on.beat.now c.args.on.rules.now c.args.on.stores.now c.args.on.now c.args.from) (is_before c.args.class c.args.on.standing.now)
    (class_choice c.args.class c.args.on.beat.now c.args.on.rules.now c.args.on.stores.now c.args.on.standing.now c.args.on.now c.args.from)
    (pool c.args.class c.args.on.beat.now c.args.on.stores.now) c.loop-peer.peer-index _ c.loop-peer.best c.in_ok-one.one
    (peer_there c.as_slice-peer-items.result.now (pool c.args.class c.args.on.beat.now c.args.on.stores.now) c.loop-peer.peer-index _ (c.as_slice-peer-items.ensures.value ∙ sym c.requires.own) c.loop-peer-test.true)
    told.some told.same told.none c.loop-peer.invariant)

pub weigh-requires-clause-held : goal.weigh-requires-clause-held
weigh-requires-clause-held c =
    at_held (pool c.args.class c.args.on.beat.now c.args.on.stores.now) c.loop-peer.peer-index _
    (peer_there c.as_slice-peer-items.result.now (pool c.args.class c.args.on.beat.now c.args.on.stores.now) c.loop-peer.peer-index _ (c.as_slice-peer-items.ensures.value ∙ sym c.requires.own) c.loop-peer-test.true)

pub returns : goal.returns
returns c =
    let on = c.args.on in
    let items = ap (λ (peers : List Peer). length peers) (c.as_slice-peer-items.ensures.value ∙ sym c.requires.own) in
    let all : length (pool c.args.class on.beat.now on.stores.now) ≤ c.loop-peer.peer-index = omega arith in
    best_all (Lowers c.args.class on.beat.now on.rules.now on.stores.now on.now c.args.from) (is_before c.args.class on.standing.now) (pool c.args.class on.beat.now on.stores.now) c.loop-peer.peer-index (length (pool c.args.class on.beat.now on.stores.now)) c.loop-peer.best all c.loop-peer.invariant
