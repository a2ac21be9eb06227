use Rattle.std.proofs.Common.{◌≡◌, ◌<◌, ℕ, length, arith, sym, ◌∙◌, ap, subst, true, List, Bool, sum, map}
use Rattle.std.specs.List.{list_all, filter}
use Rattle.pd_types.specs.BeatCheck.{has_id}
use Rattle.pd_types.specs.declared.region.Peer.{Peer}
use Rattle.rule_fit.specs.Ids.{chosen_by}
use Rattle.rule_fit.specs.Chosen.{listed}
use Rattle.rule_fit.specs.Search.{marked}
use Rattle.rule_fit.proofs.PickLemmas.{listed_agrees}
use Rattle.rule_fit.specs.Suits.{suits_in, counts_of}
use Rattle.rule_fit.specs.Assignment.{placed}
use Rattle.rule_fit.proofs.FitLemmas.{fit_whole, fit_totals, reached_lack}
use Rattle.rule_fit.proofs.region.fit_rules.Goals as goal

pub returns-then-sum-many-clause-fits : goal.returns-then-sum-many-clause-fits
returns-then-sum-many-clause-fits c = (
  λ no_way. absurd (grind arith),
  λ fit. absurd (c.if-sum-many.true (
      let total = fit_totals (suits_in c.args.beat.now c.args.rules.now c.args.stores.now c.args.now) (length c.args.beat.now.region.peers) (counts_of c.args.rules.now) fit in
      let same = ap length c.as_slice-peers.ensures.value in
      let value = c.total-sum.ensures.value in omega arith)),
)

pub returns-then-placed-peers-clause-fits : goal.returns-then-placed-peers-clause-fits
returns-then-placed-peers-clause-fits c =
    let same = ap length c.as_slice-peers.ensures.value in
    let value = c.total-sum.ensures.value in
    let every : placed c.in_ok-given.field-0.given.items ≡ length c.args.beat.now.region.peers = (cc) in
    (λ _. fit_whole (suits_in c.args.beat.now c.args.rules.now c.args.stores.now c.args.now) (length c.args.beat.now.region.peers) (counts_of c.args.rules.now) c.in_ok-given.field-0.given.items c.in_ok-given.ensures.assigned every (omega arith), λ _. grind arith)

pub returns-clause-certificate : goal.returns-clause-certificate
returns-clause-certificate c =
    let long = ap length c.as_slice-peers.ensures.value in
    let agree = subst (λ (peers : List Peer). (p : ℕ) → p < length peers → chosen_by c.in_ok-ids.ids.items peers p ≡ marked c.deref-2.result.now p) c.as_slice-peers.ensures.value c.in_ok-ids.ensures.agree in
    let inside = subst (λ (peers : List Peer). list_all (has_id peers) c.in_ok-ids.ids.items ≡ true) c.as_slice-peers.ensures.value c.in_ok-ids.ensures.inside in
    rw c.of-3.ensures.value
    (reached_lack (suits_in c.args.beat.now c.args.rules.now c.args.stores.now c.args.now) c.args.beat.now.region.peers (counts_of c.args.rules.now) c.in_ok-given.field-0.given.items c.in_ok-given.field-0.reached.items c.in_ok-ids.ids.items c.in_ok-given.ensures.assigned c.in_ok-given.ensures.closed
    (λ every. c.if-placed-peers.false (let same : c.placed.result ≡ placed c.in_ok-given.field-0.given.items = cc in same ∙ every ∙ sym long))
    (λ p low. agree p low ∙ ap (λ (bs : List Bool). marked bs p) c.deref-2.ensures.value)
    inside)

pub returns-clause-kind : goal.returns-clause-kind
returns-clause-kind c =
    let ids = c.in_ok-ids.ids.items in
    let chosen : Peer → Bool = λ (peer : Peer). listed ids peer.id in
    let long = ap length c.as_slice-peers.ensures.value in
    let value = c.total-sum.ensures.value in
    let equal : sum (counts_of c.args.rules.now) ≡ length c.args.beat.now.region.peers = omega arith in
    let order = c.in_ok-ids.ensures.order chosen (listed_agrees ids c.as_slice-peers.result.now c.deref-2.result.now c.in_ok-ids.ensures.agree) in
    rw c.of-3.ensures.value (equal, chosen, order ∙ ap (λ (peers : List Peer). map (λ (peer : Peer). peer.id) (filter chosen peers)) c.as_slice-peers.ensures.value)
