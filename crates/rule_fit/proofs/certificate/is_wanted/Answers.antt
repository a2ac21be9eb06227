use Rattle.std.proofs.Common.{length, cond, arith, sym, ◌∙◌, false}
use Rattle.rule_fit.specs.Ids.{chosen_by}
use Rattle.rule_fit.specs.Suits.{suits_in}
use Rattle.rule_fit.proofs.SumLemmas.{any_below_yes}
use Rattle.rule_fit.proofs.Totals.{any_below_none}
use Rattle.rule_fit.proofs.certificate.is_wanted.Goals as goal

pub returns-then-is_wanting : goal.returns-then-is_wanting
returns-then-is_wanting c =
    sym (any_below_yes (length c.args.beat.now.region.peers) (λ p. cond (chosen_by c.args.ids.now c.args.beat.now.region.peers p) (suits_in c.args.beat.now c.args.rules.now c.args.stores.now c.args.now p c.args.rule) false) c.loop-peer.peer (omega arith) (sym c.is_wanting.ensures ∙ c.if-is_wanting.true))

pub returns : goal.returns
returns c = sym (any_below_none (length c.args.beat.now.region.peers) (λ p. cond (chosen_by c.args.ids.now c.args.beat.now.region.peers p) (suits_in c.args.beat.now c.args.rules.now c.args.stores.now c.args.now p c.args.rule) false) (λ p h. c.loop-peer.invariant p (omega arith)))
