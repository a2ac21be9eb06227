use Rattle.std.proofs.Common.{rules, of_calls, ◌≡◌, not, true}
use Rattle.std.proofs.lemmas.Fn.{filter_same}
use Rattle.std.proofs.lemmas.List.Kept.{AllPairs-filter}
use Rattle.rule_set.specs.Order.{is_named, AreApart, comes_before}
use Rattle.rule_set.proofs.places.take_out.Goals as goal

left : goal.returns-clause-value
left c = filter_same _ (λ rule. not (is_named c.args.group.now c.args.id.now rule)) _ (λ x b f k. search (rules, of_calls)) _ _ c.retain.ensures.filtered

pub returns-clause-value : goal.returns-clause-value
returns-clause-value c = left c

pub returns-clause-order : goal.returns-clause-order
returns-clause-order c =
    rw (left c) (AllPairs-filter (λ one later. comes_before one later ≡ true) (λ rule. not (is_named c.args.group.now c.args.id.now rule)) _ c.requires.order)

pub returns-clause-names : goal.returns-clause-names
returns-clause-names c =
    rw (left c) (AllPairs-filter AreApart (λ rule. not (is_named c.args.group.now c.args.id.now rule)) _ c.requires.names)
