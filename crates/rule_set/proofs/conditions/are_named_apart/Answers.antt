use Rattle.std.proofs.Common.{◌≡◌, arith, sym, ◌∙◌, get_or, ◌⊎◌, inl, inr, subst}
use Rattle.std.proofs.lemmas.Bool.{cases_eq, true≢false}
use Rattle.rule_set.specs.Order.{AreApart}
use Rattle.rule_set.proofs.NameLemmas.{apart_step, apart_not}
use Rattle.rule_set.proofs.conditions.are_named_apart.Goals as goal

pub returns-then-knows : goal.returns-then-knows
returns-then-knows c =
    (λ told. absurd (true≢false (sym told)), λ apart. absurd (apart_not c.args.rules.now c.loop-at.at c.index-rules-at.result c.as_bytes.result.now c.as_bytes-in-loop-at.result.now (omega arith) c.index-rules-at.is c.as_bytes.ensures.value c.as_bytes-in-loop-at.ensures.value (sym c.knows.ensures ∙ c.if-knows.true) apart))

pub loop-at-preserved : goal.loop-at-preserved
loop-at-preserved c i j d low less inside =
    by (cases_eq i c.loop-at.at)
  where
    by : (i ≡ c.loop-at.at) ⊎ (i ≡ c.loop-at.at → ⊥) → AreApart (get_or c.args.rules.now i d) (get_or c.args.rules.now j d)
    by (inl here) =
        subst (λ k. AreApart (get_or c.args.rules.now k d) (get_or c.args.rules.now j d)) (sym here)
        (apart_step c.args.rules.now c.loop-at.at c.index-rules-at.result c.as_bytes.result.now c.as_bytes-in-loop-at.result.now c.index-rules-at.is c.as_bytes.ensures.value c.as_bytes-in-loop-at.ensures.value (sym c.knows.ensures ∙ c.if-knows.false) j d (omega arith) inside)
    by (inr before) = c.loop-at.invariant i j d (omega arith) less inside
