use Rattle.std.proofs.Common.{◌≡◌, ◌<◌, ◌∙◌, sym, subst, true, false, List, ℕ, length, get_or}
use Rattle.std.specs.List.{insert}
use Rattle.rule_set.specs.Borders.{AreRising, Takes, is_tied, strictly_inside}
use Rattle.rule_set.proofs.BorderLemmas.{rising_insert, takes_insert}
use Rattle.rule_set.proofs.border.take.Goals as goal

pub returns-clause-rising : goal.returns-clause-rising
returns-clause-rising c =
    let other = subst (λ (xs : List (List ℕ)). (d : List ℕ) → c.lesser-at.result < length xs → is_tied (get_or xs c.lesser-at.result d) c.as_slice-bytes.result.now ≡ false)
    (c.deref-2.ensures.value ∙ sym c.deref.ensures.value) (c.is_at.ensures.other c.if-is_at.false) in
    rw c.in_ok-insert.ensures.items
    (subst (λ (k : List ℕ). AreRising (insert c.args.keys.now.items c.lesser-at.result k)) (c.as_slice-bytes.ensures.value ∙ sym c.in_ok-copy.ensures)
    (rising_insert c.as_slice-bytes.result.now c.deref.result.now c.args.keys.now.items c.lesser-at.result c.deref.ensures.value c.lesser-at.ensures.bound c.requires c.lesser-at.ensures.before c.lesser-at.ensures.after other))

pub returns-clause-ok : goal.returns-clause-ok
returns-clause-ok c =
    let inside = subst (λ (k : List ℕ). strictly_inside c.args.region.now k ≡ true) c.as_slice-bytes.ensures.value (sym c.is_inside.ensures ∙ c.if-not-is_inside.false) in
    rw c.in_ok-insert.ensures.items
    (subst (λ (k : List ℕ). Takes c.args.region.now c.args.keys.now.items (insert c.args.keys.now.items c.lesser-at.result k) c.args.key.now) (sym c.in_ok-copy.ensures)
    (takes_insert c.args.region.now c.args.keys.now.items c.lesser-at.result c.args.key.now inside))
