-- Rules by their names, and the order of rules whose names differ.
use Rattle.std.proofs.Common.{refl, ◌≡◌, ℕ, suc, ◌+◌, ◌<◌, ◌≤◌, Bool, true, false, not, cond, ◌||◌, List, [], ◌∷◌, length, get_or, take, drop, length-drop, ◌-◌, ap, sym, ◌∙◌, arith, subst, ◌⊎◌, inl, inr}
use Rattle.std.proofs.lemmas.Bool.{true≢false, cases_Bool}
use Rattle.std.proofs.lemmas.List.Elements.{All-cons, All-head, All-tail, All-nil, filter_passes}
use Rattle.std.proofs.lemmas.List.{take_rest, get_or-drop, get_or_default}
use Rattle.std.proofs.lemmas.Map.Lookups.{exact_bytes}
use Rattle.std.specs.Cmp.Lexicographic.{same_text, other_text}
use Rattle.std.specs.Ordering.{is_lt, is_gt, ordering_then, nat_cmp}
use Rattle.std.specs.declared.cmp.Ordering.{Ordering}
use Rattle.std.specs.declared.cmp.Ordering.TheVariants.{Less, Equal, Greater}
use Rattle.std.specs.List.{All}
use Rattle.pd_types.specs.declared.rule.Rule.{Rule}
use Rattle.pd_types.proofs.Pairs.{pairs_head, pairs_tail}
use Rattle.pd_types.proofs.Bools.{and_true}
use Rattle.pd_types.specs.Keys.{bytes_order}
use Rattle.std.specs.Str.{bytes_eq}
use Rattle.rule_set.specs.Order.{order_of, comes_before, AreApart, AreNamedApart, is_named, without}
use Rattle.rule_set.specs.Changes.{knows}

pub named_true : (group id : List ℕ) (rule : Rule) → is_named group id rule ≡ true → (rule.group ≡ group) × (rule.id ≡ id)
named_true group id rule told =
    let parts = and_true (bytes_eq rule.group group) (bytes_eq rule.id id) told in
    (same_text rule.group group (sym parts.0), same_text rule.id id (sym parts.1))

pub named_false : (group id : List ℕ) (rule : Rule) → is_named group id rule ≡ false → rule.group ≡ group → rule.id ≡ id → ⊥
named_false group id rule told one other = by (bytes_eq rule.group group) refl (bytes_eq rule.id id) refl
  where
    by : (a : Bool) → bytes_eq rule.group group ≡ a → (b : Bool) → bytes_eq rule.id id ≡ b → ⊥
    by false group_is b id_is = other_text rule.group group (sym group_is) one
    by true group_is false id_is = other_text rule.id id (sym id_is) other
    by true group_is true id_is = let told_so : is_named group id rule ≡ true = rw (group_is, id_is) refl in true≢false (sym told_so ∙ told)

pub named_self : (group id : List ℕ) (rule : Rule) → rule.group ≡ group → rule.id ≡ id → is_named group id rule ≡ true
named_self group id rule one other = by (cases_Bool (is_named group id rule))
  where
    by : (is_named group id rule ≡ true) ⊎ (is_named group id rule ≡ false) → is_named group id rule ≡ true
    by (inl told) = told
    by (inr told) = absurd (named_false group id rule told one other)

then_equal : (a b : Ordering) → ordering_then a b ≡ Equal → (a ≡ Equal) × (b ≡ Equal)
then_equal Less b h = absurd cc
then_equal Equal b h = (refl, h)
then_equal Greater b h = absurd cc

-- rules that tie have one name
tied_names : (one other : Rule) → order_of one other ≡ Equal → (one.group ≡ other.group) × (one.id ≡ other.id)
tied_names one other tied =
    let groups = then_equal (bytes_order one.group other.group) (ordering_then (nat_cmp one.index other.index) (bytes_order one.id other.id)) tied in
    let ids = then_equal (nat_cmp one.index other.index) (bytes_order one.id other.id) groups.1 in
    (exact_bytes one.group other.group groups.0, exact_bytes one.id other.id ids.1)

-- a rule of another name that isn't after is before
pub before_apart : (one other : Rule) → AreApart one other → is_gt (order_of one other) ≡ false → comes_before one other ≡ true
before_apart one other apart not_after = by (order_of one other) refl not_after
  where
    by : (o : Ordering) → order_of one other ≡ o → is_gt o ≡ false → comes_before one other ≡ true
    by Less is told = ap is_lt is
    by Equal is told = let names = tied_names one other is in absurd (apart names.0 names.1)
    by Greater is told = absurd (true≢false told)

pub apart_flipped : (one other : Rule) → AreApart one other → AreApart other one
apart_flipped one other apart group id = apart (sym group) (sym id)

-- the rules of other names
pub others_left : (rule : Rule) (rules : List Rule) → All (AreApart rule) (without rule.group rule.id rules)
others_left rule rules k d low =
    by (get_or (without rule.group rule.id rules) k d) (filter_passes (λ one. not (is_named rule.group rule.id one)) rules k d low)
  where
    by : (one : Rule) → not (is_named rule.group rule.id one) ≡ true → AreApart rule one
    by one passes group id = true≢false (sym passes ∙ ap not (named_self rule.group rule.id one (sym group) (sym id)))

-- what the test finds
pub unknown_apart : (rule : Rule) (rules : List Rule) → knows rule.group rule.id rules ≡ false → All (AreApart rule) rules
unknown_apart rule [] told = All-nil (AreApart rule)
unknown_apart rule (x ∷ rules) told = by (is_named rule.group rule.id x) refl told (unknown_apart rule rules)
  where
    by : (t : Bool) → is_named rule.group rule.id x ≡ t → (t || knows rule.group rule.id rules) ≡ false → (knows rule.group rule.id rules ≡ false → All (AreApart rule) rules) → All (AreApart rule) (x ∷ rules)
    by true here h rest = absurd (true≢false h)
    by false other h rest = All-cons (AreApart rule) x rules (λ group id. named_false rule.group rule.id x other (sym group) (sym id)) (rest h)

pub known_apart : (rule : Rule) (rules : List Rule) → knows rule.group rule.id rules ≡ true → All (AreApart rule) rules → ⊥
known_apart rule [] told all = true≢false (sym told)
known_apart rule (x ∷ rules) told all = by (is_named rule.group rule.id x) refl told (λ t. known_apart rule rules t (All-tail (AreApart rule) x rules all))
  where
    by : (t : Bool) → is_named rule.group rule.id x ≡ t → (t || knows rule.group rule.id rules) ≡ true → (knows rule.group rule.id rules ≡ true → ⊥) → ⊥
    by true here h rest =
        let names = named_true rule.group rule.id x here in
        All-head (AreApart rule) x rules all (sym names.0) (sym names.1)
    by false other h rest = rest h

-- with one of a name at most one goes
all_left : (group id : List ℕ) (rule : Rule) (rules : List Rule) → rule.group ≡ group → rule.id ≡ id → All (AreApart rule) rules → without group id rules ≡ rules
all_left group id rule [] one other apart = refl
all_left group id rule (x ∷ rules) one other apart =
    by (is_named group id x) refl (all_left group id rule rules one other (All-tail (AreApart rule) x rules apart))
  where
    by : (t : Bool) → is_named group id x ≡ t → without group id rules ≡ rules → cond (not t) (x ∷ without group id rules) (without group id rules) ≡ x ∷ rules
    by true here rest =
        let names = named_true group id x here in
        absurd (All-head (AreApart rule) x rules apart (one ∙ sym names.0) (other ∙ sym names.1))
    by false there rest = ap (λ l. x ∷ l) rest

pub one_goes : (group id : List ℕ) (rules : List Rule) → AreNamedApart rules → length rules ≤ length (without group id rules) + 1
one_goes group id [] apart = omega arith
one_goes group id (x ∷ rules) apart = by (is_named group id x) refl (one_goes group id rules (pairs_tail AreApart x rules apart))
  where
    by : (t : Bool) → is_named group id x ≡ t → length rules ≤ length (without group id rules) + 1 → suc (length rules) ≤ length (cond (not t) (x ∷ without group id rules) (without group id rules)) + 1
    by true here rest =
        let names = named_true group id x here in
        let same = ap length (all_left group id x rules names.0 names.1 (pairs_head AreApart x rules apart)) in
        omega arith
    by false there rest = omega arith

-- the rule at a place, tested against those behind it
pub apart_step : (rules : List Rule) (at : ℕ) (rule : Rule) (group id : List ℕ) → rule ≡ get_or rules at rule → group ≡ rule.group → id ≡ rule.id → knows group id (take (length rules - (at + 1)) (drop (at + 1) rules)) ≡ false → (j : ℕ) (d : Rule) → at < j → j < length rules → AreApart (get_or rules at d) (get_or rules j d)
apart_step rules at rule group id here one other told j d after low =
    let behind : knows rule.group rule.id (drop (at + 1) rules) ≡ false = rw (← one, ← other, ← take_rest rules (at + 1)) told in
    let all = unknown_apart rule (drop (at + 1) rules) behind (j - (at + 1)) d (let long = length-drop (at + 1) rules in omega arith) in
    let place : get_or (drop (at + 1) rules) (j - (at + 1)) d ≡ get_or rules j d = get_or-drop (at + 1) rules (j - (at + 1)) d ∙ ap (λ k. get_or rules k d) (omega arith) in
    let first : rule ≡ get_or rules at d = here ∙ get_or_default rules at rule d (omega arith) in
    subst (λ r. AreApart r (get_or rules j d)) first (subst (AreApart rule) place all)

pub apart_not : (rules : List Rule) (at : ℕ) (rule : Rule) (group id : List ℕ) → at < length rules → rule ≡ get_or rules at rule → group ≡ rule.group → id ≡ rule.id → knows group id (take (length rules - (at + 1)) (drop (at + 1) rules)) ≡ true → AreNamedApart rules → ⊥
apart_not rules at rule group id inside here one other told apart =
    let behind : knows rule.group rule.id (drop (at + 1) rules) ≡ true = rw (← one, ← other, ← take_rest rules (at + 1)) told in
    known_apart rule (drop (at + 1) rules) behind (λ k d low. by k d low)
  where
    by : (k : ℕ) (d : Rule) → k < length (drop (at + 1) rules) → AreApart rule (get_or (drop (at + 1) rules) k d)
    by k d low =
        let place = get_or-drop (at + 1) rules k d in
        let first : rule ≡ get_or rules at d = here ∙ get_or_default rules at rule d (omega arith) in
        subst (λ r. AreApart r (get_or (drop (at + 1) rules) k d)) (sym first)
        (subst (AreApart (get_or rules at d)) (sym place) (apart at (at + 1 + k) d (omega arith) (let long = length-drop (at + 1) rules in omega arith)))
