-- The order of rules, and how many there are.
use Rattle.std.proofs.Common.{refl, ◌≡◌, ℕ, suc, ◌+◌, ◌<◌, ◌≤◌, Bool, true, false, not, List, [], ◌∷◌, ◌++◌, length, get_or, drop, ap, sym, arith, subst, length-append, ◌⊎◌, inl, inr, ◌&&◌, cond}
use Rattle.std.proofs.lemmas.Grind.{fold-append}
use Rattle.std.proofs.lemmas.Bool.{cases_Bool, true≢false}
use Rattle.std.proofs.lemmas.Cmp.{then_total, on_total, nat_list_cmp_total, nat_cmp_total}
use Rattle.std.proofs.lemmas.List.Filters.{length-filter_both}
use Rattle.std.specs.Cmp.{IsTotalOrder}
use Rattle.std.specs.Ordering.{is_gt}
use Rattle.std.specs.List.{All, AllPairs, filter, insert, list_any}
use Rattle.std.specs.List.Sorted.{IsPartitionedBy}
use Rattle.pd_types.specs.declared.rule.Rule.{Rule}
use Rattle.pd_types.proofs.Filters.{filter_back, filter_front}
use Rattle.rule_set.specs.Order.{order_of, comes_before, AreApart, AreInOrder, AreNamedApart, placed, without, is_named}
use Rattle.rule_set.specs.Changes.{knows, with_rule, set_of}
use Rattle.rule_set.specs.InForce.{rules_at, holds, hides}
use Rattle.rule_set.proofs.NameLemmas.{before_apart, apart_flipped}
use Rattle.rule_set.proofs.Sorted.{pairs_insert, before_not_after, not_before_after, parted}

pub order_total : IsTotalOrder order_of
order_total = then_total (on_total (λ (r : Rule). r.group) nat_list_cmp_total) (then_total (on_total (λ (r : Rule). r.index) nat_cmp_total) (on_total (λ (r : Rule). r.id) nat_list_cmp_total))

-- what comes before isn't after
pub never_after : (rules : List Rule) → AreInOrder rules → AllPairs (λ one later. is_gt (order_of one later) ≡ false) rules
never_after rules order i j d less low = before_not_after order_of order_total (get_or rules i d) (get_or rules j d) (order i j d less low)

pub rules_parted : (rule : Rule) (rules : List Rule) → AreInOrder rules → IsPartitionedBy (λ one. comes_before one rule) rules
rules_parted rule rules order = parted order_of order_total rule rules (never_after rules order)

-- a rule at its place
pub placed_at : (rule : Rule) (xs ys : List Rule) (i : ℕ) → xs ≡ ys → ((k : ℕ) (d : Rule) → k < i → comes_before (get_or xs k d) rule ≡ true) → ((k : ℕ) (d : Rule) → i ≤ k → k < length xs → comes_before (get_or xs k d) rule ≡ false) → placed rule ys ≡ insert ys i rule
placed_at rule xs ys i same before after =
    let front = filter_front (λ one. comes_before one rule) xs i (λ k d low inside. before k d low) after in
    let back = filter_back (λ one. not (comes_before one rule)) xs i (λ k d low inside. ap not (before k d low)) (λ k d high inside. ap not (after k d high inside)) in
    subst (λ zs. placed rule zs ≡ insert zs i rule) same (rw (front, back) refl)

pub order_at : (rule : Rule) (xs ys : List Rule) (i : ℕ) → xs ≡ ys → i ≤ length xs → AreInOrder ys → All (AreApart rule) ys → ((k : ℕ) (d : Rule) → k < i → comes_before (get_or xs k d) rule ≡ true) → ((k : ℕ) (d : Rule) → i ≤ k → k < length xs → comes_before (get_or xs k d) rule ≡ false) → AreInOrder (insert ys i rule)
order_at rule xs ys i same within order apart before after =
    let R : Rule → Rule → Type 0 = λ one later. comes_before one later ≡ true in
    let order_xs : AreInOrder xs = subst AreInOrder (sym same) order in
    let apart_xs : All (AreApart rule) xs = subst (All (AreApart rule)) (sym same) apart in
    subst (λ zs. AreInOrder (insert zs i rule)) same
    (pairs_insert R xs i rule within order_xs before (λ k d high inside. before_apart rule (get_or xs k d) (apart_xs k d inside) (not_before_after order_of order_total (get_or xs k d) rule (after k d high inside))))

pub names_at : (rule : Rule) (ys : List Rule) (i : ℕ) → i ≤ length ys → AreNamedApart ys → All (AreApart rule) ys → AreNamedApart (insert ys i rule)
names_at rule ys i within names apart =
    pairs_insert AreApart ys i rule within names (λ k d low. apart_flipped rule (get_or ys k d) (apart k d (omega arith))) (λ k d high inside. apart k d inside)

-- how many rules there are with one more in its place
pub length-placed : (rule : Rule) (rules : List Rule) → length (placed rule rules) ≡ length rules + 1
length-placed rule rules =
    let both = length-filter_both (λ one. comes_before one rule) (λ one. not (comes_before one rule)) (λ one. refl) rules in
    simp length-append (omega arith)

-- at most as many pass
pub length-filter-le : {X : Type 0} (p : X → Bool) (xs : List X) → length (filter p xs) ≤ length xs
length-filter-le p [] = omega arith
length-filter-le p (x ∷ xs) = by (p x) (length-filter-le p xs)
  where
    by : (b : Bool) → length (filter p xs) ≤ length xs → length (cond b (x ∷ filter p xs) (filter p xs)) ≤ suc (length xs)
    by true rest = omega arith
    by false rest = omega arith

-- fewer are left where one goes
pub fewer_left : {X : Type 0} (p : X → Bool) (xs : List X) → list_any p xs ≡ true → length (filter (λ x. not (p x)) xs) < length xs
fewer_left p [] some = absurd (true≢false (sym some))
fewer_left p (x ∷ xs) some = by (cases_Bool (p x)) (fewer_left p xs)
  where
    by : (p x ≡ true) ⊎ (p x ≡ false) → (list_any p xs ≡ true → length (filter (λ y. not (p y)) xs) < length xs) → length (filter (λ y. not (p y)) (x ∷ xs)) < suc (length xs)
    by (inl goes) rest = rw goes (let least = length-filter-le (λ y. not (p y)) xs in omega arith)
    by (inr stays) rest = let fewer = rest (rw stays at some) in rw stays (omega arith)

-- a rule more is set
pub set_of-push : (rules : List Rule) (rule : Rule) → set_of (rules ++ rule ∷ []) ≡ with_rule rule (set_of rules)
set_of-push rules rule = fold-append (λ before one. with_rule one before) [] rules (rule ∷ [])

pub length-with_rule : (rule : Rule) (rules : List Rule) → length (with_rule rule rules) ≤ length rules + 1
length-with_rule rule rules =
    let here = length-placed rule (without rule.group rule.id rules) in
    let left = length-filter-le (λ one. not (is_named rule.group rule.id one)) rules in
    omega arith

pub with_rule_some : (rule : Rule) (rules : List Rule) → 0 < length (with_rule rule rules)
with_rule_some rule rules = let here = length-placed rule (without rule.group rule.id rules) in omega arith

pub with_rule_known : (rule : Rule) (rules : List Rule) → knows rule.group rule.id rules ≡ true → length (with_rule rule rules) ≤ length rules
with_rule_known rule rules known =
    let here = length-placed rule (without rule.group rule.id rules) in
    let left = fewer_left (is_named rule.group rule.id) rules known in
    omega arith

-- no more are in force than there are
pub length-rules_at : (key : List ℕ) (rules : List Rule) → length (rules_at key rules) ≤ length rules
length-rules_at key [] = omega arith
length-rules_at key (rule ∷ later) = by (holds rule key && not (list_any (hides key rule) later)) (length-rules_at key later)
  where
    by : (b : Bool) → length (rules_at key later) ≤ length later → length (cond b (rule ∷ rules_at key later) (rules_at key later)) ≤ suc (length later)
    by true rest = omega arith
    by false rest = omega arith

pub found_short : (key : List ℕ) (found rules : List Rule) (at : ℕ) → found ++ rules_at key (drop at rules) ≡ rules_at key rules → length found ≤ length rules
found_short key found rules at whole =
    let all = length-rules_at key rules in
    let long = simp length-append at (ap length whole) in
    omega arith

pub few_at_limit : (rule : Rule) (before rules after : List Rule) → rules ≡ before → after ≡ with_rule rule rules → length before < 64 → length after ≤ 64
few_at_limit rule before rules after same value room =
    let one = length-with_rule rule rules in
    let kept = ap length same in
    let long = ap length value in
    omega arith

pub few_known : (rule : Rule) (before rules after : List Rule) → rules ≡ before → after ≡ with_rule rule rules → length before ≤ 64 → knows rule.group rule.id before ≡ true → length after ≤ 64
few_known rule before rules after same value few known =
    let fewer = with_rule_known rule rules (subst (λ xs. knows rule.group rule.id xs ≡ true) (sym same) known) in
    let kept = ap length same in
    let long = ap length value in
    omega arith
