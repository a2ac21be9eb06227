-- What a set has after a rule is set, and what it stays.
use Rattle.std.proofs.Common.{◌≡◌, ◌≢◌, ℕ, ◌≤◌, true, false, not, List, [], ◌∷◌, length, ap, sym, ◌∙◌, arith, subst, ◌⊎◌, inl, inr, fold}
use Rattle.std.proofs.lemmas.Bool.{true≢false, cases_Bool}
use Rattle.std.proofs.lemmas.List.Elements.{All-cons, All-filter, All-append, Contains-append_left, Contains-append_right, Contains-append_cases}
use Rattle.std.proofs.lemmas.List.Kept.{AllPairs-filter}
use Rattle.std.specs.List.{Contains, filter, All}
use Rattle.pd_types.specs.declared.rule.Rule.{Rule}
use Rattle.pd_types.proofs.Members.{all_contains, contains_all, contains_cases, contains_head, contains_here, contains_none, contains_tail, kept_from, kept_old}
use Rattle.pd_types.proofs.Pairs.{pairs_head, pairs_tail}
use Rattle.rule_set.specs.Order.{comes_before, AreInOrder, AreApart, AreNamedApart, is_named, without, placed}
use Rattle.rule_set.specs.RuleSets.{HasFewLocations, IsRuleSet}
use Rattle.rule_set.specs.Changes.{with_rule, set_of}
use Rattle.rule_set.proofs.NameLemmas.{named_true, named_self, one_goes}
use Rattle.rule_set.proofs.RuleLemmas.{length-filter-le, with_rule_some}

-- a fact of the rule and of all others
pub all_placed : (P : Rule → Type 0) (rule : Rule) (rules : List Rule) → P rule → All P rules → All P (placed rule rules)
all_placed P rule rules here all =
    All-append P (filter (λ one. comes_before one rule) rules) (rule ∷ filter (λ one. not (comes_before one rule)) rules)
    (All-filter (λ one. comes_before one rule) P rules all)
    (All-cons P rule (filter (λ one. not (comes_before one rule)) rules) here (All-filter (λ one. not (comes_before one rule)) P rules all))

pub all_with : (P : Rule → Type 0) (rule : Rule) (rules : List Rule) → P rule → All P rules → All P (with_rule rule rules)
all_with P rule rules here all =
    all_placed P rule (without rule.group rule.id rules) here (All-filter (λ one. not (is_named rule.group rule.id one)) P rules all)

-- the rules are the one that is placed and the others
pub placed_from : (rule one : Rule) (rules : List Rule) → Contains (placed rule rules) one → (rule ≡ one) ⊎ Contains rules one
placed_from rule one rules has = by (Contains-append_cases (filter (λ x. comes_before x rule) rules) (rule ∷ filter (λ x. not (comes_before x rule)) rules) one has)
  where
    behind : (rule ≡ one) ⊎ Contains (filter (λ x. not (comes_before x rule)) rules) one → (rule ≡ one) ⊎ Contains rules one
    behind (inl here) = inl here
    behind (inr there) = inr (kept_from (λ x. not (comes_before x rule)) one rules there).0

    by : Contains (filter (λ x. comes_before x rule) rules) one ⊎ Contains (rule ∷ filter (λ x. not (comes_before x rule)) rules) one → (rule ≡ one) ⊎ Contains rules one
    by (inl front) = inr (kept_from (λ x. comes_before x rule) one rules front).0
    by (inr back) = behind (contains_cases rule one (filter (λ x. not (comes_before x rule)) rules) back)

pub placed_here : (rule : Rule) (rules : List Rule) → Contains (placed rule rules) rule
placed_here rule rules =
    Contains-append_right (filter (λ x. comes_before x rule) rules) (rule ∷ filter (λ x. not (comes_before x rule)) rules) rule
    (contains_head rule (filter (λ x. not (comes_before x rule)) rules))

pub placed_old : (rule one : Rule) (rules : List Rule) → Contains rules one → Contains (placed rule rules) one
placed_old rule one rules has = by (cases_Bool (comes_before one rule))
  where
    by : (comes_before one rule ≡ true) ⊎ (comes_before one rule ≡ false) → Contains (placed rule rules) one
    by (inl before) = Contains-append_left (filter (λ x. comes_before x rule) rules) (rule ∷ filter (λ x. not (comes_before x rule)) rules) one (kept_old (λ x. comes_before x rule) one rules has before)
    by (inr after) =
        Contains-append_right (filter (λ x. comes_before x rule) rules) (rule ∷ filter (λ x. not (comes_before x rule)) rules) one
        (contains_tail rule one (filter (λ x. not (comes_before x rule)) rules) (kept_old (λ x. not (comes_before x rule)) one rules has (ap not after)))

-- the rules of other names
pub left_from : (group id : List ℕ) (one : Rule) (rules : List Rule) → Contains (without group id rules) one → Contains rules one × (one.group ≡ group → one.id ≡ id → ⊥)
left_from group id one rules has =
    let parts = kept_from (λ x. not (is_named group id x)) one rules has in
    (parts.0, λ same_group same_id. true≢false (sym parts.1 ∙ ap not (named_self group id one same_group same_id)))

pub left_old : (group id : List ℕ) (one : Rule) (rules : List Rule) → Contains rules one → (one.group ≡ group → one.id ≡ id → ⊥) → Contains (without group id rules) one
left_old group id one rules has other = kept_old (λ x. not (is_named group id x)) one rules has (ap not (by (cases_Bool (is_named group id one))))
  where
    by : (is_named group id one ≡ true) ⊎ (is_named group id one ≡ false) → is_named group id one ≡ false
    by (inl named) = let names = named_true group id one named in absurd (other names.0 names.1)
    by (inr not_named) = not_named

pub with_from : (rule one : Rule) (rules : List Rule) → Contains (with_rule rule rules) one → (rule ≡ one) ⊎ (Contains rules one × AreApart one rule)
with_from rule one rules has = by (placed_from rule one (without rule.group rule.id rules) has)
  where
    by : (rule ≡ one) ⊎ Contains (without rule.group rule.id rules) one → (rule ≡ one) ⊎ (Contains rules one × AreApart one rule)
    by (inl here) = inl here
    by (inr there) = inr (left_from rule.group rule.id one rules there)

pub with_here : (rule : Rule) (rules : List Rule) → Contains (with_rule rule rules) rule
with_here rule rules = placed_here rule (without rule.group rule.id rules)

pub with_old : (rule one : Rule) (rules : List Rule) → Contains rules one → AreApart one rule → Contains (with_rule rule rules) one
with_old rule one rules has apart =
    placed_old rule one (without rule.group rule.id rules) (left_old rule.group rule.id one rules has apart)

-- rules of distinct names, set one after another
abbrev Clear : List Rule → List Rule → Type 0
Clear before rules = (one other : Rule) → Contains before one → Contains rules other → AreApart one other

abbrev set_on : List Rule → List Rule → List Rule
set_on before rules = fold (λ old rule. with_rule rule old) before rules

clear_next : (before : List Rule) (x : Rule) (rules : List Rule) → AreNamedApart (x ∷ rules) → Clear before (x ∷ rules) → Clear (with_rule x before) rules
clear_next before x rules apart clear one other has there = by (with_from x one before has)
  where
    by : (x ≡ one) ⊎ (Contains before one × AreApart one x) → AreApart one other
    by (inl here) = subst (λ r. AreApart r other) here (contains_all (AreApart x) other rules (pairs_head AreApart x rules apart) there)
    by (inr old) = clear one other old.0 (contains_tail x other rules there)

all_on : (before rules : List Rule) (one : Rule) → AreNamedApart rules → Clear before rules → Contains before one ⊎ Contains rules one → Contains (set_on before rules) one
all_on before [] one apart clear (inl has) = has
all_on before [] one apart clear (inr has) = absurd (contains_none one has)
all_on before (x ∷ rules) one apart clear has =
    all_on (with_rule x before) rules one (pairs_tail AreApart x rules apart) (clear_next before x rules apart clear) (by has)
  where
    new : (x ≡ one) ⊎ Contains rules one → Contains (with_rule x before) one ⊎ Contains rules one
    new (inl here) = inl (subst (Contains (with_rule x before)) here (with_here x before))
    new (inr there) = inr there

    by : Contains before one ⊎ Contains (x ∷ rules) one → Contains (with_rule x before) one ⊎ Contains rules one
    by (inl old) = inl (with_old x one before old (clear one x old (contains_head x rules)))
    by (inr now) = new (contains_cases x one rules now)

only_on : (before rules : List Rule) (one : Rule) → Contains (set_on before rules) one → Contains before one ⊎ Contains rules one
only_on before [] one has = inl has
only_on before (x ∷ rules) one has = by (only_on (with_rule x before) rules one has)
  where
    old : (x ≡ one) ⊎ (Contains before one × AreApart one x) → Contains before one ⊎ Contains (x ∷ rules) one
    old (inl here) = inr (contains_here x one rules here)
    old (inr there) = inl there.0

    by : Contains (with_rule x before) one ⊎ Contains rules one → Contains before one ⊎ Contains (x ∷ rules) one
    by (inl set) = old (with_from x one before set)
    by (inr there) = inr (contains_tail x one rules there)

pub set_of_all : (rules : List Rule) (one : Rule) → AreNamedApart rules → Contains rules one → Contains (set_of rules) one
set_of_all rules one apart has = all_on [] rules one apart (λ a b none there. absurd (contains_none a none)) (inr has)

pub set_of_only : (rules : List Rule) (one : Rule) → Contains (set_of rules) one → Contains rules one
set_of_only rules one has = by (only_on [] rules one has)
  where
    by : Contains [] one ⊎ Contains rules one → Contains rules one
    by (inl none) = absurd (contains_none one none)
    by (inr there) = there

-- a set stays one where one of several rules goes
pub still_set : (group id : List ℕ) (rules : List Rule) → IsRuleSet rules → length rules ≢ 1 → IsRuleSet (without group id rules)
still_set group id rules is several =
    let goes = one_goes group id rules is.names in
    let fewer = length-filter-le (λ one. not (is_named group id one)) rules in
    record {
      order = AllPairs-filter (λ one later. comes_before one later ≡ true) (λ one. not (is_named group id one)) rules is.order;
      names = AllPairs-filter AreApart (λ one. not (is_named group id one)) rules is.names;
      some = let some = is.some in omega arith;
      few = let few = is.few in omega arith;
      locations = All-filter (λ one. not (is_named group id one)) HasFewLocations rules is.locations;
    }

-- a set stays one where a rule is set and few are there
pub set_more : (rule : Rule) (before rules after : List Rule) → rules ≡ before → after ≡ with_rule rule rules → IsRuleSet before → HasFewLocations rule → AreInOrder after → AreNamedApart after → length after ≤ 64 → IsRuleSet after
set_more rule before rules after same value is here order names few = record {
  order = order;
  names = names;
  some = rw value (with_rule_some rule rules);
  few = few;
  locations = rw (value, same) (all_with HasFewLocations rule before here is.locations);
}

-- rules of distinct names are a set
pub set_of_locations : (rules : List Rule) → All HasFewLocations rules → All HasFewLocations (set_of rules)
set_of_locations rules all = all_contains HasFewLocations (set_of rules) (λ one has. contains_all HasFewLocations one rules all (set_of_only rules one has))
