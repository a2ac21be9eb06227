-- The rules that records tell.
use Rattle.std.proofs.Common.{refl, ◌≡◌, ℕ, zero, suc, ◌+◌, ◌<◌, ◌≤◌, Bool, true, false, cond, not, nat_le, List, [], ◌∷◌, length, get_or, fold, filter, filter_map, ap, sym, subst, ◌∙◌, Option, Some, None, arith, codes, ◌⊎◌, inl, inr}
use Rattle.std.specs.Prelude.{Result, Ok, Err}
use Rattle.std.specs.List.{cons_option}
use Rattle.std.specs.Str.{bytes_eq}
use Rattle.std.proofs.lemmas.Bool.Decides.{nat_tests}
use Rattle.std.proofs.lemmas.List.{length-append}
use Rattle.std.proofs.lemmas.List.Elements.{All-cons}
use Rattle.std.specs.List.{All, Any, Contains}
use Rattle.pd_types.specs.declared.rule.Rule.{Rule}
use Rattle.pd_types.specs.Keys.{is_below}
use Rattle.pd_types.proofs.Members.{contains_none}
use Rattle.pd_types.proofs.KeyLemmas.{equal_keys, not_below_itself, same_keys}
use Rattle.hex.specs.Hex.{encode_with}
use Rattle.pd_types.specs.declared.rule.TheConstants.{MAX_RULES}
use Rattle.rule_set.specs.Changes.{with_rule}
use Rattle.rule_set.specs.Order.{AreApart, comes_before, is_named, without}
use Rattle.rule_set.proofs.SetLemmas.{with_from, with_here, with_old}
use Rattle.rule_text.specs.declared.fault.RuleFault.{RuleFault}
use Rattle.rule_text.specs.Tests.{Means}
use Rattle.meta_store.specs.declared.record.Cell.{Cell}
use Rattle.meta_store.specs.Cells.{AreRising}
use Rattle.pd_state.specs.HandedOut.{rule_more, rules_told}
use Rattle.pd_state.specs.Known.{AreRulesTold}
use Rattle.pd_state.proofs.RuleTexts.{means_told}
use Rattle.pd_state.specs.StoredRules.{keyed, rule_in, rule_key, rule_told}

abbrev more : List Rule → Cell → List Rule
more rules cell = rule_more (rule_in cell) rules

abbrev Tells : Rule → Cell → Type 0
Tells rule cell = rule_in cell ≡ Some rule

-- each rule was told
from_more : (o : Option Rule) (rule : Rule) (rules : List Rule) → Contains (rule_more o rules) rule → (o ≡ Some rule) ⊎ Contains rules rule
from_more None rule rules has = inr has
from_more (Some x) rule rules has = by (nat_le MAX_RULES (length rules)) has
  where
    from : (x ≡ rule) ⊎ (Contains rules rule × AreApart rule x) → (Some x ≡ Some rule) ⊎ Contains rules rule
    from (inl same) = inl (ap Some same)
    from (inr old) = inr old.0

    by : (t : Bool) → Contains (cond t rules (with_rule x rules)) rule → (Some x ≡ Some rule) ⊎ Contains rules rule
    by true has = inr has
    by false has = from (with_from x rule rules has)

later_cell : (rule : Rule) (cell : Cell) (cells : List Cell) → Any (Tells rule) cells → Any (Tells rule) (cell ∷ cells)
later_cell rule cell cells (k, c, low, at, is) = (suc k, c, omega arith, at, is)

only_told : (cells : List Cell) (rules : List Rule) (rule : Rule) → Contains (fold more rules cells) rule → Contains rules rule ⊎ Any (Tells rule) cells
only_told [] rules rule has = inl has
only_told (cell ∷ cells) rules rule has = by (only_told cells (more rules cell) rule has)
  where
    first : (rule_in cell ≡ Some rule) ⊎ Contains rules rule → Contains rules rule ⊎ Any (Tells rule) (cell ∷ cells)
    first (inl told) = inr (zero, cell, omega arith, refl, told)
    first (inr before) = inl before

    by : Contains (more rules cell) rule ⊎ Any (Tells rule) cells → Contains rules rule ⊎ Any (Tells rule) (cell ∷ cells)
    by (inl here) = first (from_more (rule_in cell) rule rules here)
    by (inr rest) = inr (later_cell rule cell cells rest)

-- how many there are
both_few : (p : Rule → Bool) (rules : List Rule) → length (filter p rules) + length (filter (λ one. not (p one)) rules) ≤ length rules
both_few p [] = omega arith
both_few p (r ∷ rules) = by (p r) (both_few p rules)
  where
    by : (t : Bool) → length (filter p rules) + length (filter (λ one. not (p one)) rules) ≤ length rules
        → length (cond t (r ∷ filter p rules) (filter p rules)) + length (cond (not t) (r ∷ filter (λ one. not (p one)) rules) (filter (λ one. not (p one)) rules)) ≤ suc (length rules)
    by true rest = omega (arith, rest)
    by false rest = omega (arith, rest)

with_few : (rule : Rule) (rules : List Rule) → length (with_rule rule rules) ≤ length rules + 1
with_few rule rules =
    let left = without rule.group rule.id rules in
    let count = length-append (filter (λ one. comes_before one rule) (without rule.group rule.id rules)) (rule ∷ filter (λ one. not (comes_before one rule)) (without rule.group rule.id rules)) in
    let few = both_few (λ one. comes_before one rule) (without rule.group rule.id rules) in
    let fewer = both_few (λ one. is_named rule.group rule.id one) rules in
    omega (arith, count, few, fewer)

grow : (o : Option Rule) (rules : List Rule) → length (rule_more o rules) ≤ length rules + 1
grow None rules = omega arith
grow (Some rule) rules = by (nat_le MAX_RULES (length rules))
  where
    by : (t : Bool) → length (cond t rules (with_rule rule rules)) ≤ length rules + 1
    by true = omega arith
    by false = with_few rule rules

more_few : (o : Option Rule) (rules : List Rule) → length rules ≤ 64 → length (rule_more o rules) ≤ 64
more_few None rules few = few
more_few (Some rule) rules few = by (nat_le MAX_RULES (length rules)) refl
  where
    by : (t : Bool) → nat_le MAX_RULES (length rules) ≡ t → length (cond t rules (with_rule rule rules)) ≤ 64
    by true is = few
    by false is =
        let less : length rules < 64 = grind (arith, nat_tests) in
        let one = with_few rule rules in
        omega (arith, less, one)

told_few : (cells : List Cell) (rules : List Rule) → length rules ≤ 64 → length (fold more rules cells) ≤ 64
told_few [] rules few = few
told_few (cell ∷ cells) rules few = told_few cells (more rules cell) (more_few (rule_in cell) rules few)

-- a rule stays, where no later record tells one of its name
stays_more : (o : Option Rule) (rule : Rule) (rules : List Rule) → ((x : Rule) → o ≡ Some x → AreApart rule x) → Contains rules rule → Contains (rule_more o rules) rule
stays_more None rule rules others has = has
stays_more (Some x) rule rules others has = by (nat_le MAX_RULES (length rules))
  where
    by : (t : Bool) → Contains (cond t rules (with_rule x rules)) rule
    by true = has
    by false = with_old x rule rules has (others x refl)

stays : (cells : List Cell) (rule : Rule) (rules : List Rule) → All (λ (cell : Cell). (x : Rule) → rule_in cell ≡ Some x → AreApart rule x) cells → Contains rules rule → Contains (fold more rules cells) rule
stays [] rule rules others has = has
stays (cell ∷ cells) rule rules others has =
    stays cells rule (more rules cell) (λ k d low. others (suc k) d (omega arith)) (stays_more (rule_in cell) rule rules (others zero cell (omega arith)) has)

-- where the records rise by key, no two tell rules of one name
keyed_is : (key : List ℕ) (told : Result Rule RuleFault) (rule : Rule) → keyed key told ≡ Some rule → key ≡ rule_key rule.group rule.id
keyed_is key (Err fault) rule is = absurd cc
keyed_is key (Ok x) rule is = by (bytes_eq (rule_key x.group x.id) key) refl is
  where
    same : (x rule : Rule) → Some x ≡ Some rule → x ≡ rule
    same x rule h = cc

    by : (t : Bool) → bytes_eq (rule_key x.group x.id) key ≡ t → cond t (Some x) None ≡ Some rule → key ≡ rule_key rule.group rule.id
    by true eq h = sym (same_keys (rule_key x.group x.id) key eq) ∙ ap (λ (r : Rule). rule_key r.group r.id) (same x rule h)
    by false eq h = absurd cc

pub key_is : (cell : Cell) (rule : Rule) → rule_in cell ≡ Some rule → cell.key ≡ rule_key rule.group rule.id
key_is cell rule told = keyed_is cell.key (rule_told cell.bytes) rule told

apart : (a b : Cell) (one two : Rule) → is_below a.key b.key ≡ true → rule_in a ≡ Some one → rule_in b ≡ Some two → AreApart one two
apart a b one two below first second group id =
    let keys : a.key ≡ b.key = key_is a one first ∙ ap (λ (g : List ℕ). rule_key g one.id) group ∙ ap (λ (i : List ℕ). rule_key two.group i) id ∙ sym (key_is b two second) in
    let yes : is_below b.key b.key ≡ true = subst (λ (key : List ℕ). is_below key b.key ≡ true) keys below in
    let both : true ≡ false = sym yes ∙ not_below_itself b.key in
    cc

-- each rule that is told is there, where there is room for all
told_now : (o : Option Rule) (rule : Rule) (rules : List Rule) → o ≡ Some rule → length rules < 64 → Contains (rule_more o rules) rule
told_now None rule rules is less = absurd cc
told_now (Some x) rule rules is less =
    let room : nat_le MAX_RULES (length rules) ≡ false = grind (arith, nat_tests) in
    let same : x ≡ rule = cc in
    subst (λ (t : Bool). Contains (cond t rules (with_rule x rules)) rule) (sym room) (subst (λ (y : Rule). Contains (with_rule x rules) y) same (with_here x rules))

abbrev TellsLess : List Cell → ℕ → Type 0
TellsLess cells n = n + length (filter_map rule_in cells) ≤ 64

same_none : (o : Option Rule) (rules : List Rule) → o ≡ None → length (rule_more o rules) ≤ length rules
same_none None rules is = omega arith
same_none (Some rule) rules is = absurd cc

less_one : (cell : Cell) (cells : List Cell) (o : Option Rule) (n m : ℕ) → rule_in cell ≡ o → m ≤ n + 1 → (o ≡ None → m ≤ n) → TellsLess (cell ∷ cells) n → TellsLess cells m
less_one cell cells None n m is few same room =
    let count : length (filter_map rule_in (cell ∷ cells)) ≡ length (filter_map rule_in cells) = ap (λ (o : Option Rule). length (cons_option o (filter_map rule_in cells))) is in
    let le = same refl in
    omega (arith, count, le, room)
less_one cell cells (Some rule) n m is few same room =
    let count : length (filter_map rule_in (cell ∷ cells)) ≡ suc (length (filter_map rule_in cells)) = ap (λ (o : Option Rule). length (cons_option o (filter_map rule_in cells))) is in
    omega (arith, count, few, room)

first_less : (cell : Cell) (cells : List Cell) (rule : Rule) (n : ℕ) → rule_in cell ≡ Some rule → TellsLess (cell ∷ cells) n → n < 64
first_less cell cells rule n is room =
    let count : length (filter_map rule_in (cell ∷ cells)) ≡ suc (length (filter_map rule_in cells)) = ap (λ (o : Option Rule). length (cons_option o (filter_map rule_in cells))) is in
    omega (arith, count, room)

every_told : (cells : List Cell) (rules : List Rule) → AreRising cells → TellsLess cells (length rules) → All (λ (cell : Cell). (rule : Rule) → rule_in cell ≡ Some rule → Contains (fold more rules cells) rule) cells
every_told [] rules rising room = λ k d low. absurd (omega arith)
every_told (cell ∷ cells) rules rising room =
    All-cons (λ (one : Cell). (rule : Rule) → rule_in one ≡ Some rule → Contains (fold more rules (cell ∷ cells)) rule) cell cells
    (λ rule told. stays cells rule (more rules cell) (λ k d low x second. apart cell (get_or cells k d) rule x (rising zero (suc k) d (omega arith) (omega arith)) told second) (told_now (rule_in cell) rule rules told (first_less cell cells rule (length rules) told room)))
    (every_told cells (more rules cell) (λ i j d less low. rising (suc i) (suc j) d (omega arith) (omega arith)) (less_one cell cells (rule_in cell) (length rules) (length (more rules cell)) refl (grow (rule_in cell) rules) (same_none (rule_in cell) rules) room))

pub are_rules_told : (cells : List Cell) → AreRulesTold cells (rules_told cells)
are_rules_told cells = record {
  only = λ rule has. by rule (only_told cells [] rule has);
  every = λ rising room. every_told cells [] rising (omega (arith, room));
  few = told_few cells [] (omega arith);
}
  where
    by : (rule : Rule) → Contains [] rule ⊎ Any (Tells rule) cells → Any (λ (cell : Cell). rule_in cell ≡ Some rule) cells
    by rule (inl none) = absurd (contains_none rule none)
    by rule (inr any) = any

-- the default rule's key, letter by letter
pub default_key : rule_key (codes "pd") (codes "default") ≡ codes "rule/7064/64656661756c74"
unfolding encode_with
default_key = refl

-- a rule under its own key is told
pub stored_told : (rule : Rule) (revision : ℕ) (bytes : List ℕ) → Means bytes rule → rule_in (record { key = rule_key rule.group rule.id; revision = revision; bytes = bytes }) ≡ Some rule
stored_told rule revision bytes means =
    ap (keyed (rule_key rule.group rule.id)) (means_told bytes rule means) ∙ ap (λ (t : Bool). cond t (Some rule) None) (equal_keys (rule_key rule.group rule.id) (rule_key rule.group rule.id) refl)
