-- Order, ranges, hiding and borders in words.
use Rattle.std.proofs.Common.{refl, ◌≡◌, ◌≢◌, ℕ, ◌<◌, Bool, true, false, not, ◌&&◌, ◌||◌, nat_eq, List, [], ◌∷◌, length, suc, arith, ap, sym, ◌∙◌, subst, ◌⊎◌, inl, inr}
use Rattle.std.proofs.lemmas.Bool.{true≢false, cases_Bool}
use Rattle.std.proofs.lemmas.Bool.Decides.{nat_tests}
use Rattle.std.proofs.lemmas.Cmp.{nat_list_cmp_total, tied_itself}
use Rattle.std.specs.Cmp.{nat_cmp_is}
use Rattle.std.specs.Cmp.Lexicographic.{same_text, other_text}
use Rattle.std.specs.Ordering.{nat_cmp, is_lt}
use Rattle.std.specs.declared.cmp.Ordering.TheVariants.{Less, Equal}
use Rattle.pd_types.specs.declared.rule.Rule.{Rule}
use Rattle.pd_types.specs.declared.region.Region.{Region}
use Rattle.pd_types.proofs.KeyLemmas.{less_is}
use Rattle.pd_types.specs.Keys.{bytes_order, is_below}
use Rattle.std.specs.Str.{bytes_eq}
use Rattle.rule_set.specs.Order.{comes_before}
use Rattle.rule_set.specs.InForce.{holds, hides}
use Rattle.rule_set.specs.Borders.{strictly_inside}

tied : (one other : List ℕ) → one ≡ other → bytes_order one other ≡ Equal
tied one other same = subst (λ key. bytes_order one key ≡ Equal) same (tied_itself nat_list_cmp_total one)

pub not_less_itself : (key : List ℕ) → is_below key key ≡ false
not_less_itself key = ap is_lt (tied_itself nat_list_cmp_total key)

index_less : (m n : ℕ) → m < n → nat_cmp m n ≡ Less
index_less m n less = sym (nat_cmp_is m n Less less)

index_tied : (m n : ℕ) → m ≡ n → nat_cmp m n ≡ Equal
index_tied m n same = sym (nat_cmp_is m n Equal same)

pub by_group : (one other : Rule) → is_below one.group other.group ≡ true → comes_before one other ≡ true
by_group one other less = rw (less_is (bytes_order one.group other.group) less) refl

pub by_index : (one other : Rule) → one.group ≡ other.group → one.index < other.index → comes_before one other ≡ true
by_index one other same less = rw (tied one.group other.group same, index_less one.index other.index less) refl

pub by_id : (one other : Rule) → one.group ≡ other.group → one.index ≡ other.index → is_below one.id other.id ≡ true → comes_before one other ≡ true
by_id one other same index less = rw (tied one.group other.group same, index_tied one.index other.index index) less

empty_is : (key : List ℕ) → nat_eq (length key) 0 ≡ true → key ≡ []
empty_is [] h = refl
empty_is (x ∷ key) h = absurd (true≢false (sym h ∙ some (length key)))
  where
    some : (n : ℕ) → nat_eq (suc n) 0 ≡ false
    some n = grind (arith, nat_tests)

not_empty : (key : List ℕ) → key ≢ [] → nat_eq (length key) 0 ≡ false
not_empty [] h = absurd (h refl)
not_empty (x ∷ key) h = some (length key)
  where
    some : (n : ℕ) → nat_eq (suc n) 0 ≡ false
    some n = grind (arith, nat_tests)

or_true : (b : Bool) → (b || true) ≡ true
or_true true = refl
or_true false = refl

pub has_start : (rule : Rule) → is_below rule.start rule.end ≡ true → holds rule rule.start ≡ true
has_start rule less = rw (not_less_itself rule.start, less) (or_true (nat_eq (length rule.end) 0))

pub none_before : (rule : Rule) (key : List ℕ) → is_below key rule.start ≡ true → holds rule key ≡ false
none_before rule key less = rw less refl

and_false : (b : Bool) → (b && false) ≡ false
and_false true = refl
and_false false = refl

pub not_its_end : (rule : Rule) → rule.end ≢ [] → holds rule rule.end ≡ false
not_its_end rule some = rw (not_less_itself rule.end, not_empty rule.end some) (and_false (not (is_below rule.end rule.start)))

pub no_end : (rule : Rule) (key : List ℕ) → rule.end ≡ [] → is_below key rule.start ≡ false → holds rule key ≡ true
no_end rule key endless past = rw (past, endless) refl

three : (a b c : Bool) → (a && b && c) ≡ true → (a ≡ true) × (b ≡ true) × (c ≡ true)
three true true true h = (refl, refl, refl)
three true true false h = absurd (true≢false (sym h))
three true false c h = absurd (true≢false (sym h))
three false b c h = absurd (true≢false (sym h))

same_told : (xs ys : List ℕ) → xs ≡ ys → bytes_eq xs ys ≡ true
same_told xs ys same = by (bytes_eq xs ys) refl
  where
    by : (t : Bool) → bytes_eq xs ys ≡ t → bytes_eq xs ys ≡ true
    by true told = told
    by false told = absurd (other_text xs ys (sym told) same)

pub hides_by : (key : List ℕ) (rule later : Rule) → hides key rule later ≡ true → (later.overrides ≡ true) × (later.group ≡ rule.group) × (holds later key ≡ true)
hides_by key rule later told =
    let parts = three later.overrides (bytes_eq later.group rule.group) (holds later key) told in
    (parts.0, same_text later.group rule.group (sym parts.1), parts.2)

pub by_hides : (key : List ℕ) (rule later : Rule) → (later.overrides ≡ true) × (later.group ≡ rule.group) × (holds later key ≡ true) → hides key rule later ≡ true
by_hides key rule later parts = rw (parts.0, same_told later.group rule.group parts.1, parts.2) refl

and_left : (a b : Bool) → (a && b) ≡ true → a ≡ true
and_left true b h = refl
and_left false b h = absurd (true≢false (sym h))

and_right : (a b : Bool) → (a && b) ≡ true → b ≡ true
and_right true b h = h
and_right false b h = absurd (true≢false (sym h))

past_start : (region : Region) (key : List ℕ) → strictly_inside region key ≡ true → is_below region.start key ≡ true
past_start region key inside = and_left (is_below region.start key) (nat_eq (length region.end) 0 || is_below key region.end) inside

pub border_not_start : (region : Region) (key : List ℕ) → strictly_inside region key ≡ true → key ≢ region.start
border_not_start region key inside same =
    true≢false (sym (past_start region key inside) ∙ ap (λ k. is_below region.start k) same ∙ not_less_itself region.start)

pub less_than_none : (one : List ℕ) → is_below one [] ≡ false
less_than_none [] = refl
less_than_none (x ∷ one) = refl

pub border_not_empty : (region : Region) (key : List ℕ) → strictly_inside region key ≡ true → key ≢ []
border_not_empty region key inside none =
    true≢false (sym (past_start region key inside) ∙ ap (λ k. is_below region.start k) none ∙ less_than_none region.start)

pub border_not_end : (region : Region) (key : List ℕ) → strictly_inside region key ≡ true → key ≢ region.end
border_not_end region key inside same = by (cases_Bool (nat_eq (length region.end) 0))
  where
    upto : (nat_eq (length region.end) 0 || is_below key region.end) ≡ true
    upto = and_right (is_below region.start key) (nat_eq (length region.end) 0 || is_below key region.end) inside

    by : (nat_eq (length region.end) 0 ≡ true) ⊎ (nat_eq (length region.end) 0 ≡ false) → ⊥
    by (inl none) = border_not_empty region key inside (same ∙ empty_is region.end none)
    by (inr some) =
        let less : is_below key region.end ≡ true = rw some at upto in
        true≢false (sym less ∙ ap (λ k. is_below k region.end) same ∙ not_less_itself region.end)
