-- Keys in rising order, and what one more makes of them.
use Rattle.std.proofs.Common.{refl, ◌≡◌, ℕ, zero, suc, ◌+◌, ◌<◌, ◌≤◌, true, false, List, [], ◌∷◌, ◌++◌, length, get_or, take, drop, ap, sym, ◌∙◌, arith, subst, nat_eq, ◌⊎◌, inl, inr}
use Rattle.std.proofs.lemmas.Bool.{cases_eq, true≢false}
use Rattle.std.proofs.lemmas.Bool.Decides.{nat_tests}
use Rattle.std.proofs.lemmas.Cmp.{nat_list_cmp_total}
use Rattle.std.proofs.lemmas.List.Elements.{Contains-append_left, Contains-append_right, Contains-append_cases}
use Rattle.std.specs.Cmp.Lexicographic.{lists_ties}
use Rattle.std.specs.Ordering.{nat_cmp, is_lt, is_gt, is_eq, eq_by_cmp}
use Rattle.std.specs.declared.cmp.Ordering.{Ordering}
use Rattle.std.specs.declared.cmp.Ordering.TheVariants.{Less, Equal, Greater}
use Rattle.std.specs.List.{insert, Contains}
use Rattle.std.specs.List.Sorted.{IsPartitionedBy}
use Rattle.pd_types.specs.declared.rule.Rule.{Rule}
use Rattle.pd_types.specs.declared.region.Region.{Region}
use Rattle.pd_types.proofs.KeyLemmas.{less_is}
use Rattle.pd_types.specs.Keys.{bytes_order, is_below}
use Rattle.rule_set.specs.Borders.{AreRising, IsBorder, Takes, is_tied, strictly_inside}
use Rattle.rule_set.proofs.Sorted.{parted, before_not_after, gt_is_lt, pairs_insert}

greater : (o : Ordering) → is_lt o ≡ false → is_eq o ≡ false → is_gt o ≡ true
greater Less h k = absurd (true≢false h)
greater Equal h k = absurd (true≢false k)
greater Greater h k = refl

number_ties : (x y : ℕ) → nat_eq x y ≡ eq_by_cmp nat_cmp x y
number_ties x y = grind (arith, nat_tests)

-- keys that are neither less nor the same are greater
pub past_key : (one key : List ℕ) → is_below one key ≡ false → is_tied one key ≡ false → is_below key one ≡ true
past_key one key not_less not_tied =
    let tie = lists_ties {E = nat_eq} nat_cmp number_ties one key in
    sym (gt_is_lt bytes_order nat_list_cmp_total one key) ∙ greater (bytes_order one key) not_less (sym tie ∙ not_tied)

pub less_trans : (a b c : List ℕ) → is_below a b ≡ true → is_below b c ≡ true → is_below a c ≡ true
less_trans a b c first second =
    ap is_lt (nat_list_cmp_total.trans a b c (less_is (bytes_order a b) first) (less_is (bytes_order b c) second))

pub keys_parted : (key : List ℕ) (keys : List (List ℕ)) → AreRising keys → IsPartitionedBy (λ one. is_below one key) keys
keys_parted key keys rising =
    parted bytes_order nat_list_cmp_total key keys (λ i j d less low. before_not_after bytes_order nat_list_cmp_total (get_or keys i d) (get_or keys j d) (rising i j d less low))

pub rising_insert : (key : List ℕ) (xs ys : List (List ℕ)) (i : ℕ) → xs ≡ ys → i ≤ length xs → AreRising ys → ((k : ℕ) (d : List ℕ) → k < i → is_below (get_or xs k d) key ≡ true) → ((k : ℕ) (d : List ℕ) → i ≤ k → k < length xs → is_below (get_or xs k d) key ≡ false) → ((d : List ℕ) → i < length xs → is_tied (get_or xs i d) key ≡ false) → AreRising (insert ys i key)
rising_insert key xs ys i same within rising before after other =
    let rising_xs : AreRising xs = subst AreRising (sym same) rising in
    let R : List ℕ → List ℕ → Type 0 = λ one later. is_below one later ≡ true in
    subst (λ zs. AreRising (insert zs i key)) same
    (pairs_insert R xs i key within rising_xs before (λ k d high low. behind rising_xs k d high low (cases_eq i k)))
  where
    first : (d : List ℕ) → i < length xs → is_below key (get_or xs i d) ≡ true
    first d low = past_key (get_or xs i d) key (after i d (omega arith) low) (other d low)

    behind : AreRising xs → (k : ℕ) (d : List ℕ) → i ≤ k → k < length xs → (i ≡ k) ⊎ (i ≡ k → ⊥) → is_below key (get_or xs k d) ≡ true
    behind rising_xs k d high low (inl here) = subst (λ m. is_below key (get_or xs m d) ≡ true) here (first d (omega arith))
    behind rising_xs k d high low (inr past) =
        less_trans key (get_or xs i d) (get_or xs k d) (first d (omega arith)) (rising_xs i k d (omega arith) low)

take_drop : {X : Type 0} (xs : List X) (i : ℕ) → take i xs ++ drop i xs ≡ xs
take_drop [] zero = refl
take_drop [] (suc i) = refl
take_drop (x ∷ xs) zero = refl
take_drop (x ∷ xs) (suc i) = ap (λ ys. x ∷ ys) (take_drop xs i)

-- a key outside, or one that is listed, leaves the keys
pub takes_outside : (region : Region) (keys : List (List ℕ)) (key : List ℕ) → strictly_inside region key ≡ false → Takes region keys keys key
takes_outside region keys key outside = record {
  kept = λ other known. known;
  listed = λ inside. absurd (true≢false (sym inside ∙ outside));
  only = λ other known. inl known;
}

pub takes_listed : (region : Region) (keys : List (List ℕ)) (key : List ℕ) → Contains keys key → Takes region keys keys key
takes_listed region keys key listed = record { kept = λ other known. known; listed = λ inside. listed; only = λ other known. inl known }

-- a key that is put in
pub takes_insert : (region : Region) (keys : List (List ℕ)) (i : ℕ) (key : List ℕ) → strictly_inside region key ≡ true → Takes region keys (insert keys i key) key
takes_insert region keys i key inside = record {
  kept = λ other known. kept other (Contains-append_cases (take i keys) (drop i keys) other (subst (λ zs. Contains zs other) (sym (take_drop keys i)) known));
  listed = λ _. Contains-append_right (take i keys) (key ∷ drop i keys) key (0, omega arith, refl);
  only = λ other known. only other (Contains-append_cases (take i keys) (key ∷ drop i keys) other known);
}
  where
    kept : (other : List ℕ) → Contains (take i keys) other ⊎ Contains (drop i keys) other → Contains (insert keys i key) other
    kept other (inl front) = Contains-append_left (take i keys) (key ∷ drop i keys) other front
    kept other (inr back) = Contains-append_right (take i keys) (key ∷ drop i keys) other (Contains-append_right (key ∷ []) (drop i keys) other back)

    again : (other : List ℕ) → Contains (take i keys) other ⊎ Contains (drop i keys) other → Contains keys other
    again other (inl front) = subst (λ zs. Contains zs other) (take_drop keys i) (Contains-append_left (take i keys) (drop i keys) other front)
    again other (inr back) = subst (λ zs. Contains zs other) (take_drop keys i) (Contains-append_right (take i keys) (drop i keys) other back)

    tail : (other : List ℕ) → Contains (key ∷ []) other ⊎ Contains (drop i keys) other → Contains keys other ⊎ ((other ≡ key) × (strictly_inside region key ≡ true))
    tail other (inl (k, low, same)) = inr (sym (let here : k ≡ 0 = omega arith in subst (λ m. get_or (key ∷ []) m other ≡ other) here same), inside)
    tail other (inr back) = inl (again other (inr back))

    only : (other : List ℕ) → Contains (take i keys) other ⊎ Contains (key ∷ drop i keys) other → Contains keys other ⊎ ((other ≡ key) × (strictly_inside region key ≡ true))
    only other (inl front) = inl (again other (inl front))
    only other (inr back) = tail other (Contains-append_cases (key ∷ []) (drop i keys) other back)

same_at : {X : Type 0} (xs : List X) (i : ℕ) (a b : X) → i < length xs → get_or xs i a ≡ get_or xs i b
same_at [] i a b inside = absurd (omega arith)
same_at (x ∷ xs) zero a b inside = refl
same_at (x ∷ xs) (suc i) a b inside = same_at xs i a b (omega arith)

-- after the start and the end of one rule more, each key is a border
pub border_more : (rules : List Rule) (region : Region) (old mid new : List (List ℕ)) (n : ℕ) (rule : Rule) → n < length rules → rule ≡ get_or rules n rule → Takes region old mid rule.start → Takes region mid new rule.end → ((key : List ℕ) → Contains old key → IsBorder rules region key) → (key : List ℕ) → Contains new key → IsBorder rules region key
border_more rules region old mid new n rule low here first second borders key known = from_end (second.only key known)
  where
    from_start : Contains old key ⊎ ((key ≡ rule.start) × (strictly_inside region rule.start ≡ true)) → IsBorder rules region key
    from_start (inl before) = borders key before
    from_start (inr (same, inside)) = record { rule = rule; known = (n, low, sym here); edge = inl same; inside = subst (λ k. strictly_inside region k ≡ true) (sym same) inside }

    from_end : Contains mid key ⊎ ((key ≡ rule.end) × (strictly_inside region rule.end ≡ true)) → IsBorder rules region key
    from_end (inl before) = from_start (first.only key before)
    from_end (inr (same, inside)) = record { rule = rule; known = (n, low, sym here); edge = inr same; inside = subst (λ k. strictly_inside region k ≡ true) (sym same) inside }

-- and each border of the rules so far is listed
pub every_more : (rules : List Rule) (region : Region) (old mid new : List (List ℕ)) (n : ℕ) (rule : Rule) → n < length rules → rule ≡ get_or rules n rule → Takes region old mid rule.start → Takes region mid new rule.end → ((i : ℕ) (d : Rule) (key : List ℕ) → i < n → (key ≡ (get_or rules i d).start) ⊎ (key ≡ (get_or rules i d).end) → strictly_inside region key ≡ true → Contains old key) → (i : ℕ) (d : Rule) (key : List ℕ) → i < n + 1 → (key ≡ (get_or rules i d).start) ⊎ (key ≡ (get_or rules i d).end) → strictly_inside region key ≡ true → Contains new key
every_more rules region old mid new n rule low here first second every i d key below edge inside = from_place (cases_eq n i) edge
  where
    same_rule : n ≡ i → get_or rules i d ≡ rule
    same_rule same = subst (λ m. get_or rules m d ≡ rule) same (same_at rules n d rule low ∙ sym here)

    from_place : (n ≡ i) ⊎ (n ≡ i → ⊥) → (key ≡ (get_or rules i d).start) ⊎ (key ≡ (get_or rules i d).end) → Contains new key
    from_place (inl same) (inl start) =
        let is : key ≡ rule.start = start ∙ ap (λ (r : Rule). r.start) (same_rule same) in
        second.kept key (subst (λ k. Contains mid k) (sym is) (first.listed (subst (λ k. strictly_inside region k ≡ true) is inside)))
    from_place (inl same) (inr end) =
        let is : key ≡ rule.end = end ∙ ap (λ (r : Rule). r.end) (same_rule same) in
        subst (λ k. Contains new k) (sym is) (second.listed (subst (λ k. strictly_inside region k ≡ true) is inside))
    from_place (inr other) old_edge = second.kept key (first.kept key (every i d key (omega arith) old_edge inside))

-- once all rules are done
pub every_border : (rules : List Rule) (region : Region) (keys : List (List ℕ)) (n : ℕ) → length rules ≤ n → ((i : ℕ) (d : Rule) (key : List ℕ) → i < n → (key ≡ (get_or rules i d).start) ⊎ (key ≡ (get_or rules i d).end) → strictly_inside region key ≡ true → Contains keys key) → (key : List ℕ) → IsBorder rules region key → Contains keys key
every_border rules region keys n all every key border = by border.known border.edge
  where
    by : Contains rules border.rule → (key ≡ border.rule.start) ⊎ (key ≡ border.rule.end) → Contains keys key
    by (k, low, same) (inl start) = every k border.rule key (omega arith) (inl (start ∙ sym (ap (λ (r : Rule). r.start) same))) border.inside
    by (k, low, same) (inr end) = every k border.rule key (omega arith) (inr (end ∙ sym (ap (λ (r : Rule). r.end) same))) border.inside
