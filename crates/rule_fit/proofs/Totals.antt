-- Sums and sizes, against the words that the code meets.
use Rattle.std.proofs.Common.{ℕ, zero, suc, Bool, true, false, cond, ◌≡◌, ◌+◌, ◌<◌, ◌≤◌, eqb, arith, refl, ap, sym, ◌∙◌, List, [], ◌∷◌, ◌++◌, length, get_or, take, replicate, Option, Some, None, not, sum, add-one, ◌||◌}
use Rattle.std.specs.List.{count_by}
use Rattle.std.proofs.lemmas.Bool.{eq-eqb}
use Rattle.std.proofs.lemmas.List.{take_all}
use Rattle.std.proofs.lemmas.List.Sums.{sum_by-cons, sum_by_more}
use Rattle.std.proofs.lemmas.List.Folds.{sum_by-replicate, list_any-append, list_any_at}
use Rattle.rule_fit.specs.Sums.{sum_below, any_below}
use Rattle.rule_fit.specs.Chosen.{listed, wanted, capacity, size_of}
use Rattle.rule_fit.specs.Assignment.{has, held, placed, IsAssignment}
use Rattle.rule_fit.specs.Search.{marked}
use Rattle.rule_fit.proofs.SumLemmas.{sum_below_same}
use Rattle.rule_fit.proofs.Counting.{goes, by_rule, placed_cons, goes_cons}

pub sum_below_more : (n : ℕ) (f : ℕ → ℕ) → sum_below (n + 1) f ≡ sum_below n f + f n
sum_below_more n f = rw add-one refl

pub any_below_none : (n : ℕ) (p : ℕ → Bool) → ((i : ℕ) → i < n → p i ≡ false) → any_below n p ≡ false
any_below_none zero p none = refl
any_below_none (suc n) p none =
    let rest : any_below n p ≡ false = any_below_none n p (λ i h. none i (omega arith)) in
    let last : p n ≡ false = none n (omega arith) in rw last rest

any_below_same : (n : ℕ) (p q : ℕ → Bool) → ((i : ℕ) → i < n → p i ≡ q i) → any_below n p ≡ any_below n q
any_below_same zero p q same = refl
any_below_same (suc n) p q same =
    let rest : any_below n p ≡ any_below n q = any_below_same n p q (λ i h. same i (omega arith)) in
    let last : p n ≡ q n = same n (omega arith) in rw (last, rest) refl

-- a list summed by its places
taken_sum : (xs : List ℕ) (n : ℕ) → n ≤ length xs → sum_below n (λ i. get_or xs i 0) ≡ sum (take n xs)
taken_sum xs zero h = refl
taken_sum xs (suc n) h =
    let rest : sum_below n (λ i. get_or xs i 0) ≡ sum (take n xs) = taken_sum xs n (omega arith) in
    let more : sum (take (n + 1) xs) ≡ sum (take n xs) + get_or xs n 0 = sum_by_more (λ x. x) xs n 0 h in
    let step = rw add-one at more in omega arith

pub sum_by_place : (xs : List ℕ) → sum_below (length xs) (λ i. get_or xs i 0) ≡ sum xs
sum_by_place xs = taken_sum xs (length xs) (omega arith) ∙ ap (λ (ys : List ℕ). sum ys) (take_all (length xs) xs (omega arith))

taken_size : (reached : List Bool) (n : ℕ) → n ≤ length reached → size_of n (marked reached) ≡ count_by (λ b. b) (take n reached)
taken_size reached zero h = refl
taken_size reached (suc n) h =
    let rest : size_of n (marked reached) ≡ count_by (λ b. b) (take n reached) = taken_size reached n (omega arith) in
    let more : count_by (λ b. b) (take (n + 1) reached) ≡ count_by (λ b. b) (take n reached) + cond (marked reached n) 1 0 = sum_by_more (λ b. cond b 1 0) reached n false h in
    let step = rw add-one at more in omega arith

pub size_marked : (reached : List Bool) → size_of (length reached) (marked reached) ≡ count_by (λ b. b) reached
size_marked reached = taken_size reached (length reached) (omega arith) ∙ ap (λ (bs : List Bool). count_by (λ b. b) bs) (take_all (length reached) reached (omega arith))

in_or_out : (b : Bool) → cond {A = ℕ} b 1 0 + cond (not b) 1 0 ≡ 1
in_or_out true = refl
in_or_out false = refl

pub in_and_out : (reached : List Bool) → count_by (λ b. b) reached + count_by not reached ≡ length reached
in_and_out [] = refl
in_and_out (b ∷ reached) =
    let rest : count_by (λ b. b) reached + count_by not reached ≡ length reached = in_and_out reached in
    let one : count_by (λ b. b) (b ∷ reached) ≡ cond b 1 0 + count_by (λ b. b) reached = sum_by-cons (λ x. cond x 1 0) b reached in
    let two : count_by not (b ∷ reached) ≡ cond (not b) 1 0 + count_by not reached = sum_by-cons (λ x. cond (not x) 1 0) b reached in
    let both = in_or_out b in omega arith

-- the peers with a rule, rule by rule
placed_goes : (given : List (Option ℕ)) → count_by (goes (λ _. true)) given ≡ placed given
placed_goes [] = refl
placed_goes (None ∷ given) =
    let rest : count_by (goes (λ _. true)) given ≡ placed given = placed_goes given in
    goes_cons (λ _. true) None given ∙ ap (λ (n : ℕ). 0 + n) rest ∙ sym (placed_cons None given)
placed_goes (Some r ∷ given) =
    let rest : count_by (goes (λ _. true)) given ≡ placed given = placed_goes given in
    goes_cons (λ _. true) (Some r) given ∙ ap (λ (n : ℕ). 1 + n) rest ∙ sym (placed_cons (Some r) given)

pub placed_by_rule : (suits : ℕ → ℕ → Bool) (peers : ℕ) (counts : List ℕ) (given : List (Option ℕ)) → IsAssignment suits peers counts given → placed given ≡ sum_below (length counts) (λ r. held given r)
placed_by_rule suits peers counts given assigned = sym (placed_goes given) ∙ by_rule (λ _. true) (length counts) given assigned.known

-- the same set, the same sizes
pub size_same : (peers : ℕ) (p q : ℕ → Bool) → ((i : ℕ) → i < peers → p i ≡ q i) → size_of peers p ≡ size_of peers q
size_same peers p q same = sum_below_same peers _ _ (λ i h. rw (same i h) refl)

pub capacity_same : (suits : ℕ → ℕ → Bool) (peers : ℕ) (counts : List ℕ) (p q : ℕ → Bool) → ((i : ℕ) → i < peers → p i ≡ q i) → capacity counts (wanted suits peers p) ≡ capacity counts (wanted suits peers q)
capacity_same suits peers counts p q same =
    sum_below_same (length counts) _ _ (λ r h. rw (any_below_same peers (λ i. cond (p i) (suits i r) false) (λ i. cond (q i) (suits i r) false) (λ i k. rw (same i k) refl)) refl)

pub or_false : (b : Bool) → (b || false) ≡ b
or_false true = refl
or_false false = refl

-- nobody has a rule yet
pub none_held : (n r : ℕ) → held (replicate n None) r ≡ 0
none_held n r = let all = sum_by-replicate (λ (y : Option ℕ). cond (has r y) 1 0) n None in omega arith

never : (n p r : ℕ) → get_or (replicate n None) p None ≡ Some r → ⊥
never zero p r e = cc
never (suc n) zero r e = cc
never (suc n) (suc p) r e = never n p r e

none_length : (n : ℕ) → length (replicate {A = Option ℕ} n None) ≡ n
none_length zero = refl
none_length (suc n) = let rest : length (replicate {A = Option ℕ} n None) ≡ n = none_length n in omega arith

pub none_assigned : (suits : ℕ → ℕ → Bool) (n : ℕ) (counts : List ℕ) → IsAssignment suits n counts (replicate n None)
none_assigned suits n counts = record {
  each = none_length n;
  known = λ p r e. absurd (never n p r e);
  suited = λ p r e. absurd (never n p r e);
  within = λ r h. rw (none_held n r) (omega arith);
}

pub listed_push : (places : List ℕ) (x p : ℕ) → listed (places ++ x ∷ []) p ≡ (listed places p || eqb x p)
listed_push places x p = list_any-append (λ y. eqb y p) places (x ∷ []) ∙ ap (λ (b : Bool). (listed places p || b)) (or_false (eqb x p))

pub listed_at : (places : List ℕ) (k d : ℕ) → k < length places → listed places (get_or places k d) ≡ true
listed_at places k d h = list_any_at (λ y. eqb y (get_or places k d)) places k d h (eq-eqb (get_or places k d) (get_or places k d) refl)
