-- What a filter keeps and a search finds, by the places of a list.
use Rattle.std.proofs.Common.{◌≡◌, ℕ, zero, suc, ◌<◌, ◌≤◌, Bool, true, false, cond, List, [], ◌∷◌, ◌++◌, length, get_or, take, drop, set, refl, ap, sym, ◌∙◌, arith, subst, Some, None}
use Rattle.std.proofs.lemmas.Grind.{common_steps}
use Rattle.std.proofs.lemmas.Bool.{true≢false}
use Rattle.std.specs.List.{filter, find}

-- a test that all before the place pass, and none from there on
pub filter_front : {X : Type 0} (p : X → Bool) (xs : List X) (i : ℕ) → ((k : ℕ) (d : X) → k < i → k < length xs → p (get_or xs k d) ≡ true) → ((k : ℕ) (d : X) → i ≤ k → k < length xs → p (get_or xs k d) ≡ false) → filter p xs ≡ take i xs
filter_front p [] i passes fails = grind (arith, common_steps)
filter_front p (x ∷ xs) zero passes fails =
    let rest = filter_front p xs zero (λ k d low in_list. absurd (omega arith)) (λ k d low in_list. fails (suc k) d (omega arith) (omega arith)) in
    rw (fails 0 x (omega arith) (omega arith)) (rest ∙ refl)
filter_front p (x ∷ xs) (suc i) passes fails =
    let rest = filter_front p xs i (λ k d low in_list. passes (suc k) d (omega arith) (omega arith)) (λ k d low in_list. fails (suc k) d (omega arith) (omega arith)) in
    rw (passes 0 x (omega arith) (omega arith)) (ap (λ ys. x ∷ ys) rest)

-- a test that none before the place passes, and all from there on
pub filter_back : {X : Type 0} (p : X → Bool) (xs : List X) (i : ℕ) → ((k : ℕ) (d : X) → k < i → k < length xs → p (get_or xs k d) ≡ false) → ((k : ℕ) (d : X) → i ≤ k → k < length xs → p (get_or xs k d) ≡ true) → filter p xs ≡ drop i xs
filter_back p [] i fails passes = grind (arith, common_steps)
filter_back p (x ∷ xs) zero fails passes =
    let rest = filter_back p xs zero (λ k d low in_list. absurd (omega arith)) (λ k d low in_list. passes (suc k) d (omega arith) (omega arith)) in
    rw (passes 0 x (omega arith) (omega arith)) (ap (λ ys. x ∷ ys) rest)
filter_back p (x ∷ xs) (suc i) fails passes =
    let rest = filter_back p xs i (λ k d low in_list. fails (suc k) d (omega arith) (omega arith)) (λ k d low in_list. passes (suc k) d (omega arith) (omega arith)) in
    rw (fails 0 x (omega arith) (omega arith)) rest

pub filter_all : {X : Type 0} (p : X → Bool) (xs : List X) → ((k : ℕ) (d : X) → k < length xs → p (get_or xs k d) ≡ true) → filter p xs ≡ xs
filter_all p [] passes = refl
filter_all p (x ∷ xs) passes = rw (passes 0 x (omega arith)) (ap (λ ys. x ∷ ys) (filter_all p xs (λ k d low. passes (suc k) d (omega arith))))

pub find_none : {X : Type 0} (p : X → Bool) (xs : List X) → ((k : ℕ) (e : X) → k < length xs → p (get_or xs k e) ≡ false) → find p xs ≡ None
find_none p [] fails = refl
find_none p (x ∷ xs) fails = rw (fails 0 x (omega arith)) (find_none p xs (λ k e low. fails (suc k) e (omega arith)))

-- the first that passes
pub find_first : {X : Type 0} (p : X → Bool) (xs : List X) (i : ℕ) (d : X) → i < length xs → ((k : ℕ) (e : X) → k < i → p (get_or xs k e) ≡ false) → p (get_or xs i d) ≡ true → find p xs ≡ Some (get_or xs i d)
find_first p [] i d inside fails passes = absurd (omega arith)
find_first p (x ∷ xs) zero d inside fails passes = rw passes refl
find_first p (x ∷ xs) (suc i) d inside fails passes =
    rw (fails 0 x (omega arith)) (find_first p xs i d (omega arith) (λ k e low. fails (suc k) e (omega arith)) passes)

pub set_parts : {X : Type 0} (xs : List X) (i : ℕ) (y : X) → i < length xs → set xs i y ≡ take i xs ++ (y ∷ drop (suc i) xs)
set_parts [] i y inside = absurd (omega arith)
set_parts (x ∷ xs) zero y inside = grind (arith, common_steps)
set_parts (x ∷ xs) (suc i) y inside = ap (λ ys. x ∷ ys) (set_parts xs i y (omega arith))

pub only_place : {X : Type 0} (xs : List X) (i k : ℕ) (d : X) (P : X → Type 0) → i ≡ k → P (get_or xs i d) → P (get_or xs k d)
only_place xs i k d P same p = subst (λ j. P (get_or xs j d)) same p

-- a filter that all whom the test finds pass
pub find_kept : {X : Type 0} (p q : X → Bool) → ((x : X) → p x ≡ true → q x ≡ true) → (xs : List X) → find p (filter q xs) ≡ find p xs
find_kept p q passes [] = refl
find_kept p q passes (x ∷ xs) = by (p x) refl (q x) refl (find_kept p q passes xs)
  where
    by : (a : Bool) → p x ≡ a → (b : Bool) → q x ≡ b → find p (filter q xs) ≡ find p xs → find p (cond b (x ∷ filter q xs) (filter q xs)) ≡ cond a (Some x) (find p xs)
    by true found true kept rest = rw found refl
    by true found false gone rest = absurd (true≢false (sym (passes x found) ∙ gone))
    by false other true kept rest = rw other rest
    by false other false gone rest = rest

-- a filter that none whom the test finds passes
pub find_gone : {X : Type 0} (p q : X → Bool) → ((x : X) → p x ≡ true → q x ≡ false) → (xs : List X) → find p (filter q xs) ≡ None
find_gone p q fails [] = refl
find_gone p q fails (x ∷ xs) = by (p x) refl (q x) refl (find_gone p q fails xs)
  where
    by : (a : Bool) → p x ≡ a → (b : Bool) → q x ≡ b → find p (filter q xs) ≡ None → find p (cond b (x ∷ filter q xs) (filter q xs)) ≡ None
    by true found true kept rest = absurd (true≢false (sym kept ∙ fails x found))
    by true found false gone rest = rest
    by false other true kept rest = rw other rest
    by false other false gone rest = rest
