-- Laws of `sum_below` and `any_below`.
use Rattle.std.proofs.Common.{ℕ, zero, suc, Bool, true, false, cond, ◌≡◌, ◌+◌, ◌<◌, ◌≤◌, eqb, arith, refl, inl, inr}
use Rattle.std.proofs.lemmas.Bool.{cases_lt, eq-eqb, ne_eqb}
use Rattle.rule_fit.specs.Sums.{sum_below, any_below}

pub sum_below_le : (n : ℕ) (f g : ℕ → ℕ) → ((i : ℕ) → i < n → f i ≤ g i) → sum_below n f ≤ sum_below n g
sum_below_le zero f g below = omega arith
sum_below_le (suc n) f g below =
    let rest : sum_below n f ≤ sum_below n g = sum_below_le n f g (λ i h. below i (omega arith)) in
    let last : f n ≤ g n = below n (omega arith) in omega arith

pub sum_below_same : (n : ℕ) (f g : ℕ → ℕ) → ((i : ℕ) → i < n → f i ≡ g i) → sum_below n f ≡ sum_below n g
sum_below_same zero f g same = refl
sum_below_same (suc n) f g same =
    let rest : sum_below n f ≡ sum_below n g = sum_below_same n f g (λ i h. same i (omega arith)) in
    let last : f n ≡ g n = same n (omega arith) in omega arith

pub sum_below_plus : (n : ℕ) (f g : ℕ → ℕ) → sum_below n (λ i. f i + g i) ≡ sum_below n f + sum_below n g
sum_below_plus zero f g = refl
sum_below_plus (suc n) f g =
    let rest : sum_below n (λ i. f i + g i) ≡ sum_below n f + sum_below n g = sum_below_plus n f g in omega arith

pub sum_below_none : (n : ℕ) → sum_below n (λ _. 0) ≡ 0
sum_below_none zero = refl
sum_below_none (suc n) = let rest : sum_below n (λ _. 0) ≡ 0 = sum_below_none n in omega arith

-- one place alone
pub sum_below_past : (n k v : ℕ) → n ≤ k → sum_below n (λ i. cond (eqb k i) v 0) ≡ 0
sum_below_past zero k v past = refl
sum_below_past (suc n) k v past =
    let rest : sum_below n (λ i. cond (eqb k i) v 0) ≡ 0 = sum_below_past n k v (omega arith) in
    let other : eqb k n ≡ false = ne_eqb k n (λ e. omega arith) in
    rw (rest, other)

pub sum_below_one : (n k v : ℕ) → k < n → sum_below n (λ i. cond (eqb k i) v 0) ≡ v
sum_below_one zero k v below = absurd (omega arith)
sum_below_one (suc n) k v below =
    elim (cases_lt k n) [
      | inl h ↦
          let rest : sum_below n (λ i. cond (eqb k i) v 0) ≡ v = sum_below_one n k v h in
          let other : eqb k n ≡ false = ne_eqb k n (λ e. omega arith) in
          rw (rest, other) (omega arith)
      | inr h ↦
          let rest : sum_below n (λ i. cond (eqb k i) v 0) ≡ 0 = sum_below_past n k v h in
          let same : eqb k n ≡ true = eq-eqb k n (omega arith) in
          rw (rest, same) (omega arith)
    ]

-- terms that are no greater, with a sum that is no less, are equal one by one
pub sum_below_tight : (n : ℕ) (f g : ℕ → ℕ) → ((i : ℕ) → i < n → f i ≤ g i) → sum_below n g ≤ sum_below n f → (i : ℕ) → i < n → f i ≡ g i
sum_below_tight zero f g below tight i h = absurd (omega arith)
sum_below_tight (suc n) f g below tight i h =
    let rest : sum_below n f ≤ sum_below n g = sum_below_le n f g (λ j k. below j (omega arith)) in
    let last : f n ≤ g n = below n (omega arith) in
    elim (cases_lt i n) [
      | inl k ↦ sum_below_tight n f g (λ j m. below j (omega arith)) (omega arith) i k
      | inr k ↦ let same : i ≡ n = omega arith in rw same (omega arith)
    ]

cond_same : (b : Bool) → cond b true true ≡ true
cond_same true = refl
cond_same false = refl

any_below_last : (n : ℕ) (p : ℕ → Bool) → (any_below n p ≡ true → (i : ℕ) × (i < n) × (p i ≡ true)) → (b : Bool) → p n ≡ b → cond b true (any_below n p) ≡ true → (i : ℕ) × (i < suc n) × (p i ≡ true)
any_below_last n p rest true last pass = (n, omega arith, last)
any_below_last n p rest false last pass = let found : (i : ℕ) × (i < n) × (p i ≡ true) = rest pass in (found.0, let below : found.0 < n = found.1 in omega arith, found.2)

pub any_below_yes : (n : ℕ) (p : ℕ → Bool) (i : ℕ) → i < n → p i ≡ true → any_below n p ≡ true
any_below_yes zero p i h pass = absurd (omega arith)
any_below_yes (suc n) p i h pass =
    elim (cases_lt i n) [
      | inl k ↦ let rest : any_below n p ≡ true = any_below_yes n p i k pass in simp rest (cond_same (p n))
      | inr k ↦ let same : i ≡ n = omega arith in let last : p n ≡ true = rw same at pass in rw last
    ]

pub any_below_one : (n : ℕ) (p : ℕ → Bool) → any_below n p ≡ true → (i : ℕ) × (i < n) × (p i ≡ true)
any_below_one zero p pass = absurd (grind arith)
any_below_one (suc n) p pass = any_below_last n p (any_below_one n p) (p n) refl pass
