-- Lists by their places, and the items of one number.
use Rattle.std.proofs.Common.{◌≡◌, ◌≢◌, ◌⊎◌, ℕ, zero, suc, ◌<◌, List, [], ◌∷◌, ◌++◌, length, cond, eqb, sym, refl, ap, ◌∙◌, subst, inl, inr, ⊎_elim, eq-eqb, ne_eqb, set, arith, append-nil}
use mathlib.Core.Option.{some, some-injective, some-ne-none}
use mathlib.Core.Logic.{dite}
use native.Mathlib.Decide.{ℕ_discrete}
use lib.ListN.{get_elem?}
use Rattle.atomic_table.proofs.Lists.{at_set}
use Rattle.pd_turn.specs.Turns.{items_of, made_by, Among, IsMadeBy}

module _ {A : Type 0} where
  pub at_append : (xs ys : List A) (k : ℕ) (a : A) → get_elem? (xs ++ ys) k ≡ some a → (get_elem? xs k ≡ some a) ⊎ ((j : ℕ) × (get_elem? ys j ≡ some a))
  at_append [] ys k a e = inr (k, e)
  at_append (x ∷ xs) ys zero a e = inl e
  at_append (x ∷ xs) ys (suc k) a e = at_append xs ys k a e

  pub at_end : (l : List A) (a b : A) (j : ℕ) → get_elem? (l ++ a ∷ []) j ≡ some b → ((j < length l) × (get_elem? l j ≡ some b)) ⊎ ((j ≡ length l) × (a ≡ b))
  at_end [] a b zero e = inr (refl, some-injective a b e)
  at_end [] a b (suc j) e = absurd (some-ne-none b (sym e))
  at_end (x ∷ xs) a b zero e = inl (omega arith, e)
  at_end (x ∷ xs) a b (suc j) e = ⊎_elim (λ t. inl (omega (arith, t.0), t.1)) (λ t. inr (ap suc t.0, t.1)) (at_end xs a b j e)

  -- a fact of each place and what stands there
  abbrev pub Each : (ℕ → A → Type 0) → List A → Type 0
  Each F l = (k : ℕ) (a : A) → get_elem? l k ≡ some a → F k a

  pub each_set : (F : ℕ → A → Type 0) (l : List A) (i : ℕ) (a : A) → F i a → ((k : ℕ) (b : A) → k ≢ i → get_elem? l k ≡ some b → F k b) → Each F (set l i a)
  each_set F l i a mine others k b e = ⊎_elim (λ (t : (k ≡ i) × (a ≡ b)). subst (λ (y : ℕ × A). F y.0 y.1) (λ j. (sym t.0 j, t.1 j)) mine)
      (λ (t : (k ≢ i) × (get_elem? l k ≡ some b)). others k b t.0 t.1) (at_set l i k a b e)

module _ {I : Type 0} where
  step_same : (n : ℕ) (x : ℕ × I) (xs ys : List I) → (x.0 ≡ n) → cond (eqb x.0 n) (x.1 ∷ xs) ys ≡ x.1 ∷ xs
  step_same n x xs ys e = rw (eq-eqb x.0 n e) refl

  step_other : (n : ℕ) (x : ℕ × I) (xs ys : List I) → (x.0 ≢ n) → cond (eqb x.0 n) xs ys ≡ ys
  step_other n x xs ys e = rw (ne_eqb x.0 n e) refl

  pub items_of-append : (n : ℕ) (xs ys : List (ℕ × I)) → items_of n (xs ++ ys) ≡ items_of n xs ++ items_of n ys
  items_of-append n [] ys = refl
  items_of-append n (x ∷ xs) ys = dite (ℕ_discrete x.0 n)
      (λ e. rw (eq-eqb x.0 n e) (ap (λ l. x.1 ∷ l) (items_of-append n xs ys)))
      (λ e. rw (ne_eqb x.0 n e) (items_of-append n xs ys))

  pub items_of-own : (n : ℕ) (is : List I) → items_of n (made_by n is) ≡ is
  items_of-own n [] = refl
  items_of-own n (i ∷ is) = rw (eq-eqb n n refl) (ap (λ l. i ∷ l) (items_of-own n is))

  pub items_of-other : (m n : ℕ) (is : List I) → n ≢ m → items_of m (made_by n is) ≡ []
  items_of-other m n [] e = refl
  items_of-other m n (i ∷ is) e = rw (ne_eqb n m e) (items_of-other m n is e)

  -- items of the number n come after others
  pub grown : (n : ℕ) (before : List (ℕ × I)) (l new : List I) (whole : List (ℕ × I)) → l ≡ items_of n before → whole ≡ before ++ made_by n new → l ++ new ≡ items_of n whole
  grown n before l new whole e w = ap (λ k. k ++ new) e ∙ sym (ap (items_of n) w ∙ items_of-append n before (made_by n new) ∙ ap (λ k. items_of n before ++ k) (items_of-own n new))

  pub unmoved : (m n : ℕ) (before : List (ℕ × I)) (l new : List I) (whole : List (ℕ × I)) → n ≢ m → l ≡ items_of m before → whole ≡ before ++ made_by n new → l ≡ items_of m whole
  unmoved m n before l new whole d e w = e ∙ sym (ap (items_of m) w ∙ items_of-append m before (made_by n new) ∙ ap (λ k. items_of m before ++ k) (items_of-other m n new d) ∙ append-nil (items_of m before))

  made_by_number : (n : ℕ) (is : List I) (k : ℕ) (x : ℕ × I) → get_elem? (made_by n is) k ≡ some x → n ≡ x.0
  made_by_number n [] k x e = absurd (some-ne-none x (sym e))
  made_by_number n (i ∷ is) zero x e = ap (λ (y : ℕ × I). y.0) (some-injective (n, i) x e)
  made_by_number n (i ∷ is) (suc k) x e = made_by_number n is k x e

  pub still_made_by : (numbers : List ℕ) (n : ℕ) (before : List (ℕ × I)) (new : List I) (whole : List (ℕ × I)) → Among n numbers → IsMadeBy numbers before → whole ≡ before ++ made_by n new → IsMadeBy numbers whole
  still_made_by numbers n before new whole is all w k x e = ⊎_elim (λ t. all k x t) (λ (t : (j : ℕ) × (get_elem? (made_by n new) j ≡ some x)). subst (λ m. Among m numbers) (made_by_number n new t.0 x t.1) is)
      (at_append before (made_by n new) k x (ap (λ l. get_elem? l k) (sym w) ∙ e))

  -- where no number was given there is no item
  pub nobody : (whole : List (ℕ × I)) → IsMadeBy [] whole → whole ≡ []
  nobody [] is = refl
  nobody (x ∷ xs) is = absurd (some-ne-none x.0 (sym (is 0 x refl).1))
