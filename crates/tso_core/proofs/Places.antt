-- Lists read at a place, by `get_elem?` and by `get_or`.
use Rattle.std.proofs.Common.{◌≡◌, ℕ, zero, suc, ◌<◌, List, [], ◌∷◌, length, get_or, set, map, sym, refl, ap, ◌∙◌, arith}
use Rattle.std.proofs.lemmas.List.{map-set, set-get_or}
use mathlib.Core.Option.{some, some-injective, some-ne-none}
use lib.ListN.{get_elem?}

module _ {A : Type 0} where
  pub at_get : (xs : List A) (i : ℕ) (d : A) → i < length xs → get_elem? xs i ≡ some (get_or xs i d)
  at_get [] i d within = absurd (omega arith)
  at_get (x ∷ xs) zero d within = refl
  at_get (x ∷ xs) (suc i) d within = at_get xs i d (omega arith)

  pub get_at : (xs : List A) (i : ℕ) (a d : A) → get_elem? xs i ≡ some a → get_or xs i d ≡ a
  get_at [] i a d found = absurd (some-ne-none a (sym found))
  get_at (x ∷ xs) zero a d found = some-injective x a found
  get_at (x ∷ xs) (suc i) a d found = get_at xs i a d found

  pub get_any : (xs : List A) (i : ℕ) (d e : A) → i < length xs → get_or xs i d ≡ get_or xs i e
  get_any [] i d e within = absurd (omega arith)
  get_any (x ∷ xs) zero d e within = refl
  get_any (x ∷ xs) (suc i) d e within = get_any xs i d e (omega arith)

  pub at_inside : (xs : List A) (i : ℕ) (a : A) → get_elem? xs i ≡ some a → i < length xs
  at_inside [] i a found = absurd (some-ne-none a (sym found))
  at_inside (x ∷ xs) zero a found = omega arith
  at_inside (x ∷ xs) (suc i) a found = omega (arith, at_inside xs i a found)

  pub set_here : (xs : List A) (i : ℕ) (a : A) → i < length xs → get_elem? (set xs i a) i ≡ some a
  set_here [] i a within = absurd (omega arith)
  set_here (x ∷ xs) zero a within = refl
  set_here (x ∷ xs) (suc i) a within = set_here xs i a (omega arith)

module _ {A B : Type 0} (f : A → B) where
  -- what stands at a place of a mapped list
  pub get_mapped : (xs : List A) (i : ℕ) (x : A) (d : B) → i < length xs → x ≡ get_or xs i x → f x ≡ get_or (map f xs) i d
  get_mapped [] i x d within is = absurd (omega arith)
  get_mapped (y ∷ ys) zero x d within is = ap f is
  get_mapped (y ∷ ys) (suc i) x d within is = get_mapped ys i x d (omega arith) is

  -- a place whose new value means what the old one meant
  pub map_kept : (xs : List A) (i : ℕ) (x : A) (d : B) → f x ≡ get_or (map f xs) i d → map f (set xs i x) ≡ map f xs
  map_kept xs i x d is = map-set f xs i x ∙ ap (λ (v : B). set (map f xs) i v) is ∙ set-get_or (map f xs) i d

  -- a new value at a place that means what the one found there meant
  pub seat_kept : (xs : List A) (i : ℕ) (x y : A) (d : B) → i < length xs → y ≡ get_or xs i y → f x ≡ f y → map f (set xs i x) ≡ map f xs
  seat_kept xs i x y d within is same = map_kept xs i x d (same ∙ get_mapped xs i y d within is)
