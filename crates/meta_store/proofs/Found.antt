-- The record of a key after a record is placed or taken out.
use Rattle.std.proofs.Common.{refl, ◌≡◌, ℕ, Bool, true, false, not, cond, List, ◌∷◌, ap, sym, ◌∙◌, subst, Option, Some, None}
use Rattle.std.proofs.lemmas.List.Folds.{find-append}
use Rattle.std.specs.List.{filter}
use Rattle.std.specs.Option.{option_or}
use Rattle.std.specs.Str.{bytes_eq}
use Rattle.pd_types.specs.Keys.{is_below}
use Rattle.pd_types.proofs.Bools.{both}
use Rattle.pd_types.proofs.KeyLemmas.{below_upto, equal_keys, neither_below, not_below_itself, other_keys, same_keys}
use Rattle.pd_types.proofs.Filters.{find_gone, find_kept}
use Rattle.meta_store.specs.declared.record.Cell.{Cell}
use Rattle.meta_store.specs.Cells.{cell_at, placed, without}

or_none : {X : Type 0} (o : Option X) → option_or o None ≡ o
or_none None = refl
or_none (Some x) = refl

pub is_key : (key : List ℕ) (P : List ℕ → Type 0) → P key → (x : Cell) → bytes_eq x.key key ≡ true → P x.key
is_key key P p x found = subst P (sym (same_keys x.key key found)) p

split : (key : List ℕ) (e : Cell) (xs : List Cell) → cell_at key (placed e xs) ≡ option_or (cell_at key (filter (λ one. is_below one.key e.key) xs)) (cond (bytes_eq e.key key) (Some e) (cell_at key (filter (λ one. is_below e.key one.key) xs)))
split key e xs = find-append (λ one. bytes_eq one.key key) (filter (λ one. is_below one.key e.key) xs) (e ∷ filter (λ one. is_below e.key one.key) xs)

pub at_placed : (key : List ℕ) (e : Cell) (xs : List Cell) → cell_at key (placed e xs) ≡ cond (bytes_eq e.key key) (Some e) (cell_at key xs)
at_placed key e xs = by (bytes_eq e.key key) refl (is_below key e.key) refl (is_below e.key key) refl
  where
    by : (t : Bool) → bytes_eq e.key key ≡ t → (a : Bool) → is_below key e.key ≡ a → (b : Bool) → is_below e.key key ≡ b → cell_at key (placed e xs) ≡ cond t (Some e) (cell_at key xs)
    by true here a less b more =
        let same : e.key ≡ key = same_keys e.key key here in
        let none : is_below key e.key ≡ false = subst (λ k. is_below key k ≡ false) (sym same) (not_below_itself key) in
        let front = find_gone (λ one. bytes_eq one.key key) (λ one. is_below one.key e.key) (λ x found. is_key key (λ k. is_below k e.key ≡ false) none x found) xs in
        split key e xs ∙ rw (front, here) refl
    by false other true less b more =
        let front = find_kept (λ one. bytes_eq one.key key) (λ one. is_below one.key e.key) (λ x found. is_key key (λ k. is_below k e.key ≡ true) less x found) xs in
        let back = find_gone (λ one. bytes_eq one.key key) (λ one. is_below e.key one.key) (λ x found. is_key key (λ k. is_below e.key k ≡ false) (below_upto key e.key less) x found) xs in
        split key e xs ∙ rw (front, other, back) (or_none (cell_at key xs))
    by false other false less true more =
        let front = find_gone (λ one. bytes_eq one.key key) (λ one. is_below one.key e.key) (λ x found. is_key key (λ k. is_below k e.key ≡ false) less x found) xs in
        let back = find_kept (λ one. bytes_eq one.key key) (λ one. is_below e.key one.key) (λ x found. is_key key (λ k. is_below e.key k ≡ true) more x found) xs in
        split key e xs ∙ rw (front, other, back) refl
    by false other false less false more = absurd (both (equal_keys e.key key (neither_below e.key key more less)) other)

pub at_without : (key gone : List ℕ) (xs : List Cell) → cell_at key (without gone xs) ≡ cond (bytes_eq gone key) None (cell_at key xs)
at_without key gone xs = by (bytes_eq gone key) refl
  where
    by : (t : Bool) → bytes_eq gone key ≡ t → cell_at key (without gone xs) ≡ cond t None (cell_at key xs)
    by true here =
        find_gone (λ one. bytes_eq one.key key) (λ one. not (bytes_eq one.key gone))
        (λ x found. is_key key (λ k. not (bytes_eq k gone) ≡ false) (ap not (equal_keys key gone (sym (same_keys gone key here)))) x found) xs
    by false other =
        find_kept (λ one. bytes_eq one.key key) (λ one. not (bytes_eq one.key gone))
        (λ x found. is_key key (λ k. not (bytes_eq k gone) ≡ true) (ap not (other_keys key gone (λ same. both (equal_keys gone key (sym same)) other))) x found) xs
