-- The entry of an id after an entry is placed or changed.
use Rattle.std.proofs.Common.{refl, ◌≡◌, ◌≢◌, ℕ, ◌<◌, Bool, true, false, cond, nat_eq, nat_lt, List, [], ◌∷◌, ap, sym, ◌∙◌, Option, Some, None, arith, ◌⊎◌, inl, inr}
use Rattle.std.proofs.lemmas.Bool.{cases_order, ne_eqb}
use Rattle.std.proofs.lemmas.Bool.Decides.{nat_tests}
use Rattle.std.proofs.lemmas.List.Folds.{find-append}
use Rattle.std.specs.List.{filter}
use Rattle.std.specs.Option.{option_map, option_or}
use Rattle.pd_types.proofs.Filters.{find_gone, find_kept}
use Rattle.store_table.specs.declared.entry.StoreEntry.{StoreEntry}
use Rattle.store_table.specs.Entries.{entry_at, placed, changed}

or_none : {X : Type 0} (o : Option X) → option_or o None ≡ o
or_none None = refl
or_none (Some x) = refl

split : (id : ℕ) (e : StoreEntry) (xs : List StoreEntry) → entry_at id (placed e xs) ≡ option_or (entry_at id (filter (λ one. nat_lt one.store.id e.store.id) xs)) (cond (nat_eq e.store.id id) (Some e) (entry_at id (filter (λ one. nat_lt e.store.id one.store.id) xs)))
split id e xs = find-append (λ one. nat_eq one.store.id id) (filter (λ one. nat_lt one.store.id e.store.id) xs) (e ∷ filter (λ one. nat_lt e.store.id one.store.id) xs)

pub entry_placed : (e : StoreEntry) (xs : List StoreEntry) → entry_at e.store.id (placed e xs) ≡ Some e
entry_placed e xs =
    let before = find_gone (λ one. nat_eq one.store.id e.store.id) (λ one. nat_lt one.store.id e.store.id) (λ x found. grind (arith, nat_tests)) xs in
    let here : nat_eq e.store.id e.store.id ≡ true = grind (arith, nat_tests) in
    split e.store.id e xs ∙ rw (before, here) refl

pub entry_others : (id : ℕ) (e : StoreEntry) (xs : List StoreEntry) → id ≢ e.store.id → entry_at id (placed e xs) ≡ entry_at id xs
entry_others id e xs other = by (cases_order id e.store.id)
  where
    away : nat_eq e.store.id id ≡ false
    away = ne_eqb _ _ (λ same. other (sym same))

    by : (id ≡ e.store.id) ⊎ ((id < e.store.id) ⊎ (e.store.id < id)) → entry_at id (placed e xs) ≡ entry_at id xs
    by (inl same) = absurd (other same)
    by (inr (inl less)) =
        let front = find_kept (λ one. nat_eq one.store.id id) (λ one. nat_lt one.store.id e.store.id) (λ x found. grind (arith, nat_tests)) xs in
        let back = find_gone (λ one. nat_eq one.store.id id) (λ one. nat_lt e.store.id one.store.id) (λ x found. grind (arith, nat_tests)) xs in
        split id e xs ∙ rw (front, away, back) (or_none (entry_at id xs))
    by (inr (inr more)) =
        let front = find_gone (λ one. nat_eq one.store.id id) (λ one. nat_lt one.store.id e.store.id) (λ x found. grind (arith, nat_tests)) xs in
        let back = find_kept (λ one. nat_eq one.store.id id) (λ one. nat_lt e.store.id one.store.id) (λ x found. grind (arith, nat_tests)) xs in
        split id e xs ∙ rw (front, away, back) refl

pub entry_changed : (id : ℕ) (f : StoreEntry → StoreEntry) (xs : List StoreEntry) → ((e : StoreEntry) → (f e).store.id ≡ e.store.id) → entry_at id (changed id f xs) ≡ option_map f (entry_at id xs)
entry_changed id f [] same = refl
entry_changed id f (x ∷ xs) same = by (nat_eq x.store.id id) refl (entry_changed id f xs same)
  where
    by : (t : Bool) → nat_eq x.store.id id ≡ t → entry_at id (changed id f xs) ≡ option_map f (entry_at id xs) → entry_at id (cond t (f x) x ∷ changed id f xs) ≡ option_map f (cond t (Some x) (entry_at id xs))
    by true here rest = rw (same x, here) refl
    by false other rest = rw other rest

pub entry_kept : (id other : ℕ) (f : StoreEntry → StoreEntry) (xs : List StoreEntry) → ((e : StoreEntry) → (f e).store.id ≡ e.store.id) → other ≢ id → entry_at other (changed id f xs) ≡ entry_at other xs
entry_kept id other f [] same away = refl
entry_kept id other f (x ∷ xs) same away = by (nat_eq x.store.id id) refl (entry_kept id other f xs same away)
  where
    by : (t : Bool) → nat_eq x.store.id id ≡ t → entry_at other (changed id f xs) ≡ entry_at other xs → entry_at other (cond t (f x) x ∷ changed id f xs) ≡ cond (nat_eq x.store.id other) (Some x) (entry_at other xs)
    by true here rest =
        let not_here : nat_eq x.store.id other ≡ false = grind (arith, nat_tests) in
        rw (same x, not_here) rest
    by false there rest = ap (λ o. cond (nat_eq x.store.id other) (Some x) o) rest
