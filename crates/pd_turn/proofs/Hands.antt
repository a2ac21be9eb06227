-- Handing out the numbers, and taking them in again.
use Rattle.std.proofs.Common.{◌≡◌, ℕ, zero, suc, ◌<◌, List, [], ◌∷◌, map, length, get_or, drop, Option, Some, None, sym, refl, ap, ◌∙◌, subst, inl, drop-cons}
use mathlib.Core.Option.{some, some-injective, some-ne-none}
use lib.ListN.{get_elem?}
use Rattle.atomic_table.specs.Table.{Splits, Joins, opening}
use Rattle.pd_turn.specs.declared.rule.View.{View}
use Rattle.pd_turn.specs.Rule.{view_of, no_view, both_views, opening_view, opening_lists, kept_view, handed_view, Fits, Sound}
use Rattle.pd_turn.specs.Turns.{Among, AreApart}
use Rattle.pd_turn.proofs.Laws.{splits_kept, joins_kept}

module _ {I : Type 0} where
  named_there : (ns : List ℕ) (n : ℕ) (l : List I) (k : ℕ) → get_elem? (opening_lists ns) k ≡ some (n, l) → get_elem? ns k ≡ some n
  named_there [] n l k e = absurd (some-ne-none (n, l) (sym e))
  named_there (m ∷ ns) n l zero e = ap some (ap (λ (y : ℕ × List I). y.0) (some-injective (m, []) (n, l) e))
  named_there (m ∷ ns) n l (suc k) e = named_there ns n l k e

apart_after : (ns : List ℕ) (i : ℕ) → AreApart ns → AreApart (drop i ns)
apart_after ns zero a = a
apart_after [] (suc i) a = tt
apart_after (n ∷ ns) (suc i) a = apart_after ns i a.1

module _ {T I : Type 0} (tale : T → List (ℕ × I)) (numbers : List ℕ) where
  pub hands_out : (id : ℕ) (v : View I) (ns : List ℕ) (i : ℕ) → v ≡ view_of ns (opening_lists (drop i ns)) None → AreApart ns → i < length ns
      → Splits (Sound tale numbers) id v (kept_view v) (handed_view v)
  hands_out id v ns i is apart more =
      let n = get_or ns i 0 in let rest = drop (suc i) ns in
      let first : drop i ns ≡ n ∷ rest = drop-cons ns i 0 more in
      let v' : v ≡ view_of ns ((n, []) ∷ opening_lists rest) None = is ∙ ap (λ l. view_of ns (opening_lists l) None) first in
      let a : ¬ (Among n rest) = (subst AreApart first (apart_after ns i apart)).0 in
      subst (λ u. Splits (Sound tale numbers) id u (kept_view u) (handed_view u)) (sym v')
      (splits_kept tale numbers id ns n [] (opening_lists rest) (λ l has. a (has.0, named_there rest n l has.0 has.1)))

module _ {I : Type 0} where
  nothing_there : (ns : List ℕ) (n : ℕ) (l : List I) (k : ℕ) → get_elem? (opening_lists ns) k ≡ some (n, l) → l ≡ []
  nothing_there [] n l k e = absurd (some-ne-none (n, l) (sym e))
  nothing_there (m ∷ ns) n l zero e = sym (ap (λ (y : ℕ × List I). y.1) (some-injective (m, []) (n, l) e))
  nothing_there (m ∷ ns) n l (suc k) e = nothing_there ns n l k e

  first_view : (ns : List ℕ) (k : ℕ) (v : View I) → get_elem? (opening_view {I = I} ns ∷ []) k ≡ some v → (k ≡ 0) × (opening_view ns ≡ v)
  first_view ns zero v e = (refl, some-injective (opening_view ns) v e)
  first_view ns (suc k) v e = absurd (some-ne-none v (sym e))

module _ {T I : Type 0} (tale : T → List (ℕ × I)) (numbers : List ℕ) where
  pub begins : (value : T) (xs : List (Option T)) → xs ≡ Some value ∷ [] → tale value ≡ [] → Sound tale numbers (opening (0 ∷ []) xs (opening_view numbers))
  begins value xs is empty = (
    [],
    (λ _. 0),
    0,
    inl (refl, (value, ap (λ (l : List (Option T)). map some l) is, empty)),
    (λ k x e. absurd (some-ne-none x (sym e))),
    λ k v e. let f = first_view numbers k v e in
        subst (λ (y : ℕ × View I). Fits numbers [] (λ _. 0) (0 ∷ []) 0 y.0 y.1) (λ i. (sym f.0 i, f.1 i))
        ((λ n l has. (refl, (has.0, named_there numbers n l has.0 has.1), refl, nothing_there numbers n l has.0 has.1)), inl refl),
  )

  pub takes_in : (id other : ℕ) (v w : View I) (ns : List ℕ) (ls ms : List (ℕ × List I)) → v ≡ view_of ns ls None → w ≡ view_of ns ms None
      → Joins (Sound tale numbers) id v other w (both_views v w) no_view
  takes_in id other v w ns ls ms a b = subst (λ (y : View I × View I). Joins (Sound tale numbers) id y.0 other y.1 (both_views y.0 y.1) no_view) (λ i. (sym a i, sym b i))
      (joins_kept tale numbers id other ns ls ms)
