-- Each step keeps the rule.
use Rattle.std.proofs.Common.{◌≡◌, ◌≢◌, ℕ, zero, suc, List, [], ◌∷◌, ◌++◌, length, cond, eqb, Option, Some, None, sym, refl, ap, ◌∙◌, subst, inl, inr, ⊎_elim, eq-eqb, ne_eqb, set, arith, get_or, unwrap_or}
use Rattle.std.proofs.lemmas.Option.{none-some}
use mathlib.Core.Option.{some, none, some-injective, some-ne-none}
use lib.ListN.{get_elem?}
use prog.Atomic.{either}
use Rattle.atomic_table.specs.Table.{State, takes, gives, keeps, Allows, Splits, Joins, stepped}
use Rattle.atomic_table.proofs.Lists.{set_else, set_again, at_longer}
use Rattle.pd_turn.specs.declared.rule.View.{View}
use Rattle.pd_turn.specs.Rule.{view_of, no_view, Has, Fits, Rests, Sound, Takes, Gives}
use Rattle.pd_turn.specs.Turns.{items_of, made_by, Among, IsMadeBy}
use Rattle.pd_turn.proofs.Items.{Each, each_set, at_end, at_append, grown, unmoved, still_made_by}

some_one : {A : Type 0} (a b : A) → Some a ≡ Some b → a ≡ b
some_one a b e = ap (λ o. unwrap_or o a) e

at_place : {A : Type 0} (l : List A) (k : ℕ) (a b : A) → get_elem? l k ≡ some a → get_elem? l k ≡ some b → a ≡ b
at_place l k a b p q = some-injective a b (sym p ∙ q)

set_placed : {A : Type 0} (l : List A) (k : ℕ) (a b : A) → get_elem? l k ≡ some a → get_elem? (set l k b) k ≡ some b
set_placed [] k a b e = absurd (some-ne-none a (sym e))
set_placed (x ∷ xs) zero a b e = refl
set_placed (x ∷ xs) (suc k) a b e = set_placed xs k a b e

one_zero : ◌≡◌ {A = List ℕ} (1 ∷ []) (0 ∷ []) → ⊥
one_zero e = let h : ◌≡◌ {A = ℕ} 1 0 = ap (λ (l : List ℕ). get_or l 0 0) e in omega arith

module _ {A : Type 0} where
  pair_of : (k n : ℕ) (a b : A) → ◌≡◌ {A = ℕ × A} (k, a) (n, b) → (k ≡ n) × (a ≡ b)
  pair_of k n a b e = (ap (λ (y : ℕ × A). y.0) e, ap (λ (y : ℕ × A). y.1) e)

  -- what stands in a list of one
  first : (k : ℕ) (a : A) (n : ℕ) (b : A) (j : ℕ) → get_elem? {A = ℕ × A} ((k, a) ∷ []) j ≡ some (n, b) → (k ≡ n) × (a ≡ b)
  first k a n b zero e = pair_of k n a b (some-injective (k, a) (n, b) e)
  first k a n b (suc j) e = absurd (some-ne-none (n, b) (sym e))

  only : (k : ℕ) (a : A) (n : ℕ) (b : A) → (j : ℕ) × (get_elem? {A = ℕ × A} ((k, a) ∷ []) j ≡ some (n, b)) → (k ≡ n) × (a ≡ b)
  only k a n b has = first k a n b has.0 has.1

module _ {T I : Type 0} (tale : T → List (ℕ × I)) (numbers : List ℕ) where
  -- taking, where the word is 0 and x is at home
  free : (s : State (Option T) (View I)) (id : ℕ) (v : View I) (c : List (ℕ × Option T)) (h : Sound tale numbers s) → get_elem? s.views id ≡ some v
      → s.words ≡ 0 ∷ [] → (x : T) → s.homes ≡ some (Some x) ∷ [] → tale x ≡ h.0
      → Sound tale numbers (stepped s 0 1 id c (view_of v.numbers v.lists (Some (tale x))) (takes 0 (Some x)))
  free s id v c h at zero_word x home is =
      let w : View I = view_of v.numbers v.lists (Some (tale x)) in
      let words : set s.words 0 1 ≡ 1 ∷ [] = ap (λ l. set l 0 1) zero_word in (
        h.0,
        h.1,
        id,
        inr (words, ap (λ l. set l 0 none) home, (w, set_placed s.views id v w at, ap Some is)),
        h.4,
        each_set (Fits numbers h.0 h.1 (set s.words 0 1) id) s.views id w ((h.5 id v at).0, inr (refl, words, ap Some is))
            (λ k u other there. ((h.5 k u there).0, ⊎_elim inl (λ t. absurd (one_zero (sym t.1 ∙ zero_word))) (h.5 k u there).1)),
      )

  -- nothing changes
  same : (s : State (Option T) (View I)) (id : ℕ) (v : View I) (c : List (ℕ × Option T)) (n : ℕ) → Sound tale numbers s → get_elem? s.views id ≡ some v
      → set s.words 0 n ≡ s.words → Sound tale numbers (stepped s 0 n id c v keeps)
  same s id v c n h at words = subst (λ (y : List ℕ × List (View I)). Sound tale numbers (record { words = y.0; homes = s.homes; views = y.1 }))
      (λ j. (sym words j, sym (set_again s.views id v at) j)) h

  pub takes_kept : (id : ℕ) (m : View I × List (ℕ × Option T)) → Allows (Sound tale numbers) 1 id m 0 (λ n. either (eqb n 0) 1 n) (Takes tale m)
  takes_kept id m s h wide at range = ⊎_elim
      (λ t. let x = t.1.0 in let zero_word = ap (λ l. get_or l 0 0) t.0 in (
        view_of m.0.numbers m.0.lists (Some (tale x)),
        takes 0 (Some x),
        ap (λ l. get_elem? l 0) t.1.1,
        rw zero_word (free s id m.0 m.1 h at t.0 x t.1.1 t.1.2),
        (
          (λ _. (x, refl, λ k l has. let g = (h.5 id m.0 at).0 k l has in (subst (λ (y : List ℕ × List (ℕ × I)). IsMadeBy y.0 y.1) (λ j. (sym g.0 j, sym t.1.2 j)) h.4, g.3 ∙ ap (items_of k) (sym t.1.2)))),
          λ n. absurd (n zero_word),
        ),
      ))
      (λ t. let one_word = ap (λ l. get_or l 0 0) t.0 in (
        m.0,
        keeps,
        tt,
        rw one_word (same s id m.0 m.1 1 h at (ap (λ l. set l 0 1) t.0 ∙ sym t.0)),
        ((λ z. absurd (let e : ◌≡◌ {A = ℕ} 1 0 = sym one_word ∙ z in omega arith)), λ _. refl),
      ))
      h.3

  -- giving, by the seat that took the whole tale
  pub gives_kept : (id : ℕ) (m : View I × List (ℕ × Option T)) (ns : List ℕ) (k : ℕ) (l new : List I) (before : List (ℕ × I)) (x : T)
      → m ≡ (view_of ns ((k, l) ∷ []) (Some before), (0, Some x) ∷ []) → tale x ≡ before ++ made_by k new
      → Allows (Sound tale numbers) 1 id m 0 (λ _. 0) (λ _. Gives tale m)
  gives_kept id m ns k l new before x is adds = subst (λ (y : View I × List (ℕ × Option T)). Allows (Sound tale numbers) 1 id y 0 (λ _. 0) (λ _. Gives tale y)) (sym is)
      (λ s h wide at range.
      let v : View I = view_of ns ((k, l) ∷ []) (Some before) in
      let w : View I = view_of ns ((k, l ++ new) ∷ []) None in
      let fit = h.5 id v at in
      let own = fit.0 k l (0, refl) in
      let took : (id ≡ h.2) × (s.words ≡ 1 ∷ []) × (Some before ≡ Some h.0) = ⊎_elim (λ n. absurd (none-some before (sym n))) (λ t. t) fit.1 in
      let whole : tale x ≡ h.0 ++ made_by k new = adds ∙ ap (λ b. b ++ made_by k new) (some_one before h.0 took.2) in
      let out : s.homes ≡ none ∷ [] = ⊎_elim (λ t. absurd (one_zero (sym took.1 ∙ t.0))) (λ t. t.1) h.3 in (
        w,
        gives,
        tt,
        (
          tale x,
          h.1,
          id,
          inl (ap (λ y. set y 0 0) took.1, (x, ap (λ y. set y 0 (some (Some x))) out, refl)),
          still_made_by numbers k h.0 new (tale x) own.1 h.4 whole,
          each_set (Fits numbers (tale x) h.1 (set s.words 0 0) id) s.views id w (
            (λ n l' has. let e = only k (l ++ new) n l' has in
                subst (λ (y : ℕ × List I). (ns ≡ numbers) × Among y.0 numbers × (h.1 y.0 ≡ id) × (y.1 ≡ items_of y.0 (tale x))) (λ j. (e.0 j, e.1 j)) (own.0, own.1, own.2, grown k h.0 l new (tale x) own.3 whole)),
            inl refl,
          )
              (λ j u other there. (
                (λ n l' has. let g = (h.5 j u there).0 n l' has in (g.0, g.1, g.2, unmoved n k h.0 l' new (tale x) (λ e. other (sym g.2 ∙ ap h.1 (sym e) ∙ own.2)) g.3 whole)),
                ⊎_elim inl (λ t. absurd (other (t.0 ∙ sym took.0))) (h.5 j u there).1,
              )),
        ),
        (x, k, l, new, before, refl, adds, refl),
      ))

  -- the place of the value stays where the views of the others do
  rests_on : (whole : List (ℕ × I)) (holder : ℕ) (s : State (Option T) (View I)) (vs : List (View I)) → Rests tale whole holder s
      → ((u : View I) → get_elem? s.views holder ≡ some u → u.taken ≡ Some whole → get_elem? vs holder ≡ some u)
      → Rests tale whole holder (record { words = s.words; homes = s.homes; views = vs })
  rests_on whole holder s vs h on = ⊎_elim inl (λ t. inr (t.0, t.1, (t.2.0, on t.2.0 t.2.1 t.2.2, t.2.2))) h

  -- the holder isn't a seat that has taken nothing
  not_holder : (whole : List (ℕ × I)) (vs : List (View I)) (id holder : ℕ) (v u : View I) → get_elem? vs id ≡ some v → v.taken ≡ None → get_elem? vs holder ≡ some u → u.taken ≡ Some whole → holder ≢ id
  not_holder whole vs id holder v u at empty at' taken e = none-some whole (sym empty ∙ ap (λ (y : View I). y.taken) (at_place vs id v u at (ap (get_elem? vs) (sym e) ∙ at')) ∙ taken)

  -- a number with its list goes to a new seat
  pub splits_kept : (id : ℕ) (ns : List ℕ) (n : ℕ) (l : List I) (ls : List (ℕ × List I)) → ((l' : List I) → ¬ (Has ls n l'))
      → Splits (Sound tale numbers) id (view_of ns ((n, l) ∷ ls) None) (view_of ns ls None) (view_of ns ((n, l) ∷ []) None)
  splits_kept id ns n l ls apart s h at =
      let left : View I = view_of ns ls None in
      let right : View I = view_of ns ((n, l) ∷ []) None in
      let vs : List (View I) = set s.views id left in
      let owner : ℕ → ℕ = λ m. cond (eqb m n) (length vs) (h.1 m) in
      let v : View I = view_of ns ((n, l) ∷ ls) None in
      let fit = h.5 id v at in
      let own = fit.0 n l (0, refl) in
      let F : ℕ → View I → Type 0 = Fits numbers h.0 owner s.words h.2 in
      let stays : (m : ℕ) → m ≢ n → owner m ≡ h.1 m = λ m d. ap (λ b. cond b (length vs) (h.1 m)) (ne_eqb m n d) in
      let old : Each F vs = each_set F s.views id left (
        (λ m l' has. let g = fit.0 m l' (suc has.0, has.1) in
            (g.0, g.1, stays m (λ e. apart l' (subst (λ k. Has ls k l') e has)) ∙ g.2, g.3)),
        inl refl,
      )
      (λ j u other there. (
        (λ m l' has. let g = (h.5 j u there).0 m l' has in (g.0, g.1, stays m (λ e. other (sym g.2 ∙ ap h.1 e ∙ own.2)) ∙ g.2, g.3)),
        (h.5 j u there).1,
      )) in (
        h.0,
        owner,
        h.2,
        rests_on h.0 h.2 s (vs ++ right ∷ []) h.3 (λ u at' taken. at_longer vs (right ∷ []) h.2 u (set_else s.views id h.2 left (not_holder h.0 s.views id h.2 v u at refl at' taken) ∙ at')),
        h.4,
        λ j u e. ⊎_elim (λ t. old j u t.1)
            (λ (t : (j ≡ length vs) × (right ≡ u)). subst (λ (y : ℕ × View I). F y.0 y.1) (λ i. (sym t.0 i, t.1 i)) (
              (λ m l' has. let e = only n l m l' has in
                  subst (λ (y : ℕ × List I). (ns ≡ numbers) × Among y.0 numbers × (owner y.0 ≡ length vs) × (y.1 ≡ items_of y.0 h.0)) (λ i. (e.0 i, e.1 i))
                  (own.0, own.1, ap (λ b. cond b (length vs) (h.1 n)) (eq-eqb n n refl), own.3)),
              inl refl,
            ))
            (at_end vs right u j e),
      )

  -- a seat takes in the lists of another
  pub joins_kept : (id other : ℕ) (ns : List ℕ) (ls ms : List (ℕ × List I))
      → Joins (Sound tale numbers) id (view_of ns ls None) other (view_of ns ms None) (view_of ns (ms ++ ls) None) no_view
  joins_kept id other ns ls ms s h at two at' =
      let v : View I = view_of ns ls None in
      let w : View I = view_of ns ms None in
      let both : View I = view_of ns (ms ++ ls) None in
      let there : get_elem? s.views other ≡ some w = sym (set_else s.views id other both two) ∙ at' in
      let vs : List (View I) = set s.views id both in
      let owner : ℕ → ℕ = λ m. cond (eqb (h.1 m) other) id (h.1 m) in
      let stays : (m : ℕ) → h.1 m ≢ other → owner m ≡ h.1 m = λ m d. ap (λ b. cond b id (h.1 m)) (ne_eqb (h.1 m) other d) in
      let mine = h.5 id v at in
      let theirs = h.5 other w there in
      let F : ℕ → View I → Type 0 = λ j u. j ≢ other → Fits numbers h.0 owner s.words h.2 j u in
      let now : Each F vs = each_set F s.views id both
      (λ _. (
        (λ m l has. ⊎_elim
            (λ e. let g = theirs.0 m l (has.0, e) in (g.0, g.1, ap (λ b. cond b id (h.1 m)) (eq-eqb (h.1 m) other g.2), g.3))
            (λ e. let g = mine.0 m l e in (g.0, g.1, stays m (λ x. two (sym x ∙ g.2)) ∙ g.2, g.3))
            (at_append ms ls has.0 (m, l) has.1)),
        inl refl,
      ))
      (λ j u apart e not_other. (
        (λ m l has. let g = (h.5 j u e).0 m l has in (g.0, g.1, stays m (λ x. not_other (sym g.2 ∙ x)) ∙ g.2, g.3)),
        (h.5 j u e).1,
      )) in (
        h.0,
        owner,
        h.2,
        rests_on h.0 h.2 s (set vs other no_view) h.3 (λ u at2 taken.
            set_else vs other h.2 no_view (not_holder h.0 s.views other h.2 w u there refl at2 taken)
            ∙ set_else s.views id h.2 both (not_holder h.0 s.views id h.2 v u at refl at2 taken) ∙ at2),
        h.4,
        each_set (Fits numbers h.0 owner s.words h.2) vs other no_view ((λ m l has. absurd (some-ne-none (m, l) (sym has.1))), inl refl) (λ j u not_other e. now j u e not_other),
      )
