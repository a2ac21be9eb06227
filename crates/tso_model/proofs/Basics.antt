-- Cases by tests, elements of lists, and what stands in a window list.
use Rattle.std.proofs.Common.{◌≡◌, ◌≢◌, ℕ, suc, ◌+◌, ◌*◌, ◌%◌, ◌<◌, ◌≤◌, ◌⊎◌, eqb, cond, Bool, true, false, List, [], ◌∷◌, ◌++◌, sym, refl, ap, ◌∙◌, subst, inl, inr, ⊎_elim, arith, eq-eqb, ne_eqb, lt-ltb, le-ltb, ltb, max}
use Rattle.std.specs.Prelude.{Option, None, Some, IfSome, Contains}
use Rattle.std.proofs.lemmas.List.Elements.{Contains-push_cases, Contains-append_cases}
use mathlib.Core.Logic.{dite}
use native.Mathlib.Decide.{ℕ_discrete, dec_le}
use Rattle.tso_model.specs.declared.entries.Claim.{Claim}
use Rattle.tso_model.specs.declared.entries.Start.{Start}
use Rattle.tso_model.specs.declared.entries.Added.{Added}
use Rattle.tso_model.specs.Lists.{total}
use Rattle.tso_model.specs.Words.{passes, IsOpen, AreClaims}
use Rattle.tso_model.specs.History.{greatest, added_at, added_by, added_else}

pub by_bool : (F : Bool → Type 0) (b : Bool) → (b ≡ true → F true) → (b ≡ false → F false) → F b
by_bool F true t f = t refl
by_bool F false t f = f refl

-- by whether two numbers are equal, as a test and as a fact
pub by_eq : (F : Bool → Type 0) (n m : ℕ) → (n ≡ m → F true) → (n ≢ m → F false) → F (eqb n m)
by_eq F n m hit miss = dite (ℕ_discrete n m) (λ e. subst F (sym (eq-eqb n m e)) (hit e)) (λ ne. subst F (sym (ne_eqb n m ne)) (miss ne))

pub by_lt : (F : Bool → Type 0) (n m : ℕ) → (n < m → F true) → (m ≤ n → F false) → F (ltb n m)
by_lt F n m low high = dite (dec_le m n) (λ le. subst F (sym (le-ltb n m le)) (high le)) (λ gt. subst F (sym (lt-ltb n m (omega (arith, gt)))) (low (omega (arith, gt))))

pub if_some : {A : Type 0} (o : Option A) (P : A → Type 0) → ((w : A) → o ≡ Some w → P w) → IfSome o P
if_some None P h = tt
if_some (Some w) P h = h w refl

pub at_some : {A : Type 0} (o : Option A) (P : A → Type 0) → IfSome o P → (w : A) → o ≡ Some w → P w
at_some o P h w e = subst (λ x. IfSome x P) e h

pub fits : (at hi n : ℕ) → passes at hi n ≡ false → at + n < hi * 262144
fits at hi n e = dite (dec_le (hi * 262144) (at + n))
    (λ le. absurd (cc (e, ap (λ b. cond b (cond (ltb (at % 262144 + n) 262144) false true) true) (le-ltb (at + n) (hi * 262144) le))))
    (λ gt. omega (arith, gt))

pub in_one : (at hi n : ℕ) → passes at hi n ≡ false → at % 262144 + n < 262144
in_one at hi n e = dite (dec_le 262144 (at % 262144 + n))
    (λ le. absurd (cc (e, ap (λ b. cond b (cond (ltb (at % 262144 + n) 262144) false true) true) (lt-ltb (at + n) (hi * 262144) (fits at hi n e)), ap (λ b. cond b false true) (le-ltb (at % 262144 + n) 262144 le))))
    (λ gt. omega (arith, gt))

-- ELEMENTS
pub in_head : {A : Type 0} (x : A) (xs : List A) → Contains (x ∷ xs) x
in_head x xs = (0, omega arith, refl)

pub in_tail : {A : Type 0} (x : A) (xs : List A) (c : A) → Contains xs c → Contains (x ∷ xs) c
in_tail x xs c h = (suc h.0, omega (arith, h.1), h.2)

pub in_nil : {A : Type 0} {B : Type 0} (c : A) → (let none : List A = [] in Contains none c) → B
in_nil c h = absurd (omega (arith, h.1))

pub in_cons : {A : Type 0} (x : A) (xs : List A) (c : A) → Contains (x ∷ xs) c → (x ≡ c) ⊎ Contains xs c
in_cons x xs c h = ⊎_elim (λ (one : Contains (x ∷ []) c). ⊎_elim (λ (z : Contains [] c). in_nil c z) (λ (e : x ≡ c). inl e) (Contains-push_cases [] x c one)) (λ (t : Contains xs c). inr t) (Contains-append_cases (x ∷ []) xs c h)

-- WINDOW LISTS
pub chain_le : (first c : Claim) (past : List Claim) → AreClaims first c past → (e : Claim) → Contains (c ∷ past) e → (first.window.term ≤ e.window.term) × (e.window.term ≤ c.window.term) × (e.window.hi ≤ c.window.hi)
chain_le first c [] chain e h = ⊎_elim (λ (s : c ≡ e). let t = ap (λ (y : Claim). y.window.term) s in let u = ap (λ (y : Claim). y.window.term) chain in (omega (arith, t, u), omega (arith, t), omega (arith, ap (λ (y : Claim). y.window.hi) s))) (λ (z : Contains [] e). in_nil e z) (in_cons c [] e h)
chain_le first c (x ∷ xs) chain e h = ⊎_elim
    (λ (s : c ≡ e). let t = ap (λ (y : Claim). y.window.term) s in let older = chain_le first x xs chain.1 x (in_head x xs) in (omega (arith, t, older.0, chain.0.term), omega (arith, t), omega (arith, ap (λ (y : Claim). y.window.hi) s)))
    (λ (z : Contains (x ∷ xs) e). let older = chain_le first x xs chain.1 e z in (older.0, omega (arith, older.1, chain.0.term), omega (arith, older.2, chain.0.begins, chain.0.ends)))
    (in_cons c (x ∷ xs) e h)

-- a window behind the newest has a lower term
pub past_lower : (first c : Claim) (past : List Claim) → AreClaims first c past → (e : Claim) → Contains past e → e.window.term < c.window.term
past_lower first c [] chain e h = in_nil e h
past_lower first c (x ∷ xs) chain e h = omega (arith, chain.0.term, (chain_le first x xs chain.1 e h).1)

-- one window a term
pub one_each : (first c : Claim) (past : List Claim) → AreClaims first c past → (e f : Claim) → Contains (c ∷ past) e → Contains (c ∷ past) f → e.window.term ≡ f.window.term → e ≡ f
one_each first c [] chain e f he hf same = ⊎_elim (λ (s : c ≡ e). ⊎_elim (λ (t : c ≡ f). sym s ∙ t) (λ (z : Contains [] f). in_nil f z) (in_cons c [] f hf)) (λ (z : Contains [] e). in_nil e z) (in_cons c [] e he)
one_each first c (x ∷ xs) chain e f he hf same = ⊎_elim
    (λ (s : c ≡ e). ⊎_elim
    (λ (t : c ≡ f). sym s ∙ t)
    (λ (z : Contains (x ∷ xs) f). absurd (omega (arith, same, ap (λ (y : Claim). y.window.term) s, past_lower first c (x ∷ xs) chain f z)))
    (in_cons c (x ∷ xs) f hf))
    (λ (z : Contains (x ∷ xs) e). ⊎_elim
    (λ (t : c ≡ f). absurd (omega (arith, same, ap (λ (y : Claim). y.window.term) t, past_lower first c (x ∷ xs) chain e z)))
    (λ (y : Contains (x ∷ xs) f). one_each first x xs chain.1 e f z y same)
    (in_cons c (x ∷ xs) f hf))
    (in_cons c (x ∷ xs) e he)

-- a window of a lower term ends before one of a higher term begins
pub in_order : (first c : Claim) (past : List Claim) → AreClaims first c past → (e f : Claim) → Contains (c ∷ past) e → Contains (c ∷ past) f → e.window.term < f.window.term → e.window.hi ≤ f.window.lo
in_order first c [] chain e f he hf lt = ⊎_elim
    (λ (s : c ≡ e). ⊎_elim
    (λ (t : c ≡ f). absurd (omega (arith, lt, ap (λ (y : Claim). y.window.term) s, ap (λ (y : Claim). y.window.term) t)))
    (λ (z : Contains [] f). in_nil f z)
    (in_cons c [] f hf))
    (λ (z : Contains [] e). in_nil e z)
    (in_cons c [] e he)
in_order first c (x ∷ xs) chain e f he hf lt = ⊎_elim
    (λ (t : c ≡ f). ⊎_elim
    (λ (s : c ≡ e). absurd (omega (arith, lt, ap (λ (y : Claim). y.window.term) s, ap (λ (y : Claim). y.window.term) t)))
    (λ (z : Contains (x ∷ xs) e). omega (arith, (chain_le first x xs chain.1 e z).2, chain.0.begins, ap (λ (y : Claim). y.window.lo) t))
    (in_cons c (x ∷ xs) e he))
    (λ (z : Contains (x ∷ xs) f). ⊎_elim
    (λ (s : c ≡ e). absurd (omega (arith, lt, ap (λ (y : Claim). y.window.term) s, past_lower first c (x ∷ xs) chain f z)))
    (λ (y : Contains (x ∷ xs) e). in_order first x xs chain.1 e f y z lt)
    (in_cons c (x ∷ xs) e he))
    (in_cons c (x ∷ xs) f hf)

-- a window of a driver is not the opening window, and so of a later term
pub later_term : (first c : Claim) (past : List Claim) → AreClaims first c past → first.window.driver ≡ 0 → (e : Claim) → Contains (c ∷ past) e → 0 < e.window.driver → first.window.term < e.window.term
later_term first c [] chain shut e h pos = ⊎_elim (λ (s : c ≡ e). absurd (omega (arith, shut, pos, ap (λ (y : Claim). y.window.driver) chain, ap (λ (y : Claim). y.window.driver) s))) (λ (z : Contains [] e). in_nil e z) (in_cons c [] e h)
later_term first c (x ∷ xs) chain shut e h pos = ⊎_elim
    (λ (s : c ≡ e). omega (arith, ap (λ (y : Claim). y.window.term) s, chain.0.term, (chain_le first x xs chain.1 x (in_head x xs)).0))
    (λ (z : Contains (x ∷ xs) e). later_term first x xs chain.1 shut e z pos)
    (in_cons c (x ∷ xs) e h)

-- an open window is a driver's
pub open_driver : (first c : Claim) (past : List Claim) → AreClaims first c past → first.window.lo ≡ first.window.hi → (e : Claim) → Contains (c ∷ past) e → IsOpen e.window → 0 < e.window.driver
open_driver first c [] chain shut e h open_is = ⊎_elim (λ (s : c ≡ e). absurd (omega (arith, shut, open_is, ap (λ (y : Claim). y.window.lo) chain, ap (λ (y : Claim). y.window.hi) chain, ap (λ (y : Claim). y.window.lo) s, ap (λ (y : Claim). y.window.hi) s))) (λ (z : Contains [] e). in_nil e z) (in_cons c [] e h)
open_driver first c (x ∷ xs) chain shut e h open_is = ⊎_elim
    (λ (s : c ≡ e). omega (arith, chain.0.driver, ap (λ (y : Claim). y.window.driver) s))
    (λ (z : Contains (x ∷ xs) e). open_driver first x xs chain.1 shut e z open_is)
    (in_cons c (x ∷ xs) e h)

-- 1 where the two claims are one
abbrev pub hits : Claim → Claim → ℕ
hits w x = cond (eqb x.window.term w.window.term) (cond (eqb x.window.driver w.window.driver) (cond (eqb x.window.lo w.window.lo) (cond (eqb x.window.hi w.window.hi) (cond (eqb x.at w.at) 1 0) 0) 0) 0) 0

both_are : (a b m : ℕ) → 0 < cond (eqb a b) m 0 → (a ≡ b) × (0 < m)
both_are a b m = by_eq (λ t. 0 < cond t m 0 → (a ≡ b) × (0 < m)) a b (λ e h. (e, h)) (λ ne h. absurd (omega (arith, h)))

pub hits-same : (w : Claim) → hits w w ≡ 1
hits-same w = rw (eq-eqb w.window.term w.window.term refl, eq-eqb w.window.driver w.window.driver refl, eq-eqb w.window.lo w.window.lo refl, eq-eqb w.window.hi w.window.hi refl, eq-eqb w.at w.at refl) refl

pub hits-is : (w x : Claim) → 0 < hits w x → x ≡ w
hits-is w x h =
    let a = both_are x.window.term w.window.term _ h in
    let b = both_are x.window.driver w.window.driver _ a.1 in
    let c = both_are x.window.lo w.window.lo _ b.1 in
    let d = both_are x.window.hi w.window.hi _ c.1 in
    let e = both_are x.at w.at _ d.1 in
    λ i. record { window = record { term = a.0 i; driver = b.0 i; lo = c.0 i; hi = d.0 i }; at = e.0 i }

pub there : (w : Claim) (xs : List Claim) → 0 < total (hits w) xs → Contains xs w
there w [] h = absurd (omega arith)
there w (x ∷ xs) h = dite (dec_le (hits w x) 0)
    (λ none. in_tail x xs w (there w xs (omega (arith, h, none))))
    (λ here. (0, omega arith, hits-is w x (omega arith)))

-- an element weighs at most what the list does
pub weight_le : {A : Type 0} (f : A → ℕ) (xs : List A) (x : A) → Contains xs x → f x ≤ total f xs
weight_le f [] x h = in_nil x h
weight_le f (y ∷ ys) x h = ⊎_elim (λ (e : y ≡ x). omega (arith, ap f e)) (λ (z : Contains ys x). omega (arith, weight_le f ys x z)) (in_cons y ys x h)

-- GREATEST STARTS AND SUMS
pub greatest-push : (d : ℕ) (ss : List Start) (s : Start) → greatest d (ss ++ s ∷ []) ≡ cond (eqb s.driver d) (max (greatest d ss) s.at) (greatest d ss)
greatest-push d [] s = by_bool (λ b. let x : ℕ = cond b (max s.at 0) 0 in x ≡ cond b (max 0 s.at) 0) (eqb s.driver d) (λ _. omega arith) (λ _. refl)
greatest-push d (x ∷ xs) s = rw (greatest-push d xs s)
    (by_bool (λ b. cond (eqb x.driver d) (max x.at (cond b (max (greatest d xs) s.at) (greatest d xs))) (cond b (max (greatest d xs) s.at) (greatest d xs)) ≡ cond b (max (cond (eqb x.driver d) (max x.at (greatest d xs)) (greatest d xs)) s.at) (cond (eqb x.driver d) (max x.at (greatest d xs)) (greatest d xs))) (eqb s.driver d)
    (λ _. by_bool (λ b. cond b (max x.at (max (greatest d xs) s.at)) (max (greatest d xs) s.at) ≡ max (cond b (max x.at (greatest d xs)) (greatest d xs)) s.at) (eqb x.driver d) (λ _. omega arith) (λ _. refl))
    (λ _. refl))

-- the greatest start is a start, or 0
pub greatest_stands : (d : ℕ) (ss : List Start) → (greatest d ss ≡ 0) ⊎ Contains ss (record { driver = d; at = greatest d ss })
greatest_stands d [] = inl refl
greatest_stands d (s ∷ ss) = by_eq (λ b. (let x : ℕ = cond b (max s.at (greatest d ss)) (greatest d ss) in x ≡ 0) ⊎ Contains (s ∷ ss) (record { driver = d; at = cond b (max s.at (greatest d ss)) (greatest d ss) })) s.driver d
    (λ e. dite (dec_le s.at (greatest d ss))
    (λ le. let same : max s.at (greatest d ss) ≡ greatest d ss = omega (arith, le) in subst (λ (m : ℕ). (m ≡ 0) ⊎ Contains (s ∷ ss) (record { driver = d; at = m })) (sym same) (more (greatest_stands d ss)))
    (λ gt. let same : max s.at (greatest d ss) ≡ s.at = omega (arith, gt) in inr (0, omega arith, λ i. record { driver = e i; at = sym same i })))
    (λ _. more (greatest_stands d ss))
  where
    more : ((greatest d ss ≡ 0) ⊎ Contains ss (record { driver = d; at = greatest d ss })) → (greatest d ss ≡ 0) ⊎ Contains (s ∷ ss) (record { driver = d; at = greatest d ss })
    more h = ⊎_elim (λ (z : greatest d ss ≡ 0). inl z) (λ (c : Contains ss (record { driver = d; at = greatest d ss })). inr (in_tail s ss _ c)) h

-- a driver of whom no start stands
pub greatest_none : (d : ℕ) (ss : List Start) → total (λ (s : Start). cond (eqb s.driver d) 1 0) ss ≡ 0 → greatest d ss ≡ 0
greatest_none d [] h = refl
greatest_none d (s ∷ ss) h = by_eq (λ b. (let n : ℕ = cond b 1 0 + total (λ (x : Start). cond (eqb x.driver d) 1 0) ss in n) ≡ 0 → (let x : ℕ = cond b (max s.at (greatest d ss)) (greatest d ss) in x ≡ 0)) s.driver d (λ _ e. absurd (omega (arith, e))) (λ _ e. greatest_none d ss (omega (arith, e))) h

-- one's own and the others' sums are all
pub added_parts : (c d : ℕ) (xs : List Added) → added_at d xs ≡ added_by c d xs + added_else c d xs
added_parts c d [] = refl
added_parts c d (x ∷ xs) = by_bool (λ b. cond b x.count 0 + added_at d xs ≡ (cond b (cond (eqb x.client c) x.count 0) 0 + added_by c d xs) + (cond b (cond (eqb x.client c) 0 x.count) 0 + added_else c d xs)) (eqb x.driver d)
    (λ _. by_bool (λ b. x.count + added_at d xs ≡ (cond b x.count 0 + added_by c d xs) + (cond b 0 x.count + added_else c d xs)) (eqb x.client c) (λ _. omega (arith, added_parts c d xs)) (λ _. omega (arith, added_parts c d xs)))
    (λ _. omega (arith, added_parts c d xs))
