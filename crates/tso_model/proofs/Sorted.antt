-- Two lists that rise by the same key and weigh alike are one.
use Rattle.std.proofs.Common.{◌≡◌, ℕ, ◌+◌, ◌<◌, ◌≤◌, eqb, cond, List, [], ◌∷◌, sym, refl, ap, ◌∙◌, subst, ⊎_elim, arith, eq-eqb}
use Rattle.std.specs.Prelude.{All, Contains, reverse}
use mathlib.Core.Logic.{dite}
use native.Mathlib.Decide.{dec_le}
use Rattle.tso_model.specs.declared.entries.Claim.{Claim}
use Rattle.tso_model.specs.declared.view.View.{View}
use Rattle.tso_model.specs.declared.entries.Grant.{Grant}
use Rattle.tso_model.specs.declared.view.Setup.{Setup}
use Rattle.tso_model.specs.Lists.{total}
use Rattle.tso_model.specs.History.{claims}
use Rattle.std.proofs.lemmas.List.Elements.{All-nil, All-cons, All-contains, All-weaker}
use Rattle.pd_types.specs.declared.oracle.Batch.{Batch}
use Rattle.tso_model.specs.Words.{opening_claim, Inside}
use Rattle.tso_model.proofs.Basics.{by_eq, in_head, in_tail, in_cons, in_nil, hits, hits-same}
use Rattle.tso_model.specs.Ledger.{IsRisingBy, Rise, IsWindowList, Climb, IsDrawList, drawn_by, Gathered}
use Rattle.tso_model.proofs.Basics.{hits-is}
use Rattle.std.proofs.lemmas.List.Elements.{All-head, All-tail}

module _ {A : Type 0} (key : A → ℕ) (hit : A → A → ℕ) (hit-same : (w : A) → 0 < hit w w) (hit-is : (w x : A) → 0 < hit w x → x ≡ w) where
  stands : (w : A) (xs : List A) → 0 < total (hit w) xs → Contains xs w
  stands w [] h = absurd (omega arith)
  stands w (x ∷ xs) h = dite (dec_le (hit w x) 0)
      (λ none. in_tail x xs w (stands w xs (omega (arith, h, none))))
      (λ here. subst (λ y. Contains (y ∷ xs) w) (sym (hit-is w x (omega (arith, here)))) (in_head w xs))

  head_le : (x w : A) (xs : List A) → IsRisingBy key (x ∷ xs) → Contains (x ∷ xs) w → key x ≤ key w
  head_le x w xs r h = ⊎_elim (λ (e : x ≡ w). omega (arith, ap key e)) (λ (z : Contains xs w). omega (arith, All-contains (λ y. key x < key y) xs w r.0 z)) (in_cons x xs w h)

  one_list : (xs ys : List A) → IsRisingBy key xs → IsRisingBy key ys → ((f : A → ℕ) → total f xs ≡ total f ys) → xs ≡ ys
  one_list [] [] p q h = refl
  one_list [] (y ∷ ys) p q h = absurd (omega (arith, h (hit y), hit-same y))
  one_list (x ∷ xs) [] p q h = absurd (omega (arith, h (hit x), hit-same x))
  one_list (x ∷ xs) (y ∷ ys) p q h =
      let x_there = stands x (y ∷ ys) (omega (arith, h (hit x), hit-same x)) in
      let y_there = stands y (x ∷ xs) (omega (arith, h (hit y), hit-same y)) in
      let same : y ≡ x = ⊎_elim (λ (e : y ≡ x). e) (λ (z : Contains ys x). absurd (omega (arith, All-contains (λ u. key y < key u) ys x q.0 z, head_le x y xs p y_there))) (in_cons y ys x x_there) in
      λ i. sym same i ∷ one_list xs ys p.1 q.1 (λ f. omega (arith, h f, ap f same)) i

pub sorted_claims : (xs ys : List Claim) → IsRisingBy (λ (c : Claim). c.window.term) xs → IsRisingBy (λ (c : Claim). c.window.term) ys → ((f : Claim → ℕ) → total f xs ≡ total f ys) → xs ≡ ys
sorted_claims xs ys p q h = one_list (λ (c : Claim). c.window.term) hits (λ w. omega (arith, hits-same w)) hits-is xs ys p q h

both_are : (a b m : ℕ) → 0 < cond (eqb a b) m 0 → (a ≡ b) × (0 < m)
both_are a b m = by_eq (λ t. 0 < cond t m 0 → (a ≡ b) × (0 < m)) a b (λ e h. (e, h)) (λ ne h. absurd (omega (arith, h)))

abbrev batch_hits : Batch → Batch → ℕ
batch_hits w x = cond (eqb x.term w.term) (cond (eqb x.driver w.driver) (cond (eqb x.last w.last) (cond (eqb x.count w.count) 1 0) 0) 0) 0

batch-same : (w : Batch) → 0 < batch_hits w w
batch-same w = rw (eq-eqb w.term w.term refl, eq-eqb w.driver w.driver refl, eq-eqb w.last w.last refl, eq-eqb w.count w.count refl) (omega arith)

batch-is : (w x : Batch) → 0 < batch_hits w x → x ≡ w
batch-is w x h =
    let a = both_are x.term w.term _ h in
    let b = both_are x.driver w.driver _ a.1 in
    let c = both_are x.last w.last _ b.1 in
    let d = both_are x.count w.count _ c.1 in
    λ i. record { term = a.0 i; driver = b.0 i; last = c.0 i; count = d.0 i }

pub sorted_batches : (xs ys : List Batch) → IsRisingBy (λ (b : Batch). b.last) xs → IsRisingBy (λ (b : Batch). b.last) ys → ((f : Batch → ℕ) → total f xs ≡ total f ys) → xs ≡ ys
sorted_batches xs ys p q h = one_list (λ (b : Batch). b.last) batch_hits batch-same batch-is xs ys p q h

-- one element a key
pub one_key : {A : Type 0} (key : A → ℕ) (ys : List A) → IsRisingBy key ys → (x y : A) → Contains ys x → Contains ys y → key x ≡ key y → x ≡ y
one_key key [] r x y hx hy same = in_nil x hx
one_key key (z ∷ zs) r x y hx hy same = ⊎_elim
    (λ (e : z ≡ x). ⊎_elim (λ (f : z ≡ y). sym e ∙ f) (λ (hy' : Contains zs y). absurd (omega (arith, All-contains (λ u. key z < key u) zs y r.0 hy', ap key e, same))) (in_cons z zs y hy))
    (λ (hx' : Contains zs x). ⊎_elim (λ (f : z ≡ y). absurd (omega (arith, All-contains (λ u. key z < key u) zs x r.0 hx', ap key f, same))) (λ (hy' : Contains zs y). one_key key zs r.1 x y hx' hy' same) (in_cons z zs y hy))
    (in_cons z zs x hx)

-- WHAT gather MAKES OF THEM
rise_above : (x : Claim) (n : ℕ) (rest : List Claim) → n ≤ x.window.term → Rise x rest → All (λ (y : Claim). n < y.window.term) rest
rise_above x n [] le r = All-nil (λ (y : Claim). n < y.window.term)
rise_above x n (c ∷ cs) le r = All-cons (λ (y : Claim). n < y.window.term) c cs (omega (arith, le, r.0.term)) (rise_above c n cs (omega (arith, le, r.0.term)) r.1)

rise_sorted : (x : Claim) (rest : List Claim) → Rise x rest → IsRisingBy (λ (c : Claim). c.window.term) (x ∷ rest)
rise_sorted x [] r = (All-nil (λ (y : Claim). x.window.term < y.window.term), tt)
rise_sorted x (c ∷ cs) r = (rise_above x x.window.term (c ∷ cs) (omega arith) r, rise_sorted c cs r.1)

pub windows_rise : (first : Claim) (ws : List Claim) → IsWindowList first ws → IsRisingBy (λ (c : Claim). c.window.term) ws
windows_rise first ws l = subst (IsRisingBy (λ (c : Claim). c.window.term)) (sym l.all) (rise_sorted first l.rest l.rises)

climb_above : (n low t : ℕ) (bs : List Batch) (high u : ℕ) → n ≤ low → All (λ (b : Batch). (0 < b.count) × (b.count ≤ b.last)) bs → Climb low t bs high u → All (λ (b : Batch). n < b.last) bs
climb_above n low t [] high u le pos c = All-nil (λ (b : Batch). n < b.last)
climb_above n low t (b ∷ bs) high u le pos c =
    let above : n < b.last = omega (arith, le, c.0, All-head (λ (x : Batch). (0 < x.count) × (x.count ≤ x.last)) b bs pos) in
    All-cons (λ (x : Batch). n < x.last) b bs above (climb_above n b.last b.term bs high u (omega (arith, above)) (All-tail (λ (x : Batch). (0 < x.count) × (x.count ≤ x.last)) b bs pos) c.2)

climb_sorted : (low t : ℕ) (bs : List Batch) (high u : ℕ) → All (λ (b : Batch). (0 < b.count) × (b.count ≤ b.last)) bs → Climb low t bs high u → IsRisingBy (λ (b : Batch). b.last) bs
climb_sorted low t [] high u pos c = tt
climb_sorted low t (b ∷ bs) high u pos c = let rest = All-tail (λ (x : Batch). (0 < x.count) × (x.count ≤ x.last)) b bs pos in (climb_above b.last b.last b.term bs high u (omega arith) rest c.2, climb_sorted b.last b.term bs high u rest c.2)

pub batches_rise : (ws : List Claim) (bs : List Batch) → IsDrawList ws bs → IsRisingBy (λ (b : Batch). b.last) bs
batches_rise ws bs l = climb_sorted 0 0 bs l.high l.term (All-weaker (λ (b : Batch). (c : Claim) × Contains ws c × Inside c.window b) (λ (b : Batch). (0 < b.count) × (b.count ≤ b.last)) (λ b x. (x.2.3, omega (arith, x.2.4))) bs l.inside) l.rises

-- the sorted claims of a view that has all are the windows of the run, and its sorted batches the draws
pub gathered_lists : (k : Setup) (v : View) (ws : List Claim) (bs : List Batch) → Gathered k v → IsRisingBy (λ (c : Claim). c.window.term) ws → ((f : Claim → ℕ) → total f ws ≡ total f (claims v) + f (opening_claim k.cell))
    → IsRisingBy (λ (b : Batch). b.last) bs → ((f : Batch → ℕ) → total f bs ≡ total (λ (g : Grant). f g.batch) v.grants) → IsWindowList (opening_claim k.cell) ws × IsDrawList ws bs
gathered_lists k v ws bs g rise same climb weigh =
    let is : reverse (g.history.newest ∷ g.history.past) ≡ ws = sorted_claims _ ws (windows_rise (opening_claim k.cell) _ g.a.windows) rise (λ f. sym (g.a.claims f) ∙ sym (same f)) in
    let are : drawn_by g.history.drawn (g.history.newest ∷ g.history.past) ≡ bs = sorted_batches _ bs (batches_rise _ _ g.b.draws) climb (λ f. sym (g.b.batches f) ∙ sym (weigh f)) in
    (subst (IsWindowList (opening_claim k.cell)) is g.a.windows, subst (λ (l : List Claim). IsDrawList l bs) is (subst (IsDrawList (reverse (g.history.newest ∷ g.history.past))) are g.b.draws))
