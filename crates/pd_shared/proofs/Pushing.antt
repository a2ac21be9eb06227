-- What outlets take up, one list of steps behind another.
use Rattle.std.proofs.Common.{◌≡◌, ◌≢◌, ◌+◌, ◌<◌, ◌≤◌, ◌⊎◌, ◌∙◌, ℕ, zero, suc, List, [], ◌∷◌, ◌++◌, cond, eqb, length, map, take, drop, set, get_or, sym, refl, ap, subst, inl, inr, ⊎_elim, arith, eq-eqb, ne_eqb}
use Rattle.std.specs.Prelude.{All, Contains}
use Rattle.std.specs.List.{AllZip}
use Rattle.std.proofs.lemmas.List.{append-nil, append_assoc, drop-drop, drop-set-lt, get_or-drop, length-append, take_more_set}
use Rattle.std.proofs.lemmas.List.Elements.{All-cons, All-nil, All-weaker, Contains-append_right, all_zip_more, filter-append}
use Rattle.pd_types.specs.declared.step.StepMsg.{StepMsg}
use Rattle.pd_shared.specs.Outlets.{ArePushed, OutletValue, TookUp, named, to_store}

-- two lists of sends, one behind the other
pub pushed_more : (n : ℕ) (ss ps ts qs : List StepMsg) → ArePushed n ss ps → ArePushed (n + length ps) ts qs → ArePushed n (ss ++ ts) (ps ++ qs)
pushed_more n [] [] ts qs h k = let same : n + 0 ≡ n = omega arith in subst (λ m. ArePushed m ts qs) same k
pushed_more n [] (p ∷ ps) ts qs h k = absurd h
pushed_more n (s ∷ ss) [] ts [] h k = (h.0, pushed_more n ss [] ts [] h.1 k)
pushed_more n (s ∷ ss) [] ts (q ∷ qs) h k = inr (h.0, pushed_more n ss [] ts (q ∷ qs) h.1 k)
pushed_more n (s ∷ ss) (p ∷ ps) ts qs h k = ⊎_elim
    (λ (t : (s ≡ p) × ArePushed (n + 1) ss ps). inl (t.0, pushed_more (n + 1) ss ps ts qs t.1 (let same : n + length (p ∷ ps) ≡ n + 1 + length ps = omega arith in subst (λ m. ArePushed m ts qs) same k)))
    (λ (t : (64 ≤ n) × ArePushed n ss (p ∷ ps)). inr (t.0, pushed_more n ss (p ∷ ps) ts qs t.1 k)) h

-- an outlet takes up no steps, two lists, and one
pub took_none : (o : OutletValue) → TookUp [] o o
took_none o = record { store_is = refl; stream_is = refl; added = []; pushed_is = sym (append-nil o.pushed); are_pushed = tt }

pub took_both : (xs ys : List StepMsg) (o p q : OutletValue) → TookUp xs o p → TookUp ys p q → TookUp (xs ++ ys) o q
took_both xs ys o p q h k = record {
  store_is = k.store_is ∙ h.store_is;
  stream_is = k.stream_is ∙ h.stream_is;
  added = h.added ++ k.added;
  pushed_is = k.pushed_is ∙ ap (λ l. l ++ k.added) h.pushed_is ∙ append_assoc o.pushed h.added k.added;
  are_pushed = subst (λ l. ArePushed (length o.pushed) l (h.added ++ k.added)) (sym (filter-append (λ (msg : StepMsg). eqb msg.to o.store) xs ys))
      (pushed_more (length o.pushed) (to_store o.store xs) h.added (to_store o.store ys) k.added h.are_pushed
      (let many : length p.pushed ≡ length o.pushed + length h.added = ap length h.pushed_is ∙ length-append o.pushed h.added in
      subst (λ (y : ℕ × ℕ). ArePushed y.0 (to_store y.1 ys) k.added) (λ i. (many i, h.store_is i)) k.are_pushed));
}

pub took_one : (msg : StepMsg) (o p : OutletValue) → msg.to ≡ o.store → p.store ≡ o.store → p.stream ≡ o.stream
    → (p.pushed ≡ o.pushed ++ msg ∷ []) ⊎ ((p.pushed ≡ o.pushed) × (64 ≤ length o.pushed)) → TookUp (msg ∷ []) o p
took_one msg o p to store stream pushed = ⊎_elim
    (λ (t : p.pushed ≡ o.pushed ++ msg ∷ []). record {
      store_is = store;
      stream_is = stream;
      added = msg ∷ [];
      pushed_is = t;
      are_pushed = subst (λ b. ArePushed (length o.pushed) (cond b (msg ∷ []) []) (msg ∷ [])) (sym (eq-eqb msg.to o.store to)) (inl (refl, tt));
    })
    (λ (t : (p.pushed ≡ o.pushed) × (64 ≤ length o.pushed)). record {
      store_is = store;
      stream_is = stream;
      added = [];
      pushed_is = t.0 ∙ sym (append-nil o.pushed);
      are_pushed = subst (λ b. ArePushed (length o.pushed) (cond b (msg ∷ []) []) []) (sym (eq-eqb msg.to o.store to)) (t.1, tt);
    })
    pushed

pub took_other : (msg : StepMsg) (o : OutletValue) → msg.to ≢ o.store → TookUp (msg ∷ []) o o
took_other msg o other = record {
  store_is = refl;
  stream_is = refl;
  added = [];
  pushed_is = sym (append-nil o.pushed);
  are_pushed = subst (λ b. ArePushed (length o.pushed) (cond b (msg ∷ []) []) []) (sym (ne_eqb msg.to o.store other)) tt;
}

-- one more of the outlets, in a loop over them
pub zip_more : (R : OutletValue → OutletValue → Type 0) (xs ys : List OutletValue) (i : ℕ) (x y : OutletValue) → i < length ys → x ≡ get_or ys i x → length ys ≡ length xs
    → AllZip R (take i xs) (take i ys) → drop i ys ≡ drop i xs → R x y → AllZip R (take (i + 1) xs) (take (i + 1) (set ys i y)) × (drop (i + 1) (set ys i y) ≡ drop (i + 1) xs)
zip_more R xs ys i x y lt is long zip rest here =
    let zero_more : i + 0 ≡ i = omega arith in
    let first : get_or ys i x ≡ get_or xs i x =
    ap (λ k. get_or ys k x) (sym zero_more) ∙ sym (get_or-drop i ys 0 x) ∙ ap (λ l. get_or l 0 x) rest ∙ get_or-drop i xs 0 x ∙ ap (λ k. get_or xs k x) zero_more in (
      subst (AllZip R (take (i + 1) xs)) (sym (take_more_set ys i y lt)) (all_zip_more R xs (take i ys) i x y (omega (arith, lt, long)) (is ∙ first) zip here),
      drop-set-lt (i + 1) ys i y (omega arith) ∙ sym (drop-drop 1 i ys) ∙ ap (drop 1) rest ∙ drop-drop 1 i xs,
    )

-- outlets that took up steps have the names that they had
pub same_names : (driver : ℕ) (sends : List StepMsg) (os ps : List OutletValue) → AllZip (TookUp sends) os ps → map (named driver) ps ≡ map (named driver) os
same_names driver sends [] [] h = refl
same_names driver sends [] (p ∷ ps) h = absurd h
same_names driver sends (o ∷ os) [] h = absurd h
same_names driver sends (o ∷ os) (p ∷ ps) h =
    let rest = same_names driver sends os ps h.1 in
    let store = h.0.store_is in
    let stream = h.0.stream_is in
    λ i. record { driver = driver; store = store i; stream = stream i } ∷ rest i

pub same_stores : (sends : List StepMsg) (os ps : List OutletValue) → AllZip (TookUp sends) os ps → map (λ (o : OutletValue). o.store) ps ≡ map (λ (o : OutletValue). o.store) os
same_stores sends [] [] h = refl
same_stores sends [] (p ∷ ps) h = absurd h
same_stores sends (o ∷ os) [] h = absurd h
same_stores sends (o ∷ os) (p ∷ ps) h =
    let rest = same_stores sends os ps h.1 in
    let store = h.0.store_is in
    λ i. store i ∷ rest i

-- WHAT WAS PUSHED
pub pushed_sent : (n : ℕ) (ss ps : List StepMsg) → ArePushed n ss ps → All (Contains ss) ps
pushed_sent n ss [] h = All-nil (Contains ss)
pushed_sent n [] (p ∷ ps) h = absurd h
pushed_sent n (s ∷ ss) (p ∷ ps) h = ⊎_elim
    (λ (t : (s ≡ p) × ArePushed (n + 1) ss ps). All-cons (Contains (s ∷ ss)) p ps (subst (Contains (s ∷ ss)) t.0 (0, omega arith, refl))
    (All-weaker (Contains ss) (Contains (s ∷ ss)) (λ x c. Contains-append_right (s ∷ []) ss x c) ps (pushed_sent (n + 1) ss ps t.1)))
    (λ (t : (64 ≤ n) × ArePushed n ss (p ∷ ps)). All-weaker (Contains ss) (Contains (s ∷ ss)) (λ x c. Contains-append_right (s ∷ []) ss x c) (p ∷ ps) (pushed_sent n ss (p ∷ ps) t.1)) h

-- where n were pushed before, the next ones up to the 64th are all pushed
pub pushed_first : (n k : ℕ) (ss ps : List StepMsg) → n + k ≡ 64 → ArePushed n ss ps → take k ps ≡ take k ss
pushed_first n zero ss ps is h = refl
pushed_first n (suc k) [] [] is h = refl
pushed_first n (suc k) [] (p ∷ ps) is h = absurd h
pushed_first n (suc k) (s ∷ ss) [] is h = absurd (omega (arith, is, h.0))
pushed_first n (suc k) (s ∷ ss) (p ∷ ps) is h = ⊎_elim
    (λ (t : (s ≡ p) × ArePushed (n + 1) ss ps). let rest = pushed_first (n + 1) k ss ps (omega (arith, is)) t.1 in λ i. sym t.0 i ∷ rest i)
    (λ (t : (64 ≤ n) × ArePushed n ss (p ∷ ps)). absurd (omega (arith, is, t.0))) h
