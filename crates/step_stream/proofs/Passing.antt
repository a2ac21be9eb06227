-- Each move keeps the rule of the stream.
use Rattle.std.proofs.Common.{◌≡◌, ◌≢◌, ◌≤◌, arith, length-append, ℕ, zero, suc, Bool, true, false, true≢false, cond, List, [], ◌∷◌, ◌++◌, length, nat_lt, set, sym, refl, ap, ◌∙◌, subst, ⊎_elim, append_assoc, append-nil}
use mathlib.Core.List.{IsPrefix}
use mathlib.Core.Option.{some, some-ne-none}
use lib.ListN.{get_elem?}
use Rattle.crossbeam_queue.specs.Fifo.{Pushes, Pops, Forks, Merges, Learns}
use Rattle.crossbeam_queue.proofs.Lists.{at_set, at_snoc}
use Rattle.pd_types.specs.declared.step.StepMsg.{StepMsg}
use Rattle.step_stream.specs.declared.rule.View.{View}
use Rattle.step_stream.specs.Streams.{view_of, longer, Fits, IsInOrder}

at_end : (l : List View) (a b : View) (j : ℕ) → get_elem? l j ≢ some b → get_elem? (l ++ a ∷ []) j ≡ some b → j ≡ length l
at_end [] a b zero n e = refl
at_end [] a b (suc j) n e = absurd (some-ne-none b (sym e))
at_end (x ∷ xs) a b zero n e = absurd (n e)
at_end (x ∷ xs) a b (suc j) n e = ap suc (at_end xs a b j n e)

abbrev All : (ℕ → View → Type 0) → List View → Type 0
All F views = (port : ℕ) (v : View) → get_elem? views port ≡ some v → F port v

all_set : (F : ℕ → View → Type 0) (views : List View) (port : ℕ) (w : View) → F port w → ((j : ℕ) (u : View) → j ≢ port → get_elem? views j ≡ some u → F j u) → All F (set views port w)
all_set F views port w mine others j u e = ⊎_elim (λ (x : (j ≡ port) × (w ≡ u)). subst (λ (y : ℕ × View). F y.0 y.1) (λ i. (sym x.0 i, x.1 i)) mine)
    (λ (x : (j ≢ port) × (get_elem? views j ≡ some u)). others j u x.0 x.1) (at_set views port j w u e)

-- PREFIXES
none_first : (l : List StepMsg) → IsPrefix [] l
none_first l = (l, refl)

more_behind : (a b : List StepMsg) (x : StepMsg) → IsPrefix a b → IsPrefix a (b ++ x ∷ [])
more_behind a b x h = (h.0 ++ x ∷ [], sym (append_assoc a h.0 (x ∷ [])) ∙ ap (λ l. l ++ x ∷ []) h.1)

of_longer : (a b l : List StepMsg) → IsPrefix a l → IsPrefix b l → IsPrefix (longer a b) l
of_longer a b l one other = by (nat_lt (length a) (length b))
  where
    by : (t : Bool) → IsPrefix (cond t b a) l
    by true = other
    by false = one

-- a view that neither pushes nor pops
aside : (giver taker : ℕ) (pushed popped known : List StepMsg) (k : ℕ) → IsPrefix known pushed → Fits giver taker pushed popped k (view_of false false [] [] known)
aside giver taker pushed popped known k first = record { gives = λ p. absurd (true≢false (sym p)); takes = λ p. absurd (true≢false (sym p)); known = first }

pub begins : IsInOrder [] (view_of true true [] [] [] ∷ [])
begins = (
  0,
  0,
  [],
  [],
  refl,
  all_set (Fits 0 0 [] []) (view_of true true [] [] [] ∷ []) 0 (view_of true true [] [] []) (record { gives = λ _. (refl, refl); takes = λ _. (refl, refl); known = none_first [] })
      (λ j u other e. absurd (other (at_end [] _ u j (λ x. some-ne-none u (sym x)) e))),
)

pub sends : (n port : ℕ) (v : View) (x : StepMsg) → v.gives ≡ true → Pushes IsInOrder n port v x (λ w. w ≡ view_of v.gives v.takes (v.pushed ++ x ∷ []) v.popped v.known)
sends n port v x may items views _ h at = let w : View = view_of v.gives v.takes (v.pushed ++ x ∷ []) v.popped v.known in let mine = h.5 port v at in let sent = h.2 ++ x ∷ [] in (
  w,
  (
    h.0,
    h.1,
    sent,
    h.3,
    ap (λ l. l ++ x ∷ []) h.4 ∙ append_assoc h.3 items (x ∷ []),
    all_set (Fits h.0 h.1 sent h.3) views port w (record { gives = λ _. ((mine.gives may).0, ap (λ l. l ++ x ∷ []) (mine.gives may).1); takes = mine.takes; known = more_behind v.known h.2 x mine.known })
        (λ j u other e. record { gives = λ p. absurd (other (((h.5 j u e).gives p).0 ∙ sym (mine.gives may).0)); takes = (h.5 j u e).takes; known = more_behind u.known h.2 x (h.5 j u e).known }),
  ),
  refl,
)

pub gets : (port : ℕ) (v : View) → v.takes ≡ true → Pops IsInOrder port v (λ x w. w ≡ view_of v.gives v.takes v.pushed (v.popped ++ x ∷ []) v.known)
gets port v may x items views h at = let w : View = view_of v.gives v.takes v.pushed (v.popped ++ x ∷ []) v.known in let mine = h.5 port v at in let got = h.3 ++ x ∷ [] in (
  w,
  (
    h.0,
    h.1,
    h.2,
    got,
    h.4 ∙ sym (append_assoc h.3 (x ∷ []) items),
    all_set (Fits h.0 h.1 h.2 got) views port w (record { gives = mine.gives; takes = λ _. ((mine.takes may).0, ap (λ l. l ++ x ∷ []) (mine.takes may).1); known = mine.known })
        (λ j u other e. record { gives = (h.5 j u e).gives; takes = λ p. absurd (other (((h.5 j u e).takes p).0 ∙ sym (mine.takes may).0)); known = (h.5 j u e).known }),
  ),
  refl,
)

pub forks : (port : ℕ) (v : View) → v.gives ≡ true → v.takes ≡ true → Forks IsInOrder port v (view_of true false v.pushed [] []) (view_of false true [] v.popped [])
forks port v a b items views h at = let l : View = view_of true false v.pushed [] [] in let r : View = view_of false true [] v.popped [] in let mine = h.5 port v at in let vs : List View = set views port l in
    let Old : ℕ → View → Type 0 = λ j u. (u.gives ≡ true → (j ≡ h.0) × (u.pushed ≡ h.2)) × (u.takes ≢ true) × IsPrefix u.known h.2 in
    let old : All Old vs = all_set Old views port l ((λ _. mine.gives a), (λ p. true≢false (sym p)), none_first h.2)
    (λ j u other e. ((h.5 j u e).gives, (λ p. other (((h.5 j u e).takes p).0 ∙ sym (mine.takes b).0)), (h.5 j u e).known)) in (
      h.0,
      length vs,
      h.2,
      h.3,
      h.4,
      λ j u e. ⊎_elim (λ x. record { gives = (old j u x).0; takes = λ p. absurd ((old j u x).1 p); known = (old j u x).2 })
          (λ (is : r ≡ u). record {
            gives = λ p. absurd (true≢false (sym (ap (λ (y : View). y.gives) is ∙ p)));
            takes = λ p. (at_end vs r u j (λ x. (old j u x).1 p) e, ap (λ (y : View). y.popped) (sym is) ∙ (mine.takes b).1);
            known = subst (λ (y : View). IsPrefix y.known h.2) is (none_first h.2);
          }) (at_snoc vs r u j e),
    )

pub merges : (port : ℕ) (v : View) (other : ℕ) (u : View) → v.gives ≡ true → u.takes ≡ true → Merges IsInOrder port v other u (view_of true true v.pushed u.popped []) (view_of false false [] [] [])
merges port v other u a b items views h at two at' = let both : View = view_of true true v.pushed u.popped [] in let mine = h.5 port v at in let vs : List View = set views port both in
    let was : get_elem? views other ≡ some u = ⊎_elim (λ x. absurd (two x.0)) (λ x. x.1) (at_set views port other both u at') in let theirs = (h.5 other u was).takes b in
    let Now : ℕ → View → Type 0 = λ j y. j ≢ other → Fits h.0 port h.2 h.3 j y in
    let now : All Now vs = all_set Now views port both (λ _. record { gives = λ _. mine.gives a; takes = λ _. (refl, theirs.1); known = none_first h.2 })
    (λ j y _ e apart. record { gives = (h.5 j y e).gives; takes = λ p. absurd (apart (((h.5 j y e).takes p).0 ∙ sym theirs.0)); known = (h.5 j y e).known }) in
    (h.0, port, h.2, h.3, h.4, all_set (Fits h.0 port h.2 h.3) vs other (view_of false false [] [] []) (aside h.0 port h.2 h.3 [] other (none_first h.2)) (λ j y apart e. now j y e apart))

-- a note is made, and met
pub notes : (port : ℕ) (v : View) → v.gives ≡ true → Forks IsInOrder port v v (view_of false false [] [] v.pushed)
notes port v a items views h at = let note : View = view_of false false [] [] v.pushed in let mine = h.5 port v at in let vs : List View = set views port v in
    let first : IsPrefix v.pushed h.2 = ([], append-nil v.pushed ∙ (mine.gives a).1) in
    let old : All (Fits h.0 h.1 h.2 h.3) vs = all_set (Fits h.0 h.1 h.2 h.3) views port v mine (λ j u _ e. h.5 j u e) in (
      h.0,
      h.1,
      h.2,
      h.3,
      h.4,
      λ j u e. ⊎_elim (λ x. old j u x) (λ (is : note ≡ u). subst (λ (y : View). Fits h.0 h.1 h.2 h.3 j y) is (aside h.0 h.1 h.2 h.3 v.pushed j first)) (at_snoc vs note u j e),
    )

pub meets : (port : ℕ) (v : View) (other : ℕ) (u : View) → Merges IsInOrder port v other u (view_of v.gives v.takes v.pushed v.popped (longer v.known u.known)) (view_of false false [] [] [])
meets port v other u items views h at two at' = let both : View = view_of v.gives v.takes v.pushed v.popped (longer v.known u.known) in let mine = h.5 port v at in let vs : List View = set views port both in
    let was : get_elem? views other ≡ some u = ⊎_elim (λ x. absurd (two x.0)) (λ x. x.1) (at_set views port other both u at') in
    let now : All (Fits h.0 h.1 h.2 h.3) vs = all_set (Fits h.0 h.1 h.2 h.3) views port both (record { gives = mine.gives; takes = mine.takes; known = of_longer v.known u.known h.2 mine.known (h.5 other u was).known })
    (λ j y _ e. h.5 j y e) in
    (h.0, h.1, h.2, h.3, h.4, all_set (Fits h.0 h.1 h.2 h.3) vs other (view_of false false [] [] []) (aside h.0 h.1 h.2 h.3 [] other (none_first h.2)) (λ j y _ e. now j y e))

-- WHAT IS LEARNED
pub totals : (port : ℕ) (v : View) → v.gives ≡ true → v.takes ≡ true → Learns IsInOrder port v (λ items. v.pushed ≡ v.popped ++ items)
totals port v a b items views h at = let mine = h.5 port v at in (mine.gives a).1 ∙ h.4 ∙ ap (λ l. l ++ items) (sym (mine.takes b).1)

-- no more stand in the queue than were given
pub counts : (k : ℕ) (v : View) → v.gives ≡ true → Learns IsInOrder k v (λ items. length items ≤ length v.pushed)
counts k v may items views h at = let mine = h.5 k v at in
    let e : length v.pushed ≡ length (h.3 ++ items) = ap (λ (l : List StepMsg). length l) ((mine.gives may).1 ∙ h.4) in omega (arith, length-append h.3 items)

-- what the end that pops knows to have been pushed was popped, or stands in the queue
pub knows : (k : ℕ) (v : View) → v.takes ≡ true → Learns IsInOrder k v (λ items. IsPrefix v.known (v.popped ++ items))
knows k v may items views h at = let mine = h.5 k v at in subst (λ l. IsPrefix v.known l) (h.4 ∙ ap (λ l. l ++ items) (sym (mine.takes may).1)) mine.known
