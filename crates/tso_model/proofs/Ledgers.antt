-- The two lists of a run, from the history.
use Rattle.std.proofs.Common.{◌≡◌, ℕ, ◌-◌, ◌*◌, ◌<◌, ◌≤◌, eqb, cond, List, [], ◌∷◌, ◌++◌, sym, refl, ap, ◌∙◌, subst, ⊎_elim, arith, ltb}
use Rattle.std.specs.Prelude.{All, Contains, slice_index, reverse}
use Rattle.std.proofs.lemmas.List.{reverse-append}
use Rattle.pd_types.specs.declared.oracle.Window.{Window}
use Rattle.tso_model.specs.declared.entries.Claim.{Claim}
use Rattle.tso_model.specs.declared.view.View.{View}
use Rattle.tso_model.specs.declared.entries.Grant.{Grant}
use Rattle.tso_model.specs.declared.view.Setup.{Setup}
use Rattle.tso_model.specs.History.{History}
use Rattle.std.proofs.lemmas.List.Elements.{All-nil, All-cons, All-append, All-push, All-weaker, Contains-push, Contains-append_left}
use Rattle.std.specs.Prelude.{map}
use Rattle.pd_types.specs.declared.oracle.Batch.{Batch}
use Rattle.tso_model.specs.Words.{AreClaims, Follows, opening_claim, cursor_at, Inside, Falls}
use Rattle.tso_model.specs.Sound.{PartA, PartB}
use Rattle.tso_model.proofs.Basics.{by_eq, by_bool, by_lt, in_head, in_tail, in_cons, in_nil, past_lower}
use Rattle.std.proofs.lemmas.List.Elements.{All-head, All-tail}
use Rattle.tso_model.specs.Ledger.{Rise, IsWindowList, Climb, IsDrawList, drawn_by, place}
use Rattle.std.proofs.lemmas.List.{append-nil}

append-more : {A : Type 0} (xs ys zs : List A) → (xs ++ ys) ++ zs ≡ xs ++ (ys ++ zs)
append-more [] ys zs = refl
append-more (x ∷ xs) ys zs = ap (λ l. x ∷ l) (append-more xs ys zs)

-- WINDOWS
abbrev last_or : Claim → List Claim → Claim
last_or c [] = c
last_or c (x ∷ xs) = last_or x xs

rise_push : (first c : Claim) (rest : List Claim) → Rise first rest → Follows (last_or first rest) c → Rise first (rest ++ c ∷ [])
rise_push first c [] r f = (f, tt)
rise_push first c (x ∷ xs) r f = (r.0, rise_push x c xs r.1 f)

last_push : (first c : Claim) (rest : List Claim) → last_or first (rest ++ c ∷ []) ≡ c
last_push first c [] = refl
last_push first c (x ∷ xs) = last_push x c xs

record Risen (first last : Claim) (ws : List Claim) : Type 0 where
  list : IsWindowList first ws
  ends : last_or first list.rest ≡ last

risen : (first c : Claim) (past : List Claim) → AreClaims first c past → Risen first c (reverse (c ∷ past))
risen first c [] chain = record { list = record { rest = []; all = ap (λ (x : Claim). x ∷ []) chain; rises = tt }; ends = sym chain }
risen first c (x ∷ xs) chain =
    let old = risen first x xs chain.1 in
    subst (Risen first c) (sym (reverse-append (c ∷ []) (x ∷ xs))) (record {
      list = record {
        rest = old.list.rest ++ c ∷ [];
        all = ap (λ (l : List Claim). l ++ c ∷ []) old.list.all;
        rises = rise_push first c old.list.rest old.list.rises (subst (λ (y : Claim). Follows y c) (sym old.ends) chain.0);
      };
      ends = last_push first c old.list.rest;
    })

-- the window list from the chain of claims
pub window_list : (first c : Claim) (past : List Claim) → AreClaims first c past → IsWindowList first (reverse (c ∷ past))
window_list first c past chain = (risen first c past chain).list

-- BATCHES
climb_low : (low mid t u : ℕ) (bs : List Batch) (high v : ℕ) → low ≤ mid → t ≤ u → Climb mid u bs high v → Climb low t bs high v
climb_low low mid t u [] high v p q c = (omega (arith, p, c.0), omega (arith, q, c.1))
climb_low low mid t u (b ∷ bs) high v p q c = (omega (arith, p, c.0), omega (arith, q, c.1), c.2)

climb_high : (low t : ℕ) (bs : List Batch) (mid high u v : ℕ) → mid ≤ high → u ≤ v → Climb low t bs mid u → Climb low t bs high v
climb_high low t [] mid high u v p q c = (omega (arith, p, c.0), omega (arith, q, c.1))
climb_high low t (b ∷ bs) mid high u v p q c = (c.0, c.1, climb_high b.last b.term bs mid high u v p q c.2)

climb_append : (low t : ℕ) (xs ys : List Batch) (mid u high v : ℕ) → Climb low t xs mid u → Climb mid u ys high v → Climb low t (xs ++ ys) high v
climb_append low t [] ys mid u high v c d = climb_low low mid t u ys high v c.0 c.1 d
climb_append low t (x ∷ xs) ys mid u high v c d = (c.0, c.1, climb_append x.last x.term xs ys mid u high v c.2 d)

-- one window's batches
climb_reverse : (w : Window) (gs : List Grant) (top : ℕ) → w.lo * 262144 ≤ top → All (λ (g : Grant). Inside w g.batch) gs → Falls top (map (λ (g : Grant). g.batch) gs) → Climb (w.lo * 262144) w.term (reverse (map (λ (g : Grant). g.batch) gs)) top w.term
climb_reverse w [] top le all f = (le, omega arith)
climb_reverse w (g ∷ gs) top le all f =
    let in_w = All-head (λ (x : Grant). Inside w x.batch) g gs all in
    let rest = climb_reverse w gs (g.batch.last - g.batch.count) (omega (arith, in_w.4)) (All-tail (λ (x : Grant). Inside w x.batch) g gs all) f.1 in
    subst (λ l. Climb (w.lo * 262144) w.term l top w.term) (sym (reverse-append (g.batch ∷ []) (map (λ (x : Grant). x.batch) gs)))
    (climb_append (w.lo * 262144) w.term (reverse (map (λ (x : Grant). x.batch) gs)) (g.batch ∷ []) (g.batch.last - g.batch.count) w.term top w.term rest (omega arith, omega (arith, in_w.0), (omega (arith, f.0), omega (arith, in_w.0))))

-- no batch is past its window's end
falls_end : (w : Window) (gs : List Grant) (top : ℕ) → All (λ (g : Grant). Inside w g.batch) gs → Falls top (map (λ (g : Grant). g.batch) gs) → Falls (w.hi * 262144) (map (λ (g : Grant). g.batch) gs)
falls_end w [] top all f = tt
falls_end w (g ∷ gs) top all f = let in_w = All-head (λ (x : Grant). Inside w x.batch) g gs all in (omega (arith, in_w.5), f.1)

-- the facts of part B, over any window list
abbrev AreDrawn : (ℕ → List Grant) → (Claim → ℕ) → Claim → Type 0
AreDrawn d cursor c = All (λ (g : Grant). Inside c.window g.batch) (d c.window.term) × Falls (cursor c) (map (λ (g : Grant). g.batch) (d c.window.term))

climb_all : (d : ℕ → List Grant) (cursor : Claim → ℕ) (first c : Claim) (past : List Claim) → AreClaims first c past → first.window.lo ≤ first.window.hi → ((e : Claim) → Contains (c ∷ past) e → AreDrawn d cursor e)
    → Climb (first.window.lo * 262144) first.window.term (drawn_by d (c ∷ past)) (c.window.hi * 262144) c.window.term
climb_all d cursor first c [] chain ok each =
    let mine = each c (in_head c []) in
    subst (λ (x : Claim). Climb (x.window.lo * 262144) x.window.term (reverse (map (λ (g : Grant). g.batch) (d c.window.term))) (c.window.hi * 262144) c.window.term) chain
    (climb_reverse c.window (d c.window.term) (c.window.hi * 262144) (omega (arith, ok, ap (λ (x : Claim). x.window.lo) chain, ap (λ (x : Claim). x.window.hi) chain)) mine.0 (falls_end c.window (d c.window.term) (cursor c) mine.0 mine.1))
climb_all d cursor first c (x ∷ xs) chain ok each =
    let mine = each c (in_head c (x ∷ xs)) in
    climb_append (first.window.lo * 262144) first.window.term (drawn_by d (x ∷ xs)) (reverse (map (λ (g : Grant). g.batch) (d c.window.term))) (c.window.lo * 262144) c.window.term (c.window.hi * 262144) c.window.term
    (climb_high (first.window.lo * 262144) first.window.term (drawn_by d (x ∷ xs)) (x.window.hi * 262144) (c.window.lo * 262144) x.window.term c.window.term (omega (arith, chain.0.begins)) (omega (arith, chain.0.term))
    (climb_all d cursor first x xs chain.1 ok (λ e z. each e (in_tail c (x ∷ xs) e z))))
    (climb_reverse c.window (d c.window.term) (c.window.hi * 262144) (omega (arith, chain.0.ends)) mine.0 (falls_end c.window (d c.window.term) (cursor c) mine.0 mine.1))

reverse_all : {A : Type 0} (P : A → Type 0) (xs : List A) → All P xs → All P (reverse xs)
reverse_all P [] h = h
reverse_all P (x ∷ xs) h = subst (All P) (sym (reverse-append (x ∷ []) xs)) (All-push P (reverse xs) x (reverse_all P xs (All-tail P x xs h)) (All-head P x xs h))

map_all : (P : Batch → Type 0) (gs : List Grant) → All (λ (g : Grant). P g.batch) gs → All P (map (λ (g : Grant). g.batch) gs)
map_all P [] h = All-nil P
map_all P (g ∷ gs) h = All-cons P g.batch (map (λ (x : Grant). x.batch) gs) (All-head (λ (x : Grant). P x.batch) g gs h) (map_all P gs (All-tail (λ (x : Grant). P x.batch) g gs h))

-- each lies in a window
inside_all : (d : ℕ → List Grant) (cs ws : List Claim) → ((e : Claim) → Contains cs e → Contains ws e × All (λ (g : Grant). Inside e.window g.batch) (d e.window.term)) → All (λ (b : Batch). (c : Claim) × Contains ws c × Inside c.window b) (drawn_by d cs)
inside_all d [] ws each = All-nil (λ (b : Batch). (c : Claim) × Contains ws c × Inside c.window b)
inside_all d (c ∷ cs) ws each =
    let P : Batch → Type 0 = λ b. (c : Claim) × Contains ws c × Inside c.window b in
    let mine = each c (in_head c cs) in
    All-append P (drawn_by d cs) (reverse (map (λ (g : Grant). g.batch) (d c.window.term))) (inside_all d cs ws (λ e z. each e (in_tail c cs e z)))
    (reverse_all P (map (λ (g : Grant). g.batch) (d c.window.term)) (map_all P (d c.window.term) (All-weaker (λ (g : Grant). Inside c.window g.batch) (λ (g : Grant). P g.batch) (λ g i. (c, mine.0, i)) (d c.window.term) mine.1)))

reverse_has : {A : Type 0} (xs : List A) (x : A) → Contains xs x → Contains (reverse xs) x
reverse_has [] x h = h
reverse_has (y ∷ ys) x h = subst (λ l. Contains l x) (sym (reverse-append (y ∷ []) ys)) (⊎_elim (λ (e : y ≡ x). subst (λ z. Contains (reverse ys ++ y ∷ []) z) e (Contains-push (reverse ys) y)) (λ (z : Contains ys x). Contains-append_left (reverse ys) (y ∷ []) x (reverse_has ys x z)) (in_cons y ys x h))

-- the draw list from the lists by term
pub draw_list : (k : Setup) (words : List ℕ) (views : List View) (h : History) → PartA k words views h → PartB k words views h → IsDrawList (reverse (h.newest ∷ h.past)) (drawn_by h.drawn (h.newest ∷ h.past))
draw_list k words views h a s = record {
  inside = inside_all h.drawn (h.newest ∷ h.past) (reverse (h.newest ∷ h.past)) (λ e z. (reverse_has (h.newest ∷ h.past) e z, s.inside e z));
  high = h.newest.window.hi * 262144;
  term = h.newest.window.term;
  rises = climb_low 0 (k.cell.saved * 262144) 0 k.cell.term (drawn_by h.drawn (h.newest ∷ h.past)) (h.newest.window.hi * 262144) h.newest.window.term (omega arith) (omega arith)
      (climb_all h.drawn (λ c. slice_index words (cursor_at c.window.driver)) (opening_claim k.cell) h.newest h.past a.chain (omega arith) (λ e z. (s.inside e z, s.falls e z)));
}

-- THE STEPS ON THE LISTS
-- a new window has no batches
pub drawn_another : (d : ℕ → List Grant) (c : Claim) (cs : List Claim) → d c.window.term ≡ [] → drawn_by d (c ∷ cs) ≡ drawn_by d cs
drawn_another d c cs none = ap (λ (l : List Grant). drawn_by d cs ++ reverse (map (λ (g : Grant). g.batch) l)) none ∙ append-nil (drawn_by d cs)

place_end : (b : Batch) (xs : List Batch) → All (λ (x : Batch). x.term ≤ b.term) xs → place b xs ≡ xs ++ b ∷ []
place_end b [] h = refl
place_end b (x ∷ xs) h = by_lt (λ t. cond t (b ∷ x ∷ xs) (x ∷ place b xs) ≡ x ∷ (xs ++ b ∷ [])) b.term x.term (λ lt. absurd (omega (arith, lt, All-head (λ (y : Batch). y.term ≤ b.term) x xs h))) (λ _. ap (λ (l : List Batch). x ∷ l) (place_end b xs (All-tail (λ (y : Batch). y.term ≤ b.term) x xs h)))

place_front : (b : Batch) (ys : List Batch) → All (λ (y : Batch). b.term < y.term) ys → place b ys ≡ b ∷ ys
place_front b [] h = refl
place_front b (y ∷ ys) h = by_lt (λ t. cond t (b ∷ y ∷ ys) (y ∷ place b ys) ≡ b ∷ y ∷ ys) b.term y.term (λ _. refl) (λ le. absurd (omega (arith, le, All-head (λ (z : Batch). b.term < z.term) y ys h)))

place_keep : (b : Batch) (xs ys : List Batch) → All (λ (y : Batch). b.term < y.term) ys → place b (xs ++ ys) ≡ place b xs ++ ys
place_keep b [] ys h = place_front b ys h
place_keep b (x ∷ xs) ys h = by_bool (λ t. cond t (b ∷ x ∷ (xs ++ ys)) (x ∷ place b (xs ++ ys)) ≡ cond t (b ∷ x ∷ xs) (x ∷ place b xs) ++ ys) (ltb b.term x.term) (λ _. refl) (λ _. ap (λ (l : List Batch). x ∷ l) (place_keep b xs ys h))

terms_of : (d : ℕ → List Grant) (t : ℕ) (P : ℕ → Type 0) → P t → All (λ (g : Grant). g.batch.term ≡ t) (d t) → All (λ (b : Batch). P b.term) (reverse (map (λ (g : Grant). g.batch) (d t)))
terms_of d t P p all = reverse_all (λ (b : Batch). P b.term) (map (λ (g : Grant). g.batch) (d t)) (map_all (λ (b : Batch). P b.term) (d t) (All-weaker (λ (g : Grant). g.batch.term ≡ t) (λ (g : Grant). P g.batch.term) (λ g e. subst P (sym e) p) (d t) all))

terms_below : (d : ℕ → List Grant) (cs : List Claim) (n : ℕ) → ((e : Claim) → Contains cs e → (e.window.term ≤ n) × All (λ (g : Grant). g.batch.term ≡ e.window.term) (d e.window.term)) → All (λ (b : Batch). b.term ≤ n) (drawn_by d cs)
terms_below d [] n each = All-nil (λ (b : Batch). b.term ≤ n)
terms_below d (c ∷ cs) n each = let mine = each c (in_head c cs) in
    All-append (λ (b : Batch). b.term ≤ n) (drawn_by d cs) (reverse (map (λ (g : Grant). g.batch) (d c.window.term))) (terms_below d cs n (λ e z. each e (in_tail c cs e z))) (terms_of d c.window.term (λ m. m ≤ n) mine.0 mine.1)

-- one more batch of the term of g, at its term's end
abbrev with_one : (ℕ → List Grant) → Grant → ℕ → List Grant
with_one d g t = cond (eqb t g.batch.term) (g ∷ d t) (d t)

else_same : (d : ℕ → List Grant) (g : Grant) (cs : List Claim) → ((e : Claim) → Contains cs e → e.window.term < g.batch.term) → drawn_by (with_one d g) cs ≡ drawn_by d cs
else_same d g [] low = refl
else_same d g (c ∷ cs) low = by_eq (λ b. drawn_by (with_one d g) cs ++ reverse (map (λ (x : Grant). x.batch) (cond b (g ∷ d c.window.term) (d c.window.term))) ≡ drawn_by d cs ++ reverse (map (λ (x : Grant). x.batch) (d c.window.term))) c.window.term g.batch.term
    (λ e. absurd (omega (arith, e, low c (in_head c cs))))
    (λ _. ap (λ (l : List Batch). l ++ reverse (map (λ (x : Grant). x.batch) (d c.window.term))) (else_same d g cs (λ e z. low e (in_tail c cs e z))))

placed_here : (first c : Claim) (past : List Claim) (d : ℕ → List Grant) (g : Grant) → AreClaims first c past → c.window.term ≡ g.batch.term
    → ((e : Claim) → Contains (c ∷ past) e → All (λ (x : Grant). x.batch.term ≡ e.window.term) (d e.window.term))
    → drawn_by (with_one d g) past ++ reverse (map (λ (x : Grant). x.batch) (g ∷ d c.window.term)) ≡ place g.batch (drawn_by d past ++ reverse (map (λ (x : Grant). x.batch) (d c.window.term)))
placed_here first c past d g chain same each =
    let low = terms_below d past g.batch.term (λ e z. (omega (arith, same, past_lower first c past chain e z), each e (in_tail c past e z))) in
    let mine = terms_of d c.window.term (λ m. m ≤ g.batch.term) (omega (arith, same)) (each c (in_head c past)) in
    ap (λ (l : List Batch). drawn_by (with_one d g) past ++ l) (reverse-append (g.batch ∷ []) (map (λ (x : Grant). x.batch) (d c.window.term)))
    ∙ ap (λ (l : List Batch). l ++ (reverse (map (λ (x : Grant). x.batch) (d c.window.term)) ++ g.batch ∷ [])) (else_same d g past (λ e z. omega (arith, same, past_lower first c past chain e z)))
    ∙ sym (append-more (drawn_by d past) (reverse (map (λ (x : Grant). x.batch) (d c.window.term))) (g.batch ∷ []))
    ∙ sym (place_end g.batch (drawn_by d past ++ reverse (map (λ (x : Grant). x.batch) (d c.window.term))) (All-append (λ (b : Batch). b.term ≤ g.batch.term) (drawn_by d past) (reverse (map (λ (x : Grant). x.batch) (d c.window.term))) low mine))

-- a draw inserts its batch behind all of its term and of lower terms
pub drawn_placed : (first c : Claim) (past : List Claim) (d : ℕ → List Grant) (g : Grant) (w : Claim) → AreClaims first c past → Contains (c ∷ past) w → w.window.term ≡ g.batch.term
    → ((e : Claim) → Contains (c ∷ past) e → All (λ (x : Grant). x.batch.term ≡ e.window.term) (d e.window.term))
    → drawn_by (with_one d g) (c ∷ past) ≡ place g.batch (drawn_by d (c ∷ past))
drawn_placed first c [] d g w chain has is each = by_eq (λ b. drawn_by (with_one d g) [] ++ reverse (map (λ (x : Grant). x.batch) (cond b (g ∷ d c.window.term) (d c.window.term))) ≡ place g.batch (drawn_by d [] ++ reverse (map (λ (x : Grant). x.batch) (d c.window.term)))) c.window.term g.batch.term
    (λ same. placed_here first c [] d g chain same each)
    (λ ne. ⊎_elim (λ (e : c ≡ w). absurd (ne (ap (λ (x : Claim). x.window.term) e ∙ is))) (λ (z : Contains [] w). in_nil w z) (in_cons c [] w has))
drawn_placed first c (x ∷ xs) d g w chain has is each = by_eq (λ b. drawn_by (with_one d g) (x ∷ xs) ++ reverse (map (λ (x : Grant). x.batch) (cond b (g ∷ d c.window.term) (d c.window.term))) ≡ place g.batch (drawn_by d (x ∷ xs) ++ reverse (map (λ (x : Grant). x.batch) (d c.window.term)))) c.window.term g.batch.term
    (λ same. placed_here first c (x ∷ xs) d g chain same each)
    (λ ne. ⊎_elim
    (λ (e : c ≡ w). absurd (ne (ap (λ (x : Claim). x.window.term) e ∙ is)))
    (λ (z : Contains (x ∷ xs) w).
    let above : g.batch.term < c.window.term = omega (arith, is, past_lower first c (x ∷ xs) chain w z) in
    ap (λ (l : List Batch). l ++ reverse (map (λ (x : Grant). x.batch) (d c.window.term))) (drawn_placed first x xs d g w chain.1 z is (λ e y. each e (in_tail c (x ∷ xs) e y)))
    ∙ sym (place_keep g.batch (drawn_by d (x ∷ xs)) (reverse (map (λ (x : Grant). x.batch) (d c.window.term))) (terms_of d c.window.term (λ m. g.batch.term < m) above (each c (in_head c (x ∷ xs))))))
    (in_cons c (x ∷ xs) w has))
