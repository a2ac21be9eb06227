-- What a closed table tells of the view that has all numbers.
use Rattle.std.proofs.Common.{◌≡◌, ◌≢◌, ℕ, ◌+◌, ◌<◌, ◌≤◌, ◌⊎◌, eqb, cond, false, List, [], ◌∷◌, sym, refl, ap, ◌∙◌, inl, inr, ⊎_elim, arith}
use Rattle.std.specs.Prelude.{Contains, reverse, nat_lt, nat_le}
use Rattle.std.proofs.lemmas.Bool.{lt-leb}
use Rattle.pd_types.proofs.Bools.{and_right}
use Rattle.std.proofs.lemmas.List.{reverse-append}
use mathlib.Core.Logic.{dite}
use mathlib.Core.Option.{some}
use native.Mathlib.Decide.{ℕ_discrete, dec_le}
use lib.ListN.{get_elem?}
use Rattle.tso_model.specs.declared.entries.Claim.{Claim}
use Rattle.tso_model.specs.declared.view.View.{View}
use Rattle.tso_model.specs.declared.entries.Start.{Start}
use Rattle.tso_model.specs.declared.entries.Found.{Found}
use Rattle.tso_model.specs.declared.entries.Look.{Look}
use Rattle.tso_model.specs.declared.entries.Refusal.{Refusal}
use Rattle.tso_model.specs.declared.entries.Grant.{Grant}
use Rattle.tso_model.specs.declared.entries.Published.{Published}
use Rattle.tso_model.specs.declared.entries.Added.{Added}
use Rattle.tso_model.specs.declared.view.Setup.{Setup}
use Rattle.tso_model.specs.Lists.{total, times}
use Rattle.tso_model.specs.History.{History, claims, of_term}
use Rattle.tso_model.proofs.Sums.{total-append, term_le, terms_le}
use Rattle.std.specs.Prelude.{map}
use Rattle.pd_types.specs.declared.oracle.Batch.{Batch}
use Rattle.tso_model.specs.Words.{AreClaims, opening_claim}
use Rattle.tso_model.specs.Moves.{spent_view}
use Rattle.tso_model.specs.Sound.{FitsA, PartA, PartB, drivers_of, clients_of, in_range, Own, Sound}
use Rattle.tso_model.proofs.Basics.{by_eq, by_bool, in_head, in_tail, in_cons, in_nil, past_lower, there, weight_le}
use Rattle.tso_model.proofs.Sums.{total-only}
use Rattle.tso_model.proofs.Growth.{in_range_one}
use Rattle.tso_model.proofs.Moves.{own_zero, same_c}
use Rattle.tso_model.specs.Ledger.{drawn_by, HasAll, Gathered, GathersEach}
use Rattle.tso_model.proofs.Ledgers.{window_list, draw_list}

empty_by : {A : Type 0} (by : A → ℕ) (xs : List A) → ((d : ℕ) → (let n : ℕ = total (λ e. cond (eqb (by e) d) 1 0) xs in n) ≡ 0) → xs ≡ []
empty_by by [] h = refl
empty_by by (x ∷ xs) h = absurd (let one : 1 ≤ cond (eqb (by x) (by x)) 1 0 = by_eq (λ b. 1 ≤ cond b 1 0) (by x) (by x) (λ _. omega arith) (λ ne. absurd (ne refl)) in omega (arith, one, h (by x)))

-- a list of views in which one alone has entries
alone : {A : Type 0} (k : Setup) (words : List ℕ) (views : List View) (h : History) (id : ℕ) (v : View) (field : View → List A) (by : A → ℕ) (numbers : View → List ℕ) → PartA k words views h → get_elem? views id ≡ some v
    → field spent_view ≡ [] → ((u : View) → FitsA k h u → Own (numbers u) by (field u))
    → ((j : ℕ) (u : View) → j ≢ id → get_elem? views j ≡ some u → (x : ℕ) → 0 < x → times x (numbers u) ≡ 0)
    → (f : A → ℕ) → total (λ u. total f (field u)) views ≡ total f (field v)
alone k words views h id v field by numbers s at none own apart f = total-only (λ u. total f (field u)) views id v at (λ j u ne there. ap (total f) (bare j u ne there))
  where
    bare : (j : ℕ) (u : View) → j ≢ id → get_elem? views j ≡ some u → field u ≡ []
    bare j u ne there = by_bool (λ b. u.spent ≡ b → field u ≡ []) u.spent (λ _ e. ap field (s.gone j u there e) ∙ none) (λ _ e. empty_by by (field u) (λ d. own u (s.each j u there e) d (λ pos. apart j u ne there d pos))) refl

above_range : (n d : ℕ) → n < d → in_range n d ≡ 0
above_range n d lt = ap (λ b. cond b 1 0) (and_right (nat_lt 0 d) (nat_le d n) (lt-leb d n lt))

driver_none : (k : Setup) (words : List ℕ) (views : List View) (h : History) (id : ℕ) (v : View) → PartA k words views h → get_elem? views id ≡ some v → HasAll k v
    → (j : ℕ) (u : View) → j ≢ id → get_elem? views j ≡ some u → (x : ℕ) → 0 < x → times x (u.driver ∷ u.took_drivers) ≡ 0
driver_none k words views h id v s at all j u ne there x pos =
    let g : ℕ → ℕ = λ y. cond (eqb y x) 1 0 in
    let mine = term_le (λ y. times x (drivers_of y)) views j u there in
    dite (dec_le x k.drivers)
    (λ le. omega (arith, terms_le (λ y. times x (drivers_of y)) views id j v u ne at there, s.drivers_once x pos, in_range_one k.drivers x, all.drivers x pos le, total-append g v.give_drivers v.took_drivers, total-append g u.give_drivers u.took_drivers))
    (λ gt. omega (arith, mine, s.drivers_once x pos, above_range k.drivers x (omega (arith, gt)), total-append g u.give_drivers u.took_drivers))

client_none : (k : Setup) (words : List ℕ) (views : List View) (h : History) (id : ℕ) (v : View) → PartA k words views h → get_elem? views id ≡ some v → HasAll k v
    → (j : ℕ) (u : View) → j ≢ id → get_elem? views j ≡ some u → (x : ℕ) → 0 < x → times x (u.client ∷ u.took_clients) ≡ 0
client_none k words views h id v s at all j u ne there x pos =
    let g : ℕ → ℕ = λ y. cond (eqb y x) 1 0 in
    let mine = term_le (λ y. times x (clients_of y)) views j u there in
    dite (dec_le x k.clients)
    (λ le. omega (arith, terms_le (λ y. times x (clients_of y)) views id j v u ne at there, s.clients_once x pos, in_range_one k.clients x, all.clients x pos le, total-append g v.give_clients v.took_clients, total-append g u.give_clients u.took_clients))
    (λ gt. omega (arith, mine, s.clients_once x pos, above_range k.clients x (omega (arith, gt)), total-append g u.give_clients u.took_clients))

-- SUMS BY TERM
pub reverse_total : {A : Type 0} (f : A → ℕ) (xs : List A) → total f (reverse xs) ≡ total f xs
reverse_total f [] = refl
reverse_total f (x ∷ xs) = omega (arith, ap (total f) (reverse-append (x ∷ []) xs), total-append f (reverse xs) (x ∷ []), reverse_total f xs)

map_total : (f : Batch → ℕ) (gs : List Grant) → total f (map (λ (g : Grant). g.batch) gs) ≡ total (λ (g : Grant). f g.batch) gs
map_total f [] = refl
map_total f (g ∷ gs) = omega (arith, map_total f gs)

drawn_total : (d : ℕ → List Grant) (f : Batch → ℕ) (cs : List Claim) → total f (drawn_by d cs) ≡ total (λ (c : Claim). total (λ (g : Grant). f g.batch) (d c.window.term)) cs
drawn_total d f [] = refl
drawn_total d f (c ∷ cs) = omega (arith, total-append f (drawn_by d cs) (reverse (map (λ (g : Grant). g.batch) (d c.window.term))), drawn_total d f cs, reverse_total f (map (λ (g : Grant). g.batch) (d c.window.term)), map_total f (d c.window.term))

total-plus : {A : Type 0} (f g : A → ℕ) (xs : List A) → total (λ x. f x + g x) xs ≡ total f xs + total g xs
total-plus f g [] = refl
total-plus f g (x ∷ xs) = omega (arith, total-plus f g xs)

total-same : {A : Type 0} (f g : A → ℕ) (xs : List A) → ((x : A) → f x ≡ g x) → total f xs ≡ total g xs
total-same f g [] h = refl
total-same f g (x ∷ xs) h = omega (arith, h x, total-same f g xs h)

total-zero : {A : Type 0} (xs : List A) → (let n : ℕ = total (λ (x : A). 0) xs in n) ≡ 0
total-zero [] = refl
total-zero (x ∷ xs) = omega (arith, total-zero xs)

no_term : (t n : ℕ) (cs : List Claim) → ((e : Claim) → Contains cs e → e.window.term ≢ t) → (let m : ℕ = total (λ (c : Claim). cond (eqb t c.window.term) n 0) cs in m) ≡ 0
no_term t n [] h = refl
no_term t n (c ∷ cs) h = by_eq (λ b. (let m : ℕ = cond b n 0 + total (λ (c : Claim). cond (eqb t c.window.term) n 0) cs in m) ≡ 0) t c.window.term (λ e. absurd (h c (in_head c cs) (sym e))) (λ _. omega (arith, no_term t n cs (λ e z. h e (in_tail c cs e z))))

one_term : (first c : Claim) (past : List Claim) (t n : ℕ) → AreClaims first c past → (e : Claim) → Contains (c ∷ past) e → e.window.term ≡ t → (let m : ℕ = total (λ (c : Claim). cond (eqb t c.window.term) n 0) (c ∷ past) in m) ≡ n
one_term first c [] t n chain e h is = ⊎_elim (λ (s : c ≡ e). by_eq (λ b. cond b n 0 + 0 ≡ n) t c.window.term (λ _. omega arith) (λ ne. absurd (ne (sym (ap (λ (x : Claim). x.window.term) s ∙ is))))) (λ (z : Contains [] e). in_nil e z) (in_cons c [] e h)
one_term first c (x ∷ xs) t n chain e h is = by_eq (λ b. (let m : ℕ = cond b n 0 + total (λ (c : Claim). cond (eqb t c.window.term) n 0) (x ∷ xs) in m) ≡ n) t c.window.term
    (λ same. omega (arith, no_term t n (x ∷ xs) (λ y z q. absurd (omega (arith, q, same, past_lower first c (x ∷ xs) chain y z)))))
    (λ ne. ⊎_elim (λ (s : c ≡ e). absurd (ne (sym (ap (λ (x : Claim). x.window.term) s ∙ is)))) (λ (z : Contains (x ∷ xs) e). omega (arith, one_term first x xs t n chain.1 e z is)) (in_cons c (x ∷ xs) e h))

-- a window of this term, or none
find_term : (t : ℕ) (cs : List Claim) → ((c : Claim) × Contains cs c × (c.window.term ≡ t)) ⊎ ((c : Claim) → Contains cs c → c.window.term ≢ t)
find_term t [] = inr (λ c h. in_nil c h)
find_term t (x ∷ xs) = dite (ℕ_discrete x.window.term t)
    (λ e. inl (x, in_head x xs, e))
    (λ ne. ⊎_elim
    (λ (f : (c : Claim) × Contains xs c × (c.window.term ≡ t)). inl (f.0, in_tail x xs f.0 f.1, f.2))
    (λ (none : (c : Claim) → Contains xs c → c.window.term ≢ t). inr (λ c h. ⊎_elim (λ (s : x ≡ c). λ q. ne (ap (λ (y : Claim). y.window.term) s ∙ q)) (λ (z : Contains xs c). none c z) (in_cons x xs c h)))
    (find_term t xs))

by_terms : (first c : Claim) (past : List Claim) (f : Grant → ℕ) (gs : List Grant) → AreClaims first c past → ((g : Grant) → Contains gs g → (e : Claim) × Contains (c ∷ past) e × (e.window.term ≡ g.batch.term))
    → total (λ (e : Claim). total (of_term e.window.term f) gs) (c ∷ past) ≡ total f gs
by_terms first c past f [] chain each = total-zero (c ∷ past)
by_terms first c past f (g ∷ gs) chain each =
    let has = each g (in_head g gs) in
    omega (arith, total-plus (λ (e : Claim). of_term e.window.term f g) (λ (e : Claim). total (of_term e.window.term f) gs) (c ∷ past), one_term first c past g.batch.term (f g) chain has.0 has.1 has.2, by_terms first c past f gs chain (λ x z. each x (in_tail g gs x z)))

-- CLOSING
pub gathers_parts : (k : Setup) (words : List ℕ) (views : List View) (h : History) (id : ℕ) (v : View) → get_elem? views id ≡ some v → HasAll k v → GathersEach k words views h v
gathers_parts k words views h id v at all = record {
  a = λ s. record {
    windows = window_list (opening_claim k.cell) h.newest h.past s.chain;
    claims = λ f. omega (arith, s.matches.claims f, ours s claims (λ (c : Claim). c.window.driver) (λ u. u.driver ∷ u.took_drivers) refl (λ u m. m.claims_own) (drivers s) f, reverse_total f (h.newest ∷ h.past));
    starts = λ f. sym (ours s (λ u. u.starts) (λ (x : Start). x.driver) (λ u. u.driver ∷ u.took_drivers) refl (λ u m. m.starts_own) (drivers s) f) ∙ s.matches.starts f;
    founds = λ f. sym (ours s (λ u. u.founds) (λ (x : Found). x.driver) (λ u. u.driver ∷ u.took_drivers) refl (λ u m. m.founds_own) (drivers s) f) ∙ s.matches.founds f;
    published = λ f. sym (ours s (λ u. u.published) (λ (x : Published). x.driver) (λ u. u.driver ∷ u.took_drivers) refl (λ u m. m.published_own) (drivers s) f) ∙ s.matches.published f;
    looks = λ f. sym (ours s (λ u. u.looks) (λ (x : Look). x.client) (λ u. u.client ∷ u.took_clients) refl (λ u m. m.looks_own) (clients s) f) ∙ s.matches.looks f;
    refusals = λ f. sym (ours s (λ u. u.refusals) (λ (x : Refusal). x.client) (λ u. u.client ∷ u.took_clients) refl (λ u m. m.refusals_own) (clients s) f) ∙ s.matches.refusals f;
    added = λ f. sym (ours s (λ u. u.added) (λ (x : Added). x.client) (λ u. u.client ∷ u.took_clients) refl (λ u m. m.added_own) (clients s) f) ∙ s.matches.added f;
    cell = s.cell;
    known = let mine = s.each id v at (live s) in (mine.term.1, mine.saved);
    named = s.published;
  };
  b = λ s b. record {
    draws = draw_list k words views h s b;
    batches = λ f. let F : Grant → ℕ = λ g. f g.batch in
        sym (by_terms (opening_claim k.cell) h.newest h.past F v.grants s.chain (λ g z. has_window s b g z))
        ∙ total-same (λ (e : Claim). total (of_term e.window.term F) v.grants) (λ (e : Claim). total F (h.drawn e.window.term)) (h.newest ∷ h.past) (λ e. sym (grants s (of_term e.window.term F)) ∙ s.matches.grants e.window.term F)
        ∙ sym (drawn_total h.drawn f (h.newest ∷ h.past));
  };
  c = same_c k words views [] h;
}
  where
    live : PartA k words views h → v.spent ≡ false
    live s = by_bool (λ b. v.spent ≡ b → v.spent ≡ false) v.spent (λ _ e. let gone = s.gone id v at e in
        absurd (omega (arith, all.drivers 1 (omega arith) s.setup.drivers.0, ap (λ (y : View). times 1 (y.driver ∷ y.took_drivers)) gone, own_zero 1 (omega arith)))) (λ _ e. e) refl

    ours : {A : Type 0} → PartA k words views h → (field : View → List A) (by : A → ℕ) (numbers : View → List ℕ) → field spent_view ≡ [] → ((u : View) → FitsA k h u → Own (numbers u) by (field u))
        → ((j : ℕ) (u : View) → j ≢ id → get_elem? views j ≡ some u → (x : ℕ) → 0 < x → times x (numbers u) ≡ 0) → (f : A → ℕ) → total (λ u. total f (field u)) views ≡ total f (field v)
    ours s field by numbers none own apart f = alone k words views h id v field by numbers s at none own apart f

    drivers : PartA k words views h → (j : ℕ) (u : View) → j ≢ id → get_elem? views j ≡ some u → (x : ℕ) → 0 < x → times x (u.driver ∷ u.took_drivers) ≡ 0
    drivers s = driver_none k words views h id v s at all

    clients : PartA k words views h → (j : ℕ) (u : View) → j ≢ id → get_elem? views j ≡ some u → (x : ℕ) → 0 < x → times x (u.client ∷ u.took_clients) ≡ 0
    clients s = client_none k words views h id v s at all

    grants : PartA k words views h → (f : Grant → ℕ) → total (λ u. total f u.grants) views ≡ total f v.grants
    grants s f = ours s (λ u. u.grants) (λ (x : Grant). x.client) (λ u. u.client ∷ u.took_clients) refl (λ u m. m.grants_own) (clients s) f

    has_window : PartA k words views h → PartB k words views h → (g : Grant) → Contains v.grants g → (e : Claim) × Contains (h.newest ∷ h.past) e × (e.window.term ≡ g.batch.term)
    has_window s b g z = ⊎_elim (λ (f : (c : Claim) × Contains (h.newest ∷ h.past) c × (c.window.term ≡ g.batch.term)). f)
        (λ (none : (c : Claim) → Contains (h.newest ∷ h.past) c → c.window.term ≢ g.batch.term).
        let one : Grant → ℕ = λ _. 1 in
        let weight = weight_le (of_term g.batch.term one) v.grants g z in
        let it : 1 ≤ of_term g.batch.term one g = by_eq (λ t. 1 ≤ cond t 1 0) g.batch.term g.batch.term (λ _. omega arith) (λ ne. absurd (ne refl)) in
        absurd (omega (arith, weight, it, grants s (of_term g.batch.term one), s.matches.grants g.batch.term one, ap (total one) (b.none_else g.batch.term none))))
        (find_term g.batch.term (h.newest ∷ h.past))

pub gathers : (k : Setup) (words : List ℕ) (views : List View) (id : ℕ) (v : View) → Sound k words views → get_elem? views id ≡ some v → HasAll k v → Gathered k v
gathers k words views id v s at all = let p = gathers_parts k words views s.history id v at all in record { words = words; history = s.history; a = p.a s.a; b = p.b s.a s.b; c = p.c s.c }
