-- A join keeps the rule.
use Rattle.std.proofs.Common.{◌≡◌, ◌≢◌, ℕ, ◌+◌, ◌<◌, ◌≤◌, ◌⊎◌, eqb, cond, Bool, true, false, List, [], ◌∷◌, ◌++◌, set, sym, refl, ap, ◌∙◌, subst, ⊎_elim, arith, max}
use Rattle.std.specs.Prelude.{Option, Some, option_to_list, All}
use mathlib.Core.Option.{some}
use lib.ListN.{get_elem?}
use Rattle.tso_model.proofs.ListAt.{at_set}
use Rattle.pd_types.specs.declared.oracle.Window.{Window}
use Rattle.pd_types.specs.declared.oracle.Seen.{Seen}
use Rattle.tso_model.specs.declared.entries.Claim.{Claim}
use Rattle.tso_model.specs.declared.view.View.{View}
use Rattle.tso_model.specs.declared.entries.Start.{Start}
use Rattle.tso_model.specs.declared.entries.Found.{Found}
use Rattle.tso_model.specs.declared.entries.Look.{Look}
use Rattle.tso_model.specs.declared.entries.Refusal.{Refusal}
use Rattle.tso_model.specs.declared.entries.Grant.{Grant}
use Rattle.tso_model.specs.declared.entries.Published.{Published}
use Rattle.tso_model.specs.declared.entries.Added.{Added}
use Rattle.tso_model.specs.declared.view.Setup.{Setup}
use Rattle.tso_model.specs.Lists.{total, times}
use Rattle.tso_model.specs.History.{History, claims, of_term, greatest, added_by}
use Rattle.tso_model.proofs.Sums.{total-append, total-set, terms_le}
use Rattle.std.proofs.lemmas.List.Elements.{All-nil, All-cons, All-append, All-weaker}
use Rattle.pd_types.specs.declared.oracle.Batch.{Batch}
use Rattle.tso_model.specs.Steps.{AtRest}
use Rattle.tso_model.specs.Moves.{spent_view, nothing_seen}
use Rattle.tso_model.specs.Sound.{FitsA, PartA, drivers_of, clients_of, Own, FitsB, PartB, IsSeen, armed_at, KeepsEach}
use Rattle.tso_model.proofs.Basics.{by_eq, by_bool, at_some, if_some, there, greatest_none}
use Rattle.tso_model.proofs.CellA.{no_some}
use Rattle.tso_model.proofs.DrawB.{none_armed}
use Rattle.std.specs.Prelude.{nat_lt}
use Rattle.tso_model.proofs.ListAt.{set_else}
use Rattle.tso_model.specs.Moves.{greater, joined}
use Rattle.tso_model.proofs.Growth.{in_range_one, own_counts}
use Rattle.tso_model.specs.Moves.{upper}
use Rattle.tso_model.proofs.Moves.{own_zero, same_c, moved}
use Rattle.tso_model.specs.Ledger.{Recorded}

greatest_more : (d : ℕ) (xs ys : List Start) → greatest d ys ≡ 0 → greatest d (xs ++ ys) ≡ greatest d xs
greatest_more d [] ys none = none
greatest_more d (x ∷ xs) ys none = ap (λ (m : ℕ). cond (eqb x.driver d) (max x.at m) m) (greatest_more d xs ys none)

pub none_with : (d : ℕ) (xs : List Claim) → total (λ (c : Claim). cond (eqb c.window.driver d) 1 0) xs ≡ 0 → All (λ (x : Claim). x.window.driver ≢ d) xs
none_with d [] h = All-nil (λ (x : Claim). x.window.driver ≢ d)
none_with d (x ∷ xs) h = by_eq (λ b. (let n : ℕ = cond b 1 0 + total (λ (c : Claim). cond (eqb c.window.driver d) 1 0) xs in n) ≡ 0 → All (λ (y : Claim). y.window.driver ≢ d) (x ∷ xs)) x.window.driver d
    (λ _ e. absurd (omega (arith, e)))
    (λ ne e. All-cons (λ (y : Claim). y.window.driver ≢ d) x xs ne (none_with d xs (omega (arith, e)))) h

added_none : (c d : ℕ) (xs : List Added) → total (λ (a : Added). cond (eqb a.client c) 1 0) xs ≡ 0 → added_by c d xs ≡ 0
added_none c d [] h = refl
added_none c d (x ∷ xs) h = by_eq (λ b. (let n : ℕ = cond b 1 0 + total (λ (a : Added). cond (eqb a.client c) 1 0) xs in n) ≡ 0 → (let n : ℕ = cond (eqb x.driver d) (cond b x.count 0) 0 + added_by c d xs in n) ≡ 0) x.client c
    (λ _ e. absurd (omega (arith, e)))
    (λ _ e. by_bool (λ b. (let n : ℕ = cond b 0 0 + added_by c d xs in n) ≡ 0) (eqb x.driver d) (λ _. omega (arith, added_none c d xs (omega (arith, e)))) (λ _. omega (arith, added_none c d xs (omega (arith, e))))) h

taken : (a b : ℕ) (ta tb : List ℕ) (d : ℕ) → times d (a ∷ ta ++ b ∷ tb) ≡ times d (a ∷ ta) + times d (b ∷ tb)
taken a b ta tb d = omega (arith, total-append (λ x. cond (eqb x d) 1 0) ta (b ∷ tb))

own_join : {A : Type 0} (a b : ℕ) (ta tb : List ℕ) (by : A → ℕ) (xs ys : List A) → Own (a ∷ ta) by xs → Own (b ∷ tb) by ys → Own (a ∷ ta ++ b ∷ tb) by (xs ++ ys)
own_join a b ta tb by xs ys p q d none = omega (arith, total-append (λ e. cond (eqb (by e) d) 1 0) xs ys, p d (λ pos. omega (arith, none pos, taken a b ta tb d)), q d (λ pos. omega (arith, none pos, taken a b ta tb d)))

claims_joined : (v w : View) (f : Claim → ℕ) → total f (claims (joined v w)) ≡ total f (claims v) + total f (claims w)
claims_joined v w f = omega (arith, total-append f (claims w ++ v.older) (option_to_list v.latest), total-append f (claims w) v.older, total-append f v.older (option_to_list v.latest))

own_claims : (v w : View) → Own (v.driver ∷ v.took_drivers) (λ (c : Claim). c.window.driver) (claims v) → Own (w.driver ∷ w.took_drivers) (λ (c : Claim). c.window.driver) (claims w) → Own (v.driver ∷ v.took_drivers ++ w.driver ∷ w.took_drivers) (λ (c : Claim). c.window.driver) (claims (joined v w))
own_claims v w p q d none = omega (arith, claims_joined v w (λ c. cond (eqb c.window.driver d) 1 0), p d (λ pos. omega (arith, none pos, taken v.driver w.driver v.took_drivers w.took_drivers d)), q d (λ pos. omega (arith, none pos, taken v.driver w.driver v.took_drivers w.took_drivers d)))

numbered : (d a b : ℕ) (ga gb ta tb : List ℕ) → times d (a ∷ (ga ++ gb) ++ (ta ++ b ∷ tb)) ≡ times d (a ∷ ga ++ ta) + times d (b ∷ gb ++ tb)
numbered d a b ga gb ta tb = let g : ℕ → ℕ = λ x. cond (eqb x d) 1 0 in
    omega (arith, total-append g (ga ++ gb) (ta ++ b ∷ tb), total-append g ga gb, total-append g ta (b ∷ tb), total-append g ga ta, total-append g gb tb)

greater_is : (P : Seen → Type 0) (a b : Seen) → P a → P b → P (greater a b)
greater_is P a b p q = pick (nat_lt a.term b.term) (nat_lt b.term a.term) (nat_lt a.last b.last)
  where
    pick : (s t u : Bool) → P (cond s b (cond t a (cond u b a)))
    pick true t u = q
    pick false true u = p
    pick false false true = q
    pick false false false = p

claimed_driver : (k : Setup) (h : History) (v : View) (c : Claim) → FitsA k h v → v.latest ≡ Some c → 0 < c.window.driver
claimed_driver k h v c mine is =
    let f : Claim → ℕ = λ x. cond (eqb x.window.driver 0) 1 0 in
    by_eq (λ b. (let n : ℕ = cond b 1 0 in n) ≡ 0 → 0 < c.window.driver) c.window.driver 0 (λ _ e. absurd (omega (arith, e))) (λ ne _. omega (arith, ne))
    (omega (arith, mine.claims_own 0 (λ pos. absurd (omega (arith, pos))), total-append f v.older (option_to_list v.latest), ap (λ (o : Option Claim). total f (option_to_list o)) is))

joined_a : (k : Setup) (words : List ℕ) (views : List View) (h : History) (id other : ℕ) (v w : View) → PartA k words views h → get_elem? views id ≡ some v → get_elem? views other ≡ some w → other ≢ id → v.spent ≡ false → w.spent ≡ false → FitsA k h (joined v w)
joined_a k words views h id other v w s at was apart live live' =
    let mine = s.each id v at live in
    let theirs = s.each other w was live' in
    let foreign : 0 < v.driver → times v.driver (w.driver ∷ w.took_drivers) ≡ 0 = λ pos.
    omega (arith, s.drivers_once v.driver pos, in_range_one k.drivers v.driver, terms_le (λ x. times v.driver (drivers_of x)) views id other v w apart at was, own_counts v.driver v.driver (v.give_drivers ++ v.took_drivers) refl, total-append (λ x. cond (eqb x v.driver) 1 0) w.give_drivers w.took_drivers) in
    let foreign_c : 0 < v.client → times v.client (w.client ∷ w.took_clients) ≡ 0 = λ pos.
    omega (arith, s.clients_once v.client pos, in_range_one k.clients v.client, terms_le (λ x. times v.client (clients_of x)) views id other v w apart at was, own_counts v.client v.client (v.give_clients ++ v.took_clients) refl, total-append (λ x. cond (eqb x v.client) 1 0) w.give_clients w.took_clients) in
    let none : All (λ (x : Claim). x.window.driver ≢ v.driver) (claims w) = none_with v.driver (claims w) (theirs.claims_own v.driver foreign) in
    record {
      opening = mine.opening;
      term = by_eq (λ b. (k.cell.term ≤ (cond b (upper v.cell w.cell) v.cell).term) × ((cond b (upper v.cell w.cell) v.cell).term ≤ h.newest.window.term)) v.driver 0 (λ _. (omega (arith, mine.term.0), omega (arith, mine.term.1, theirs.term.1))) (λ _. mine.term);
      saved = by_eq (λ b. (cond b (upper v.cell w.cell) v.cell).saved ≤ h.newest.window.hi) v.driver 0 (λ _. omega (arith, mine.saved, theirs.saved)) (λ _. mine.saved);
      at_opening = by_eq (λ b. (cond b (upper v.cell w.cell) v.cell).term ≡ k.cell.term → (cond b (upper v.cell w.cell) v.cell).saved ≡ k.cell.saved) v.driver 0
          (λ _ e. omega (arith, mine.at_opening (omega (arith, e, mine.term.0, theirs.term.0)), theirs.at_opening (omega (arith, e, mine.term.0, theirs.term.0)))) (λ _. mine.at_opening);
      latest = if_some v.latest _ (λ c is. let old = at_some v.latest _ mine.latest c is in
          let pos : 0 < c.window.driver = claimed_driver k h v c mine is in
          by_eq (λ b. (c.window.driver ≡ v.driver) × (c.window.term ≤ (cond b (upper v.cell w.cell) v.cell).term) × (c.window.term ≡ (cond b (upper v.cell w.cell) v.cell).term → (cond b (upper v.cell w.cell) v.cell).saved ≡ c.window.hi) × All (λ (x : Claim). x.window.driver ≡ v.driver → x.window.term < c.window.term) (claims w ++ v.older)) v.driver 0
          (λ none_here. absurd (omega (arith, none_here, pos, old.0)))
          (λ _. (old.0, old.1, old.2, All-append (λ (x : Claim). x.window.driver ≡ v.driver → x.window.term < c.window.term) (claims w) v.older (All-weaker (λ (x : Claim). x.window.driver ≢ v.driver) (λ (x : Claim). x.window.driver ≡ v.driver → x.window.term < c.window.term) (λ x ne e. absurd (ne e)) (claims w) none) old.3)));
      idle = λ e. All-append (λ (x : Claim). x.window.driver ≢ v.driver) (claims w) v.older none (mine.idle e);
      own_start = λ pos. greatest_more v.driver v.starts w.starts (greatest_none v.driver w.starts (theirs.starts_own v.driver foreign)) ∙ mine.own_start pos;
      own_sum = λ pos d. omega (arith, total-append (λ (a : Added). cond (eqb a.driver d) (cond (eqb a.client v.client) a.count 0) 0) v.added w.added, added_none v.client d w.added (theirs.added_own v.client foreign_c), mine.own_sum pos d);
      holds = mine.holds;
      marked = mine.marked;
      aims = mine.aims;
      claims_own = own_claims v w mine.claims_own theirs.claims_own;
      starts_own = own_join v.driver w.driver v.took_drivers w.took_drivers (λ (x : Start). x.driver) v.starts w.starts mine.starts_own theirs.starts_own;
      founds_own = own_join v.driver w.driver v.took_drivers w.took_drivers (λ (x : Found). x.driver) v.founds w.founds mine.founds_own theirs.founds_own;
      published_own = own_join v.driver w.driver v.took_drivers w.took_drivers (λ (x : Published). x.driver) v.published w.published mine.published_own theirs.published_own;
      grants_own = own_join v.client w.client v.took_clients w.took_clients (λ (x : Grant). x.client) v.grants w.grants mine.grants_own theirs.grants_own;
      looks_own = own_join v.client w.client v.took_clients w.took_clients (λ (x : Look). x.client) v.looks w.looks mine.looks_own theirs.looks_own;
      refusals_own = own_join v.client w.client v.took_clients w.took_clients (λ (x : Refusal). x.client) v.refusals w.refusals mine.refusals_own theirs.refusals_own;
      added_own = own_join v.client w.client v.took_clients w.took_clients (λ (x : Added). x.client) v.added w.added mine.added_own theirs.added_own;
    }

-- JOIN, into a view at rest: a driver's, a client's or the base's
pub join_parts : (k : Setup) (words : List ℕ) (views : List View) (h : History) (id other : ℕ) (v w : View) → v.spent ≡ false → w.spent ≡ false → AtRest v → get_elem? views id ≡ some v → other ≢ id → get_elem? (set views id (joined v w)) other ≡ some w
    → KeepsEach k words views h words (set (set views id (joined v w)) other spent_view) h
join_parts k words views h id other v w live live' rest at apart there = record {
  a = λ a. record {
    setup = a.setup;
    wide = a.wide;
    matches = record {
      claims = λ f. omega (arith, two (λ u. total f (claims u)), a.matches.claims f, claims_joined v w f);
      grants = λ t f. omega (arith, two (λ u. total (of_term t f) u.grants), a.matches.grants t f, total-append (of_term t f) v.grants w.grants);
      starts = λ f. omega (arith, two (λ u. total f u.starts), a.matches.starts f, total-append f v.starts w.starts);
      founds = λ f. omega (arith, two (λ u. total f u.founds), a.matches.founds f, total-append f v.founds w.founds);
      published = λ f. omega (arith, two (λ u. total f u.published), a.matches.published f, total-append f v.published w.published);
      looks = λ f. omega (arith, two (λ u. total f u.looks), a.matches.looks f, total-append f v.looks w.looks);
      refusals = λ f. omega (arith, two (λ u. total f u.refusals), a.matches.refusals f, total-append f v.refusals w.refusals);
      added = λ f. omega (arith, two (λ u. total f u.added), a.matches.added f, total-append f v.added w.added);
    };
    chain = a.chain;
    cell = a.cell;
    in_time = a.in_time;
    in_terms = a.in_terms;
    makers = a.makers;
    drivers_once = λ e pos. omega (arith, two (λ u. times e (drivers_of u)), a.drivers_once e pos, numbered e v.driver w.driver v.give_drivers w.give_drivers v.took_drivers w.took_drivers, own_zero e pos);
    clients_once = λ e pos. omega (arith, two (λ u. times e (clients_of u)), a.clients_once e pos, numbered e v.client w.client v.give_clients w.give_clients v.took_clients w.took_clients, own_zero e pos);
    each = λ j u e l. cases j u e (λ (x : View). x.spent ≡ false → FitsA k h x) (λ z. absurd (cc z)) (λ _. joined_a k words views h id other v w a at was apart live live') (λ found z. a.each j u found z) l;
    gone = λ j u e l. cases j u e (λ (x : View). x.spent ≡ true → x ≡ spent_view) (λ _. refl) (λ z. absurd (cc (z, live))) (λ found z. a.gone j u found z) l;
    published = a.published;
    limits = a.limits;
  };
  b = λ _ b. record {
    inside = b.inside;
    falls = b.falls;
    none_else = b.none_else;
    quotas = omega (arith, two (λ u. u.quota), b.quotas);
    cursors = λ d pos le. omega (arith, two (armed_at d), none_armed d spent_view refl, (let same : armed_at d (joined v w) ≡ armed_at d v = refl in same), b.cursors d pos le);
    raised = b.raised;
    each = λ j u e l. cases j u e (λ (x : View). x.spent ≡ false → FitsB words h x) (λ z. absurd (cc z)) (λ _. both_b b) (λ found z. b.each j u found z) l;
  };
  c = λ _ _ c. same_c k words views (set (set views id (joined v w)) other spent_view) h c;
}
  where
    was : get_elem? views other ≡ some w
    was = sym (set_else views id other (joined v w) apart) ∙ there

    two : (f : View → ℕ) → total f (set (set views id (joined v w)) other spent_view) + (f v + f w) ≡ total f views + (f (joined v w) + f spent_view)
    two f = omega (arith, total-set f (set views id (joined v w)) other w spent_view there, total-set f views id v (joined v w) at)

    both_b : PartB k words views h → FitsB words h (joined v w)
    both_b b = let mine = b.each id v at live in record {
      seen = greater_is (λ (x : Seen). (x ≡ nothing_seen) ⊎ IsSeen words h x) v.seen w.seen mine.seen (b.each other w was live').seen;
      hand_is = if_some v.hand _ (λ l is. no_some l (sym is ∙ rest.0));
      armed = (omega (arith, rest.1), λ pos. absurd (omega (arith, pos, rest.1)));
    }

    cases : (j : ℕ) (u : View) → get_elem? (set (set views id (joined v w)) other spent_view) j ≡ some u → (F : View → Type 0) → F spent_view → F (joined v w) → (get_elem? views j ≡ some u → F u) → F u
    cases j u e F gone both found = ⊎_elim
        (λ (x : (j ≡ other) × (spent_view ≡ u)). subst F x.1 gone)
        (λ (x : (j ≢ other) × (get_elem? (set views id (joined v w)) j ≡ some u)).
        ⊎_elim (λ (y : (j ≡ id) × (joined v w ≡ u)). subst F y.1 both) (λ (y : (j ≢ id) × (get_elem? views j ≡ some u)). found y.1) (at_set views id j (joined v w) u x.1))
        (at_set (set views id (joined v w)) other j spent_view u e)

pub joins : (k : Setup) (words : List ℕ) (views : List View) (id other : ℕ) (v w : View) (ws : List Window) (bs : List Batch) → Recorded k words views ws bs → v.spent ≡ false → w.spent ≡ false → AtRest v → get_elem? views id ≡ some v → other ≢ id → get_elem? (set views id (joined v w)) other ≡ some w
    → Recorded k words (set (set views id (joined v w)) other spent_view) ws bs
joins k words views id other v w ws bs s live live' rest at apart there = moved k words views (set (set views id (joined v w)) other spent_view) ws bs s (join_parts k words views s.history id other v w live live' rest at apart there)
