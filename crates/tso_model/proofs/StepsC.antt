-- Part C: what found cursors, refusals and looks tell.
use Rattle.std.proofs.Common.{◌≡◌, ◌≢◌, ℕ, ◌+◌, ◌<◌, ◌≤◌, eqb, cond, true, List, [], ◌∷◌, ◌++◌, sym, refl, ap, ◌∙◌, subst, inl, inr, ⊎_elim, arith, max}
use Rattle.std.specs.Prelude.{All, Contains, slice_index, slice_set}
use mathlib.Core.Logic.{dite}
use mathlib.Core.Option.{some}
use native.Mathlib.Decide.{ℕ_discrete}
use lib.ListN.{get_elem?}
use Rattle.pd_types.specs.declared.oracle.Seen.{Seen}
use Rattle.tso_model.specs.declared.entries.Claim.{Claim}
use Rattle.tso_model.specs.declared.view.View.{View}
use Rattle.tso_model.specs.declared.entries.Start.{Start}
use Rattle.tso_model.specs.declared.entries.Found.{Found}
use Rattle.tso_model.specs.declared.entries.Look.{Look}
use Rattle.tso_model.specs.declared.entries.Refusal.{Refusal}
use Rattle.tso_model.specs.declared.entries.Published.{Published}
use Rattle.tso_model.specs.declared.entries.Added.{Added}
use Rattle.tso_model.specs.declared.view.Setup.{Setup}
use Rattle.tso_model.specs.History.{History, Stands, Extends, greatest, added_at, added_else}
use Rattle.tso_model.proofs.Sums.{total-append}
use Rattle.std.proofs.lemmas.List.Elements.{All-push, All-weaker, Contains-push, Contains-push_cases, Contains-append_left}
use Rattle.std.proofs.lemmas.List.{set-get_or}
use Rattle.tso_model.specs.Words.{packed, passes, opening_claim, limit_at, cursor_at}
use Rattle.tso_model.specs.declared.step.WordStep.TheVariants.{RaiseCursor, LoadLimit, AddArmed}
use Rattle.tso_model.specs.Steps.{May, hand, HasHand, saved_claim}
use Rattle.tso_model.specs.Moves.{nothing_seen}
use Rattle.tso_model.specs.Sound.{PartA, IsSeen, PartB, PartC, Bounded, Looked}
use Rattle.tso_model.proofs.Basics.{by_eq, by_bool, chain_le, one_each, later_term, greatest_stands, added_parts}
use Rattle.tso_model.proofs.Growth.{same_windows, longer, another, own_number, live_driver, live_client, Later}
use Rattle.tso_model.proofs.CellA.{cell_else, itself, with_claim, saved_extends, with_newest}
use Rattle.tso_model.proofs.FrameB.{cell_cursor, limit_cursor}
use Rattle.tso_model.proofs.DrawB.{in_hand, hand_driver, cursor_here, cursor_else, cursor_limit, with_added, with_refusal, with_grant, grown_here, grown_else, grown_le, with_start}
use Rattle.tso_model.proofs.OtherA.{the_look, with_look, the_refusal, the_added, told, the_start, the_found, limit_here, limit_else}

-- g has all starts of h, and no smaller sum
pub record More (h g : History) : Type 0 where
  pub later : Later h g
  pub starts : (s : Start) → Contains h.starts s → Contains g.starts s
  pub sums : (d : ℕ) → added_at d h.added ≤ added_at d g.added
  pub sums_else : (c d : ℕ) → added_else c d h.added ≤ added_else c d g.added

pub bounded_later : (h g : History) (r : Refusal) → More h g → Bounded h r → Bounded g r
bounded_later h g r m b =
    let e = m.later.claims b.claim b.stands in record {
      claim = e.0;
      stands = e.1;
      driver_is = e.2.driver ∙ b.driver_is;
      open_is = omega (arith, b.open_is, e.2.lo b.open_is, e.2.hi);
      told = subst (λ (t : ℕ). Contains g.published (record { driver = r.driver; word = packed r.hi t })) (sym e.2.term) (m.later.published _ b.told);
      start = b.start;
      begins = omega (arith, b.begins, e.2.lo b.open_is);
      made = ⊎_elim (λ (z : b.start ≡ 0). inl z) (λ (c : Contains h.starts (record { driver = r.driver; at = b.start })). inr (m.starts _ c)) b.made;
      low = b.low;
      high = omega (arith, b.high, m.sums_else r.client r.driver);
    }

pub looked_later : (h g : History) (l : Look) → Later h g → Looked h l → Looked g l
looked_later h g l m b = record {
  driver = b.driver;
  term = omega (arith, b.term, m.term);
  none = λ z e stands term driver. ⊎_elim
      (λ (x : (c : Claim) × Stands h c × Extends c e). m.published _ (b.none z x.0 x.1 (sym x.2.term ∙ term) (sym x.2.driver ∙ driver)))
      (λ (above : h.newest.window.term < e.window.term). absurd (omega (arith, above, term, b.term)))
      (m.back e stands);
  some = λ nz. m.published _ (b.some nz);
}

pub refusals_later : (h g : History) → More h g → All (λ (r : Refusal). (passes r.at r.hi r.count ≡ true) × Bounded h r) h.refusals → All (λ (r : Refusal). (passes r.at r.hi r.count ≡ true) × Bounded g r) h.refusals
refusals_later h g m old = All-weaker (λ (r : Refusal). (passes r.at r.hi r.count ≡ true) × Bounded h r) (λ (r : Refusal). (passes r.at r.hi r.count ≡ true) × Bounded g r) (λ r b. (b.0, bounded_later h g r m b.1)) h.refusals old

pub looks_later : (h g : History) → Later h g → All (Looked h) h.looks → All (Looked g) h.looks
looks_later h g m old = All-weaker (Looked h) (Looked g) (λ l b. looked_later h g l m b) h.looks old

pub founds_later : (h g : History) → More h g → All (λ (f : Found). (f.start ≤ f.cursor) × (f.cursor ≤ f.start + added_at f.driver h.added)) h.founds → All (λ (f : Found). (f.start ≤ f.cursor) × (f.cursor ≤ f.start + added_at f.driver g.added)) h.founds
founds_later h g m old = All-weaker (λ (f : Found). (f.start ≤ f.cursor) × (f.cursor ≤ f.start + added_at f.driver h.added)) (λ (f : Found). (f.start ≤ f.cursor) × (f.cursor ≤ f.start + added_at f.driver g.added)) (λ f b. (b.0, omega (arith, b.1, m.sums f.driver))) h.founds old

-- a load of the cell, a campaign, a save
abbrev pub with_windows : History → Claim → List Claim → History
with_windows h c past = record h { newest = c; past = past }

pub cell_c : (k : Setup) (words : List ℕ) (views others : List View) (h : History) (x : ℕ) (c : Claim) (past : List Claim) → PartC k words views h → Later h (with_windows h c past) → PartC k (slice_set words 0 x) others (with_windows h c past)
cell_c k words views others h x c past s later =
    let g = with_windows h c past in
    let more : More h g = record { later = later; starts = λ q m. m; sums = λ d. omega arith; sums_else = λ c d. omega arith } in record {
      grown = λ d pos le. omega (arith, cell_cursor words x d pos, s.grown d pos le);
      counted = λ d pos le. omega (arith, cell_cursor words x d pos, s.counted d pos le);
      founds = s.founds;
      refusals = refusals_later h g more s.refusals;
      silent = λ d pos le zero_word told_one. s.silent d pos le (sym (cell_else words x d pos) ∙ zero_word) told_one;
      looks = looks_later h g later s.looks;
    }

pub loads_c : (k : Setup) (words : List ℕ) (views others : List View) (h : History) (x : ℕ) → PartC k words views h → PartC k (slice_set words 0 x) others h
loads_c k words views others h x s = cell_c k words views others h x h.newest h.past s (itself h)

pub won_c : (k : Setup) (words : List ℕ) (views others : List View) (h : History) (x : ℕ) (c : Claim) → PartC k words views h → h.newest.window.term < c.window.term → h.newest.window.hi ≤ c.window.hi → PartC k (slice_set words 0 x) others (with_claim h c)
won_c k words views others h x c s above hi = cell_c k words views others h x c (h.newest ∷ h.past) s (another h c above hi)

pub kept_c : (k : Setup) (words : List ℕ) (views others : List View) (h : History) (x hi : ℕ) → PartC k words views h → h.newest.window.hi < hi → PartC k (slice_set words 0 x) others (with_newest h (saved_claim hi h.newest))
kept_c k words views others h x hi s above = cell_c k words views others h x (saved_claim hi h.newest) h.past s (longer h (saved_claim hi h.newest) (saved_extends hi h.newest above))

-- a raise of a cursor
pub raised_c : (k : Setup) (words : List ℕ) (views others : List View) (h : History) (id at : ℕ) (v : View) → PartA k words views h → PartB k words views h → PartC k words views h → get_elem? views id ≡ some v → May k (RaiseCursor at) v
    → PartC k (slice_set words (cursor_at v.driver) (max (slice_index words (cursor_at v.driver)) at)) others (with_start h v at (slice_index words (cursor_at v.driver)))
raised_c k words views others h id at v a b s here may =
    let le = own_number k words views h id v a here may.0 in
    let mine = a.each id v here (live_driver k words views h id v a here may.0) in
    let n = slice_index words (cursor_at v.driver) in
    let x = max n at in
    let g = with_start h v at n in
    let later = same_windows h g refl refl (λ d. grown_le d v.driver at h.starts) (λ p q. q) in
    let more : More h g = record { later = later; starts = λ q m. by_bool (λ t. Contains (cond t h.starts (h.starts ++ the_start v at ∷ [])) q) (eqb at 0) (λ _. m) (λ _. Contains-append_left h.starts (the_start v at ∷ []) q m); sums = λ d. omega arith; sums_else = λ c d. omega arith } in record {
      grown = λ d pos le'. dite (ℕ_discrete d v.driver)
          (λ same. omega (arith, cursor_here k words views h x d v.driver a may.0 le same, ap (λ (m : ℕ). slice_index words (cursor_at m)) same, grown_here d v.driver at h.starts same, s.grown d pos le'))
          (λ ne. omega (arith, cursor_else words x d v.driver ne, grown_else d v.driver at h.starts ne, s.grown d pos le'));
      counted = λ d pos le'. dite (ℕ_discrete d v.driver)
          (λ same. omega (arith, cursor_here k words views h x d v.driver a may.0 le same, ap (λ (m : ℕ). slice_index words (cursor_at m)) same, s.counted d pos le'))
          (λ ne. omega (arith, cursor_else words x d v.driver ne, s.counted d pos le'));
      founds = All-push (λ (f : Found). (f.start ≤ f.cursor) × (f.cursor ≤ f.start + added_at f.driver h.added)) h.founds (the_found v n) s.founds
          (omega (arith, mine.own_start may.0, b.raised v.driver may.0 le), omega (arith, mine.own_start may.0, s.grown v.driver may.0 le));
      refusals = refusals_later h g more s.refusals;
      silent = λ d pos le' zero_word told_one. s.silent d pos le' (sym (cursor_limit words x d v.driver pos) ∙ zero_word) told_one;
      looks = looks_later h g later s.looks;
    }

-- a limit that is stored
pub published_c : (k : Setup) (words : List ℕ) (views others : List View) (h : History) (d x : ℕ) → PartA k words views h → PartC k words views h → 0 < d → d ≤ k.drivers
    → PartC k (slice_set words (limit_at d) x) others (told h d x)
published_c k words views others h e x a s pos low =
    let p : Published = record { driver = e; word = x } in
    let g = told h e x in
    let later = same_windows h g refl refl (λ d. omega arith) (λ q m. Contains-append_left h.published (p ∷ []) q m) in
    let more : More h g = record { later = later; starts = λ q m. m; sums = λ d. omega arith; sums_else = λ c d. omega arith } in record {
      grown = λ d p_d le. omega (arith, limit_cursor words x d e p_d pos, s.grown d p_d le);
      counted = λ d p_d le. omega (arith, limit_cursor words x d e p_d pos, s.counted d p_d le);
      founds = s.founds;
      refusals = refusals_later h g more s.refusals;
      silent = λ d p_d le zero_word told_one. dite (ℕ_discrete d e)
          (λ same. let is : x ≡ 0 = sym (limit_here k words views h x d e a pos low same) ∙ zero_word in
          subst (λ (y : ℕ). Contains (h.published ++ record { driver = e; word = x } ∷ []) (record { driver = d; word = y })) is
          (subst (λ (y : ℕ). Contains (h.published ++ record { driver = e; word = x } ∷ []) (record { driver = y; word = x })) (sym same) (Contains-push h.published p)))
          (λ ne. later.published _ (s.silent d p_d le (sym (limit_else words x d e p_d pos ne) ∙ zero_word) (
            told_one.0,
            told_one.1,
            ⊎_elim
                (λ (c : Contains h.published (record { driver = d; word = told_one.0 })). c)
                (λ (z : p ≡ record { driver = d; word = told_one.0 }). absurd (ne (ap (λ (q : Published). q.driver) (sym z))))
                (Contains-push_cases h.published p _ told_one.2),
          )));
      looks = looks_later h g later s.looks;
    }

-- a load of a limit
pub looked_c : (k : Setup) (words : List ℕ) (views others : List View) (h : History) (id e : ℕ) (v : View) → PartA k words views h → PartB k words views h → PartC k words views h → get_elem? views id ≡ some v → May k (LoadLimit e) v
    → PartC k (slice_set words (limit_at e) (slice_index words (limit_at e))) others (with_look h v e (slice_index words (limit_at e)))
looked_c k words views others h id e v a b s at may =
    let mine = b.each id v at (live_client k words views h id v a at may.0) in
    let x = slice_index words (limit_at e) in
    let g = with_look h v e x in
    let later = same_windows h g refl refl (λ d. omega arith) (λ p q. q) in
    let more : More h g = record { later = later; starts = λ q m. m; sums = λ d. omega arith; sums_else = λ c d. omega arith } in
    let same : slice_set words (limit_at e) x ≡ words = set-get_or words (limit_at e) 0 in
    let first = opening_claim k.cell in
    let look_is : Looked h (the_look v e x) = record {
      driver = may.2;
      term = ⊎_elim (λ (z : v.seen ≡ nothing_seen). omega (arith, ap (λ (y : Seen). y.term) z)) (λ (y : IsSeen words h v.seen). omega (arith, y.term_is, (chain_le first h.newest h.past a.chain y.claim y.stands).1)) mine.seen;
      none = λ z c stands term driver. ⊎_elim
          (λ (y : v.seen ≡ nothing_seen). absurd (omega (arith, term, ap (λ (y : Seen). y.term) y, later_term first h.newest h.past a.chain refl c stands (omega (arith, driver, may.2)))))
          (λ (y : IsSeen words h v.seen). s.silent e may.2 may.3 z
          (y.word, y.is_limit, subst (λ (d : ℕ). Contains h.published (record { driver = d; word = y.word })) (ap (λ (u : Claim). u.window.driver) (one_each first h.newest h.past a.chain y.claim c y.stands stands (y.term_is ∙ sym term)) ∙ driver) y.told))
          mine.seen;
      some = λ nz. (a.limits e may.2 may.3 nz).0;
    } in record {
      grown = λ d pos le. omega (arith, ap (λ (l : List ℕ). slice_index l (cursor_at d)) same, s.grown d pos le);
      counted = λ d pos le. omega (arith, ap (λ (l : List ℕ). slice_index l (cursor_at d)) same, s.counted d pos le);
      founds = s.founds;
      refusals = refusals_later h g more s.refusals;
      silent = λ d pos le zero_word told_one. s.silent d pos le (sym (ap (λ (l : List ℕ). slice_index l (limit_at d)) same) ∙ zero_word) told_one;
      looks = All-push (Looked g) h.looks (the_look v e x) (looks_later h g later s.looks) (looked_later h g (the_look v e x) later look_is);
    }

-- the refusal of a draw whose limit is in hand, at the cursor as it stands
pub refusal_bounded : (k : Setup) (words : List ℕ) (views : List View) (h : History) (id n : ℕ) (v : View) → PartA k words views h → PartB k words views h → PartC k words views h → get_elem? views id ≡ some v → 0 < v.client → HasHand v
    → Bounded h (the_refusal v (slice_index words (cursor_at (hand v).driver)) n)
refusal_bounded k words views h id n v a b s at pos has =
    let live = live_client k words views h id v a at pos in
    let mine = b.each id v at live in
    let own = in_hand words h v mine has in
    let name = own.0 in
    let e = (hand v).driver in
    let d = hand_driver k words views h e (hand v).term (hand v).hi a name in
    record {
      claim = name.claim;
      stands = name.stands;
      driver_is = name.driver_is;
      open_is = name.open_is;
      told = subst (λ (t : ℕ). Contains h.published (record { driver = e; word = packed (hand v).hi t })) (sym name.term_is) own.1;
      start = greatest e h.starts;
      begins = name.raised;
      made = greatest_stands e h.starts;
      low = b.raised e d.0 d.1;
      high = omega (arith, s.grown e d.0 d.1, added_parts v.client e h.added, (a.each id v at live).own_sum pos e);
    }

-- a load of a cursor, where it passes
pub refused_c : (k : Setup) (words : List ℕ) (views others : List View) (h : History) (id n : ℕ) (v : View) → PartA k words views h → PartB k words views h → PartC k words views h → get_elem? views id ≡ some v → 0 < v.client → HasHand v
    → passes (slice_index words (cursor_at (hand v).driver)) (hand v).hi n ≡ true
    → PartC k (slice_set words (cursor_at (hand v).driver) (slice_index words (cursor_at (hand v).driver))) others (with_refusal h v (slice_index words (cursor_at (hand v).driver)) n)
refused_c k words views others h id n v a b s at pos has full =
    let x = slice_index words (cursor_at (hand v).driver) in
    let g = with_refusal h v x n in
    let later = same_windows h g refl refl (λ d. omega arith) (λ p q. q) in
    let more : More h g = record { later = later; starts = λ q m. m; sums = λ d. omega arith; sums_else = λ c d. omega arith } in
    let same : slice_set words (cursor_at (hand v).driver) x ≡ words = set-get_or words (cursor_at (hand v).driver) 0 in record {
      grown = λ d p le. omega (arith, ap (λ (l : List ℕ). slice_index l (cursor_at d)) same, s.grown d p le);
      counted = λ d p le. omega (arith, ap (λ (l : List ℕ). slice_index l (cursor_at d)) same, s.counted d p le);
      founds = s.founds;
      refusals = All-push (λ (r : Refusal). (passes r.at r.hi r.count ≡ true) × Bounded g r) h.refusals (the_refusal v x n) (refusals_later h g more s.refusals) (full, bounded_later h g (the_refusal v x n) more (refusal_bounded k words views h id n v a b s at pos has));
      silent = λ d p le zero_word told_one. s.silent d p le (sym (ap (λ (l : List ℕ). slice_index l (limit_at d)) same) ∙ zero_word) told_one;
      looks = looks_later h g later s.looks;
    }

-- a load of a cursor, where it does not pass
pub armed_c : (k : Setup) (words : List ℕ) (views others : List View) (h : History) (i : ℕ) → PartC k words views h → PartC k (slice_set words i (slice_index words i)) others h
armed_c k words views others h i s = let same : slice_set words i (slice_index words i) ≡ words = set-get_or words i 0 in
    record {
      grown = subst (λ (l : List ℕ). (d : ℕ) → 0 < d → d ≤ k.drivers → slice_index l (cursor_at d) ≤ greatest d h.starts + added_at d h.added) (sym same) s.grown;
      counted = subst (λ (l : List ℕ). (d : ℕ) → 0 < d → d ≤ k.drivers → added_at d h.added ≤ slice_index l (cursor_at d)) (sym same) s.counted;
      founds = s.founds;
      refusals = s.refusals;
      silent = subst (λ (l : List ℕ). (d : ℕ) → 0 < d → d ≤ k.drivers → slice_index l (limit_at d) ≡ 0 → ((word : ℕ) × (word ≢ 0) × Contains h.published (record { driver = d; word = word })) → Contains h.published (record { driver = d; word = 0 })) (sym same) s.silent;
      looks = s.looks;
    }

-- an addition to a cursor
added_here : (v : View) (xs : List Added) (d : ℕ) → d ≡ (hand v).driver → added_at d (xs ++ the_added v ∷ []) ≡ added_at d xs + v.armed
added_here v xs d same =
    let one : (let n : ℕ = cond (eqb (hand v).driver d) v.armed 0 in n) ≡ v.armed = by_eq (λ b. (let n : ℕ = cond b v.armed 0 in n) ≡ v.armed) (hand v).driver d (λ _. refl) (λ ne. absurd (ne (sym same))) in
    omega (arith, one, total-append (λ (a : Added). cond (eqb a.driver d) a.count 0) xs (the_added v ∷ []))

added_other : (v : View) (xs : List Added) (d : ℕ) → d ≢ (hand v).driver → added_at d (xs ++ the_added v ∷ []) ≡ added_at d xs
added_other v xs d apart =
    let none : (let n : ℕ = cond (eqb (hand v).driver d) v.armed 0 in n) ≡ 0 = by_eq (λ b. (let n : ℕ = cond b v.armed 0 in n) ≡ 0) (hand v).driver d (λ z. absurd (apart (sym z))) (λ _. refl) in
    omega (arith, none, total-append (λ (a : Added). cond (eqb a.driver d) a.count 0) xs (the_added v ∷ []))

pub sums_grow : (h : History) (v : View) → More h (with_added h v)
sums_grow h v = record {
  later = same_windows h (with_added h v) refl refl (λ d. omega arith) (λ p q. q);
  starts = λ q m. m;
  sums = λ d. omega (arith, total-append (λ (a : Added). cond (eqb a.driver d) a.count 0) h.added (the_added v ∷ []));
  sums_else = λ c d. omega (arith, total-append (λ (a : Added). cond (eqb a.driver d) (cond (eqb a.client c) 0 a.count) 0) h.added (the_added v ∷ []));
}

-- the added count alone, before the batch or the refusal
pub added_c : (k : Setup) (words : List ℕ) (views others : List View) (h : History) (v : View) → PartA k words views h → PartC k words views h → 0 < (hand v).driver → (hand v).driver ≤ k.drivers
    → PartC k (slice_set words (cursor_at (hand v).driver) (slice_index words (cursor_at (hand v).driver) + v.armed)) others (with_added h v)
added_c k words views others h v a s pos low =
    let e = (hand v).driver in
    let x = slice_index words (cursor_at e) + v.armed in
    let g = with_added h v in
    let more = sums_grow h v in record {
      grown = λ d p le. dite (ℕ_discrete d e)
          (λ same. omega (arith, cursor_here k words views h x d e a pos low same, ap (λ (m : ℕ). slice_index words (cursor_at m)) same, added_here v h.added d same, s.grown d p le))
          (λ ne. omega (arith, cursor_else words x d e ne, more.sums d, s.grown d p le));
      counted = λ d p le. dite (ℕ_discrete d e)
          (λ same. omega (arith, cursor_here k words views h x d e a pos low same, ap (λ (m : ℕ). slice_index words (cursor_at m)) same, added_here v h.added d same, s.counted d p le))
          (λ ne. omega (arith, cursor_else words x d e ne, added_other v h.added d ne, s.counted d p le));
      founds = founds_later h g more s.founds;
      refusals = refusals_later h g more s.refusals;
      silent = λ d p le zero_word told_one. s.silent d p le (sym (cursor_limit words x d e p) ∙ zero_word) told_one;
      looks = looks_later h g more.later s.looks;
    }

-- an addition to a cursor, where it passes
pub drew_c : (k : Setup) (words : List ℕ) (views others : List View) (h : History) (id : ℕ) (v : View) → PartA k words views h → PartB k words views h → PartC k words views h → get_elem? views id ≡ some v → May k AddArmed v
    → passes (slice_index words (cursor_at (hand v).driver)) (hand v).hi v.armed ≡ true
    → PartC k (slice_set words (cursor_at (hand v).driver) (slice_index words (cursor_at (hand v).driver) + v.armed)) others (with_refusal (with_added h v) v (slice_index words (cursor_at (hand v).driver)) v.armed)
drew_c k words views others h id v a b s at may full =
    let n = slice_index words (cursor_at (hand v).driver) in
    let own = in_hand words h v (b.each id v at (live_client k words views h id v a at may.0)) may.1 in
    let d = hand_driver k words views h (hand v).driver (hand v).term (hand v).hi a own.0 in
    let c = added_c k words views others h v a s d.0 d.1 in
    let m = with_added h v in
    let g = with_refusal m v n v.armed in
    let later = same_windows m g refl refl (λ d. omega arith) (λ p q. q) in
    let more : More m g = record { later = later; starts = λ q z. z; sums = λ d. omega arith; sums_else = λ c d. omega arith } in record {
      grown = c.grown;
      counted = c.counted;
      founds = c.founds;
      refusals = All-push (λ (r : Refusal). (passes r.at r.hi r.count ≡ true) × Bounded g r) h.refusals (the_refusal v n v.armed) (refusals_later m g more c.refusals)
          (full, bounded_later m g (the_refusal v n v.armed) more (bounded_later h m (the_refusal v n v.armed) (sums_grow h v) (refusal_bounded k words views h id v.armed v a b s at may.0 may.1)));
      silent = c.silent;
      looks = looks_later m g later c.looks;
    }

-- an addition to a cursor, where it does not pass
pub granted_c : (k : Setup) (words : List ℕ) (views others : List View) (h : History) (id : ℕ) (v : View) → PartA k words views h → PartB k words views h → PartC k words views h → get_elem? views id ≡ some v → May k AddArmed v
    → PartC k (slice_set words (cursor_at (hand v).driver) (slice_index words (cursor_at (hand v).driver) + v.armed)) others (with_grant (with_added h v) v (slice_index words (cursor_at (hand v).driver)))
granted_c k words views others h id v a b s at may =
    let n = slice_index words (cursor_at (hand v).driver) in
    let own = in_hand words h v (b.each id v at (live_client k words views h id v a at may.0)) may.1 in
    let d = hand_driver k words views h (hand v).driver (hand v).term (hand v).hi a own.0 in
    let c = added_c k words views others h v a s d.0 d.1 in
    let m = with_added h v in
    let g = with_grant m v n in
    let later = same_windows m g refl refl (λ d. omega arith) (λ p q. q) in
    let more : More m g = record { later = later; starts = λ q z. z; sums = λ d. omega arith; sums_else = λ c d. omega arith } in record {
      grown = c.grown;
      counted = c.counted;
      founds = c.founds;
      refusals = refusals_later m g more c.refusals;
      silent = c.silent;
      looks = looks_later m g later c.looks;
    }
