-- What all calls of a driver together do to what it knows.
use Rattle.std.proofs.Common.{◌≡◌, ℕ, ◌<◌, ◌≤◌, ◌⊎◌, cond, true, false, List, [], ◌∷◌, ◌++◌, sym, refl, ap, ◌∙◌, subst, inl, inr, ⊎_elim, arith, append_assoc, max}
use Rattle.std.specs.Prelude.{Contains, map, Option, Some, None, option_to_list, All}
use Rattle.std.proofs.lemmas.List.Elements.{All-cons, All-nil, All-weaker}
use Rattle.std.proofs.lemmas.List.{append-nil, map-append}
use Rattle.pd_types.specs.declared.oracle.Window.{Window}
use Rattle.tso_model.specs.declared.entries.Claim.{Claim}
use Rattle.tso_model.specs.declared.entries.Published.{Published}
use Rattle.tso_model.specs.declared.view.View.{View}
use Rattle.tso_model.specs.Words.{IsOpen, window, claim}
use Rattle.tso_model.specs.History.{claims, Extends, greatest}
use Rattle.tso_model.specs.Ledger.{IsRisingBy}
use Rattle.tso_outcome.specs.Terms.{ClaimedBy}
use Rattle.tso_model.proofs.Basics.{by_eq}
use Rattle.tso_driver.specs.declared.said.DriverSaid.{DriverSaid}
use Rattle.tso_outcome.specs.declared.said.DriverAnswer.{DriverAnswer}
use Rattle.tso_driver.specs.declared.said.DriverSaid.TheVariants.{Led, Ticked, Resigned}
use Rattle.tso_driver.specs.declared.reply.LeadReply.TheVariants.{Won, Beaten, Lost as LeadLost, TermsSpent, ClockRange as LeadPast}
use Rattle.tso_driver.specs.declared.reply.TickReply.TheVariants.{Moved, Idle, Lost as TickLost, ClockRange as TickPast, NotLeading}
use Rattle.tso_outcome.specs.Drives.{Drove, held_by, raised}
use Rattle.pd_types.specs.Numbers.{greatest_of}
use Rattle.tso_driver.specs.Driving.{DriverDid, DriverTold, ClaimsGrow, terms, Keeps, held_after, moved_to, raises, start_at, Publishes}
use Rattle.tso_board.specs.Told.{holding}

-- a list of calls, split at one of them
pub record DriverSplit (v : View) (before : List DriverAnswer) (a : DriverAnswer) (after : List DriverAnswer) (w : View) : Type 0 where
  pub old : View
  pub new : View
  pub to : Drove v before old
  pub did : DriverDid a.said old new
  pub on : Drove new after w

pub drove_opening : (v : View) (answers : List DriverAnswer) (w : View) → Drove v answers w → w.opening ≡ v.opening
drove_opening v [] w h = sym (ap (λ (x : View). x.opening) h)
drove_opening v (a ∷ rest) w h = drove_opening h.0 rest w h.2 ∙ h.1.opening

module _ where
  pub drove_split : (v : View) (before : List DriverAnswer) (a : DriverAnswer) (after : List DriverAnswer) (w : View) → Drove v (before ++ a ∷ after) w → DriverSplit v before a after w
  drove_split v [] a after w h = record { old = v; new = h.0; to = refl; did = h.1; on = h.2 }
  drove_split v (b ∷ bs) a after w h = let s = drove_split h.0 bs a after w h.2 in record { old = s.old; new = s.new; to = (h.0, h.1, s.to); did = s.did; on = s.on }

  pub drove_driver : (v : View) (answers : List DriverAnswer) (w : View) → Drove v answers w → w.driver ≡ v.driver
  drove_driver v [] w h = sym (ap (λ (x : View). x.driver) h)
  drove_driver v (a ∷ rest) w h = drove_driver h.0 rest w h.2 ∙ h.1.driver

  pub drove_cells : (v : View) (answers : List DriverAnswer) (w : View) → Drove v answers w → (v.cell.term ≤ w.cell.term) × (v.cell.saved ≤ w.cell.saved)
  drove_cells v [] w h = (omega (arith, ap (λ (x : View). x.cell.term) h), omega (arith, ap (λ (x : View). x.cell.saved) h))
  drove_cells v (a ∷ rest) w h = let r = drove_cells h.0 rest w h.2 in (omega (arith, r.0, h.1.term), omega (arith, r.1, h.1.saved))

  pub drove_starts : (v : View) (answers : List DriverAnswer) (w : View) → Drove v answers w → w.starts ≡ v.starts ++ map (start_at v.driver) (raised answers)
  drove_starts v [] w h = sym (ap (λ (x : View). x.starts) h) ∙ sym (append-nil v.starts)
  drove_starts v (a ∷ rest) w h = drove_starts h.0 rest w h.2 ∙ (λ i. h.1.starts i ++ map (start_at (h.1.driver i)) (raised rest)) ∙ append_assoc v.starts (map (start_at v.driver) (raises a.said)) (map (start_at v.driver) (raised rest)) ∙ ap (λ l. v.starts ++ l) (sym (map-append (start_at v.driver) (raises a.said) (raised rest)))

  pub drove_founds : (v : View) (answers : List DriverAnswer) (w : View) → Drove v answers w → Keeps v.founds w.founds
  drove_founds v [] w h x there = subst (λ (u : View). Contains u.founds x) h there
  drove_founds v (a ∷ rest) w h x there = drove_founds h.0 rest w h.2 x (h.1.founds x there)

  pub drove_holding : (v : View) (answers : List DriverAnswer) (w : View) → Drove v answers w → holding w ≡ held_by v.driver (holding v) answers
  drove_holding v [] w h = sym (ap holding h)
  drove_holding v (a ∷ rest) w h = drove_holding h.0 rest w h.2 ∙ (λ i. held_by (h.1.driver i) (h.1.holds i) rest)

  -- what became of a window, and what a window comes from
  pub drove_kept : (v : View) (answers : List DriverAnswer) (w : View) → Drove v answers w → (c : Claim) → Contains (claims v) c → (e : Claim) × Contains (claims w) e × Extends c e × (e.at ≡ c.at)
  drove_kept v [] w h c there = (c, subst (λ (u : View). Contains (claims u) c) h there, record { term = refl; driver = refl; lo = λ _. refl; hi = omega arith }, refl)
  drove_kept v (a ∷ rest) w h c there =
      let s = h.1.windows.kept c there in
      let r = drove_kept h.0 rest w h.2 s.0 s.1 in
      (r.0, r.1, record { term = r.2.term ∙ s.2.term; driver = r.2.driver ∙ s.2.driver; lo = λ o. (r.2.lo (omega (arith, o, s.2.lo o, s.2.hi)) ∙ s.2.lo o); hi = omega (arith, r.2.hi, s.2.hi) }, r.3 ∙ s.3)

  pub drove_back : (v : View) (answers : List DriverAnswer) (w : View) → Drove v answers w → (e : Claim) → Contains (claims w) e → ((c : Claim) × Contains (claims v) c × (c.window.term ≡ e.window.term)) ⊎ ((v.cell.term < e.window.term) × (e.window.term < 262144))
  drove_back v [] w h e there = inl (e, subst (λ (u : View). Contains (claims u) e) (sym h) there, refl)
  drove_back v (a ∷ rest) w h e there = ⊎_elim
      (λ (r : (c : Claim) × Contains (claims h.0) c × (c.window.term ≡ e.window.term)). ⊎_elim
      (λ (s : (c : Claim) × Contains (claims v) c × (c.window.term ≡ r.0.window.term)). inl (s.0, s.1, s.2 ∙ r.2))
      (λ (s : (v.cell.term < r.0.window.term) × (r.0.window.term < 262144)). inr (omega (arith, s.0, r.2), omega (arith, s.1, r.2)))
      (h.1.windows.back r.0 r.1))
      (λ (r : (h.0.cell.term < e.window.term) × (e.window.term < 262144)). inr (omega (arith, r.0, h.1.term), r.1))
      (drove_back h.0 rest w h.2 e there)

  pub drove_own : (v : View) (answers : List DriverAnswer) (w : View) → Drove v answers w → ((c : Claim) → Contains (claims v) c → c.window.driver ≡ v.driver) → (e : Claim) → Contains (claims w) e → e.window.driver ≡ v.driver
  drove_own v [] w h own e there = own e (subst (λ (u : View). Contains (claims u) e) (sym h) there)
  drove_own v (a ∷ rest) w h own e there = drove_own h.0 rest w h.2 (λ c z. h.1.windows.own own c z ∙ sym h.1.driver) e there ∙ h.1.driver

-- THE TERMS THAT WERE CLAIMED
-- the term is above the cell that was known at first, and not above the one known at last
abbrev pub ClaimedAfter : View → View → ℕ → Type 0
ClaimedAfter v w term = (v.cell.term < term) × (term ≤ w.cell.term)

-- the terms that a driver's calls claimed
pub record TermsClaimed (v : View) (answers : List DriverAnswer) (w : View) : Type 0 where
  pub more : List ℕ
  pub grown : terms w ≡ terms v ++ more
  pub claimed : ClaimedBy answers more
  pub rise : IsRisingBy (λ (term : ℕ). term) more
  pub later : All (ClaimedAfter v w) more

-- the term of one call, if it claimed one, and those of the calls after it
module _ (u v w : View) (le : u.cell.term ≤ v.cell.term) (on : v.cell.term ≤ w.cell.term) (more : List ℕ) (rise : IsRisingBy (λ (term : ℕ). term) more) (later : All (ClaimedAfter v w) more) where
  rest_later : All (ClaimedAfter u w) more
  rest_later = All-weaker (ClaimedAfter v w) (ClaimedAfter u w) (λ x z. (omega (arith, le, z.0), z.1)) more later

  with_one : (one : Option ℕ) → ((term : ℕ) → one ≡ Some term → ClaimedAfter u v term) → IsRisingBy (λ (term : ℕ). term) (option_to_list one ++ more) × All (ClaimedAfter u w) (option_to_list one ++ more)
  with_one None first = (rise, rest_later)
  with_one (Some t) first =
      let h = first t refl in (
        (All-weaker (ClaimedAfter v w) (λ x. t < x) (λ x z. omega (arith, h.1, z.0)) more later, rise),
        All-cons (ClaimedAfter u w) t more (h.0, omega (arith, h.1, on)) rest_later,
      )

pub drove_terms : (v : View) (answers : List DriverAnswer) (w : View) → Drove v answers w → TermsClaimed v answers w
drove_terms v [] w h = record { more = []; grown = sym (ap terms h) ∙ sym (append-nil (terms v)); claimed = refl; rise = tt; later = All-nil (ClaimedAfter v w) }
drove_terms v (a ∷ rest) w h =
    let r = drove_terms h.0 rest w h.2 in
    let g = h.1.claimed in
    let all = with_one v h.0 w h.1.term (drove_cells h.0 rest w h.2).0 r.more r.rise r.later g.claimed g.later in
    record {
      more = option_to_list g.claimed ++ r.more;
      grown = r.grown ∙ ap (λ l. l ++ r.more) g.grown ∙ append_assoc (terms v) (option_to_list g.claimed) r.more;
      claimed = (g.claimed, r.more, refl, g.told, r.claimed);
      rise = all.0;
      later = all.1;
    }

-- PUBLISHED WORDS
-- the answer at which the word was published
pub record WasPublished (d : ℕ) (holds : Option Window) (answers : List DriverAnswer) (word : ℕ) : Type 0 where
  pub before : List DriverAnswer
  pub one : DriverAnswer
  pub after : List DriverAnswer
  pub is : answers ≡ before ++ one ∷ after
  pub publishes : Publishes (held_by d holds before) one.said word

module _ where
  pub drove_published : (v : View) (answers : List DriverAnswer) (w : View) → Drove v answers w → (p : Published) → Contains w.published p → Contains v.published p ⊎ ((p.driver ≡ v.driver) × WasPublished v.driver (holding v) answers p.word)
  drove_published v [] w h p there = inl (subst (λ (u : View). Contains u.published p) (sym h) there)
  drove_published v (a ∷ rest) w h p there = ⊎_elim
      (λ (r : Contains h.0.published p). ⊎_elim
      (λ (s : Contains v.published p). inl s)
      (λ (s : (p.driver ≡ v.driver) × Publishes (holding v) a.said p.word). inr (s.0, record { before = []; one = a; after = rest; is = refl; publishes = s.1 }))
      (h.1.published p r))
      (λ (r : (p.driver ≡ h.0.driver) × WasPublished h.0.driver (holding h.0) rest p.word). inr (
        r.0 ∙ h.1.driver,
        record {
          before = a ∷ r.1.before;
          one = r.1.one;
          after = r.1.after;
          is = ap (λ l. a ∷ l) r.1.is;
          publishes = subst (λ o. Publishes o r.1.one.said p.word) (λ i. held_by (h.1.driver i) (h.1.holds i) r.1.before) r.1.publishes;
        },
      ))
      (drove_published h.0 rest w h.2 p there)

-- THE HELD WINDOW
-- the held window is one of the driver's claims, as its term and its start say
abbrev pub IsClaimed : Option Window → View → Type 0
IsClaimed holds v = (w : Window) → holds ≡ Some w → (c : Claim) × Contains (claims v) c × (c.window.term ≡ w.term) × (c.window.lo ≡ w.lo) × IsOpen c.window × (0 < w.lo)

claimed_on : (old new : View) → ClaimsGrow old new → (w : Window) → ((c : Claim) × Contains (claims old) c × (c.window.term ≡ w.term) × (c.window.lo ≡ w.lo) × IsOpen c.window × (0 < w.lo)) → (c : Claim) × Contains (claims new) c × (c.window.term ≡ w.term) × (c.window.lo ≡ w.lo) × IsOpen c.window × (0 < w.lo)
claimed_on old new g w h = let s = g.kept h.0 h.1 in (s.0, s.1, s.2.term ∙ h.2, s.2.lo h.4 ∙ h.3, omega (arith, s.2.lo h.4, s.2.hi, h.4), h.5)

moved_from : (hi : ℕ) (holds : Option Window) (w : Window) → moved_to hi holds ≡ Some w → (x : Window) × (holds ≡ Some x) × (x.term ≡ w.term) × (x.lo ≡ w.lo)
moved_from hi None w e = absurd (cc e)
moved_from hi (Some x) w e = (x, refl, (let same : record x { hi = hi } ≡ w = cc e in ap (λ (y : Window). y.term) same), (let same : record x { hi = hi } ≡ w = cc e in ap (λ (y : Window). y.lo) same))

stay : (holds : Option Window) (old new : View) → ClaimsGrow old new → IsClaimed holds old → IsClaimed holds new
stay holds old new g c w e = claimed_on old new g w (c w e)

claim_step : (d : ℕ) (said : DriverSaid) (holds : Option Window) (old new : View) → ClaimsGrow old new → DriverTold said old new → IsClaimed holds old → IsClaimed (held_after d said holds) new
claim_step d (Led now (Won term lo hi)) holds old new g t c = λ w e. let same : window term d lo hi ≡ w = cc e in (claim (window term new.driver lo hi) t.saved, t.stands, ap (λ (y : Window). y.term) same, ap (λ (y : Window). y.lo) same, omega (arith, t.plan.1), omega (arith, t.plan.0, ap (λ (y : Window). y.lo) same))
claim_step d (Led now (Beaten found)) holds old new g t c = stay holds old new g c
claim_step d (Led now (LeadLost found)) holds old new g t c = λ w e. absurd (cc e)
claim_step d (Led now TermsSpent) holds old new g t c = stay holds old new g c
claim_step d (Led now LeadPast) holds old new g t c = stay holds old new g c
claim_step d (Ticked now (Moved next hi)) holds old new g t c = λ w e. let m = moved_from hi holds w e in let r = claimed_on old new g m.0 (c m.0 m.1) in (r.0, r.1, r.2 ∙ m.2, r.3 ∙ m.3, r.4, omega (arith, r.5, m.3))
claim_step d (Ticked now Idle) holds old new g t c = stay holds old new g c
claim_step d (Ticked now (TickLost found)) holds old new g t c = λ w e. absurd (cc e)
claim_step d (Ticked now TickPast) holds old new g t c = stay holds old new g c
claim_step d (Ticked now NotLeading) holds old new g t c = stay holds old new g c
claim_step d (Resigned true) holds old new g t c = λ w e. absurd (cc e)
claim_step d (Resigned false) holds old new g t c = stay holds old new g c

pub drove_claimed : (d : ℕ) (holds : Option Window) (v : View) (answers : List DriverAnswer) (w : View) → Drove v answers w → IsClaimed holds v → IsClaimed (held_by d holds answers) w
drove_claimed d holds v [] w h c = subst (IsClaimed holds) h c
drove_claimed d holds v (a ∷ rest) w h c = drove_claimed d (held_after d a.said holds) h.0 rest w h.2 (claim_step d a.said holds v h.0 h.1.windows h.1.told c)

-- STARTS
pub greatest_starts : (d : ℕ) (xs : List ℕ) → greatest d (map (start_at d) xs) ≡ greatest_of xs
greatest_starts d [] = refl
greatest_starts d (x ∷ xs) = by_eq (λ b. cond b (max x (greatest d (map (start_at d) xs))) (greatest d (map (start_at d) xs)) ≡ max x (greatest_of xs)) d d (λ _. ap (max x) (greatest_starts d xs)) (λ ne. absurd (ne refl))
