-- Part B: a look, a load of a cursor, a limit that is published.
use Rattle.std.proofs.Common.{◌≡◌, ◌≢◌, ℕ, ◌+◌, ◌*◌, ◌/◌, ◌%◌, ◌<◌, ◌≤◌, cond, true, false, List, [], ◌∷◌, set, refl, ap, subst, inl, inr, ⊎_elim, arith, ltb}
use Rattle.std.specs.Prelude.{None, Some, IfSome, Contains, slice_index, slice_set}
use mathlib.Core.Option.{some}
use lib.ListN.{get_elem?}
use Rattle.tso_model.specs.declared.view.View.{View}
use Rattle.tso_model.specs.declared.entries.Limit.{Limit}
use Rattle.tso_model.specs.declared.view.Setup.{Setup}
use Rattle.tso_model.specs.Lists.{total}
use Rattle.tso_model.specs.History.{History, Names}
use Rattle.tso_model.proofs.Sums.{total-set}
use Rattle.std.proofs.lemmas.List.Elements.{Contains-append_left}
use Rattle.std.proofs.lemmas.List.{set-get_or}
use Rattle.tso_model.specs.Words.{packed, passes, opening_claim, limit_at, cursor_at}
use Rattle.tso_model.specs.declared.step.WordStep.TheVariants.{LoadLimit, ArmCount}
use Rattle.tso_model.specs.Steps.{May, hand, fresh, looked, refused}
use Rattle.tso_model.specs.Moves.{nothing_seen}
use Rattle.tso_model.specs.Sound.{PartA, IsSeen, PartB, armed_at}
use Rattle.tso_model.proofs.Basics.{by_eq, by_bool, by_lt, fits, chain_le}
use Rattle.tso_model.proofs.Growth.{names_later, same_windows, seen_later, fitsB_later, live_driver, live_client}
use Rattle.tso_model.proofs.CellA.{itself}
use Rattle.tso_model.proofs.FrameB.{step_b, still_b, limit_cursor, same_fits}
use Rattle.tso_model.proofs.DrawB.{in_hand, none_armed, armed_le, every_armed, with_refusal}
use Rattle.tso_model.proofs.OtherA.{with_look, told}

fresh_is : (word : ℕ) (v : View) → fresh word v ≡ true → (word ≢ 0) × (v.seen.term ≤ word % 262144)
fresh_is word v = by_eq (λ b. cond b false (cond (ltb (word % 262144) v.seen.term) false true) ≡ true → (word ≢ 0) × (v.seen.term ≤ word % 262144)) word 0
    (λ _ e. absurd (cc e))
    (λ ne. by_lt (λ b. cond b false true ≡ true → (word ≢ 0) × (v.seen.term ≤ word % 262144)) (word % 262144) v.seen.term (λ _ e. absurd (cc e)) (λ le _. (ne, le)))

-- a load of a limit
pub looked_b : (k : Setup) (words : List ℕ) (views : List View) (h : History) (id e : ℕ) (v : View) → PartA k words views h → PartB k words views h → get_elem? views id ≡ some v → May k (LoadLimit e) v
    → PartB k (slice_set words (limit_at e) (slice_index words (limit_at e))) (slice_set views id (looked e (slice_index words (limit_at e)) v)) (with_look h v e (slice_index words (limit_at e)))
looked_b k words views h id e v a s at may =
    let mine = s.each id v at (live_client k words views h id v a at may.0) in
    let x = slice_index words (limit_at e) in
    let g = with_look h v e x in
    let w = looked e x v in
    let more = slice_set words (limit_at e) x in
    let later = same_windows h g refl refl (λ d. omega arith) (λ p q. q) in
    let same : (d : ℕ) → 0 < d → slice_index more (cursor_at d) ≡ slice_index words (cursor_at d) = λ d pos. limit_cursor words x d e pos may.2 in
    still_b k words views h id v more g w a s at later (λ t. refl) same refl (λ d. omega (arith, none_armed d w may.1.1)) (λ d. refl) record {
      seen = ⊎_elim (λ (z : v.seen ≡ nothing_seen). inl z) (λ (z : IsSeen words h v.seen). inr (seen_later k words more views h g v.seen a later (λ d pos le. omega (arith, same d pos)) z)) mine.seen;
      hand_is = by_bool (λ b. IfSome (cond b (Some (record { driver = e; term = x % 262144; hi = x / 262144 })) None) (λ (l : Limit). Names g l.driver l.term l.hi × Contains g.published (record { driver = l.driver; word = packed l.hi l.term }) × (v.seen.term ≤ l.term))) (fresh x v)
          (λ is. let f = fresh_is x v is in let old = a.limits e may.2 may.3 f.0 in
          let whole : x ≡ packed (x / 262144) (x % 262144) = omega arith in
          (names_later h g e _ _ later old.1, subst (λ (y : ℕ). Contains h.published (record { driver = e; word = y })) whole old.0, f.1))
          (λ _. tt);
      armed = (omega (arith, mine.armed.0), λ pos. absurd (omega (arith, pos, may.1.1)));
    }

-- a load of a cursor, where it passes
pub refused_b : (k : Setup) (words : List ℕ) (views : List View) (h : History) (id n : ℕ) (v : View) → PartA k words views h → PartB k words views h → get_elem? views id ≡ some v → 0 < v.client
    → PartB k (slice_set words (cursor_at (hand v).driver) (slice_index words (cursor_at (hand v).driver))) (slice_set views id (refused (slice_index words (cursor_at (hand v).driver)) n v)) (with_refusal h v (slice_index words (cursor_at (hand v).driver)) n)
refused_b k words views h id n v a s at pos =
    let mine = s.each id v at (live_client k words views h id v a at pos) in
    let i = cursor_at (hand v).driver in
    let x = slice_index words i in
    let g = with_refusal h v x n in
    let w = refused x n v in
    let more = slice_set words i x in
    let later = same_windows h g refl refl (λ d. omega arith) (λ p q. q) in
    let same : (d : ℕ) → 0 < d → slice_index more (cursor_at d) ≡ slice_index words (cursor_at d) = λ d p. ap (λ (l : List ℕ). slice_index l (cursor_at d)) (set-get_or words i 0) in
    still_b k words views h id v more g w a s at later (λ t. refl) same refl (λ d. omega (arith, none_armed d w refl)) (λ d. refl) record {
      seen = ⊎_elim (λ (z : v.seen ≡ nothing_seen). inl z) (λ (z : IsSeen words h v.seen). inr (seen_later k words more views h g v.seen a later (λ d p le. omega (arith, same d p)) z)) mine.seen;
      hand_is = tt;
      armed = (omega arith, λ p. absurd (omega (arith, p)));
    }

-- a load of a cursor, where it does not pass
pub armed_b : (k : Setup) (words : List ℕ) (views : List View) (h : History) (id n : ℕ) (v : View) → PartA k words views h → PartB k words views h → get_elem? views id ≡ some v → May k (ArmCount n) v
    → passes (slice_index words (cursor_at (hand v).driver)) (hand v).hi n ≡ false
    → PartB k (slice_set words (cursor_at (hand v).driver) (slice_index words (cursor_at (hand v).driver))) (slice_set views id (record v { armed = n })) h
armed_b k words views h id n v a s at may fit =
    let mine = s.each id v at (live_client k words views h id v a at may.0) in
    let name = (in_hand words h v mine may.1).0 in
    let i = cursor_at (hand v).driver in
    let x = slice_index words i in
    let w = record v { armed = n } in
    let more = slice_set words i x in
    let later = itself h in
    let same : (d : ℕ) → 0 < d → slice_index more (cursor_at d) ≡ slice_index words (cursor_at d) = λ d p. ap (λ (l : List ℕ). slice_index l (cursor_at d)) (set-get_or words i 0) in
    let room : x + n ≤ h.newest.window.hi * 262144 = omega (arith, fits x (hand v).hi n fit, name.ends, (chain_le (opening_claim k.cell) h.newest h.past a.chain name.claim name.stands).2) in
    step_b k words views h id v more h w a s at record {
      later = later;
      drawn = λ t. refl;
      grow = λ d p le. omega (arith, same d p);
      quota = refl;
      cursors = λ d p le. let moved = total-set (armed_at d) views id v w at in let was = none_armed d v may.2 in
          by_eq (λ b. total (armed_at d) (set views id w) + armed_at d v ≡ total (armed_at d) views + cond b n 0 → slice_index more (cursor_at d) + total (armed_at d) (set views id w) ≤ (h.newest.window.hi + 64) * 262144) (hand v).driver d
          (λ e m. omega (arith, same d p, ap (λ (m : ℕ). slice_index words (cursor_at m)) e, m, was, room, armed_le d views (every_armed k words views h a s), s.quotas, a.setup.clients.1))
          (λ _ m. omega (arith, same d p, m, was, s.cursors d p le)) moved;
      raised = λ d p le. omega (arith, same d p, s.raised d p le);
      own = let old = fitsB_later k words more views h h v a later (λ d p le. omega (arith, same d p)) mine in record { seen = old.seen; hand_is = old.hand_is; armed = (may.5, λ _. may.1) };
    }

-- a limit that is stored
pub published_b : (k : Setup) (words : List ℕ) (views : List View) (h : History) (id x : ℕ) (v w : View) → PartA k words views h → PartB k words views h → get_elem? views id ≡ some v → 0 < v.driver
    → w.seen ≡ v.seen → w.hand ≡ v.hand → w.armed ≡ v.armed → w.quota ≡ v.quota → ((d : ℕ) → armed_at d w ≡ armed_at d v)
    → PartB k (slice_set words (limit_at v.driver) x) (slice_set views id w) (told h v.driver x)
published_b k words views h id x v w a s at pos seen hand_same armed quota armed_same =
    let mine = s.each id v at (live_driver k words views h id v a at pos) in
    let g = told h v.driver x in
    let more = slice_set words (limit_at v.driver) x in
    let later = same_windows h g refl refl (λ d. omega arith) (λ q m. Contains-append_left h.published (record { driver = v.driver; word = x } ∷ []) q m) in
    let same : (d : ℕ) → 0 < d → slice_index more (cursor_at d) ≡ slice_index words (cursor_at d) = λ d p. limit_cursor words x d v.driver p pos in
    still_b k words views h id v more g w a s at later (λ t. refl) same quota (λ d. omega (arith, armed_same d)) (λ d. refl)
    (same_fits more g v w (fitsB_later k words more views h g v a later (λ d p le. omega (arith, same d p)) mine) seen hand_same armed quota)
