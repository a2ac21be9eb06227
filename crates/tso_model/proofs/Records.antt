-- Each kind of step, with what it makes of the parts of the rule and of the two lists of the run.
use Rattle.std.proofs.Common.{◌≡◌, ◌≢◌, ℕ, ◌+◌, ◌/◌, ◌%◌, ◌^◌, ◌<◌, ◌⊎◌, eqb, cond, true, false, List, [], ◌∷◌, ◌++◌, sym, refl, ap, ◌∙◌, subst, inl, inr, arith, max}
use Rattle.std.specs.Prelude.{Option, Some, slice_index, slice_set, reverse}
use Rattle.std.proofs.lemmas.List.{map_push, reverse-append}
use mathlib.Core.Option.{some}
use lib.ListN.{get_elem?}
use Rattle.pd_types.specs.declared.oracle.Window.{Window}
use Rattle.tso_model.specs.declared.entries.Claim.{Claim}
use Rattle.tso_model.specs.declared.view.View.{View}
use Rattle.tso_model.specs.declared.entries.Grant.{Grant}
use Rattle.tso_model.specs.declared.entries.Limit.{Limit}
use Rattle.tso_model.specs.declared.view.Setup.{Setup}
use Rattle.tso_model.specs.History.{History, Names}
use Rattle.std.proofs.lemmas.List.Elements.{All-weaker}
use Rattle.std.specs.Prelude.{map}
use Rattle.pd_types.specs.declared.oracle.Batch.{Batch}
use Rattle.tso_model.specs.Words.{packed, cell_of, cell_word, passes, opening_claim, limit_at, cursor_at, Inside}
use Rattle.tso_model.specs.declared.step.WordStep.{WordStep}
use Rattle.tso_model.specs.declared.step.WordStep.TheVariants.{StoreLimit, ClearLimit, ClaimTerm, SaveEnd, RaiseCursor, LoadCell, LoadLimit, ArmCount, AddArmed}
use Rattle.tso_model.specs.Steps.{May, word_of, word_after, view_after, held, held_or, hand, hand_or, HasHand, knows, new_claim, claimed, saved_window, saved_claim, saves, raised, publishes, looked, refused, batch_of, granted}
use Rattle.tso_model.specs.Sound.{PartA, PartB, PartC, armed_at, KeepsEach, KeepsParts}
use Rattle.tso_model.proofs.Basics.{by_eq, by_bool, at_some}
use Rattle.tso_model.proofs.Growth.{own_number, live_client}
use Rattle.tso_model.proofs.CellA.{packed-same, loads_a, with_claim, won_a, with_newest, newest_is, kept_a}
use Rattle.tso_model.proofs.FrameB.{none_above, loads_b, won_b, kept_b}
use Rattle.tso_model.proofs.DrawB.{in_hand, no_wrap, with_added, with_refusal, the_grant, with_grant, drew, drew_b, granted_b, with_start, raised_b}
use Rattle.tso_model.proofs.OtherA.{with_look, told, looked_a, refused_a, armed_a, drew_a, granted_a, raised_a, published_a, publish_names}
use Rattle.tso_model.proofs.OtherB.{looked_b, refused_b, armed_b, published_b}
use Rattle.tso_model.proofs.StepsC.{loads_c, won_c, kept_c, raised_c, published_c, looked_c, refused_c, armed_c, drew_c, granted_c}
use Rattle.tso_model.specs.Ledger.{drawn_by, place, longer_last, windows_after, batches_after, KeepsLists}
use Rattle.tso_model.proofs.Ledgers.{drawn_another, drawn_placed}

pushed : (c : Claim) (past : List Claim) → map (λ (x : Claim). x.window) (reverse (c ∷ past)) ≡ map (λ (x : Claim). x.window) (reverse past) ++ c.window ∷ []
pushed c past = ap (map (λ (x : Claim). x.window)) (reverse-append (c ∷ []) past) ∙ map_push (λ (x : Claim). x.window) (reverse past) c

pub longer_push : (hi : ℕ) (xs : List Window) (w : Window) → longer_last hi (xs ++ w ∷ []) ≡ xs ++ saved_window hi w ∷ []
longer_push hi [] w = refl
longer_push hi (x ∷ []) w = refl
longer_push hi (x ∷ y ∷ ys) w = ap (λ (l : List Window). x ∷ l) (longer_push hi (y ∷ ys) w)

-- what a step makes of each part and of both lists, with the history that tells of it
record Makes (k : Setup) (words : List ℕ) (views : List View) (ws : List Window) (bs : List Batch) (h : History) (more : List ℕ) (others : List View) (wider : List Window) (further : List Batch) : Type 0 where
  pub history : History
  pub parts : KeepsEach k words views h more others history
  pub windows : PartA k words views h → ws ≡ map (λ (c : Claim). c.window) (reverse (h.newest ∷ h.past)) → wider ≡ map (λ (c : Claim). c.window) (reverse (history.newest ∷ history.past))
  pub batches : PartA k words views h → PartB k words views h → bs ≡ drawn_by h.drawn (h.newest ∷ h.past) → further ≡ drawn_by history.drawn (history.newest ∷ history.past)

module _ (k : Setup) (words : List ℕ) (views : List View) (ws : List Window) (bs : List Batch) (h : History) (id : ℕ) (v : View) (at : get_elem? views id ≡ some v) where
  known : 0 < v.driver → Makes k words views ws bs h (slice_set words 0 (slice_index words 0)) (slice_set views id (knows (cell_of (slice_index words 0)) v)) ws bs
  known pos = record {
    history = h;
    parts = record {
      a = λ a. loads_a k words views h id v a at pos;
      b = λ a b. loads_b k words views h id v a b at pos;
      c = λ _ _ c. loads_c k words views (slice_set views id (knows (cell_of (slice_index words 0)) v)) h (slice_index words 0) c;
    };
    windows = λ _ same. same;
    batches = λ _ _ same. same;
  }

  next_term : PartA k words views h → May k ClaimTerm v → slice_index words 0 ≡ cell_word v.cell → (h.newest.window.hi ≡ v.cell.saved) × (h.newest.window.term ≡ v.cell.term)
  next_term a may hit = packed-same h.newest.window.hi h.newest.window.term v.cell.saved v.cell.term a.in_terms (omega (arith, may.1)) (sym a.cell ∙ hit)

  claims_new : May k ClaimTerm v → slice_index words 0 ≡ cell_word v.cell → Makes k words views ws bs h (slice_set words 0 (packed v.cell.saved (v.cell.term + 1))) (slice_set views id (claimed v)) (ws ++ (new_claim v).window ∷ []) bs
  claims_new may hit = record {
    history = with_claim h (new_claim v);
    parts = record {
      a = λ a. won_a k words views h id v a at may hit;
      b = λ a b. won_b k words views h id v a b at may hit;
      c = λ a _ c. let same = next_term a may hit in won_c k words views (slice_set views id (claimed v)) h (packed v.cell.saved (v.cell.term + 1)) (new_claim v) c (omega (arith, same.1)) (omega (arith, same.0));
    };
    windows = λ _ same. ap (λ (l : List Window). l ++ (new_claim v).window ∷ []) same ∙ sym (pushed (new_claim v) (h.newest ∷ h.past));
    batches = λ a b same. let next = next_term a may hit in same ∙ sym (drawn_another h.drawn (new_claim v) (h.newest ∷ h.past) (none_above k words views h a b (v.cell.term + 1) (omega (arith, next.1))));
  }

  saves_longer : (hi : ℕ) (c : Claim) → 0 < v.driver → v.holds ≡ true → v.latest ≡ Some c → c.window.hi < hi → hi < 2 ^ 45 → slice_index words 0 ≡ packed c.window.hi c.window.term
      → Makes k words views ws bs h (slice_set words 0 (packed hi c.window.term)) (slice_set views id (saves hi v (Some c))) (longer_last hi ws) bs
  saves_longer hi c pos holds is above small hit = record {
    history = with_newest h (saved_claim hi h.newest);
    parts = record {
      a = λ a. kept_a k words views h id hi v c a at pos holds is above small hit;
      b = λ a b. kept_b k words views h id hi v c a b at pos is above hit;
      c = λ a _ s. let is_newest = newest_is k words views h id v c a at pos is hit in
          kept_c k words views (slice_set views id (saves hi v (Some c))) h (packed hi c.window.term) hi s (omega (arith, above, ap (λ (y : Claim). y.window.hi) is_newest));
    };
    windows = λ _ same. ap (longer_last hi) (same ∙ pushed h.newest h.past) ∙ longer_push hi (map (λ (x : Claim). x.window) (reverse h.past)) h.newest.window ∙ sym (pushed (saved_claim hi h.newest) h.past);
    batches = λ _ _ same. same;
  }

  publishes_one : (x : ℕ) (w : View) → 0 < v.driver → (PartA k words views h → x ≢ 0 → Names h v.driver (x % 262144) (x / 262144)) → (w ≡ publishes x v) ⊎ (w ≡ record (publishes x v) { holds = false; marked = false })
      → w.seen ≡ v.seen → w.hand ≡ v.hand → w.armed ≡ v.armed → w.quota ≡ v.quota → ((d : ℕ) → armed_at d w ≡ armed_at d v)
      → Makes k words views ws bs h (slice_set words (limit_at v.driver) x) (slice_set views id w) ws bs
  publishes_one x w pos names is seen hands armed quota all = record {
    history = told h v.driver x;
    parts = record {
      a = λ a. published_a k words views h id x v w a at pos (names a) is;
      b = λ a b. published_b k words views h id x v w a b at pos seen hands armed quota all;
      c = λ a _ c. published_c k words views (slice_set views id w) h v.driver x a c pos (own_number k words views h id v a at pos);
    };
    windows = λ _ same. same;
    batches = λ _ _ same. same;
  }

  -- the driver of the limit in hand
  aim : PartA k words views h → 0 < v.client → HasHand v → 0 < (hand v).driver
  aim a pos has = subst (λ (l : Limit). 0 < l.driver) (sym (ap hand_or has.1)) (at_some v.hand _ (a.each id v at (live_client k words views h id v a at pos)).aims has.0 has.1).0

  -- the batch in its place
  granted_list : PartA k words views h → PartB k words views h → 0 < v.client → HasHand v → (x : ℕ) → bs ≡ drawn_by h.drawn (h.newest ∷ h.past) → place (batch_of x v) bs ≡ drawn_by (with_grant (with_added h v) v x).drawn (h.newest ∷ h.past)
  granted_list a b pos has x same =
      let name = (in_hand words h v (b.each id v at (live_client k words views h id v a at pos)) has).0 in
      ap (place (batch_of x v)) same
      ∙ sym (drawn_placed (opening_claim k.cell) h.newest h.past h.drawn (the_grant v x) name.claim a.chain name.stands name.term_is
      (λ e z. All-weaker (λ (g : Grant). Inside e.window g.batch) (λ (g : Grant). g.batch.term ≡ e.window.term) (λ g i. i.0) (h.drawn e.window.term) (b.inside e z)))

makes : (k : Setup) (id : ℕ) (kind : WordStep) (v : View) → May k kind v → (words : List ℕ) (views : List View) (ws : List Window) (bs : List Batch) (h : History) → get_elem? views id ≡ some v
    → Makes k words views ws bs h (slice_set words (word_of kind v) (word_after kind v (slice_index words (word_of kind v)))) (slice_set views id (view_after kind (slice_index words (word_of kind v)) v))
    (windows_after kind (slice_index words (word_of kind v)) v ws) (batches_after kind (slice_index words (word_of kind v)) v bs)
makes k id LoadCell v may words views ws bs h at = known k words views ws bs h id v at may
makes k id ClaimTerm v may words views ws bs h at =
    by_eq (λ b. Makes k words views ws bs h (slice_set words 0 (cond b (packed v.cell.saved (v.cell.term + 1)) (slice_index words 0))) (slice_set views id (cond b (claimed v) (knows (cell_of (slice_index words 0)) v))) (cond b (ws ++ (new_claim v).window ∷ []) ws) bs) (slice_index words 0) (cell_word v.cell)
    (λ hit. claims_new k words views ws bs h id v at may hit)
    (λ _. known k words views ws bs h id v at may.0)
makes k id (SaveEnd hi) v may words views ws bs h at =
    let c = may.2.0 in
    let is : v.latest ≡ Some c = may.2.1 in
    subst (λ (o : Option Claim). Makes k words views ws bs h (slice_set words 0 (cond (eqb (slice_index words 0) (packed (held_or o).hi (held_or o).term)) (packed hi (held_or o).term) (slice_index words 0))) (slice_set views id (cond (eqb (slice_index words 0) (packed (held_or o).hi (held_or o).term)) (saves hi v o) (knows (cell_of (slice_index words 0)) v))) (cond (eqb (slice_index words 0) (packed (held_or o).hi (held_or o).term)) (longer_last hi ws) ws) bs) (sym is)
    (by_eq (λ b. Makes k words views ws bs h (slice_set words 0 (cond b (packed hi c.window.term) (slice_index words 0))) (slice_set views id (cond b (saves hi v (Some c)) (knows (cell_of (slice_index words 0)) v))) (cond b (longer_last hi ws) ws) bs) (slice_index words 0) (packed c.window.hi c.window.term)
    (λ hit. saves_longer k words views ws bs h id v at hi c may.0 may.1 is (omega (arith, may.3, ap (λ (o : Option Claim). (held_or o).hi) is)) may.4 hit)
    (λ _. known k words views ws bs h id v at may.0))
makes k id (RaiseCursor n) v may words views ws bs h at = record {
  history = with_start h v n (slice_index words (cursor_at v.driver));
  parts = record {
    a = λ a. raised_a k words views h id n (max (slice_index words (cursor_at v.driver)) n) v a at may;
    b = λ a b. raised_b k words views h id n v a b at may;
    c = λ a b c. raised_c k words views (slice_set views id (raised n (slice_index words (cursor_at v.driver)) v)) h id n v a b c at may;
  };
  windows = λ _ same. same;
  batches = λ _ _ same. same;
}
makes k id StoreLimit v may words views ws bs h at = publishes_one k words views ws bs h id v at (packed (held v).hi (held v).term) (publishes (packed (held v).hi (held v).term) v) may.0
    (λ a _. publish_names k words views h id v a at may) (inl refl) refl refl refl refl (λ d. refl)
makes k id ClearLimit v may words views ws bs h at = publishes_one k words views ws bs h id v at 0 (record (publishes 0 v) { holds = false; marked = false }) may
    (λ _ nz. absurd (nz refl)) (inr refl) refl refl refl refl (λ d. refl)
makes k id (LoadLimit d) v may words views ws bs h at = record {
  history = with_look h v d (slice_index words (limit_at d));
  parts = record {
    a = λ a. looked_a k words views h id d v a at may;
    b = λ a b. looked_b k words views h id d v a b at may;
    c = λ a b c. looked_c k words views (slice_set views id (looked d (slice_index words (limit_at d)) v)) h id d v a b c at may;
  };
  windows = λ _ same. same;
  batches = λ _ _ same. same;
}
makes k id (ArmCount n) v may words views ws bs h at =
    let i = cursor_at (hand v).driver in
    let x = slice_index words i in
    let aims = aim k words views ws bs h id v at in
    by_bool (λ t. Makes k words views ws bs h (slice_set words i x) (slice_set views id (cond t (refused x n v) (record v { armed = n }))) ws bs) (passes x (hand v).hi n)
    (λ full. record {
      history = with_refusal h v x n;
      parts = record {
        a = λ a. refused_a k words views h id n v a at may.0 (aims a may.0 may.1);
        b = λ a b. refused_b k words views h id n v a b at may.0;
        c = λ a b c. refused_c k words views (slice_set views id (refused x n v)) h id n v a b c at may.0 may.1 full;
      };
      windows = λ _ same. same;
      batches = λ _ _ same. same;
    })
    (λ fit. record {
      history = h;
      parts = record {
        a = λ a. armed_a k words views h id n v a at may.0 (aims a may.0 may.1);
        b = λ a b. armed_b k words views h id n v a b at may fit;
        c = λ _ _ c. armed_c k words views (slice_set views id (record v { armed = n })) h i c;
      };
      windows = λ _ same. same;
      batches = λ _ _ same. same;
    })
makes k id AddArmed v may words views ws bs h at =
    let i = cursor_at (hand v).driver in
    let x = slice_index words i in
    let m = (x + v.armed) % 2 ^ 64 in
    let aims = aim k words views ws bs h id v at in
    let whole : PartA k words views h → PartB k words views h → x + v.armed ≡ m = λ a b. sym (no_wrap k words views h id v a b at may.0 may.1) in
    by_bool (λ t. Makes k words views ws bs h (slice_set words i m) (slice_set views id (cond t (drew x v) (granted x v))) ws (cond t bs (place (batch_of x v) bs))) (passes x (hand v).hi v.armed)
    (λ full. record {
      history = with_refusal (with_added h v) v x v.armed;
      parts = record {
        a = λ a. drew_a k words views h id m v a at may.0 (aims a may.0 may.1);
        b = λ a b. subst (λ (y : ℕ). PartB k (slice_set words i y) (slice_set views id (drew x v)) (with_refusal (with_added h v) v x v.armed)) (whole a b) (drew_b k words views h id v a b at may);
        c = λ a b c. subst (λ (y : ℕ). PartC k (slice_set words i y) (slice_set views id (drew x v)) (with_refusal (with_added h v) v x v.armed)) (whole a b) (drew_c k words views (slice_set views id (drew x v)) h id v a b c at may full);
      };
      windows = λ _ same. same;
      batches = λ _ _ same. same;
    })
    (λ fit. record {
      history = with_grant (with_added h v) v x;
      parts = record {
        a = λ a. granted_a k words views h id m v a at may.0 (aims a may.0 may.1);
        b = λ a b. subst (λ (y : ℕ). PartB k (slice_set words i y) (slice_set views id (granted x v)) (with_grant (with_added h v) v x)) (whole a b) (granted_b k words views h id v a b at may fit);
        c = λ a b c. subst (λ (y : ℕ). PartC k (slice_set words i y) (slice_set views id (granted x v)) (with_grant (with_added h v) v x)) (whole a b) (granted_c k words views (slice_set views id (granted x v)) h id v a b c at may);
      };
      windows = λ _ same. same;
      batches = λ a b same. granted_list k words views ws bs h id v at a b may.0 may.1 x same;
    })

pub keeps_parts : (k : Setup) (id : ℕ) (kind : WordStep) (v : View) → May k kind v → KeepsParts k id kind v
keeps_parts k id kind v may words views h at = let m = makes k id kind v may words views [] [] h at in (m.history, m.parts)

pub keeps_lists : (k : Setup) (id : ℕ) (kind : WordStep) (v : View) → May k kind v → KeepsLists k id kind v
keeps_lists k id kind v may words views ws bs s at = let m = makes k id kind v may words views ws bs s.history at in record {
  history = m.history;
  a = m.parts.a s.a;
  b = m.parts.b s.a s.b;
  c = m.parts.c s.a s.b s.c;
  windows_are = m.windows s.a s.windows_are;
  batches_are = m.batches s.a s.b s.batches_are;
}
