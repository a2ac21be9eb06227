-- Part B: steps that draw nothing.
use Rattle.std.proofs.Common.{◌≡◌, ◌≢◌, ℕ, ◌+◌, ◌*◌, ◌<◌, ◌≤◌, ◌⊎◌, List, [], ◌∷◌, set, sym, refl, ap, ◌∙◌, subst, ⊎_elim, arith, get_or-set_other}
use Rattle.std.specs.Prelude.{Option, Some, IfSome, All, Contains, slice_index, slice_set}
use mathlib.Core.Option.{some}
use lib.ListN.{get_elem?}
use Rattle.tso_model.proofs.ListAt.{at_set}
use Rattle.pd_types.specs.declared.oracle.Window.{Window}
use Rattle.pd_types.specs.declared.oracle.Seen.{Seen}
use Rattle.tso_model.specs.declared.entries.Claim.{Claim}
use Rattle.tso_model.specs.declared.view.View.{View}
use Rattle.tso_model.specs.declared.entries.Limit.{Limit}
use Rattle.tso_model.specs.declared.entries.Grant.{Grant}
use Rattle.tso_model.specs.declared.view.Setup.{Setup}
use Rattle.tso_model.specs.Lists.{total}
use Rattle.tso_model.specs.History.{History, Names, Stands, Extends, greatest}
use Rattle.tso_model.proofs.Sums.{total-set}
use Rattle.std.proofs.lemmas.List.Elements.{All-nil, All-weaker}
use Rattle.std.specs.Prelude.{map}
use Rattle.pd_types.specs.declared.oracle.Batch.{Batch}
use Rattle.tso_model.specs.Words.{packed, cell_of, cell_word, IsOpen, opening_claim, limit_at, cursor_at, Inside, Falls}
use Rattle.tso_model.specs.declared.step.WordStep.TheVariants.{ClaimTerm}
use Rattle.tso_model.specs.Steps.{May, hand, knows, new_claim, claimed, saved_claim, saves}
use Rattle.tso_model.specs.Moves.{nothing_seen}
use Rattle.tso_model.specs.Sound.{PartA, FitsB, IsSeen, PartB, armed_at}
use Rattle.tso_model.proofs.Basics.{chain_le}
use Rattle.tso_model.proofs.Growth.{longer, another, Grow, maker, fitsB_later, live_driver, Later}
use Rattle.tso_model.proofs.CellA.{packed-same, itself, with_claim, saved_extends, with_newest, newest_is}
use Rattle.std.proofs.lemmas.List.Elements.{All-head}

pub inside_later : (c e : Claim) (b : Batch) → Extends c e → Inside c.window b → Inside e.window b
inside_later c e b x i = (i.0 ∙ sym x.term, i.1 ∙ sym x.driver, omega (arith, i.2, x.lo i.2, x.hi), i.3, omega (arith, i.4, x.lo i.2), omega (arith, i.5, x.hi), i.6)

pub falls_up : (c d : ℕ) (gs : List Grant) → ((g : Grant) (rest : List Grant) → gs ≡ g ∷ rest → c ≤ d) → Falls c (map (λ (g : Grant). g.batch) gs) → Falls d (map (λ (g : Grant). g.batch) gs)
falls_up c d [] le h = tt
falls_up c d (g ∷ gs) le h = (omega (arith, h.0, le g gs refl), h.1)

-- a window with a batch inside is open
pub open_if : (w : Window) (gs : List Grant) (g : Grant) (rest : List Grant) → All (λ (x : Grant). Inside w x.batch) gs → gs ≡ g ∷ rest → IsOpen w
open_if w gs g rest all e = (All-head (λ (x : Grant). Inside w x.batch) g rest (subst (All (λ (x : Grant). Inside w x.batch)) e all)).2

pub none_above : (k : Setup) (words : List ℕ) (views : List View) (h : History) → PartA k words views h → PartB k words views h → (t : ℕ) → h.newest.window.term < t → h.drawn t ≡ []
none_above k words views h a s t above = s.none_else t (λ c stands e. omega (arith, e, above, (chain_le (opening_claim k.cell) h.newest h.past a.chain c stands).1))

-- the batches of an older history lie in the windows of a later one
pub inside_kept : (k : Setup) (words : List ℕ) (views : List View) (h g : History) → PartA k words views h → PartB k words views h → Later h g
    → (e : Claim) → Stands g e → All (λ (x : Grant). Inside e.window x.batch) (h.drawn e.window.term)
inside_kept k words views h g a s l e stands = ⊎_elim
    (λ (b : (c : Claim) × Stands h c × Extends c e). subst (λ (t : ℕ). All (λ (x : Grant). Inside e.window x.batch) (h.drawn t)) (sym b.2.term)
    (All-weaker (λ (x : Grant). Inside b.0.window x.batch) (λ (x : Grant). Inside e.window x.batch) (λ x i. inside_later b.0 e x.batch b.2 i) (h.drawn b.0.window.term) (s.inside b.0 b.1)))
    (λ (above : h.newest.window.term < e.window.term). subst (All (λ (x : Grant). Inside e.window x.batch)) (sym (none_above k words views h a s e.window.term above)) (All-nil (λ (x : Grant). Inside e.window x.batch)))
    (l.back e stands)

pub falls_kept : (k : Setup) (words more : List ℕ) (views : List View) (h g : History) → PartA k words views h → PartB k words views h → Later h g → Grow k words more
    → (e : Claim) → Stands g e → Falls (slice_index more (cursor_at e.window.driver)) (map (λ (x : Grant). x.batch) (h.drawn e.window.term))
falls_kept k words more views h g a s l grow e stands = ⊎_elim
    (λ (b : (c : Claim) × Stands h c × Extends c e).
    subst (λ (t : ℕ). Falls (slice_index more (cursor_at t)) (map (λ (x : Grant). x.batch) (h.drawn e.window.term))) (sym b.2.driver)
    (subst (λ (t : ℕ). Falls (slice_index more (cursor_at b.0.window.driver)) (map (λ (x : Grant). x.batch) (h.drawn t))) (sym b.2.term)
    (falls_up (slice_index words (cursor_at b.0.window.driver)) (slice_index more (cursor_at b.0.window.driver)) (h.drawn b.0.window.term)
    (λ x rest is. let own = maker k words views h b.0 a b.1 (open_if b.0.window (h.drawn b.0.window.term) x rest (s.inside b.0 b.1) is) in grow b.0.window.driver own.0 own.1)
    (s.falls b.0 b.1))))
    (λ (above : h.newest.window.term < e.window.term). subst (λ (xs : List Grant). Falls (slice_index more (cursor_at e.window.driver)) (map (λ (x : Grant). x.batch) xs)) (sym (none_above k words views h a s e.window.term above)) tt)
    (l.back e stands)

-- WHAT A STEP OWES FOR PART B, where nothing is drawn
pub record OwesB (k : Setup) (words : List ℕ) (views : List View) (h : History) (id : ℕ) (v : View) (more : List ℕ) (g : History) (w : View) : Type 0 where
  pub later : Later h g
  pub drawn : (t : ℕ) → g.drawn t ≡ h.drawn t
  pub grow : Grow k words more
  pub quota : w.quota ≡ v.quota
  pub cursors : (d : ℕ) → 0 < d → d ≤ k.drivers → slice_index more (cursor_at d) + total (armed_at d) (set views id w) ≤ (g.newest.window.hi + 64) * 262144
  pub raised : (d : ℕ) → 0 < d → d ≤ k.drivers → greatest d g.starts ≤ slice_index more (cursor_at d)
  pub own : FitsB more g w

pub step_b : (k : Setup) (words : List ℕ) (views : List View) (h : History) (id : ℕ) (v : View) (more : List ℕ) (g : History) (w : View)
    → PartA k words views h → PartB k words views h → get_elem? views id ≡ some v → OwesB k words views h id v more g w → PartB k more (set views id w) g
step_b k words views h id v more g w a s at o = record {
  inside = λ e stands. subst (All (λ (x : Grant). Inside e.window x.batch)) (sym (o.drawn e.window.term)) (inside_kept k words views h g a s o.later e stands);
  falls = λ e stands. subst (λ (xs : List Grant). Falls (slice_index more (cursor_at e.window.driver)) (map (λ (x : Grant). x.batch) xs)) (sym (o.drawn e.window.term)) (falls_kept k words more views h g a s o.later o.grow e stands);
  none_else = λ t none. o.drawn t ∙ s.none_else t (λ c stands e. let x = o.later.claims c stands in none x.0 x.1 (x.2.term ∙ e));
  quotas = omega (arith, total-set (λ u. u.quota) views id v w at, o.quota, s.quotas);
  cursors = o.cursors;
  raised = o.raised;
  each = λ j u e l. ⊎_elim
      (λ (x : (j ≡ id) × (w ≡ u)). subst (FitsB more g) x.1 o.own)
      (λ (x : (j ≢ id) × (get_elem? views j ≡ some u)). fitsB_later k words more views h g u a o.later o.grow (s.each j u x.1 l))
      (at_set views id j w u e);
}

-- a step that leaves the cursors and what is armed
pub still_b : (k : Setup) (words : List ℕ) (views : List View) (h : History) (id : ℕ) (v : View) (more : List ℕ) (g : History) (w : View)
    → PartA k words views h → PartB k words views h → get_elem? views id ≡ some v → Later h g → ((t : ℕ) → g.drawn t ≡ h.drawn t) → ((d : ℕ) → 0 < d → slice_index more (cursor_at d) ≡ slice_index words (cursor_at d))
    → w.quota ≡ v.quota → ((d : ℕ) → armed_at d w ≤ armed_at d v) → ((d : ℕ) → greatest d g.starts ≡ greatest d h.starts) → FitsB more g w → PartB k more (set views id w) g
still_b k words views h id v more g w a s at later drawn same quota armed starts own = step_b k words views h id v more g w a s at record {
  later = later;
  drawn = drawn;
  grow = λ d pos le. omega (arith, same d pos);
  quota = quota;
  cursors = λ d pos le. omega (arith, same d pos, total-set (armed_at d) views id v w at, armed d, s.cursors d pos le, later.hi);
  raised = λ d pos le. omega (arith, starts d, same d pos, s.raised d pos le);
  own = own;
}

pub cell_cursor : (words : List ℕ) (x d : ℕ) → 0 < d → slice_index (slice_set words 0 x) (cursor_at d) ≡ slice_index words (cursor_at d)
cell_cursor words x d pos = get_or-set_other words 0 (cursor_at d) x 0 (λ (e : cursor_at d ≡ 0). omega (arith, e, pos))

pub limit_cursor : (words : List ℕ) (x d e : ℕ) → 0 < d → 0 < e → slice_index (slice_set words (limit_at e) x) (cursor_at d) ≡ slice_index words (cursor_at d)
limit_cursor words x d e pos pos' = get_or-set_other words (limit_at e) (cursor_at d) x 0 (λ (z : cursor_at d ≡ limit_at e). omega (arith, z, pos, pos'))

-- a load of the cell, a campaign, a save: the view changes nothing that part B reads
pub cell_b : (k : Setup) (words : List ℕ) (views : List View) (h : History) (id : ℕ) (v : View) (x : ℕ) (g : History) (w : View)
    → PartA k words views h → PartB k words views h → get_elem? views id ≡ some v → Later h g → ((t : ℕ) → g.drawn t ≡ h.drawn t) → w.quota ≡ v.quota → ((d : ℕ) → armed_at d w ≡ armed_at d v) → ((d : ℕ) → greatest d g.starts ≡ greatest d h.starts) → FitsB words h w
    → PartB k (slice_set words 0 x) (slice_set views id w) g
cell_b k words views h id v x g w a s at later drawn quota armed starts own = still_b k words views h id v (slice_set words 0 x) g w a s at later drawn (cell_cursor words x) quota (λ d. omega (arith, armed d)) starts
    (fitsB_later k words (slice_set words 0 x) views h g w a later (λ d pos le. omega (arith, cell_cursor words x d pos)) own)

pub same_fits : (words : List ℕ) (h : History) (v w : View) → FitsB words h v → w.seen ≡ v.seen → w.hand ≡ v.hand → w.armed ≡ v.armed → w.quota ≡ v.quota → FitsB words h w
same_fits words h v w f seen hand armed quota = record {
  seen = subst (λ (x : Seen). (x ≡ nothing_seen) ⊎ IsSeen words h x) (sym seen) f.seen;
  hand_is = subst (λ (x : Seen). IfSome w.hand (λ l. Names h l.driver l.term l.hi × Contains h.published (record { driver = l.driver; word = packed l.hi l.term }) × (x.term ≤ l.term))) (sym seen)
      (subst (λ (o : Option Limit). IfSome o (λ l. Names h l.driver l.term l.hi × Contains h.published (record { driver = l.driver; word = packed l.hi l.term }) × (v.seen.term ≤ l.term))) (sym hand) f.hand_is);
  armed = (omega (arith, f.armed.0, armed, quota), λ pos. let t = f.armed.1 (omega (arith, pos, armed)) in (t.0, hand ∙ t.1));
}

pub loads_b : (k : Setup) (words : List ℕ) (views : List View) (h : History) (id : ℕ) (v : View) → PartA k words views h → PartB k words views h → get_elem? views id ≡ some v → 0 < v.driver
    → PartB k (slice_set words 0 (slice_index words 0)) (slice_set views id (knows (cell_of (slice_index words 0)) v)) h
loads_b k words views h id v a s at pos = cell_b k words views h id v (slice_index words 0) h (knows (cell_of (slice_index words 0)) v) a s at (itself h) (λ t. refl) refl (λ d. refl) (λ d. refl)
    (same_fits words h v (knows (cell_of (slice_index words 0)) v) (s.each id v at (live_driver k words views h id v a at pos)) refl refl refl refl)

pub won_b : (k : Setup) (words : List ℕ) (views : List View) (h : History) (id : ℕ) (v : View) → PartA k words views h → PartB k words views h → get_elem? views id ≡ some v → May k ClaimTerm v → slice_index words 0 ≡ cell_word v.cell
    → PartB k (slice_set words 0 (packed v.cell.saved (v.cell.term + 1))) (slice_set views id (claimed v)) (with_claim h (new_claim v))
won_b k words views h id v a s at may hit =
    let same = packed-same h.newest.window.hi h.newest.window.term v.cell.saved v.cell.term a.in_terms (omega (arith, may.1)) (sym a.cell ∙ hit) in
    cell_b k words views h id v (packed v.cell.saved (v.cell.term + 1)) (with_claim h (new_claim v)) (claimed v) a s at (another h (new_claim v) (omega (arith, same.1)) (omega (arith, same.0))) (λ t. refl) refl (λ d. refl) (λ d. refl)
    (same_fits words h v (claimed v) (s.each id v at (live_driver k words views h id v a at may.0)) refl refl refl refl)

pub kept_b : (k : Setup) (words : List ℕ) (views : List View) (h : History) (id hi : ℕ) (v : View) (c : Claim) → PartA k words views h → PartB k words views h → get_elem? views id ≡ some v → 0 < v.driver → v.latest ≡ Some c → c.window.hi < hi
    → slice_index words 0 ≡ packed c.window.hi c.window.term
    → PartB k (slice_set words 0 (packed hi c.window.term)) (slice_set views id (saves hi v (Some c))) (with_newest h (saved_claim hi h.newest))
kept_b k words views h id hi v c a s at pos is above hit =
    let is_newest = newest_is k words views h id v c a at pos is hit in
    cell_b k words views h id v (packed hi c.window.term) (with_newest h (saved_claim hi h.newest)) (saves hi v (Some c)) a s at
    (longer h (saved_claim hi h.newest) (saved_extends hi h.newest (omega (arith, above, ap (λ (y : Claim). y.window.hi) is_newest)))) (λ t. refl) refl (λ d. refl) (λ d. refl)
    (same_fits words h v (saves hi v (Some c)) (s.each id v at (live_driver k words views h id v a at pos)) refl refl refl refl)
