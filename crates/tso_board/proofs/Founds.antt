-- What the board's calls tell, from the rule of its words: what a step finds in a sound state.
use Rattle.std.proofs.Common.{◌≡◌, ◌≢◌, ℕ, ◌+◌, ◌%◌, ◌<◌, cond, true, false, sym, refl, ap, ◌∙◌, arith, eq-eqb, ne_eqb, List}
use Rattle.std.specs.Prelude.{Option, Some, slice_index}
use mathlib.Core.Option.{some}
use lib.ListN.{get_elem?}
use Rattle.pd_types.specs.declared.oracle.CellWord.{CellWord}
use Rattle.tso_model.specs.declared.entries.Claim.{Claim}
use Rattle.tso_model.specs.declared.view.View.{View}
use Rattle.tso_model.specs.declared.view.Setup.{Setup}
use Rattle.tso_model.specs.declared.step.WordStep.TheVariants.{LoadCell, ClaimTerm, SaveEnd, AddArmed}
use Rattle.tso_model.specs.Words.{packed, cell_of, cell_word, passes, cursor_at, IsCell}
use Rattle.tso_model.specs.History.{History}
use Rattle.tso_model.specs.Steps.{view_after, held, held_or, hand, HasHand, knows, claimed, saves, granted, refused, adds, batch_of}
use Rattle.tso_model.specs.Sound.{PartA, PartB, IsAbove}
use Rattle.tso_model.proofs.Basics.{at_some}
use Rattle.tso_model.proofs.Growth.{live_driver}
use Rattle.tso_model.proofs.Learned.{found_cell, cell_rises, beaten, lost, unseen}
use Rattle.tso_board.specs.Told.{Rises, Missed, Read, Claimed, Saved, Drawn, NotDrawn}
use Rattle.tso_board.specs.Told.{IsHigher}

module _ (k : Setup) (words : List ℕ) (views : List View) (h : History) (id : ℕ) (v : View) (a : PartA k words views h) (at : get_elem? views id ≡ some v) (driver : 0 < v.driver) where
  abbrev found : ℕ
  found = slice_index words 0

  live : v.spent ≡ false
  live = live_driver k words views h id v a at driver

  higher : (term : ℕ) → IsAbove k v term → IsHigher v term
  higher term above = (omega (arith, above.0, ap (λ (x : CellWord). x.term) (a.each id v at live).opening), above.1)

  is_cell : IsCell (cell_of found)
  is_cell = let r = cell_rises k words views h id v a at live in record { saved = r.1; term = omega arith }

  rises : Rises v.cell (cell_of found)
  rises = let r = cell_rises k words views h id v a at live in record { term = r.2; saved = r.3 }

  -- K1
  pub reads : Read (cell_of found) v (view_after LoadCell found v)
  reads = record { view = refl; cell = is_cell; rises = rises }

  -- K2
  pub claims_term : found ≡ cell_word v.cell → Claimed (v.cell.term + 1) v (view_after ClaimTerm found v)
  claims_term e = record { term_is = refl; view = ap (λ b. cond b (claimed v) (knows (cell_of found) v)) (eq-eqb found (cell_word v.cell) e) }

  pub misses_term : found ≢ cell_word v.cell → Missed (cell_of found) v (view_after ClaimTerm found v)
  misses_term ne = record {
    view = ap (λ b. cond b (claimed v) (knows (cell_of found) v)) (ne_eqb found (cell_word v.cell) ne);
    cell = is_cell;
    rises = rises;
    higher = higher (found % 262144) (beaten k words views h id v a at driver ne);
  }

  -- K3
  module _ (c : Claim) (own : v.latest ≡ Some c) (hi : ℕ) where
    pub saves_end : found ≡ packed (held v).hi (held v).term → Saved hi v (view_after (SaveEnd hi) found v)
    saves_end e =
        let r = cell_rises k words views h id v a at live in
        let f = found_cell k words views h a in
        let term : (held v).term < 262144 = latest_low in
        record {
          view = ap (λ b. cond b (saves hi v v.latest) (knows (cell_of found) v)) (eq-eqb found (packed (held v).hi (held v).term) e);
          rises = record { term = omega (arith, r.2, e, term); saved = omega (arith, r.3, e, term) };
        }
      where
        latest_low : (held v).term < 262144
        latest_low =
            let mine = at_some v.latest _ (a.each id v at live).latest c own in
            let same : (held v).term ≡ c.window.term = ap (λ (o : Option Claim). (held_or o).term) own in
            omega (arith, mine.1, same, (a.each id v at live).term.1, a.in_terms)

    pub misses_end : found ≢ packed (held v).hi (held v).term → Missed (cell_of found) v (view_after (SaveEnd hi) found v)
    misses_end ne = record {
      view = ap (λ b. cond b (saves hi v v.latest) (knows (cell_of found) v)) (ne_eqb found (packed (held v).hi (held v).term) ne);
      cell = is_cell;
      rises = rises;
      higher = higher (found % 262144) (lost k words views h id v c a at driver own (λ e. ne (e ∙ sym (ap (λ (o : Option Claim). packed (held_or o).hi (held_or o).term) own))));
    }

-- K8
module _ (k : Setup) (words : List ℕ) (views : List View) (h : History) (id : ℕ) (v : View) (a : PartA k words views h) (b : PartB k words views h) (at : get_elem? views id ≡ some v) (client : 0 < v.client) (has : HasHand v) where
  abbrev drawn_at : ℕ
  drawn_at = slice_index words (cursor_at (hand v).driver)

  pub draws : passes drawn_at (hand v).hi v.armed ≡ false → Drawn (batch_of drawn_at v) v (view_after AddArmed drawn_at v)
  draws e = record {
    at = drawn_at;
    fits = e;
    batch = refl;
    view = ap (λ t. cond t (record (refused drawn_at v.armed v) { added = (adds v).added }) (granted drawn_at v)) e;
    unseen = (unseen k words views h id v a b at client has).0;
  }

  pub misses_draw : passes drawn_at (hand v).hi v.armed ≡ true → NotDrawn drawn_at v (view_after AddArmed drawn_at v)
  misses_draw e = record { passed = e; view = ap (λ t. cond t (record (refused drawn_at v.armed v) { added = (adds v).added }) (granted drawn_at v)) e }
