-- What a sound state gives a step: no number that it uses is out of range.
use Rattle.std.proofs.Common.{◌≡◌, ℕ, zero, suc, ◌+◌, ◌^◌, ◌<◌, ◌≤◌, false, List, [], ◌∷◌, length, get_or, sym, refl, subst, arith}
use Rattle.std.specs.Prelude.{Option, None, Some, All, slice_index}
use Rattle.std.specs.List.Sorted.{IsNonDecreasingBy}
use mathlib.Core.Logic.{dite}
use mathlib.Core.Option.{some}
use native.Mathlib.Decide.{ℕ_discrete}
use lib.ListN.{get_elem?}
use Rattle.pd_types.specs.declared.oracle.Batch.{Batch}
use Rattle.tso_model.specs.declared.entries.Claim.{Claim}
use Rattle.tso_model.specs.declared.view.View.{View}
use Rattle.tso_model.specs.declared.view.Setup.{Setup}
use Rattle.tso_model.specs.declared.step.WordStep.{WordStep}
use Rattle.tso_model.specs.declared.step.WordStep.TheVariants.{ClaimTerm, SaveEnd, RaiseCursor, StoreLimit, ClearLimit, LoadLimit, ArmCount, AddArmed}
use Rattle.tso_model.specs.Words.{limit_at, cursor_at, opening_claim}
use Rattle.tso_model.specs.History.{History, added_by}
use Rattle.tso_model.specs.Steps.{May, word_of, held_or, hand, HasHand}
use Rattle.tso_model.specs.Sound.{PartA, PartB, PartC}
use Rattle.tso_model.specs.Ledger.{Climb, drawn_by}
use Rattle.tso_model.proofs.Basics.{at_some, chain_le, added_parts}
use Rattle.tso_model.proofs.Growth.{latest_stands, own_number}
use Rattle.tso_model.proofs.DrawB.{in_hand, hand_driver}
use Rattle.tso_model.proofs.Learned.{cell_rises}
use Rattle.tso_model.proofs.Ledgers.{draw_list}
use Rattle.tso_core.specs.Ready.{word_end, CellFits, HeldFits, HandFits, Suits}

-- the step can be made without a number out of range, where it finds this word and these batches
pub record IsReady (step : WordStep) (words : List ℕ) (batches : List Batch) (v : View) : Type 0 where
  pub place : word_of step v < length words
  pub suits : Suits step v
  pub found : slice_index words (word_of step v) < word_end
  pub sorted : IsNonDecreasingBy (λ (b : Batch). b.term) batches

-- batches by term never fall in term
climb_least : (low t : ℕ) (bs : List Batch) (high u : ℕ) → Climb low t bs high u → (i : ℕ) (d : Batch) → i < length bs → t ≤ (get_or bs i d).term
climb_least low t [] high u rises i d within = absurd (omega arith)
climb_least low t (b ∷ bs) high u rises zero d within = rises.1
climb_least low t (b ∷ bs) high u rises (suc i) d within = omega (arith, rises.1, climb_least b.last b.term bs high u rises.2 i d (omega arith))

pub climb_sorted : (low t : ℕ) (bs : List Batch) (high u : ℕ) → Climb low t bs high u → IsNonDecreasingBy (λ (b : Batch). b.term) bs
climb_sorted low t [] high u rises i j d most within = absurd (omega arith)
climb_sorted low t (b ∷ bs) high u rises zero zero d most within = omega arith
climb_sorted low t (b ∷ bs) high u rises zero (suc j) d most within = climb_least b.last b.term bs high u rises.2 j d (omega arith)
climb_sorted low t (b ∷ bs) high u rises (suc i) zero d most within = absurd (omega arith)
climb_sorted low t (b ∷ bs) high u rises (suc i) (suc j) d most within = climb_sorted b.last b.term bs high u rises.2 i j d (omega arith) (omega arith)

module _ (k : Setup) (words : List ℕ) (views : List View) (h : History) (a : PartA k words views h) (b : PartB k words views h) (c : PartC k words views h) where
  -- a cursor stands at most 64 ms past a saved end, which is below 2^45
  pub cursor_fits : (d : ℕ) → 0 < d → d ≤ k.drivers → slice_index words (cursor_at d) < 2 ^ 63 + 2 ^ 25
  cursor_fits d pos low = omega (arith, b.cursors d pos low, a.in_time)

  pub limit_fits : (d : ℕ) → 0 < d → d ≤ k.drivers → slice_index words (limit_at d) < 2 ^ 63
  limit_fits d pos low = dite (ℕ_discrete (slice_index words (limit_at d)) 0)
      (λ none. omega arith)
      (λ some_limit.
      let named = (a.limits d pos low some_limit).1 in
      let least = chain_le (opening_claim k.cell) h.newest h.past a.chain named.claim named.stands in
      omega (arith, named.ends, least.2, a.in_time))

  module _ (id : ℕ) (v : View) (at : get_elem? views id ≡ some v) (live : v.spent ≡ false) where
    pub cell_fits : CellFits v
    cell_fits = let mine = a.each id v at live in record { saved = omega (arith, mine.saved, a.in_time); term = omega (arith, mine.term.1, a.in_terms) }

    pub held_from : (o : Option Claim) → v.latest ≡ o → 0 < v.driver → ((held_or o).hi ≤ h.newest.window.hi) × ((held_or o).term ≤ h.newest.window.term)
    held_from None none pos = (omega arith, omega arith)
    held_from (Some w) has pos =
        let own = at_some v.latest (λ w. (w.window.driver ≡ v.driver) × (w.window.term ≤ v.cell.term) × (w.window.term ≡ v.cell.term → v.cell.saved ≡ w.window.hi) × All (λ (x : Claim). x.window.driver ≡ v.driver → x.window.term < w.window.term) v.older) (a.each id v at live).latest w has in
        let least = chain_le (opening_claim k.cell) h.newest h.past a.chain w (latest_stands k words views h id v w a at has (omega (arith, own.0))) in
        (least.2, least.1)

    pub held_fits : 0 < v.driver → HeldFits v
    held_fits pos = let least = held_from v.latest refl pos in record { hi = omega (arith, least.0, a.in_time); term = omega (arith, least.1, a.in_terms) }

    hand_from : HasHand v → ((hand v).hi < 2 ^ 45) × (0 < (hand v).driver) × ((hand v).driver ≤ k.drivers)
    hand_from has =
        let named = (in_hand words h v (b.each id v at live) has).0 in
        let least = chain_le (opening_claim k.cell) h.newest h.past a.chain named.claim named.stands in
        let own = hand_driver k words views h (hand v).driver (hand v).term (hand v).hi a named in
        (omega (arith, named.ends, least.2, a.in_time), own.0, own.1)

    pub hand_fits : HasHand v → v.quota ≤ 262144 → HandFits v
    hand_fits has quota = let own = hand_from has in record { hi = own.0; driver = omega (arith, own.2, a.setup.drivers.1); armed = omega (arith, (b.each id v at live).armed.0, quota) }

    -- what a client added at a driver stands in that driver's cursor
    sum_fits : HasHand v → 0 < v.client → v.quota ≤ 262144 → added_by v.client (hand v).driver v.added + v.armed < 2 ^ 64
    sum_fits has pos quota =
        let own = hand_from has in
        omega (arith, (a.each id v at live).own_sum pos (hand v).driver, added_parts v.client (hand v).driver h.added, c.counted (hand v).driver own.1 own.2, cursor_fits (hand v).driver own.1 own.2, (b.each id v at live).armed.0, quota)

    own_low : 0 < v.driver → v.driver ≤ k.drivers
    own_low pos = own_number k words views h id v a at pos

    place_of : (step : WordStep) → May k step v → word_of step v < length words
    place_of (RaiseCursor n) may = omega (arith, a.wide, own_low may.0)
    place_of StoreLimit may = omega (arith, a.wide, own_low may.0)
    place_of ClearLimit may = omega (arith, a.wide, own_low may)
    place_of (LoadLimit d) may = omega (arith, a.wide, may.3)
    place_of (ArmCount n) may = omega (arith, a.wide, (hand_from may.1).2)
    place_of AddArmed may = omega (arith, a.wide, (hand_from may.1).2)
    place_of step may = omega (arith, a.wide)

    found_of : (step : WordStep) → May k step v → slice_index words (word_of step v) < 2 ^ 63 + 2 ^ 26
    found_of (RaiseCursor n) may = omega (arith, cursor_fits v.driver may.0 (own_low may.0))
    found_of StoreLimit may = omega (arith, limit_fits v.driver may.0 (own_low may.0))
    found_of ClearLimit may = omega (arith, limit_fits v.driver may (own_low may))
    found_of (LoadLimit d) may = omega (arith, limit_fits d may.2 may.3)
    found_of (ArmCount n) may = let own = hand_from may.1 in omega (arith, cursor_fits (hand v).driver own.1 own.2)
    found_of AddArmed may = let own = hand_from may.1 in omega (arith, cursor_fits (hand v).driver own.1 own.2)
    found_of step may = omega (arith, (cell_rises k words views h id v a at live).0)

    suits_of : v.quota ≤ 262144 → (step : WordStep) → May k step v → Suits step v
    suits_of quota ClaimTerm may = (cell_fits, may.1)
    suits_of quota (SaveEnd hi) may = (held_fits may.0, may.4)
    suits_of quota StoreLimit may = held_fits may.0
    suits_of quota (ArmCount n) may = (hand_fits may.1 quota, may.4)
    suits_of quota AddArmed may = (hand_fits may.1 quota, sum_fits may.1 may.0 quota)
    suits_of quota step may = tt

    pub ready_in : (bs : List Batch) → bs ≡ drawn_by h.drawn (h.newest ∷ h.past) → v.quota ≤ 262144 → (step : WordStep) → May k step v → IsReady step words bs v
    ready_in bs are quota step may =
        let list = draw_list k words views h a b in record {
          place = place_of step may;
          suits = suits_of quota step may;
          found = found_of step may;
          sorted = subst (λ (l : List Batch). IsNonDecreasingBy (λ (x : Batch). x.term) l) (sym are) (climb_sorted 0 0 (drawn_by h.drawn (h.newest ∷ h.past)) list.high list.term list.rises);
        }
