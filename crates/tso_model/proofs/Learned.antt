-- What a step tells of the number found, beside the equation of the view.
use Rattle.std.proofs.Common.{◌≡◌, ◌≢◌, ℕ, ◌+◌, ◌*◌, ◌/◌, ◌%◌, ◌^◌, ◌<◌, ◌≤◌, false, List, [], ◌++◌, sym, refl, ap, ◌∙◌, ⊎_elim, arith}
use Rattle.std.specs.Prelude.{Option, None, Some, IfSome, option_to_list, All, slice_index}
use mathlib.Core.Logic.{dite}
use mathlib.Core.Option.{some}
use native.Mathlib.Decide.{ℕ_discrete, dec_le}
use lib.ListN.{get_elem?}
use Rattle.pd_types.specs.declared.oracle.Seen.{Seen}
use Rattle.tso_model.specs.declared.entries.Claim.{Claim}
use Rattle.tso_model.specs.declared.view.View.{View}
use Rattle.tso_model.specs.declared.view.Setup.{Setup}
use Rattle.tso_model.specs.History.{History}
use Rattle.tso_model.proofs.Sums.{term_le}
use Rattle.std.proofs.lemmas.List.Elements.{All-nil, All-append, All-push, All-weaker}
use Rattle.tso_model.specs.Words.{packed, cell_word, opening_claim, cursor_at}
use Rattle.tso_model.specs.Steps.{hand, HasHand}
use Rattle.tso_model.specs.Moves.{nothing_seen}
use Rattle.tso_model.specs.Sound.{PartA, IsSeen, PartB, armed_at}
use Rattle.tso_model.proofs.Basics.{at_some, if_some, in_head, chain_le, one_each, in_order, later_term}
use Rattle.tso_model.proofs.Growth.{latest_stands, live_driver, live_client}
use Rattle.tso_model.proofs.CellA.{opening_stands}
use Rattle.tso_model.proofs.DrawB.{in_hand, armed_here, hand_driver}
use Rattle.tso_model.specs.Sound.{IsAbove, IsUnseen}

pub found_cell : (k : Setup) (words : List ℕ) (views : List View) (h : History) → PartA k words views h → (slice_index words 0 / 262144 ≡ h.newest.window.hi) × (slice_index words 0 % 262144 ≡ h.newest.window.term)
found_cell k words views h s = (omega (arith, s.cell, s.in_terms), omega (arith, s.cell, s.in_terms))

-- a load of the cell, a campaign, a save: the cell that is found is a cell, and not below the one known
pub cell_rises : (k : Setup) (words : List ℕ) (views : List View) (h : History) (id : ℕ) (v : View) → PartA k words views h → get_elem? views id ≡ some v → v.spent ≡ false
    → (slice_index words 0 < 2 ^ 63) × (slice_index words 0 / 262144 < 2 ^ 45) × (v.cell.term ≤ slice_index words 0 % 262144) × (v.cell.saved ≤ slice_index words 0 / 262144)
cell_rises k words views h id v s at live =
    let mine = s.each id v at live in
    let f = found_cell k words views h s in
    (omega (arith, s.cell, s.in_time, s.in_terms), omega (arith, f.0, s.in_time), omega (arith, f.1, mine.term.1), omega (arith, f.0, mine.saved))

own_below : (older : List Claim) (o : Option Claim) (d m : ℕ) → IfSome o (λ c. (c.window.term < m) × All (λ (x : Claim). x.window.driver ≡ d → x.window.term < c.window.term) older) → (o ≡ None → All (λ (x : Claim). x.window.driver ≢ d) older)
    → All (λ (x : Claim). x.window.driver ≡ d → x.window.term < m) (older ++ option_to_list o)
own_below older None d m h idle = All-append (λ (x : Claim). x.window.driver ≡ d → x.window.term < m) older []
    (All-weaker (λ (x : Claim). x.window.driver ≢ d) (λ (x : Claim). x.window.driver ≡ d → x.window.term < m) (λ x ne e. absurd (ne e)) older (idle refl))
    (All-nil (λ (x : Claim). x.window.driver ≡ d → x.window.term < m))
own_below older (Some c) d m h idle = All-push (λ (x : Claim). x.window.driver ≡ d → x.window.term < m) older c
    (All-weaker (λ (x : Claim). x.window.driver ≡ d → x.window.term < c.window.term) (λ (x : Claim). x.window.driver ≡ d → x.window.term < m) (λ x lt e. omega (arith, lt e, h.0)) older h.1)
    (λ _. h.0)

-- a driver's latest claim that is of the newest term is the newest
same_newest : (k : Setup) (words : List ℕ) (views : List View) (h : History) (id : ℕ) (v : View) (c : Claim) → PartA k words views h → get_elem? views id ≡ some v → 0 < v.driver → v.latest ≡ Some c → c.window.term ≡ h.newest.window.term → c ≡ h.newest
same_newest k words views h id v c s at pos is same =
    let own = at_some v.latest _ (s.each id v at (live_driver k words views h id v s at pos)).latest c is in
    one_each (opening_claim k.cell) h.newest h.past s.chain c h.newest (latest_stands k words views h id v c s at is (omega (arith, own.0, pos))) (in_head h.newest h.past) same

-- a campaign that failed
pub beaten : (k : Setup) (words : List ℕ) (views : List View) (h : History) (id : ℕ) (v : View) → PartA k words views h → get_elem? views id ≡ some v → 0 < v.driver → slice_index words 0 ≢ cell_word v.cell → IsAbove k v (slice_index words 0 % 262144)
beaten k words views h id v s at pos miss =
    let live = live_driver k words views h id v s at pos in
    let mine = s.each id v at live in
    let f = found_cell k words views h s in
    let missed : v.cell.term ≡ h.newest.window.term → v.cell.saved ≢ h.newest.window.hi = λ t e. miss (s.cell ∙ omega (arith, t, e)) in (
      dite (dec_le (slice_index words 0 % 262144) k.cell.term)
          (λ le. let t : v.cell.term ≡ k.cell.term = omega (arith, le, f.1, mine.term) in
          let n : h.newest.window.term ≡ k.cell.term = omega (arith, le, f.1, mine.term) in
          absurd (missed (omega (arith, t, n)) (mine.at_opening t ∙ ap (λ (c : Claim). c.window.hi) (one_each (opening_claim k.cell) h.newest h.past s.chain (opening_claim k.cell) h.newest (opening_stands (opening_claim k.cell) h.newest h.past s.chain) (in_head h.newest h.past) (sym n)))))
          (λ gt. omega (arith, gt)),
      own_below v.older v.latest v.driver (slice_index words 0 % 262144)
          (if_some v.latest _ (λ c is. let old = at_some v.latest _ mine.latest c is in (
            dite (dec_le (slice_index words 0 % 262144) c.window.term)
                (λ le. let t : c.window.term ≡ v.cell.term = omega (arith, le, f.1, old.1, mine.term.1) in
                let n : c.window.term ≡ h.newest.window.term = omega (arith, le, f.1, old.1, mine.term.1) in
                absurd (missed (sym t ∙ n) (old.2 t ∙ ap (λ (x : Claim). x.window.hi) (same_newest k words views h id v c s at pos is n))))
                (λ gt. omega (arith, gt)),
            old.3,
          )))
          mine.idle,
    )

-- a save that failed
pub lost : (k : Setup) (words : List ℕ) (views : List View) (h : History) (id : ℕ) (v : View) (c : Claim) → PartA k words views h → get_elem? views id ≡ some v → 0 < v.driver → v.latest ≡ Some c → slice_index words 0 ≢ packed c.window.hi c.window.term → IsAbove k v (slice_index words 0 % 262144)
lost k words views h id v c s at pos is miss =
    let mine = s.each id v at (live_driver k words views h id v s at pos) in
    let old = at_some v.latest _ mine.latest c is in
    let f = found_cell k words views h s in
    let stands = latest_stands k words views h id v c s at is (omega (arith, old.0, pos)) in
    let above : c.window.term < h.newest.window.term = dite (ℕ_discrete c.window.term h.newest.window.term)
    (λ e. absurd (miss (s.cell ∙ ap (λ (x : Claim). packed x.window.hi x.window.term) (sym (same_newest k words views h id v c s at pos is e)))))
    (λ ne. omega (arith, ne, (chain_le (opening_claim k.cell) h.newest h.past s.chain c stands).1)) in (
      omega (arith, f.1, above, later_term (opening_claim k.cell) h.newest h.past s.chain refl c stands (omega (arith, old.0, pos))),
      own_below v.older v.latest v.driver (slice_index words 0 % 262144) (if_some v.latest _ (λ x z. let y = at_some v.latest _ mine.latest x z in
          let same : x ≡ c = pick x (sym z ∙ is) in (omega (arith, f.1, above, ap (λ (u : Claim). u.window.term) same), y.3))) mine.idle,
    )
  where
    or_c : Option Claim → Claim
    or_c None = c
    or_c (Some x) = x

    pick : (x : Claim) → Some x ≡ Some c → x ≡ c
    pick x e = ap or_c e

-- a client at a cursor: the cursor that is found is at the seen timestamp or above, whatever the limit's term, and a draw fits its word
pub unseen : (k : Setup) (words : List ℕ) (views : List View) (h : History) (id : ℕ) (v : View) → PartA k words views h → PartB k words views h → get_elem? views id ≡ some v → 0 < v.client → HasHand v
    → IsUnseen v.seen (hand v).term (slice_index words (cursor_at (hand v).driver)) × (slice_index words (cursor_at (hand v).driver) + v.armed < 2 ^ 64)
unseen k words views h id v a s at pos has =
    let mine = s.each id v at (live_client k words views h id v a at pos) in
    let own = in_hand words h v mine has in
    let name = own.0 in
    let d = hand_driver k words views h (hand v).driver (hand v).term (hand v).hi a name in
    let low = s.raised (hand v).driver d.0 d.1 in (
      (
        own.2,
        ⊎_elim
            (λ (z : v.seen ≡ nothing_seen). omega (arith, ap (λ (y : Seen). y.last) z))
            (λ (y : IsSeen words h v.seen). dite (ℕ_discrete v.seen.term (hand v).term)
            (λ e. omega (arith, y.drawn, ap (λ (m : ℕ). slice_index words (cursor_at m)) (ap (λ (u : Claim). u.window.driver) (one_each (opening_claim k.cell) h.newest h.past a.chain y.claim name.claim y.stands name.stands (y.term_is ∙ e ∙ sym name.term_is)) ∙ name.driver_is)))
            (λ ne. omega (arith, low, name.raised, y.below, in_order (opening_claim k.cell) h.newest h.past a.chain y.claim name.claim y.stands name.stands (omega (arith, y.term_is, name.term_is, ne, own.2)))))
            mine.seen,
      ),
      omega (arith, s.cursors (hand v).driver d.0 d.1, term_le (armed_at (hand v).driver) views id v at, armed_here v, a.in_time),
    )

-- a draw leaves the cursor at most 64 ms past the end that is saved at that moment
pub in_bound : (k : Setup) (words : List ℕ) (views : List View) (h : History) (id : ℕ) (v : View) → PartA k words views h → PartB k words views h → get_elem? views id ≡ some v → 0 < v.client → HasHand v
    → slice_index words (cursor_at (hand v).driver) + v.armed ≤ (slice_index words 0 / 262144 + 64) * 262144
in_bound k words views h id v a s at pos has =
    let mine = s.each id v at (live_client k words views h id v a at pos) in
    let name = (in_hand words h v mine has).0 in
    let d = hand_driver k words views h (hand v).driver (hand v).term (hand v).hi a name in
    omega (arith, s.cursors (hand v).driver d.0 d.1, term_le (armed_at (hand v).driver) views id v at, armed_here v, (found_cell k words views h a).0)
