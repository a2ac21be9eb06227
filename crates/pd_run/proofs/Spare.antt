-- Who made calls of the metadata: nobody without a cluster.
use Rattle.std.proofs.Common.{◌≡◌, ℕ, zero, suc, ◌+◌, ◌-◌, ◌<◌, ◌≤◌, List, [], ◌∷◌, ◌++◌, length, reverse, refl, sym, ap, ◌∙◌, arith, subst, ⊎_elim}
use Rattle.std.specs.Prelude.{All, Contains}
use mathlib.Core.Logic.{dite}
use mathlib.Core.Option.{some, some-injective, some-ne-none}
use native.Mathlib.Decide.{dec_le}
use lib.ListN.{get_elem?}
use Rattle.std.proofs.lemmas.List.{length-append}
use Rattle.std.proofs.lemmas.List.Elements.{All-contains, All-contains_itself, All-weaker}
use Rattle.std.proofs.lemmas.List.Sorted.{Contains-permutation, IsPermutation-reverse}
use Rattle.pd_turn.specs.Turns.{Among, IsMadeBy, TurnValue, items_of}
use Rattle.pd_turn.proofs.Items.{items_of-append, items_of-own}
use Rattle.tso_model.specs.Moves.{numbers_from}
use Rattle.tso_model.proofs.Basics.{in_cons, in_head, in_nil, in_tail}
use Rattle.meta_store.specs.declared.record.MetaAnswer.{MetaAnswer}
use Rattle.meta_store.specs.declared.record.MetaEntry.{MetaEntry}
use Rattle.meta_store.specs.Seats.{IsHeard, SeatValue, heard_by, heard_of, new_seat, tale_of}
use Rattle.tso_outcome.proofs.Above.{to_map}
use Rattle.tso_run.proofs.Ending.{has_numbers}
use Rattle.pd_run.specs.Starts.{AreSpareSeats}
use Rattle.pd_run.proofs.Lists.{none_of}

front_none : {A : Type 0} (xs ys : List A) → xs ++ ys ≡ [] → length xs ≡ 0
front_none xs ys none = let e = length-append xs ys in let n : length (xs ++ ys) ≡ 0 = ap length none in omega (arith, e, n)

back_none : {A : Type 0} (xs ys : List A) → xs ++ ys ≡ [] → length ys ≡ 0
back_none xs ys none = let e = length-append xs ys in let n : length (xs ++ ys) ≡ 0 = ap length none in omega (arith, e, n)

-- of whom an entry is, he heard something
heard_some : (past : List MetaEntry) (e : MetaEntry) → Contains past e → heard_by e.driver past ≡ [] → ⊥
heard_some [] e there none = in_nil e there
heard_some (x ∷ past) e there none =
    let one : List (ℕ × MetaAnswer) = (x.driver, heard_of past x) ∷ [] in
    let parts : items_of e.driver (tale_of past) ++ items_of e.driver one ≡ [] = sym (items_of-append e.driver (tale_of past) one) ∙ none in
    ⊎_elim
    (λ (same : x ≡ e).
    let own : items_of e.driver one ≡ heard_of past x ∷ [] = ap (λ (y : MetaEntry). items_of y.driver one) (sym same) ∙ items_of-own x.driver (heard_of past x ∷ []) in
    let long : length (items_of e.driver one) ≡ 1 = ap length own in
    let short = back_none (items_of e.driver (tale_of past)) (items_of e.driver one) parts in
    absurd (omega (arith, long, short)))
    (λ (t : Contains past e). heard_some past e t (none_of (items_of e.driver (tale_of past)) (front_none (items_of e.driver (tale_of past)) (items_of e.driver one) parts)))
    (in_cons x past e there)

elem_last : {A : Type 0} (xs : List A) (y : A) → get_elem? (xs ++ y ∷ []) (length xs) ≡ some y
elem_last [] y = refl
elem_last (x ∷ xs) y = elem_last xs y

elem_front : {A : Type 0} (xs ys : List A) (k : ℕ) (z : A) → get_elem? xs k ≡ some z → get_elem? (xs ++ ys) k ≡ some z
elem_front [] ys k z at = absurd (some-ne-none z (sym at))
elem_front (x ∷ xs) ys zero z at = at
elem_front (x ∷ xs) ys (suc k) z at = elem_front xs ys k z at

-- of whom an entry is, he has one of the numbers
made_some : (numbers : List ℕ) (past : List MetaEntry) (e : MetaEntry) → IsMadeBy numbers (tale_of past) → Contains past e → Among e.driver numbers
made_some numbers [] e made there = in_nil e there
made_some numbers (x ∷ past) e made there =
    let item : ℕ × MetaAnswer = (x.driver, heard_of past x) in
    ⊎_elim
    (λ (same : x ≡ e). subst (λ (y : MetaEntry). Among y.driver numbers) same (made (length (tale_of past)) item (elem_last (tale_of past) item)))
    (λ (t : Contains past e). made_some numbers past e (λ k y at. made k y (elem_front (tale_of past) (item ∷ []) k y at)) t)
    (in_cons x past e there)

among_low : (a n x k : ℕ) → get_elem? (numbers_from a n) k ≡ some x → (a ≤ x) × (x < a + n)
among_low a zero x k at = absurd (some-ne-none x (sym at))
among_low a (suc n) x zero at = let e : a ≡ x = some-injective a x at in (omega (arith, e), omega (arith, e))
among_low a (suc n) x (suc k) at = let rest = among_low (a + 1) n x k at in (omega (arith, rest.0), omega (arith, rest.1))

module _ (meta : TurnValue) (drivers : ℕ) (few : drivers ≤ 7) (spare : List SeatValue) (are : AreSpareSeats meta drivers spare) (journal : List MetaEntry) (heard : All (IsHeard journal) spare) (of : IsMadeBy meta.numbers (tale_of (reverse journal))) where
  -- a driver whose seat is spare has no entry
  not_spare : (e : MetaEntry) → Contains journal e → Contains (0 ∷ numbers_from (drivers + 1) (7 - drivers)) e.driver → ⊥
  not_spare e there is =
      let seat : Contains spare (new_seat meta e.driver) = subst (λ l. Contains l (new_seat meta e.driver)) (sym are.seats_are) (to_map (new_seat meta) (0 ∷ numbers_from (drivers + 1) (7 - drivers)) e.driver is) in
      let own : [] ≡ heard_by e.driver (reverse journal) = All-contains (IsHeard journal) spare (new_seat meta e.driver) heard seat in
      heard_some (reverse journal) e (Contains-permutation journal (reverse journal) e (IsPermutation-reverse journal) there) (sym own)

  has_cluster : (e : MetaEntry) → Contains journal e → Contains (numbers_from 1 drivers) e.driver
  has_cluster e there =
      let among = made_some meta.numbers (reverse journal) e of (Contains-permutation journal (reverse journal) e (IsPermutation-reverse journal) there) in
      let low = among_low 0 8 e.driver among.0 (subst (λ ns. get_elem? ns among.0 ≡ some e.driver) are.numbers among.1) in
      dite (dec_le e.driver 0)
      (λ none. absurd (not_spare e there (subst (Contains (0 ∷ numbers_from (drivers + 1) (7 - drivers))) (let z : 0 ≡ e.driver = omega (arith, none) in z) (in_head 0 (numbers_from (drivers + 1) (7 - drivers))))))
      (λ some_driver. dite (dec_le e.driver drivers)
      (λ within. has_numbers 1 drivers e.driver (omega (arith, some_driver)) (omega (arith, within)))
      (λ beyond. absurd (not_spare e there (in_tail 0 (numbers_from (drivers + 1) (7 - drivers)) e.driver (has_numbers (drivers + 1) (7 - drivers) e.driver (omega (arith, beyond)) (omega (arith, low.1, few, beyond)))))))

  pub alone : All (λ (e : MetaEntry). Contains (numbers_from 1 drivers) e.driver) journal
  alone = All-weaker (Contains journal) (λ (e : MetaEntry). Contains (numbers_from 1 drivers) e.driver) has_cluster journal (All-contains_itself journal)
