-- What holds of each ticket, by its place or of all.
use Rattle.std.proofs.Common.{◌≡◌, ◌<◌, ℕ, zero, suc, List, [], ◌∷◌, length, get_or, refl, subst, arith}
use Rattle.std.specs.List.{All, AllByRecursion}
use Rattle.std.proofs.lemmas.List.Elements.{recursion_from_All}
use mathlib.Core.Option.{some}
use lib.ListN.{get_elem?}
use Rattle.atomic_table.proofs.Lists.{at_index}
use Rattle.pd_turn.specs.Rule.{AreOf}
use Rattle.pd_turn.specs.Turns.{IsFree, IsToldBy, TicketValue, TurnValue, items_of}

-- each ticket's list is the items of its number in the whole tale, in order
abbrev pub AreToldBy : {I : Type 0} → List (ℕ × I) → List (TicketValue I) → Type 0
AreToldBy {I} whole tickets = (k : ℕ) (t : TicketValue I) → get_elem? tickets k ≡ some t → t.list ≡ items_of t.number whole

-- an element that is there, whatever stands for one that isn't
same_there : {A : Type 0} (xs : List A) (k : ℕ) (a b : A) → k < length xs → get_or xs k a ≡ get_or xs k b
same_there [] k a b low = absurd (omega (arith, low))
same_there (x ∷ xs) zero a b low = refl
same_there (x ∷ xs) (suc k) a b low = same_there xs k a b (omega (arith, low))

module _ {A : Type 0} (P : A → Type 0) where
  elem_of : (xs : List A) → AllByRecursion P xs → (k : ℕ) (x : A) → get_elem? xs k ≡ some x → P x
  elem_of [] all k x there = absurd (cc)
  elem_of (y ∷ ys) all zero x there = let same : y ≡ x = cc in subst P same all.0
  elem_of (y ∷ ys) all (suc k) x there = elem_of ys all.1 k x there

  pub all_of : (xs : List A) → ((k : ℕ) (x : A) → get_elem? xs k ≡ some x → P x) → All P xs
  all_of xs each k d low = each k (get_or xs k d) (at_index xs k (get_or xs k d) low (same_there xs k d (get_or xs k d) low))

pub free_are_of : {I : Type 0} (turn : TurnValue) (tickets : List (TicketValue I)) → All (IsFree turn) tickets → AreOf turn tickets
free_are_of turn tickets all k t there =
    let one = elem_of (IsFree turn) tickets (recursion_from_All _ _ all) k t there in
    (one.turn_is, one.none)

pub all_told : {I : Type 0} (whole : List (ℕ × I)) (tickets : List (TicketValue I)) → AreToldBy whole tickets → All (IsToldBy whole) tickets
all_told whole tickets told = all_of (IsToldBy whole) tickets told
