-- The order of moves, and what was found along it.
use Rattle.std.proofs.Common.{◌≡◌, ◌∙◌, sym, refl, subst, ℕ, ◌≤◌, Bool, true, false, arith, Option, Some, None, inl, inr}
use Rattle.std.proofs.lemmas.Bool.Decides.{nat_tests}
use Rattle.std.proofs.lemmas.Bool.{true≢false}
use Rattle.pd_types.specs.declared.region.RegionBeat.{RegionBeat}
use Rattle.balance_sched.specs.declared.moves.Kind.{Kind}
use Rattle.balance_sched.specs.declared.moves.Move.{Move}
use Rattle.balance_sched.specs.Tables.{Tables}
use Rattle.balance_sched.specs.Moves.{goes_before}
use Rattle.pd_types.proofs.Numbers.{less_on, less_self, lesser_on, lesser_self}
use Rattle.balance_sched.specs.Search.{Beats, Follows, Loses, can_win}

pub false_by : (b : Bool) → (b ≡ true → ⊥) → b ≡ false
false_by true h = absurd (h refl)
false_by false h = refl

pub goes_on : (a b c : Move) → goes_before a b ≡ true → goes_before b c ≡ true → goes_before a c ≡ true
goes_on a b c first second =
    lesser_on c.difference b.difference a.difference _ _ _
    (λ later sooner. lesser_on a.region b.region c.region _ _ _ (lesser_on a.from b.from c.from _ _ _ (less_on a.to b.to c.to)) sooner later)
    second first

pub goes_self : (a : Move) → goes_before a a ≡ false
goes_self a = lesser_self a.difference _ (lesser_self a.region _ (lesser_self a.from _ (less_self a.to)))

pub loses_by : (move : Move) (best : Option Move) → (Beats move best → ⊥) → Loses move best
loses_by move None h = h tt
loses_by move (Some best) h = false_by (goes_before move best) h

-- what loses against what was found loses against what follows it
pub loses_on : (kind : Kind) (tables : Tables) (beat : RegionBeat) (move : Move) (old new : Option Move) → Loses move old → Follows kind tables beat old new → Loses move new
loses_on kind tables beat move None new loses follows = absurd loses
loses_on kind tables beat move (Some best) new loses (inl same) = subst (Loses move) (sym same) loses
loses_on kind tables beat move (Some best) new loses (inr found) =
    subst (Loses move) (sym found.1.0) (false_by (goes_before move found.0) (λ goes. true≢false (sym (goes_on move found.0 best goes found.1.2) ∙ loses)))

beats_on : (move other : Move) (old : Option Move) → goes_before move other ≡ true → Beats other old → Beats move old
beats_on move other None goes beats = tt
beats_on move other (Some best) goes beats = goes_on move other best goes beats

pub follows_on : (kind : Kind) (tables : Tables) (beat : RegionBeat) (old mid new : Option Move) → Follows kind tables beat old mid → Follows kind tables beat mid new → Follows kind tables beat old new
follows_on kind tables beat old mid new first (inl same) = subst (Follows kind tables beat old) (sym same) first
follows_on kind tables beat old mid new (inl same) (inr found) = inr (found.0, (found.1.0, found.1.1, subst (Beats found.0) same found.1.2))
follows_on kind tables beat old mid new (inr one) (inr found) =
    inr (found.0, (found.1.0, found.1.1, beats_on found.0 one.0 old (subst (Beats found.0) one.1.0 found.1.2) one.1.2))

pub follows_self : (kind : Kind) (tables : Tables) (beat : RegionBeat) (best : Option Move) → Follows kind tables beat best best
follows_self kind tables beat best = inl refl

-- a move of a difference that can't win loses
pub cannot_win : (best : Option Move) (region most : ℕ) → can_win best region most ≡ false → (move : Move) → move.region ≡ region → move.difference ≤ most → 2 ≤ move.difference → Loses move best
cannot_win None region most h move same few wide = grind (arith, nat_tests)
cannot_win (Some best) region most h move same few wide = grind (arith, nat_tests)
