-- The last window of a sound state.
use Rattle.std.proofs.Common.{◌≡◌, ℕ, true, List, [], ◌∷◌, ◌++◌, map, sym, ap, ◌∙◌, arith}
use Rattle.std.specs.Prelude.{slice_index, reverse}
use Rattle.std.proofs.lemmas.List.{map_push, reverse-append}
use Rattle.pd_types.specs.declared.oracle.Window.{Window}
use Rattle.tso_model.specs.declared.entries.Claim.{Claim}
use Rattle.tso_model.specs.Words.{packed}
use Rattle.tso_model.specs.Moves.{spent_view}
use Rattle.tso_model.specs.Steps.{held, held_or}
use Rattle.tso_model.specs.Sound.{FitsA}
use Rattle.tso_model.proofs.CellA.{newest_is}
use Rattle.tso_core.specs.Whole.{Whole, view_at}
use Rattle.tso_core.specs.Sound.{IsSound, HasDriver, IsDriver}
use Rattle.tso_core.proofs.Places.{at_get}

-- the windows before the last one
abbrev pub older_of : (w : Whole) → IsSound w → List Window
older_of w s = map (λ (c : Claim). c.window) (reverse s.recorded.history.past)

pub all_are : (w : Whole) (s : IsSound w) → w.windows ≡ older_of w s ++ s.recorded.history.newest.window ∷ []
all_are w s = s.recorded.windows_are
    ∙ ap (map (λ (c : Claim). c.window)) (reverse-append (s.recorded.history.newest ∷ []) s.recorded.history.past)
    ∙ map_push (λ (c : Claim). c.window) (reverse s.recorded.history.past) s.recorded.history.newest

module _ (w : Whole) (s : IsSound w) (d : ℕ) (has : HasDriver w.setup d) where
  pub its : IsDriver d (view_at w d)
  its = (s.drivers d has.pos has.low).own

  pub its_fits : FitsA w.setup s.recorded.history (view_at w d)
  its_fits = s.recorded.a.each d (view_at w d) (at_get w.views d spent_view (omega (arith, s.wide, has.low))) its.live

  -- where the cell names the held window, that is the last one
  pub last_own : (view_at w d).holds ≡ true → slice_index w.words 0 ≡ packed (held (view_at w d)).hi (held (view_at w d)).term → w.windows ≡ older_of w s ++ held (view_at w d) ∷ []
  last_own holds cell =
      let claim = its_fits.holds holds in
      let held_is : held (view_at w d) ≡ claim.0.window = ap held_or claim.1 in
      let newest = newest_is w.setup w.words w.views s.recorded.history d (view_at w d) claim.0 s.recorded.a (at_get w.views d spent_view (omega (arith, s.wide, has.low))) (omega (arith, its.driver, has.pos)) claim.1
      (cell ∙ ap (λ (x : Window). packed x.hi x.term) held_is) in
      all_are w s ∙ ap (λ (x : Window). older_of w s ++ x ∷ []) (ap (λ (c : Claim). c.window) (sym newest) ∙ sym held_is)
