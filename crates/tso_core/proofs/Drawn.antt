-- Each step of a client may be made at its due, and keeps the invariant.
use Rattle.std.proofs.Common.{◌≡◌, ℕ, ◌<◌, ◌≤◌, length, sym, ◌∙◌, arith}
use native.Mathlib.Decide.{dec_le}
use mathlib.Core.Logic.{dite}
use Rattle.tso_model.specs.declared.step.WordStep.{WordStep}
use Rattle.tso_model.specs.declared.step.WordStep.TheVariants.{LoadLimit, ArmCount, AddArmed}
use Rattle.tso_model.specs.Moves.{spent_view}
use Rattle.tso_model.specs.Sound.{FitsA, FitsB}
use Rattle.tso_model.specs.Steps.{May, HasHand, AtRest}
use Rattle.tso_model.proofs.CellA.{no_some}
use Rattle.tso_core.specs.declared.reply.Due.TheVariants.{Rest, Arm, Draw}
use Rattle.tso_core.specs.Whole.{Whole, place_of_client, view_at, found_by}
use Rattle.tso_core.specs.Steps.{look_of, arm_of, draw_of, due_at}
use Rattle.tso_core.specs.Sound.{IsClient, MayMake, IsSound}
use Rattle.tso_core.proofs.Dues.{rests, arms, draws}
use Rattle.tso_core.proofs.Kept.{client_sound}
use Rattle.tso_core.proofs.Bounds.{hand_fits}
use Rattle.tso_core.specs.Ready.{HandFits}
use Rattle.tso_core.proofs.Places.{at_get}
use Rattle.tso_core.proofs.Views.{same_looking, same_arming, same_drawing}

module _ (w : Whole) (s : IsSound w) (c : ℕ) (pos : 0 < c) (low : c ≤ w.setup.clients) where
  pub own : IsClient w.setup c (view_at w (place_of_client w c))
  own = s.clients c pos low

  is_client : 0 < (view_at w (place_of_client w c)).client
  is_client = omega (arith, own.client, pos)

  pub inside : place_of_client w c < length w.views
  inside = omega (arith, s.wide, low)

  pub fits_a : FitsA w.setup s.recorded.history (view_at w (place_of_client w c))
  fits_a = s.recorded.a.each (place_of_client w c) (view_at w (place_of_client w c)) (at_get w.views (place_of_client w c) spent_view inside) own.live

  fits_b : FitsB w.words s.recorded.history (view_at w (place_of_client w c))
  fits_b = s.recorded.b.each (place_of_client w c) (view_at w (place_of_client w c)) (at_get w.views (place_of_client w c) spent_view inside) own.live

  pub resting : due_at w c ≡ Rest → AtRest (view_at w (place_of_client w c))
  resting due =
      let none = rests (view_at w (place_of_client w c)) due in (
        none,
        dite (dec_le (view_at w (place_of_client w c)).armed 0)
            (λ few. omega arith)
            (λ many. let has : HasHand (view_at w (place_of_client w c)) = fits_b.armed.1 (omega arith) in no_some has.0 (sym has.1 ∙ none)),
      )

  may_make : (step : WordStep) → May w.setup step (view_at w (place_of_client w c)) → MayMake w (place_of_client w c) step
  may_make step may = record { inside = inside; live = own.live; quota = omega (arith, own.quota); may = may }

  may_look_step : (d : ℕ) → 0 < d → d ≤ w.setup.drivers → due_at w c ≡ Rest → May w.setup (LoadLimit d) (view_at w (place_of_client w c))
  may_look_step d d_pos d_low due = (is_client, resting due, d_pos, d_low)

  pub may_look : (d : ℕ) → 0 < d → d ≤ w.setup.drivers → due_at w c ≡ Rest → MayMake w (place_of_client w c) (LoadLimit d)
  may_look d d_pos d_low due = may_make (LoadLimit d) (may_look_step d d_pos d_low due)

  pub look_sound : (d : ℕ) → 0 < d → d ≤ w.setup.drivers → due_at w c ≡ Rest → IsSound (look_of w c d).after
  look_sound d d_pos d_low due = client_sound w s c pos low (LoadLimit d) (may_look_step d d_pos d_low due) (same_looking w.setup c d (found_by w (place_of_client w c) (LoadLimit d)) (view_at w (place_of_client w c)) own)

  may_arm_step : (n : ℕ) → 0 < n → n < 262144 → due_at w c ≡ Arm → May w.setup (ArmCount n) (view_at w (place_of_client w c))
  may_arm_step n some most due = let has = arms (view_at w (place_of_client w c)) due in (is_client, has.0, has.1, some, most, omega (arith, own.quota))

  pub may_arm : (n : ℕ) → 0 < n → n < 262144 → due_at w c ≡ Arm → MayMake w (place_of_client w c) (ArmCount n)
  may_arm n some most due = may_make (ArmCount n) (may_arm_step n some most due)

  pub arm_sound : (n : ℕ) → 0 < n → n < 262144 → due_at w c ≡ Arm → IsSound (arm_of w c n).after
  arm_sound n some most due = client_sound w s c pos low (ArmCount n) (may_arm_step n some most due) (same_arming w.setup c n (found_by w (place_of_client w c) (ArmCount n)) (view_at w (place_of_client w c)) own)

  may_draw_step : due_at w c ≡ Draw → May w.setup AddArmed (view_at w (place_of_client w c))
  may_draw_step due = let has = draws (view_at w (place_of_client w c)) due in (is_client, has.0, has.1)

  pub may_draw : due_at w c ≡ Draw → MayMake w (place_of_client w c) AddArmed
  may_draw due = may_make AddArmed (may_draw_step due)

  pub draw_sound : due_at w c ≡ Draw → IsSound (draw_of w c).after
  draw_sound due = client_sound w s c pos low AddArmed (may_draw_step due) (same_drawing w.setup c (found_by w (place_of_client w c) AddArmed) (view_at w (place_of_client w c)) own)

  -- what a client has in hand is in range
  pub arms_hand : due_at w c ≡ Arm → HasHand (view_at w (place_of_client w c))
  arms_hand due = (arms (view_at w (place_of_client w c)) due).0

  pub hand_at : HasHand (view_at w (place_of_client w c)) → HandFits (view_at w (place_of_client w c))
  hand_at has = hand_fits w.setup w.words w.views s.recorded.history s.recorded.a s.recorded.b s.recorded.c (place_of_client w c) (view_at w (place_of_client w c)) (at_get w.views (place_of_client w c) spent_view inside) own.live has (omega (arith, own.quota))
