-- A step of one actor keeps the invariant, where the actor stands right afterwards.
use Rattle.std.proofs.Common.{◌≡◌, ◌≢◌, ℕ, ◌+◌, ◌<◌, ◌≤◌, length, get_or, set, sym, subst, ◌∙◌, arith}
use Rattle.std.proofs.lemmas.List.{get_or-set_same, get_or-set_other}
use Rattle.std.proofs.Math.ListN.{length-set}
use mathlib.Core.Logic.{dite}
use native.Mathlib.Decide.{ℕ_discrete}
use Rattle.tso_model.specs.declared.view.View.{View}
use Rattle.tso_model.specs.declared.step.WordStep.{WordStep}
use Rattle.tso_model.specs.Moves.{blank, spent_view}
use Rattle.tso_model.specs.Steps.{May, view_after}
use Rattle.tso_model.proofs.Records.{keeps_lists}
use Rattle.tso_core.specs.declared.turn.Turn.{Turn}
use Rattle.tso_core.specs.Due.{at_rest}
use Rattle.tso_core.specs.Whole.{Whole, place_of_client, view_at, turn_at, found_by, made, turned}
use Rattle.tso_core.specs.Sound.{IsDriver, IsClient, StandsAt, DriverFits, IsNote, IsSound, waiting}
use Rattle.tso_core.proofs.Places.{at_get}

-- what the view at a place becomes
abbrev pub next_view : Whole → ℕ → WordStep → View
next_view w id step = view_after step (found_by w id step) (view_at w id)

module _ (w : Whole) (s : IsSound w) where
  pub view_here : (id : ℕ) (u : View) → id < length w.views → get_or (set w.views id u) id spent_view ≡ u
  view_here id u within = get_or-set_same w.views id u spent_view within

  pub view_else : (id j : ℕ) (u : View) → j ≢ id → get_or (set w.views id u) j spent_view ≡ view_at w j
  view_else id j u apart = get_or-set_other w.views id j u spent_view apart

  note_kept : (id : ℕ) (step : WordStep) → id ≤ w.setup.drivers + w.setup.clients → (j : ℕ) → 0 < waiting j w.posts → IsNote w.setup (made w id step).views j
  note_kept id step low j waits =
      let note = s.notes j waits in
      let same : view_at (made w id step) j ≡ view_at w j = view_else id j (next_view w id step) (λ e. omega (arith, note.behind, low, e)) in record {
        behind = note.behind;
        inside = omega (arith, note.inside, length-set w.views id (next_view w id step));
        copy = subst (λ (v : View). v ≡ record (blank w.setup.cell) { seen = v.seen }) (sym same) note.copy;
      }

  module _ (d : ℕ) (pos : 0 < d) (low : d ≤ w.setup.drivers) (step : WordStep) (may : May w.setup step (view_at w d)) where
    within : d < length w.views
    within = omega (arith, s.wide, low)

    pub driver_sound : (turn : Turn) → IsDriver d (next_view w d step) → StandsAt turn.due turn (next_view w d step) → IsSound (turned (made w d step) d turn)
    driver_sound turn own stands = record {
      recorded = keeps_lists w.setup d step (view_at w d) may w.words w.views w.windows w.batches s.recorded (at_get w.views d spent_view within);
      wide = omega (arith, s.wide, length-set w.views d (next_view w d step));
      turns = length-set w.turns d turn ∙ s.turns;
      posts = s.posts;
      drivers = λ e e_pos e_low. dite (ℕ_discrete e d)
          (λ same. subst (λ (x : ℕ). DriverFits x (get_or (set w.turns d turn) x at_rest) (get_or (set w.views d (next_view w d step)) x spent_view)) (sym same)
          (subst (λ (t : Turn). DriverFits d t (get_or (set w.views d (next_view w d step)) d spent_view)) (sym (get_or-set_same w.turns d turn at_rest (omega (arith, s.turns, low))))
          (subst (λ (v : View). DriverFits d turn v) (sym (view_here d (next_view w d step) within)) (record { own = own; stands = stands }))))
          (λ apart. subst (λ (t : Turn). DriverFits e t (get_or (set w.views d (next_view w d step)) e spent_view)) (sym (get_or-set_other w.turns d e turn at_rest apart))
          (subst (λ (v : View). DriverFits e (turn_at w e) v) (sym (view_else d e (next_view w d step) apart)) (s.drivers e e_pos e_low)));
      clients = λ c c_pos c_low. subst (λ (v : View). IsClient w.setup c v) (sym (view_else d (w.setup.drivers + c) (next_view w d step) (λ e. omega (arith, e, low, c_pos)))) (s.clients c c_pos c_low);
      notes = note_kept d step (omega (arith, low));
      once = s.once;
    }

  module _ (c : ℕ) (pos : 0 < c) (low : c ≤ w.setup.clients) (step : WordStep) (may : May w.setup step (view_at w (place_of_client w c))) where
    inside : place_of_client w c < length w.views
    inside = omega (arith, s.wide, low)

    pub client_sound : IsClient w.setup c (next_view w (place_of_client w c) step) → IsSound (made w (place_of_client w c) step)
    client_sound own = record {
      recorded = keeps_lists w.setup (place_of_client w c) step (view_at w (place_of_client w c)) may w.words w.views w.windows w.batches s.recorded (at_get w.views (place_of_client w c) spent_view inside);
      wide = omega (arith, s.wide, length-set w.views (place_of_client w c) (next_view w (place_of_client w c) step));
      turns = s.turns;
      posts = s.posts;
      drivers = λ e e_pos e_low. subst (λ (v : View). DriverFits e (turn_at w e) v) (sym (view_else (place_of_client w c) e (next_view w (place_of_client w c) step) (λ same. omega (arith, same, e_low, pos)))) (s.drivers e e_pos e_low);
      clients = λ e e_pos e_low. dite (ℕ_discrete e c)
          (λ same. subst (λ (x : ℕ). IsClient w.setup x (get_or (set w.views (place_of_client w c) (next_view w (place_of_client w c) step)) (w.setup.drivers + x) spent_view)) (sym same)
          (subst (λ (v : View). IsClient w.setup c v) (sym (view_here (place_of_client w c) (next_view w (place_of_client w c) step) inside)) own))
          (λ apart. subst (λ (v : View). IsClient w.setup e v) (sym (view_else (place_of_client w c) (w.setup.drivers + e) (next_view w (place_of_client w c) step) (λ same. apart (omega (arith, same))))) (s.clients e e_pos e_low));
      notes = note_kept (place_of_client w c) step (omega (arith, low));
      once = s.once;
    }
