-- No step but a draw changes what a client has seen.
use Rattle.std.proofs.Common.{◌≡◌, ◌≢◌, ℕ, Bool, true, false, cond, List, refl, sym, ap, subst, ◌∙◌, arith}
use Rattle.std.specs.List.{AllByRecursion}
use mathlib.Core.Logic.{dite}
use native.Mathlib.Decide.{ℕ_discrete}
use Rattle.pd_types.specs.declared.oracle.Actor.{Actor}
use Rattle.pd_types.specs.declared.oracle.Actor.TheVariants.{Driver, Client}
use Rattle.tso_model.specs.declared.view.View.{View}
use Rattle.tso_model.specs.declared.view.Setup.{Setup}
use Rattle.tso_model.specs.declared.step.WordStep.{WordStep}
use Rattle.tso_model.specs.declared.step.WordStep.TheVariants.{LoadCell, ClaimTerm, RaiseCursor, ClearLimit, LoadLimit, ArmCount}
use Rattle.tso_model.specs.Words.{passes}
use Rattle.tso_model.specs.Steps.{held, hand, refused, view_after}
use Rattle.tso_model.proofs.Basics.{by_bool}
use Rattle.tso_core.specs.declared.turn.Decided.{Decided}
use Rattle.tso_core.specs.declared.turn.Turn.{Turn}
use Rattle.tso_core.specs.declared.reply.Kind.{Kind}
use Rattle.tso_core.specs.declared.reply.Kind.TheVariants.{Read, Campaign, Save, Probe, Raise, Publish, Resign, Look, Arm, Draw}
use Rattle.tso_core.specs.declared.reply.Reply.TheVariants.{NotLeading, Resigned}
use Rattle.tso_core.specs.Due.{due_for, at_rest}
use Rattle.tso_core.specs.Whole.{Whole, place_of_client, view_at, found_by, made, turned}
use Rattle.tso_core.specs.Steps.{Stepped, decided, ends, probe_decides, its_save, its_raise, its_publish, due_of, move_of, due_step}
use Rattle.tso_core.specs.Rows.{row}
use Rattle.tso_core.specs.Sound.{IsSound, HasClient, HasDriver}
use Rattle.tso_core.specs.Asked.{HasActor, IsAsked}
use Rattle.tso_laws.specs.Laws.{seen_at}
use Rattle.tso_core.proofs.Driven.{read_sound, campaign_sound, save_sound, raise_sound, publish_sound, probe_sound, resign_sound}
use Rattle.tso_core.proofs.Drawn.{inside, look_sound, arm_sound}
use Rattle.tso_core.proofs.Kept.{view_here, view_else}
use Rattle.tso_laws.proofs.Saying.{IsDry}
use Rattle.tso_core.proofs.Stepping.{OnMove, due_by, row_by}

-- the state stays sound, and no client learns anything
pub record Calm (w u : Whole) : Type 0 where
  pub sound : IsSound u
  pub setup : u.setup ≡ w.setup
  pub seens : (e : ℕ) → HasClient w.setup e → seen_at u e ≡ seen_at w e

pub still : (w : Whole) → IsSound w → Calm w w
still w s = record { sound = s; setup = refl; seens = λ e has. refl }

pub then : (w u t : Whole) → Calm w u → Calm u t → Calm w t
then w u t first second = record {
  sound = second.sound;
  setup = second.setup ∙ first.setup;
  seens = λ e has. second.seens e (subst (λ (k : Setup). HasClient k e) (sym first.setup) has) ∙ first.seens e has;
}

module _ (w : Whole) (s : IsSound w) where
  -- the steps of a driver
  module _ (d : ℕ) (has : HasDriver w.setup d) where
    driver_calm : (step : WordStep) (turn : Turn) → IsSound (turned (made w d step) d turn) → Calm w (turned (made w d step) d turn)
    driver_calm step turn sound = record {
      sound = sound;
      setup = refl;
      seens = λ e client. ap (λ (v : View). v.seen) (view_else w s d (place_of_client w e) (view_after step (found_by w d step) (view_at w d)) (λ same. omega (arith, same, has.low, client.pos)));
    }

    maybe_calm : (b : Bool) (step : WordStep) (x : Decided) → (let not : Stepped = record { reply = NotLeading; after = w } in IsSound (cond b (decided (made w d step) d x) not).after)
        → (let not : Stepped = record { reply = NotLeading; after = w } in Calm w (cond b (decided (made w d step) d x) not).after)
    maybe_calm true step x sound = driver_calm step x.turn sound
    maybe_calm false step x sound = still w s

  -- the steps of a client that draw nothing
  module _ (c : ℕ) (has : HasClient w.setup c) where
    pub else_sees : (step : WordStep) (e : ℕ) → e ≢ c → seen_at (made w (place_of_client w c) step) e ≡ seen_at w e
    else_sees step e apart = ap (λ (v : View). v.seen) (view_else w s (place_of_client w c) (place_of_client w e) (view_after step (found_by w (place_of_client w c) step) (view_at w (place_of_client w c))) (λ same. apart (omega (arith, same))))

    pub own_sees : (step : WordStep) → seen_at (made w (place_of_client w c) step) c ≡ (view_after step (found_by w (place_of_client w c) step) (view_at w (place_of_client w c))).seen
    own_sees step = ap (λ (v : View). v.seen) (view_here w s (place_of_client w c) (view_after step (found_by w (place_of_client w c) step) (view_at w (place_of_client w c))) (inside w s c has.pos has.low))

    client_calm : (step : WordStep) → IsSound (made w (place_of_client w c) step) → (view_after step (found_by w (place_of_client w c) step) (view_at w (place_of_client w c))).seen ≡ seen_at w c → Calm w (made w (place_of_client w c) step)
    client_calm step sound same = record {
      sound = sound;
      setup = refl;
      seens = λ e other. dite (ℕ_discrete e c) (λ (is : e ≡ c). subst (λ (x : ℕ). seen_at (made w (place_of_client w c) step) x ≡ seen_at w x) (sym is) (own_sees step ∙ same)) (λ apart. else_sees step e apart);
    }

  pub calm_move : (actor : Actor) (kind : Kind) → IsDry actor kind → HasActor w.setup actor → IsAsked w.setup kind → due_of w actor ≡ due_for kind → OnMove (λ (r : Stepped). Calm w r.after) w (move_of actor kind)
  calm_move (Driver d) (Read now) dry has asked due = driver_calm d has LoadCell _ (read_sound w s d has.pos has.low now due)
  calm_move (Driver d) Campaign dry has asked due = driver_calm d has ClaimTerm _ (campaign_sound w s d has.pos has.low due)
  calm_move (Driver d) Save dry has asked due = driver_calm d has (its_save w d) _ (save_sound w s d has.pos has.low due)
  calm_move (Driver d) (Probe now) dry has asked due = maybe_calm d has (view_at w d).holds (RaiseCursor 0) (probe_decides (held (view_at w d)).hi now (found_by w d (RaiseCursor 0))) (probe_sound w s d has.pos has.low now due)
  calm_move (Driver d) Raise dry has asked due = driver_calm d has (its_raise w d) _ (raise_sound w s d has.pos has.low due)
  calm_move (Driver d) Publish dry has asked due = driver_calm d has (its_publish w d) at_rest (publish_sound w s d has.pos has.low due)
  calm_move (Driver d) Resign dry has asked due = maybe_calm d has (view_at w d).holds ClearLimit (ends Resigned) (resign_sound w s d has.pos has.low)
  calm_move (Client c) (Look d) dry has asked due = client_calm c has (LoadLimit d) (look_sound w s c has.pos has.low d asked.pos asked.low due) refl
  calm_move (Client c) (Arm n) dry has asked due =
      let v = view_at w (place_of_client w c) in
      let at = found_by w (place_of_client w c) (ArmCount n) in
      client_calm c has (ArmCount n) (arm_sound w s c has.pos has.low n asked.some (omega (arith, asked.most)) due)
      (by_bool (λ b. (cond b (refused at n v) (record v { armed = n })).seen ≡ v.seen) (passes at (hand v).hi n) (λ _. refl) (λ _. refl))
  calm_move (Client c) Draw dry has asked due = absurd dry
  calm_move actor kind dry has asked due = tt

-- a row that draws nothing
pub row_calm : (w : Whole) (actor : Actor) → HasActor w.setup actor → (kinds : List Kind) → AllByRecursion (λ (kind : Kind). IsDry actor kind × IsAsked w.setup kind) kinds → (r : Stepped) → Calm w r.after → Calm w (row actor kinds r).after
row_calm w actor has kinds dry r calm = row_by (λ (x : Stepped). Calm w x.after) (λ (kind : Kind). IsDry actor kind × IsAsked w.setup kind) actor
    (λ x kind one due p. then w x.after (due_step x.after actor kind).after p
    (due_by (λ (y : Stepped). Calm x.after y.after) x.after actor kind (still x.after p.sound)
    (calm_move x.after p.sound actor kind one.0 (subst (λ (k : Setup). HasActor k actor) (sym p.setup) has) (subst (λ (k : Setup). IsAsked k kind) (sym p.setup) one.1) due))) kinds dry r calm
