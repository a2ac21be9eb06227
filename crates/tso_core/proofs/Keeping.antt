-- Every step at its due keeps the state sound, and the setup.
use Rattle.std.proofs.Common.{◌≡◌, Bool, true, false, cond, refl, sym, ap, subst, ◌∙◌, arith}
use Rattle.pd_types.specs.declared.oracle.Actor.{Actor}
use Rattle.pd_types.specs.declared.oracle.Actor.TheVariants.{Driver, Client}
use Rattle.tso_core.specs.declared.reply.Kind.{Kind}
use Rattle.tso_core.specs.declared.reply.Kind.TheVariants.{Read, Campaign, Save, Probe, Raise, Publish, Resign, Look, Arm, Draw}
use Rattle.tso_core.specs.declared.reply.Reply.TheVariants.{NotLeading}
use Rattle.tso_core.specs.Asked.{HasActor, IsAsked}
use Rattle.tso_core.specs.Due.{due_for}
use Rattle.tso_core.specs.Sound.{IsSound}
use Rattle.tso_core.specs.Steps.{Stepped, due_of, move_of, due_step}
use Rattle.tso_core.specs.Whole.{Whole, view_at}
use Rattle.tso_core.proofs.Drawn.{look_sound, arm_sound, draw_sound}
use Rattle.tso_core.proofs.Driven.{read_sound, campaign_sound, save_sound, raise_sound, publish_sound, probe_sound, resign_sound}
use Rattle.tso_core.proofs.Stepping.{OnMove, due_by}

-- the state after a step is sound, and has the same setup
record Keeps (w : Whole) (r : Stepped) : Type 0 where
  sound : IsSound r.after
  setup : r.after.setup ≡ w.setup

held_setup : (w : Whole) (b : Bool) (r : Stepped) → r.after.setup ≡ w.setup → (let not : Stepped = record { reply = NotLeading; after = w } in (cond b r not).after.setup ≡ w.setup)
held_setup w true r same = same
held_setup w false r same = refl

module _ (w : Whole) (s : IsSound w) where
  keeps_move : (actor : Actor) (kind : Kind) → HasActor w.setup actor → IsAsked w.setup kind → due_of w actor ≡ due_for kind → OnMove (Keeps w) w (move_of actor kind)
  keeps_move (Driver d) (Read now) has asked due = record { sound = read_sound w s d has.pos has.low now due; setup = refl }
  keeps_move (Driver d) Campaign has asked due = record { sound = campaign_sound w s d has.pos has.low due; setup = refl }
  keeps_move (Driver d) Save has asked due = record { sound = save_sound w s d has.pos has.low due; setup = refl }
  keeps_move (Driver d) (Probe now) has asked due = record { sound = probe_sound w s d has.pos has.low now due; setup = held_setup w (view_at w d).holds _ refl }
  keeps_move (Driver d) Raise has asked due = record { sound = raise_sound w s d has.pos has.low due; setup = refl }
  keeps_move (Driver d) Publish has asked due = record { sound = publish_sound w s d has.pos has.low due; setup = refl }
  keeps_move (Driver d) Resign has asked due = record { sound = resign_sound w s d has.pos has.low; setup = held_setup w (view_at w d).holds _ refl }
  keeps_move (Client c) (Look d) has asked due = record { sound = look_sound w s c has.pos has.low d asked.pos asked.low due; setup = refl }
  keeps_move (Client c) (Arm n) has asked due = record { sound = arm_sound w s c has.pos has.low n asked.some (omega (arith, asked.most)) due; setup = refl }
  keeps_move (Client c) Draw has asked due = record { sound = draw_sound w s c has.pos has.low due; setup = refl }
  keeps_move actor kind has asked due = tt

  due_keeps : (actor : Actor) (kind : Kind) → HasActor w.setup actor → IsAsked w.setup kind → due_of w actor ≡ due_for kind → Keeps w (due_step w actor kind)
  due_keeps actor kind has asked due = due_by (Keeps w) w actor kind (record { sound = s; setup = refl }) (keeps_move actor kind has asked due)

  -- so does what a step left
  pub due_sound : (actor : Actor) (kind : Kind) → HasActor w.setup actor → IsAsked w.setup kind → due_of w actor ≡ due_for kind → (same : Actor) → actor ≡ same → (u : Whole) → u ≡ (due_step w same kind).after → IsSound u
  due_sound actor kind has asked due same is u after = subst (λ (x : Whole). IsSound x) (ap (λ (a : Actor). (due_step w a kind).after) is ∙ sym after) (due_keeps actor kind has asked due).sound

  pub due_setup : (actor : Actor) (kind : Kind) → HasActor w.setup actor → IsAsked w.setup kind → due_of w actor ≡ due_for kind → (same : Actor) → actor ≡ same → (u : Whole) → u ≡ (due_step w same kind).after → u.setup ≡ w.setup
  due_setup actor kind has asked due same is u after = subst (λ (x : Whole). x.setup ≡ w.setup) (ap (λ (a : Actor). (due_step w a kind).after) is ∙ sym after) (due_keeps actor kind has asked due).setup
