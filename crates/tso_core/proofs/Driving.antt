-- A driver's step by its kind: it may be made, and what it found and did decides what is said of the step.
use Rattle.std.proofs.Common.{◌≡◌, ℕ, Bool, true, false, cond, get_or, refl, sym, ap, subst, ◌∙◌, arith}
use Rattle.std.specs.Prelude.{◌==◌, Option, None, Some}
use Rattle.pd_types.specs.declared.oracle.Actor.TheVariants.{Driver}
use Rattle.tso_model.specs.declared.step.WordStep.{WordStep}
use Rattle.tso_model.specs.declared.step.WordStep.TheVariants.{ClaimTerm, RaiseCursor, StoreLimit, ClearLimit}
use Rattle.tso_model.specs.declared.view.View.{View}
use Rattle.tso_model.specs.Plan.{end_of}
use Rattle.tso_model.specs.Steps.{held, new_claim}
use Rattle.tso_model.specs.Words.{packed, cell_of, cell_word}
use Rattle.tso_core.specs.declared.done.Done.{Done}
use Rattle.tso_core.specs.declared.machine.Machine.{Machine}
use Rattle.tso_core.specs.declared.done.Done.TheVariants.{Claimed, Beaten, Saved, Lost}
use Rattle.tso_core.specs.declared.turn.Decided.{Decided}
use Rattle.tso_core.specs.declared.reply.Kind.{Kind}
use Rattle.tso_core.specs.declared.reply.Kind.TheVariants.{Read, Campaign, Save, Probe, Raise, Publish, Resign}
use Rattle.tso_core.specs.declared.reply.Reply.TheVariants.{NotLeading, Published, Resigned}
use Rattle.tso_core.specs.declared.turn.Turn.{Turn}
use Rattle.tso_core.specs.Done.{done_of, reply_of, follow}
use Rattle.tso_core.specs.Driving.{driver_step, has_term_for, IsInTime, decides_by}
use Rattle.tso_core.specs.Due.{due_for, at_rest}
use Rattle.tso_core.specs.Machine.{whole_of, DriverAt}
use Rattle.tso_core.specs.Seated.{Seated}
use Rattle.tso_core.specs.Sound.{IsSound, HasDriver, MayMake}
use Rattle.tso_core.specs.Steps.{Stepped, decided, ends, probe_decides, its_save, its_publish, campaign_of, save_of, publish_of, due_step}
use Rattle.tso_core.specs.Whole.{Whole, view_at, turn_at, found_by, made}
use Rattle.tso_core.proofs.Driven.{may_read, may_campaign, may_save, may_raise, may_publish, may_probe, may_resign}
use Rattle.tso_core.proofs.Ready.{seat_view}

-- a step after which the driver goes on as what it did says
abbrev went : Whole → ℕ → WordStep → Stepped
went w d step =
    let done : Done = done_of step (found_by w d step) (view_at w d) in
    decided (made w d step) d (record { reply = reply_of done; turn = follow (turn_at w d) done })

by_test : (m : Whole) (d : ℕ) (turn : Turn) (b : Bool) (x y : Done)
    → decided m d (cond {A = Decided} b (record { reply = reply_of x; turn = follow turn x }) (record { reply = reply_of y; turn = follow turn y }))
    ≡ decided m d (record { reply = reply_of (cond b x y); turn = follow turn (cond b x y) })
by_test m d turn true x y = refl
by_test m d turn false x y = refl

claims_by : (w : Whole) (d : ℕ) → campaign_of w d ≡ went w d ClaimTerm
claims_by w d = let v : View = view_at w d in let n : ℕ = found_by w d ClaimTerm in by_test (made w d ClaimTerm) d (turn_at w d) (n == cell_word v.cell) (Claimed (new_claim v).window) (Beaten (cell_of n))

saves_by : (w : Whole) (d : ℕ) → save_of w d ≡ went w d (its_save w d)
saves_by w d = let v : View = view_at w d in let n : ℕ = found_by w d (its_save w d) in by_test (made w d (its_save w d)) d (turn_at w d) (n == packed (held v).hi (held v).term) (Saved (end_of (turn_at w d).next)) (Lost (cell_of n))

publish_test : (w : Whole) (d : ℕ) (turn : Turn) (v : View) (b : Bool) →
    decided (made w d (cond b StoreLimit ClearLimit)) d (record { reply = Published (cond b (held v).hi 0); turn = at_rest })
    ≡ (let step : WordStep = cond b StoreLimit ClearLimit in let done : Done = done_of step (found_by w d step) v in let r : Stepped = decided (made w d step) d (record { reply = reply_of done; turn = follow turn done }) in r)
publish_test w d turn v true = refl
publish_test w d turn v false = refl

publishes_by : (w : Whole) (d : ℕ) → publish_of w d ≡ went w d (its_publish w d)
publishes_by w d = publish_test w d (turn_at w d) (view_at w d) (turn_at w d).publishes

-- what a driver makes of a step on a word for this kind
pub record Drives (w : Whole) (d : ℕ) (kind : Kind) (step : WordStep) : Type 0 where
  pub may : MayMake w d step
  pub in_time : IsInTime kind (found_by w d step)
  pub is : due_step w (Driver d) kind ≡ decided (made w d step) d (decides_by kind (turn_at w d) (held (view_at w d)).hi (found_by w d step) (done_of step (found_by w d step) (view_at w d)))

-- so it is with the step of this kind, where it has one
abbrev DrivesBy : Whole → ℕ → Kind → Option WordStep → Type 0
DrivesBy w d kind None = Unit {0}
DrivesBy w d kind (Some step) = Drives w d kind step

module _ (w : Whole) (s : IsSound w) (d : ℕ) (has : HasDriver w.setup d) where
  drives : (kind : Kind) → (turn_at w d).due ≡ due_for kind → has_term_for kind (view_at w d).holds ≡ true → DrivesBy w d kind (driver_step kind (turn_at w d))
  drives (Read now) due led = record { may = may_read w s d has.pos has.low; in_time = omega (arith, s.recorded.a.cell, s.recorded.a.in_time, s.recorded.a.in_terms); is = refl }
  drives Campaign due led = record { may = may_campaign w s d has.pos has.low due; in_time = tt; is = claims_by w d }
  drives Save due led = record { may = may_save w s d has.pos has.low due; in_time = tt; is = saves_by w d }
  drives (Probe now) due led =
      let r : Stepped = decided (made w d (RaiseCursor 0)) d (probe_decides (held (view_at w d)).hi now (found_by w d (RaiseCursor 0))) in
      record { may = may_probe w s d has.pos has.low; in_time = tt; is = ap (λ (b : Bool). cond b r (record { reply = NotLeading; after = w })) led }
  drives Raise due led = record { may = may_raise w s d has.pos has.low due; in_time = tt; is = refl }
  drives Publish due led = record { may = may_publish w s d has.pos has.low due; in_time = tt; is = publishes_by w d }
  drives Resign due led = record { may = may_resign w s d has.pos has.low; in_time = tt; is = ap (λ (b : Bool). cond b (decided (made w d ClearLimit) d (ends Resigned)) (record { reply = NotLeading; after = w })) led }
  drives kind due led = tt

pub driver_seat : (m : Machine) (d : ℕ) (kind : Kind) → DriverAt (due_for kind) d m → (seat : Seated) → seat ≡ get_or m.seats.items d seat → seat.view ≡ view_at (whole_of m) d
driver_seat m d kind at seat is = seat_view m.seats.items d seat (omega (arith, at.sound.wide, at.driver.low)) is

-- the same of a driver in memory, by what its seat and its turn say
pub driven : (m : Machine) (d : ℕ) (kind : Kind) → DriverAt (due_for kind) d m → (seat : Seated) → seat ≡ get_or m.seats.items d seat → has_term_for kind seat.view.holds ≡ true
    → (turn : Turn) → turn ≡ turn_at (whole_of m) d → (step : WordStep) → driver_step kind turn ≡ Some step → Drives (whole_of m) d kind step
driven m d kind at seat is led turn turn_is step makes =
    let w : Whole = whole_of m in
    let same : seat.view ≡ view_at w d = driver_seat m d kind at seat is in
    subst (λ (o : Option WordStep). DrivesBy w d kind o) (sym (ap (driver_step kind) turn_is) ∙ makes)
    (drives w at.sound d at.driver kind at.due (sym (ap (λ (v : View). has_term_for kind v.holds) same) ∙ led))
