-- Each step of a driver may be made at its due, and keeps the invariant.
use Rattle.std.proofs.Common.{◌≡◌, ◌⊎◌, ℕ, ◌+◌, ◌-◌, ◌*◌, ◌^◌, ◌<◌, ◌≤◌, max, true, false, cond, eqb, ltb, refl, sym, ap, subst, ◌∙◌, inl, inr, ⊎_elim, arith}
use Rattle.std.specs.Prelude.{Option, None, Some}
use Rattle.tso_model.specs.declared.entries.Claim.{Claim}
use Rattle.tso_model.specs.declared.view.View.{View}
use Rattle.tso_model.specs.declared.step.WordStep.{WordStep}
use Rattle.tso_model.specs.declared.step.WordStep.TheVariants.{LoadCell, ClaimTerm, RaiseCursor, StoreLimit, ClearLimit}
use Rattle.tso_model.specs.Words.{packed, cell_of, cell_word, IsOpen}
use Rattle.tso_model.specs.Moves.{spent_view}
use Rattle.tso_model.specs.Sound.{FitsA}
use Rattle.tso_model.specs.Steps.{May, HasClaim, held, held_or, view_after, knows, claimed, saves, marks}
use Rattle.tso_model.proofs.Basics.{by_bool, by_eq, by_lt}
use Rattle.tso_model.proofs.CellA.{no_some}
use Rattle.tso_core.specs.declared.turn.Turn.{Turn}
use Rattle.tso_core.specs.declared.reply.Due.{Due}
use Rattle.tso_core.specs.declared.reply.Due.TheVariants.{Rest, Campaign, Save, Raise, Publish, Arm, Draw}
use Rattle.tso_core.specs.declared.reply.Reply.TheVariants.{Claimed, Beaten, Saved, Lost, NotLeading, Resigned}
use Rattle.tso_core.specs.Due.{at_rest}
use Rattle.tso_model.specs.declared.plan.TheConstants.{AHEAD_MS}
use Rattle.tso_model.specs.Plan.{end_of, lead_next, tick_next}
use Rattle.tso_core.specs.Whole.{Whole, view_at, turn_at, found_by, made, turned}
use Rattle.tso_core.specs.declared.turn.Decided.{Decided}
use Rattle.tso_core.specs.Steps.{decided, ends, goes, read_of, campaign_decides, campaign_of, save_decides, its_save, save_of, its_raise, raise_of, its_publish, publish_of, probe_decides, probe_of, resign_of}
use Rattle.tso_core.specs.Sound.{IsDriver, IsSettled, MaySave, MayRaise, StandsAt, MayMake, IsSound}
use Rattle.tso_core.proofs.Cases.{read_cases, goes_cases}
use Rattle.tso_core.proofs.Kept.{next_view, driver_sound}
use Rattle.tso_core.proofs.Bounds.{held_fits}
use Rattle.tso_core.specs.Ready.{HeldFits}
use Rattle.tso_core.proofs.Places.{at_get}
use Rattle.tso_core.proofs.Views.{same_driver}

-- the mark stays, or comes where the window is open and its start isn't above
marks_kept : (at : ℕ) (v : View) → v.marked ≡ true → marks at v ≡ true
marks_kept at v marked = by_bool (λ b. cond b (cond (ltb (held v).lo (held v).hi) (cond (ltb at ((held v).lo * 262144)) v.marked true) v.marked) v.marked ≡ true) v.holds
    (λ _. by_bool (λ b. cond b (cond (ltb at ((held v).lo * 262144)) v.marked true) v.marked ≡ true) (ltb (held v).lo (held v).hi) (λ _. by_bool (λ b. cond b v.marked true ≡ true) (ltb at ((held v).lo * 262144)) (λ _. marked) (λ _. refl)) (λ _. marked))
    (λ _. marked)

marks_new : (at : ℕ) (v : View) → v.holds ≡ true → IsOpen (held v) → (held v).lo * 262144 ≤ at → marks at v ≡ true
marks_new at v holds opened above = ap (λ b. cond b (cond (ltb (held v).lo (held v).hi) (cond (ltb at ((held v).lo * 262144)) v.marked true) v.marked) v.marked) holds
    ∙ by_lt (λ b. cond b (cond (ltb at ((held v).lo * 262144)) v.marked true) v.marked ≡ true) (held v).lo (held v).hi (λ _. by_lt (λ b. cond b v.marked true ≡ true) at ((held v).lo * 262144) (λ less. absurd (omega arith)) (λ _. refl)) (λ shut. absurd (omega (arith, opened)))

marks_next : (next : ℕ) (v : View) → MayRaise next v → marks (next * 262144) v ≡ true
marks_next next v may = ⊎_elim (λ marked. marks_kept (next * 262144) v marked) (λ start. marks_new (next * 262144) v may.holds start.0 (omega (arith, start.1))) may.start

-- after the first save of a term the window begins with the planned time, and a later save leaves its start
saved_raise : (next : ℕ) (v : View) (o : Option Claim) → v.latest ≡ o → HasClaim v → MaySave next v → (v.marked ≡ true → IsOpen (held v)) → MayRaise next (saves (end_of next) v o)
saved_raise next v None is has may opened = no_some has.0 (sym has.1 ∙ is)
saved_raise next v (Some c) is has may opened =
    let w = c.window in
    let same : held v ≡ w = ap held_or is in
    record {
      holds = may.holds;
      below = omega arith;
      start = by_eq (λ b. (cond b false v.marked ≡ true) ⊎ ((cond b (max (end_of next - AHEAD_MS) w.hi) w.lo < end_of next) × (cond b (max (end_of next - AHEAD_MS) w.hi) w.lo ≤ next))) w.lo w.hi
          (λ shut. ⊎_elim (λ marked. absurd (omega (arith, opened marked, shut, ap (λ x. x.lo) same, ap (λ x. x.hi) same))) (λ start. let most : w.hi ≤ next = omega (arith, start.1, ap (λ x. x.hi) same) in inr (omega arith, omega arith)) may.start)
          (λ apart. ⊎_elim (λ marked. inl marked) (λ start. absurd (apart (omega (arith, start.0, ap (λ x. x.lo) same, ap (λ x. x.hi) same)))) may.start);
    }

not_true : false ≡ true → ⊥
not_true e = cc

false_true : {A : Type 0} → false ≡ true → A
false_true e = absurd (not_true e)

-- where a driver goes
clock_at : (due : Due) (turn : Turn) (v : View) → HeldFits v → StandsAt due turn v → turn.next < 2 ^ 45
clock_at Rest turn v fits is = omega (arith, ap (λ (t : Turn). t.next) is.0)
clock_at Campaign turn v fits is = omega (arith, is.clock)
clock_at Save turn v fits is = omega (arith, is.clock)
clock_at Raise turn v fits is = omega (arith, is.below, fits.hi)
clock_at Publish turn v fits is = omega (arith, is.0)
clock_at Arm turn v fits is = absurd is
clock_at Draw turn v fits is = absurd is

module _ (w : Whole) (s : IsSound w) (d : ℕ) (pos : 0 < d) (low : d ≤ w.setup.drivers) where
  the_view : View
  the_view = view_at w d

  own : IsDriver d (view_at w d)
  own = (s.drivers d pos low).own

  is_driver : 0 < (view_at w d).driver
  is_driver = omega (arith, own.driver, pos)

  fits : FitsA w.setup s.recorded.history (view_at w d)
  fits = s.recorded.a.each d (view_at w d) (at_get w.views d spent_view (omega (arith, s.wide, low))) own.live

  stands : (due : Due) → (turn_at w d).due ≡ due → StandsAt due (turn_at w d) (view_at w d)
  stands due is = subst (λ (x : Due). StandsAt x (turn_at w d) (view_at w d)) is (s.drivers d pos low).stands

  pub may_make : (step : WordStep) → May w.setup step (view_at w d) → MayMake w d step
  may_make step may = record { inside = omega (arith, s.wide, low); live = own.live; quota = own.quota; may = may }

  kept : (step : WordStep) → May w.setup step (view_at w d) → (turn : Turn) → StandsAt turn.due turn (next_view w d step) → IsSound (turned (made w d step) d turn)
  kept step may turn right = driver_sound w s d pos low step may turn (same_driver d step (found_by w d step) (view_at w d) own) right

  -- a read
  pub may_read : MayMake w d LoadCell
  may_read = may_make LoadCell is_driver

  pub read_sound : (now : ℕ) → (turn_at w d).due ≡ Rest → IsSound (read_of w d now).after
  read_sound now due =
      let n = found_by w d LoadCell in
      let settled = (stands Rest due).1 in
      read_cases (λ (x : Decided). IsSound (turned (made w d LoadCell) d x.turn)) (cell_of n) now
      (λ _. kept LoadCell is_driver at_rest (refl, settled)) (λ _ _. kept LoadCell is_driver at_rest (refl, settled))
      (λ left clock. kept LoadCell is_driver (record { due = Campaign; next = lead_next (cell_of n).saved now; publishes = true })
      (record { settled = settled; term = omega (arith, left); above = omega arith; clock = clock }))

  -- a campaign
  may_claim : (turn_at w d).due ≡ Campaign → May w.setup ClaimTerm (view_at w d)
  may_claim due = (is_driver, (stands Campaign due).term)

  pub may_campaign : (turn_at w d).due ≡ Campaign → MayMake w d ClaimTerm
  may_campaign due = may_make ClaimTerm (may_claim due)

  pub campaign_sound : (turn_at w d).due ≡ Campaign → IsSound (campaign_of w d).after
  campaign_sound due =
      let v = view_at w d in
      let n = found_by w d ClaimTerm in
      let next = (turn_at w d).next in
      let may = stands Campaign due in
      kept ClaimTerm (may_claim due) (campaign_decides v.cell next n).turn
      (by_bool (λ b. StandsAt (cond {A = Decided} b (goes (Claimed (v.cell.term + 1)) Save next true) (ends (Beaten (cell_of n)))).turn.due
      (cond {A = Decided} b (goes (Claimed (v.cell.term + 1)) Save next true) (ends (Beaten (cell_of n)))).turn (cond b (claimed v) (knows (cell_of n) v))) (eqb n (cell_word v.cell))
      (λ _. record { holds = refl; above = omega (arith, may.above); clock = may.clock; start = inr (refl, omega (arith, may.above)) })
      (λ _. (refl, may.settled)))

  -- a save
  opened : (view_at w d).marked ≡ true → IsOpen (held (view_at w d))
  opened marked = (fits.marked marked).1

  may_save_step : (turn_at w d).due ≡ Save → May w.setup (its_save w d) (view_at w d)
  may_save_step due = let may = stands Save due in (is_driver, may.holds, fits.holds may.holds, may.above, may.clock)

  pub may_save : (turn_at w d).due ≡ Save → MayMake w d (its_save w d)
  may_save due = may_make (its_save w d) (may_save_step due)

  pub save_sound : (turn_at w d).due ≡ Save → IsSound (save_of w d).after
  save_sound due =
      let v = view_at w d in
      let n = found_by w d (its_save w d) in
      let next = (turn_at w d).next in
      let may = stands Save due in
      kept (its_save w d) (may_save_step due) (save_decides (held v) next n).turn
      (by_bool (λ b. StandsAt (cond {A = Decided} b (goes (Saved (end_of next)) Raise next true) (goes (Lost (cell_of n)) Publish 0 false)).turn.due
      (cond {A = Decided} b (goes (Saved (end_of next)) Raise next true) (goes (Lost (cell_of n)) Publish 0 false)).turn (cond b (saves (end_of next) v v.latest) (knows (cell_of n) v))) (eqb n (packed (held v).hi (held v).term))
      (λ _. saved_raise next v v.latest refl (fits.holds may.holds) may opened)
      (λ _. (refl, λ never. false_true never)))

  -- a raise
  may_raise_step : (turn_at w d).due ≡ Raise → May w.setup (its_raise w d) (view_at w d)
  may_raise_step due = let may = stands Raise due in (is_driver, inr (may.holds, fits.holds may.holds, omega (arith, may.below)))

  pub may_raise : (turn_at w d).due ≡ Raise → MayMake w d (its_raise w d)
  may_raise due = may_make (its_raise w d) (may_raise_step due)

  pub raise_sound : (turn_at w d).due ≡ Raise → IsSound (raise_of w d).after
  raise_sound due =
      let v = view_at w d in
      let next = (turn_at w d).next in
      let marked : marks (next * 262144) v ≡ true = marks_next next v (stands Raise due) in
      by_bool (λ b. IsSound (turned (made w d (its_raise w d)) d (cond b (record { due = Publish; next = 0; publishes = true }) at_rest))) (turn_at w d).publishes
      (λ _. kept (its_raise w d) (may_raise_step due) (record { due = Publish; next = 0; publishes = true }) (refl, λ _. marked))
      (λ _. kept (its_raise w d) (may_raise_step due) at_rest (refl, λ _. marked))

  -- a publish
  may_publish_step : (turn_at w d).due ≡ Publish → May w.setup (its_publish w d) (view_at w d)
  may_publish_step due = by_bool (λ b. May w.setup (cond b StoreLimit ClearLimit) (view_at w d)) (turn_at w d).publishes
      (λ publishes. let marked = (stands Publish due).1 publishes in let open_mark = fits.marked marked in (is_driver, open_mark.0, marked, fits.holds open_mark.0, open_mark.1))
      (λ _. is_driver)

  pub may_publish : (turn_at w d).due ≡ Publish → MayMake w d (its_publish w d)
  may_publish due = may_make (its_publish w d) (may_publish_step due)

  pub publish_sound : (turn_at w d).due ≡ Publish → IsSound (publish_of w d).after
  publish_sound due = kept (its_publish w d) (may_publish_step due) at_rest (
    refl,
    by_bool (λ b. IsSettled (view_after (cond b StoreLimit ClearLimit) (found_by w d (its_publish w d)) (view_at w d))) (turn_at w d).publishes
        (λ publishes holds. (stands Publish due).1 publishes)
        (λ _ holds. false_true holds),
  )

  -- a probe and a resignation
  pub may_probe : MayMake w d (RaiseCursor 0)
  may_probe = may_make (RaiseCursor 0) (is_driver, inl refl)

  pub probe_sound : (now : ℕ) → (turn_at w d).due ≡ Rest → IsSound (probe_of w d now).after
  probe_sound now due =
      let v = view_at w d in
      let n = found_by w d (RaiseCursor 0) in
      let settled = (stands Rest due).1 in
      by_bool (λ b. IsSound (cond b (decided (made w d (RaiseCursor 0)) d (probe_decides (held v).hi now n)) (record { reply = NotLeading; after = w })).after) v.holds
      (λ holds. let marked : marks 0 v ≡ true = marks_kept 0 v (settled holds) in
      goes_cases (λ (x : Decided). IsSound (turned (made w d (RaiseCursor 0)) d x.turn)) (held v).hi n (tick_next n (held v).hi now)
      (λ _. kept (RaiseCursor 0) (is_driver, inl refl) at_rest (refl, λ _. marked)) (λ _ _ _ _. kept (RaiseCursor 0) (is_driver, inl refl) at_rest (refl, λ _. marked))
      (λ next _ near clock. kept (RaiseCursor 0) (is_driver, inl refl) (record { due = Save; next = next; publishes = true }) (record { holds = holds; above = omega (arith, near); clock = clock; start = inl marked }))
      (λ next _ far. kept (RaiseCursor 0) (is_driver, inl refl) (record { due = Raise; next = next; publishes = false }) (record { holds = holds; below = omega (arith, far); start = inl marked })))
      (λ _. s)

  pub may_resign : MayMake w d ClearLimit
  may_resign = may_make ClearLimit is_driver

  pub resign_sound : IsSound (resign_of w d).after
  resign_sound = by_bool (λ b. IsSound (cond b (decided (made w d ClearLimit) d (ends Resigned)) (record { reply = NotLeading; after = w })).after) (view_at w d).holds
      (λ _. kept ClearLimit is_driver at_rest (refl, λ holds. false_true holds))
      (λ _. s)

  -- what a driver holds is in range, and so is where a raise goes
  pub driver_held : HeldFits (view_at w d)
  driver_held = held_fits w.setup w.words w.views s.recorded.history s.recorded.a s.recorded.b s.recorded.c d (view_at w d) (at_get w.views d spent_view (omega (arith, s.wide, low))) own.live is_driver

  pub raise_clock : (turn_at w d).due ≡ Raise → (turn_at w d).next < 2 ^ 45
  raise_clock due = omega (arith, (stands Raise due).below, driver_held.hi)

  -- the time that a driver goes to is below the clock's end
  pub turn_clock : (turn_at w d).next < 2 ^ 45
  turn_clock = clock_at (turn_at w d).due (turn_at w d) (view_at w d) driver_held (s.drivers d pos low).stands
