-- The windows that an answer tells are those that its call leaves.
use Rattle.std.proofs.Common.{◌≡◌, ℕ, ◌+◌, ◌-◌, ◌^◌, ◌<◌, ◌≤◌, max, Bool, true, false, cond, eqb, ltb, List, [], ◌∷◌, ◌++◌, refl, sym, ap, subst, ◌∙◌, ⊎_elim, arith, eq-eqb, lt-ltb}
use Rattle.std.specs.Prelude.{Option, None, Some, unwrap_or, slice_index}
use Rattle.std.specs.List.{AllByRecursion}
use mathlib.Core.Logic.{dite}
use native.Mathlib.Decide.{ℕ_discrete, dec_le}
use Rattle.pd_types.specs.declared.oracle.Actor.{Actor}
use Rattle.pd_types.specs.declared.oracle.Actor.TheVariants.{Driver, Client, Store}
use Rattle.pd_types.specs.declared.oracle.CellWord.{CellWord}
use Rattle.pd_types.specs.declared.oracle.Window.{Window}
use Rattle.tso_model.specs.declared.entries.Claim.{Claim}
use Rattle.tso_model.specs.declared.plan.TheConstants.{AHEAD_MS}
use Rattle.tso_model.specs.declared.step.WordStep.TheVariants.{LoadCell, RaiseCursor, StoreLimit, ClearLimit, LoadLimit, ArmCount, AddArmed}
use Rattle.tso_model.specs.Words.{packed, cell_of, cell_word, window, IsOpen, passes, last_end}
use Rattle.tso_model.specs.Moves.{spent_view}
use Rattle.tso_model.specs.Plan.{end_of, lead_next, tick_next}
use Rattle.tso_model.specs.Ledger.{longer_last, windows_after}
use Rattle.tso_model.specs.Steps.{held, held_or, hand, batch_of, new_claim, saved_window}
use Rattle.tso_model.proofs.Basics.{by_bool, by_eq, by_lt, at_some}
use Rattle.tso_model.proofs.Records.{longer_push}
use Rattle.tso_core.specs.declared.turn.Decided.{Decided}
use Rattle.tso_core.specs.declared.reply.Due.{Due}
use Rattle.tso_core.specs.declared.reply.Due.TheVariants.{Rest, Save, Raise, Publish}
use Rattle.tso_core.specs.declared.reply.Kind.{Kind}
use Rattle.tso_core.specs.declared.reply.Kind.TheVariants.{Read, Campaign as ToCampaign, Save as ToSave, Probe, Raise as ToRaise, Publish as ToPublish, Resign, Look, Arm as ToArm, Draw as ToDraw}
use Rattle.tso_core.specs.declared.reply.Reply.{Reply}
use Rattle.tso_core.specs.declared.reply.Reply.TheVariants.{Got, Again, Told, Armed, Beaten, Lost, TermsSpent, ClockRange, Idle, NotLeading, Resigned, Claimed, Saved}
use Rattle.tso_core.specs.Due.{same_due, due_for}
use Rattle.tso_core.specs.Whole.{Whole, place_of_client, view_at, turn_at, post_at, found_by, made}
use Rattle.tso_core.specs.Steps.{Stepped, out_of_turn, decided, ends, goes, probe_decides, its_publish, read_of, campaign_of, save_of, due_at, move_of, due_step, step_of}
use Rattle.tso_core.specs.Rows.{told, row, won, lead_kinds, tick_kinds, take_kinds, lead_of, tick_of, resigned_of, take_of}
use Rattle.tso_core.specs.Says.{OfWindows, Stay, says}
use Rattle.tso_core.specs.Notes.{tell_of, hear_of, heard_from, note_left}
use Rattle.tso_core.specs.Sound.{IsSound, HasDriver, StandsAt}
use Rattle.tso_core.specs.Asked.{HasActor}
use Rattle.tso_laws.specs.Laws.{windows_told, windows_with, lengthened_by, longer_by, ended_at, driver_of}
use Rattle.tso_laws.specs.WholeCalls.{DriverState, driver_state, Answers, cell_at, cursor_of, later_window, LeadTells, TickTells}
use Rattle.tso_core.proofs.Bounds.{cell_fits, held_from}
use Rattle.tso_core.proofs.Cases.{read_cases, goes_cases, look_cases}
use Rattle.tso_core.proofs.Dues.{is_due}
use Rattle.tso_laws.proofs.Lasts.{older_of, all_are, its, its_fits, last_own}
use Rattle.tso_laws.proofs.Leading.{lead_tells, tick_tells}
use Rattle.tso_core.proofs.Places.{at_get}
use Rattle.tso_core.proofs.Stepping.{OnMove, due_by, step_by, row_by, call_by, busy_call}

-- the windows are those that the answer tells
abbrev pub Shows : Whole → ℕ → Stepped → Type 0
Shows w d r = r.after.windows ≡ windows_told d r.reply w.windows

-- an answer that tells of no window leaves them
record Still (w : Whole) (r : Stepped) : Type 0 where
  same : r.after.windows ≡ w.windows
  says_none : (says r.reply).windows ≡ Stay

still_shows : (w : Whole) (d : ℕ) (r : Stepped) → Still w r → Shows w d r
still_shows w d r still = still.same ∙ sym (ap (λ (o : OfWindows). windows_with d o w.windows) still.says_none)

-- lists with a last window
end_push : (ws : List Window) (w : Window) → last_end (ws ++ w ∷ []) ≡ w.hi
end_push [] w = refl
end_push (x ∷ []) w = refl
end_push (x ∷ y ∷ ys) w = end_push (y ∷ ys) w

long_push : (d hi : ℕ) (ws : List Window) (w : Window) → lengthened_by d hi (ws ++ w ∷ []) ≡ ws ++ longer_by d hi w ∷ []
long_push d hi [] w = refl
long_push d hi (x ∷ []) w = refl
long_push d hi (x ∷ y ∷ ys) w = ap (λ (l : List Window). x ∷ l) (long_push d hi (y ∷ ys) w)

-- an end that isn't later leaves a window
no_longer : (d hi : ℕ) (w : Window) → hi ≤ w.hi → longer_by d hi w ≡ w
no_longer d hi w low = by_bool (λ b. cond b (cond (ltb w.hi hi) (ended_at hi w) w) w ≡ w) (eqb w.driver d)
    (λ _. by_lt (λ b. cond b (ended_at hi w) w ≡ w) w.hi hi (λ less. absurd (omega (arith, less, low))) (λ _. refl)) (λ _. refl)

-- a later end of its driver makes it longer
longer : (d hi : ℕ) (w : Window) → w.driver ≡ d → w.hi < hi → longer_by d hi w ≡ ended_at hi w
longer d hi w mine late = ap (λ (b : Bool). cond b (cond (ltb w.hi hi) (ended_at hi w) w) w) (eq-eqb w.driver d mine) ∙ ap (λ (b : Bool). cond b (ended_at hi w) w) (lt-ltb w.hi hi late)

-- as a save does
as_saved : (hi : ℕ) (w : Window) → w.lo ≤ w.hi → ended_at hi w ≡ saved_window hi w
as_saved hi w inside = by_lt (λ b. (let x : Window = record w { lo = cond b w.lo (max (hi - 3000) w.lo); hi = hi } in x) ≡ saved_window hi w) w.lo w.hi
    (λ less. by_eq (λ b. (let x : Window = record w { lo = w.lo; hi = hi } in x) ≡ record w { lo = cond b (max (hi - AHEAD_MS) w.hi) w.lo; hi = hi }) w.lo w.hi (λ same. absurd (omega (arith, less, same))) (λ _. refl))
    (λ most. let same : w.lo ≡ w.hi = omega (arith, most, inside) in
    by_eq (λ b. (let x : Window = record w { lo = max (hi - 3000) w.lo; hi = hi } in x) ≡ record w { lo = cond b (max (hi - AHEAD_MS) w.hi) w.lo; hi = hi }) w.lo w.hi
    (λ _. ap (λ (lo : ℕ). let x : Window = record w { lo = lo; hi = hi } in x) (let e : max (hi - 3000) w.lo ≡ max (hi - 3000) w.hi = omega (arith, same) in e)) (λ apart. absurd (apart same)))

as_open : (hi : ℕ) (w : Window) → IsOpen w → ended_at hi w ≡ record w { hi = hi }
as_open hi w is_open = ap (λ (b : Bool). let x : Window = record w { lo = cond b w.lo (max (hi - 3000) w.lo); hi = hi } in x) (lt-ltb w.lo w.hi is_open)

-- the calls of a client
module _ (w : Whole) (c : ℕ) where
  client_move : (kind : Kind) → OnMove (Still w) w (move_of (Client c) kind)
  client_move (Look d) = record {
    same = refl;
    says_none = look_cases (λ (x : Reply) _. (says x).windows ≡ Stay) (found_by w (place_of_client w c) (LoadLimit d)) (view_at w (place_of_client w c)) (λ _. refl) (λ _ _. refl) (λ _ _. refl);
  }
  client_move (ToArm n) =
      let at = found_by w (place_of_client w c) (ArmCount n) in
      let hi = (hand (view_at w (place_of_client w c))).hi in
      record { same = refl; says_none = by_bool (λ b. (says (cond b (Again at hi n) (Armed at))).windows ≡ Stay) (passes at hi n) (λ _. refl) (λ _. refl) }
  client_move ToDraw =
      let v = view_at w (place_of_client w c) in
      let at = found_by w (place_of_client w c) AddArmed in
      record { same = refl; says_none = by_bool (λ b. (says (cond b (Again at (hand v).hi v.armed) (Got (batch_of at v)))).windows ≡ Stay) (passes at (hand v).hi v.armed) (λ _. refl) (λ _. refl) }
  client_move kind = tt

  heard_still : (post : List ℕ) → Still w (heard_from w c post)
  heard_still [] = record { same = refl; says_none = refl }
  heard_still (note ∷ rest) = record { same = refl; says_none = refl }

  out_still : (due : Due) → Still w (out_of_turn w due)
  out_still due = record { same = refl; says_none = refl }

-- the kinds that a client makes, whose answer is the row's
abbrev IsOfClient : Kind → Type 0
IsOfClient (Look d) = Unit {0}
IsOfClient (ToArm n) = Unit {0}
IsOfClient ToDraw = Unit {0}
IsOfClient kind = ⊥

client_told : (P : Reply → Type 0) (kind : Kind) → IsOfClient kind → (c : ℕ) (w : Whole) (before reply : Reply) → P reply → P (unwrap_or (told kind (Client c) w before) reply)
client_told P (Look d) is c w before reply own = own
client_told P (ToArm n) is c w before reply own = own
client_told P ToDraw is c w before reply own = own
client_told P kind is c w before reply own = absurd is

-- a row of a client tells of no window
row_still : (w : Whole) (c : ℕ) (kinds : List Kind) → AllByRecursion IsOfClient kinds → (r : Stepped) → Still w r → Still w (row (Client c) kinds r)
row_still w c kinds own r still = row_by (Still w) IsOfClient (Client c)
    (λ u kind is _ p.
    let s = due_by (Still u.after) u.after (Client c) kind (record { same = refl; says_none = refl }) (client_move u.after c kind) in
    record { same = s.same ∙ p.same; says_none = client_told (λ (x : Reply). (says x).windows ≡ Stay) kind is c u.after u.reply (due_step u.after (Client c) kind).reply s.says_none }) kinds own r still

pub take_shows : (w : Whole) (e c d n : ℕ) → Shows w e (take_of w c d n)
take_shows w e c d n = still_shows w e (take_of w c d n) (by_bool (λ b. Still w (cond b (row (Client c) (take_kinds d n) (out_of_turn w (due_at w c))) (out_of_turn w (due_at w c)))) (same_due (due_at w c) Rest)
    (λ _. row_still w c (take_kinds d n) (tt, (tt, (tt, tt))) (out_of_turn w (due_at w c)) (out_still w c (due_at w c))) (λ _. out_still w c (due_at w c)))

still_else : (w : Whole) (e : ℕ) (due : Due) (r : Stepped) → Still w r → Shows w e (cond (same_due due Rest) r (out_of_turn w due))
still_else w e due r still = by_bool (λ b. Shows w e (cond b r (out_of_turn w due))) (same_due due Rest) (λ _. still_shows w e r still) (λ _. refl)

pub tell_shows : (w : Whole) (e from to : ℕ) → Shows w e (tell_of w from to)
tell_shows w e from to = still_else w e (due_at w from) (record { reply = Told; after = note_left w from to }) (record { same = refl; says_none = refl })

pub hear_shows : (w : Whole) (e c : ℕ) → Shows w e (hear_of w c)
hear_shows w e c = still_else w e (due_at w c) (heard_from w c (post_at w c)) (heard_still w c (post_at w c))

-- the calls of a driver
module _ (w : Whole) (s : IsSound w) (d : ℕ) (has : HasDriver w.setup d) where
  stands : (due : Due) → (turn_at w d).due ≡ due → StandsAt due (turn_at w d) (view_at w d)
  stands due is = subst (λ (x : Due). StandsAt x (turn_at w d) (view_at w d)) is (s.drivers d has.pos has.low).stands

  cell_is : slice_index w.words 0 ≡ packed s.recorded.history.newest.window.hi s.recorded.history.newest.window.term
  cell_is = s.recorded.a.cell

  -- a campaign that finds the known cell claims the last window's end
  known_end : slice_index w.words 0 ≡ cell_word (view_at w d).cell → (view_at w d).cell.saved ≡ last_end w.windows
  known_end hit =
      let r = s.recorded in
      let mine = cell_fits w.setup w.words w.views r.history r.a r.b r.c d (view_at w d) (at_get w.views d spent_view (omega (arith, s.wide, has.low))) (its w s d has).live in
      let end : last_end w.windows ≡ r.history.newest.window.hi = ap last_end (all_are w s) ∙ end_push (older_of w s) r.history.newest.window in
      omega (arith, end, hit, cell_is, r.a.in_terms, mine.term)

  campaign_shows : Shows w d (campaign_of w d)
  campaign_shows =
      let v = view_at w d in
      let n = slice_index w.words 0 in
      by_eq (λ b. cond b (w.windows ++ (new_claim v).window ∷ []) w.windows ≡ windows_told d (cond {A = Decided} b (goes (Claimed (v.cell.term + 1)) Save (turn_at w d).next true) (ends (Beaten (cell_of n)))).reply w.windows) n (cell_word v.cell)
      (λ hit. λ i. w.windows ++ window (v.cell.term + 1) ((its w s d has).driver i) (known_end hit i) (known_end hit i) ∷ [])
      (λ _. refl)

  -- a save that finds its own cell makes the last window longer
  save_long : (turn_at w d).due ≡ Save → slice_index w.words 0 ≡ packed (held (view_at w d)).hi (held (view_at w d)).term → longer_last (end_of (turn_at w d).next) w.windows ≡ lengthened_by d (end_of (turn_at w d).next) w.windows
  save_long due hit =
      let v = view_at w d in
      let hi = end_of (turn_at w d).next in
      let may = stands Save due in
      let claim = (its_fits w s d has).holds may.holds in
      let mine : (held v).driver ≡ d = ap (λ (o : Option Claim). (held_or o).driver) claim.1 ∙ (at_some v.latest _ (its_fits w s d has).latest claim.0 claim.1).0 ∙ (its w s d has).driver in
      let inside : (held v).lo ≤ (held v).hi = ⊎_elim (λ marked. omega (arith, ((its_fits w s d has).marked marked).1)) (λ start. omega (arith, start.0)) may.start in
      let last = last_own w s d has may.holds hit in
      ap (longer_last hi) last ∙ longer_push hi (older_of w s) (held v) ∙ ap (λ (x : Window). older_of w s ++ x ∷ []) (sym (longer d hi (held v) mine may.above ∙ as_saved hi (held v) inside))
      ∙ sym (ap (lengthened_by d hi) last ∙ long_push d hi (older_of w s) (held v))

  save_shows : (turn_at w d).due ≡ Save → Shows w d (save_of w d)
  save_shows due =
      let v = view_at w d in
      let n = slice_index w.words 0 in
      let next = (turn_at w d).next in
      by_eq (λ b. cond b (longer_last (end_of next) w.windows) w.windows ≡ windows_told d (cond {A = Decided} b (goes (Saved (end_of next)) Raise next true) (goes (Lost (cell_of n)) Publish 0 false)).reply w.windows) n (packed (held v).hi (held v).term)
      (λ hit. save_long due hit) (λ _. refl)

  publish_same : (b : Bool) → windows_after (cond b StoreLimit ClearLimit) (found_by w d (its_publish w d)) (view_at w d) w.windows ≡ w.windows
  publish_same true = refl
  publish_same false = refl

  held_shows : (b : Bool) (r : Stepped) → Shows w d r → Shows w d (cond b r (record { reply = NotLeading; after = w }))
  held_shows true r shows = shows
  held_shows false r shows = refl

  driver_move : (kind : Kind) → (turn_at w d).due ≡ due_for kind → OnMove (Shows w d) w (move_of (Driver d) kind)
  driver_move (Read now) due = still_shows w d (read_of w d now) (record { same = refl; says_none = read_cases (λ (x : Decided). (says x.reply).windows ≡ Stay) (cell_of (found_by w d LoadCell)) now (λ _. refl) (λ _ _. refl) (λ _ _. refl) })
  driver_move ToCampaign due = campaign_shows
  driver_move ToSave due = save_shows due
  driver_move (Probe now) due =
      let hi = (held (view_at w d)).hi in
      let n = found_by w d (RaiseCursor 0) in
      let r : Stepped = decided (made w d (RaiseCursor 0)) d (probe_decides hi now n) in
      held_shows (view_at w d).holds r (still_shows w d r (record {
        same = refl;
        says_none = goes_cases (λ (x : Decided). (says x.reply).windows ≡ Stay) hi n (tick_next n hi now) (λ _. refl) (λ _ _ _ _. refl) (λ _ _ _ _. refl) (λ _ _ _. refl);
      }))
  driver_move ToPublish due = publish_same (turn_at w d).publishes
  driver_move Resign due = held_shows (view_at w d).holds (decided (made w d ClearLimit) d (ends Resigned)) refl
  driver_move ToRaise due = refl
  driver_move kind due = tt

  -- an answer by its state
  answered : (kinds : List Kind) (reply : Reply) (state : DriverState) (r : Stepped) → Answers w d kinds reply state r → state.windows ≡ windows_told d reply w.windows → Shows w d r
  answered kinds reply state r a windows = ap (λ (x : DriverState). x.windows) a.state_is ∙ windows ∙ ap (λ (y : Reply). windows_told d y w.windows) (sym a.reply_is)

  lead_rest_shows : (now : ℕ) → (turn_at w d).due ≡ Rest → Shows w d (lead_of w d now)
  lead_rest_shows now rest =
      let tells : LeadTells w d now = lead_tells w s d has rest now in
      dite (ℕ_discrete (cell_at w).term 262143)
      (λ last. answered (Read now ∷ []) TermsSpent (driver_state w d) (lead_of w d now) (tells.spent last) refl)
      (λ left. dite (dec_le (2 ^ 45) (lead_next (cell_at w).saved now + 3000))
      (λ over. answered (Read now ∷ []) ClockRange (driver_state w d) (lead_of w d now) (tells.clock left over) refl)
      (λ clock. answered _ _ _ (lead_of w d now) (tells.won left (omega (arith, clock))) refl))

  pub lead_shows : (now : ℕ) → Shows w d (lead_of w d now)
  lead_shows now = by_bool (λ b. same_due (turn_at w d).due Rest ≡ b → Shows w d (lead_of w d now)) (same_due (turn_at w d).due Rest)
      (λ rest _. lead_rest_shows now (is_due (turn_at w d).due Rest rest))
      (λ busy _. subst (λ (r : Stepped). Shows w d (won d r)) (sym (busy_call w (Driver d) (lead_kinds now) busy)) refl) refl

  -- a held end is no later than the last window's, so it makes nothing longer
  held_stays : lengthened_by d (held (view_at w d)).hi w.windows ≡ w.windows
  held_stays =
      let r = s.recorded in
      let v = view_at w d in
      let low = held_from w.setup w.words w.views r.history r.a r.b r.c d v (at_get w.views d spent_view (omega (arith, s.wide, has.low))) (its w s d has).live v.latest refl (omega (arith, (its w s d has).driver, has.pos)) in
      ap (lengthened_by d (held v).hi) (all_are w s) ∙ long_push d (held v).hi (older_of w s) r.history.newest.window
      ∙ ap (λ (x : Window). older_of w s ++ x ∷ []) (no_longer d (held v).hi r.history.newest.window low.0) ∙ sym (all_are w s)

  module _ (now : ℕ) (rest : (turn_at w d).due ≡ Rest) where
    tells : TickTells w d now
    tells = tick_tells w s d has rest now

    module _ (holds : (view_at w d).holds ≡ true) where
      long_enough : (next : ℕ) (older : List Window) → (held (view_at w d)).hi ≤ next + 1 → w.windows ≡ older ++ held (view_at w d) ∷ [] → older ++ later_window w d next ∷ [] ≡ lengthened_by d (next + 3000) w.windows
      long_enough next older near last =
          let v = view_at w d in
          let claim = (its_fits w s d has).holds holds in
          let mine : (held v).driver ≡ d = ap (λ (o : Option Claim). (held_or o).driver) claim.1 ∙ (at_some v.latest _ (its_fits w s d has).latest claim.0 claim.1).0 ∙ (its w s d has).driver in
          let is_open : IsOpen (held v) = ((its_fits w s d has).marked ((stands Rest rest).1 holds)).1 in
          ap (λ (x : Window). older ++ x ∷ []) (sym (longer d (next + 3000) (held v) mine (omega (arith, near)) ∙ as_open (next + 3000) (held v) is_open))
          ∙ sym (ap (lengthened_by d (next + 3000)) last ∙ long_push d (next + 3000) older (held v))

      goes_shows : (o : Option ℕ) → tick_next (cursor_of w d) (held (view_at w d)).hi now ≡ o → Shows w d (tick_of w d now)
      goes_shows None goes = answered (Probe now ∷ []) Idle (driver_state w d) (tick_of w d now) (tells.idle holds goes) refl
      goes_shows (Some next) goes = dite (dec_le (held (view_at w d)).hi (next + 1))
          (λ near. dite (dec_le (2 ^ 45) (next + 3000))
          (λ over. answered (Probe now ∷ []) ClockRange (driver_state w d) (tick_of w d now) (tells.clock holds next goes near over) refl)
          (λ clock. dite (ℕ_discrete (cell_at w).saved (held (view_at w d)).hi)
          (λ saved. dite (ℕ_discrete (cell_at w).term (held (view_at w d)).term)
          (λ term. let own = tells.saved holds next goes near (omega (arith, clock)) (λ i. record { saved = saved i; term = term i }) in
          answered _ _ _ (tick_of w d now) own.2 (long_enough next own.0 near own.1.last))
          (λ other. lost_shows next goes near (omega (arith, clock)) (λ same. other (ap (λ (c : CellWord). c.term) same))))
          (λ other. lost_shows next goes near (omega (arith, clock)) (λ same. other (ap (λ (c : CellWord). c.saved) same)))))
          (λ far. answered _ _ _ (tick_of w d now) (tells.moved holds next goes (omega (arith, far))) (sym held_stays))
        where
          lost_shows : (next : ℕ) → tick_next (cursor_of w d) (held (view_at w d)).hi now ≡ Some next → (held (view_at w d)).hi ≤ next + 1 → next + 3000 < 2 ^ 45 → ¬ Rattle.tso_laws.specs.WholeCalls.IsOwn w d → Shows w d (tick_of w d now)
          lost_shows next goes near clock other = answered _ _ _ (tick_of w d now) (tells.lost holds next goes near clock other) refl

    tick_rest_shows : Shows w d (tick_of w d now)
    tick_rest_shows = by_bool (λ b. (view_at w d).holds ≡ b → Shows w d (tick_of w d now)) (view_at w d).holds
        (λ holds _. goes_shows holds (tick_next (cursor_of w d) (held (view_at w d)).hi now) refl) (λ none _. subst (λ (r : Stepped). Shows w d r) (sym (tells.not_leading none)) refl) refl

  pub tick_shows : (now : ℕ) → Shows w d (tick_of w d now)
  tick_shows now = by_bool (λ b. same_due (turn_at w d).due Rest ≡ b → Shows w d (tick_of w d now)) (same_due (turn_at w d).due Rest)
      (λ rest _. tick_rest_shows now (is_due (turn_at w d).due Rest rest)) (λ busy _. subst (λ (r : Stepped). Shows w d r) (sym (busy_call w (Driver d) (tick_kinds now) busy)) refl) refl

  pub resign_shows : Shows w d (resigned_of w d)
  resign_shows = call_by (Shows w d) w (Driver d) Resign [] refl refl (λ rest. driver_move Resign rest)

  driver_step_shows : (kind : Kind) → Shows w d (step_of w (Driver d) kind)
  driver_step_shows kind = step_by (Shows w d) w (Driver d) kind refl (driver_move kind)

pub step_shows : (w : Whole) → IsSound w → (actor : Actor) (kind : Kind) → HasActor w.setup actor → Shows w (driver_of actor) (step_of w actor kind)
step_shows w s (Driver d) kind has = driver_step_shows w s d has kind
step_shows w s (Client c) kind has = still_shows w 0 (step_of w (Client c) kind) (step_by (Still w) w (Client c) kind (out_still w c (due_at w c)) (λ _. client_move w c kind))
step_shows w s (Store n) kind has = step_by (Shows w 0) w (Store n) kind refl (λ _. tt)
