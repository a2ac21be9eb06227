-- What a lead, a tick and a resignation of a driver at rest answer and leave.
use Rattle.std.proofs.Common.{◌≡◌, ◌≢◌, ℕ, ◌+◌, ◌-◌, ◌*◌, ◌^◌, ◌<◌, ◌≤◌, max, Bool, true, false, cond, eqb, List, [], ◌∷◌, ◌++◌, refl, sym, ap, subst, ◌∙◌, arith, eq-eqb, ne_eqb}
use Rattle.std.specs.Prelude.{Option, Some, slice_index}
use Rattle.pd_types.specs.declared.oracle.Actor.TheVariants.{Driver}
use Rattle.pd_types.specs.declared.oracle.CellWord.{CellWord}
use Rattle.pd_types.specs.declared.oracle.Window.{Window}
use Rattle.tso_model.specs.declared.entries.Claim.{Claim}
use Rattle.tso_model.specs.declared.step.WordStep.TheVariants.{RaiseCursor, ClearLimit}
use Rattle.tso_model.specs.declared.plan.TheConstants.{AHEAD_MS}
use Rattle.tso_model.specs.Words.{packed, cell_of, cell_word, window, IsOpen}
use Rattle.tso_model.specs.Moves.{spent_view}
use Rattle.tso_model.specs.Plan.{end_of, lead_next}
use Rattle.tso_model.specs.Ledger.{longer_last}
use Rattle.tso_model.specs.Steps.{held, held_or, HasClaim, knows, new_claim, claimed, saved_window, saves, raised, publishes}
use Rattle.tso_model.specs.Sound.{FitsA}
use Rattle.tso_model.proofs.CellA.{cell_of-packed}
use Rattle.tso_model.proofs.Records.{longer_push}
use Rattle.tso_core.specs.declared.turn.Decided.{Decided}
use Rattle.tso_core.specs.declared.reply.Due.{Due}
use Rattle.tso_core.specs.declared.reply.Due.TheVariants.{Rest, Campaign, Save, Raise, Publish}
use Rattle.tso_core.specs.declared.reply.Kind.{Kind}
use Rattle.tso_core.specs.declared.reply.Kind.TheVariants.{Read, Campaign as ToCampaign, Save as ToSave, Probe, Raise as ToRaise, Publish as ToPublish, Resign}
use Rattle.tso_core.specs.declared.reply.Reply.{Reply}
use Rattle.tso_core.specs.declared.reply.Reply.TheVariants.{Won, Beaten, Lost, TermsSpent, ClockRange, Moved, Idle, NotLeading, Resigned, CellRead, Claimed, Saved, Raised, Probed, Published}
use Rattle.tso_core.specs.Due.{same_due, due_for, at_rest}
use Rattle.tso_core.specs.Whole.{Whole, view_at, turn_at, found_by, made}
use Rattle.tso_core.specs.Steps.{Stepped, decided, ends, goes, read_decides, moves_to, goes_to, probe_decides, its_end, due_step, read_of, probe_of, resign_of}
use Rattle.tso_core.specs.Rows.{gone, goes_on, row, won_by, won, lead_of, tick_of, resigned_of}
use Rattle.tso_core.specs.Sound.{IsSound, HasDriver, IsDriver, StandsAt, IsSettled}
use Rattle.tso_laws.specs.WholeCalls.{DriverState, driver_state, Answers, NotLeads, cell_at, cursor_of, winner, mover, saver, loser, later_window, IsOwn, Goes, LeadTells, TickTells, ResignTells}
use Rattle.tso_core.proofs.Driven.{driver_held}
use Rattle.tso_core.proofs.Dues.{is_same}
use Rattle.tso_laws.proofs.Lasts.{older_of, last_own}
use Rattle.tso_core.proofs.Places.{at_get}
use Rattle.tso_core.proofs.Cases.{read_cases, moves_cases}
use Rattle.tso_laws.proofs.Reached.{Part, part_of, Reached, begins, Went, Ran, read_goes, campaign_goes, save_goes, raise_goes, probe_goes, publish_goes, clear_goes, resign_goes, next_in, passed_in, first_in, answers}
use Rattle.tso_core.proofs.Stepping.{call_rest}

-- the first save of a term sets the start
first_window : (t d s next : ℕ) → s ≤ next → saved_window (end_of next) (window t d s s) ≡ window t d next (end_of next)
first_window t d s next above =
    let start : max (end_of next - AHEAD_MS) s ≡ next = omega (arith, above) in
    ap (λ (b : Bool). window t d (cond b (max (end_of next - AHEAD_MS) s) s) (end_of next)) (eq-eqb s s refl) ∙ ap (λ (lo : ℕ). window t d lo (end_of next)) start

-- a later save leaves it
later_save : (next : ℕ) (w : Window) → IsOpen w → saved_window (end_of next) w ≡ record w { hi = end_of next }
later_save next w is_open = ap (λ (b : Bool). let x : Window = record w { lo = cond b (max (end_of next - AHEAD_MS) w.hi) w.lo; hi = end_of next } in x) (ne_eqb w.lo w.hi (λ (e : w.lo ≡ w.hi). omega (arith, e, is_open)))

-- where the tests of a plan lead
spends : (cell : CellWord) (now : ℕ) → cell.term ≡ 262143 → read_decides cell now ≡ ends TermsSpent
spends cell now last = read_cases (λ (x : Decided). x ≡ ends TermsSpent) cell now (λ _. refl) (λ left _. absurd (left last)) (λ left _. absurd (left last))

clock_spent : (cell : CellWord) (now : ℕ) → cell.term ≢ 262143 → 2 ^ 45 ≤ lead_next cell.saved now + 3000 → read_decides cell now ≡ ends ClockRange
clock_spent cell now left over = read_cases (λ (x : Decided). x ≡ ends ClockRange) cell now (λ last. absurd (left last)) (λ _ _. refl) (λ _ clock. absurd (omega (arith, over, clock)))

reads_on : (cell : CellWord) (now : ℕ) → cell.term ≢ 262143 → lead_next cell.saved now + 3000 < 2 ^ 45 → read_decides cell now ≡ goes (CellRead cell) Campaign (lead_next cell.saved now) true
reads_on cell now left clock = read_cases (λ (x : Decided). x ≡ goes (CellRead cell) Campaign (lead_next cell.saved now) true) cell now (λ last. absurd (left last)) (λ _ over. absurd (omega (arith, over, clock))) (λ _ _. refl)

goes_far : (hi cursor next : ℕ) → next + 1 < hi → moves_to hi cursor next ≡ goes (Probed cursor) Raise next false
goes_far hi cursor next left = moves_cases (λ (x : Decided). x ≡ goes (Probed cursor) Raise next false) hi cursor next (λ near _. absurd (omega (arith, left, near))) (λ near _. absurd (omega (arith, left, near))) (λ _. refl)

goes_over : (hi cursor next : ℕ) → hi ≤ next + 1 → 2 ^ 45 ≤ next + 3000 → moves_to hi cursor next ≡ ends ClockRange
goes_over hi cursor next left over = moves_cases (λ (x : Decided). x ≡ ends ClockRange) hi cursor next (λ _ _. refl) (λ _ clock. absurd (omega (arith, over, clock))) (λ far. absurd (omega (arith, left, far)))

goes_saving : (hi cursor next : ℕ) → hi ≤ next + 1 → next + 3000 < 2 ^ 45 → moves_to hi cursor next ≡ goes (Probed cursor) Save next true
goes_saving hi cursor next left clock = moves_cases (λ (x : Decided). x ≡ goes (Probed cursor) Save next true) hi cursor next (λ _ over. absurd (omega (arith, over, clock))) (λ _ _. refl) (λ far. absurd (omega (arith, left, far)))

-- the parts after each step
abbrev turned_to : Part → Due → ℕ → Bool → Part
turned_to p due next publishes = record p { turn = record { due = due; next = next; publishes = publishes } }

abbrev knowing : Part → Part
knowing p = record p { view = knows (cell_of p.cell) p.view }

abbrev claiming : Part → Part
claiming p = record p { view = claimed p.view; cell = packed p.view.cell.saved (p.view.cell.term + 1); windows = p.windows ++ (new_claim p.view).window ∷ [] }

abbrev saving : Part → ℕ → Claim → Part
saving p next c = record p { view = saves (end_of next) p.view (Some c); cell = packed (end_of next) c.window.term; windows = longer_last (end_of next) p.windows }

abbrev raising : Part → ℕ → Part
raising p next = record p { view = raised (next * 262144) p.cursor p.view; cursor = max p.cursor (next * 262144) }

abbrev publishing : Part → Part
publishing p = record p { view = publishes (packed (held p.view).hi (held p.view).term) p.view; turn = at_rest; limit = packed (held p.view).hi (held p.view).term }

abbrev clearing : Part → Part
clearing p = record p { view = record (publishes 0 p.view) { holds = false; marked = false }; turn = at_rest; limit = 0 }

abbrev resting : Part → Part
resting p = record p { turn = at_rest }

-- at rest no other step is next
none_next : (w : Whole) (d : ℕ) (out : Stepped) (kind : Kind) → out.after ≡ w → (turn_at w d).due ≡ Rest → same_due (due_for kind) Rest ≡ false → goes_on (Driver d) out kind ≡ out
none_next w d out kind is rest due = ap (λ (b : Bool). cond b (gone (Driver d) kind out (due_step out.after (Driver d) kind)) out) (ap (λ (u : Whole). same_due (due_for kind) (turn_at u d).due) is ∙ ap (same_due (due_for kind)) rest ∙ due)

-- the steps of a row, each over a part
module _ (w : Whole) (d : ℕ) (has : HasDriver w.setup d) (kinds : List Kind) (before : Reply) (r : Stepped) (p : Part) (own : p.view.driver ≡ d) where
  -- a publish
  ends_up : Ran w d kinds (turned_to p Publish 0 true) before r → Ran w d (kinds ++ ToPublish ∷ []) (publishing p) before (goes_on (Driver d) r ToPublish)
  ends_up ran = next_in w d kinds (turned_to p Publish 0 true) before r ran ToPublish refl (publishing p) (Published (its_end r.after d)) (publish_goes w d has.pos has.low (turned_to p Publish 0 true) r.after ran.reached own refl)

  clears_up : Ran w d kinds (turned_to p Publish 0 false) before r → Ran w d (kinds ++ ToPublish ∷ []) (clearing p) before (goes_on (Driver d) r ToPublish)
  clears_up ran = next_in w d kinds (turned_to p Publish 0 false) before r ran ToPublish refl (clearing p) (Published (its_end r.after d)) (clear_goes w d has.pos has.low (turned_to p Publish 0 false) r.after ran.reached own refl)

  module _ (next : ℕ) where
    -- a raise
    raises_up : Ran w d kinds (turned_to p Raise next true) before r → Ran w d (kinds ++ ToRaise ∷ []) (turned_to (raising p next) Publish 0 true) (Moved next (held p.view).hi) (goes_on (Driver d) r ToRaise)
    raises_up ran = next_in w d kinds (turned_to p Raise next true) before r ran ToRaise refl (turned_to (raising p next) Publish 0 true) (Raised (max p.cursor (next * 262144))) (raise_goes w d has.pos has.low (turned_to p Raise next true) r.after ran.reached own)

    moves_up : Ran w d kinds (turned_to p Raise next false) before r → Ran w d (kinds ++ ToRaise ∷ []) (resting (raising p next)) (Moved next (held p.view).hi) (goes_on (Driver d) r ToRaise)
    moves_up ran = next_in w d kinds (turned_to p Raise next false) before r ran ToRaise refl (resting (raising p next)) (Raised (max p.cursor (next * 262144))) (raise_goes w d has.pos has.low (turned_to p Raise next false) r.after ran.reached own)

    module _ (ran : Ran w d kinds (turned_to p Save next true) before r) where
      -- a save that succeeds
      saves_up : (c : Claim) → p.view.latest ≡ Some c → p.cell ≡ packed c.window.hi c.window.term → Ran w d (kinds ++ ToSave ∷ []) (turned_to (saving p next c) Raise next true) (Saved (end_of next)) (goes_on (Driver d) r ToSave)
      saves_up c latest cell =
          let hit : eqb p.cell (packed (held p.view).hi (held p.view).term) ≡ true = eq-eqb p.cell (packed (held p.view).hi (held p.view).term) (cell ∙ ap (λ (x : Option Claim). packed (held_or x).hi (held_or x).term) (sym latest)) in
          next_in w d kinds (turned_to p Save next true) before r ran ToSave refl (turned_to (saving p next c) Raise next true) (Saved (end_of next))
          (save_goes w d has.pos has.low (turned_to p Save next true) r.after ran.reached (goes (Saved (end_of next)) Raise next true) (saves (end_of next) p.view (Some c)) (packed (end_of next) c.window.term) (longer_last (end_of next) p.windows)
          (ap (λ (b : Bool). let x : Decided = cond b (goes (Saved (end_of next)) Raise next true) (goes (Lost (cell_of p.cell)) Publish 0 false) in x) hit)
          (ap (λ (b : Bool). cond b (saves (end_of next) p.view p.view.latest) (knows (cell_of p.cell) p.view)) hit ∙ ap (λ (o : Option Claim). saves (end_of next) p.view o) latest)
          (ap (λ (b : Bool). cond b (packed (end_of next) (held p.view).term) p.cell) hit ∙ ap (λ (o : Option Claim). packed (end_of next) (held_or o).term) latest)
          (ap (λ (b : Bool). cond b (longer_last (end_of next) p.windows) p.windows) hit))

      -- a save that finds another cell
      loses_up : p.cell ≢ packed (held p.view).hi (held p.view).term → Ran w d (kinds ++ ToSave ∷ []) (turned_to (knowing p) Publish 0 false) (Lost (cell_of p.cell)) (goes_on (Driver d) r ToSave)
      loses_up other =
          let miss : eqb p.cell (packed (held p.view).hi (held p.view).term) ≡ false = ne_eqb p.cell (packed (held p.view).hi (held p.view).term) other in
          next_in w d kinds (turned_to p Save next true) before r ran ToSave refl (turned_to (knowing p) Publish 0 false) (Lost (cell_of p.cell))
          (save_goes w d has.pos has.low (turned_to p Save next true) r.after ran.reached (goes (Lost (cell_of p.cell)) Publish 0 false) (knows (cell_of p.cell) p.view) p.cell p.windows
          (ap (λ (b : Bool). let x : Decided = cond b (goes (Saved (end_of next)) Raise next true) (goes (Lost (cell_of p.cell)) Publish 0 false) in x) miss)
          (ap (λ (b : Bool). cond b (saves (end_of next) p.view p.view.latest) (knows (cell_of p.cell) p.view)) miss)
          (ap (λ (b : Bool). cond b (packed (end_of next) (held p.view).term) p.cell) miss)
          (ap (λ (b : Bool). cond b (longer_last (end_of next) p.windows) p.windows) miss))

    -- a campaign over the cell that is known
    claims_up : Ran w d kinds (turned_to p Campaign next true) before r → p.cell ≡ cell_word p.view.cell → Ran w d (kinds ++ ToCampaign ∷ []) (turned_to (claiming p) Save next true) (Claimed (p.view.cell.term + 1)) (goes_on (Driver d) r ToCampaign)
    claims_up ran cell =
        let hit : eqb p.cell (cell_word p.view.cell) ≡ true = eq-eqb p.cell (cell_word p.view.cell) cell in
        next_in w d kinds (turned_to p Campaign next true) before r ran ToCampaign refl (turned_to (claiming p) Save next true) (Claimed (p.view.cell.term + 1))
        (campaign_goes w d has.pos has.low (turned_to p Campaign next true) r.after ran.reached (goes (Claimed (p.view.cell.term + 1)) Save next true) (claimed p.view) (packed p.view.cell.saved (p.view.cell.term + 1)) (p.windows ++ (new_claim p.view).window ∷ [])
        (ap (λ (b : Bool). let x : Decided = cond b (goes (Claimed (p.view.cell.term + 1)) Save next true) (ends (Beaten (cell_of p.cell))) in x) hit)
        (ap (λ (b : Bool). cond b (claimed p.view) (knows (cell_of p.cell) p.view)) hit)
        (ap (λ (b : Bool). cond b (packed p.view.cell.saved (p.view.cell.term + 1)) p.cell) hit)
        (ap (λ (b : Bool). cond b (p.windows ++ (new_claim p.view).window ∷ []) p.windows) hit))

  -- at rest no other step is made
  passes_up : Ran w d kinds (resting p) before r → (kind : Kind) → same_due (due_for kind) Rest ≡ false → Ran w d kinds (resting p) before (goes_on (Driver d) r kind)
  passes_up ran kind due = passed_in w d kinds (resting p) before r ran kind due

module _ (w : Whole) (s : IsSound w) (d : ℕ) (has : HasDriver w.setup d) (rest : (turn_at w d).due ≡ Rest) where
  own : IsDriver d (view_at w d)
  own = (s.drivers d has.pos has.low).own

  stands : (turn_at w d ≡ at_rest) × IsSettled (view_at w d)
  stands = subst (λ (x : Due). StandsAt x (turn_at w d) (view_at w d)) rest (s.drivers d has.pos has.low).stands

  fits : FitsA w.setup s.recorded.history (view_at w d)
  fits = s.recorded.a.each d (view_at w d) (at_get w.views d spent_view (omega (arith, s.wide, has.low))) own.live

  is_rest : same_due (turn_at w d).due Rest ≡ true
  is_rest = is_same (turn_at w d).due Rest rest

  rest_is : same_due Rest (turn_at w d).due ≡ true
  rest_is = is_same Rest (turn_at w d).due (sym rest)

  here : Reached w d (part_of w d) w
  here = begins w s d has

  module _ (now : ℕ) where
    reads : (to : Decided) → read_decides (cell_at w) now ≡ to → Ran w d (Read now ∷ []) (record (knowing (part_of w d)) { turn = to.turn }) to.reply (read_of w d now)
    reads to is = first_in w d (Read now) rest_is (record (knowing (part_of w d)) { turn = to.turn }) to.reply (read_goes w d has.pos has.low (part_of w d) w here now to is)

    lead_is : lead_of w d now ≡ won d (row (Driver d) (ToCampaign ∷ ToSave ∷ ToRaise ∷ ToPublish ∷ []) (read_of w d now))
    lead_is = ap (won d) (call_rest w (Driver d) (Read now) (ToCampaign ∷ ToSave ∷ ToRaise ∷ ToPublish ∷ []) refl rest)

    -- what a lead tells whose row answers this
    tells : (kinds : List Kind) (p : Part) (answer reply : Reply) (state : DriverState) → Ran w d kinds p answer (row (Driver d) (ToCampaign ∷ ToSave ∷ ToRaise ∷ ToPublish ∷ []) (read_of w d now)) → won_by (held p.view) answer ≡ reply → p.turn ≡ at_rest
        → (let x : DriverState = record { cell = cell_of p.cell; limit = p.limit; cursor = p.cursor; windows = p.windows; holds = p.view.holds; window = held p.view } in x) ≡ state → Answers w d kinds reply state (lead_of w d now)
    tells kinds p answer reply state ran is turn state_of =
        let r : Stepped = row (Driver d) (ToCampaign ∷ ToSave ∷ ToRaise ∷ ToPublish ∷ []) (read_of w d now) in
        subst (λ (x : Stepped). Answers w d kinds reply state x) (sym lead_is)
        (answers w d has kinds p reply state (won d r) stands.0 (record { answer = (λ i. won_by (held (ran.reached.view i)) (ran.answer i)) ∙ is; reached = ran.reached; row = ran.row }) turn state_of)

    -- a read that ends the lead
    stays : (reply : Reply) → read_decides (cell_at w) now ≡ ends reply → won_by (held (view_at w d)) reply ≡ reply → Answers w d (Read now ∷ []) reply (driver_state w d) (lead_of w d now)
    stays reply is won_is =
        let p : Part = knowing (part_of w d) in
        let kinds = Read now ∷ [] in
        let r0 : Stepped = read_of w d now in
        let r1 = goes_on (Driver d) r0 ToCampaign in
        let r2 = goes_on (Driver d) r1 ToSave in
        let r3 = goes_on (Driver d) r2 ToRaise in
        tells kinds (resting p) reply reply (driver_state w d)
        (passes_up w d has kinds reply r3 p own.driver (passes_up w d has kinds reply r2 p own.driver (passes_up w d has kinds reply r1 p own.driver (passes_up w d has kinds reply r0 p own.driver (reads (ends reply) is) ToCampaign refl) ToSave refl) ToRaise refl) ToPublish refl)
        won_is refl refl

    module _ (left : (cell_at w).term ≢ 262143) (clock : lead_next (cell_at w).saved now + 3000 < 2 ^ 45) where
      abbrev next : ℕ
      next = lead_next (cell_at w).saved now

      abbrev known : Part
      known = knowing (part_of w d)

      abbrev claim : Claim
      claim = new_claim (knows (cell_at w) (view_at w d))

      cell_is : slice_index w.words 0 ≡ cell_word (cell_at w)
      cell_is = omega arith

      lead_row : Ran w d (Read now ∷ ToCampaign ∷ ToSave ∷ ToRaise ∷ ToPublish ∷ []) (publishing (raising (saving (claiming known) next claim) next)) (Moved next (end_of next)) (row (Driver d) (ToCampaign ∷ ToSave ∷ ToRaise ∷ ToPublish ∷ []) (read_of w d now))
      lead_row =
          let r0 : Stepped = read_of w d now in
          let r1 : Stepped = goes_on (Driver d) r0 ToCampaign in
          let r2 : Stepped = goes_on (Driver d) r1 ToSave in
          let r3 : Stepped = goes_on (Driver d) r2 ToRaise in
          let read = reads (goes (CellRead (cell_at w)) Campaign next true) (reads_on (cell_at w) now left clock) in
          let claimed = claims_up w d has (Read now ∷ []) (CellRead (cell_at w)) r0 known own.driver next read cell_is in
          let saved = saves_up w d has (Read now ∷ ToCampaign ∷ []) (Claimed ((cell_at w).term + 1)) r1 (claiming known) own.driver next claimed claim refl refl in
          let raised = raises_up w d has (Read now ∷ ToCampaign ∷ ToSave ∷ []) (Saved (end_of next)) r2 (saving (claiming known) next claim) own.driver next saved in
          ends_up w d has (Read now ∷ ToCampaign ∷ ToSave ∷ ToRaise ∷ []) (Moved next (end_of next)) r3 (raising (saving (claiming known) next claim) next) own.driver raised

      window_is : saved_window (end_of next) (window ((cell_at w).term + 1) (view_at w d).driver (cell_at w).saved (cell_at w).saved) ≡ window ((cell_at w).term + 1) d next (end_of next)
      window_is = first_window ((cell_at w).term + 1) (view_at w d).driver (cell_at w).saved next (omega arith) ∙ ap (λ (x : ℕ). window ((cell_at w).term + 1) x next (end_of next)) own.driver

      windows_are : longer_last (end_of next) (w.windows ++ window ((cell_at w).term + 1) (view_at w d).driver (cell_at w).saved (cell_at w).saved ∷ []) ≡ w.windows ++ window ((cell_at w).term + 1) d next (end_of next) ∷ []
      windows_are = longer_push (end_of next) w.windows (window ((cell_at w).term + 1) (view_at w d).driver (cell_at w).saved (cell_at w).saved) ∙ ap (λ (x : Window). w.windows ++ x ∷ []) window_is

      cell_after : cell_of (packed (end_of next) ((cell_at w).term + 1)) ≡ record { saved = end_of next; term = (cell_at w).term + 1 }
      cell_after = cell_of-packed (end_of next) ((cell_at w).term + 1) (omega (arith, left))

      lead_won : Answers w d (Read now ∷ ToCampaign ∷ ToSave ∷ ToRaise ∷ ToPublish ∷ []) (Won ((cell_at w).term + 1) next (next + 3000)) (winner w d next) (lead_of w d now)
      lead_won = tells (Read now ∷ ToCampaign ∷ ToSave ∷ ToRaise ∷ ToPublish ∷ []) (publishing (raising (saving (claiming known) next claim) next)) (Moved next (end_of next)) (Won ((cell_at w).term + 1) next (end_of next)) (winner w d next)
          lead_row (ap (λ (y : Window). Won y.term y.lo y.hi) window_is) refl
          (λ i. record { cell = cell_after i; limit = packed (end_of next) ((cell_at w).term + 1); cursor = max (cursor_of w d) (next * 262144); windows = windows_are i; holds = true; window = window_is i })

    pub lead_tells : LeadTells w d now
    lead_tells = record {
      spent = λ last_term. stays TermsSpent (spends (cell_at w) now last_term) refl;
      clock = λ left over. stays ClockRange (clock_spent (cell_at w) now left over) refl;
      won = lead_won;
    }

  -- the window that the driver holds is open, and is its latest claim
  module _ (holds : (view_at w d).holds ≡ true) where
    has_claim : HasClaim (view_at w d)
    has_claim = fits.holds holds

    held_is : held (view_at w d) ≡ has_claim.0.window
    held_is = ap held_or has_claim.1

    is_open : IsOpen (held (view_at w d))
    is_open = (fits.marked (stands.1 holds)).1

    module _ (now : ℕ) where
      probe_is : probe_of w d now ≡ decided (made w d (RaiseCursor 0)) d (probe_decides (held (view_at w d)).hi now (found_by w d (RaiseCursor 0)))
      probe_is = ap (λ (b : Bool). cond b (decided (made w d (RaiseCursor 0)) d (probe_decides (held (view_at w d)).hi now (found_by w d (RaiseCursor 0)))) (record { reply = NotLeading; after = w })) holds

      abbrev seen : Part
      seen = record (part_of w d) { view = raised 0 (cursor_of w d) (view_at w d) }

      probes : (to : Decided) → probe_decides (held (view_at w d)).hi now (cursor_of w d) ≡ to → Ran w d (Probe now ∷ []) (record seen { turn = to.turn }) to.reply (probe_of w d now)
      probes to is = first_in w d (Probe now) rest_is (record seen { turn = to.turn }) to.reply
          (subst (λ (r : Stepped). Went w d (record seen { turn = to.turn }) to.reply r) (sym probe_is) (probe_goes w d has.pos has.low (part_of w d) w here own.driver now to is))

      -- the row behind the probe
      abbrev r0 : Stepped
      r0 = probe_of w d now

      abbrev r1 : Stepped
      r1 = goes_on (Driver d) (probe_of w d now) ToSave

      abbrev r2 : Stepped
      r2 = goes_on (Driver d) (goes_on (Driver d) (probe_of w d now) ToSave) ToRaise

      -- what a tick tells whose row answers this
      tick_says : (kinds : List Kind) (p : Part) (reply : Reply) (state : DriverState) → Ran w d kinds p reply (goes_on (Driver d) r2 ToPublish) → p.turn ≡ at_rest
          → (let x : DriverState = record { cell = cell_of p.cell; limit = p.limit; cursor = p.cursor; windows = p.windows; holds = p.view.holds; window = held p.view } in x) ≡ state → Answers w d kinds reply state (tick_of w d now)
      tick_says kinds p reply state ran turn state_of = subst (λ (r : Stepped). Answers w d kinds reply state r) (sym (call_rest w (Driver d) (Probe now) (ToSave ∷ ToRaise ∷ ToPublish ∷ []) refl rest))
          (answers w d has kinds p reply state (goes_on (Driver d) r2 ToPublish) stands.0 ran turn state_of)

      -- a probe that ends the tick
      tick_stays : (reply : Reply) → probe_decides (held (view_at w d)).hi now (cursor_of w d) ≡ ends reply → Answers w d (Probe now ∷ []) reply (driver_state w d) (tick_of w d now)
      tick_stays reply is = tick_says (Probe now ∷ []) (resting seen) reply (driver_state w d)
          (passes_up w d has (Probe now ∷ []) reply r2 seen own.driver (passes_up w d has (Probe now ∷ []) reply r1 seen own.driver (passes_up w d has (Probe now ∷ []) reply r0 seen own.driver (probes (ends reply) is) ToSave refl) ToRaise refl) ToPublish refl) refl refl

      -- a probe that is followed by a raise alone
      tick_moves : (next : ℕ) → Goes w d now next → next + 1 < (held (view_at w d)).hi → Answers w d (Probe now ∷ ToRaise ∷ []) (Moved next (held (view_at w d)).hi) (mover w d next) (tick_of w d now)
      tick_moves next where_to left =
          let hi = (held (view_at w d)).hi in
          let to = goes (Probed (cursor_of w d)) Raise next false in
          let probed = probes to (ap (goes_to hi (cursor_of w d)) where_to ∙ goes_far hi (cursor_of w d) next left) in
          let passed = passed_in w d (Probe now ∷ []) (turned_to seen Raise next false) to.reply r0 probed ToSave refl in
          let moved = moves_up w d has (Probe now ∷ []) to.reply r1 seen own.driver next passed in
          tick_says (Probe now ∷ ToRaise ∷ []) (resting (raising seen next)) (Moved next hi) (mover w d next) (passes_up w d has (Probe now ∷ ToRaise ∷ []) (Moved next hi) r2 (raising seen next) own.driver moved ToPublish refl) refl refl

      module _ (next : ℕ) (where_to : Goes w d now next) (left : (held (view_at w d)).hi ≤ next + 1) (clock : next + 3000 < 2 ^ 45) where
        save_next : Ran w d (Probe now ∷ []) (turned_to seen Save next true) (Probed (cursor_of w d)) r0
        save_next = probes (goes (Probed (cursor_of w d)) Save next true) (ap (goes_to (held (view_at w d)).hi (cursor_of w d)) where_to ∙ goes_saving (held (view_at w d)).hi (cursor_of w d) next left clock)

        -- the save finds another cell
        tick_lost : ¬ IsOwn w d → Answers w d (Probe now ∷ ToSave ∷ ToPublish ∷ []) (Lost (cell_at w)) (loser w d) (tick_of w d now)
        tick_lost other =
            let cell : slice_index w.words 0 ≢ packed (held (view_at w d)).hi (held (view_at w d)).term = λ e. other (ap cell_of e ∙ cell_of-packed (held (view_at w d)).hi (held (view_at w d)).term (driver_held w s d has.pos has.low).term) in
            let lost = loses_up w d has (Probe now ∷ []) (Probed (cursor_of w d)) r0 seen own.driver next save_next cell in
            let passed = passed_in w d (Probe now ∷ ToSave ∷ []) (turned_to (knowing seen) Publish 0 false) (Lost (cell_at w)) r1 lost ToRaise refl in
            tick_says (Probe now ∷ ToSave ∷ ToPublish ∷ []) (clearing (knowing seen)) (Lost (cell_at w)) (loser w d) (clears_up w d has (Probe now ∷ ToSave ∷ []) (Lost (cell_at w)) r2 (knowing seen) own.driver passed) refl refl

        -- the save finds its own cell
        module _ (is_own : IsOwn w d) where
          cell_own : slice_index w.words 0 ≡ packed has_claim.0.window.hi has_claim.0.window.term
          cell_own = omega (arith, ap (λ (c : CellWord). c.saved) is_own, ap (λ (c : CellWord). c.term) is_own, ap (λ (x : Window). x.hi) held_is, ap (λ (x : Window). x.term) held_is)

          own_last : w.windows ≡ older_of w s ++ held (view_at w d) ∷ []
          own_last = last_own w s d has holds (cell_own ∙ ap (λ (x : Window). packed x.hi x.term) (sym held_is))

          windows_long : longer_last (end_of next) w.windows ≡ older_of w s ++ later_window w d next ∷ []
          windows_long = ap (longer_last (end_of next)) own_last ∙ longer_push (end_of next) (older_of w s) (held (view_at w d))
              ∙ ap (λ (x : Window). older_of w s ++ x ∷ []) (later_save next (held (view_at w d)) is_open)

          window_long : saved_window (end_of next) has_claim.0.window ≡ later_window w d next
          window_long = ap (saved_window (end_of next)) (sym held_is) ∙ later_save next (held (view_at w d)) is_open

          cell_later : cell_of (packed (end_of next) has_claim.0.window.term) ≡ record { saved = end_of next; term = (held (view_at w d)).term }
          cell_later = ap (λ (x : Window). cell_of (packed (end_of next) x.term)) (sym held_is) ∙ cell_of-packed (end_of next) (held (view_at w d)).term (driver_held w s d has.pos has.low).term

          limit_later : packed (end_of next) has_claim.0.window.term ≡ packed (end_of next) (held (view_at w d)).term
          limit_later = ap (λ (x : Window). packed (end_of next) x.term) (sym held_is)

          tick_saves : Answers w d (Probe now ∷ ToSave ∷ ToRaise ∷ ToPublish ∷ []) (Moved next (next + 3000)) (saver w d next (older_of w s)) (tick_of w d now)
          tick_saves =
              let c = has_claim.0 in
              let saved = saves_up w d has (Probe now ∷ []) (Probed (cursor_of w d)) r0 seen own.driver next save_next c has_claim.1 cell_own in
              let raised = raises_up w d has (Probe now ∷ ToSave ∷ []) (Saved (end_of next)) r1 (saving seen next c) own.driver next saved in
              tick_says (Probe now ∷ ToSave ∷ ToRaise ∷ ToPublish ∷ []) (publishing (raising (saving seen next c) next)) (Moved next (end_of next)) (saver w d next (older_of w s))
              (ends_up w d has (Probe now ∷ ToSave ∷ ToRaise ∷ []) (Moved next (end_of next)) r2 (raising (saving seen next c) next) own.driver raised) refl
              (λ i. record { cell = cell_later i; limit = limit_later i; cursor = max (cursor_of w d) (next * 262144); windows = windows_long i; holds = holds i; window = window_long i })

      tick_over : (next : ℕ) → Goes w d now next → (held (view_at w d)).hi ≤ next + 1 → 2 ^ 45 ≤ next + 3000 → Answers w d (Probe now ∷ []) ClockRange (driver_state w d) (tick_of w d now)
      tick_over next where_to left over = tick_stays ClockRange (ap (λ (o : Option ℕ). goes_to (held (view_at w d)).hi (cursor_of w d) o) where_to ∙ goes_over (held (view_at w d)).hi (cursor_of w d) next left over)

    resigned : Answers w d (Resign ∷ []) Resigned (loser w d) (resigned_of w d)
    resigned =
        let left : Stepped = decided (made w d ClearLimit) d (ends Resigned) in
        let gives : resign_of w d ≡ left = ap (λ (b : Bool). cond b left (record { reply = NotLeading; after = w })) holds in
        let p = clearing (part_of w d) in
        subst (λ (r : Stepped). Answers w d (Resign ∷ []) Resigned (loser w d) r) (sym (call_rest w (Driver d) Resign [] refl rest))
        (answers w d has (Resign ∷ []) p Resigned (loser w d) (resign_of w d) stands.0
        (first_in w d Resign rest_is p Resigned (subst (λ (r : Stepped). Went w d p Resigned r) (sym gives) (resign_goes w d has.pos has.low (part_of w d) w here own.driver))) refl refl)

  -- without a term
  module _ (none : (view_at w d).holds ≡ false) where
    tick_none : (now : ℕ) → NotLeads w (tick_of w d now)
    tick_none now =
        let out : Stepped = record { reply = NotLeading; after = w } in
        let probe : probe_of w d now ≡ out = ap (λ (b : Bool). cond b (decided (made w d (RaiseCursor 0)) d (probe_decides (held (view_at w d)).hi now (found_by w d (RaiseCursor 0)))) out) none in
        call_rest w (Driver d) (Probe now) (ToSave ∷ ToRaise ∷ ToPublish ∷ []) refl rest ∙ ap (row (Driver d) (ToSave ∷ ToRaise ∷ ToPublish ∷ [])) probe
        ∙ ap (λ (r : Stepped). goes_on (Driver d) (goes_on (Driver d) r ToRaise) ToPublish) (none_next w d out ToSave refl rest refl) ∙ ap (λ (r : Stepped). goes_on (Driver d) r ToPublish) (none_next w d out ToRaise refl rest refl) ∙ none_next w d out ToPublish refl rest refl

    resign_none : NotLeads w (resigned_of w d)
    resign_none = call_rest w (Driver d) Resign [] refl rest ∙ ap (λ (b : Bool). cond b (decided (made w d ClearLimit) d (ends Resigned)) (record { reply = NotLeading; after = w })) none

  pub tick_tells : (now : ℕ) → TickTells w d now
  tick_tells now = record {
    not_leading = λ none. tick_none none now;
    idle = λ holds goes. tick_stays holds now Idle (ap (λ (o : Option ℕ). goes_to (held (view_at w d)).hi (cursor_of w d) o) goes);
    moved = λ holds next goes left. tick_moves holds now next goes left;
    clock = λ holds next goes left over. tick_over holds now next goes left over;
    lost = λ holds next goes left clock other. tick_lost holds now next goes left clock other;
    saved = λ holds next goes left clock is_own. (older_of w s, record { last = own_last holds now next goes left clock is_own }, tick_saves holds now next goes left clock is_own);
  }

  pub resign_tells : ResignTells w d
  resign_tells = record { not_leading = resign_none; resigned = resigned }
