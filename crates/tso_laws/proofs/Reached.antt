-- What the steps of a driver make of its words, its view and its turn and of the windows, with all else as it was.
use Rattle.std.proofs.Common.{◌≡◌, ◌≢◌, ℕ, ◌+◌, ◌*◌, ◌<◌, ◌≤◌, max, Bool, true, false, cond, List, [], ◌∷◌, ◌++◌, map, length, set, refl, sym, ap, subst, ◌∙◌, arith}
use Rattle.std.specs.Prelude.{unwrap_or, slice_index, slice_set}
use Rattle.std.proofs.lemmas.List.{get_or-set_same, get_or-set_other, set-set, set-get_or}
use Rattle.std.proofs.Math.ListN.{length-set}
use Rattle.pd_types.specs.declared.oracle.Actor.TheVariants.{Driver}
use Rattle.pd_types.specs.declared.oracle.Batch.{Batch}
use Rattle.pd_types.specs.declared.oracle.Window.{Window}
use Rattle.tso_model.specs.declared.view.View.{View}
use Rattle.tso_model.specs.declared.step.WordStep.{WordStep}
use Rattle.tso_model.specs.declared.step.WordStep.TheVariants.{LoadCell, ClaimTerm, SaveEnd, RaiseCursor, StoreLimit, ClearLimit}
use Rattle.tso_model.specs.Words.{packed, cell_of, limit_at, cursor_at}
use Rattle.tso_model.specs.Moves.{spent_view}
use Rattle.tso_model.specs.Plan.{end_of}
use Rattle.tso_model.specs.Ledger.{windows_after, batches_after}
use Rattle.tso_model.specs.Steps.{held, word_of, word_after, view_after, knows, raised, publishes}
use Rattle.tso_core.specs.declared.turn.Turn.{Turn}
use Rattle.tso_core.specs.declared.turn.Decided.{Decided}
use Rattle.tso_core.specs.declared.reply.Kind.{Kind}
use Rattle.tso_core.specs.declared.reply.Reply.{Reply}
use Rattle.tso_core.specs.declared.reply.Kind.TheVariants.{Raise as ToRaise, Publish as ToPublish}
use Rattle.tso_core.specs.declared.reply.Reply.TheVariants.{Moved, Published, Resigned}
use Rattle.tso_core.specs.Due.{same_due, due_for, at_rest}
use Rattle.tso_core.specs.Whole.{Whole, view_at, turn_at, found_by, made, turned}
use Rattle.tso_core.specs.Steps.{Stepped, out_of_turn, decided, read_decides, campaign_decides, save_decides, raise_decides, probe_decides, its_save, its_raise, its_publish, its_end, read_of, campaign_of, save_of, raise_of, publish_of, ends, due_step, step_of}
use Rattle.tso_core.specs.Rows.{told, gone, goes_on}
use Rattle.tso_core.specs.Sound.{IsSound, HasDriver}
use Rattle.tso_laws.specs.Laws.{Step, played}
use Rattle.tso_laws.specs.WholeCalls.{DriverState, driver_state, Answers, LeavesOthers}

-- what a driver's steps touch
pub record Part : Type 0 where
  pub view : View
  pub turn : Turn
  pub cell : ℕ
  pub limit : ℕ
  pub cursor : ℕ
  pub windows : List Window

-- the part of the driver d
abbrev pub part_of : Whole → ℕ → Part
part_of w d = record { view = view_at w d; turn = turn_at w d; cell = slice_index w.words 0; limit = slice_index w.words (limit_at d); cursor = slice_index w.words (cursor_at d); windows = w.windows }

-- u has this part of the driver d, and all else as w
pub record Reached (w : Whole) (d : ℕ) (p : Part) (u : Whole) : Type 0 where
  pub setup : u.setup ≡ w.setup
  pub view : view_at u d ≡ p.view
  pub turn : turn_at u d ≡ p.turn
  pub cell : slice_index u.words 0 ≡ p.cell
  pub limit : slice_index u.words (limit_at d) ≡ p.limit
  pub cursor : slice_index u.words (cursor_at d) ≡ p.cursor
  pub windows : u.windows ≡ p.windows
  pub batches : u.batches ≡ w.batches
  pub posts : u.posts ≡ w.posts
  pub words : (i : ℕ) → i ≢ 0 → i ≢ limit_at d → i ≢ cursor_at d → slice_index u.words i ≡ slice_index w.words i
  pub views : (id : ℕ) → id ≢ d → view_at u id ≡ view_at w id
  pub turns : (t : Turn) → set u.turns d t ≡ set w.turns d t
  pub wide : length u.words ≡ 1 + 2 * w.setup.drivers
  pub seat : d < length u.views
  pub place : d < length u.turns

pub begins : (w : Whole) → IsSound w → (d : ℕ) → HasDriver w.setup d → Reached w d (part_of w d) w
begins w s d has = record {
  setup = refl;
  view = refl;
  turn = refl;
  cell = refl;
  limit = refl;
  cursor = refl;
  windows = refl;
  batches = refl;
  posts = refl;
  words = λ i a b c. refl;
  views = λ id apart. refl;
  turns = λ t. refl;
  wide = s.recorded.a.wide;
  seat = omega (arith, s.wide, has.low);
  place = omega (arith, s.turns, has.low);
}

-- a step of the view at a place, by the word that it touches
abbrev made_at : Whole → ℕ → ℕ → WordStep → View → ℕ → Whole
made_at u id i step v n = record u {
  words = slice_set u.words i (word_after step v n);
  views = slice_set u.views id (view_after step n v);
  windows = windows_after step n v u.windows;
  batches = batches_after step n v u.batches;
}

pub at_is : (u : Whole) (id i : ℕ) (step : WordStep) (v : View) (n : ℕ) → view_at u id ≡ v → word_of step v ≡ i → slice_index u.words i ≡ n → made u id step ≡ made_at u id i step v n
at_is u id i step v n view word found = ap (λ (x : View). made_at u id (word_of step x) step x (slice_index u.words (word_of step x))) view
    ∙ ap (λ (j : ℕ). made_at u id j step v (slice_index u.words j)) word ∙ ap (λ (m : ℕ). made_at u id i step v m) found

-- what a step touches and makes
record Touches (w : Whole) (d : ℕ) (p q : Part) (u : Whole) (step : WordStep) (i n x : ℕ) : Type 0 where
  word : word_of step p.view ≡ i
  found : slice_index u.words i ≡ n
  view : view_after step n p.view ≡ q.view
  after : word_after step p.view n ≡ x
  windows : windows_after step n p.view p.windows ≡ q.windows
  batches : batches_after step n p.view w.batches ≡ w.batches
  one : (j : ℕ) → j ≢ 0 → j ≢ limit_at d → j ≢ cursor_at d → j ≢ i
  cell : slice_index (slice_set u.words i x) 0 ≡ q.cell
  limit : slice_index (slice_set u.words i x) (limit_at d) ≡ q.limit
  cursor : slice_index (slice_set u.words i x) (cursor_at d) ≡ q.cursor

touched : (w : Whole) (d : ℕ) (p q : Part) (u : Whole) → Reached w d p u → (step : WordStep) (i n x : ℕ) → Touches w d p q u step i n x → Reached w d q (turned (made u d step) d q.turn)
touched w d p q u r step i n x t = subst (λ (y : Whole). Reached w d q (turned y d q.turn)) (sym (at_is u d i step p.view n r.view t.word t.found)) record {
  setup = r.setup;
  view = get_or-set_same u.views d (view_after step n p.view) spent_view r.seat ∙ t.view;
  turn = get_or-set_same u.turns d q.turn at_rest r.place;
  cell = ap (λ (m : ℕ). slice_index (slice_set u.words i m) 0) t.after ∙ t.cell;
  limit = ap (λ (m : ℕ). slice_index (slice_set u.words i m) (limit_at d)) t.after ∙ t.limit;
  cursor = ap (λ (m : ℕ). slice_index (slice_set u.words i m) (cursor_at d)) t.after ∙ t.cursor;
  windows = ap (λ (ws : List Window). windows_after step n p.view ws) r.windows ∙ t.windows;
  batches = ap (λ (bs : List Batch). batches_after step n p.view bs) r.batches ∙ t.batches;
  posts = r.posts;
  words = λ j a b c. get_or-set_other u.words i j (word_after step p.view n) 0 (t.one j a b c) ∙ r.words j a b c;
  views = λ id apart. get_or-set_other u.views d id (view_after step n p.view) spent_view apart ∙ r.views id apart;
  turns = λ y. set-set u.turns d q.turn y ∙ r.turns y;
  wide = length-set u.words i (word_after step p.view n) ∙ r.wide;
  seat = omega (arith, r.seat, length-set u.views d (view_after step n p.view));
  place = omega (arith, r.place, length-set u.turns d q.turn);
}

-- a step that answers this, and leaves this part
pub record Went (w : Whole) (d : ℕ) (q : Part) (reply : Reply) (r : Stepped) : Type 0 where
  pub reply_is : r.reply ≡ reply
  pub reached : Reached w d q r.after

went : (w : Whole) (d : ℕ) (q : Part) (u : Whole) (step0 step : WordStep) → step0 ≡ step → (r0 r : Decided) → r0 ≡ r → r.turn ≡ q.turn → Reached w d q (turned (made u d step) d q.turn) → Went w d q r.reply (decided (made u d step0) d r0)
went w d q u step0 step step_is r0 r is turn reached =
    subst (λ (y : Stepped). Went w d q r.reply y) (sym (ap (λ (y : WordStep). decided (made u d y) d r0) step_is ∙ ap (λ (y : Decided). decided (made u d step) d y) is))
    (record { reply_is = refl; reached = subst (λ (y : Turn). Reached w d q (turned (made u d step) d y)) (sym turn) reached })

module _ (w : Whole) (d : ℕ) (pos : 0 < d) (low : d ≤ w.setup.drivers) (p : Part) (u : Whole) (r : Reached w d p u) where
  -- a step on the cell
  on_cell : (step : WordStep) (v : View) (turn : Turn) (x : ℕ) (ws : List Window) → word_of step p.view ≡ 0 → view_after step p.cell p.view ≡ v → word_after step p.view p.cell ≡ x → windows_after step p.cell p.view p.windows ≡ ws → batches_after step p.cell p.view w.batches ≡ w.batches
      → Reached w d (record p { view = v; turn = turn; cell = x; windows = ws }) (turned (made u d step) d turn)
  on_cell step v turn x ws word view after windows batches = touched w d p (record p { view = v; turn = turn; cell = x; windows = ws }) u r step 0 p.cell x record {
    word = word;
    found = r.cell;
    view = view;
    after = after;
    windows = windows;
    batches = batches;
    one = λ j a b c. a;
    cell = get_or-set_same u.words 0 x 0 (omega (arith, r.wide));
    limit = get_or-set_other u.words 0 (limit_at d) x 0 (λ (e : limit_at d ≡ 0). omega (arith, e, pos)) ∙ r.limit;
    cursor = get_or-set_other u.words 0 (cursor_at d) x 0 (λ (e : cursor_at d ≡ 0). omega (arith, e, pos)) ∙ r.cursor;
  }

  -- a step on the limit
  on_limit : (step : WordStep) (v : View) (turn : Turn) (x : ℕ) → word_of step p.view ≡ limit_at d → view_after step p.limit p.view ≡ v → word_after step p.view p.limit ≡ x → windows_after step p.limit p.view p.windows ≡ p.windows → batches_after step p.limit p.view w.batches ≡ w.batches
      → Reached w d (record p { view = v; turn = turn; limit = x }) (turned (made u d step) d turn)
  on_limit step v turn x word view after windows batches = touched w d p (record p { view = v; turn = turn; limit = x }) u r step (limit_at d) p.limit x record {
    word = word;
    found = r.limit;
    view = view;
    after = after;
    windows = windows;
    batches = batches;
    one = λ j a b c. b;
    cell = get_or-set_other u.words (limit_at d) 0 x 0 (λ (e : 0 ≡ limit_at d). omega (arith, e, pos)) ∙ r.cell;
    limit = get_or-set_same u.words (limit_at d) x 0 (omega (arith, r.wide, low, pos));
    cursor = get_or-set_other u.words (limit_at d) (cursor_at d) x 0 (λ (e : cursor_at d ≡ limit_at d). omega (arith, e, pos)) ∙ r.cursor;
  }

  -- a step on the cursor
  on_cursor : (step : WordStep) (v : View) (turn : Turn) (x : ℕ) → word_of step p.view ≡ cursor_at d → view_after step p.cursor p.view ≡ v → word_after step p.view p.cursor ≡ x → windows_after step p.cursor p.view p.windows ≡ p.windows → batches_after step p.cursor p.view w.batches ≡ w.batches
      → Reached w d (record p { view = v; turn = turn; cursor = x }) (turned (made u d step) d turn)
  on_cursor step v turn x word view after windows batches = touched w d p (record p { view = v; turn = turn; cursor = x }) u r step (cursor_at d) p.cursor x record {
    word = word;
    found = r.cursor;
    view = view;
    after = after;
    windows = windows;
    batches = batches;
    one = λ j a b c. c;
    cell = get_or-set_other u.words (cursor_at d) 0 x 0 (λ (e : 0 ≡ cursor_at d). omega (arith, e, pos)) ∙ r.cell;
    limit = get_or-set_other u.words (cursor_at d) (limit_at d) x 0 (λ (e : limit_at d ≡ cursor_at d). omega (arith, e, pos)) ∙ r.limit;
    cursor = get_or-set_same u.words (cursor_at d) x 0 (omega (arith, r.wide, low, pos));
  }

  -- a read
  pub read_goes : (now : ℕ) (to : Decided) → read_decides (cell_of p.cell) now ≡ to → Went w d (record p { view = knows (cell_of p.cell) p.view; turn = to.turn }) to.reply (read_of u d now)
  read_goes now to is = went w d (record p { view = knows (cell_of p.cell) p.view; turn = to.turn }) u LoadCell LoadCell refl (read_decides (cell_of (found_by u d LoadCell)) now) to
      (ap (λ (n : ℕ). read_decides (cell_of n) now) r.cell ∙ is) refl (on_cell LoadCell (knows (cell_of p.cell) p.view) to.turn p.cell p.windows refl refl refl refl refl)

  -- a campaign
  pub campaign_goes : (to : Decided) (v : View) (x : ℕ) (ws : List Window) → campaign_decides p.view.cell p.turn.next p.cell ≡ to → view_after ClaimTerm p.cell p.view ≡ v → word_after ClaimTerm p.view p.cell ≡ x → windows_after ClaimTerm p.cell p.view p.windows ≡ ws
      → Went w d (record p { view = v; turn = to.turn; cell = x; windows = ws }) to.reply (campaign_of u d)
  campaign_goes to v x ws is view after windows = went w d (record p { view = v; turn = to.turn; cell = x; windows = ws }) u ClaimTerm ClaimTerm refl (campaign_decides (view_at u d).cell (turn_at u d).next (found_by u d ClaimTerm)) to
      (ap (λ (y : View). campaign_decides y.cell (turn_at u d).next (slice_index u.words 0)) r.view ∙ ap (λ (y : Turn). campaign_decides p.view.cell y.next (slice_index u.words 0)) r.turn ∙ ap (λ (n : ℕ). campaign_decides p.view.cell p.turn.next n) r.cell ∙ is)
      refl (on_cell ClaimTerm v to.turn x ws refl view after windows refl)

  -- a save
  pub save_goes : (to : Decided) (v : View) (x : ℕ) (ws : List Window) → save_decides (held p.view) p.turn.next p.cell ≡ to → view_after (SaveEnd (end_of p.turn.next)) p.cell p.view ≡ v → word_after (SaveEnd (end_of p.turn.next)) p.view p.cell ≡ x → windows_after (SaveEnd (end_of p.turn.next)) p.cell p.view p.windows ≡ ws
      → Went w d (record p { view = v; turn = to.turn; cell = x; windows = ws }) to.reply (save_of u d)
  save_goes to v x ws is view after windows = went w d (record p { view = v; turn = to.turn; cell = x; windows = ws }) u (its_save u d) (SaveEnd (end_of p.turn.next)) (ap (λ (y : Turn). SaveEnd (end_of y.next)) r.turn) (save_decides (held (view_at u d)) (turn_at u d).next (found_by u d (its_save u d))) to
      (ap (λ (y : View). save_decides (held y) (turn_at u d).next (slice_index u.words 0)) r.view ∙ ap (λ (y : Turn). save_decides (held p.view) y.next (slice_index u.words 0)) r.turn ∙ ap (λ (n : ℕ). save_decides (held p.view) p.turn.next n) r.cell ∙ is)
      refl (on_cell (SaveEnd (end_of p.turn.next)) v to.turn x ws refl view after windows refl)

  module _ (own : p.view.driver ≡ d) where
    own_cursor : slice_index u.words (cursor_at (view_at u d).driver) ≡ p.cursor
    own_cursor = ap (λ (y : View). slice_index u.words (cursor_at y.driver)) r.view ∙ ap (λ (n : ℕ). slice_index u.words (cursor_at n)) own ∙ r.cursor

    -- a raise
    pub raise_goes : Went w d (record p { view = raised (p.turn.next * 262144) p.cursor p.view; turn = (raise_decides p.turn p.cursor).turn; cursor = max p.cursor (p.turn.next * 262144) }) (raise_decides p.turn p.cursor).reply (raise_of u d)
    raise_goes = went w d (record p { view = raised (p.turn.next * 262144) p.cursor p.view; turn = (raise_decides p.turn p.cursor).turn; cursor = max p.cursor (p.turn.next * 262144) }) u (its_raise u d) (RaiseCursor (p.turn.next * 262144)) (ap (λ (y : Turn). RaiseCursor (y.next * 262144)) r.turn)
        (raise_decides (turn_at u d) (found_by u d (its_raise u d))) (raise_decides p.turn p.cursor)
        (ap (λ (y : Turn). raise_decides y (slice_index u.words (cursor_at (view_at u d).driver))) r.turn ∙ ap (λ (n : ℕ). raise_decides p.turn n) own_cursor) refl
        (on_cursor (RaiseCursor (p.turn.next * 262144)) (raised (p.turn.next * 262144) p.cursor p.view) (raise_decides p.turn p.cursor).turn (max p.cursor (p.turn.next * 262144)) (ap cursor_at own) refl refl refl refl)

    -- a probe
    pub probe_goes : (now : ℕ) (to : Decided) → probe_decides (held p.view).hi now p.cursor ≡ to
        → Went w d (record p { view = raised 0 p.cursor p.view; turn = to.turn }) to.reply (decided (made u d (RaiseCursor 0)) d (probe_decides (held (view_at u d)).hi now (found_by u d (RaiseCursor 0))))
    probe_goes now to is = went w d (record p { view = raised 0 p.cursor p.view; turn = to.turn }) u (RaiseCursor 0) (RaiseCursor 0) refl (probe_decides (held (view_at u d)).hi now (found_by u d (RaiseCursor 0))) to
        (ap (λ (y : View). probe_decides (held y).hi now (slice_index u.words (cursor_at (view_at u d).driver))) r.view ∙ ap (λ (n : ℕ). probe_decides (held p.view).hi now n) own_cursor ∙ is) refl
        (on_cursor (RaiseCursor 0) (raised 0 p.cursor p.view) to.turn p.cursor (ap cursor_at own) refl (omega arith) refl refl)

    -- a publish of the held window's end
    pub publish_goes : p.turn.publishes ≡ true → Went w d (record p { view = publishes (packed (held p.view).hi (held p.view).term) p.view; turn = at_rest; limit = packed (held p.view).hi (held p.view).term }) (Published (its_end u d)) (publish_of u d)
    publish_goes last = went w d (record p { view = publishes (packed (held p.view).hi (held p.view).term) p.view; turn = at_rest; limit = packed (held p.view).hi (held p.view).term }) u (its_publish u d) StoreLimit
        (ap (λ (y : Turn). cond y.publishes StoreLimit ClearLimit) r.turn ∙ ap (λ (b : Bool). cond b StoreLimit ClearLimit) last) (ends (Published (its_end u d))) (ends (Published (its_end u d))) refl refl
        (on_limit StoreLimit (publishes (packed (held p.view).hi (held p.view).term) p.view) at_rest (packed (held p.view).hi (held p.view).term) (ap limit_at own) refl refl refl refl)

    -- a store of 0 as the limit
    cleared : Reached w d (record p { view = record (publishes 0 p.view) { holds = false; marked = false }; turn = at_rest; limit = 0 }) (turned (made u d ClearLimit) d at_rest)
    cleared = on_limit ClearLimit (record (publishes 0 p.view) { holds = false; marked = false }) at_rest 0 (ap limit_at own) refl refl refl refl

    pub clear_goes : p.turn.publishes ≡ false → Went w d (record p { view = record (publishes 0 p.view) { holds = false; marked = false }; turn = at_rest; limit = 0 }) (Published (its_end u d)) (publish_of u d)
    clear_goes none = went w d (record p { view = record (publishes 0 p.view) { holds = false; marked = false }; turn = at_rest; limit = 0 }) u (its_publish u d) ClearLimit
        (ap (λ (y : Turn). cond y.publishes StoreLimit ClearLimit) r.turn ∙ ap (λ (b : Bool). cond b StoreLimit ClearLimit) none) (ends (Published (its_end u d))) (ends (Published (its_end u d))) refl refl cleared

    -- a resignation
    pub resign_goes : Went w d (record p { view = record (publishes 0 p.view) { holds = false; marked = false }; turn = at_rest; limit = 0 }) Resigned (decided (made u d ClearLimit) d (ends Resigned))
    resign_goes = record { reply_is = refl; reached = cleared }

  -- what the state says of the driver
  pub state_is : driver_state u d ≡ record { cell = cell_of p.cell; limit = p.limit; cursor = p.cursor; windows = p.windows; holds = p.view.holds; window = held p.view }
  state_is = λ i. record { cell = cell_of (r.cell i); limit = r.limit i; cursor = r.cursor i; windows = r.windows i; holds = (r.view i).holds; window = held (r.view i) }

  pub others : p.turn ≡ turn_at w d → LeavesOthers w d u
  others same = record {
    setup = r.setup;
    words = r.words;
    views = r.views;
    turns = sym (set-get_or u.turns d at_rest) ∙ r.turns (turn_at u d) ∙ ap (λ (t : Turn). set w.turns d t) (r.turn ∙ same) ∙ set-get_or w.turns d at_rest;
    posts = r.posts;
    batches = r.batches;
  }

-- what a row answers after a step, by the part before it
abbrev told_at : Kind → Part → Reply → Reply → Reply
told_at ToRaise p before reply = Moved p.turn.next (held p.view).hi
told_at ToPublish p before reply = before
told_at kind p before reply = reply

told_is : (w : Whole) (d : ℕ) (p : Part) (u : Whole) → Reached w d p u → (kind : Kind) (before reply : Reply) → unwrap_or (told kind (Driver d) u before) reply ≡ told_at kind p before reply
told_is w d p u r ToRaise before reply = λ i. Moved (r.turn i).next (held (r.view i)).hi
told_is w d p u r ToPublish before reply = refl
told_is w d p u r kind before reply = refl

-- A row of the driver that made these steps answers this, and leaves this part
pub record Ran (w : Whole) (d : ℕ) (kinds : List Kind) (p : Part) (reply : Reply) (r : Stepped) : Type 0 where
  pub answer : r.reply ≡ reply
  pub reached : Reached w d p r.after
  pub row : r.after ≡ played w (map (Step (Driver d)) kinds)

played_more : (w : Whole) (d : ℕ) (kinds : List Kind) (kind : Kind) → played w (map (Step (Driver d)) (kinds ++ kind ∷ [])) ≡ (step_of (played w (map (Step (Driver d)) kinds)) (Driver d) kind).after
played_more w d [] kind = refl
played_more w d (x ∷ kinds) kind = played_more (step_of w (Driver d) x).after d kinds kind

module _ (w : Whole) (d : ℕ) (kinds : List Kind) (p : Part) (before : Reply) (r : Stepped) (ran : Ran w d kinds p before r) (kind : Kind) where
  same : same_due (due_for kind) (turn_at r.after d).due ≡ same_due (due_for kind) p.turn.due
  same = ap (λ (y : Turn). same_due (due_for kind) y.due) ran.reached.turn

  -- the row goes on with a step that is next
  pub next_in : same_due (due_for kind) p.turn.due ≡ true → (q : Part) (reply : Reply) → Went w d q reply (due_step r.after (Driver d) kind) → Ran w d (kinds ++ kind ∷ []) q (told_at kind p before reply) (goes_on (Driver d) r kind)
  next_in due q reply went =
      let s : Stepped = due_step r.after (Driver d) kind in
      let goes : goes_on (Driver d) r kind ≡ gone (Driver d) kind r s = ap (λ (b : Bool). cond b (gone (Driver d) kind r s) r) (same ∙ due) in
      let makes : (step_of r.after (Driver d) kind).after ≡ s.after = ap (λ (b : Bool). (cond b s (out_of_turn r.after (turn_at r.after d).due)).after) (same ∙ due) in
      subst (λ (x : Stepped). Ran w d (kinds ++ kind ∷ []) q (told_at kind p before reply) x) (sym goes) record {
        answer = told_is w d p r.after ran.reached kind r.reply s.reply ∙ (λ i. told_at kind p (ran.answer i) (went.reply_is i));
        reached = went.reached;
        row = sym makes ∙ ap (λ (u : Whole). (step_of u (Driver d) kind).after) ran.row ∙ sym (played_more w d kinds kind);
      }

  -- and passes over one that isn't
  pub passed_in : same_due (due_for kind) p.turn.due ≡ false → Ran w d kinds p before (goes_on (Driver d) r kind)
  passed_in due = subst (λ (x : Stepped). Ran w d kinds p before x) (sym (ap (λ (b : Bool). cond b (gone (Driver d) kind r (due_step r.after (Driver d) kind)) r) (same ∙ due))) ran

-- a first step
pub first_in : (w : Whole) (d : ℕ) (kind : Kind) → same_due (due_for kind) (turn_at w d).due ≡ true → (q : Part) (reply : Reply) → Went w d q reply (due_step w (Driver d) kind) → Ran w d (kind ∷ []) q reply (due_step w (Driver d) kind)
first_in w d kind due q reply went = record { answer = went.reply_is; reached = went.reached; row = sym (ap (λ (b : Bool). (cond b (due_step w (Driver d) kind) (out_of_turn w (turn_at w d).due)).after) due) }

-- a row of steps as an answer
pub answers : (w : Whole) (d : ℕ) → HasDriver w.setup d → (kinds : List Kind) (p : Part) (reply : Reply) (state : DriverState) (r : Stepped) → turn_at w d ≡ at_rest → Ran w d kinds p reply r → p.turn ≡ at_rest
    → (let x : DriverState = record { cell = cell_of p.cell; limit = p.limit; cursor = p.cursor; windows = p.windows; holds = p.view.holds; window = held p.view } in x) ≡ state → Answers w d kinds reply state r
answers w d has kinds p reply state r rest ran turn state_of = record {
  row = ran.row;
  reply_is = ran.answer;
  state_is = state_is w d has.pos has.low p r.after ran.reached ∙ state_of;
  others = others w d has.pos has.low p r.after ran.reached (turn ∙ sym rest);
}
