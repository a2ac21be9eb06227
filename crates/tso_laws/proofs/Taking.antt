-- What a whole draw of a client at rest answers and leaves.
use Rattle.std.proofs.Common.{◌≡◌, ◌≢◌, ℕ, ◌+◌, ◌*◌, ◌/◌, ◌%◌, ◌^◌, ◌<◌, ◌≤◌, Bool, true, false, cond, List, [], ◌∷◌, length, refl, sym, ap, subst, ◌∙◌, arith, ne_eqb}
use Rattle.std.specs.Prelude.{Option, None, Some, nat_eq, slice_index, slice_set}
use Rattle.std.proofs.Math.Nat.{mod-eq_of_lt}
use Rattle.std.proofs.lemmas.List.{get_or-set_same, get_or-set_other, set-get_or}
use Rattle.std.proofs.Math.ListN.{length-set}
use Rattle.pd_types.specs.declared.oracle.Actor.TheVariants.{Client}
use Rattle.pd_types.specs.declared.oracle.Batch.{Batch}
use Rattle.pd_types.specs.declared.oracle.Window.{Window}
use Rattle.tso_model.specs.declared.entries.Limit.{Limit}
use Rattle.tso_model.specs.declared.view.Setup.{Setup}
use Rattle.tso_model.specs.declared.view.View.{View}
use Rattle.tso_model.specs.declared.step.WordStep.{WordStep}
use Rattle.tso_model.specs.declared.step.WordStep.TheVariants.{LoadLimit, ArmCount, AddArmed}
use Rattle.tso_model.specs.Words.{limit_at, cursor_at, passes}
use Rattle.tso_model.specs.Moves.{spent_view}
use Rattle.tso_model.specs.Ledger.{windows_after, batches_after, place}
use Rattle.tso_model.specs.Steps.{hand, word_of, word_after, view_after, fresh, looked, refused, granted, adds}
use Rattle.tso_model.proofs.Basics.{fits}
use Rattle.tso_core.specs.declared.reply.Due.TheVariants.{Rest, Arm, Draw}
use Rattle.tso_core.specs.declared.reply.Kind.{Kind}
use Rattle.tso_core.specs.declared.reply.Kind.TheVariants.{Look, Arm as ToArm, Draw as ToDraw}
use Rattle.tso_core.specs.declared.reply.Reply.{Reply}
use Rattle.tso_core.specs.declared.reply.Reply.TheVariants.{Got, Again, NotLeader, Stale, Looked, Armed}
use Rattle.tso_core.specs.Due.{same_due, due_for}
use Rattle.tso_core.specs.Whole.{Whole, place_of_client, view_at, made}
use Rattle.tso_core.specs.Steps.{Stepped, out_of_turn, client_due, looked_reply, arm_reply, draw_reply, look_of, arm_of, draw_of, due_at, due_step, step_of}
use Rattle.tso_core.specs.Rows.{gone, goes_on, take_of}
use Rattle.tso_core.specs.Sound.{IsSound, HasDriver, HasClient}
use Rattle.tso_core.specs.Asked.{IsCount}
use Rattle.tso_laws.specs.Laws.{Step, played}
use Rattle.tso_laws.specs.WholeCalls.{draw_state, Draws, LeavesRest, limit_of, cursor_of, next_batch, grantee, TakeTells}
use Rattle.tso_core.proofs.Bounds.{limit_fits}
use Rattle.tso_core.proofs.Cases.{look_cases}
use Rattle.tso_core.proofs.Drawn.{resting, inside}
use Rattle.tso_core.proofs.Dues.{is_same}
use Rattle.tso_laws.proofs.Reached.{at_is}
use Rattle.tso_core.proofs.Stepping.{call_rest}

-- u has this view of the client c, this cursor of the driver d and these batches, and all else as w
record Has (w : Whole) (c d : ℕ) (v : View) (cursor : ℕ) (batches : List Batch) (u : Whole) : Type 0 where
  setup : u.setup ≡ w.setup
  view : view_at u (place_of_client w c) ≡ v
  cursor_is : slice_index u.words (cursor_at d) ≡ cursor
  batches_are : u.batches ≡ batches
  words : (i : ℕ) → i ≢ cursor_at d → slice_index u.words i ≡ slice_index w.words i
  views : (id : ℕ) → id ≢ place_of_client w c → view_at u id ≡ view_at w id
  turns : u.turns ≡ w.turns
  posts : u.posts ≡ w.posts
  windows : u.windows ≡ w.windows
  seat : place_of_client w c < length u.views
  wide : length u.words ≡ 1 + 2 * w.setup.drivers

module _ (w : Whole) (c d : ℕ) (pos : 0 < d) (low : d ≤ w.setup.drivers) (v : View) (cursor : ℕ) (batches : List Batch) (u : Whole) (h : Has w c d v cursor batches u) where
  module _ (step : WordStep) (i n x m : ℕ) (t : View) (bs : List Batch) (word : word_of step v ≡ i) (found : slice_index u.words i ≡ n) (view : view_after step n v ≡ t) (after : word_after step v n ≡ x) where
    touched : ((ws : List Window) → windows_after step n v ws ≡ ws) → batches_after step n v batches ≡ bs → slice_index (slice_set u.words i x) (cursor_at d) ≡ m → ((j : ℕ) → j ≢ cursor_at d → slice_index (slice_set u.words i x) j ≡ slice_index u.words j)
        → Has w c d t m bs (made u (place_of_client w c) step)
    touched windows drawn at others = subst (λ (y : Whole). Has w c d t m bs y) (sym (at_is u (place_of_client w c) i step v n h.view word found)) record {
      setup = h.setup;
      view = get_or-set_same u.views (place_of_client w c) (view_after step n v) spent_view h.seat ∙ view;
      cursor_is = ap (λ (y : ℕ). slice_index (slice_set u.words i y) (cursor_at d)) after ∙ at;
      batches_are = ap (λ (y : List Batch). batches_after step n v y) h.batches_are ∙ drawn;
      words = λ j apart. ap (λ (y : ℕ). slice_index (slice_set u.words i y) j) after ∙ others j apart ∙ h.words j apart;
      views = λ id apart. get_or-set_other u.views (place_of_client w c) id (view_after step n v) spent_view apart ∙ h.views id apart;
      turns = h.turns;
      posts = h.posts;
      windows = windows u.windows ∙ h.windows;
      seat = omega (arith, h.seat, length-set u.views (place_of_client w c) (view_after step n v));
      wide = length-set u.words i (word_after step v n) ∙ h.wide;
    }

  -- a look
  looks : (t : View) → looked d (slice_index u.words (limit_at d)) v ≡ t → Has w c d t cursor batches (made u (place_of_client w c) (LoadLimit d))
  looks t view = touched (LoadLimit d) (limit_at d) (slice_index u.words (limit_at d)) (slice_index u.words (limit_at d)) cursor t batches refl refl view refl (λ ws. refl) refl
      (ap (λ (l : List ℕ). slice_index l (cursor_at d)) (set-get_or u.words (limit_at d) 0) ∙ h.cursor_is) (λ j apart. ap (λ (l : List ℕ). slice_index l j) (set-get_or u.words (limit_at d) 0))

  module _ (mine : (hand v).driver ≡ d) where
    -- an arm
    arms : (n : ℕ) (t : View) → view_after (ArmCount n) cursor v ≡ t → Has w c d t cursor batches (made u (place_of_client w c) (ArmCount n))
    arms n t view = touched (ArmCount n) (cursor_at d) cursor cursor cursor t batches (ap cursor_at mine) h.cursor_is view refl (λ ws. refl) refl
        (get_or-set_same u.words (cursor_at d) cursor 0 (omega (arith, h.wide, low))) (λ j apart. get_or-set_other u.words (cursor_at d) j cursor 0 apart)

    -- a draw
    draws : (x : ℕ) (t : View) (bs : List Batch) → view_after AddArmed cursor v ≡ t → (cursor + v.armed) % 2 ^ 64 ≡ x → batches_after AddArmed cursor v batches ≡ bs → Has w c d t x bs (made u (place_of_client w c) AddArmed)
    draws x t bs view after drawn = touched AddArmed (cursor_at d) cursor x x t bs (ap cursor_at mine) h.cursor_is view after (λ ws. refl) drawn
        (get_or-set_same u.words (cursor_at d) x 0 (omega (arith, h.wide, low))) (λ j apart. get_or-set_other u.words (cursor_at d) j x 0 apart)

    found_here : slice_index u.words (cursor_at (hand (view_at u (place_of_client w c))).driver) ≡ cursor
    found_here = ap (λ (y : View). slice_index u.words (cursor_at (hand y).driver)) h.view ∙ ap (λ (n : ℕ). slice_index u.words (cursor_at n)) mine ∙ h.cursor_is

-- the step that is due is made, alone and in a row, and one that isn't is passed over
in_turn : (u : Whole) (c : ℕ) (v : View) (kind : Kind) → view_at u (place_of_client u c) ≡ v → same_due (due_for kind) (client_due v) ≡ true → (step_of u (Client c) kind).after ≡ (due_step u (Client c) kind).after
in_turn u c v kind view due = ap (λ (b : Bool). (cond b (due_step u (Client c) kind) (out_of_turn u (due_at u c))).after) (ap (λ (y : View). same_due (due_for kind) (client_due y)) view ∙ due)

goes_next : (c : ℕ) (r : Stepped) (v : View) (kind : Kind) → view_at r.after (place_of_client r.after c) ≡ v → same_due (due_for kind) (client_due v) ≡ true → goes_on (Client c) r kind ≡ gone (Client c) kind r (due_step r.after (Client c) kind)
goes_next c r v kind view due = ap (λ (b : Bool). cond b (gone (Client c) kind r (due_step r.after (Client c) kind)) r) (ap (λ (y : View). same_due (due_for kind) (client_due y)) view ∙ due)

goes_past : (c : ℕ) (r : Stepped) (v : View) (kind : Kind) → view_at r.after (place_of_client r.after c) ≡ v → same_due (due_for kind) (client_due v) ≡ false → goes_on (Client c) r kind ≡ r
goes_past c r v kind view due = ap (λ (b : Bool). cond b (gone (Client c) kind r (due_step r.after (Client c) kind)) r) (ap (λ (y : View). same_due (due_for kind) (client_due y)) view ∙ due)

module _ (w : Whole) (s : IsSound w) (c d n : ℕ) (has : HasClient w.setup c) (driver : HasDriver w.setup d) (count : IsCount n) (rest : due_at w c ≡ Rest) where
  -- the limit that the client takes in hand, and its view then
  abbrev limit : Limit
  limit = record { driver = d; term = limit_of w d % 262144; hi = limit_of w d / 262144 }

  abbrev look_with : Option Limit → View
  look_with hand = record (view_at w (place_of_client w c)) { hand = hand; looks = (looked d (limit_of w d) (view_at w (place_of_client w c))).looks }

  abbrev armed_with : ℕ → View
  armed_with m = record (look_with (Some limit)) { armed = m }

  here : Has w c d (view_at w (place_of_client w c)) (cursor_of w d) w.batches w
  here = record {
    setup = refl;
    view = refl;
    cursor_is = refl;
    batches_are = refl;
    words = λ i apart. refl;
    views = λ id apart. refl;
    turns = refl;
    posts = refl;
    windows = refl;
    seat = inside w s c has.pos has.low;
    wide = s.recorded.a.wide;
  }

  first : (step_of w (Client c) (Look d)).after ≡ (look_of w c d).after
  first = in_turn w c (view_at w (place_of_client w c)) (Look d) refl (is_same Rest (due_at w c) (sym rest))

  take_is : take_of w c d n ≡ goes_on (Client c) (goes_on (Client c) (look_of w c d) (ToArm n)) ToDraw
  take_is = call_rest w (Client c) (Look d) (ToArm n ∷ ToDraw ∷ []) refl rest

  -- what a state tells that has a view at rest
  leaves : (t : View) (cursor : ℕ) (bs : List Batch) (u : Whole) → u.setup ≡ w.setup → client_due t ≡ Rest → Has w c d t cursor bs u → LeavesRest w c d u
  leaves t cursor bs u setup due h = record {
    setup = h.setup;
    words = h.words;
    views = h.views;
    turns = h.turns;
    posts = h.posts;
    windows = h.windows;
    due = ap (λ (k : Setup). client_due (view_at u (k.drivers + c))) setup ∙ ap client_due h.view ∙ due;
  }

  state_is : (t : View) (cursor : ℕ) (bs : List Batch) (u : Whole) → u.setup ≡ w.setup → Has w c d t cursor bs u → draw_state u c d ≡ record { cursor = cursor; batches = bs; seen = t.seen }
  state_is t cursor bs u setup h =
      let seen : (view_at u (place_of_client u c)).seen ≡ t.seen = ap (λ (k : Setup). (view_at u (k.drivers + c)).seen) setup ∙ ap (λ (y : View). y.seen) h.view in
      λ i. record { cursor = h.cursor_is i; batches = h.batches_are i; seen = seen i }

  -- a look that ends the draw
  look_ends : (reply : Reply) → looked_reply (limit_of w d) (view_at w (place_of_client w c)).seen ≡ reply → looked d (limit_of w d) (view_at w (place_of_client w c)) ≡ look_with None → Draws w c d (Look d ∷ []) reply (draw_state w c d) (take_of w c d n)
  look_ends reply answer view =
      let u = (look_of w c d).after in
      let h = looks w c d driver.pos driver.low (view_at w (place_of_client w c)) (cursor_of w d) w.batches w here (look_with None) view in
      let end : take_of w c d n ≡ record { reply = reply; after = u } = take_is
      ∙ ap (λ (r : Stepped). goes_on (Client c) r ToDraw) (goes_past c (look_of w c d) (look_with None) (ToArm n) h.view refl) ∙ goes_past c (look_of w c d) (look_with None) ToDraw h.view refl
      ∙ ap (λ (y : Reply). let z : Stepped = record { reply = y; after = u } in z) answer in
      subst (λ (r : Stepped). Draws w c d (Look d ∷ []) reply (draw_state w c d) r) (sym end) record {
        row = sym first;
        reply_is = refl;
        state_is = state_is (look_with None) (cursor_of w d) w.batches u refl h;
        rest = leaves (look_with None) (cursor_of w d) w.batches u refl refl h;
      }

  -- what a look answers, and whether the limit is in hand then
  abbrev LookIs : Reply → Bool → Type 0
  LookIs reply taken = (looked_reply (limit_of w d) (view_at w (place_of_client w c)).seen ≡ reply) × (fresh (limit_of w d) (view_at w (place_of_client w c)) ≡ taken)

  look_is : (reply : Reply) (taken : Bool) → (limit_of w d ≡ 0 → (NotLeader ≡ reply) × (false ≡ taken)) → (limit_of w d ≢ 0 → limit_of w d % 262144 < (view_at w (place_of_client w c)).seen.term → (Stale (view_at w (place_of_client w c)).seen.term ≡ reply) × (false ≡ taken))
      → (limit_of w d ≢ 0 → (view_at w (place_of_client w c)).seen.term ≤ limit_of w d % 262144 → (Looked (limit_of w d % 262144) (limit_of w d / 262144) ≡ reply) × (true ≡ taken)) → LookIs reply taken
  look_is reply taken none stale on = look_cases (λ (r : Reply) (b : Bool). (r ≡ reply) × (b ≡ taken)) (limit_of w d) (view_at w (place_of_client w c)) none stale on

  take_not_leader : limit_of w d ≡ 0 → Draws w c d (Look d ∷ []) NotLeader (draw_state w c d) (take_of w c d n)
  take_not_leader none =
      let is = look_is NotLeader false (λ _. (refl, refl)) (λ some _. absurd (some none)) (λ some _. absurd (some none)) in
      look_ends NotLeader is.0 (ap (λ (b : Bool). look_with (cond b (Some limit) None)) is.1)

  module _ (some : limit_of w d ≢ 0) where
    take_stale : limit_of w d % 262144 < (view_at w (place_of_client w c)).seen.term → Draws w c d (Look d ∷ []) (Stale (view_at w (place_of_client w c)).seen.term) (draw_state w c d) (take_of w c d n)
    take_stale old =
        let is = look_is (Stale (view_at w (place_of_client w c)).seen.term) false (λ none. absurd (some none)) (λ _ _. (refl, refl)) (λ _ late. absurd (omega (arith, old, late))) in
        look_ends (Stale (view_at w (place_of_client w c)).seen.term) is.0 (ap (λ (b : Bool). look_with (cond b (Some limit) None)) is.1)

    module _ (late : (view_at w (place_of_client w c)).seen.term ≤ limit_of w d % 262144) where
      none_armed : (view_at w (place_of_client w c)).armed ≡ 0
      none_armed = (resting w s c has.pos has.low rest).1

      view_fresh : looked d (limit_of w d) (view_at w (place_of_client w c)) ≡ armed_with 0
      view_fresh =
          let is = look_is (Looked (limit_of w d % 262144) (limit_of w d / 262144)) true (λ none. absurd (some none)) (λ _ old. absurd (omega (arith, old, late))) (λ _ _. (refl, refl)) in
          ap (λ (b : Bool). look_with (cond b (Some limit) None)) is.1 ∙ ap (λ (m : ℕ). armed_with m) none_armed

      look_on : Has w c d (armed_with 0) (cursor_of w d) w.batches (look_of w c d).after
      look_on = looks w c d driver.pos driver.low (view_at w (place_of_client w c)) (cursor_of w d) w.batches w here (armed_with 0) view_fresh

      take_arms : take_of w c d n ≡ goes_on (Client c) (arm_of (look_of w c d).after c n) ToDraw
      take_arms = take_is ∙ ap (λ (r : Stepped). goes_on (Client c) r ToDraw) (goes_next c (look_of w c d) (armed_with 0) (ToArm n) look_on.view refl)

      second : (step_of (look_of w c d).after (Client c) (ToArm n)).after ≡ (arm_of (look_of w c d).after c n).after
      second = in_turn (look_of w c d).after c (armed_with 0) (ToArm n) look_on.view refl

      arm_answer : (arm_of (look_of w c d).after c n).reply ≡ arm_reply (cursor_of w d) (limit_of w d / 262144) n
      arm_answer = ap (λ (m : ℕ). arm_reply m (hand (view_at (look_of w c d).after (place_of_client w c))).hi n) (found_here w c d driver.pos driver.low (armed_with 0) (cursor_of w d) w.batches (look_of w c d).after look_on refl)
          ∙ ap (λ (y : View). arm_reply (cursor_of w d) (hand y).hi n) look_on.view

      take_again : passes (cursor_of w d) (limit_of w d / 262144) n ≡ true → Draws w c d (Look d ∷ ToArm n ∷ []) (Again (cursor_of w d) (limit_of w d / 262144) n) (draw_state w c d) (take_of w c d n)
      take_again passed =
          let u = (look_of w c d).after in
          let x = (arm_of u c n).after in
          let t = refused (cursor_of w d) n (armed_with 0) in
          let h = arms w c d driver.pos driver.low (armed_with 0) (cursor_of w d) w.batches u look_on refl n t (ap (λ (b : Bool). cond b t (armed_with n)) passed) in
          let answer = arm_answer ∙ ap (λ (b : Bool). cond b (Again (cursor_of w d) (limit_of w d / 262144) n) (Armed (cursor_of w d))) passed in
          let end : take_of w c d n ≡ record { reply = Again (cursor_of w d) (limit_of w d / 262144) n; after = x } = take_arms
          ∙ goes_past c (arm_of u c n) t ToDraw h.view refl
          ∙ ap (λ (y : Reply). let z : Stepped = record { reply = y; after = x } in z) answer in
          subst (λ (r : Stepped). Draws w c d (Look d ∷ ToArm n ∷ []) (Again (cursor_of w d) (limit_of w d / 262144) n) (draw_state w c d) r) (sym end) record {
            row = sym second ∙ ap (λ (y : Whole). played y (Step (Client c) (ToArm n) ∷ [])) (sym first);
            reply_is = refl;
            state_is = state_is t (cursor_of w d) w.batches x refl h;
            rest = leaves t (cursor_of w d) w.batches x refl refl h;
          }

      module _ (fit : passes (cursor_of w d) (limit_of w d / 262144) n ≡ false) where
        arm_on : Has w c d (armed_with n) (cursor_of w d) w.batches (arm_of (look_of w c d).after c n).after
        arm_on = arms w c d driver.pos driver.low (armed_with 0) (cursor_of w d) w.batches (look_of w c d).after look_on refl n (armed_with n) (ap (λ (b : Bool). cond b (refused (cursor_of w d) n (armed_with 0)) (armed_with n)) fit)

        some_count : nat_eq n 0 ≡ false
        some_count = ne_eqb n 0 (λ (none : n ≡ 0). omega (arith, none, count.some))

        draw_due : same_due Draw (client_due (armed_with n)) ≡ true
        draw_due = ap (λ (b : Bool). same_due Draw (cond b Arm Draw)) some_count

        third : (step_of (arm_of (look_of w c d).after c n).after (Client c) ToDraw).after ≡ (draw_of (arm_of (look_of w c d).after c n).after c).after
        third = in_turn (arm_of (look_of w c d).after c n).after c (armed_with n) ToDraw arm_on.view draw_due

        no_wrap : (cursor_of w d + n) % 2 ^ 64 ≡ cursor_of w d + n
        no_wrap =
            let small : cursor_of w d + n < 2 ^ 64 = omega (arith, fits (cursor_of w d) (limit_of w d / 262144) n fit, limit_fits w.setup w.words w.views s.recorded.history s.recorded.a s.recorded.b s.recorded.c d driver.pos driver.low) in
            mod-eq_of_lt small

        take_got : Draws w c d (Look d ∷ ToArm n ∷ ToDraw ∷ []) (Got (next_batch w d n)) (grantee w d n) (take_of w c d n)
        take_got =
            let u = (look_of w c d).after in
            let x = (arm_of u c n).after in
            let y = (draw_of x c).after in
            let t = granted (cursor_of w d) (armed_with n) in
            let late = record (refused (cursor_of w d) n (armed_with n)) { added = (adds (armed_with n)).added } in
            let h = draws w c d driver.pos driver.low (armed_with n) (cursor_of w d) w.batches x arm_on refl (cursor_of w d + n) t (place (next_batch w d n) w.batches)
            (ap (λ (b : Bool). cond b late t) fit) no_wrap (ap (λ (b : Bool). cond b w.batches (place (next_batch w d n) w.batches)) fit) in
            let answer : (draw_of x c).reply ≡ Got (next_batch w d n) = ap (λ (m : ℕ). draw_reply m (view_at x (place_of_client w c))) (found_here w c d driver.pos driver.low (armed_with n) (cursor_of w d) w.batches x arm_on refl)
            ∙ ap (λ (z : View). draw_reply (cursor_of w d) z) arm_on.view
            ∙ ap (λ (b : Bool). cond b (Again (cursor_of w d) (limit_of w d / 262144) n) (Got (next_batch w d n))) fit in
            let end : take_of w c d n ≡ record { reply = Got (next_batch w d n); after = y } = take_arms
            ∙ goes_next c (arm_of u c n) (armed_with n) ToDraw arm_on.view draw_due
            ∙ ap (λ (z : Reply). let r : Stepped = record { reply = z; after = y } in r) answer in
            subst (λ (r : Stepped). Draws w c d (Look d ∷ ToArm n ∷ ToDraw ∷ []) (Got (next_batch w d n)) (grantee w d n) r) (sym end) record {
              row = sym third ∙ ap (λ (z : Whole). played z (Step (Client c) ToDraw ∷ [])) (sym second) ∙ ap (λ (z : Whole). played z (Step (Client c) (ToArm n) ∷ Step (Client c) ToDraw ∷ [])) (sym first);
              reply_is = refl;
              state_is = state_is t (cursor_of w d + n) (place (next_batch w d n) w.batches) y refl h;
              rest = leaves t (cursor_of w d + n) (place (next_batch w d n) w.batches) y refl refl h;
            }

  pub take_tells : TakeTells w c d n
  take_tells = record { not_leader = take_not_leader; stale = take_stale; again = take_again; got = take_got }
