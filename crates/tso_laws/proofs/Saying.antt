-- What the answer to each call says, over any state: an `again` passed, a call that comes in turn is never refused for its turn, and the batches grow by the granted one.
use Rattle.std.proofs.Common.{◌≡◌, ℕ, ◌+◌, Bool, true, false, cond, List, [], ◌∷◌, refl, sym, ap, subst, ◌∙◌}
use Rattle.std.specs.Prelude.{Option, None, IfSome, ◌==◌}
use Rattle.std.specs.List.{AllByRecursion}
use Rattle.pd_types.specs.declared.oracle.Actor.{Actor}
use Rattle.pd_types.specs.declared.oracle.Actor.TheVariants.{Driver, Client}
use Rattle.pd_types.specs.declared.oracle.Batch.{Batch}
use Rattle.pd_types.specs.declared.oracle.Window.{Window}
use Rattle.tso_model.specs.declared.step.WordStep.TheVariants.{LoadCell, ClaimTerm, RaiseCursor, StoreLimit, ClearLimit, LoadLimit, ArmCount, AddArmed}
use Rattle.tso_model.specs.Words.{packed, cell_of, cell_word, passes}
use Rattle.tso_model.specs.Plan.{end_of, tick_next}
use Rattle.tso_model.specs.Ledger.{batches_after, place}
use Rattle.tso_model.specs.Steps.{held, hand, batch_of}
use Rattle.tso_model.proofs.Basics.{by_bool}
use Rattle.tso_core.specs.declared.turn.Decided.{Decided}
use Rattle.tso_core.specs.declared.reply.Due.{Due}
use Rattle.tso_core.specs.declared.reply.Due.TheVariants.{Rest, Save, Raise, Publish}
use Rattle.tso_core.specs.declared.reply.Kind.{Kind}
use Rattle.tso_core.specs.declared.reply.Kind.TheVariants.{Read, Campaign as ToCampaign, Save as ToSave, Probe, Raise as ToRaise, Publish as ToPublish, Resign, Look, Arm as ToArm, Draw as ToDraw}
use Rattle.tso_core.specs.declared.reply.Reply.{Reply}
use Rattle.tso_core.specs.declared.reply.Reply.TheVariants.{Beaten, Lost, NotLeading, Resigned, Got, Again, Told, Claimed, Saved, Moved, Armed}
use Rattle.tso_core.specs.Due.{same_due, due_for}
use Rattle.tso_core.specs.Whole.{Whole, place_of_client, view_at, turn_at, post_at, found_by, made}
use Rattle.tso_core.specs.Steps.{Stepped, out_of_turn, decided, ends, goes, probe_decides, its_save, its_publish, read_of, probe_of, look_of, draw_of, due_of, due_at, move_of, due_step, step_of}
use Rattle.tso_core.specs.Rows.{gone, goes_on, row, won_by, won, call_of, lead_of, tick_of, resigned_of, take_of}
use Rattle.tso_core.specs.Notes.{tell_of, hear_of, heard_from, note_left}
use Rattle.tso_core.specs.Says.{OfWindows, Stay, Begin, BeginEmpty, End, Saying, nothing_said, says, HasPassed}
use Rattle.tso_laws.specs.Laws.{Makes, IsNext, IsInTurn, ComesAtRest, AgainPassed, TakeAgainPassed, RefusesOutOfTurn, Adds, with_batch, BatchesGrow}
use Rattle.tso_core.proofs.Cases.{read_cases, goes_cases, look_cases, told_cases}
use Rattle.tso_core.proofs.Dues.{is_due, is_same}
use Rattle.tso_core.proofs.Stepping.{OnMove, on_weaker, move_made, no_move, step_by, goes_by, row_by, call_rest, call_out, call_by}

-- an answer that grants and shows nothing: a refused count passed, and it came in turn
pub record IsDull (s : Saying) : Type 0 where
  pub batch : s.batch ≡ None
  pub pair : s.pair ≡ None
  pub passed : IfSome s.refused HasPassed
  pub expected : s.expected ≡ None

-- nothing is said but of windows
plain : (o : OfWindows) → IsDull (record nothing_said { windows = o })
plain o = record { batch = refl; pair = refl; passed = tt; expected = refl }

-- a dull answer that leaves the batches
pub record Quiet (w : Whole) (r : Stepped) : Type 0 where
  pub dull : IsDull (says r.reply)
  pub batches : r.after.batches ≡ w.batches

-- an answer that comes in turn, and after which the batches have the granted one
pub record Plain (w : Whole) (r : Stepped) : Type 0 where
  pub added : Adds r.reply w.batches r.after.batches
  pub passed : IfSome (says r.reply).refused HasPassed
  pub expected : (says r.reply).expected ≡ None

quiet_plain : (w : Whole) (r : Stepped) → Quiet w r → Plain w r
quiet_plain w r q = record { added = q.batches ∙ sym (ap (λ (o : Option Batch). with_batch o w.batches) q.dull.batch); passed = q.dull.passed; expected = q.dull.expected }

-- what an answer adds, and that a refused count passed
pub record Fair (w : Whole) (r : Stepped) : Type 0 where
  pub added : Adds r.reply w.batches r.after.batches
  pub passed : IfSome (says r.reply).refused HasPassed

-- the kinds of the actor that grant nothing
abbrev pub IsDry : Actor → Kind → Type 0
IsDry (Client c) ToDraw = ⊥
IsDry actor kind = Unit {0}

held_quiet : (w : Whole) (b : Bool) (r : Stepped) → Quiet w r → Quiet w (cond b r (record { reply = NotLeading; after = w }))
held_quiet w true r q = q
held_quiet w false r q = record { dull = plain Stay; batches = refl }

pub quiet_move : (w : Whole) (actor : Actor) (kind : Kind) → IsDry actor kind → OnMove (Quiet w) w (move_of actor kind)
quiet_move w (Driver d) (Read now) dry = record {
  dull = read_cases (λ (x : Decided). IsDull (says x.reply)) (cell_of (found_by w d LoadCell)) now (λ _. plain Stay) (λ _ _. plain Stay) (λ _ _. plain Stay);
  batches = refl;
}
quiet_move w (Driver d) ToCampaign dry =
    let known = (view_at w d).cell in
    let n = found_by w d ClaimTerm in record {
      dull = by_bool (λ b. IsDull (says (cond {A = Decided} b (goes (Claimed (known.term + 1)) Save (turn_at w d).next true) (ends (Beaten (cell_of n)))).reply)) (n == cell_word known) (λ _. plain (BeginEmpty (known.term + 1))) (λ _. plain Stay);
      batches = refl;
    }
quiet_move w (Driver d) ToSave dry =
    let own = held (view_at w d) in
    let n = found_by w d (its_save w d) in
    let next = (turn_at w d).next in record {
      dull = by_bool (λ b. IsDull (says (cond {A = Decided} b (goes (Saved (end_of next)) Raise next true) (goes (Lost (cell_of n)) Publish 0 false)).reply)) (n == packed own.hi own.term) (λ _. plain (End (end_of next))) (λ _. plain Stay);
      batches = refl;
    }
quiet_move w (Driver d) (Probe now) dry =
    let hi = (held (view_at w d)).hi in
    let n = found_by w d (RaiseCursor 0) in
    held_quiet w (view_at w d).holds (decided (made w d (RaiseCursor 0)) d (probe_decides hi now n))
    (record { dull = goes_cases (λ (x : Decided). IsDull (says x.reply)) hi n (tick_next n hi now) (λ _. plain Stay) (λ _ _ _ _. plain Stay) (λ _ _ _ _. plain Stay) (λ _ _ _. plain Stay); batches = refl })
quiet_move w (Driver d) ToRaise dry = record { dull = plain Stay; batches = refl }
quiet_move w (Driver d) ToPublish dry = record {
  dull = plain Stay;
  batches = by_bool (λ b. batches_after (cond b StoreLimit ClearLimit) (found_by w d (its_publish w d)) (view_at w d) w.batches ≡ w.batches) (turn_at w d).publishes (λ _. refl) (λ _. refl);
}
quiet_move w (Driver d) Resign dry = held_quiet w (view_at w d).holds (decided (made w d ClearLimit) d (ends Resigned)) (record { dull = plain Stay; batches = refl })
quiet_move w (Client c) (Look d) dry = record {
  dull = look_cases (λ (x : Reply) _. IsDull (says x)) (found_by w (place_of_client w c) (LoadLimit d)) (view_at w (place_of_client w c)) (λ _. plain Stay) (λ _ _. plain Stay) (λ _ _. plain Stay);
  batches = refl;
}
quiet_move w (Client c) (ToArm n) dry =
    let at = found_by w (place_of_client w c) (ArmCount n) in
    let hi = (hand (view_at w (place_of_client w c))).hi in record {
      dull = by_bool (λ b. IsDull (says (cond b (Again at hi n) (Armed at)))) (passes at hi n) (λ passed. record { batch = refl; pair = refl; passed = passed; expected = refl }) (λ _. plain Stay);
      batches = refl;
    }
quiet_move w (Client c) ToDraw dry = absurd dry
quiet_move w actor kind dry = tt

draw_plain : (w : Whole) (c : ℕ) → Plain w (draw_of w c)
draw_plain w c =
    let v = view_at w (place_of_client w c) in
    let at = found_by w (place_of_client w c) AddArmed in
    let hi = (hand v).hi in
    let batch = batch_of at v in
    by_bool (λ b. (let r : Stepped = record { reply = cond b (Again at hi v.armed) (Got batch); after = record (made w (place_of_client w c) AddArmed) { batches = cond b w.batches (place batch w.batches) } } in Plain w r)) (passes at hi v.armed)
    (λ passed. record { added = refl; passed = passed; expected = refl }) (λ _. record { added = refl; passed = tt; expected = refl })

plain_move : (w : Whole) (actor : Actor) (kind : Kind) → OnMove (Plain w) w (move_of actor kind)
plain_move w (Client c) ToDraw = draw_plain w c
plain_move w actor kind = on_weaker (Quiet w) (Plain w) w (quiet_plain w) (move_of actor kind) (quiet_move w actor kind tt)

-- a row that grants nothing
pub row_quiet : (w : Whole) (actor : Actor) (kinds : List Kind) → AllByRecursion (λ (kind : Kind). IsDry actor kind × Makes actor kind) kinds → (r : Stepped) → Quiet w r → Quiet w (row actor kinds r)
row_quiet w actor kinds dry r q = row_by (Quiet w) (λ (kind : Kind). IsDry actor kind × Makes actor kind) actor
    (λ u kind one due p.
    let s = move_made (Quiet u.after) u.after (due_for kind) (move_of actor kind) one.1 (quiet_move u.after actor kind one.0) in record {
      dull = told_cases (λ (x : Reply). IsDull (says x)) kind actor u.after u.reply (due_step u.after actor kind).reply p.dull (λ next hi. plain (End hi)) s.dull;
      batches = s.batches ∙ p.batches;
    }) kinds dry r q

won_dull : (window : Window) (reply : Reply) → IsDull (says reply) → IsDull (says (won_by window reply))
won_dull window (Moved next hi) dull = plain (Begin window.term window.lo window.hi)
won_dull window reply dull = dull

-- the calls of an actor at rest
module _ (w : Whole) where
  pub lead_quiet : (d now : ℕ) → Quiet w (won d (row (Driver d) (ToCampaign ∷ ToSave ∷ ToRaise ∷ ToPublish ∷ []) (read_of w d now)))
  lead_quiet d now =
      let q = row_quiet w (Driver d) (ToCampaign ∷ ToSave ∷ ToRaise ∷ ToPublish ∷ []) ((tt, refl), ((tt, refl), ((tt, refl), ((tt, refl), tt)))) (read_of w d now) (quiet_move w (Driver d) (Read now) tt) in
      let r : Stepped = row (Driver d) (ToCampaign ∷ ToSave ∷ ToRaise ∷ ToPublish ∷ []) (read_of w d now) in
      record { dull = won_dull (held (view_at r.after d)) r.reply q.dull; batches = q.batches }

  pub tick_quiet : (d now : ℕ) → Quiet w (row (Driver d) (ToSave ∷ ToRaise ∷ ToPublish ∷ []) (probe_of w d now))
  tick_quiet d now = row_quiet w (Driver d) (ToSave ∷ ToRaise ∷ ToPublish ∷ []) ((tt, refl), ((tt, refl), ((tt, refl), tt))) (probe_of w d now) (quiet_move w (Driver d) (Probe now) tt)

  pub arm_quiet : (c d n : ℕ) → Quiet w (row (Client c) (ToArm n ∷ []) (look_of w c d))
  arm_quiet c d n = row_quiet w (Client c) (ToArm n ∷ []) ((tt, refl), tt) (look_of w c d) (quiet_move w (Client c) (Look d) tt)

  draw_after : (c : ℕ) (r : Stepped) → Quiet w r → Plain w (goes_on (Client c) r ToDraw)
  draw_after c r q = goes_by (Plain w) (Client c) r ToDraw
      (λ _. let s = draw_plain r.after c in record { added = s.added ∙ ap (λ (bs : List Batch). with_batch (says (draw_of r.after c).reply).batch bs) q.batches; passed = s.passed; expected = s.expected })
      (quiet_plain w r q)

  take_plain : (c d n : ℕ) → Plain w (row (Client c) (ToArm n ∷ ToDraw ∷ []) (look_of w c d))
  take_plain c d n = draw_after c (row (Client c) (ToArm n ∷ []) (look_of w c d)) (arm_quiet c d n)

  heard_plain : (c : ℕ) (post : List ℕ) → Plain w (heard_from w c post)
  heard_plain c [] = record { added = refl; passed = tt; expected = refl }
  heard_plain c (note ∷ rest) = record { added = refl; passed = tt; expected = refl }

  told_plain : (c to : ℕ) → (let r : Stepped = record { reply = Told; after = note_left w c to } in Plain w r)
  told_plain c to = record { added = refl; passed = tt; expected = refl }

  out_fair : (due : Due) → Fair w (out_of_turn w due)
  out_fair due = record { added = refl; passed = tt }

  plain_fair : (r : Stepped) → Plain w r → Fair w r
  plain_fair r p = record { added = p.added; passed = p.passed }

  pub step_fair : (actor : Actor) (kind : Kind) → Fair w (step_of w actor kind)
  step_fair actor kind = step_by (Fair w) w actor kind (out_fair (due_of w actor)) (λ _. on_weaker (Plain w) (Fair w) w plain_fair (move_of actor kind) (plain_move w actor kind))

  pub lead_fair : (d now : ℕ) → Fair w (lead_of w d now)
  lead_fair d now = call_by (λ (r : Stepped). Fair w (won d r)) w (Driver d) (Read now) (ToCampaign ∷ ToSave ∷ ToRaise ∷ ToPublish ∷ []) refl (out_fair (turn_at w d).due)
      (λ _. plain_fair (won d (row (Driver d) (ToCampaign ∷ ToSave ∷ ToRaise ∷ ToPublish ∷ []) (read_of w d now))) (quiet_plain w (won d (row (Driver d) (ToCampaign ∷ ToSave ∷ ToRaise ∷ ToPublish ∷ []) (read_of w d now))) (lead_quiet d now)))

  pub tick_fair : (d now : ℕ) → Fair w (tick_of w d now)
  tick_fair d now = call_by (Fair w) w (Driver d) (Probe now) (ToSave ∷ ToRaise ∷ ToPublish ∷ []) refl (out_fair (turn_at w d).due)
      (λ _. plain_fair (row (Driver d) (ToSave ∷ ToRaise ∷ ToPublish ∷ []) (probe_of w d now)) (quiet_plain w (row (Driver d) (ToSave ∷ ToRaise ∷ ToPublish ∷ []) (probe_of w d now)) (tick_quiet d now)))

  pub resign_fair : (d : ℕ) → Fair w (resigned_of w d)
  resign_fair d = call_by (Fair w) w (Driver d) Resign [] refl (out_fair (turn_at w d).due) (λ _. plain_fair (due_step w (Driver d) Resign) (plain_move w (Driver d) Resign))

  pub take_fair : (c d n : ℕ) → Fair w (take_of w c d n)
  take_fair c d n = call_by (Fair w) w (Client c) (Look d) (ToArm n ∷ ToDraw ∷ []) refl (out_fair (due_at w c)) (λ _. plain_fair (row (Client c) (ToArm n ∷ ToDraw ∷ []) (look_of w c d)) (take_plain c d n))

  fair_else : (due : Due) (r : Stepped) → Plain w r → Fair w (cond (same_due due Rest) r (out_of_turn w due))
  fair_else due r p = by_bool (λ b. Fair w (cond b r (out_of_turn w due))) (same_due due Rest) (λ _. plain_fair r p) (λ _. out_fair due)

  pub tell_fair : (from to : ℕ) → Fair w (tell_of w from to)
  tell_fair from to = fair_else (due_at w from) (record { reply = Told; after = note_left w from to }) (told_plain from to)

  pub hear_fair : (c : ℕ) → Fair w (hear_of w c)
  hear_fair c = fair_else (due_at w c) (heard_from w c (post_at w c)) (heard_plain c (post_at w c))

  pub batches_grow : BatchesGrow w
  batches_grow = record {
    step = λ actor kind. (step_fair actor kind).added;
    lead = λ d now. (lead_fair d now).added;
    tick = λ d now. (tick_fair d now).added;
    resign = λ d. (resign_fair d).added;
    take = λ c d n. (take_fair c d n).added;
    tell = λ from to. (tell_fair from to).added;
    hear = λ c. (hear_fair c).added;
  }

  -- an `again` passed
  passed_by : (r : Stepped) → Fair w r → (at hi n : ℕ) → r.reply ≡ Again at hi n → passes at hi n ≡ true
  passed_by r fair at hi n is = subst (λ (x : Reply). IfSome (says x).refused HasPassed) is fair.passed

  pub again_passed : AgainPassed w
  again_passed actor kind at hi n is = passed_by (step_of w actor kind) (step_fair actor kind) at hi n is

  pub take_again_passed : TakeAgainPassed w
  take_again_passed c d m at hi n is = passed_by (take_of w c d m) (take_fair c d m) at hi n is

  -- a call that is made isn't out of turn
  in_turn : (r : Reply) → (says r).expected ≡ None → IsInTurn r
  in_turn r none due is = absurd (cc (ap (λ (x : Reply). (says x).expected) is, none))

  at_rest_else : (due : Due) (r : Stepped) → Plain w r → ComesAtRest w due (cond (same_due due Rest) r (out_of_turn w due))
  at_rest_else due r p = record {
    refused = λ busy. by_bool (λ b. cond b r (out_of_turn w due) ≡ out_of_turn w due) (same_due due Rest) (λ rest. absurd (busy (is_due due Rest rest))) (λ _. refl);
    made = λ rest. subst (λ (b : Bool). IsInTurn (cond b r (out_of_turn w due)).reply) (sym (is_same due Rest rest)) (in_turn r.reply p.expected);
  }

  call_comes : (actor : Actor) (first : Kind) (kinds : List Kind) (f : Stepped → Stepped) → f (out_of_turn w (due_of w actor)) ≡ out_of_turn w (due_of w actor) → due_for first ≡ Rest
      → Plain w (f (row actor kinds (gone actor first (out_of_turn w (due_of w actor)) (due_step w actor first)))) → ComesAtRest w (due_of w actor) (f (call_of w actor (first ∷ kinds)))
  call_comes actor first kinds f same is_rest p = record {
    refused = λ busy. ap f (call_out w actor (first ∷ kinds) busy) ∙ same;
    made = λ rest. subst (λ (r : Stepped). IsInTurn (f r).reply) (sym (call_rest w actor first kinds is_rest rest)) (in_turn (f (row actor kinds (gone actor first (out_of_turn w (due_of w actor)) (due_step w actor first)))).reply p.expected);
  }

  refused : (actor : Actor) (kind : Kind) → ¬ IsNext w actor kind → step_of w actor kind ≡ out_of_turn w (due_of w actor)
  refused actor kind other = by_bool (λ b. cond b (due_step w actor kind) (out_of_turn w (due_of w actor)) ≡ out_of_turn w (due_of w actor)) (same_due (due_for kind) (due_of w actor))
      (λ hit. let due = is_due (due_for kind) (due_of w actor) hit in no_move w (due_for kind) (move_of actor kind) (λ makes. other (due, makes)) ∙ ap (out_of_turn w) due) (λ _. refl)

  pub refuses_out_of_turn : RefusesOutOfTurn w
  refuses_out_of_turn = record {
    refused = refused;
    made = λ actor kind next. subst (λ (b : Bool). IsInTurn (cond b (due_step w actor kind) (out_of_turn w (due_of w actor))).reply) (sym (is_same (due_for kind) (due_of w actor) next.0))
        (in_turn (due_step w actor kind).reply (move_made (Plain w) w (due_for kind) (move_of actor kind) next.1 (plain_move w actor kind)).expected);
    lead = λ d now. call_comes (Driver d) (Read now) (ToCampaign ∷ ToSave ∷ ToRaise ∷ ToPublish ∷ []) (won d) refl refl (quiet_plain w (won d (row (Driver d) (ToCampaign ∷ ToSave ∷ ToRaise ∷ ToPublish ∷ []) (read_of w d now))) (lead_quiet d now));
    tick = λ d now. call_comes (Driver d) (Probe now) (ToSave ∷ ToRaise ∷ ToPublish ∷ []) (λ r. r) refl refl (quiet_plain w (row (Driver d) (ToSave ∷ ToRaise ∷ ToPublish ∷ []) (probe_of w d now)) (tick_quiet d now));
    resign = λ d. call_comes (Driver d) Resign [] (λ r. r) refl refl (plain_move w (Driver d) Resign);
    take = λ c d n. call_comes (Client c) (Look d) (ToArm n ∷ ToDraw ∷ []) (λ r. r) refl refl (take_plain c d n);
    tell = λ from to. at_rest_else (due_at w from) (record { reply = Told; after = note_left w from to }) (told_plain from to);
    hear = λ c. at_rest_else (due_at w c) (heard_from w c (post_at w c)) (heard_plain c (post_at w c));
  }
