-- What each call answers and leaves: what its client has seen, and that all others have seen the same as before.
use Rattle.std.proofs.Common.{◌≡◌, ◌≢◌, ◌⊎◌, ℕ, ◌<◌, ◌≤◌, ltb, Bool, cond, List, [], ◌∷◌, refl, sym, ap, subst, ◌∙◌, inl, inr, ⊎_elim, arith}
use Rattle.std.specs.Prelude.{All, Option, None, Some, IfSome, option_to_list}
use Rattle.std.proofs.lemmas.List.Elements.{All-nil, All-cons}
use mathlib.Core.Logic.{dite}
use native.Mathlib.Decide.{dec_le}
use Rattle.pd_types.specs.declared.oracle.Actor.{Actor}
use Rattle.pd_types.specs.declared.oracle.Actor.TheVariants.{Driver, Client}
use Rattle.pd_types.specs.declared.oracle.Batch.{Batch}
use Rattle.pd_types.specs.declared.oracle.Seen.{Seen}
use Rattle.tso_model.specs.declared.view.View.{View}
use Rattle.tso_model.specs.declared.view.Setup.{Setup}
use Rattle.tso_model.specs.declared.step.WordStep.TheVariants.{AddArmed}
use Rattle.tso_model.specs.Words.{opening_claim, passes}
use Rattle.tso_model.specs.Sound.{IsSetup, IsSeen, FitsB}
use Rattle.tso_model.specs.Moves.{greater, nothing_seen, spent_view, seen_of}
use Rattle.tso_model.specs.OneHistory.{IsAbove}
use Rattle.tso_model.specs.Steps.{hand, batch_of, refused, granted, adds}
use Rattle.tso_model.proofs.Basics.{by_bool, by_lt, in_order}
use Rattle.tso_core.specs.declared.reply.Due.{Due}
use Rattle.tso_core.specs.declared.reply.Due.TheVariants.{Rest, Draw}
use Rattle.tso_core.specs.declared.reply.Kind.{Kind}
use Rattle.tso_core.specs.declared.reply.Kind.TheVariants.{Read, Campaign as ToCampaign, Save as ToSave, Probe, Raise as ToRaise, Publish as ToPublish, Resign, Look, Arm as ToArm, Draw as ToDraw}
use Rattle.tso_core.specs.declared.reply.Reply.{Reply}
use Rattle.tso_core.specs.declared.reply.Reply.TheVariants.{Got, Again, Told}
use Rattle.tso_core.specs.Due.{same_due, due_for}
use Rattle.tso_core.specs.Whole.{Whole, place_of_client, view_at, turn_at, post_at, found_by}
use Rattle.tso_core.specs.Steps.{Stepped, out_of_turn, due_of, due_at, move_of, step_of, read_of, probe_of, look_of, draw_of}
use Rattle.tso_core.specs.Rows.{row, won, lead_of, tick_of, resigned_of, take_of}
use Rattle.tso_core.specs.Notes.{tell_of, hear_of, heard_from, note_left}
use Rattle.tso_core.specs.Says.{says}
use Rattle.tso_core.specs.Sound.{IsSound, HasDriver, HasClient}
use Rattle.tso_core.specs.Asked.{HasActor, IsAsked, IsCount}
use Rattle.tso_core.specs.Opened.{opened}
use Rattle.tso_laws.specs.Laws.{Tells, EachCallTells, TakesGrant, IsNew, IsUpTo, Call, Step, Tell, Hear, IsCall, AreCalls, after_call, played, learned, seen_with, seen_at, client_of, driver_of}
use Rattle.tso_laws.proofs.Calm.{Calm, still, calm_move, row_calm, else_sees, own_sees}
use Rattle.tso_core.proofs.Drawn.{own, inside, draw_sound}
use Rattle.tso_core.proofs.Dues.{is_due, draws}
use Rattle.tso_laws.proofs.Granted.{grants}
use Rattle.tso_core.proofs.Places.{at_get}
use Rattle.tso_laws.proofs.Saying.{Fair, Quiet, quiet_move, lead_quiet, tick_quiet, arm_quiet, step_fair, lead_fair, tick_fair, resign_fair, take_fair, tell_fair, hear_fair}
use Rattle.tso_core.proofs.Started.{client_at, opened_sound}
use Rattle.tso_core.proofs.Stepping.{OnMove, step_by, goes_by, call_by}
use Rattle.tso_core.proofs.Told.{told_sound, heard_sound, old_view, else_view, own_view, is_note}
use Rattle.tso_laws.proofs.Windowed.{Shows, step_shows, lead_shows, tick_shows, resign_shows, take_shows, tell_shows, hear_shows}

-- one of the two pairs is at most the other
abbrev InOrder : Seen → Seen → Type 0
InOrder a b = IsUpTo a b ⊎ IsUpTo b a

same_up : (a : Seen) → IsUpTo a a
same_up a = record { term = omega arith; last = omega arith }

-- the greater of two in order is at least both
greater_up : (a b : Seen) → InOrder a b → IsUpTo a (greater a b) × IsUpTo b (greater a b)
greater_up a b order =
    by_lt (λ t. IsUpTo a (cond t b (cond (ltb b.term a.term) a (cond (ltb a.last b.last) b a))) × IsUpTo b (cond t b (cond (ltb b.term a.term) a (cond (ltb a.last b.last) b a)))) a.term b.term
    (λ less. (⊎_elim (λ up. up) (λ (down : IsUpTo b a). absurd (omega (arith, less, down.term))) order, same_up b))
    (λ high. by_lt (λ t. IsUpTo a (cond t a (cond (ltb a.last b.last) b a)) × IsUpTo b (cond t a (cond (ltb a.last b.last) b a))) b.term a.term
    (λ less. (same_up a, ⊎_elim (λ (up : IsUpTo a b). absurd (omega (arith, less, up.term))) (λ down. down) order))
    (λ most. by_lt (λ t. IsUpTo a (cond t b a) × IsUpTo b (cond t b a)) a.last b.last
    (λ less. (record { term = omega (arith, most); last = omega (arith, less) }, same_up b))
    (λ late. (same_up a, record { term = omega (arith, high); last = omega (arith, late) }))))

-- what is shown, and what had been seen, is at most what is seen then
rises : (o : Option Seen) (seen : Seen) → IfSome o (InOrder seen) → IsUpTo seen (seen_with o seen) × All (λ (x : Seen). IsUpTo x (seen_with o seen)) (option_to_list o)
rises None seen order = (same_up seen, All-nil (λ (x : Seen). IsUpTo x seen))
rises (Some pair) seen order =
    let both = greater_up seen pair order in
    (both.0, All-cons (λ (x : Seen). IsUpTo x (greater seen pair)) pair [] both.1 (All-nil (λ (x : Seen). IsUpTo x (greater seen pair))))

-- What a call of this client, or of a driver where it is 0, leaves; what it grants is above what was seen, and what it shows is in order with that
record Learns (w : Whole) (c : ℕ) (r : Stepped) : Type 0 where
  sound : IsSound r.after
  setup : r.after.setup ≡ w.setup
  own : HasClient w.setup c → seen_at r.after c ≡ learned r.reply (seen_at w c)
  others : (e : ℕ) → HasClient w.setup e → e ≢ c → seen_at r.after e ≡ seen_at w e
  above : (seen : Seen) → (HasClient w.setup c → seen_at w c ≡ seen) → IfSome (says r.reply).batch (IsAbove seen)
  order : HasClient w.setup c → IfSome (says r.reply).pair (InOrder (seen_at w c))

learns_calm : (w : Whole) (c : ℕ) (r : Stepped) → Calm w r.after → (says r.reply).batch ≡ None → (says r.reply).pair ≡ None → Learns w c r
learns_calm w c r calm no_batch no_pair = record {
  sound = calm.sound;
  setup = calm.setup;
  own = λ has. calm.seens c has ∙ sym (ap (λ (o : Option Seen). seen_with o (seen_at w c)) no_pair);
  others = λ e has apart. calm.seens e has;
  above = λ seen is. subst (λ (o : Option Batch). IfSome o (IsAbove seen)) (sym no_batch) tt;
  order = λ has. subst (λ (o : Option Seen). IfSome o (InOrder (seen_at w c))) (sym no_pair) tt;
}

learns_then : (w u : Whole) (c : ℕ) (r : Stepped) → Calm w u → HasClient w.setup c → Learns u c r → Learns w c r
learns_then w u c r calm has l =
    let there : HasClient u.setup c = subst (λ (k : Setup). HasClient k c) (sym calm.setup) has in
    let same : seen_at u c ≡ seen_at w c = calm.seens c has in record {
      sound = l.sound;
      setup = l.setup ∙ calm.setup;
      own = λ _. l.own there ∙ ap (λ (seen : Seen). learned r.reply seen) same;
      others = λ e other apart. l.others e (subst (λ (k : Setup). HasClient k e) (sym calm.setup) other) apart ∙ calm.seens e other;
      above = λ seen is. l.above seen (λ _. same ∙ is has);
      order = λ _. subst (λ (x : Seen). IfSome (says r.reply).pair (InOrder x)) same (l.order there);
    }

-- a batch that is above what was seen is the greater pair
greater_above : (seen : Seen) (b : Batch) → 0 < b.count → b.count ≤ b.last → IsAbove seen b → greater seen (seen_of b) ≡ seen_of b
greater_above seen b some most above = by_lt (λ t. cond t (seen_of b) (cond (ltb b.term seen.term) seen (cond (ltb seen.last b.last) (seen_of b) seen)) ≡ seen_of b) seen.term b.term (λ _. refl)
    (λ low. by_lt (λ t. cond t seen (cond (ltb seen.last b.last) (seen_of b) seen) ≡ seen_of b) b.term seen.term (λ less. absurd (omega (arith, less, above.term)))
    (λ _. by_lt (λ t. cond t (seen_of b) seen ≡ seen_of b) seen.last b.last (λ _. refl) (λ high. absurd (omega (arith, high, some, most, above.last)))))

-- two pairs that were seen are in one order by term and by number
module _ (w : Whole) (s : IsSound w) where
  seen_in_order : (a b : Seen) → (a ≡ nothing_seen) ⊎ IsSeen w.words s.recorded.history a → (b ≡ nothing_seen) ⊎ IsSeen w.words s.recorded.history b → InOrder a b
  seen_in_order a b mine theirs = ⊎_elim
      (λ (none : a ≡ nothing_seen). inl (record { term = omega (arith, ap (λ (x : Seen). x.term) none); last = omega (arith, ap (λ (x : Seen). x.last) none) }))
      (λ (x : IsSeen w.words s.recorded.history a). ⊎_elim
      (λ (none : b ≡ nothing_seen). inr (record { term = omega (arith, ap (λ (y : Seen). y.term) none); last = omega (arith, ap (λ (y : Seen). y.last) none) }))
      (λ (y : IsSeen w.words s.recorded.history b). both x y) theirs) mine
    where
      ahead : (p q : Seen) → IsSeen w.words s.recorded.history p → IsSeen w.words s.recorded.history q → p.term < q.term → IsUpTo p q
      ahead p q x y less =
          let h = s.recorded.history in
          let order = in_order (opening_claim w.setup.cell) h.newest h.past s.recorded.a.chain x.claim y.claim x.stands y.stands (omega (arith, less, x.term_is, y.term_is)) in
          record { term = omega (arith, less); last = omega (arith, order, x.below, y.above) }

      both : IsSeen w.words s.recorded.history a → IsSeen w.words s.recorded.history b → InOrder a b
      both x y = dite (dec_le b.term a.term)
          (λ low. dite (dec_le a.term b.term)
          (λ high. dite (dec_le a.last b.last) (λ most. inl (record { term = omega (arith, high); last = omega (arith, most) })) (λ late. inr (record { term = omega (arith, low); last = omega (arith, late) })))
          (λ above. inr (ahead b a y x (omega (arith, above)))))
          (λ above. inl (ahead a b x y (omega (arith, above))))

  out_learns : (c : ℕ) (due : Due) → Learns w c (out_of_turn w due)
  out_learns c due = learns_calm w c (out_of_turn w due) (still w s) refl refl

  module _ (c : ℕ) (has : HasClient w.setup c) where
    -- a draw
    draw_learns : due_at w c ≡ Draw → Learns w c (draw_of w c)
    draw_learns due =
        let v = view_at w (place_of_client w c) in
        let at = found_by w (place_of_client w c) AddArmed in
        let hi = (hand v).hi in
        let b = batch_of at v in
        let facts : ((let u : View = cond (passes at hi v.armed) (record (refused at v.armed v) { added = (adds v).added }) (granted at v) in u.seen) ≡ learned (cond (passes at hi v.armed) (Again at hi v.armed) (Got b)) v.seen)
        × IfSome (says (cond (passes at hi v.armed) (Again at hi v.armed) (Got b))).batch (IsAbove v.seen) × IfSome (says (cond (passes at hi v.armed) (Again at hi v.armed) (Got b))).pair (InOrder v.seen)
        = by_bool (λ t. ((let u : View = cond t (record (refused at v.armed v) { added = (adds v).added }) (granted at v) in u.seen) ≡ learned (cond t (Again at hi v.armed) (Got b)) v.seen)
        × IfSome (says (cond t (Again at hi v.armed) (Got b))).batch (IsAbove v.seen) × IfSome (says (cond t (Again at hi v.armed) (Got b))).pair (InOrder v.seen)) (passes at hi v.armed)
        (λ _. (refl, tt, tt))
        (λ fits.
        let above = (grants w s c has due b (ap (λ (t : Bool). cond t (Again at hi v.armed) (Got b)) fits)).above in
        (sym (greater_above v.seen b (draws v due).1 (omega arith) above), above, inl (record { term = above.term; last = omega (arith, above.last, (draws v due).1) }))) in record {
          sound = draw_sound w s c has.pos has.low due;
          setup = refl;
          own = λ _. own_sees w s c has AddArmed ∙ facts.0;
          others = λ e _ apart. else_sees w s c has AddArmed e apart;
          above = λ seen is. subst (λ (x : Seen). IfSome (says (draw_of w c).reply).batch (IsAbove x)) (is has) facts.1;
          order = λ _. facts.2;
        }

    -- notes
    told_learns : (to : ℕ) → HasClient w.setup to → (let r : Stepped = record { reply = Told; after = note_left w c to } in Learns w c r)
    told_learns to other = learns_calm w c (record { reply = Told; after = note_left w c to }) (record {
      sound = told_sound w s c has.pos has.low to other.low;
      setup = refl;
      seens = λ e client. ap (λ (v : View). v.seen) (old_view w s c has.pos has.low to other.low (place_of_client w e) (inside w s e client.pos client.low));
    }) refl refl

    heard_learns : (due : due_at w c ≡ Rest) (post : List ℕ) → post_at w c ≡ post → Learns w c (heard_from w c post)
    heard_learns due [] waits = learns_calm w c (heard_from w c []) (still w s) refl refl
    heard_learns due (note ∷ rest) waits =
        let one = is_note w s c has.pos has.low note rest waits due in
        let mine : FitsB w.words s.recorded.history (view_at w (place_of_client w c)) = s.recorded.b.each (place_of_client w c) (view_at w (place_of_client w c)) (at_get w.views (place_of_client w c) spent_view (inside w s c has.pos has.low)) (own w s c has.pos has.low).live in
        let theirs : FitsB w.words s.recorded.history (view_at w note) = s.recorded.b.each note (view_at w note) (at_get w.views note spent_view one.inside) (ap (λ (v : View). v.spent) one.copy) in record {
          sound = heard_sound w s c has.pos has.low note rest waits due;
          setup = refl;
          own = λ _. ap (λ (v : View). v.seen) (own_view w s c has.pos has.low note rest waits due);
          others = λ e client apart. ap (λ (v : View). v.seen) (else_view w s c has.pos has.low note rest waits due (place_of_client w e)
              (λ same. omega (arith, one.behind, same, client.low)) (λ same. apart (omega (arith, same))));
          above = λ seen is. tt;
          order = λ _. seen_in_order (seen_at w c) (view_at w note).seen mine.seen theirs.seen;
        }

  learns_else : (c : ℕ) (r : Stepped) → (due_at w c ≡ Rest → Learns w c r) → Learns w c (cond (same_due (due_at w c) Rest) r (out_of_turn w (due_at w c)))
  learns_else c r made = by_bool (λ b. Learns w c (cond b r (out_of_turn w (due_at w c)))) (same_due (due_at w c) Rest) (λ rest. made (is_due (due_at w c) Rest rest)) (λ _. out_learns c (due_at w c))

  tell_learns : (c to : ℕ) → HasClient w.setup c → HasClient w.setup to → Learns w c (tell_of w c to)
  tell_learns c to has other = learns_else c (record { reply = Told; after = note_left w c to }) (λ _. told_learns c has to other)

  hear_learns : (c : ℕ) → HasClient w.setup c → Learns w c (hear_of w c)
  hear_learns c has = learns_else c (heard_from w c (post_at w c)) (λ rest. heard_learns c has rest (post_at w c) refl)

  -- single steps
  quiet_learns : (c : ℕ) (o : Option (Whole → Stepped)) → OnMove (λ (r : Stepped). Calm w r.after) w o → OnMove (Quiet w) w o → OnMove (Learns w c) w o
  quiet_learns c None calm quiet = tt
  quiet_learns c (Some move) calm quiet = learns_calm w c (move w) calm quiet.dull.batch quiet.dull.pair

  move_learns : (actor : Actor) (kind : Kind) → HasActor w.setup actor → IsAsked w.setup kind → due_of w actor ≡ due_for kind → OnMove (Learns w (client_of actor)) w (move_of actor kind)
  move_learns (Client c) ToDraw has asked due = draw_learns c has due
  move_learns actor kind has asked due = quiet_learns (client_of actor) (move_of actor kind) (calm_move w s actor kind tt has asked due) (quiet_move w actor kind tt)

  step_learns : (actor : Actor) (kind : Kind) → HasActor w.setup actor → IsAsked w.setup kind → Learns w (client_of actor) (step_of w actor kind)
  step_learns actor kind has asked = step_by (Learns w (client_of actor)) w actor kind (out_learns (client_of actor) (due_of w actor)) (move_learns actor kind has asked)

  -- whole calls
  module _ (d : ℕ) (has : HasDriver w.setup d) where
    lead_learns : (now : ℕ) → Learns w 0 (lead_of w d now)
    lead_learns now = call_by (λ (r : Stepped). Learns w 0 (won d r)) w (Driver d) (Read now) (ToCampaign ∷ ToSave ∷ ToRaise ∷ ToPublish ∷ []) refl (out_learns 0 (turn_at w d).due)
        (λ rest.
        let calm = row_calm w (Driver d) has (ToCampaign ∷ ToSave ∷ ToRaise ∷ ToPublish ∷ []) ((tt, tt), ((tt, tt), ((tt, tt), ((tt, tt), tt)))) (read_of w d now) (calm_move w s (Driver d) (Read now) tt has tt rest) in
        let q = lead_quiet w d now in
        learns_calm w 0 (won d (row (Driver d) (ToCampaign ∷ ToSave ∷ ToRaise ∷ ToPublish ∷ []) (read_of w d now))) calm q.dull.batch q.dull.pair)

    tick_learns : (now : ℕ) → Learns w 0 (tick_of w d now)
    tick_learns now = call_by (Learns w 0) w (Driver d) (Probe now) (ToSave ∷ ToRaise ∷ ToPublish ∷ []) refl (out_learns 0 (turn_at w d).due)
        (λ rest.
        let calm = row_calm w (Driver d) has (ToSave ∷ ToRaise ∷ ToPublish ∷ []) ((tt, tt), ((tt, tt), ((tt, tt), tt))) (probe_of w d now) (calm_move w s (Driver d) (Probe now) tt has tt rest) in
        let q = tick_quiet w d now in
        learns_calm w 0 (row (Driver d) (ToSave ∷ ToRaise ∷ ToPublish ∷ []) (probe_of w d now)) calm q.dull.batch q.dull.pair)

    resign_learns : Learns w 0 (resigned_of w d)
    resign_learns = call_by (Learns w 0) w (Driver d) Resign [] refl (out_learns 0 (turn_at w d).due) (λ rest. move_learns (Driver d) Resign has tt rest)

take_learns : (w : Whole) → IsSound w → (c d n : ℕ) → HasClient w.setup c → HasDriver w.setup d → IsCount n → Learns w c (take_of w c d n)
take_learns w s c d n has driver count = call_by (Learns w c) w (Client c) (Look d) (ToArm n ∷ ToDraw ∷ []) refl (out_learns w s c (due_at w c))
    (λ rest.
    let r : Stepped = row (Client c) (ToArm n ∷ []) (look_of w c d) in
    let calm = row_calm w (Client c) has (ToArm n ∷ []) ((tt, count), tt) (look_of w c d) (calm_move w s (Client c) (Look d) tt has driver rest) in
    let q = arm_quiet w c d n in
    goes_by (Learns w c) (Client c) r ToDraw
    (λ due. learns_then w r.after c (draw_of r.after c) calm has (draw_learns r.after calm.sound c (subst (λ (k : Setup). HasClient k c) (sym calm.setup) has) due))
    (learns_calm w c r calm q.dull.batch q.dull.pair))

tells : (w : Whole) (d c : ℕ) (r : Stepped) → Learns w c r → Shows w d r → Fair w r → Tells w d c r
tells w d c r l windows fair = record {
  sound = l.sound;
  setup = l.setup;
  windows = windows;
  batches = fair.added;
  fair = λ seen is. record { above = l.above seen is; passed = fair.passed };
  own = l.own;
  risen = λ has. subst (λ (x : Seen). IsUpTo (seen_at w c) x) (sym (l.own has)) (rises (says r.reply).pair (seen_at w c) (l.order has)).0;
  shown = λ has. subst (λ (x : Seen). All (λ (y : Seen). IsUpTo y x) (option_to_list (says r.reply).pair)) (sym (l.own has)) (rises (says r.reply).pair (seen_at w c) (l.order has)).1;
  others = l.others;
}

pub each_call_tells : (w : Whole) → IsSound w → EachCallTells w
each_call_tells w s = record {
  step = λ actor kind has asked. tells w (driver_of actor) (client_of actor) (step_of w actor kind) (step_learns w s actor kind has asked) (step_shows w s actor kind has) (step_fair w actor kind);
  lead = λ d now has. tells w d 0 (lead_of w d now) (lead_learns w s d has now) (lead_shows w s d has now) (lead_fair w d now);
  tick = λ d now has. tells w d 0 (tick_of w d now) (tick_learns w s d has now) (tick_shows w s d has now) (tick_fair w d now);
  resign = λ d has. tells w d 0 (resigned_of w d) (resign_learns w s d has) (resign_shows w s d has) (resign_fair w d);
  take = λ c d n has driver count. tells w 0 c (take_of w c d n) (take_learns w s c d n has driver count) (take_shows w 0 c d n) (take_fair w c d n);
  tell = λ from to has other. tells w 0 from (tell_of w from to) (tell_learns w s from to has other) (tell_shows w 0 from to) (tell_fair w from to);
  hear = λ c has. tells w 0 c (hear_of w c) (hear_learns w s c has) (hear_shows w 0 c) (hear_fair w c);
}

pub takes_grant : (w : Whole) → IsSound w → TakesGrant w
takes_grant w s c d n has driver count b got = subst (λ (x : Reply). IfSome (says x).batch (IsAbove (seen_at w c))) got (((each_call_tells w s).take c d n has driver count).fair (seen_at w c) (λ _. refl)).above

pub is_new : (k : Setup) → IsSetup k → IsNew (opened k)
is_new k ok = record { sound = opened_sound k ok; windows = refl; unseen = λ c has. ap (λ (v : View). v.seen) (client_at k ok c has.pos has.low) }

-- lists of calls
call_learns : (w : Whole) → IsSound w → (call : Call) → IsCall w.setup call → IsSound (after_call w call) × ((after_call w call).setup ≡ w.setup)
call_learns w s (Step actor kind) asked = let l = step_learns w s actor kind asked.0 asked.1 in (l.sound, l.setup)
call_learns w s (Tell from to) asked = let l = tell_learns w s from to asked.0 asked.1 in (l.sound, l.setup)
call_learns w s (Hear c) asked = let l = hear_learns w s c asked in (l.sound, l.setup)

all_keep : (calls : List Call) (w : Whole) → IsSound w → AreCalls w.setup calls → IsSound (played w calls)
all_keep [] w s asked = s
all_keep (call ∷ calls) w s asked =
    let kept = call_learns w s call asked.0 in
    all_keep calls (after_call w call) kept.0 (subst (λ (k : Setup). AreCalls k calls) (sym kept.1) asked.1)

pub each_list_keeps : (k : Setup) → IsSetup k → (calls : List Call) → AreCalls k calls → IsSound (played (opened k) calls)
each_list_keeps k ok calls asked = all_keep calls (opened k) (opened_sound k ok) asked
