-- A single step answers with the word that it touched, as it stands then.
use Rattle.std.proofs.Common.{◌≡◌, ℕ, ◌+◌, ◌*◌, ◌/◌, ◌%◌, ◌<◌, max, Bool, true, false, cond, List, sym, ap, subst, ◌∙◌, arith}
use Rattle.std.specs.Prelude.{◌==◌, slice_index, slice_set}
use Rattle.std.proofs.lemmas.List.{get_or-set_same, set-get_or}
use Rattle.pd_types.specs.declared.oracle.CellWord.{CellWord}
use Rattle.tso_model.specs.declared.step.WordStep.TheVariants.{RaiseCursor, StoreLimit, ClearLimit}
use Rattle.tso_model.specs.Words.{packed, cell_of, cell_word, limit_at, cursor_at, passes}
use Rattle.tso_model.specs.Plan.{end_of, tick_next}
use Rattle.tso_model.specs.Steps.{word_of, word_after, held, hand}
use Rattle.tso_model.proofs.Basics.{by_bool}
use Rattle.tso_core.specs.declared.turn.Decided.{Decided}
use Rattle.tso_core.specs.declared.turn.Turn.{Turn}
use Rattle.tso_core.specs.declared.reply.Due.{Due}
use Rattle.tso_core.specs.declared.reply.Due.TheVariants.{Campaign, Save, Raise, Publish}
use Rattle.tso_core.specs.declared.reply.Kind.{Kind}
use Rattle.tso_core.specs.declared.reply.Kind.TheVariants.{Read, Campaign as ToCampaign, Save as ToSave, Probe, Raise as ToRaise, Publish as ToPublish, Resign, Look, Arm as ToArm}
use Rattle.pd_types.specs.declared.oracle.Actor.TheVariants.{Driver, Client}
use Rattle.tso_core.specs.declared.reply.Reply.{Reply}
use Rattle.tso_core.specs.declared.reply.Reply.TheVariants.{Beaten, Lost, NotLeading, Resigned, Again, Claimed, Saved, Armed}
use Rattle.tso_core.specs.Due.{due_for, at_rest}
use Rattle.tso_core.specs.Whole.{Whole, place_of_client, view_at, turn_at, found_by, made}
use Rattle.tso_core.specs.Steps.{Stepped, decided, ends, probe_decides, move_of, read_of, campaign_of, save_of, raise_of, publish_of, probe_of, look_of, arm_of}
use Rattle.tso_core.specs.Sound.{IsSound, HasDriver, StandsAt}
use Rattle.tso_laws.specs.WholeCalls.{NamesWord, NamesLimit, StepsName, cell_at, cursor_of, limit_of}
use Rattle.tso_core.proofs.Driven.{driver_held}
use Rattle.tso_core.proofs.Cases.{read_cases, goes_cases, look_cases}
use Rattle.tso_core.proofs.Stepping.{OnMove, step_by}
use Rattle.tso_laws.proofs.Lasts.{its}

-- a campaign by its test
claim_names : (u : Whole) (d : ℕ) (b : Bool) (known : CellWord) (n : ℕ) (won lost : Turn) → slice_index u.words 0 ≡ cond b (packed known.saved (known.term + 1)) n → known.term < 262143
    → NamesWord u d (cond {A = Decided} b (record { reply = Claimed (known.term + 1); turn = won }) (record { reply = Beaten (cell_of n); turn = lost })).reply
claim_names u d true known n won lost is left = omega (arith, is, left)
claim_names u d false known n won lost is left = ap cell_of (sym is)

-- a save by its test
save_by : (u : Whole) (d : ℕ) (b : Bool) (hi term n : ℕ) (won lost : Turn) → slice_index u.words 0 ≡ cond b (packed hi term) n → term < 262144
    → NamesWord u d (cond {A = Decided} b (record { reply = Saved hi; turn = won }) (record { reply = Lost (cell_of n); turn = lost })).reply
save_by u d true hi term n won lost is small = omega (arith, is, small)
save_by u d false hi term n won lost is small = ap cell_of (sym is)

module _ (w : Whole) (s : IsSound w) (d : ℕ) (has : HasDriver w.setup d) where
  stands : (due : Due) → (turn_at w d).due ≡ due → StandsAt due (turn_at w d) (view_at w d)
  stands due is = subst (λ (x : Due). StandsAt x (turn_at w d) (view_at w d)) is (s.drivers d has.pos has.low).stands

  cell_set : (x : ℕ) → slice_index (slice_set w.words 0 x) 0 ≡ x
  cell_set x = get_or-set_same w.words 0 x 0 (omega (arith, s.recorded.a.wide))

  limit_set : (x : ℕ) → slice_index (slice_set w.words (limit_at (view_at w d).driver) x) (limit_at d) ≡ x
  limit_set x = ap (λ (e : ℕ). slice_index (slice_set w.words (limit_at e) x) (limit_at d)) (its w s d has).driver ∙ get_or-set_same w.words (limit_at d) x 0 (omega (arith, s.recorded.a.wide, has.low, has.pos))

  cursor_set : (x : ℕ) → slice_index (slice_set w.words (cursor_at (view_at w d).driver) x) (cursor_at d) ≡ x
  cursor_set x = ap (λ (e : ℕ). slice_index (slice_set w.words (cursor_at e) x) (cursor_at d)) (its w s d has).driver ∙ get_or-set_same w.words (cursor_at d) x 0 (omega (arith, s.recorded.a.wide, has.low))

  read_names : (now : ℕ) → NamesWord (read_of w d now).after d (read_of w d now).reply
  read_names now =
      let u = (read_of w d now).after in
      read_cases (λ (x : Decided). NamesWord u d x.reply) (cell_at w) now (λ _. tt) (λ _ _. tt) (λ _ _. ap cell_of (sym (cell_set (slice_index w.words 0))))

  campaign_names : (turn_at w d).due ≡ Campaign → NamesWord (campaign_of w d).after d (campaign_of w d).reply
  campaign_names due =
      let v = view_at w d in
      let n = slice_index w.words 0 in
      let u = (campaign_of w d).after in
      let may = stands Campaign due in
      claim_names u d (n == cell_word v.cell) v.cell n (record { due = Save; next = (turn_at w d).next; publishes = true }) at_rest (cell_set (cond (n == cell_word v.cell) (packed v.cell.saved (v.cell.term + 1)) n)) may.term

  save_names : NamesWord (save_of w d).after d (save_of w d).reply
  save_names =
      let own = held (view_at w d) in
      let n = slice_index w.words 0 in
      let next = (turn_at w d).next in
      save_by (save_of w d).after d (n == packed own.hi own.term) (end_of next) own.term n (record { due = Raise; next = next; publishes = true }) (record { due = Publish; next = 0; publishes = false })
      (cell_set (cond (n == packed own.hi own.term) (packed (end_of next) own.term) n)) (driver_held w s d has.pos has.low).term

  raise_names : NamesWord (raise_of w d).after d (raise_of w d).reply
  raise_names = sym (cursor_set (max (slice_index w.words (cursor_at (view_at w d).driver)) ((turn_at w d).next * 262144)))

  publish_names : NamesWord (publish_of w d).after d (publish_of w d).reply
  publish_names = by_bool (λ b. (cond b (held (view_at w d)).hi 0) ≡ slice_index (slice_set w.words (word_of (cond b StoreLimit ClearLimit) (view_at w d)) (word_after (cond b StoreLimit ClearLimit) (view_at w d) (found_by w d (cond b StoreLimit ClearLimit)))) (limit_at d) / 262144) (turn_at w d).publishes
      (λ _. omega (arith, limit_set (packed (held (view_at w d)).hi (held (view_at w d)).term), (driver_held w s d has.pos has.low).term))
      (λ _. omega (arith, limit_set 0))

  held_names : (b : Bool) (r : Stepped) → NamesWord r.after d r.reply → (let not : Stepped = record { reply = NotLeading; after = w } in NamesWord (cond b r not).after d (cond b r not).reply)
  held_names true r names = names
  held_names false r names = tt

  probe_names : (now : ℕ) → NamesWord (probe_of w d now).after d (probe_of w d now).reply
  probe_names now =
      let hi = (held (view_at w d)).hi in
      let n = found_by w d (RaiseCursor 0) in
      let probed : Stepped = decided (made w d (RaiseCursor 0)) d (probe_decides hi now n) in
      let zero_less : max n 0 ≡ n = omega arith in
      let same = sym (cursor_set (max n 0) ∙ zero_less) in
      held_names (view_at w d).holds probed (goes_cases (λ (x : Decided). NamesWord probed.after d x.reply) hi n (tick_next n hi now) (λ _. tt) (λ _ _ _ _. tt) (λ _ _ _ _. same) (λ _ _ _. same))

  driver_names : (kind : Kind) → (turn_at w d).due ≡ due_for kind → OnMove (λ (r : Stepped). NamesWord r.after d r.reply) w (move_of (Driver d) kind)
  driver_names (Read now) due = read_names now
  driver_names ToCampaign due = campaign_names due
  driver_names ToSave due = save_names
  driver_names (Probe now) due = probe_names now
  driver_names ToRaise due = raise_names
  driver_names ToPublish due = publish_names
  driver_names Resign due = held_names (view_at w d).holds (decided (made w d ClearLimit) d (ends Resigned)) tt
  driver_names kind due = tt

module _ (w : Whole) (c : ℕ) where
  look_names : (d : ℕ) → NamesLimit (look_of w c d).after d (look_of w c d).reply
  look_names d =
      let u = (look_of w c d).after in
      let word = limit_of w d in
      let same : word ≡ limit_of u d = ap (λ (l : List ℕ). slice_index l (limit_at d)) (sym (set-get_or w.words (limit_at d) 0)) in
      look_cases (λ (x : Reply) _. NamesLimit u d x) word (view_at w (place_of_client w c)) (λ _. tt) (λ _ _. tt) (λ _ _. (ap (λ (n : ℕ). n % 262144) same, ap (λ (n : ℕ). n / 262144) same))

  arm_names : (n : ℕ) → NamesLimit (arm_of w c n).after (hand (view_at w (place_of_client w c))).driver (arm_of w c n).reply
  arm_names n =
      let u = (arm_of w c n).after in
      let d = (hand (view_at w (place_of_client w c))).driver in
      let at = cursor_of w d in
      let hi = (hand (view_at w (place_of_client w c))).hi in
      by_bool (λ b. NamesLimit u d (cond b (Again at hi n) (Armed at))) (passes at hi n) (λ _. tt) (λ _. ap (λ (l : List ℕ). slice_index l (cursor_at d)) (sym (set-get_or w.words (cursor_at d) 0)))

pub steps_name : (w : Whole) → IsSound w → StepsName w
steps_name w s = record {
  driver = λ d kind has. step_by (λ (r : Stepped). NamesWord r.after d r.reply) w (Driver d) kind tt (driver_names w s d has kind);
  look = λ c d has. step_by (λ (r : Stepped). NamesLimit r.after d r.reply) w (Client c) (Look d) tt (λ _. look_names w c d);
  arm = λ c n has. step_by (λ (r : Stepped). NamesLimit r.after (hand (view_at w (place_of_client w c))).driver r.reply) w (Client c) (ToArm n) tt (λ _. arm_names w c n);
}
