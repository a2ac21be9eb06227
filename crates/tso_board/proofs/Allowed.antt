-- From a step of the model to what the table asks of a step.
use Rattle.std.proofs.Common.{false, ◌∷◌, ◌≡◌, ℕ, ◌+◌, ◌/◌, ◌%◌, ◌^◌, ◌<◌, ◌≤◌, List, refl, sym, subst, eqb, arith, max}
use Rattle.std.specs.Prelude.{slice_index}
use mathlib.Core.Option.{some, none}
use lib.ListN.{get_elem?}
use prog.Atomic.{either}
use Rattle.atomic_table.specs.Table.{State, Allows, Splits, Joins, keeps, step}
use Rattle.tso_model.specs.declared.view.View.{View}
use Rattle.tso_model.specs.declared.view.Setup.{Setup}
use Rattle.tso_model.specs.declared.step.WordStep.{WordStep}
use Rattle.tso_model.specs.declared.step.WordStep.TheVariants.{LoadCell, ClaimTerm, SaveEnd, RaiseCursor, StoreLimit, ClearLimit, LoadLimit, ArmCount, AddArmed}
use Rattle.tso_model.specs.Words.{packed, cell_word, cursor_at, limit_at, opening_claim}
use Rattle.tso_model.specs.Steps.{May, word_of, word_after, view_after, held, hand, HasHand, AtRest}
use mathlib.Core.Logic.{dite}
use native.Mathlib.Decide.{ℕ_discrete}
use Rattle.tso_model.specs.History.{History}
use Rattle.tso_model.specs.Moves.{new_note, joined, spent_view, gave_driver, new_driver, gave_client, new_client}
use Rattle.tso_model.specs.Sound.{Sound, PartA, PartB}
use Rattle.tso_model.proofs.Basics.{chain_le}
use Rattle.tso_model.proofs.DrawB.{in_hand, hand_driver}
use Rattle.tso_model.proofs.Whole as whole
use Rattle.tso_model.proofs.Growth.{live_driver, live_client}
use Rattle.tso_model.proofs.Learned.{cell_rises, unseen}
use Rattle.tso_board.proofs.Founds.{reads, claims_term, misses_term, saves_end, misses_end, draws as draws_there, misses_draw}
use Rattle.tso_board.specs.Plays.{Sat, read, campaigned, saved, drew, raised_to, published, gave_up, limited, armed_by}

abbrev Rule : Setup → State (Unit {0}) View → Type 0
Rule k s = Sound k s.words s.views

-- a step of this kind, and what it tells
pub allowed : (k : Setup) (slots id : ℕ) (kind : WordStep) (me : Sat) (then : ℕ → Sat → Type 0) → May k kind me.0
    → ((words : List ℕ) (views : List View) → Sound k words views → get_elem? views id ≡ some me.0 → then (slice_index words (word_of kind me.0)) (view_after kind (slice_index words (word_of kind me.0)) me.0, me.1))
    → Allows (Rule k) slots id me (word_of kind me.0) (word_after kind me.0) then
allowed k slots id kind me then may tells s holds homes here small =
    (view_after kind (slice_index s.words (word_of kind me.0)) me.0, keeps, tt, whole.keeps k id kind me.0 may s.words s.views holds here, tells s.words s.views holds here)

found_small : (k : Setup) (id : ℕ) (v : View) (words : List ℕ) (views : List View) → 0 < v.driver → Sound k words views → get_elem? views id ≡ some v → slice_index words 0 < 2 ^ 63
found_small k id v words views pos s at = (cell_rises k words views s.history id v s.a at (live_driver k words views s.history id v s.a at pos)).0

pub loads : (k : Setup) (slots id : ℕ) (me : Sat) → 0 < me.0.driver → Allows (Rule k) slots id me 0 (λ n. n) (read (step slots 0 0 0 none) me)
loads k slots id me pos = allowed k slots id LoadCell me (read (step slots 0 0 0 none) me) pos (λ words views s at. (refl, found_small k id me.0 words views pos s at, reads k words views s.history id me.0 s.a at pos))

pub campaigns : (k : Setup) (slots id old new : ℕ) (me : Sat) → May k ClaimTerm me.0 → old ≡ cell_word me.0.cell → new ≡ packed me.0.cell.saved (me.0.cell.term + 1)
    → Allows (Rule k) slots id me 0 (λ n. either (eqb n old) new n) (campaigned (step slots 0 old new none) me)
campaigns k slots id old new me may is is_new = rw (is, is_new) (allowed k slots id ClaimTerm me (campaigned (step slots 0 (cell_word me.0.cell) (packed me.0.cell.saved (me.0.cell.term + 1)) none) me) may
    (λ words views s at. (refl, found_small k id me.0 words views may.0 s at, claims_term k words views s.history id me.0 s.a at may.0, misses_term k words views s.history id me.0 s.a at may.0)))

pub saves : (k : Setup) (slots id old new hi : ℕ) (me : Sat) → May k (SaveEnd hi) me.0 → old ≡ packed (held me.0).hi (held me.0).term → new ≡ packed hi (held me.0).term → hi ≡ new / 262144
    → Allows (Rule k) slots id me 0 (λ n. either (eqb n old) new n) (saved (step slots 0 old new none) me)
saves k slots id old new hi me may is is_new time = rw is (subst (λ w. Allows (Rule k) slots id me 0 (λ n. either (eqb n (packed (held me.0).hi (held me.0).term)) w n) (saved (step slots 0 (packed (held me.0).hi (held me.0).term) new none) me)) (sym is_new)
    (allowed k slots id (SaveEnd hi) me (saved (step slots 0 (packed (held me.0).hi (held me.0).term) new none) me) may
    (λ words views s at. subst (λ h. saved (step slots 0 (packed (held me.0).hi (held me.0).term) new none) me (slice_index words 0) (view_after (SaveEnd h) (slice_index words 0) me.0, me.1)) (sym time)
    (refl, found_small k id me.0 words views may.0 s at, saves_end k words views s.history id me.0 s.a at may.0 may.2.0 may.2.1 (new / 262144), misses_end k words views s.history id me.0 s.a at may.0 may.2.0 may.2.1 (new / 262144)))))

pub draws : (k : Setup) (slots id count word : ℕ) (me : Sat) → May k AddArmed me.0 → word ≡ cursor_at (hand me.0).driver → count ≡ me.0.armed → Allows (Rule k) slots id me word (λ m. (m + count) % 2 ^ 64) (drew (step slots word count 0 none) me)
draws k slots id count word me may is is_count = rw (is, is_count) (allowed k slots id AddArmed me (drew (step slots (cursor_at (hand me.0).driver) me.0.armed 0 none) me) may
    (λ words views s at. (refl, (unseen k words views s.history id me.0 s.a s.b at may.0 may.1).1, draws_there k words views s.history id me.0 s.a s.b at may.0 may.1, misses_draw k words views s.history id me.0 s.a s.b at may.0 may.1)))

pub raises : (k : Setup) (slots id at word : ℕ) (me : Sat) → May k (RaiseCursor at) me.0 → word ≡ cursor_at me.0.driver → Allows (Rule k) slots id me word (λ n. max n at) (raised_to (step slots word at 0 none) me)
raises k slots id at word me may is = rw is (allowed k slots id (RaiseCursor at) me (raised_to (step slots (cursor_at me.0.driver) at 0 none) me) may (λ words views s at'. refl))

pub publishes : (k : Setup) (slots id word new : ℕ) (me : Sat) → May k StoreLimit me.0 → word ≡ limit_at me.0.driver → new ≡ packed (held me.0).hi (held me.0).term
    → Allows (Rule k) slots id me word (λ _. new) (λ _. published (step slots word new 0 none) me new)
publishes k slots id word new me may is is_new = rw (is, is_new) (allowed k slots id StoreLimit me (λ _. published (step slots (limit_at me.0.driver) (packed (held me.0).hi (held me.0).term) 0 none) me (packed (held me.0).hi (held me.0).term)) may (λ words views s at. refl))

pub resigns : (k : Setup) (slots id word : ℕ) (me : Sat) → 0 < me.0.driver → word ≡ limit_at me.0.driver
    → Allows (Rule k) slots id me word (λ _. 0) (λ _. gave_up (step slots word 0 0 none) me 0)
resigns k slots id word me pos is = rw is (allowed k slots id ClearLimit me (λ _. gave_up (step slots (limit_at me.0.driver) 0 0 none) me 0) pos (λ words views s at. refl))

-- a limit word is in range, and so is a cursor
limit_low : (k : Setup) (words : List ℕ) (views : List View) (h : History) (d : ℕ) → PartA k words views h → 0 < d → d ≤ k.drivers → slice_index words (limit_at d) < 2 ^ 63
limit_low k words views h d a pos le = dite (ℕ_discrete (slice_index words (limit_at d)) 0)
    (λ z. omega (arith, z))
    (λ ne. let n = (a.limits d pos le ne).1 in omega (arith, n.ends, (chain_le (opening_claim k.cell) h.newest h.past a.chain n.claim n.stands).2, a.in_time))

cursor_low : (k : Setup) (words : List ℕ) (views : List View) (h : History) (id : ℕ) (v : View) → PartA k words views h → PartB k words views h → get_elem? views id ≡ some v → 0 < v.client → HasHand v → slice_index words (cursor_at (hand v).driver) + 262144 < 2 ^ 64
cursor_low k words views h id v a b at pos has =
    let own = in_hand words h v (b.each id v at (live_client k words views h id v a at pos)) has in
    let d = hand_driver k words views h (hand v).driver (hand v).term (hand v).hi a own.0 in
    omega (arith, b.cursors (hand v).driver d.0 d.1, a.in_time)

pub looks : (k : Setup) (slots id d word : ℕ) (me : Sat) → May k (LoadLimit d) me.0 → word ≡ limit_at d → Allows (Rule k) slots id me word (λ n. n) (limited (step slots word 0 0 none) me)
looks k slots id d word me may is =
    let back : d ≡ (word + 1) / 2 = omega (arith, is, may.2) in
    subst (λ w. (d ≡ (w + 1) / 2) → Allows (Rule k) slots id me w (λ n. n) (limited (step slots w 0 0 none) me)) (sym is)
    (λ same. allowed k slots id (LoadLimit d) me (limited (step slots (limit_at d) 0 0 none) me) may (λ words views s at. ((λ i. (view_after (LoadLimit (same i)) (slice_index words (limit_at d)) me.0, me.1)), limit_low k words views s.history d s.a may.2 may.3))) back

pub arms : (k : Setup) (slots id n word : ℕ) (me : Sat) → May k (ArmCount n) me.0 → word ≡ cursor_at (hand me.0).driver → Allows (Rule k) slots id me word (λ m. m) (armed_by n (step slots word 0 0 none) me)
arms k slots id n word me may is = rw is (allowed k slots id (ArmCount n) me (armed_by n (step slots (cursor_at (hand me.0).driver) 0 0 none) me) may (λ words views s at. (refl, cursor_low k words views s.history id me.0 s.a s.b at may.0 may.1)))

pub notes : (k : Setup) (id : ℕ) (v : View) → v.spent ≡ false → Splits (Rule k) id v v (new_note v)
notes k id v live s holds at = whole.splits_note k s.words s.views id v holds at live

pub meets : (k : Setup) (id : ℕ) (v : View) (other : ℕ) (w : View) → v.spent ≡ false → w.spent ≡ false → AtRest v → Joins (Rule k) id v other w (joined v w) spent_view
meets k id v other w live lives rest s holds at ne there = whole.joins k s.words s.views id other v w holds live lives rest at ne there

pub drivers : (k : Setup) (id : ℕ) (v : View) → v.spent ≡ false → ((d : ℕ) × (ds : List ℕ) × (v.give_drivers ≡ d ∷ ds)) → Splits (Rule k) id v (gave_driver v) (new_driver v)
drivers k id v live has s holds at = whole.splits_driver k s.words s.views id has.0 has.1 v holds at live has.2

pub clients : (k : Setup) (id : ℕ) (v : View) → v.spent ≡ false → ((d : ℕ) × (ds : List ℕ) × (v.give_clients ≡ d ∷ ds)) → (262144 ≤ v.quota) × (v.armed ≡ 0) → Splits (Rule k) id v (gave_client v) (new_client v)
clients k id v live has quota s holds at = whole.splits_client k s.words s.views id has.0 has.1 v holds at live has.2 quota.0 quota.1
