-- The kinds of step. Each touches one word, and the view of the actor that makes it: what it asks of the view, which word it touches, what it makes of the word that it finds, and what it makes of the view.
use Rattle.std.specs.Prelude.{◌≡◌, ◌≢◌, ℕ, ◌+◌, ◌-◌, ◌*◌, ◌/◌, ◌%◌, ◌^◌, ◌<◌, ◌≤◌, ◌⊎◌, max, Bool, true, false, List, [], ◌∷◌, ◌++◌, Option, None, Some, cond, ◌==◌, nat_lt}
use Rattle.pd_types.specs.declared.oracle.CellWord.{CellWord}
use Rattle.pd_types.specs.declared.oracle.Window.{Window}
use Rattle.pd_types.specs.declared.oracle.Batch.{Batch}
use Rattle.pd_types.specs.declared.stamp.TheConstants.{LOGICAL}
use Rattle.pd_types.specs.declared.oracle.TheConstants.{CLOCK_END, LAST_TERM}
use Rattle.tso_model.specs.declared.entries.Claim.{Claim}
use Rattle.tso_model.specs.declared.entries.Limit.{Limit}
use Rattle.tso_model.specs.declared.plan.TheConstants.{AHEAD_MS}
use Rattle.tso_model.specs.declared.view.View.{View}
use Rattle.tso_model.specs.declared.view.Setup.{Setup}
use Rattle.tso_model.specs.declared.step.WordStep.{WordStep}
use Rattle.tso_model.specs.declared.step.WordStep.TheVariants.{LoadCell, ClaimTerm, SaveEnd, RaiseCursor, StoreLimit, ClearLimit, LoadLimit, ArmCount, AddArmed}
use Rattle.tso_model.specs.Words.{packed, cell_of, cell_word, limit_at, cursor_at, window, claim, IsOpen, passes}
use Rattle.tso_model.specs.History.{greatest, added_by}

-- what a view holds of its latest claim, or a window of no length
abbrev pub held_or : Option Claim → Window
held_or None = window 0 0 0 0
held_or (Some c) = c.window

-- the latest window of a view
abbrev pub held : View → Window
held v = held_or v.latest

-- the limit, or one of no driver
abbrev pub hand_or : Option Limit → Limit
hand_or None = record { driver = 0; term = 0; hi = 0 }
hand_or (Some l) = l

-- the limit in hand
abbrev pub hand : View → Limit
hand v = hand_or v.hand

-- the view has a window of its own
abbrev pub HasClaim : View → Type 0
HasClaim v = (c : Claim) × (v.latest ≡ Some c)

-- the view has a limit in hand
abbrev pub HasHand : View → Type 0
HasHand v = (l : Limit) × (v.hand ≡ Some l)

-- no limit in hand and nothing armed
abbrev pub AtRest : View → Type 0
AtRest v = (v.hand ≡ None) × (v.armed ≡ 0)

-- what a step asks of the view that makes it
abbrev pub May : Setup → WordStep → View → Type 0
May k LoadCell v = 0 < v.driver
May k ClaimTerm v = (0 < v.driver) × (v.cell.term < LAST_TERM)
May k (SaveEnd hi) v = (0 < v.driver) × (v.holds ≡ true) × HasClaim v × ((held v).hi < hi) × (hi < CLOCK_END)
May k (RaiseCursor at) v = (0 < v.driver) × ((at ≡ 0) ⊎ ((v.holds ≡ true) × HasClaim v × (at ≤ (held v).hi * LOGICAL)))
May k StoreLimit v = (0 < v.driver) × (v.holds ≡ true) × (v.marked ≡ true) × HasClaim v × IsOpen (held v)
May k ClearLimit v = 0 < v.driver
May k (LoadLimit d) v = (0 < v.client) × AtRest v × (0 < d) × (d ≤ k.drivers)
May k (ArmCount n) v = (0 < v.client) × HasHand v × (v.armed ≡ 0) × (0 < n) × (n < LOGICAL) × (n ≤ v.quota)
May k AddArmed v = (0 < v.client) × HasHand v × (0 < v.armed)

-- the word that the step touches
abbrev pub word_of : WordStep → View → ℕ
word_of LoadCell v = 0
word_of ClaimTerm v = 0
word_of (SaveEnd hi) v = 0
word_of (RaiseCursor at) v = cursor_at v.driver
word_of StoreLimit v = limit_at v.driver
word_of ClearLimit v = limit_at v.driver
word_of (LoadLimit d) v = limit_at d
word_of (ArmCount n) v = cursor_at (hand v).driver
word_of AddArmed v = cursor_at (hand v).driver

-- what the word n becomes
abbrev pub word_after : WordStep → View → ℕ → ℕ
word_after LoadCell v n = n
word_after ClaimTerm v n = cond (n == cell_word v.cell) (packed v.cell.saved (v.cell.term + 1)) n
word_after (SaveEnd hi) v n = cond (n == packed (held v).hi (held v).term) (packed hi (held v).term) n
word_after (RaiseCursor at) v n = max n at
word_after StoreLimit v n = packed (held v).hi (held v).term
word_after ClearLimit v n = 0
word_after (LoadLimit d) v n = n
word_after (ArmCount k) v n = n
word_after AddArmed v n = (n + v.armed) % 2 ^ 64

-- The steps of a driver.

-- the view that knows this cell
abbrev pub knows : CellWord → View → View
knows c v = record v { cell = c }

-- the window of a new term: its length is 0, at the known cell's saved time
abbrev pub new_claim : View → Claim
new_claim v = claim (window (v.cell.term + 1) v.driver v.cell.saved v.cell.saved) v.cell.saved

-- the view that claimed the next term
abbrev pub claimed : View → View
claimed v = record v { cell = record { saved = v.cell.saved; term = v.cell.term + 1 }; holds = true; marked = false; older = v.older ++ Rattle.std.specs.Prelude.option_to_list v.latest; latest = Some (new_claim v) }

-- the first save of a term sets lo too: where its end was reckoned from, or the saved time of the claim where that is later
abbrev pub saved_window : ℕ → Window → Window
saved_window hi w = record w { lo = cond (w.lo == w.hi) (max (hi - AHEAD_MS) w.hi) w.lo; hi = hi }

-- the claim with its window made longer
abbrev pub saved_claim : ℕ → Claim → Claim
saved_claim hi c = record c { window = saved_window hi c.window }

-- the view whose save of `hi` succeeded
abbrev pub saves : ℕ → View → Option Claim → View
saves hi v None = v
saves hi v (Some c) = record v { cell = record { saved = hi; term = c.window.term }; marked = cond (c.window.lo == c.window.hi) false v.marked; latest = Some (saved_claim hi c) }

-- the held window is open, and `at` is its start or more
abbrev pub marks : ℕ → View → Bool
marks at v = cond v.holds (cond (nat_lt (held v).lo (held v).hi) (cond (nat_lt at ((held v).lo * LOGICAL)) v.marked true) v.marked) v.marked

-- the view that raised its cursor to `at` and found it at `found`
abbrev pub raised : ℕ → ℕ → View → View
raised at found v = record v {
  founds = v.founds ++ record { driver = v.driver; cursor = found; start = greatest v.driver v.starts } ∷ [];
  starts = cond (at == 0) v.starts (v.starts ++ record { driver = v.driver; at = at } ∷ []);
  marked = marks at v;
}

-- the view that stored the word as its limit
abbrev pub publishes : ℕ → View → View
publishes word v = record v { published = v.published ++ record { driver = v.driver; word = word } ∷ [] }

-- The steps of a client.

-- the view with no limit in hand and nothing armed
abbrev pub resting : View → View
resting v = record v { hand = None; armed = 0 }

-- a limit word that is in hand afterwards: it is not 0, and not of a term below the seen one
abbrev pub fresh : ℕ → View → Bool
fresh word v = cond (word == 0) false (cond (nat_lt (word % LOGICAL) v.seen.term) false true)

-- the view that loaded the limit word of the driver d
abbrev pub looked : ℕ → ℕ → View → View
looked d word v = record v {
  hand = cond (fresh word v) (Some (record { driver = d; term = word % LOGICAL; hi = word / LOGICAL })) None;
  looks = v.looks ++ record { client = v.client; driver = d; word = word; seen = v.seen } ∷ [];
}

-- the view whose draw of n is refused at the cursor `at`
abbrev pub refused : ℕ → ℕ → View → View
refused at n v = record (resting v) {
  refusals = v.refusals ++ record { client = v.client; driver = (hand v).driver; at = at; hi = (hand v).hi; count = n; sum = added_by v.client (hand v).driver v.added } ∷ [];
}

-- the batch of the armed count behind the cursor `at`
abbrev pub batch_of : ℕ → View → Batch
batch_of at v = record { term = (hand v).term; driver = (hand v).driver; last = at + v.armed; count = v.armed }

-- the view with its armed count among what it added
abbrev pub adds : View → View
adds v = record v { added = v.added ++ record { client = v.client; driver = (hand v).driver; count = v.armed } ∷ [] }

-- the view that drew its batch behind the cursor `at`
abbrev pub granted : ℕ → View → View
granted at v = record (resting (adds v)) { grants = v.grants ++ record { client = v.client; batch = batch_of at v } ∷ []; seen = record { term = (hand v).term; last = at + v.armed } }

-- the view after the step, by the number found
abbrev pub view_after : WordStep → ℕ → View → View
view_after LoadCell found v = knows (cell_of found) v
view_after ClaimTerm found v = cond (found == cell_word v.cell) (claimed v) (knows (cell_of found) v)
view_after (SaveEnd hi) found v = cond (found == packed (held v).hi (held v).term) (saves hi v v.latest) (knows (cell_of found) v)
view_after (RaiseCursor at) found v = raised at found v
view_after StoreLimit found v = publishes (packed (held v).hi (held v).term) v
view_after ClearLimit found v = record (publishes 0 v) { holds = false; marked = false }
view_after (LoadLimit d) found v = looked d found v
view_after (ArmCount n) found v = cond (passes found (hand v).hi n) (refused found n v) (record v { armed = n })
view_after AddArmed found v = cond (passes found (hand v).hi v.armed) (record (refused found v.armed v) { added = (adds v).added }) (granted found v)
