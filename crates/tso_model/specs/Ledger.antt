-- The lists of a whole run in the order in which they are read: windows by rising term, batches by term and first.
use Rattle.std.specs.Prelude.{◌≡◌, ℕ, ◌+◌, ◌<◌, ◌≤◌, ◌≢◌, ◌/◌, ◌%◌, slice_index, slice_set, ◌==◌, List, [], ◌∷◌, ◌++◌, map, cond, nat_lt, All, Contains, reverse}
use Rattle.pd_types.specs.declared.oracle.Batch.{Batch}
use Rattle.pd_types.specs.Batch.{first_of}
use Rattle.tso_model.specs.declared.entries.Claim.{Claim}
use Rattle.tso_model.specs.declared.entries.Grant.{Grant}
use Rattle.tso_model.specs.declared.entries.Start.{Start}
use Rattle.tso_model.specs.declared.entries.Found.{Found}
use Rattle.tso_model.specs.declared.entries.Published.{Published}
use Rattle.tso_model.specs.declared.entries.Look.{Look}
use Rattle.tso_model.specs.declared.entries.Refusal.{Refusal}
use Rattle.tso_model.specs.declared.entries.Added.{Added}
use Rattle.tso_model.specs.declared.view.View.{View}
use Rattle.tso_model.specs.declared.view.Setup.{Setup}
use Rattle.tso_model.specs.Lists.{total, times}
use Rattle.tso_model.specs.Words.{Follows, Inside, opening_claim, packed, cell_word, passes}
use Rattle.tso_model.specs.History.{History, Names, claims}
use mathlib.Core.Option.{some}
use lib.ListN.{get_elem?}
use Rattle.pd_types.specs.declared.oracle.Window.{Window}
use Rattle.pd_types.specs.declared.stamp.TheConstants.{LOGICAL}
use Rattle.tso_model.specs.declared.step.WordStep.{WordStep}
use Rattle.tso_model.specs.declared.step.WordStep.TheVariants.{LoadCell, ClaimTerm, SaveEnd, RaiseCursor, StoreLimit, ClearLimit, LoadLimit, ArmCount, AddArmed}
use Rattle.tso_model.specs.Steps.{word_of, word_after, view_after, new_claim, saved_window, held, hand, batch_of}
use Rattle.tso_model.specs.Sound.{PartA, PartB, PartC}

-- each window follows the one before it
abbrev pub Rise : Claim → List Claim → Type 0
Rise x [] = Unit {0}
Rise x (c ∷ cs) = Follows x c × Rise c cs

-- A window list: the opening window first, then each behind the one before it
pub record IsWindowList (first : Claim) (ws : List Claim) : Type 0 where
  pub rest : List Claim
  pub all : ws ≡ first ∷ rest
  pub rises : Rise first rest

-- by term and first, from `low` and the term t on up to `high` and the term u: each last is below the next first
abbrev pub Climb : ℕ → ℕ → List Batch → ℕ → ℕ → Type 0
Climb low t [] high u = (low ≤ high) × (t ≤ u)
Climb low t (b ∷ bs) high u = (low < first_of b) × (t ≤ b.term) × Climb b.last b.term bs high u

-- A draw list over a window list
pub record IsDrawList (ws : List Claim) (bs : List Batch) : Type 0 where
  pub inside : All (λ (b : Batch). (c : Claim) × Contains ws c × Inside c.window b) bs
  pub high : ℕ
  pub term : ℕ
  pub rises : Climb 0 0 bs high term

-- the batches of all windows, where the windows stand with the newest first
abbrev pub drawn_by : (ℕ → List Grant) → List Claim → List Batch
drawn_by d [] = []
drawn_by d (c ∷ cs) = drawn_by d cs ++ reverse (map (λ (g : Grant). g.batch) (d c.window.term))

-- b behind all of its term and of lower terms
abbrev pub place : Batch → List Batch → List Batch
place b [] = b ∷ []
place b (x ∷ xs) = cond (nat_lt b.term x.term) (b ∷ x ∷ xs) (x ∷ place b xs)

-- a view that took in all numbers
pub record HasAll (k : Setup) (v : View) : Type 0 where
  pub drivers : (d : ℕ) → 0 < d → d ≤ k.drivers → 1 ≤ times d (v.driver ∷ v.took_drivers)
  pub clients : (c : ℕ) → 0 < c → c ≤ k.clients → 1 ≤ times c (v.client ∷ v.took_clients)

-- What part A tells of a view that has all numbers, once the table is closed: its windows, and all its entries but the batches, are those of the whole run
pub record GatheredWindows (k : Setup) (words : List ℕ) (h : History) (v : View) : Type 0 where
  pub windows : IsWindowList (opening_claim k.cell) (reverse (h.newest ∷ h.past))
  pub claims : (f : Claim → ℕ) → total f (claims v) + f (opening_claim k.cell) ≡ total f (reverse (h.newest ∷ h.past))
  pub starts : (f : Start → ℕ) → total f v.starts ≡ total f h.starts
  pub founds : (f : Found → ℕ) → total f v.founds ≡ total f h.founds
  pub published : (f : Published → ℕ) → total f v.published ≡ total f h.published
  pub looks : (f : Look → ℕ) → total f v.looks ≡ total f h.looks
  pub refusals : (f : Refusal → ℕ) → total f v.refusals ≡ total f h.refusals
  pub added : (f : Added → ℕ) → total f v.added ≡ total f h.added
  pub cell : slice_index words 0 ≡ packed h.newest.window.hi h.newest.window.term
  pub known : (v.cell.term ≤ h.newest.window.term) × (v.cell.saved ≤ h.newest.window.hi)
  pub named : All (λ (p : Published). p.word ≢ 0 → Names h p.driver (p.word % LOGICAL) (p.word / LOGICAL)) h.published

-- What parts A and B tell then: its batches are those of the whole run, and form a draw list over the windows
pub record GatheredBatches (h : History) (v : View) : Type 0 where
  pub draws : IsDrawList (reverse (h.newest ∷ h.past)) (drawn_by h.drawn (h.newest ∷ h.past))
  pub batches : (f : Batch → ℕ) → total (λ (g : Grant). f g.batch) v.grants ≡ total f (drawn_by h.drawn (h.newest ∷ h.past))

-- What is known of a view that has all numbers, once the table is closed: its lists are those of the whole run, and part C holds without a view
pub record Gathered (k : Setup) (v : View) : Type 0 where
  pub words : List ℕ
  pub history : History
  pub a : GatheredWindows k words history v
  pub b : GatheredBatches history v
  pub c : PartC k words [] history

-- The same part by part: the first from A, the second from A and B, and C from C
pub record GathersEach (k : Setup) (words : List ℕ) (views : List View) (h : History) (v : View) : Type 0 where
  pub a : PartA k words views h → GatheredWindows k words h v
  pub b : PartA k words views h → PartB k words views h → GatheredBatches h v
  pub c : PartC k words views h → PartC k words [] h

-- the rule of a machine that keeps both lists of the run beside the words and views
pub record Recorded (k : Setup) (words : List ℕ) (views : List View) (windows : List Window) (batches : List Batch) : Type 0 where
  pub history : History
  pub a : PartA k words views history
  pub b : PartB k words views history
  pub c : PartC k words views history
  pub windows_are : windows ≡ map (λ (c : Claim). c.window) (reverse (history.newest ∷ history.past))
  pub batches_are : batches ≡ drawn_by history.drawn (history.newest ∷ history.past)

-- the last window of a list, made longer
abbrev pub longer_last : ℕ → List Window → List Window
longer_last hi [] = []
longer_last hi (w ∷ []) = saved_window hi w ∷ []
longer_last hi (w ∷ x ∷ xs) = w ∷ longer_last hi (x ∷ xs)

-- what a step makes of the two lists
abbrev pub windows_after : WordStep → ℕ → View → List Window → List Window
windows_after LoadCell n v ws = ws
windows_after ClaimTerm n v ws = cond (n == cell_word v.cell) (ws ++ (new_claim v).window ∷ []) ws
windows_after (SaveEnd hi) n v ws = cond (n == packed (held v).hi (held v).term) (longer_last hi ws) ws
windows_after (RaiseCursor at) n v ws = ws
windows_after StoreLimit n v ws = ws
windows_after ClearLimit n v ws = ws
windows_after (LoadLimit d) n v ws = ws
windows_after (ArmCount m) n v ws = ws
windows_after AddArmed n v ws = ws

-- what a step makes of the batches of the run
abbrev pub batches_after : WordStep → ℕ → View → List Batch → List Batch
batches_after LoadCell n v bs = bs
batches_after ClaimTerm n v bs = bs
batches_after (SaveEnd hi) n v bs = bs
batches_after (RaiseCursor at) n v bs = bs
batches_after StoreLimit n v bs = bs
batches_after ClearLimit n v bs = bs
batches_after (LoadLimit d) n v bs = bs
batches_after (ArmCount m) n v bs = bs
batches_after AddArmed n v bs = cond (passes n (hand v).hi v.armed) bs (place (batch_of n v) bs)

-- The step keeps the rule, and makes of the two lists what is said
abbrev pub KeepsLists : Setup → ℕ → WordStep → View → Type 0
KeepsLists k id kind v = (words : List ℕ) (views : List View) (ws : List Window) (bs : List Batch) → Recorded k words views ws bs → get_elem? views id ≡ some v
    → Recorded k (slice_set words (word_of kind v) (word_after kind v (slice_index words (word_of kind v)))) (slice_set views id (view_after kind (slice_index words (word_of kind v)) v))
    (windows_after kind (slice_index words (word_of kind v)) v ws) (batches_after kind (slice_index words (word_of kind v)) v bs)

-- each key is below the next
abbrev pub IsRisingBy : {A : Type 0} → (A → ℕ) → List A → Type 0
IsRisingBy key [] = Unit {0}
IsRisingBy key (x ∷ xs) = All (λ y. key x < key y) xs × IsRisingBy key xs
