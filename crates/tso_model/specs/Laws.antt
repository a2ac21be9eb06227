-- The statements of the law functions, each with a name of its own.
use Rattle.std.specs.Prelude.{◌≡◌, ◌≢◌, ◌⊎◌, ℕ, ◌+◌, ◌*◌, ◌/◌, ◌%◌, ◌^◌, ◌<◌, ◌≤◌, true, false, List, [], ◌∷◌, ◌++◌, None, Some, slice_index, slice_set, reverse}
use mathlib.Core.Option.{some}
use lib.ListN.{get_elem?}
use Rattle.pd_types.specs.declared.oracle.Batch.{Batch}
use Rattle.pd_types.specs.declared.oracle.Window.{Window}
use Rattle.pd_types.specs.declared.stamp.TheConstants.{LOGICAL}
use Rattle.pd_types.specs.declared.oracle.TheConstants.{CLOCK_END}
use Rattle.tso_model.specs.declared.entries.Claim.{Claim}
use Rattle.tso_model.specs.declared.entries.Grant.{Grant}
use Rattle.tso_model.specs.declared.view.View.{View}
use Rattle.tso_model.specs.declared.view.Setup.{Setup}
use Rattle.tso_model.specs.Lists.{total}
use Rattle.tso_model.specs.Words.{packed, cell_word, opening_claim, cursor_at}
use Rattle.tso_model.specs.History.{History, claims}
use Rattle.tso_model.specs.Steps.{AtRest, HasClaim, HasHand, held, hand}
use Rattle.tso_model.specs.Plan.{lead_next, tick_next}
use Rattle.tso_model.specs.Moves.{gave_driver, new_driver, gave_client, new_client, new_note, joined, spent_view}
use Rattle.tso_model.specs.Sound.{PartA, PartB, Sound, KeepsEach, IsAbove, IsUnseen}
use Rattle.tso_model.specs.Ledger.{Recorded, IsWindowList, IsDrawList, drawn_by, HasAll, Gathered, GathersEach, IsRisingBy}

-- splitting a driver off keeps the rule, by itself and with the lists of the run
abbrev pub DriverSplitKeeps : Setup → Type 0
DriverSplitKeeps k = (words : List ℕ) (views : List View) (id d : ℕ) (ds : List ℕ) (v : View) → Sound k words views → get_elem? views id ≡ some v → v.spent ≡ false → v.give_drivers ≡ d ∷ ds
    → Sound k words (slice_set views id (gave_driver v) ++ new_driver v ∷ [])

-- each part by itself, over the same history
abbrev pub DriverSplitKeepsParts : Setup → Type 0
DriverSplitKeepsParts k = (words : List ℕ) (views : List View) (h : History) (id d : ℕ) (ds : List ℕ) (v : View) → get_elem? views id ≡ some v → v.spent ≡ false → v.give_drivers ≡ d ∷ ds
    → KeepsEach k words views h words (slice_set views id (gave_driver v) ++ new_driver v ∷ []) h

-- the same with the windows and batches of the run, which stay
abbrev pub DriverSplitKeepsLists : Setup → Type 0
DriverSplitKeepsLists k = (words : List ℕ) (views : List View) (id d : ℕ) (ds : List ℕ) (v : View) (ws : List Window) (bs : List Batch) → Recorded k words views ws bs → get_elem? views id ≡ some v → v.spent ≡ false → v.give_drivers ≡ d ∷ ds
    → Recorded k words (slice_set views id (gave_driver v) ++ new_driver v ∷ []) ws bs

-- splitting a client off keeps the rule, where a client's quota is left and nothing is armed
abbrev pub ClientSplitKeeps : Setup → Type 0
ClientSplitKeeps k = (words : List ℕ) (views : List View) (id d : ℕ) (ds : List ℕ) (v : View) → Sound k words views → get_elem? views id ≡ some v → v.spent ≡ false → v.give_clients ≡ d ∷ ds → LOGICAL ≤ v.quota → v.armed ≡ 0
    → Sound k words (slice_set views id (gave_client v) ++ new_client v ∷ [])

-- each part by itself, over the same history
abbrev pub ClientSplitKeepsParts : Setup → Type 0
ClientSplitKeepsParts k = (words : List ℕ) (views : List View) (h : History) (id d : ℕ) (ds : List ℕ) (v : View) → get_elem? views id ≡ some v → v.spent ≡ false → v.give_clients ≡ d ∷ ds → LOGICAL ≤ v.quota → v.armed ≡ 0
    → KeepsEach k words views h words (slice_set views id (gave_client v) ++ new_client v ∷ []) h

-- the same with the windows and batches of the run, which stay
abbrev pub ClientSplitKeepsLists : Setup → Type 0
ClientSplitKeepsLists k = (words : List ℕ) (views : List View) (id d : ℕ) (ds : List ℕ) (v : View) (ws : List Window) (bs : List Batch) → Recorded k words views ws bs → get_elem? views id ≡ some v → v.spent ≡ false → v.give_clients ≡ d ∷ ds → LOGICAL ≤ v.quota → v.armed ≡ 0
    → Recorded k words (slice_set views id (gave_client v) ++ new_client v ∷ []) ws bs

-- making a note keeps the rule
abbrev pub NoteSplitKeeps : Setup → Type 0
NoteSplitKeeps k = (words : List ℕ) (views : List View) (id : ℕ) (v : View) → Sound k words views → get_elem? views id ≡ some v → v.spent ≡ false
    → Sound k words (slice_set views id v ++ new_note v ∷ [])

-- each part by itself, over the same history
abbrev pub NoteSplitKeepsParts : Setup → Type 0
NoteSplitKeepsParts k = (words : List ℕ) (views : List View) (h : History) (id : ℕ) (v : View) → get_elem? views id ≡ some v → v.spent ≡ false
    → KeepsEach k words views h words (slice_set views id v ++ new_note v ∷ []) h

-- the same with the windows and batches of the run, which stay
abbrev pub NoteSplitKeepsLists : Setup → Type 0
NoteSplitKeepsLists k = (words : List ℕ) (views : List View) (id : ℕ) (v : View) (ws : List Window) (bs : List Batch) → Recorded k words views ws bs → get_elem? views id ≡ some v → v.spent ≡ false
    → Recorded k words (slice_set views id v ++ new_note v ∷ []) ws bs

-- a join into a view at rest keeps the rule
abbrev pub JoinKeeps : Setup → Type 0
JoinKeeps k = (words : List ℕ) (views : List View) (id other : ℕ) (v w : View) → Sound k words views → v.spent ≡ false → w.spent ≡ false → AtRest v → get_elem? views id ≡ some v → other ≢ id
    → get_elem? (slice_set views id (joined v w)) other ≡ some w → Sound k words (slice_set (slice_set views id (joined v w)) other spent_view)

-- each part by itself, over the same history
abbrev pub JoinKeepsParts : Setup → Type 0
JoinKeepsParts k = (words : List ℕ) (views : List View) (h : History) (id other : ℕ) (v w : View) → v.spent ≡ false → w.spent ≡ false → AtRest v → get_elem? views id ≡ some v → other ≢ id
    → get_elem? (slice_set views id (joined v w)) other ≡ some w → KeepsEach k words views h words (slice_set (slice_set views id (joined v w)) other spent_view) h

-- the same with the windows and batches of the run, which stay
abbrev pub JoinKeepsLists : Setup → Type 0
JoinKeepsLists k = (words : List ℕ) (views : List View) (id other : ℕ) (v w : View) (ws : List Window) (bs : List Batch) → Recorded k words views ws bs → v.spent ≡ false → w.spent ≡ false → AtRest v → get_elem? views id ≡ some v → other ≢ id
    → get_elem? (slice_set views id (joined v w)) other ≡ some w → Recorded k words (slice_set (slice_set views id (joined v w)) other spent_view) ws bs

-- the cell word is a cell in range, and at least the cell that any view knows, in the term and in the saved time
abbrev pub CellOnlyRises : Setup → Type 0
CellOnlyRises k = (words : List ℕ) (views : List View) (h : History) (id : ℕ) (v : View) → PartA k words views h → get_elem? views id ≡ some v → v.spent ≡ false
    → (slice_index words 0 < 2 ^ 63) × (slice_index words 0 / LOGICAL < CLOCK_END) × (v.cell.term ≤ slice_index words 0 % LOGICAL) × (v.cell.saved ≤ slice_index words 0 / LOGICAL)

-- a campaign that finds another cell finds a term above all of the driver's own
abbrev pub BeatenByAnother : Setup → Type 0
BeatenByAnother k = (words : List ℕ) (views : List View) (h : History) (id : ℕ) (v : View) → PartA k words views h → get_elem? views id ≡ some v → 0 < v.driver
    → slice_index words 0 ≢ cell_word v.cell → IsAbove k v (slice_index words 0 % LOGICAL)

-- a save that finds another cell finds a term above all of the driver's own
abbrev pub LostToAnother : Setup → Type 0
LostToAnother k = (words : List ℕ) (views : List View) (h : History) (id : ℕ) (v : View) (c : Claim) → PartA k words views h → get_elem? views id ≡ some v → 0 < v.driver → v.latest ≡ Some c
    → slice_index words 0 ≢ packed c.window.hi c.window.term → IsAbove k v (slice_index words 0 % LOGICAL)

-- a batch behind the cursor of the limit in hand is above all that the client had seen, by term and by number, and the cursor's word doesn't wrap
abbrev pub DrawsUnseen : Setup → Type 0
DrawsUnseen k = (words : List ℕ) (views : List View) (h : History) (id : ℕ) (v : View) → PartA k words views h → PartB k words views h → get_elem? views id ≡ some v → 0 < v.client → HasHand v
    → IsUnseen v.seen (hand v).term (slice_index words (cursor_at (hand v).driver)) × (slice_index words (cursor_at (hand v).driver) + v.armed < 2 ^ 64)

-- a draw leaves the cursor at most 64 milliseconds past the end that is saved at that moment
abbrev pub DrawsInBound : Setup → Type 0
DrawsInBound k = (words : List ℕ) (views : List View) (h : History) (id : ℕ) (v : View) → PartA k words views h → PartB k words views h → get_elem? views id ≡ some v → 0 < v.client → HasHand v
    → slice_index words (cursor_at (hand v).driver) + v.armed ≤ (slice_index words 0 / LOGICAL + 64) * LOGICAL

-- the batches of a sound state form the draw list of its windows
abbrev pub DrawnInWindows : Setup → Type 0
DrawnInWindows k = (words : List ℕ) (views : List View) (h : History) → PartA k words views h → PartB k words views h → IsDrawList (reverse (h.newest ∷ h.past)) (drawn_by h.drawn (h.newest ∷ h.past))

-- a view that has all numbers has the entries of the whole run, each part's told by the parts up to it
abbrev pub GathersParts : Setup → Type 0
GathersParts k = (words : List ℕ) (views : List View) (h : History) (id : ℕ) (v : View) → get_elem? views id ≡ some v → HasAll k v → GathersEach k words views h v

-- lists that rise by a key are equal where they have equal sums
abbrev pub RisingAreEqual : {A : Type 0} → (A → ℕ) → Type 0
RisingAreEqual {A} key = (xs ys : List A) → IsRisingBy key xs → IsRisingBy key ys → ((f : A → ℕ) → total f xs ≡ total f ys) → xs ≡ ys

-- the lists of a view that has all numbers, sorted, are the windows and batches of the whole run
abbrev pub SortedAreWhole : Setup → Type 0
SortedAreWhole k = (v : View) (ws : List Claim) (bs : List Batch) → Gathered k v → IsRisingBy (λ (c : Claim). c.window.term) ws → ((f : Claim → ℕ) → total f ws ≡ total f (claims v) + f (opening_claim k.cell))
    → IsRisingBy (λ (b : Batch). b.last) bs → ((f : Batch → ℕ) → total f bs ≡ total (λ (g : Grant). f g.batch) v.grants) → IsWindowList (opening_claim k.cell) ws × IsDrawList ws bs

-- Where a lead begins: at the moment, or one millisecond past the saved time where that is later
pub record LeadBegins (saved now : ℕ) : Type 0 where
  pub reached : now ≤ lead_next saved now
  pub above : saved < lead_next saved now
  pub first : (lead_next saved now ≡ now) ⊎ (lead_next saved now ≡ saved + 1)

-- Where a tick goes: to the moment where that is more than a millisecond ahead of the cursor; else one millisecond on where over half of the logical part is used, or the physical part is at the end or past it; else nowhere
pub record TickGoes (cursor hi now : ℕ) : Type 0 where
  pub moment : cursor / 262144 + 1 < now → tick_next cursor hi now ≡ Some now
  pub used : now ≤ cursor / 262144 + 1 → 131072 < cursor % 262144 → tick_next cursor hi now ≡ Some (cursor / 262144 + 1)
  pub ended : now ≤ cursor / 262144 + 1 → hi ≤ cursor / 262144 → tick_next cursor hi now ≡ Some (cursor / 262144 + 1)
  pub idle : now ≤ cursor / 262144 + 1 → cursor % 262144 ≤ 131072 → cursor / 262144 < hi → tick_next cursor hi now ≡ None

-- a save asks for a held term, and for an end above the held one and below 2^45 milliseconds
abbrev pub MaySaveBelow : ℕ → View → Type 0
MaySaveBelow hi v = (0 < v.driver) × (v.holds ≡ true) × HasClaim v × ((held v).hi < hi) × (hi < 35184372088832)

-- an arm asks for a limit in hand, nothing armed, and 1 to 262,143 timestamps, within the quota
abbrev pub MayArmUpTo : ℕ → View → Type 0
MayArmUpTo n v = (0 < v.client) × HasHand v × (v.armed ≡ 0) × (0 < n) × (n ≤ 262143) × (n ≤ v.quota)

-- 1 to 7 drivers, 1 to 64 clients, a saved time below 2^45 milliseconds, a term up to 262,143
abbrev pub IsSetupOf : Setup → Type 0
IsSetupOf k = ((0 < k.drivers) × (k.drivers ≤ 7)) × ((0 < k.clients) × (k.clients ≤ 64)) × (k.cell.saved < 35184372088832) × (k.cell.term ≤ 262143)

-- a cursor stands at most 64 milliseconds past the saved end, whatever was drawn and refused
abbrev pub CursorsInBound : Setup → Type 0
CursorsInBound k = (words : List ℕ) (views : List View) (h : History) → PartA k words views h → PartB k words views h → (d : ℕ) → 0 < d → d ≤ k.drivers
    → slice_index words (cursor_at d) ≤ (slice_index words 0 / LOGICAL + 64) * LOGICAL
