-- The state invariant, in three parts over one history: A speaks of numbers, windows and limits, B of batches and what callers have seen, C of refusals, found cursors and silence. It holds between any two steps of any actors.
use Rattle.std.specs.Prelude.{◌≡◌, ◌≢◌, ℕ, ◌+◌, ◌*◌, ◌/◌, ◌%◌, ◌<◌, ◌≤◌, ◌⊎◌, true, false, List, [], ◌∷◌, ◌++◌, length, map, slice_index, slice_set, None, IfSome, All, Contains, cond, ◌==◌, ◌&&◌, nat_lt, nat_le, if◌then◌else◌}
use mathlib.Core.Option.{some}
use lib.ListN.{get_elem?}
use Rattle.pd_types.specs.declared.oracle.Seen.{Seen}
use Rattle.pd_types.specs.declared.stamp.TheConstants.{LOGICAL}
use Rattle.pd_types.specs.declared.oracle.TheConstants.{CLOCK_END, MAX_CLIENTS, MAX_DRIVERS}
use Rattle.tso_model.specs.declared.entries.Claim.{Claim}
use Rattle.tso_model.specs.declared.entries.Published.{Published}
use Rattle.tso_model.specs.declared.entries.Found.{Found}
use Rattle.tso_model.specs.declared.entries.Look.{Look}
use Rattle.tso_model.specs.declared.entries.Refusal.{Refusal}
use Rattle.tso_model.specs.declared.entries.Start.{Start}
use Rattle.tso_model.specs.declared.entries.Grant.{Grant}
use Rattle.tso_model.specs.declared.entries.Added.{Added}
use Rattle.tso_model.specs.declared.view.View.{View}
use Rattle.tso_model.specs.declared.view.Setup.{Setup}
use Rattle.tso_model.specs.Lists.{total, times}
use Rattle.tso_model.specs.Words.{packed, limit_at, cursor_at, opening_claim, IsOpen, AreClaims, Inside, Falls, passes}
use Rattle.tso_model.specs.History.{History, Matches, Names, Stands, claims, greatest, added_at, added_by, added_else}
use Rattle.tso_model.specs.declared.step.WordStep.{WordStep}
use Rattle.tso_model.specs.Steps.{word_of, word_after, view_after, held, hand, HasClaim, HasHand}
use Rattle.tso_model.specs.Moves.{spent_view, nothing_seen}

-- the drivers' numbers of a view: its own, to give, and taken in
abbrev pub drivers_of : View → List ℕ
drivers_of v = v.driver ∷ v.give_drivers ++ v.took_drivers

-- the clients' numbers of a view
abbrev pub clients_of : View → List ℕ
clients_of v = v.client ∷ v.give_clients ++ v.took_clients

-- 1 for the numbers from 1 to n, else 0
abbrev pub in_range : ℕ → ℕ → ℕ
in_range n d = if nat_lt 0 d && nat_le d n then 1 else 0

-- the entries carry these numbers and no others
abbrev pub Own : {A : Type 0} → List ℕ → (A → ℕ) → List A → Type 0
Own numbers by xs = (x : ℕ) → (0 < x → times x numbers ≡ 0) → (let n : ℕ = total (λ e. cond (by e == x) 1 0) xs in n) ≡ 0

-- what a view has to do with the history, of windows, limits and numbers
pub record FitsA (k : Setup) (h : History) (v : View) : Type 0 where
  -- the opening cell is the same in all views
  pub opening : v.opening ≡ k.cell
  -- what is known of the cell lies between the opening cell and the cell
  pub term : (k.cell.term ≤ v.cell.term) × (v.cell.term ≤ h.newest.window.term)
  pub saved : v.cell.saved ≤ h.newest.window.hi
  pub at_opening : v.cell.term ≡ k.cell.term → v.cell.saved ≡ k.cell.saved
  -- the latest claim is the driver's own and of its greatest term
  pub latest : IfSome v.latest (λ c. (c.window.driver ≡ v.driver) × (c.window.term ≤ v.cell.term) × (c.window.term ≡ v.cell.term → v.cell.saved ≡ c.window.hi) × All (λ (x : Claim). x.window.driver ≡ v.driver → x.window.term < c.window.term) v.older)
  -- a driver without a latest claim has no window of its own
  pub idle : v.latest ≡ None → All (λ (x : Claim). x.window.driver ≢ v.driver) v.older
  -- the history has no other start of this driver, and no other sum of this client
  pub own_start : 0 < v.driver → greatest v.driver v.starts ≡ greatest v.driver h.starts
  pub own_sum : 0 < v.client → (d : ℕ) → added_by v.client d v.added ≡ added_by v.client d h.added
  -- a held term is that of the latest claim, and a mark says that the cursor was raised to its start
  pub holds : v.holds ≡ true → HasClaim v
  pub marked : v.marked ≡ true → (v.holds ≡ true) × IsOpen (held v) × ((held v).lo * LOGICAL ≤ greatest v.driver h.starts)
  -- a limit in hand is of one of the drivers
  pub aims : IfSome v.hand (λ l. (0 < l.driver) × (l.driver ≤ k.drivers))
  -- entries carry the view's own number or one that it took in
  pub claims_own : Own (v.driver ∷ v.took_drivers) (λ (c : Claim). c.window.driver) (claims v)
  pub starts_own : Own (v.driver ∷ v.took_drivers) (λ (s : Start). s.driver) v.starts
  pub founds_own : Own (v.driver ∷ v.took_drivers) (λ (f : Found). f.driver) v.founds
  pub published_own : Own (v.driver ∷ v.took_drivers) (λ (p : Published). p.driver) v.published
  pub grants_own : Own (v.client ∷ v.took_clients) (λ (g : Grant). g.client) v.grants
  pub looks_own : Own (v.client ∷ v.took_clients) (λ (l : Look). l.client) v.looks
  pub refusals_own : Own (v.client ∷ v.took_clients) (λ (r : Refusal). r.client) v.refusals
  pub added_own : Own (v.client ∷ v.took_clients) (λ (a : Added). a.client) v.added

-- 1 to 7 drivers, 1 to 64 clients, a cell in range
pub record IsSetup (k : Setup) : Type 0 where
  pub drivers : (0 < k.drivers) × (k.drivers ≤ MAX_DRIVERS)
  pub clients : (0 < k.clients) × (k.clients ≤ MAX_CLIENTS)
  pub cell : (k.cell.saved < CLOCK_END) × (k.cell.term < LOGICAL)

-- Part A. The windows of all views and the opening window are one window list, whose last window the cell names; each number stands in one view; what a view knows of the cell is at most the cell; each published limit names an open window of its driver, whose start the cursor was raised to; a limit in hand is of one of the drivers
pub record PartA (k : Setup) (words : List ℕ) (views : List View) (h : History) : Type 0 where
  -- one word for the cell, and two for each driver
  pub setup : IsSetup k
  pub wide : length words ≡ 1 + 2 * k.drivers
  -- the views hold the history's entries, and the history's windows are one chain from the opening window on
  pub matches : Matches k.cell views h
  pub chain : AreClaims (opening_claim k.cell) h.newest h.past
  -- the cell names the newest window, and is in range
  pub cell : slice_index words 0 ≡ packed h.newest.window.hi h.newest.window.term
  pub in_time : h.newest.window.hi < CLOCK_END
  pub in_terms : h.newest.window.term < LOGICAL
  -- each window but the opening one is a driver's
  pub makers : (c : Claim) → Stands h c → 0 < c.window.driver → c.window.driver ≤ k.drivers
  -- each driver's and each client's number stands in one view
  pub drivers_once : (d : ℕ) → 0 < d → total (λ v. times d (drivers_of v)) views ≡ in_range k.drivers d
  pub clients_once : (c : ℕ) → 0 < c → total (λ v. times c (clients_of v)) views ≡ in_range k.clients c
  -- each view fits, and one that was joined into another holds nothing
  pub each : (id : ℕ) (v : View) → get_elem? views id ≡ some v → v.spent ≡ false → FitsA k h v
  pub gone : (id : ℕ) (v : View) → get_elem? views id ≡ some v → v.spent ≡ true → v ≡ spent_view
  -- each published limit, and each limit word that isn't 0, names an open window that the cursor was raised to
  pub published : All (λ (p : Published). p.word ≢ 0 → Names h p.driver (p.word % LOGICAL) (p.word / LOGICAL)) h.published
  pub limits : (d : ℕ) → 0 < d → d ≤ k.drivers → slice_index words (limit_at d) ≢ 0
      → Contains h.published (record { driver = d; word = slice_index words (limit_at d) }) × Names h d (slice_index words (limit_at d) % LOGICAL) (slice_index words (limit_at d) / LOGICAL)

-- what a view has armed at the driver d
abbrev pub armed_at : ℕ → View → ℕ
armed_at d v = cond ((hand v).driver == d) v.armed 0

-- a seen pair lies in its term's window, at its driver's cursor or below, and that driver has a published limit
pub record IsSeen (words : List ℕ) (h : History) (seen : Seen) : Type 0 where
  pub claim : Claim
  pub stands : Stands h claim
  pub term_is : claim.window.term ≡ seen.term
  pub above : claim.window.lo * LOGICAL < seen.last
  pub below : seen.last < claim.window.hi * LOGICAL
  pub drawn : seen.last ≤ slice_index words (cursor_at claim.window.driver)
  pub word : ℕ
  pub is_limit : word ≢ 0
  pub told : Contains h.published (record { driver = claim.window.driver; word = word })

-- what a view has to do with the history, of batches and of what was seen
pub record FitsB (words : List ℕ) (h : History) (v : View) : Type 0 where
  -- nothing was seen, or what was seen was drawn
  pub seen : (v.seen ≡ nothing_seen) ⊎ IsSeen words h v.seen
  -- a limit in hand was published, names an open window, and isn't of a term below the seen one
  pub hand_is : IfSome v.hand (λ l. Names h l.driver l.term l.hi × Contains h.published (record { driver = l.driver; word = packed l.hi l.term }) × (v.seen.term ≤ l.term))
  -- an armed count is at most the quota, and has a limit in hand
  pub armed : (v.armed ≤ v.quota) × (0 < v.armed → HasHand v)

-- Part B. Batches of a term rise inside its window, each at most its driver's cursor; a cursor with all that is armed at it stands at most 64 ms past the saved end; what was seen was drawn, and what is in hand was published
pub record PartB (k : Setup) (words : List ℕ) (views : List View) (h : History) : Type 0 where
  -- the batches of a window's term lie inside it, rise, and are at most its driver's cursor; no other term has batches
  pub inside : (c : Claim) → Stands h c → All (λ (g : Grant). Inside c.window g.batch) (h.drawn c.window.term)
  pub falls : (c : Claim) → Stands h c → Falls (slice_index words (cursor_at c.window.driver)) (map (λ (g : Grant). g.batch) (h.drawn c.window.term))
  pub none_else : (t : ℕ) → ((c : Claim) → Stands h c → c.window.term ≢ t) → h.drawn t ≡ []
  -- the quotas add up to 262144 for each client
  pub quotas : total (λ v. v.quota) views ≡ k.clients * LOGICAL
  -- a cursor, with all that is armed at it, stands at most 64 ms past the saved end
  pub cursors : (d : ℕ) → 0 < d → d ≤ k.drivers → slice_index words (cursor_at d) + total (armed_at d) views ≤ (h.newest.window.hi + 64) * LOGICAL
  -- no cursor is below its driver's greatest start
  pub raised : (d : ℕ) → 0 < d → d ≤ k.drivers → greatest d h.starts ≤ slice_index words (cursor_at d)
  -- each view fits
  pub each : (id : ℕ) (v : View) → get_elem? views id ≡ some v → v.spent ≡ false → FitsB words h v

-- the cursor at which a draw was refused lies between a start of its driver, of its limit's window or later, and that start with all that was added
pub record Bounded (h : History) (r : Refusal) : Type 0 where
  pub claim : Claim
  pub stands : Stands h claim
  pub driver_is : claim.window.driver ≡ r.driver
  pub open_is : IsOpen claim.window
  pub told : Contains h.published (record { driver = r.driver; word = packed r.hi claim.window.term })
  pub start : ℕ
  pub begins : claim.window.lo * LOGICAL ≤ start
  pub made : (start ≡ 0) ⊎ Contains h.starts (record { driver = r.driver; at = start })
  pub low : start ≤ r.at
  pub high : r.at ≤ start + (r.sum + added_else r.client r.driver h.added)

-- a look tells of what its driver had published
pub record Looked (h : History) (l : Look) : Type 0 where
  pub driver : 0 < l.driver
  pub term : l.seen.term ≤ h.newest.window.term
  pub none : l.word ≡ 0 → (c : Claim) → Stands h c → c.window.term ≡ l.seen.term → c.window.driver ≡ l.driver → Contains h.published (record { driver = l.driver; word = 0 })
  pub some : l.word ≢ 0 → Contains h.published (record { driver = l.driver; word = l.word })

-- Part C. A cursor stands at most all added counts above its driver's greatest start, when it was found too; each refusal passes at a cursor that is bounded in this way; where a limit word is 0, now or in a look, its driver published 0 or never published
pub record PartC (k : Setup) (words : List ℕ) (views : List View) (h : History) : Type 0 where
  -- a cursor stands at most all that was added at it above its driver's greatest start, and so it did whenever the driver found it
  pub grown : (d : ℕ) → 0 < d → d ≤ k.drivers → slice_index words (cursor_at d) ≤ greatest d h.starts + added_at d h.added
  -- all that was added at a cursor still stands in it
  pub counted : (d : ℕ) → 0 < d → d ≤ k.drivers → added_at d h.added ≤ slice_index words (cursor_at d)
  pub founds : All (λ (f : Found). (f.start ≤ f.cursor) × (f.cursor ≤ f.start + added_at f.driver h.added)) h.founds
  -- each refusal passes, at a cursor that is bounded
  pub refusals : All (λ (r : Refusal). (passes r.at r.hi r.count ≡ true) × Bounded h r) h.refusals
  -- a driver whose limit word is 0 and that published a limit has published 0
  pub silent : (d : ℕ) → 0 < d → d ≤ k.drivers → slice_index words (limit_at d) ≡ 0 → ((word : ℕ) × (word ≢ 0) × Contains h.published (record { driver = d; word = word })) → Contains h.published (record { driver = d; word = 0 })
  -- each look tells of what its driver had published
  pub looks : All (Looked h) h.looks

-- the rule
pub record Sound (k : Setup) (words : List ℕ) (views : List View) : Type 0 where
  pub history : History
  pub a : PartA k words views history
  pub b : PartB k words views history
  pub c : PartC k words views history

-- From words and views with the history h to later ones with g: A is kept where A is met, B where A and B are met, and C where all three are met
pub record KeepsEach (k : Setup) (words : List ℕ) (views : List View) (h : History) (more : List ℕ) (others : List View) (g : History) : Type 0 where
  pub a : PartA k words views h → PartA k more others g
  pub b : PartA k words views h → PartB k words views h → PartB k more others g
  pub c : PartA k words views h → PartB k words views h → PartC k words views h → PartC k more others g

-- Whatever the words, the other views and the history are, the step keeps each part from those before it, with what it adds to the history
abbrev pub KeepsParts : Setup → ℕ → WordStep → View → Type 0
KeepsParts k id kind v = (words : List ℕ) (views : List View) (h : History) → get_elem? views id ≡ some v
    → (g : History) × KeepsEach k words views h (slice_set words (word_of kind v) (word_after kind v (slice_index words (word_of kind v)))) (slice_set views id (view_after kind (slice_index words (word_of kind v)) v)) g

-- Whatever the words and the other views are, the step keeps the rule. This is what the table asks of a step, and what a machine on one thread does
abbrev pub Keeps : Setup → ℕ → WordStep → View → Type 0
Keeps k id kind v = (words : List ℕ) (views : List View) → Sound k words views → get_elem? views id ≡ some v
    → Sound k (slice_set words (word_of kind v) (word_after kind v (slice_index words (word_of kind v)))) (slice_set views id (view_after kind (slice_index words (word_of kind v)) v))

-- a cell term that is above the opening window's and each of the driver's own
abbrev pub IsAbove : Setup → View → ℕ → Type 0
IsAbove k v term = (k.cell.term < term) × All (λ (c : Claim). c.window.driver ≡ v.driver → c.window.term < term) (claims v)

-- a batch of this term behind the cursor `at` is above all that was seen, by its term and by its timestamps
abbrev pub IsUnseen : Seen → ℕ → ℕ → Type 0
IsUnseen seen term at = (seen.term ≤ term) × (seen.last ≤ at)
