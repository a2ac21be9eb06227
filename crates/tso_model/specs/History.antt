-- What a whole run did, as lists that only grow (but for the newest window, which a save makes longer), and the fact that the views hold just these entries.
use Rattle.std.specs.Prelude.{◌≡◌, ℕ, ◌+◌, ◌*◌, ◌≤◌, max, List, [], ◌∷◌, ◌++◌, option_to_list, cond, ◌==◌, Contains}
use Rattle.pd_types.specs.declared.oracle.CellWord.{CellWord}
use Rattle.pd_types.specs.declared.stamp.TheConstants.{LOGICAL}
use Rattle.tso_model.specs.declared.entries.Grant.{Grant}
use Rattle.tso_model.specs.declared.entries.Claim.{Claim}
use Rattle.tso_model.specs.declared.entries.Start.{Start}
use Rattle.tso_model.specs.declared.entries.Found.{Found}
use Rattle.tso_model.specs.declared.entries.Published.{Published}
use Rattle.tso_model.specs.declared.entries.Look.{Look}
use Rattle.tso_model.specs.declared.entries.Refusal.{Refusal}
use Rattle.tso_model.specs.declared.entries.Added.{Added}
use Rattle.tso_model.specs.declared.view.View.{View}
use Rattle.tso_model.specs.Lists.{total}
use Rattle.tso_model.specs.Words.{opening_claim, IsOpen}

-- all that a run did
pub record History : Type 0 where
  pub newest : Claim
  pub past : List Claim
  -- by term, the newest first
  pub drawn : ℕ → List Grant
  pub starts : List Start
  pub founds : List Found
  pub published : List Published
  pub looks : List Look
  pub refusals : List Refusal
  pub added : List Added

-- the windows of a view's drivers, in the order of their claims
abbrev pub claims : View → List Claim
claims v = v.older ++ option_to_list v.latest

-- f of the batches of one term
abbrev pub of_term : ℕ → (Grant → ℕ) → Grant → ℕ
of_term t f g = cond (g.batch.term == t) (f g) 0

-- the views have these entries and no others, each as often
pub record Matches (first : CellWord) (views : List View) (h : History) : Type 0 where
  pub claims : (f : Claim → ℕ) → total (λ v. total f (claims v)) views + f (opening_claim first) ≡ f h.newest + total f h.past
  pub grants : (t : ℕ) (f : Grant → ℕ) → total (λ v. total (of_term t f) v.grants) views ≡ total f (h.drawn t)
  pub starts : (f : Start → ℕ) → total (λ v. total f v.starts) views ≡ total f h.starts
  pub founds : (f : Found → ℕ) → total (λ v. total f v.founds) views ≡ total f h.founds
  pub published : (f : Published → ℕ) → total (λ v. total f v.published) views ≡ total f h.published
  pub looks : (f : Look → ℕ) → total (λ v. total f v.looks) views ≡ total f h.looks
  pub refusals : (f : Refusal → ℕ) → total (λ v. total f v.refusals) views ≡ total f h.refusals
  pub added : (f : Added → ℕ) → total (λ v. total f v.added) views ≡ total f h.added

-- the greatest start of the driver d, or 0
abbrev pub greatest : ℕ → List Start → ℕ
greatest d [] = 0
greatest d (s ∷ ss) = cond (s.driver == d) (max s.at (greatest d ss)) (greatest d ss)

-- what was added at the driver d by all clients, by one, and by all others
abbrev pub added_at : ℕ → List Added → ℕ
added_at d xs = total (λ (a : Added). cond (a.driver == d) a.count 0) xs

-- what the client c added at the driver d
abbrev pub added_by : ℕ → ℕ → List Added → ℕ
added_by c d xs = total (λ (a : Added). cond (a.driver == d) (cond (a.client == c) a.count 0) 0) xs

-- what all clients but c added at the driver d
abbrev pub added_else : ℕ → ℕ → List Added → ℕ
added_else c d xs = total (λ (a : Added). cond (a.driver == d) (cond (a.client == c) 0 a.count) 0) xs

-- the window is one of the history's
abbrev pub Stands : History → Claim → Type 0
Stands h c = Contains (h.newest ∷ h.past) c

-- d's open window of this term, which ends at hi or later, and whose start the cursor was raised to
pub record Names (h : History) (d term hi : ℕ) : Type 0 where
  pub claim : Claim
  pub stands : Stands h claim
  pub term_is : claim.window.term ≡ term
  pub driver_is : claim.window.driver ≡ d
  pub open_is : IsOpen claim.window
  pub ends : hi ≤ claim.window.hi
  pub raised : claim.window.lo * LOGICAL ≤ greatest d h.starts

-- what a save or a later time makes of a window
pub record Extends (c e : Claim) : Type 0 where
  pub term : e.window.term ≡ c.window.term
  pub driver : e.window.driver ≡ c.window.driver
  pub lo : IsOpen c.window → e.window.lo ≡ c.window.lo
  pub hi : c.window.hi ≤ e.window.hi
