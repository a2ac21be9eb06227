-- What the checker tells of a region, as one value, for definitions that compute with it: the search written out, which no program makes. Of a verdict it
-- leaves the certificate aside, and of several borders all but the least. The clause `tells` of `check` says that each verdict tells just this, beside
-- `verdict`, which tells of no search.
use Rattle.std.specs.Prelude.{ℕ, nat_lt, nat_eq, Bool, not, List, [], ◌∷◌, map, filter, find, fold, length, if◌then◌else◌, Option, Some, None}
use Rattle.std.specs.List.{list_any}
use Rattle.pd_types.specs.declared.region.Peer.{Peer}
use Rattle.pd_types.specs.declared.region.Region.{Region}
use Rattle.pd_types.specs.declared.region.RegionBeat.{RegionBeat}
use Rattle.pd_types.specs.declared.rule.Rule.{Rule}
use Rattle.pd_types.specs.declared.step.Step.{Step}
use Rattle.pd_types.specs.Keys.{is_below}
use Rattle.store_table.specs.declared.entry.StoreEntry.{StoreEntry}
use Rattle.rule_set.specs.Borders.{strictly_inside}
use Rattle.rule_set.specs.InForce.{rules_at}
use Rattle.rule_fit.specs.Ways.{misfit_number}
use Rattle.rule_fit.specs.Suits.{suits_in, counts_of}
use Rattle.rule_checker.specs.declared.class.Class.{Class}
use Rattle.rule_checker.specs.declared.class.Class.TheVariants.{Promote, Transfer, AddVoter, AddLearner, Remove}
use Rattle.rule_checker.specs.declared.class.Ranked.{Ranked}
use Rattle.rule_checker.specs.declared.verdict.Verdict.{Verdict}
use Rattle.rule_checker.specs.declared.verdict.Verdict.TheVariants as verdicts
use Rattle.rule_checker.specs.Candidates.{after_all, passes, pool, steps_of}
use Rattle.rule_checker.specs.Ranks.{is_before, score_of}

-- the region crosses a border, the least of which this is; it fits; it has a plan, of this class and these steps, from the one misfit number to the other;
-- or it has none, with this misfit number
pub data Told : Type 0 where
  Splits : List ℕ → Told
  Fits : Told
  Plans : Class → List Step → ℕ → ℕ → Told
  Stuck : ℕ → Told

-- the first key
abbrev pub first_key : List (List ℕ) → List ℕ
first_key [] = []
first_key (key ∷ keys) = key

-- what a verdict tells
abbrev pub tells : Verdict → Told
tells (verdicts.NeedsSplit keys) = Splits (first_key keys)
tells verdicts.NoFault = Fits
tells (verdicts.Plan class steps from to) = Plans class steps from to
tells (verdicts.NoPlan from certificate) = Stuck from

-- the starts and the ends of all rules
abbrev pub edges_of : List Rule → List (List ℕ)
edges_of [] = []
edges_of (rule ∷ rules) = rule.start ∷ (rule.end ∷ edges_of rules)

-- those strictly inside the region: its borders, some maybe more than once
abbrev pub inside_edges : List Rule → Region → List (List ℕ)
inside_edges set region = filter (strictly_inside region) (edges_of set)

-- none of the keys is less than this one
abbrev pub is_least : List (List ℕ) → List ℕ → Bool
is_least keys key = not (list_any (λ other. is_below other key) keys)

-- the least border inside a region; none where it crosses none
abbrev pub least_border : List Rule → Region → Option (List ℕ)
least_border set region = find (is_least (inside_edges set region)) (inside_edges set region)

-- the misfit number of a region
abbrev pub number_of : RegionBeat → List Rule → List StoreEntry → ℕ → ℕ
number_of beat rules stores now = misfit_number (suits_in beat rules stores now) (length beat.region.peers) (counts_of rules)

-- a peer with the number that the steps for it leave, and its score
abbrev pub ranked : Class → RegionBeat → List Rule → List StoreEntry → ℕ → Peer → Ranked
ranked class beat rules stores now peer = record {
  peer = peer;
  to = number_of (after_all (steps_of class beat stores now peer) beat) rules stores now;
  score = score_of class beat rules stores peer;
}

-- the candidates of a class that lower the number
abbrev pub lowering : Class → RegionBeat → List Rule → List StoreEntry → ℕ → ℕ → List Ranked
lowering class beat rules stores now from =
    filter (λ one. nat_lt one.to from) (map (ranked class beat rules stores now) (filter (passes class beat rules stores now) (pool class beat stores)))

-- the one that goes first
abbrev pub first_among : Class → List RegionBeat → Option Ranked → Ranked → Option Ranked
first_among class held None one = Some one
first_among class held (Some best) one = if is_before class held one best then Some one else Some best

-- the first of the candidates of a class that lower the number; none where no rule is in force
abbrev pub first_of : Class → RegionBeat → List Rule → List StoreEntry → List RegionBeat → ℕ → ℕ → Option Ranked
first_of class beat [] stores held now from = None
first_of class beat (rule ∷ rules) stores held now from = fold (first_among class held) None (lowering class beat (rule ∷ rules) stores now from)

-- the plan of a candidate, else what is told without it
abbrev pub plan_or : Class → RegionBeat → List StoreEntry → ℕ → ℕ → Option Ranked → Told → Told
plan_or class beat stores now from None other = other
plan_or class beat stores now from (Some best) other = Plans class (steps_of class beat stores now best.peer) from best.to

-- the plan of the first of these classes that has one
abbrev pub plan_among : List Class → RegionBeat → List Rule → List StoreEntry → List RegionBeat → ℕ → ℕ → Told
plan_among [] beat rules stores held now from = Stuck from
plan_among (class ∷ classes) beat rules stores held now from =
    plan_or class beat stores now from (first_of class beat rules stores held now from) (plan_among classes beat rules stores held now from)

-- the classes in their order
abbrev pub all_classes : List Class
all_classes = Promote ∷ (Transfer ∷ (AddVoter ∷ (AddLearner ∷ (Remove ∷ []))))

-- what is told of a region that crosses no border, by its misfit number
abbrev pub told_from : ℕ → RegionBeat → List Rule → List StoreEntry → List RegionBeat → ℕ → Told
told_from from beat rules stores held now = if nat_eq from 0 then Fits else plan_among all_classes beat rules stores held now from

-- what is told, by the least border inside the region
abbrev pub told_by : Option (List ℕ) → RegionBeat → List Rule → List StoreEntry → List RegionBeat → ℕ → Told
told_by (Some key) beat rules stores held now = Splits key
told_by None beat rules stores held now = told_from (number_of beat rules stores now) beat rules stores held now

-- what the checker tells of a region
unfoldable pub told_of : RegionBeat → List Rule → List StoreEntry → List RegionBeat → ℕ → Told
told_of beat set stores held now = told_by (least_border set beat.region) beat (rules_at beat.region.start set) stores held now
