-- Why the answer of `fit` is right.
use Rattle.std.proofs.Common.{ℕ, Bool, ◌≡◌, ◌<◌, ◌≤◌, ◌≢◌, arith, subst, List, length, get_or, Option, sum}
use Rattle.std.specs.List.{count_by}
use Rattle.std.specs.Prelude.{is_some}
use Rattle.std.proofs.lemmas.List.Sums.{count_by-le-length}
use Rattle.rule_fit.specs.Sums.{sum_below}
use Rattle.pd_types.specs.declared.region.Peer.{Peer}
use Rattle.std.specs.List.{list_all}
use Rattle.std.specs.Prelude.{IsTrue}
use Rattle.pd_types.specs.BeatCheck.{has_id}
use Rattle.rule_fit.specs.Ids.{chosen_by}
use Rattle.rule_fit.specs.Chosen.{wanted, capacity, size_of}
use Rattle.rule_fit.specs.Certificate.{Lacks}
use Rattle.rule_fit.specs.Assignment.{held, placed, IsAssignment, IsGreatest, Fits}
use Rattle.rule_fit.specs.Search.{marked, IsClosed}
use Rattle.rule_fit.proofs.SumLemmas.{sum_below_same, sum_below_tight, sum_below_le}
use Rattle.rule_fit.proofs.Totals.{sum_by_place, placed_by_rule, size_marked, in_and_out, size_same, capacity_same}
use Rattle.rule_fit.proofs.Duality.{placed_closed}

pub placed_few : (suits : ℕ → ℕ → Bool) (peers : ℕ) (counts : List ℕ) (given : List (Option ℕ)) → IsAssignment suits peers counts given → placed given ≤ peers
placed_few suits peers counts given assigned = let most = count_by-le-length is_some given in let each = assigned.each in omega arith

below_from : (a b : ℕ) → a ≤ b → a ≢ b → a < b
below_from a b le ne = omega arith

-- every assignment places at most the sum of the counts
pub placed_total : (suits : ℕ → ℕ → Bool) (peers : ℕ) (counts : List ℕ) (given : List (Option ℕ)) → IsAssignment suits peers counts given → placed given ≤ sum counts
placed_total suits peers counts given assigned =
    let by_rules = placed_by_rule suits peers counts given assigned in
    let less : sum_below (length counts) (λ r. held given r) ≤ sum_below (length counts) (λ r. get_or counts r 0) = sum_below_le (length counts) _ _ (λ r h. assigned.within r h) in
    let whole = sum_by_place counts in omega arith

-- with equal totals, an assignment of every peer is a fit
pub fit_whole : (suits : ℕ → ℕ → Bool) (peers : ℕ) (counts : List ℕ) (given : List (Option ℕ)) → IsAssignment suits peers counts given → placed given ≡ peers → sum counts ≡ peers → Fits suits peers counts
fit_whole suits peers counts given assigned every total =
    let by_rules = placed_by_rule suits peers counts given assigned in
    let whole = sum_by_place counts in
    record {
      given = given;
      assigned = assigned;
      every = every;
      exact = sum_below_tight (length counts) (λ r. held given r) (λ r. get_or counts r 0) (λ r h. assigned.within r h) (omega arith);
    }

-- a fit has equal totals
pub fit_totals : (suits : ℕ → ℕ → Bool) (peers : ℕ) (counts : List ℕ) → Fits suits peers counts → sum counts ≡ peers
fit_totals suits peers counts fit =
    let by_rules = placed_by_rule suits peers counts fit.given fit.assigned in
    let same : sum_below (length counts) (λ r. held fit.given r) ≡ sum_below (length counts) (λ r. get_or counts r 0) = sum_below_same (length counts) _ _ (λ r h. fit.exact r h) in
    let whole = sum_by_place counts in
    let every = fit.every in omega arith

-- a greatest assignment that leaves a peer shows that there is no fit
pub no_fit : (suits : ℕ → ℕ → Bool) (peers : ℕ) (counts : List ℕ) (given : List (Option ℕ)) → IsGreatest suits peers counts given → placed given ≢ peers → Fits suits peers counts → ⊥
no_fit suits peers counts given greatest left fit =
    let most = greatest.most fit.given fit.assigned in
    let every = fit.every in
    let few = placed_few suits peers counts given greatest.assigned in
    left (omega arith)

-- the reached peers lack counts where a peer is left; `chosen` is any way to say which were reached
pub reached_few : (suits : ℕ → ℕ → Bool) (peers : ℕ) (counts : List ℕ) (given : List (Option ℕ)) (reached : List Bool) (chosen : ℕ → Bool) → IsAssignment suits peers counts given → IsClosed suits peers counts given reached → placed given ≢ peers → ((p : ℕ) → p < peers → chosen p ≡ marked reached p) → capacity counts (wanted suits peers chosen) < size_of peers chosen
reached_few suits peers counts given reached chosen assigned closed left same =
    let met = placed_closed suits peers counts reached given assigned closed in
    let size = closed.size in
    let all = in_and_out reached in
    let few = placed_few suits peers counts given assigned in
    let less : placed given < peers = below_from (placed given) peers few left in
    let one : size_of peers chosen ≡ size_of peers (marked reached) = size_same peers chosen (marked reached) same in
    let two : size_of peers (marked reached) ≡ count_by (λ b. b) reached = subst (λ (n : ℕ). size_of n (marked reached) ≡ count_by (λ b. b) reached) size (size_marked reached) in
    let three = capacity_same suits peers counts chosen (marked reached) same in
    omega arith

pub reached_lack : (suits : ℕ → ℕ → Bool) (peers : List Peer) (counts : List ℕ) (given : List (Option ℕ)) (reached : List Bool) (ids : List ℕ) → IsAssignment suits (length peers) counts given → IsClosed suits (length peers) counts given reached → placed given ≢ length peers → ((p : ℕ) → p < length peers → chosen_by ids peers p ≡ marked reached p) → IsTrue (list_all (has_id peers) ids) → Lacks suits peers counts ids
reached_lack suits peers counts given reached ids assigned closed left same inside =
    record {
      inside = inside;
      lacks = reached_few suits (length peers) counts given reached (chosen_by ids peers) assigned closed left same;
    }
