-- A set of peers that no path leaves shows that an assignment is greatest.
use Rattle.std.proofs.Common.{ℕ, zero, suc, Bool, true, false, cond, ◌≡◌, ◌+◌, ◌<◌, ◌≤◌, arith, refl, sym, ◌∙◌, List, [], ◌∷◌, length, get_or, Option, Some, None, not, subst}
use Rattle.std.specs.List.{count_by}
use Rattle.std.proofs.lemmas.Bool.{false≢true}
use Rattle.rule_fit.specs.Sums.{sum_below}
use Rattle.rule_fit.specs.Assignment.{held, placed, IsAssignment, IsGreatest}
use Rattle.rule_fit.specs.Search.{marked, IsClosed}
use Rattle.rule_fit.specs.Chosen.{wanted, capacity}
use Rattle.rule_fit.proofs.SumLemmas.{sum_below_le, any_below_yes, any_below_one}
use Rattle.rule_fit.proofs.Counting.{goes, by_rule, placed_most, placed_least}

some_below : (given : List (Option ℕ)) (p r : ℕ) → get_or given p None ≡ Some r → p < length given
some_below [] p r e = absurd (cc)
some_below (x ∷ given) zero r e = omega arith
some_below (x ∷ given) (suc p) r e = let rest : p < length given = some_below given p r e in omega arith

pub marked_below : (reached : List Bool) (p : ℕ) → marked reached p ≡ true → p < length reached
marked_below [] p e = absurd (false≢true e)
marked_below (x ∷ reached) zero e = omega arith
marked_below (x ∷ reached) (suc p) e = let rest : p < length reached = marked_below reached p e in omega arith

pub wanted_yes : (suits : ℕ → ℕ → Bool) (peers : ℕ) (chosen : ℕ → Bool) (p r : ℕ) → p < peers → chosen p ≡ true → suits p r ≡ true → wanted suits peers chosen r ≡ true
wanted_yes suits peers chosen p r below picked suited =
    any_below_yes peers (λ q. cond (chosen q) (suits q r) false) p below (rw (picked, suited))

both_parts : (a b : Bool) → cond a b false ≡ true → (a ≡ true) × (b ≡ true)
both_parts true b e = (refl, e)
both_parts false b e = absurd (false≢true e)

pub wanted_one : (suits : ℕ → ℕ → Bool) (peers : ℕ) (chosen : ℕ → Bool) (r : ℕ) → wanted suits peers chosen r ≡ true → (p : ℕ) × (p < peers) × (chosen p ≡ true) × (suits p r ≡ true)
wanted_one suits peers chosen r passes =
    let found : (p : ℕ) × (p < peers) × (cond (chosen p) (suits p r) false ≡ true) = any_below_one peers (λ q. cond (chosen q) (suits q r) false) passes in
    let both : (chosen found.0 ≡ true) × (suits found.0 r ≡ true) = both_parts (chosen found.0) (suits found.0 r) found.2 in
    (found.0, found.1, both.0, both.1)

cond_le : (b : Bool) (x y : ℕ) → (b ≡ true → x ≤ y) → cond b x 0 ≤ cond b y 0
cond_le true x y h = h refl
cond_le false x y h = omega arith

-- weak duality: no assignment places more than the peers outside a set and the counts of the rules that the set suits
pub placed_bound : (suits : ℕ → ℕ → Bool) (peers : ℕ) (counts : List ℕ) (reached : List Bool) (other : List (Option ℕ)) → length reached ≡ peers → IsAssignment suits peers counts other → placed other ≤ count_by not reached + capacity counts (wanted suits peers (marked reached))
placed_bound suits peers counts reached other size assigned =
    let test : ℕ → Bool = wanted suits peers (marked reached) in
    let most : placed other ≤ count_by not reached + count_by (goes test) other = placed_most test reached other (assigned.each ∙ sym size)
    (λ p r in_set e. wanted_yes suits peers (marked reached) p r (let below = marked_below reached p in_set in omega arith) in_set (assigned.suited p r e)) in
    let rules : count_by (goes test) other ≡ sum_below (length counts) (λ r. cond (test r) (held other r) 0) = by_rule test (length counts) other assigned.known in
    let less : sum_below (length counts) (λ r. cond (test r) (held other r) 0) ≤ capacity counts test
    = sum_below_le (length counts) _ _ (λ r below. cond_le (test r) (held other r) (get_or counts r 0) (λ _. assigned.within r below)) in
    omega arith

-- a set that no path leaves meets the bound
pub placed_closed : (suits : ℕ → ℕ → Bool) (peers : ℕ) (counts : List ℕ) (reached : List Bool) (given : List (Option ℕ)) → IsAssignment suits peers counts given → IsClosed suits peers counts given reached → count_by not reached + capacity counts (wanted suits peers (marked reached)) ≤ placed given
placed_closed suits peers counts reached given assigned closed =
    let test : ℕ → Bool = wanted suits peers (marked reached) in
    let least : count_by not reached + count_by (goes test) given ≤ placed given = placed_least test reached given (assigned.each ∙ sym closed.size)
    (λ p below e. closed.starts p (let size = assigned.each in omega arith) e)
    (λ q r e passes. let one = wanted_one suits peers (marked reached) r passes in closed.holders one.0 q r one.2 one.3 e) in
    let rules : count_by (goes test) given ≡ sum_below (length counts) (λ r. cond (test r) (held given r) 0) = by_rule test (length counts) given assigned.known in
    let more : capacity counts test ≤ sum_below (length counts) (λ r. cond (test r) (held given r) 0)
    = sum_below_le (length counts) _ _ (λ r below. cond_le (test r) (get_or counts r 0) (held given r)
    (λ passes. let one = wanted_one suits peers (marked reached) r passes in closed.full one.0 r below one.2 one.3)) in
    omega arith

pub closed_greatest : (suits : ℕ → ℕ → Bool) (peers : ℕ) (counts : List ℕ) (reached : List Bool) (given : List (Option ℕ)) → IsAssignment suits peers counts given → IsClosed suits peers counts given reached → IsGreatest suits peers counts given
closed_greatest suits peers counts reached given assigned closed = record {
  assigned = assigned;
  most = λ other also.
      let bound = placed_bound suits peers counts reached other closed.size also in
      let met = placed_closed suits peers counts reached given assigned closed in omega arith;
}

-- the same, of a list that is equal
pub closed_again : (suits : ℕ → ℕ → Bool) (counts : List ℕ) (given other : List (Option ℕ)) (peers : ℕ) (reached : List Bool) → given ≡ other → length other ≡ peers → IsClosed suits (length given) counts given reached → IsClosed suits peers counts other reached
closed_again suits counts given other peers reached same size closed =
    subst (λ (n : ℕ). IsClosed suits n counts other reached) size (subst (λ (g : List (Option ℕ)). IsClosed suits (length g) counts g reached) same closed)
