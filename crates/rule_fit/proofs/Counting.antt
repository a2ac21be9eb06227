-- Counting the peers of an assignment by rule.
use Rattle.std.proofs.Common.{ℕ, suc, Bool, true, false, cond, ◌≡◌, ◌+◌, ◌<◌, ◌≤◌, eqb, arith, refl, sym, ◌∙◌, List, [], ◌∷◌, length, get_or, Option, Some, None, inl, inr, not}
use Rattle.std.specs.List.{count_by}
use Rattle.std.specs.Prelude.{is_some}
use Rattle.std.proofs.lemmas.Bool.{cases_eq, eq-eqb, ne_eqb, false≢true, false_from_ne_true}
use Rattle.std.proofs.lemmas.List.Sums.{sum_by-cons}
use Rattle.rule_fit.specs.Sums.{sum_below}
use Rattle.rule_fit.specs.Assignment.{has, held, placed}
use Rattle.rule_fit.proofs.SumLemmas.{sum_below_same, sum_below_plus, sum_below_none, sum_below_one}

-- the peer has a rule that passes
abbrev pub goes : (ℕ → Bool) → Option ℕ → Bool
goes test None = false
goes test (Some r) = test r

held_cons : (x : Option ℕ) (given : List (Option ℕ)) (r : ℕ) → held (x ∷ given) r ≡ cond (has r x) 1 0 + held given r
held_cons x given r = sum_by-cons (λ y. cond (has r y) 1 0) x given

pub goes_cons : (test : ℕ → Bool) (x : Option ℕ) (given : List (Option ℕ)) → count_by (goes test) (x ∷ given) ≡ cond (goes test x) 1 0 + count_by (goes test) given
goes_cons test x given = sum_by-cons (λ y. cond (goes test y) 1 0) x given

pub placed_cons : (x : Option ℕ) (given : List (Option ℕ)) → placed (x ∷ given) ≡ cond (is_some x) 1 0 + placed given
placed_cons x given = sum_by-cons (λ y. cond (is_some y) 1 0) x given

out_cons : (b : Bool) (reached : List Bool) → count_by not (b ∷ reached) ≡ cond (not b) 1 0 + count_by not reached
out_cons b reached = sum_by-cons (λ y. cond (not y) 1 0) b reached

same_case : (b : Bool) (h : ℕ) → cond b (1 + h) 0 ≡ cond b 1 0 + cond b h 0
same_case true h = refl
same_case false h = refl

one_more : (test : ℕ → Bool) (k r h : ℕ) → cond (test r) (cond (eqb k r) 1 0 + h) 0 ≡ cond (eqb k r) (cond (test k) 1 0) 0 + cond (test r) h 0
one_more test k r h =
    elim (cases_eq k r) [
      | inl same ↦ rw (same, eq-eqb r r refl) (same_case (test r) h)
      | inr other ↦ rw (ne_eqb k r other) (grind arith)
    ]

zeros : (b : Bool) → cond {A = ℕ} b 0 0 ≡ 0
zeros true = refl
zeros false = refl

-- peers counted one by one, or rule by rule
pub by_rule : (test : ℕ → Bool) (rules : ℕ) (given : List (Option ℕ)) → ((p r : ℕ) → get_or given p None ≡ Some r → r < rules) → count_by (goes test) given ≡ sum_below rules (λ r. cond (test r) (held given r) 0)
by_rule test rules [] known =
    let none : sum_below rules (λ r. cond (test r) 0 0) ≡ sum_below rules (λ _. 0) = sum_below_same rules (λ r. cond (test r) 0 0) (λ _. 0) (λ r _. zeros (test r)) in
    sym (none ∙ sum_below_none rules)
by_rule test rules (None ∷ given) known =
    let rest : count_by (goes test) given ≡ sum_below rules (λ r. cond (test r) (held given r) 0) = by_rule test rules given (λ p r e. known (suc p) r e) in
    rest
by_rule test rules (Some k ∷ given) known =
    let rest : count_by (goes test) given ≡ sum_below rules (λ r. cond (test r) (held given r) 0) = by_rule test rules given (λ p r e. known (suc p) r e) in
    let below : k < rules = known 0 k refl in
    let terms : sum_below rules (λ r. cond (test r) (held (Some k ∷ given) r) 0) ≡ sum_below rules (λ r. cond (eqb k r) (cond (test k) 1 0) 0 + cond (test r) (held given r) 0)
    = sum_below_same rules _ _ (λ r _. rw (held_cons (Some k) given r) (one_more test k r (held given r))) in
    let parts = sum_below_plus rules (λ r. cond (eqb k r) (cond (test k) 1 0) 0) (λ r. cond (test r) (held given r) 0) in
    let one = sum_below_one rules k (cond (test k) 1 0) below in
    let all = goes_cons test (Some k) given in
    omega (arith, rest, terms, parts, one, all)

-- if each reached peer's rule passes, the peers with a rule are the others or have one that passes
pub placed_most : (test : ℕ → Bool) (reached : List Bool) (given : List (Option ℕ)) → length given ≡ length reached → ((p r : ℕ) → get_or reached p false ≡ true → get_or given p None ≡ Some r → test r ≡ true) → placed given ≤ count_by not reached + count_by (goes test) given
placed_most test [] [] same passes = omega arith
placed_most test [] (x ∷ given) same passes = absurd (omega arith)
placed_most test (b ∷ reached) [] same passes = absurd (omega arith)
placed_most test (b ∷ reached) (None ∷ given) same passes =
    let rest = placed_most test reached given (omega arith) (λ p r. passes (suc p) r) in
    let outside = out_cons b reached in
    omega (arith, rest, outside)
placed_most test (false ∷ reached) (Some r ∷ given) same passes =
    let rest = placed_most test reached given (omega arith) (λ p r. passes (suc p) r) in
    let outside = out_cons false reached in
    let place = placed_cons (Some r) given in
    let all = goes_cons test (Some r) given in
    omega (arith, rest, outside, place, all)
placed_most test (true ∷ reached) (Some r ∷ given) same passes =
    let rest = placed_most test reached given (omega arith) (λ p r. passes (suc p) r) in
    let outside = out_cons true reached in
    let place = placed_cons (Some r) given in
    let all : count_by (goes test) (Some r ∷ given) ≡ 1 + count_by (goes test) given = goes_cons test (Some r) given ∙ rw (passes 0 r refl refl) refl in
    omega (arith, rest, outside, place, all)

at_most_one : (b : Bool) → cond b 1 0 ≤ 1
at_most_one true = omega arith
at_most_one false = omega arith

-- and there are exactly so many where the unplaced are reached, and all that have a rule that passes
pub placed_least : (test : ℕ → Bool) (reached : List Bool) (given : List (Option ℕ)) → length given ≡ length reached → ((p : ℕ) → p < length given → get_or given p None ≡ None → get_or reached p false ≡ true) → ((p r : ℕ) → get_or given p None ≡ Some r → test r ≡ true → get_or reached p false ≡ true) → count_by not reached + count_by (goes test) given ≤ placed given
placed_least test [] [] same starts holders = omega arith
placed_least test [] (x ∷ given) same starts holders = absurd (omega arith)
placed_least test (b ∷ reached) [] same starts holders = absurd (omega arith)
placed_least test (true ∷ reached) (None ∷ given) same starts holders =
    let rest = placed_least test reached given (omega arith) (λ p h. starts (suc p) (omega arith)) (λ p r. holders (suc p) r) in
    let outside = out_cons true reached in
    omega (arith, rest, outside)
placed_least test (false ∷ reached) (None ∷ given) same starts holders =
    absurd (false≢true (starts 0 (omega arith) refl))
placed_least test (true ∷ reached) (Some r ∷ given) same starts holders =
    let rest = placed_least test reached given (omega arith) (λ p h. starts (suc p) (omega arith)) (λ p r. holders (suc p) r) in
    let outside = out_cons true reached in
    let place = placed_cons (Some r) given in
    let all = goes_cons test (Some r) given in
    let most : cond (test r) 1 0 ≤ 1 = at_most_one (test r) in
    omega (arith, rest, outside, place, all, most)
placed_least test (false ∷ reached) (Some r ∷ given) same starts holders =
    let rest = placed_least test reached given (omega arith) (λ p h. starts (suc p) (omega arith)) (λ p r. holders (suc p) r) in
    let outside = out_cons false reached in
    let place = placed_cons (Some r) given in
    let fails : test r ≡ false = false_from_ne_true (test r) (λ pass. false≢true (holders 0 r refl pass)) in
    let all : count_by (goes test) (Some r ∷ given) ≡ count_by (goes test) given = goes_cons test (Some r) given ∙ rw fails (omega arith) in
    omega (arith, rest, outside, place, all)
