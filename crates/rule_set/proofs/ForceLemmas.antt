-- The rules in force at a key.
use Rattle.std.proofs.Common.{refl, ◌≡◌, ℕ, zero, suc, ◌<◌, Bool, true, false, not, cond, ◌&&◌, ◌||◌, List, [], ◌∷◌, ap, sym, ◌∙◌, arith, subst, ◌⊎◌, inl, inr, Some, slice_get, Result}
use Rattle.std.proofs.lemmas.Bool.{true≢false}
use Rattle.std.proofs.lemmas.List.Elements.{All-cons, All-head, All-tail, All-nil}
use Rattle.std.proofs.lemmas.List.Kept.{AllPairs-cons}
use Rattle.std.proofs.lemmas.Result.{IfOk-weaker}
use Rattle.std.specs.Result.{IfOk}
use Rattle.std.specs.List.{Contains, All, AllPairs, list_any}
use Rattle.pd_types.specs.declared.rule.Rule.{Rule}
use Rattle.pd_types.proofs.Members.{contains_cases, contains_here, contains_none, contains_tail}
use Rattle.pd_types.proofs.Pairs.{pairs_head, pairs_tail}
use Rattle.rule_set.specs.InForce.{rules_at, holds, hides, IsInForce}

abbrev in_force : List ℕ → Rule → List Rule → Bool
in_force key rule later = holds rule key && not (list_any (hides key rule) later)

pub all_at : (P : Rule → Type 0) (key : List ℕ) (rules : List Rule) → All P rules → All P (rules_at key rules)
all_at P key [] all = All-nil P
all_at P key (rule ∷ later) all = by (in_force key rule later) (all_at P key later (All-tail P rule later all))
  where
    by : (t : Bool) → All P (rules_at key later) → All P (cond t (rule ∷ rules_at key later) (rules_at key later))
    by true rest = All-cons P rule (rules_at key later) (All-head P rule later all) rest
    by false rest = rest

pub pairs_at : (R : Rule → Rule → Type 0) (key : List ℕ) (rules : List Rule) → AllPairs R rules → AllPairs R (rules_at key rules)
pairs_at R key [] pairs = pairs
pairs_at R key (rule ∷ later) pairs = by (in_force key rule later) (pairs_at R key later (pairs_tail R rule later pairs))
  where
    by : (t : Bool) → AllPairs R (rules_at key later) → AllPairs R (cond t (rule ∷ rules_at key later) (rules_at key later))
    by true rest = AllPairs-cons R rule (rules_at key later) (all_at (R rule) key later (pairs_head R rule later pairs)) rest
    by false rest = rest

-- none of the later ones hides it
free_of : (key : List ℕ) (rule : Rule) (later : List Rule) → list_any (hides key rule) later ≡ false → (i : ℕ) (other : Rule) → slice_get later i ≡ Some other → hides key rule other ≡ false
free_of key rule [] told i other at = absurd cc
free_of key rule (x ∷ later) told i other at = by (hides key rule x) refl told i at (free_of key rule later)
  where
    by : (t : Bool) → hides key rule x ≡ t → (t || list_any (hides key rule) later) ≡ false → (i : ℕ) → slice_get (x ∷ later) i ≡ Some other → (list_any (hides key rule) later ≡ false → (i : ℕ) (other : Rule) → slice_get later i ≡ Some other → hides key rule other ≡ false) → hides key rule other ≡ false
    by true hidden h i at rest = absurd (true≢false h)
    by false is h zero at rest = let same : x ≡ other = cc in subst (λ r. hides key rule r ≡ false) same is
    by false is h (suc i) at rest = rest h i other at

hidden_not : (key : List ℕ) (rule : Rule) (later : List Rule) → ((i : ℕ) (other : Rule) → slice_get later i ≡ Some other → hides key rule other ≡ false) → list_any (hides key rule) later ≡ false
hidden_not key rule [] free = refl
hidden_not key rule (x ∷ later) free = rw (free 0 x refl) (hidden_not key rule later (λ i other at. free (suc i) other at))

and_parts : (a b : Bool) → (a && not b) ≡ true → (a ≡ true) × (b ≡ false)
and_parts true false h = (refl, refl)
and_parts true true h = absurd (true≢false (sym h))
and_parts false b h = absurd (true≢false (sym h))

first_in_force : (key : List ℕ) (rule : Rule) (later : List Rule) → in_force key rule later ≡ true → IsInForce (rule ∷ later) key rule
first_in_force key rule later told =
    let parts = and_parts (holds rule key) (list_any (hides key rule) later) told in
    record {
      place = 0;
      here = refl;
      held = parts.0;
      free = λ i other after at. behind parts.1 i other after at;
    }
  where
    behind : list_any (hides key rule) later ≡ false → (i : ℕ) (other : Rule) → 0 < i → slice_get (rule ∷ later) i ≡ Some other → hides key rule other ≡ false
    behind none zero other after at = absurd (omega arith)
    behind none (suc i) other after at = free_of key rule later none i other at

further_in_force : (key : List ℕ) (x : Rule) (later : List Rule) (rule : Rule) → IsInForce later key rule → IsInForce (x ∷ later) key rule
further_in_force key x later rule is =
    record { place = suc is.place; here = is.here; held = is.held; free = λ i other after at. behind i other after at }
  where
    behind : (i : ℕ) (other : Rule) → suc is.place < i → slice_get (x ∷ later) i ≡ Some other → hides key rule other ≡ false
    behind zero other after at = absurd (omega arith)
    behind (suc i) other after at = is.free i other (omega arith) at

pub found_in_force : (key : List ℕ) (rules : List Rule) (rule : Rule) → Contains (rules_at key rules) rule → IsInForce rules key rule
found_in_force key [] rule has = absurd (contains_none rule has)
found_in_force key (x ∷ later) rule has = by (in_force key x later) refl has (found_in_force key later rule)
  where
    split : in_force key x later ≡ true → (x ≡ rule) ⊎ Contains (rules_at key later) rule → (Contains (rules_at key later) rule → IsInForce later key rule) → IsInForce (x ∷ later) key rule
    split told (inl here) rest = subst (λ r. IsInForce (x ∷ later) key r) here (first_in_force key x later told)
    split told (inr there) rest = further_in_force key x later rule (rest there)

    by : (t : Bool) → in_force key x later ≡ t → Contains (cond t (x ∷ rules_at key later) (rules_at key later)) rule → (Contains (rules_at key later) rule → IsInForce later key rule) → IsInForce (x ∷ later) key rule
    by true told h rest = split told (contains_cases x rule (rules_at key later) h) rest
    by false told h rest = further_in_force key x later rule (rest h)

at_place : (key : List ℕ) (rules : List Rule) (rule : Rule) (place : ℕ) → slice_get rules place ≡ Some rule → holds rule key ≡ true → ((later : ℕ) (other : Rule) → place < later → slice_get rules later ≡ Some other → hides key rule other ≡ false) → Contains (rules_at key rules) rule
at_place key [] rule place here held free = absurd cc
at_place key (x ∷ later) rule zero here held free =
    let same : x ≡ rule = cc in
    let none : list_any (hides key x) later ≡ false = hidden_not key x later (λ i other at. subst (λ r. hides key r other ≡ false) (sym same) (free (suc i) other (omega arith) at)) in
    let told : holds x key ≡ true = subst (λ r. holds r key ≡ true) (sym same) held in
    rw (told, none) (contains_here x rule (rules_at key later) same)
at_place key (x ∷ later) rule (suc place) here held free =
    by (in_force key x later) (at_place key later rule place here held (λ i other after at. free (suc i) other (omega arith) at))
  where
    by : (t : Bool) → Contains (rules_at key later) rule → Contains (cond t (x ∷ rules_at key later) (rules_at key later)) rule
    by true rest = contains_tail x rule (rules_at key later) rest
    by false rest = rest

pub in_force_found : (key : List ℕ) (rules : List Rule) (rule : Rule) → IsInForce rules key rule → Contains (rules_at key rules) rule
in_force_found key rules rule is = at_place key rules rule is.place is.here is.held is.free

-- what holds of the rules in force holds of those found
pub of_found : {E : Type 0} (P : List Rule → Type 0) (key : List ℕ) (xs rules : List Rule) (r : Result (List Rule) E) → IfOk r (λ found. found ≡ rules_at key xs) → xs ≡ rules → P (rules_at key rules) → IfOk r P
of_found P key xs rules r value same holds =
    IfOk-weaker r (λ found. found ≡ rules_at key xs) P (λ found is. subst P (sym (is ∙ ap (rules_at key) same)) holds) value
