-- What a seat keeps beside its lists stays right where an entry comes to them.
use Rattle.std.proofs.Common.{◌≡◌, ℕ, ◌+◌, ◌<◌, max, List, [], ◌∷◌, ◌++◌, get_or, set, length, cond, eqb, sym, refl, ap, ◌∙◌, arith}
use Rattle.std.proofs.lemmas.List.{get_or-set_same, get_or-set_other}
use native.Mathlib.Decide.{ℕ_discrete}
use mathlib.Core.Logic.{dite}
use Rattle.tso_model.specs.declared.entries.Start.{Start}
use Rattle.tso_model.specs.declared.entries.Added.{Added}
use Rattle.tso_model.specs.History.{greatest, added_by}
use Rattle.tso_model.proofs.Basics.{by_eq}
use Rattle.tso_model.proofs.Sums.{total-append}
use Rattle.tso_core.specs.Cached.{AreSums}

-- a start of its own comes behind the others
pub greatest_snoc : (d at : ℕ) (ss : List Start) → greatest d (ss ++ record { driver = d; at = at } ∷ []) ≡ max (greatest d ss) at
greatest_snoc d at [] = by_eq (λ b. cond b (max at 0) 0 ≡ max 0 at) d d (λ _. omega arith) (λ apart. absurd (apart refl))
greatest_snoc d at (s ∷ ss) = by_eq (λ b. cond b (max s.at (greatest d (ss ++ record { driver = d; at = at } ∷ []))) (greatest d (ss ++ record { driver = d; at = at } ∷ [])) ≡ max (cond b (max s.at (greatest d ss)) (greatest d ss)) at) s.driver d
    (λ _. omega (arith, greatest_snoc d at ss)) (λ _. greatest_snoc d at ss)

added_snoc : (c e d n : ℕ) (xs : List Added) → added_by c e (xs ++ record { client = c; driver = d; count = n } ∷ []) ≡ added_by c e xs + cond (eqb d e) (cond (eqb c c) n 0) 0
added_snoc c e d n xs = omega (arith, total-append (λ (a : Added). cond (eqb a.driver e) (cond (eqb a.client c) a.count 0) 0) xs (record { client = c; driver = d; count = n } ∷ []))

-- a count of the client comes behind the others, and its sum at that driver rises by it
pub sums_snoc : (c d n : ℕ) (xs : List Added) (sums : List ℕ) → AreSums c xs sums → d < length sums → d < 8 → AreSums c (xs ++ record { client = c; driver = d; count = n } ∷ []) (set sums d (get_or sums d 0 + n))
sums_snoc c d n xs sums old within small e below = dite (ℕ_discrete e d)
    (λ same. ap (λ (m : ℕ). get_or (set sums d (get_or sums d 0 + n)) m 0) same ∙ get_or-set_same sums d (get_or sums d 0 + n) 0 within
    ∙ omega (arith, old d small, added_snoc c d d n xs, by_eq (λ b. (let m : ℕ = cond b (cond (eqb c c) n 0) 0 in m) ≡ n) d d (λ _. by_eq (λ b. (let m : ℕ = cond b n 0 in m) ≡ n) c c (λ _. refl) (λ apart. absurd (apart refl))) (λ apart. absurd (apart refl)))
    ∙ sym (ap (λ (m : ℕ). added_by c m (xs ++ record { client = c; driver = d; count = n } ∷ [])) same))
    (λ apart. get_or-set_other sums d e (get_or sums d 0 + n) 0 apart
    ∙ omega (arith, old e below, added_snoc c e d n xs, by_eq (λ b. (let m : ℕ = cond b (cond (eqb c c) n 0) 0 in m) ≡ 0) d e (λ same. absurd (apart (sym same))) (λ _. refl)))
