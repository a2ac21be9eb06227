-- What the tests say by themselves.
use Rattle.std.proofs.Common.{refl, ◌≡◌, ◌≢◌, ℕ, suc, false, nat_eq, List, [], ◌∷◌, length, arith}
use Rattle.std.proofs.lemmas.Bool.Decides.{nat_tests}
use Rattle.pd_types.specs.Keys.{is_before_end, is_below}
use Rattle.pd_types.proofs.Bools.{or_both}
use Rattle.pd_types.proofs.KeyLemmas.{not_below_itself}

-- a range from a key to itself is empty
pub empty_range : (key : List ℕ) → key ≢ [] → is_before_end key key ≡ false
empty_range [] some = absurd (some refl)
empty_range (x ∷ xs) some = or_both (nat_eq (length (x ∷ xs)) 0) (is_below (x ∷ xs) (x ∷ xs)) (not_none (length xs)) (not_below_itself (x ∷ xs))
  where
    not_none : (n : ℕ) → nat_eq (suc n) 0 ≡ false
    not_none n = grind (arith, nat_tests)
