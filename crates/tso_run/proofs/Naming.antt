-- The lines of one number.
use Rattle.std.proofs.Common.{◌≡◌, ◌==◌, ℕ, zero, suc, Bool, true, false, cond, List, [], ◌∷◌, filter, Contains, arith, sym, ◌∙◌, ap}
use Rattle.std.proofs.lemmas.Bool.Decides.{nat_tests}
use Rattle.std.proofs.lemmas.List.Elements.{filter_passes}

-- what passes stays
pub stays : {A : Type 0} (test : A → Bool) (xs : List A) (x : A) → test x ≡ true → Contains xs x → Contains (filter test xs) x
stays test [] x passes held = absurd (omega (arith, held.1))
stays test (y ∷ ys) x passes (zero, low, at) = rw (ap test at ∙ passes) (0, omega arith, at)
stays test (y ∷ ys) x passes (suc k, low, at) = by (test y) (stays test ys x passes (k, omega arith, at))
  where
    by : (b : Bool) → Contains (filter test ys) x → Contains (cond b (y ∷ filter test ys) (filter test ys)) x
    by true rest = let within = rest.1 in (suc rest.0, omega arith, rest.2)
    by false rest = rest

-- what stayed passes
pub passed : {A : Type 0} (test : A → Bool) (xs : List A) (x : A) → Contains (filter test xs) x → test x ≡ true
passed test xs x held = ap test (sym held.2) ∙ filter_passes test xs held.0 x held.1

pub same : (a : ℕ) → (a == a) ≡ true
same a = grind (arith, nat_tests)

pub equal : (a b : ℕ) → (a == b) ≡ true → a ≡ b
equal a b h = grind (arith, nat_tests)
