-- What tests and orders of numbers say.
use Rattle.std.proofs.Common.{◌≡◌, ◌≢◌, ℕ, ◌<◌, ◌≤◌, Bool, true, false, nat_eq, nat_lt, arith}
use Rattle.std.proofs.lemmas.Bool.Decides.{nat_tests}
use Rattle.pd_types.specs.Numbers.{lesser_then}

pub same_number : (a b : ℕ) → nat_eq a b ≡ true → a ≡ b
same_number a b h = grind (arith, nat_tests)

pub equal : (a b : ℕ) → a ≡ b → nat_eq a b ≡ true
equal a b h = grind (arith, nat_tests)

pub differ : (a b : ℕ) → a ≢ b → nat_eq a b ≡ false
differ a b h = grind (arith, nat_tests)

pub other_number : (a b : ℕ) → nat_eq a b ≡ false → b ≢ a
other_number a b h k = grind (arith, nat_tests)

pub less : (a b : ℕ) → a < b → nat_lt a b ≡ true
less a b h = grind (arith, nat_tests)

pub not_less : (a b : ℕ) → b ≤ a → nat_lt a b ≡ false
not_less a b h = grind (arith, nat_tests)

pub less_on : (a b c : ℕ) → nat_lt a b ≡ true → nat_lt b c ≡ true → nat_lt a c ≡ true
less_on a b c h k = grind (arith, nat_tests)

pub less_self : (a : ℕ) → nat_lt a a ≡ false
less_self a = grind (arith, nat_tests)

pub lesser_on : (a b c : ℕ) (p q r : Bool) → (p ≡ true → q ≡ true → r ≡ true) → lesser_then a b p ≡ true → lesser_then b c q ≡ true → lesser_then a c r ≡ true
lesser_on a b c p q r rest first second = grind (arith, nat_tests)

pub lesser_self : (a : ℕ) (p : Bool) → p ≡ false → lesser_then a a p ≡ false
lesser_self a p h = grind (arith, nat_tests)
