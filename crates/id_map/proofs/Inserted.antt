-- What a map has at a key after a value is written.
use Rattle.std.proofs.Common.{◌≡◌, ◌≢◌, ℕ, cond, eqb, ap, refl, ◌∙◌, Some, is_some, IsSome}
use Rattle.std.proofs.lemmas.Bool.{eq-eqb, ne_eqb}
use Rattle.std.specs.Ordering.{nat_cmp}
use Rattle.std.specs.Cmp.{nat_cmp_total, unsigned_tied}
use Rattle.std.specs.FinMap as map

pub get-insert : {X : Type 0} (m : map.FinMap nat_cmp X) (k : ℕ) (v : X) (q : ℕ) → map.get (map.insert m k v) q ≡ cond (eqb q k) (Some v) (map.get m q)
get-insert m k v q = map.get-insert nat_cmp_total m k v q ∙ ap (λ b. cond b (Some v) (map.get m q)) (unsigned_tied q k)

pub same-insert : {X : Type 0} (m : map.FinMap nat_cmp X) (k : ℕ) (v : X) → map.get (map.insert m k v) k ≡ Some v
same-insert m k v = get-insert m k v k ∙ ap (λ b. cond b (Some v) (map.get m k)) (eq-eqb k k refl)

pub known-insert : {X : Type 0} (m : map.FinMap nat_cmp X) (k : ℕ) (v : X) → IsSome (map.get (map.insert m k v) k)
known-insert m k v = ap is_some (same-insert m k v)

pub other-insert : {X : Type 0} (m : map.FinMap nat_cmp X) (k : ℕ) (v : X) (q : ℕ) → q ≢ k → map.get (map.insert m k v) q ≡ map.get m q
other-insert m k v q away = get-insert m k v q ∙ ap (λ b. cond b (Some v) (map.get m q)) (ne_eqb q k away)
