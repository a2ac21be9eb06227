-- What the charges of an operator's earlier steps leave of a store's bucket.
use Rattle.std.proofs.Common.{◌≡◌, ◌==◌, ℕ, ◌+◌, ◌-◌, ◌*◌, Bool, true, false, cond, ◌&&◌, List, [], ◌∷◌, ◌++◌, min, max, refl, sym, ap, ◌∙◌, ⊎_elim, eqb, arith, Option, Some, None}
use Rattle.std.proofs.lemmas.Bool.{cases_eq, eq-eqb, ne_eqb}
use Rattle.std.specs.Option.{option_map_or}
use Rattle.std.specs.FinMap as map
use Rattle.pd_types.specs.declared.step.Step.{Step}
use Rattle.id_map.proofs.Inserted.{get-insert}
use Rattle.store_limit.specs.declared.bucket.TheConstants.{PEER_UNITS}
use Rattle.store_limit.specs.declared.bucket.Buckets.{Buckets}
use Rattle.store_limit.specs.declared.limits.LimitKind.{LimitKind}
use Rattle.store_limit.specs.declared.limits.LimitKind.TheVariants as kinds
use Rattle.store_limit.specs.Level.{Level, available_at, cap_of, charged}
use Rattle.store_limit.specs.Limits.{StoreLimits, available_in, changed_by, level_of, with_level}
use Rattle.op_control.specs.Charging.{after_charges, charge_of, charged_by}
use Rattle.op_control.specs.Counting.{count_same, is_same, same_kind}

-- a charge takes a peer's units at once
available-charged : (level : Level) (now : ℕ) → available_at (charged level now) now ≡ available_at level now - PEER_UNITS
available-charged level now =
    let gone : now - max level.moment now ≡ 0 = omega arith in
    ap (λ d. min (cap_of level.rate) (available_at level now - PEER_UNITS + level.rate * d)) gone ∙ omega arith

-- of the one bucket, and none of the other
available-kinds : (kind other : LimitKind) (buckets : Buckets) (now : ℕ) → available_at (level_of other (with_level kind (charged (level_of kind buckets) now) buckets)) now ≡ available_at (level_of other buckets) now - cond (same_kind other kind) PEER_UNITS 0
available-kinds kinds.AddPeer kinds.AddPeer buckets now = available-charged buckets.add now
available-kinds kinds.AddPeer kinds.RemovePeer buckets now = omega arith
available-kinds kinds.RemovePeer kinds.AddPeer buckets now = omega arith
available-kinds kinds.RemovePeer kinds.RemovePeer buckets now = available-charged buckets.remove now

less-none : (b : Bool) (n : ℕ) → n ≡ n - cond (b && false) PEER_UNITS 0
less-none true n = omega arith
less-none false n = omega arith

zero-less : (b : Bool) → 0 ≡ 0 - cond b PEER_UNITS 0
zero-less true = omega arith
zero-less false = omega arith

and-true : (b : Bool) (n : ℕ) → n - cond b PEER_UNITS 0 ≡ n - cond (b && true) PEER_UNITS 0
and-true true n = refl
and-true false n = refl

available-changed : (o : Option Buckets) (limits : StoreLimits) (store other : ℕ) (kind which : LimitKind) (now : ℕ) → map.get limits store ≡ o
    → available_in (changed_by o (λ level. charged level now) limits store kind) other which now ≡ available_in limits other which now - cond (same_kind which kind && (store == other)) PEER_UNITS 0
available-changed None limits store other kind which now known =
    ⊎_elim
    (λ same.
    let none : available_in limits other which now ≡ 0 = ap (λ q. available_in limits q which now) (sym same) ∙ ap (λ o. option_map_or (λ buckets. available_at (level_of which buckets) now) o 0) known in
    none ∙ zero-less (same_kind which kind && eqb store other) ∙ ap (λ n. n - cond (same_kind which kind && eqb store other) PEER_UNITS 0) (sym none))
    (λ apart. less-none (same_kind which kind) _ ∙ ap (λ b. available_in limits other which now - cond (same_kind which kind && b) PEER_UNITS 0) (sym (ne_eqb store other apart)))
    (cases_eq store other)
available-changed (Some buckets) limits store other kind which now known =
    let value : Option Buckets → ℕ = λ o. option_map_or (λ found. available_at (level_of which found) now) o 0 in
    let new : Buckets = with_level kind (charged (level_of kind buckets) now) buckets in
    ap value (get-insert limits store new other) ∙ ⊎_elim
    (λ same.
    ap (λ b. value (cond b (Some new) (map.get limits other))) (eq-eqb other store (sym same)) ∙ available-kinds kind which buckets now
    ∙ and-true (same_kind which kind) _
    ∙ ap (λ b. available_at (level_of which buckets) now - cond (same_kind which kind && b) PEER_UNITS 0) (sym (eq-eqb store other same))
    ∙ ap (λ o. value o - cond (same_kind which kind && eqb store other) PEER_UNITS 0) (sym (ap (map.get limits) (sym same) ∙ known)))
    (λ apart.
    ap (λ b. value (cond b (Some new) (map.get limits other))) (ne_eqb other store (λ e. apart (sym e)))
    ∙ less-none (same_kind which kind) _ ∙ ap (λ b. available_in limits other which now - cond (same_kind which kind && b) PEER_UNITS 0) (sym (ne_eqb store other apart)))
    (cases_eq store other)

available-step : (charge : Option (LimitKind × ℕ)) (limits : StoreLimits) (store : ℕ) (kind : LimitKind) (now : ℕ) → available_in (charged_by charge limits now) store kind now ≡ available_in limits store kind now - cond (is_same kind store charge) PEER_UNITS 0
available-step None limits store kind now = omega arith
available-step (Some charge) limits store kind now = available-changed (map.get limits charge.1) limits charge.1 store charge.0 kind now refl

combine : (b : Bool) (a n : ℕ) → (a - cond b PEER_UNITS 0) - PEER_UNITS * n ≡ a - PEER_UNITS * cond b (n + 1) n
combine true a n = omega arith
combine false a n = omega arith

-- the charges of steps take a peer's units each of the bucket that they charge
pub available-after : (steps : List Step) (limits : StoreLimits) (store : ℕ) (kind : LimitKind) (now : ℕ) → available_in (after_charges steps limits now) store kind now ≡ available_in limits store kind now - PEER_UNITS * count_same kind store steps
available-after [] limits store kind now = omega arith
available-after (step ∷ more) limits store kind now =
    available-after more (charged_by (charge_of step) limits now) store kind now
    ∙ ap (λ n. n - PEER_UNITS * count_same kind store more) (available-step (charge_of step) limits store kind now)
    ∙ combine (is_same kind store (charge_of step)) _ (count_same kind store more)

-- one step more is charged after the others
pub charges-push : (steps : List Step) (step : Step) (limits : StoreLimits) (now : ℕ) → after_charges (steps ++ step ∷ []) limits now ≡ charged_by (charge_of step) (after_charges steps limits now) now
charges-push [] step limits now = refl
charges-push (one ∷ more) step limits now = charges-push more step (charged_by (charge_of one) limits now) now
