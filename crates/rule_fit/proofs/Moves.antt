-- One peer moves to a rule that has room.
use Rattle.std.proofs.Common.{ℕ, Bool, true, cond, ◌≡◌, ◌+◌, ◌<◌, ◌≤◌, eqb, arith, refl, sym, ◌∙◌, List, length, get_or, set, Option, Some, None, inl, inr, get_or-set_same, get_or-set_other, subst}
use Rattle.std.specs.Prelude.{is_some}
use Rattle.std.proofs.lemmas.Bool.{cases_eq, eq-eqb, ne_eqb}
use Rattle.std.proofs.lemmas.List.Sums.{sum_by-set}
use Rattle.std.proofs.Math.ListN.{length-set}
use Rattle.rule_fit.specs.Assignment.{has, held, placed, IsAssignment}

some_one : (a b : ℕ) → Some a ≡ Some b → a ≡ b
some_one a b e = cc

pub held_set : (given : List (Option ℕ)) (p r s : ℕ) → p < length given → held (set given p (Some r)) s + cond (has s (get_or given p None)) 1 0 ≡ held given s + cond (eqb r s) 1 0
held_set given p r s below = sum_by-set (λ y. cond (has s y) 1 0) given p (Some r) None below

pub placed_set : (given : List (Option ℕ)) (p r : ℕ) → p < length given → placed (set given p (Some r)) + cond (is_some (get_or given p None)) 1 0 ≡ placed given + 1
placed_set given p r below = sum_by-set (λ y. cond (is_some y) 1 0) given p (Some r) None below

-- a peer without a rule is one more with one
pub placed_new : (given : List (Option ℕ)) (p r : ℕ) → p < length given → get_or given p None ≡ None → placed (set given p (Some r)) ≡ placed given + 1
placed_new given p r below none = let all = rw none at (placed_set given p r below) in omega arith

pub placed_kept : (given : List (Option ℕ)) (p r s : ℕ) → p < length given → get_or given p None ≡ Some s → placed (set given p (Some r)) ≡ placed given
placed_kept given p r s below some = let all = rw some at (placed_set given p r below) in omega arith

pub moved : (suits : ℕ → ℕ → Bool) (peers : ℕ) (counts : List ℕ) (given : List (Option ℕ)) (p r : ℕ) → IsAssignment suits peers counts given → p < peers → r < length counts → suits p r ≡ true → held given r < get_or counts r 0 → IsAssignment suits peers counts (set given p (Some r))
moved suits peers counts given p r assigned below known suited room =
    let each = assigned.each in
    let inside : p < length given = omega arith in
    record {
      each = length-set given p (Some r) ∙ each;
      known = λ q s e. elim (cases_eq q p) [
        | inl same ↦ let e2 : Some r ≡ Some s = sym (get_or-set_same given p (Some r) None inside) ∙ rw same at e in let e3 = some_one r s e2 in omega arith
        | inr other ↦ assigned.known q s (sym (get_or-set_other given p q (Some r) None other) ∙ e)
      ];
      suited = λ q s e. elim (cases_eq q p) [
        | inl same ↦ let e2 : Some r ≡ Some s = sym (get_or-set_same given p (Some r) None inside) ∙ rw same at e in rw (same, ← some_one r s e2) suited
        | inr other ↦ assigned.suited q s (sym (get_or-set_other given p q (Some r) None other) ∙ e)
      ];
      within = λ s h. elim (cases_eq r s) [
        | inl same ↦ subst (λ (t : ℕ). held (set given p (Some r)) t ≤ get_or counts t 0) same (let all = rw (eq-eqb r r refl) at (held_set given p r r inside) in omega arith)
        | inr other ↦ let all = rw (ne_eqb r s other) at (held_set given p r s inside) in let most = assigned.within s h in omega arith
      ];
    }

-- the rule that it leaves has room
pub moved_room : (suits : ℕ → ℕ → Bool) (peers : ℕ) (counts : List ℕ) (given : List (Option ℕ)) (p r s : ℕ) → IsAssignment suits peers counts given → p < peers → held given r < get_or counts r 0 → get_or given p None ≡ Some s → held (set given p (Some r)) s < get_or counts s 0
moved_room suits peers counts given p r s assigned below room some =
    let each = assigned.each in
    let inside : p < length given = omega arith in
    let known : s < length counts = assigned.known p s some in
    let most : held given s ≤ get_or counts s 0 = assigned.within s known in
    let all = rw (some, eq-eqb s s refl) at (held_set given p r s inside) in
    elim (cases_eq r s) [
      | inl same ↦ let full : held given s < get_or counts s 0 = subst (λ (t : ℕ). held given t < get_or counts t 0) same room in
          let one : eqb r s ≡ true = eq-eqb r s same in let last = rw one at all in omega arith
      | inr other ↦ let last = rw (ne_eqb r s other) at all in omega arith
    ]
