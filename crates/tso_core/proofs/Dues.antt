-- Tests of dues and plans, and what they say.
use Rattle.std.proofs.Common.{◌≡◌, ℕ, zero, suc, ◌<◌, true, cond, eqb, refl, sym, ap, ◌∙◌, arith}
use Rattle.std.proofs.lemmas.Bool.Decides.{nat_tests}
use Rattle.std.specs.Prelude.{Option, None, Some}
use Rattle.tso_model.specs.declared.entries.Limit.{Limit}
use Rattle.tso_model.specs.declared.view.View.{View}
use Rattle.tso_model.specs.Steps.{HasHand}
use Rattle.tso_model.proofs.Basics.{by_eq}
use Rattle.tso_core.specs.declared.reply.Due.{Due}
use Rattle.tso_core.specs.declared.reply.Due.TheVariants.{Rest, Campaign, Save, Raise, Publish, Arm, Draw}
use Rattle.tso_core.specs.Due.{place_of, same_due}
use Rattle.tso_core.specs.Steps.{hand_due, client_due}

due_at : ℕ → Due
due_at zero = Rest
due_at (suc zero) = Campaign
due_at (suc (suc zero)) = Save
due_at (suc (suc (suc zero))) = Raise
due_at (suc (suc (suc (suc zero)))) = Publish
due_at (suc (suc (suc (suc (suc zero))))) = Arm
due_at (suc (suc (suc (suc (suc (suc n)))))) = Draw

at_place : (due : Due) → due_at (place_of due) ≡ due
unfolding due_at
at_place Rest = refl
at_place Campaign = refl
at_place Save = refl
at_place Raise = refl
at_place Publish = refl
at_place Arm = refl
at_place Draw = refl

pub eq_test : (m n : ℕ) → eqb m n ≡ true → m ≡ n
eq_test m n test = grind (arith, nat_tests)

pub is_due : (a b : Due) → same_due a b ≡ true → a ≡ b
is_due a b test = sym (at_place a) ∙ ap due_at (eq_test (place_of a) (place_of b) test) ∙ at_place b

pub is_same : (a b : Due) → a ≡ b → same_due a b ≡ true
is_same a b same = let e = ap place_of same in grind (arith, nat_tests)

-- what the due of a client says of its view
rest_from : (o : Option Limit) (armed : ℕ) → hand_due o armed ≡ Rest → o ≡ None
rest_from None armed due = refl
rest_from (Some limit) armed due = absurd (by_eq (λ b. place_of (cond b Arm Draw) ≡ 0 → ⊥) armed 0 (λ _ e. omega arith) (λ _ e. omega arith) (ap place_of due))

arm_from : (o : Option Limit) (armed : ℕ) → hand_due o armed ≡ Arm → ((l : Limit) × (o ≡ Some l)) × (armed ≡ 0)
arm_from None armed due = absurd (let e = ap place_of due in omega arith)
arm_from (Some limit) armed due = ((limit, refl), by_eq (λ b. place_of (cond b Arm Draw) ≡ 5 → armed ≡ 0) armed 0 (λ same e. same) (λ _ e. absurd (omega arith)) (ap place_of due))

draw_from : (o : Option Limit) (armed : ℕ) → hand_due o armed ≡ Draw → ((l : Limit) × (o ≡ Some l)) × (0 < armed)
draw_from None armed due = absurd (let e = ap place_of due in omega arith)
draw_from (Some limit) armed due = ((limit, refl), by_eq (λ b. place_of (cond b Arm Draw) ≡ 6 → 0 < armed) armed 0 (λ _ e. absurd (omega arith)) (λ some e. omega (arith, some)) (ap place_of due))

pub rests : (v : View) → client_due v ≡ Rest → v.hand ≡ None
rests v due = rest_from v.hand v.armed due

pub arms : (v : View) → client_due v ≡ Arm → HasHand v × (v.armed ≡ 0)
arms v due = arm_from v.hand v.armed due

pub draws : (v : View) → client_due v ≡ Draw → HasHand v × (0 < v.armed)
draws v due = draw_from v.hand v.armed due
