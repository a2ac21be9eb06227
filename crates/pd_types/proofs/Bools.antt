-- What tests that are true or false say.
use Rattle.std.proofs.Common.{refl, ◌≡◌, Bool, true, false, not, ◌&&◌, ◌||◌, sym, ◌∙◌, ◌⊎◌, inl, inr}
use Rattle.std.proofs.lemmas.Bool.{true≢false}

pub both : {b : Bool} → b ≡ true → b ≡ false → ⊥
both one other = true≢false (sym one ∙ other)

pub and_true : (a b : Bool) → a && b ≡ true → (a ≡ true) × (b ≡ true)
and_true true b h = (refl, h)
and_true false b h = absurd (true≢false (sym h))

pub and_both : (a b : Bool) → a ≡ true → b ≡ true → a && b ≡ true
and_both true b h k = k
and_both false b h k = absurd (true≢false (sym h))

pub and_left : (a b : Bool) → a ≡ false → a && b ≡ false
and_left true b h = absurd (true≢false h)
and_left false b h = refl

pub and_right : (a b : Bool) → b ≡ false → a && b ≡ false
and_right true b h = h
and_right false b h = refl

pub not_true : (a : Bool) → not a ≡ true → a ≡ false
not_true true h = absurd (true≢false (sym h))
not_true false h = refl

pub not_false : (a : Bool) → not a ≡ false → a ≡ true
not_false true h = refl
not_false false h = absurd (true≢false h)

pub or_false : (a b : Bool) → a || b ≡ false → (a ≡ false) × (b ≡ false)
or_false true b h = absurd (true≢false h)
or_false false b h = (refl, h)

pub or_both : (a b : Bool) → a ≡ false → b ≡ false → a || b ≡ false
or_both true b h k = absurd (true≢false h)
or_both false b h k = k

pub or_true : (a b : Bool) → a || b ≡ true → (a ≡ true) ⊎ (b ≡ true)
or_true true b h = inl refl
or_true false b h = inr h

pub or_right : (a b : Bool) → b ≡ true → a || b ≡ true
or_right true b h = refl
or_right false b h = h
