-- Laws of the definitions.
use Rattle.std.proofs.Common.{refl, ◌≡◌, ◌≢◌, ℕ, ◌+◌, ◌<◌, ◌≤◌, Bool, true, false, ◌&&◌, cond, nat_lt, List, ◌∷◌, Option, Some, None, ap, sym, ◌∙◌, arith}
use Rattle.std.proofs.lemmas.Bool.{lt-ltb, le-ltb, eq-eqb, ne_eqb}
use Rattle.std.proofs.lemmas.Bool.Decides.{nat_tests}
use Rattle.pd_types.proofs.KeyLemmas.{equal_keys}
use Rattle.meta_store.specs.declared.record.Cell.{Cell}
use Rattle.meta_store.specs.declared.record.MetaCall.TheVariants as calls
use Rattle.meta_store.specs.declared.record.MetaEntry.{MetaEntry}
use Rattle.meta_store.specs.declared.record.MetaVerdict.TheVariants as verdicts
use Rattle.meta_store.specs.Past.{announced, counter_of, entry_of, fence_of, is_accepted, is_of, left_by, lead_verdict, record_of, write_verdict}
use Rattle.meta_store.proofs.Refines.{counted}

pub lead_full : (fence counter term : ℕ) → fence ≤ term → lead_verdict fence counter 262144 term ≡ verdicts.Limit
lead_full fence counter term from = rw (le-ltb _ _ from) refl

pub lead_free : (fence counter term : ℕ) → fence ≤ term → lead_verdict fence counter 262143 term ≡ verdicts.Accepted counter
lead_free fence counter term from = rw (le-ltb _ _ from) refl

pub write_full : (fence counter found term : ℕ) → fence ≤ term → write_verdict fence counter 262144 found false term found ≡ verdicts.Limit
write_full fence counter found term from = rw (le-ltb _ _ from, eq-eqb found found refl) refl

pub write_free : (fence counter found term : ℕ) → fence ≤ term → write_verdict fence counter 262143 found false term found ≡ verdicts.Accepted (counter + 1)
write_free fence counter found term from = rw (le-ltb _ _ from, eq-eqb found found refl) refl

pub old_first : (fence counter entries found term expected : ℕ) (full : Bool) → term < fence → write_verdict fence counter entries found full term expected ≡ verdicts.OldTerm fence
old_first fence counter entries found term expected full below = rw (lt-ltb _ _ below) refl

pub conflict_next : (fence counter entries found term expected : ℕ) (full : Bool) → fence ≤ term → expected ≢ found → write_verdict fence counter entries found full term expected ≡ verdicts.Conflict found
conflict_next fence counter entries found term expected full from other = rw (le-ltb _ _ from, ne_eqb _ _ other) refl

pub limit_last : (fence counter entries found term : ℕ) → fence ≤ term → write_verdict fence counter entries found true term found ≡ verdicts.Limit
limit_last fence counter entries found term from = rw (le-ltb _ _ from, eq-eqb found found refl) refl

pub put_counts : (past : List MetaEntry) (driver term expected revision : ℕ) (key bytes : List ℕ)
    → record_of key (entry_of driver (calls.Put term key expected bytes) (verdicts.Accepted revision) ∷ past) ≡ Some (record { key = key; revision = counter_of past + 1; bytes = bytes })
put_counts past driver term expected revision key bytes =
    ap (λ (t : Bool). cond t (left_by (calls.Put term key expected bytes) (counter_of (entry_of driver (calls.Put term key expected bytes) (verdicts.Accepted revision) ∷ past))) (record_of key past)) (equal_keys key key refl)
    ∙ ap (λ (n : ℕ). let one : Option Cell = Some (record { key = key; revision = n; bytes = bytes }) in one) (sym (counted driver past (calls.Put term key expected bytes) revision refl))

pub delete_counts : (past : List MetaEntry) (driver term expected revision : ℕ) (key : List ℕ)
    → record_of key (entry_of driver (calls.Delete term key expected) (verdicts.Accepted revision) ∷ past) ≡ None
delete_counts past driver term expected revision key = ap (λ (t : Bool). cond t None (record_of key past)) (equal_keys key key refl)

left_unless : {X : Type 0} (a b : Bool) (one other : X) → a ≡ false → cond (a && b) one other ≡ other
left_unless true b one other h = absurd cc
left_unless false b one other h = refl

left_where : {X : Type 0} (a b : Bool) (one other : X) → b ≡ false → cond (a && b) one other ≡ other
left_where true true one other h = absurd cc
left_where true false one other h = refl
left_where false b one other h = refl

pub refused_leaves : (past : List MetaEntry) (entry : MetaEntry) (key : List ℕ) → is_accepted entry.verdict ≡ false → record_of key (entry ∷ past) ≡ record_of key past
refused_leaves past entry key h = left_unless (is_accepted entry.verdict) (is_of key entry.call) _ _ h

pub others_leave : (past : List MetaEntry) (entry : MetaEntry) (key : List ℕ) → is_of key entry.call ≡ false → record_of key (entry ∷ past) ≡ record_of key past
others_leave past entry key h = left_where (is_accepted entry.verdict) (is_of key entry.call) _ _ h

grows : (fence term : ℕ) (a t : Bool) → nat_lt fence term ≡ t → fence ≤ cond (a && t) term fence
grows fence term true true h = grind (arith, nat_tests)
grows fence term true false h = omega arith
grows fence term false t h = omega arith

pub fence_grows : (past : List MetaEntry) (entry : MetaEntry) → fence_of past ≤ fence_of (entry ∷ past)
fence_grows past entry = grows (fence_of past) (announced entry.call) (is_accepted entry.verdict) (nat_lt (fence_of past) (announced entry.call)) refl

has : (fence term : ℕ) (a t : Bool) → a ≡ true → nat_lt fence term ≡ t → term ≤ cond (a && t) term fence
has fence term true true h less = omega arith
has fence term true false h less = grind (arith, nat_tests)
has fence term false t h less = absurd cc

pub fence_has : (past : List MetaEntry) (entry : MetaEntry) → is_accepted entry.verdict ≡ true → announced entry.call ≤ fence_of (entry ∷ past)
fence_has past entry h = has (fence_of past) (announced entry.call) (is_accepted entry.verdict) (nat_lt (fence_of past) (announced entry.call)) h refl

pub fence_stays : (past : List MetaEntry) (entry : MetaEntry) → is_accepted entry.verdict ≡ false → fence_of (entry ∷ past) ≡ fence_of past
fence_stays past entry h = left_unless (is_accepted entry.verdict) (nat_lt (fence_of past) (announced entry.call)) _ _ h
