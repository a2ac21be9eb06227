-- What becomes of a call, by the entries before it, and what drivers hear of it.
use Rattle.std.proofs.Common.{refl, ◌≡◌, ◌≢◌, ℕ, ◌+◌, ◌<◌, ◌≤◌, Bool, true, false, ◌&&◌, cond, nat_le, nat_lt, List, [], ◌∷◌, ◌++◌, length, Some, None, ap, sym, ◌∙◌, arith}
use Rattle.std.proofs.lemmas.Bool.{lt-ltb, le-ltb, eq-eqb, ne_eqb}
use Rattle.std.proofs.lemmas.Bool.Decides.{nat_tests}
use Rattle.std.proofs.lemmas.List.Sums.{sum_by-cons}
use Rattle.meta_store.specs.declared.fault.MetaFault.TheVariants as faults
use Rattle.meta_store.specs.declared.record.Cell.{Cell}
use Rattle.meta_store.specs.declared.record.MetaCall.{MetaCall}
use Rattle.meta_store.specs.declared.record.MetaCall.TheVariants as calls
use Rattle.meta_store.specs.declared.record.MetaEntry.{MetaEntry}
use Rattle.meta_store.specs.declared.record.MetaVerdict.{MetaVerdict}
use Rattle.meta_store.specs.declared.record.MetaVerdict.TheVariants as verdicts
use Rattle.meta_store.specs.Doors.{answer_of, said_of}
use Rattle.meta_store.specs.Past.{IsExpected, Refused, announced, counter_of, entry_of, fence_of, is_accepted, is_full, is_write, record_of, records_of, revision_of, term_of, verdict_of, write_verdict}
use Rattle.meta_store.proofs.Refines.{counted, not_zero}

-- accepted calls
pub lead_accepted : (past : List MetaEntry) (term : ℕ) → fence_of past ≤ term → length past < 262144 → verdict_of past (calls.Lead term) ≡ verdicts.Accepted (counter_of past)
lead_accepted past term from room =
    let free : nat_le 262144 (length past) ≡ false = grind (arith, nat_tests) in
    rw (le-ltb _ _ from, free) refl

write_accepted : (fence counter entries found : ℕ) (term : ℕ) → fence ≤ term → entries < 262144 → write_verdict fence counter entries found false term found ≡ verdicts.Accepted (counter + 1)
write_accepted fence counter entries found term from room =
    let free : nat_le 262144 entries ≡ false = grind (arith, nat_tests) in
    rw (le-ltb _ _ from, eq-eqb found found refl, free) refl

pub new_accepted : (past : List MetaEntry) (term : ℕ) (key bytes : List ℕ) → fence_of past ≤ term → length past < 262144 → record_of key past ≡ None → length (records_of past) < 65536 → verdict_of past (calls.Put term key 0 bytes) ≡ verdicts.Accepted (counter_of past + 1)
new_accepted past term key bytes from room none few =
    let free : nat_le 65536 (length (records_of past)) ≡ false = grind (arith, nat_tests) in
    rw (none, free) (write_accepted (fence_of past) (counter_of past) (length past) 0 term from room)

pub known_accepted : (past : List MetaEntry) (term : ℕ) (key bytes : List ℕ) (cell : Cell) → fence_of past ≤ term → length past < 262144 → record_of key past ≡ Some cell → verdict_of past (calls.Put term key cell.revision bytes) ≡ verdicts.Accepted (counter_of past + 1)
known_accepted past term key bytes cell from room known =
    rw known (write_accepted (fence_of past) (counter_of past) (length past) cell.revision term from room)

pub deletion_accepted : (past : List MetaEntry) (term : ℕ) (key : List ℕ) → fence_of past ≤ term → length past < 262144 → verdict_of past (calls.Delete term key (revision_of key past)) ≡ verdicts.Accepted (counter_of past + 1)
deletion_accepted past term key from room = write_accepted (fence_of past) (counter_of past) (length past) (revision_of key past) term from room

-- refused calls
pub old_refused : (past : List MetaEntry) (call : MetaCall) → term_of call < fence_of past → verdict_of past call ≡ verdicts.OldTerm (fence_of past)
old_refused past (calls.Lead term) below = rw (lt-ltb _ _ below) refl
old_refused past (calls.Put term key expected bytes) below = rw (lt-ltb _ _ below) refl
old_refused past (calls.Delete term key expected) below = rw (lt-ltb _ _ below) refl

pub put_refused : (past : List MetaEntry) (term expected : ℕ) (key bytes : List ℕ) → fence_of past ≤ term → expected ≢ revision_of key past → verdict_of past (calls.Put term key expected bytes) ≡ verdicts.Conflict (revision_of key past)
put_refused past term expected key bytes from other = rw (le-ltb _ _ from, ne_eqb _ _ other) refl

pub delete_refused : (past : List MetaEntry) (term expected : ℕ) (key : List ℕ) → fence_of past ≤ term → expected ≢ revision_of key past → verdict_of past (calls.Delete term key expected) ≡ verdicts.Conflict (revision_of key past)
delete_refused past term expected key from other = rw (le-ltb _ _ from, ne_eqb _ _ other) refl

pub new_refused : (past : List MetaEntry) (term : ℕ) (key bytes : List ℕ) → fence_of past ≤ term → record_of key past ≡ None → 65536 ≤ length (records_of past) → verdict_of past (calls.Put term key 0 bytes) ≡ verdicts.Limit
new_refused past term key bytes from none many =
    let full : nat_le 65536 (length (records_of past)) ≡ true = grind (arith, nat_tests) in
    rw (le-ltb _ _ from, none, full) refl

full_write : (fence counter entries found : ℕ) (full : Bool) (term expected : ℕ) → fence ≤ term → expected ≡ found → nat_le 262144 entries ≡ true → write_verdict fence counter entries found full term expected ≡ verdicts.Limit
full_write fence counter entries found true term expected from same many = rw (le-ltb _ _ from, eq-eqb expected found same) refl
full_write fence counter entries found false term expected from same many = rw (le-ltb _ _ from, eq-eqb expected found same, many) refl

pub full_refused : (past : List MetaEntry) (call : MetaCall) → fence_of past ≤ term_of call → 262144 ≤ length past → IsExpected past call → verdict_of past call ≡ verdicts.Limit
full_refused past (calls.Lead term) from many expected =
    let full : nat_le 262144 (length past) ≡ true = grind (arith, nat_tests) in
    rw (le-ltb _ _ from, full) refl
full_refused past (calls.Put term key expected bytes) from many same =
    let full : nat_le 262144 (length past) ≡ true = grind (arith, nat_tests) in
    full_write (fence_of past) (counter_of past) (length past) (revision_of key past) (is_full (record_of key past) (length (records_of past))) term expected from same full
full_refused past (calls.Delete term key expected) from many same =
    let full : nat_le 262144 (length past) ≡ true = grind (arith, nat_tests) in
    full_write (fence_of past) (counter_of past) (length past) (revision_of key past) false term expected from same full

-- counts
pub put_counted : (past : List MetaEntry) (driver term expected revision : ℕ) (key bytes : List ℕ) → counter_of (entry_of driver (calls.Put term key expected bytes) (verdicts.Accepted revision) ∷ past) ≡ counter_of past + 1
put_counted past driver term expected revision key bytes = sym (counted driver past (calls.Put term key expected bytes) revision refl)

pub deletion_counted : (past : List MetaEntry) (driver term expected revision : ℕ) (key : List ℕ) → counter_of (entry_of driver (calls.Delete term key expected) (verdicts.Accepted revision) ∷ past) ≡ counter_of past + 1
deletion_counted past driver term expected revision key = sym (counted driver past (calls.Delete term key expected) revision refl)

uncounted : (past : List MetaEntry) (entry : MetaEntry) → (is_accepted entry.verdict && is_write entry.call) ≡ false → counter_of (entry ∷ past) ≡ counter_of past
uncounted past entry none = sum_by-cons (λ e. cond (is_accepted e.verdict && is_write e.call) 1 0) entry past ∙ ap (λ (t : Bool). cond t 1 0 + counter_of past) none ∙ (let same : 0 + counter_of past ≡ counter_of past = omega arith in same)

either_false : (a b : Bool) → a ≡ false → (a && b) ≡ false
either_false true b none = absurd cc
either_false false b none = refl

both_false : (a b : Bool) → b ≡ false → (a && b) ≡ false
both_false true true none = absurd cc
both_false true false none = refl
both_false false b none = refl

pub lead_uncounted : (past : List MetaEntry) (driver term : ℕ) (verdict : MetaVerdict) → counter_of (entry_of driver (calls.Lead term) verdict ∷ past) ≡ counter_of past
lead_uncounted past driver term verdict = uncounted past (entry_of driver (calls.Lead term) verdict) (both_false (is_accepted verdict) false refl)

pub refused_uncounted : (past : List MetaEntry) (entry : MetaEntry) → is_accepted entry.verdict ≡ false → counter_of (entry ∷ past) ≡ counter_of past
refused_uncounted past entry none = uncounted past entry (either_false (is_accepted entry.verdict) (is_write entry.call) none)

-- fences
pub lead_fences : (past : List MetaEntry) (driver term revision : ℕ) → fence_of past ≤ term → fence_of (entry_of driver (calls.Lead term) (verdicts.Accepted revision) ∷ past) ≡ term
lead_fences past driver term revision from = by (nat_lt (fence_of past) term) refl
  where
    by : (t : Bool) → nat_lt (fence_of past) term ≡ t → cond t term (fence_of past) ≡ term
    by true less = refl
    by false other = grind (arith, nat_tests)

pub writes_leave_fence : (past : List MetaEntry) (entry : MetaEntry) → is_write entry.call ≡ true → fence_of (entry ∷ past) ≡ fence_of past
writes_leave_fence past entry write = by entry.call write (is_accepted entry.verdict)
  where
    by : (call : MetaCall) → is_write call ≡ true → (t : Bool) → cond (t && nat_lt (fence_of past) (announced call)) (announced call) (fence_of past) ≡ fence_of past
    by (calls.Lead term) write t = absurd cc
    by (calls.Put term key expected bytes) write true = sym (not_zero (fence_of past))
    by (calls.Put term key expected bytes) write false = refl
    by (calls.Delete term key expected) write true = sym (not_zero (fence_of past))
    by (calls.Delete term key expected) write false = refl

-- refused calls are entries
pub old_noted : (old new : List MetaEntry) (driver fence : ℕ) (call : MetaCall) → Refused old new driver call (faults.OldTerm fence) → new ≡ old ++ entry_of driver call (verdicts.OldTerm fence) ∷ []
old_noted old new driver fence call is = is.1 ∙ ap (λ (v : MetaVerdict). old ++ entry_of driver call v ∷ []) is.0

pub conflict_noted : (old new : List MetaEntry) (driver found : ℕ) (call : MetaCall) → Refused old new driver call (faults.Conflict found) → new ≡ old ++ entry_of driver call (verdicts.Conflict found) ∷ []
conflict_noted old new driver found call is = is.1 ∙ ap (λ (v : MetaVerdict). old ++ entry_of driver call v ∷ []) is.0

pub limit_noted : (old new : List MetaEntry) (driver : ℕ) (call : MetaCall) → Refused old new driver call faults.Limit → new ≡ old ++ entry_of driver call verdicts.Limit ∷ []
limit_noted old new driver call is = is.1 ∙ ap (λ (v : MetaVerdict). old ++ entry_of driver call v ∷ []) is.0

-- what is said of a refused call
pub refusal_said : (past : List MetaEntry) (driver : ℕ) (call : MetaCall) (verdict : MetaVerdict) → is_accepted verdict ≡ false → said_of (entry_of driver call verdict ∷ past) ≡ said_of past ++ answer_of call verdict [] ∷ []
refusal_said past driver call (verdicts.Accepted revision) none = absurd cc
refusal_said past driver call (verdicts.OldTerm fence) none = refl
refusal_said past driver call (verdicts.Conflict found) none = refl
refusal_said past driver call verdicts.Limit none = refl
