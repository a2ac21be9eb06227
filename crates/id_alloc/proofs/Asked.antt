-- What a window asks of one metadata, and what its record says then.
use Rattle.std.proofs.Common.{refl, ◌≡◌, ℕ, ◌+◌, ◌<◌, ◌≤◌, ◌^◌, Bool, true, false, ◌&&◌, ◌||◌, cond, nat_eq, nat_le, nat_lt, List, [], ◌∷◌, ◌++◌, length, reverse, Option, Some, ap, sym, ◌∙◌, arith}
use Rattle.std.specs.Fmt.{decimal}
use Rattle.std.proofs.lemmas.Bool.Decides.{nat_tests}
use Rattle.std.proofs.lemmas.List.{reverse-append, reverse-reverse}
use Rattle.std.proofs.lemmas.List.Sums.{sum_by-cons}
use Rattle.pd_lines.specs.Numeral.{number_of}
use Rattle.pd_lines.proofs.Numerals.{number_law}
use Rattle.meta_store.specs.declared.record.Cell.{Cell}
use Rattle.meta_store.specs.declared.record.MetaAnswer.{MetaAnswer}
use Rattle.meta_store.specs.declared.record.MetaCall.{MetaCall}
use Rattle.meta_store.specs.declared.record.MetaCall.TheVariants as calls
use Rattle.meta_store.specs.declared.record.MetaEntry.{MetaEntry}
use Rattle.meta_store.specs.declared.record.MetaVerdict.{MetaVerdict}
use Rattle.meta_store.specs.declared.record.MetaVerdict.TheVariants as verdicts
use Rattle.meta_store.specs.declared.tables.TheConstants.{MOST_ENTRIES}
use Rattle.meta_store.specs.Cells.{revision_in}
use Rattle.meta_store.specs.Doors.{answer_of, handed_out, heard, said_of}
use Rattle.meta_store.specs.Past.{counter_of, entry_of, fence_of, is_accepted, is_of, is_write, left_by, noted, record_of, records_of, revision_of, verdict_of, write_verdict}
use Rattle.meta_store.proofs.Firsts.{put_counts}
use Rattle.meta_store.proofs.Refines.{records_found}
use Rattle.id_alloc.specs.Runs.{talk_of}
use Rattle.id_alloc.specs.Windows.{Hears, IsQuiet, Window, end_in, end_or, id_key, window_in}

-- the end and the revision that the record `id` tells
abbrev pub end_of : List MetaEntry → ℕ
end_of past = end_in (record_of id_key past)

abbrev pub rev_of : List MetaEntry → ℕ
rev_of past = revision_in (record_of id_key past)

pub window_found : (past : List MetaEntry) → window_in (records_of past) ≡ record { end = end_of past; revision = rev_of past; taken = end_of past }
window_found past = ap (λ (o : Option Cell). let w : Window = record { end = end_in o; revision = revision_in o; taken = end_in o } in w) (records_found past id_key)

some_is : {A : Type 0} (x y : A) → (let o : Option A = Some x in o) ≡ Some y → x ≡ y
some_is x y is = cc

-- nothing was asked
pub quiet_past : (old new : List MetaEntry) → IsQuiet (talk_of old new) → new ≡ old
quiet_past old new quiet =
    sym (reverse-reverse new) ∙ ap (λ (l : List MetaEntry). reverse l) (some_is (reverse new) (reverse old) quiet.told) ∙ reverse-reverse old

-- one call was made
pub heard_past : (old new : List MetaEntry) (driver : ℕ) (call : MetaCall) (verdict : MetaVerdict) → Hears (talk_of old new) driver call verdict → new ≡ entry_of driver call (verdict_of old call) ∷ old
heard_past old new driver call verdict hears =
    sym (reverse-reverse new) ∙ ap (λ (l : List MetaEntry). reverse l) (some_is (reverse new) (noted (reverse old) driver call) hears.told)
    ∙ reverse-append (reverse old) (entry_of driver call (verdict_of (reverse (reverse old)) call) ∷ [])
    ∙ ap (λ (l : List MetaEntry). entry_of driver call (verdict_of l call) ∷ l) (reverse-reverse old)

append_same : {A : Type 0} (xs : List A) (y z : A) → xs ++ y ∷ [] ≡ xs ++ z ∷ [] → y ≡ z
append_same [] y z is = cc
append_same (x ∷ xs) y z is = append_same xs y z cc

unheard : (term : ℕ) (key : List ℕ) (expected : ℕ) (bytes : List ℕ) (verdict : MetaVerdict) (revision : ℕ) → heard (calls.Put term key expected bytes) verdict ≡ verdicts.Accepted revision → verdict ≡ verdicts.Accepted revision
unheard term key expected bytes (verdicts.Accepted n) revision is = is
unheard term key expected bytes (verdicts.OldTerm fence) revision is = absurd cc
unheard term key expected bytes (verdicts.Conflict found) revision is = absurd cc
unheard term key expected bytes verdicts.Limit revision is = absurd cc

-- an accepted write's verdict
pub heard_verdict : (old new : List MetaEntry) (driver term : ℕ) (key : List ℕ) (expected : ℕ) (bytes : List ℕ) (revision : ℕ)
    → Hears (talk_of old new) driver (calls.Put term key expected bytes) (verdicts.Accepted revision) → verdict_of old (calls.Put term key expected bytes) ≡ verdicts.Accepted revision
heard_verdict old new driver term key expected bytes revision hears =
    let call : MetaCall = calls.Put term key expected bytes in
    let v : MetaVerdict = verdict_of old call in
    let said : said_of old ++ answer_of call (heard call v) (handed_out old call v) ∷ [] ≡ said_of old ++ answer_of call (verdicts.Accepted revision) [] ∷ [] =
    sym (ap said_of (heard_past old new driver call (verdicts.Accepted revision) hears)) ∙ hears.said in
    unheard term key expected bytes v revision (ap (λ (a : MetaAnswer). a.verdict) (append_same (said_of old) (answer_of call (heard call v) (handed_out old call v)) (answer_of call (verdicts.Accepted revision) []) said))

-- it expected the key's revision, and counts one more
accepted_at : (fence counter entries found : ℕ) (full : Bool) (term expected revision : ℕ) → verdicts.Accepted revision ≡ write_verdict fence counter entries found full term expected → (expected ≡ found) × (revision ≡ counter + 1)
accepted_at fence counter entries found full term expected revision h = by (nat_lt term fence) (nat_eq expected found) refl (full || nat_le MOST_ENTRIES entries) h
  where
    by : (a b : Bool) → nat_eq expected found ≡ b → (c : Bool) → verdicts.Accepted revision ≡ cond a (verdicts.OldTerm fence) (cond b (cond c verdicts.Limit (verdicts.Accepted (counter + 1))) (verdicts.Conflict found)) → (expected ≡ found) × (revision ≡ counter + 1)
    by true b same c h = absurd cc
    by false true same true h = absurd cc
    by false true same false h = (grind (arith, nat_tests), cc)
    by false false same c h = absurd cc

pub put_expected : (past : List MetaEntry) (term : ℕ) (key : List ℕ) (expected : ℕ) (bytes : List ℕ) (revision : ℕ) → verdict_of past (calls.Put term key expected bytes) ≡ verdicts.Accepted revision → expected ≡ revision_of key past
put_expected past term key expected bytes revision is = (accepted_at (fence_of past) (counter_of past) (length past) (revision_of key past) _ term expected revision (sym is)).0

pub put_revision : (past : List MetaEntry) (term : ℕ) (key : List ℕ) (expected : ℕ) (bytes : List ℕ) (revision : ℕ) → verdict_of past (calls.Put term key expected bytes) ≡ verdicts.Accepted revision → revision ≡ counter_of past + 1
put_revision past term key expected bytes revision is = (accepted_at (fence_of past) (counter_of past) (length past) (revision_of key past) _ term expected revision (sym is)).1

-- the record that a saved window leaves
pub saved_record : (past : List MetaEntry) (driver term expected end revision : ℕ)
    → record_of id_key (entry_of driver (calls.Put term id_key expected (decimal end)) (verdicts.Accepted revision) ∷ past) ≡ Some (record { key = id_key; revision = counter_of past + 1; bytes = decimal end })
saved_record past driver term expected end revision = put_counts past driver term expected revision id_key (decimal end)

pub end_read : (end : ℕ) → end < 2 ^ 64 → end_or (number_of (decimal end)) ≡ end
end_read end low = ap end_or ((number_law (decimal end) end).1 (low, refl))

-- the counter doesn't fall
pub counter_grows : (past : List MetaEntry) (entry : MetaEntry) → counter_of past ≤ counter_of (entry ∷ past)
counter_grows past entry =
    let more = sum_by-cons (λ e. cond (is_accepted e.verdict && is_write e.call) 1 0) entry past in
    omega (arith, more)

pub passed_record : (past : List MetaEntry) (entry : MetaEntry) → (is_accepted entry.verdict && is_of id_key entry.call) ≡ false → record_of id_key (entry ∷ past) ≡ record_of id_key past
passed_record past entry other = ap (λ (t : Bool). cond t (left_by entry.call (counter_of (entry ∷ past))) (record_of id_key past)) other
