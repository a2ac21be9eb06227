-- What one entry more makes of the tables that the entries leave.
use Rattle.std.proofs.Common.{refl, ◌≡◌, ℕ, ◌+◌, ◌≤◌, Bool, true, false, ◌&&◌, ◌||◌, cond, nat_eq, nat_le, nat_lt, List, [], ◌∷◌, ◌++◌, length, reverse, Option, None, Result, Ok, Err, IfOk, ap, sym, ◌∙◌, subst, arith}
use Rattle.std.proofs.lemmas.Bool.Decides.{nat_tests}
use Rattle.std.proofs.lemmas.List.{reverse-append, length-reverse}
use Rattle.std.proofs.lemmas.List.Kept.{AllPairs-filter}
use Rattle.std.proofs.lemmas.List.Sums.{count_by-le-length, sum_by-cons}
use Rattle.std.specs.List.{filter}
use Rattle.std.specs.Str.{bytes_eq}
use Rattle.pd_types.specs.Keys.{is_below}
use Rattle.pd_types.proofs.Filters.{find_gone, find_kept}
use Rattle.meta_store.specs.declared.record.Cell.{Cell}
use Rattle.meta_store.specs.declared.record.MetaCall.{MetaCall}
use Rattle.meta_store.specs.declared.record.MetaCall.TheVariants as calls
use Rattle.meta_store.specs.declared.record.MetaVerdict.{MetaVerdict}
use Rattle.meta_store.specs.declared.record.MetaVerdict.TheVariants as verdicts
use Rattle.meta_store.specs.declared.record.MetaEntry.{MetaEntry}
use Rattle.meta_store.specs.declared.tables.TheConstants.{MOST_ENTRIES}
use Rattle.meta_store.specs.declared.tables.Tables.{Tables}
use Rattle.meta_store.specs.Cells.{AreRising, begins_with, cell_at, revision_in}
use Rattle.meta_store.specs.Past.{is_accepted, is_write, is_of, fence_of, counter_of, left_by, record_of, records_after, records_of, AreRecords, AreRecordsUnder, is_full, lead_verdict, write_verdict, verdict_of, IsLegal, entry_of, noted}
use Rattle.meta_store.specs.Steps.{tables_of, verdict_by, stepped}
use Rattle.meta_store.proofs.Order.{rising_none, rising_placed, rising_without}
use Rattle.meta_store.proofs.Found.{at_placed, at_without, is_key}

-- all records are by rising key
rising_after : (call : MetaCall) (n : ℕ) (cells : List Cell) → AreRising cells → AreRising (records_after call n cells)
rising_after (calls.Lead term) n cells rising = rising
rising_after (calls.Put term key expected bytes) n cells rising = rising_placed (record { key = key; revision = n; bytes = bytes }) cells rising
rising_after (calls.Delete term key expected) n cells rising = rising_without key cells rising

pub records_rise : (past : List MetaEntry) → AreRising (records_of past)
records_rise [] = rising_none
records_rise (e ∷ past) = by (is_accepted e.verdict) (records_rise past)
  where
    by : (t : Bool) → AreRising (records_of past) → AreRising (cond t (records_after e.call (counter_of (e ∷ past)) (records_of past)) (records_of past))
    by true rest = rising_after e.call (counter_of (e ∷ past)) (records_of past) rest
    by false rest = rest

-- each key's record is the one that looking back finds
found_after : (key : List ℕ) (call : MetaCall) (n : ℕ) (cells : List Cell) → cell_at key (records_after call n cells) ≡ cond (is_of key call) (left_by call n) (cell_at key cells)
found_after key (calls.Lead term) n cells = refl
found_after key (calls.Put term at expected bytes) n cells = at_placed key (record { key = at; revision = n; bytes = bytes }) cells
found_after key (calls.Delete term at expected) n cells = at_without key at cells

pub records_found : (past : List MetaEntry) (key : List ℕ) → cell_at key (records_of past) ≡ record_of key past
records_found [] key = refl
records_found (e ∷ past) key = by (is_accepted e.verdict) (records_found past key)
  where
    by : (t : Bool) → cell_at key (records_of past) ≡ record_of key past → cell_at key (cond t (records_after e.call (counter_of (e ∷ past)) (records_of past)) (records_of past)) ≡ cond (t && is_of key e.call) (left_by e.call (counter_of (e ∷ past))) (record_of key past)
    by true rest =
        found_after key e.call (counter_of (e ∷ past)) (records_of past)
        ∙ ap (λ (o : Option Cell). cond (is_of key e.call) (left_by e.call (counter_of (e ∷ past))) o) rest
    by false rest = rest

pub are_records : (past : List MetaEntry) → AreRecords past (records_of past)
are_records past = record { exactly = λ key. records_found past key; rising = records_rise past }

-- no more writes than entries
pub counter_low : (past : List MetaEntry) → counter_of past ≤ length past
counter_low past = count_by-le-length (λ e. is_accepted e.verdict && is_write e.call) past

-- the verdict read off the tables is the one that looking back gives
pub verdict_same : (past : List MetaEntry) (call : MetaCall) → verdict_by (tables_of past) (length past) call ≡ verdict_of past call
verdict_same past (calls.Lead term) = refl
verdict_same past (calls.Put term key expected bytes) =
    ap (λ (o : Option Cell). write_verdict (fence_of past) (counter_of past) (length past) (revision_in o) (is_full o (length (records_of past))) term expected) (records_found past key)
verdict_same past (calls.Delete term key expected) =
    ap (λ (o : Option Cell). write_verdict (fence_of past) (counter_of past) (length past) (revision_in o) false term expected) (records_found past key)

-- an accepted lead isn't below the fence
lead_from : (fence counter entries term revision : ℕ) → verdicts.Accepted revision ≡ lead_verdict fence counter entries term → nat_lt term fence ≡ false
lead_from fence counter entries term revision h = by (nat_lt term fence) h
  where
    by : (t : Bool) → verdicts.Accepted revision ≡ cond t (verdicts.OldTerm fence) (cond (nat_le MOST_ENTRIES entries) verdicts.Limit (verdicts.Accepted counter)) → t ≡ false
    by true h = absurd cc
    by false h = refl

-- an accepted write counts one more
pub written_at : (fence counter entries found : ℕ) (full : Bool) (term expected revision : ℕ) → verdicts.Accepted revision ≡ write_verdict fence counter entries found full term expected → revision ≡ counter + 1
written_at fence counter entries found full term expected revision h = by (nat_lt term fence) (nat_eq expected found) (full || nat_le MOST_ENTRIES entries) h
  where
    by : (a b c : Bool) → verdicts.Accepted revision ≡ cond a (verdicts.OldTerm fence) (cond b (cond c verdicts.Limit (verdicts.Accepted (counter + 1))) (verdicts.Conflict found)) → revision ≡ counter + 1
    by true b c h = absurd cc
    by false true true h = absurd cc
    by false true false h = cc
    by false false c h = absurd cc

greatest : (fence term : ℕ) → nat_lt term fence ≡ false → term ≡ cond (nat_lt fence term) term fence
greatest fence term upto = by (nat_lt fence term) refl
  where
    by : (t : Bool) → nat_lt fence term ≡ t → term ≡ cond t term fence
    by true h = refl
    by false h = grind (arith, nat_tests)

pub not_zero : (fence : ℕ) → fence ≡ cond (nat_lt fence 0) 0 fence
not_zero fence =
    let none : nat_lt fence 0 ≡ false = grind (arith, nat_tests) in
    ap (λ (t : Bool). cond t 0 fence) (sym none)

abbrev with_fence : Tables → ℕ → Tables
with_fence tables fence = record { records = tables.records; counter = tables.counter; fence = fence }

written : (past : List MetaEntry) (call : MetaCall) (n m f : ℕ) → n ≡ m → fence_of past ≡ f
    → (let t : Tables = record { records = records_after call n (records_of past); counter = n; fence = fence_of past } in t) ≡ (let t : Tables = record { records = records_after call m (records_of past); counter = m; fence = f } in t)
written past call n m f same fence =
    ap (λ (k : ℕ). let t : Tables = record { records = records_after call k (records_of past); counter = k; fence = fence_of past } in t) same
    ∙ ap (λ (k : ℕ). let t : Tables = record { records = records_after call m (records_of past); counter = m; fence = k } in t) fence

one_more : (n : ℕ) → n + 1 ≡ 1 + n
one_more n = omega arith

pub counted : (driver : ℕ) (past : List MetaEntry) (call : MetaCall) (revision : ℕ) → is_write call ≡ true → counter_of past + 1 ≡ counter_of (entry_of driver call (verdicts.Accepted revision) ∷ past)
counted driver past call revision h =
    one_more (counter_of past) ∙ ap (λ (t : Bool). cond t 1 0 + counter_of past) (sym h)
    ∙ sym (sum_by-cons (λ e. cond (is_accepted e.verdict && is_write e.call) 1 0) (entry_of driver call (verdicts.Accepted revision)) past)

-- the tables step as the entries say
pub steps : (driver : ℕ) (past : List MetaEntry) (call : MetaCall) (verdict : MetaVerdict) → verdict ≡ verdict_of past call → stepped (tables_of past) call verdict ≡ tables_of (entry_of driver call verdict ∷ past)
steps driver past (calls.Lead term) (verdicts.Accepted revision) legal =
    ap (with_fence (tables_of past)) (greatest (fence_of past) term (lead_from (fence_of past) (counter_of past) (length past) term revision legal))
steps driver past (calls.Put term key expected bytes) (verdicts.Accepted revision) legal =
    written past (calls.Put term key expected bytes) revision (counter_of (entry_of driver (calls.Put term key expected bytes) (verdicts.Accepted revision) ∷ past)) _
    (written_at (fence_of past) (counter_of past) (length past) _ _ term expected revision legal ∙ counted driver past (calls.Put term key expected bytes) revision refl) (not_zero (fence_of past))
steps driver past (calls.Delete term key expected) (verdicts.Accepted revision) legal =
    written past (calls.Delete term key expected) revision (counter_of (entry_of driver (calls.Delete term key expected) (verdicts.Accepted revision) ∷ past)) _
    (written_at (fence_of past) (counter_of past) (length past) _ false term expected revision legal ∙ counted driver past (calls.Delete term key expected) revision refl) (not_zero (fence_of past))
steps driver past (calls.Lead term) (verdicts.OldTerm fence) legal = refl
steps driver past (calls.Lead term) (verdicts.Conflict found) legal = refl
steps driver past (calls.Lead term) verdicts.Limit legal = refl
steps driver past (calls.Put term key expected bytes) (verdicts.OldTerm fence) legal = refl
steps driver past (calls.Put term key expected bytes) (verdicts.Conflict found) legal = refl
steps driver past (calls.Put term key expected bytes) verdicts.Limit legal = refl
steps driver past (calls.Delete term key expected) (verdicts.OldTerm fence) legal = refl
steps driver past (calls.Delete term key expected) (verdicts.Conflict found) legal = refl
steps driver past (calls.Delete term key expected) verdicts.Limit legal = refl

-- one entry more is the latest
pub latest : (journal : List MetaEntry) (e : MetaEntry) → reverse (journal ++ e ∷ []) ≡ e ∷ reverse journal
latest journal e = reverse-append journal (e ∷ [])

pub judged : (journal : List MetaEntry) (tables : Tables) (entries : ℕ) (call : MetaCall) (verdict : MetaVerdict)
    → tables ≡ tables_of (reverse journal) → entries ≡ length journal → verdict ≡ verdict_by tables entries call → verdict ≡ verdict_of (reverse journal) call
judged journal tables entries call verdict are long is =
    is ∙ ap (λ (t : Tables). verdict_by t entries call) are
    ∙ ap (λ (n : ℕ). verdict_by (tables_of (reverse journal)) n call) (long ∙ sym (length-reverse journal))
    ∙ verdict_same (reverse journal) call

pub kept : (journal new : List MetaEntry) (before after : Tables) (driver : ℕ) (call : MetaCall) (verdict : MetaVerdict)
    → before ≡ tables_of (reverse journal) → IsLegal (reverse journal) → verdict ≡ verdict_of (reverse journal) call
    → after ≡ stepped before call verdict → new ≡ journal ++ entry_of driver call verdict ∷ []
    → (after ≡ tables_of (reverse new)) × IsLegal (reverse new)
kept journal new before after driver call verdict are legal is step more =
    let turned : entry_of driver call verdict ∷ reverse journal ≡ reverse new = sym (ap (λ (l : List MetaEntry). reverse l) more ∙ latest journal (entry_of driver call verdict)) in
    (step ∙ ap (λ (t : Tables). stepped t call verdict) are ∙ steps driver (reverse journal) call verdict is ∙ ap tables_of turned, subst IsLegal turned (is, legal))

pub noted_is : (journal old new : List MetaEntry) (driver : ℕ) (call : MetaCall) (verdict : MetaVerdict)
    → new ≡ journal ++ entry_of driver call verdict ∷ [] → verdict ≡ verdict_of (reverse journal) call → journal ≡ old → new ≡ noted old driver call
noted_is journal old new driver call verdict more is same =
    more ∙ ap (λ (v : MetaVerdict). journal ++ entry_of driver call v ∷ []) is ∙ ap (λ (j : List MetaEntry). noted j driver call) same

-- what the tables have of a key is its record
pub looked_up : (journal old : List MetaEntry) (tables : Tables) (key : List ℕ) → tables ≡ tables_of (reverse journal) → journal ≡ old → cell_at key tables.records ≡ record_of key (reverse old)
looked_up journal old tables key are same =
    ap (λ (t : Tables). cell_at key t.records) are ∙ records_found (reverse journal) key ∙ ap (λ (j : List MetaEntry). record_of key (reverse j)) same

-- copies of the records are all records
pub are_all : (past : List MetaEntry) (cells : List Cell) → cells ≡ records_of past → AreRecords past cells
are_all past cells same = subst (AreRecords past) (sym same) (are_records past)

-- the records that a lead hands out, once it is accepted
pub handed : (journal old : List MetaEntry) (tables : Tables) (entries term revision : ℕ) (cells : List Cell)
    → tables ≡ tables_of (reverse journal) → entries ≡ length journal → journal ≡ old
    → ((n : ℕ) → verdict_by tables entries (calls.Lead term) ≡ verdicts.Accepted n → cells ≡ tables.records)
    → verdict_of (reverse old) (calls.Lead term) ≡ verdicts.Accepted revision → cells ≡ records_of (reverse old)
handed journal old tables entries term revision cells are long same copied accepted =
    let now = judged journal tables entries (calls.Lead term) (verdict_by tables entries (calls.Lead term)) are long refl in
    copied revision (now ∙ ap (λ (j : List MetaEntry). verdict_of (reverse j) (calls.Lead term)) same ∙ accepted)
    ∙ ap (λ (t : Tables). t.records) are ∙ ap (λ (j : List MetaEntry). records_of (reverse j)) same

-- the records under a prefix
under_key : (prefix key : List ℕ) (cells : List Cell) → cell_at key (filter (λ (cell : Cell). begins_with prefix cell.key) cells) ≡ cond (begins_with prefix key) (cell_at key cells) None
under_key prefix key cells = by (begins_with prefix key) refl
  where
    by : (t : Bool) → begins_with prefix key ≡ t → cell_at key (filter (λ (cell : Cell). begins_with prefix cell.key) cells) ≡ cond t (cell_at key cells) None
    by true here = find_kept (λ (one : Cell). bytes_eq one.key key) (λ (one : Cell). begins_with prefix one.key) (λ x found. is_key key (λ k. begins_with prefix k ≡ true) here x found) cells
    by false other = find_gone (λ (one : Cell). bytes_eq one.key key) (λ (one : Cell). begins_with prefix one.key) (λ x found. is_key key (λ k. begins_with prefix k ≡ false) other x found) cells

pub are_under : (journal old : List MetaEntry) (tables : Tables) (prefix : List ℕ) (cells : List Cell)
    → tables ≡ tables_of (reverse journal) → journal ≡ old → cells ≡ filter (λ (cell : Cell). begins_with prefix cell.key) tables.records → AreRecordsUnder prefix (reverse old) cells
are_under journal old tables prefix cells are same is =
    let all : tables.records ≡ records_of (reverse old) = ap (λ (t : Tables). t.records) are ∙ ap (λ (j : List MetaEntry). records_of (reverse j)) same in
    let whole : cells ≡ filter (λ (cell : Cell). begins_with prefix cell.key) (records_of (reverse old)) = is ∙ ap (λ (l : List Cell). filter (λ (cell : Cell). begins_with prefix cell.key) l) all in
    subst (AreRecordsUnder prefix (reverse old)) (sym whole)
    (record {
      exactly = λ key. under_key prefix key (records_of (reverse old)) ∙ ap (λ (o : Option Cell). cond (begins_with prefix key) o None) (records_found (reverse old) key);
      rising = AllPairs-filter (λ (one later : Cell). is_below one.key later.key ≡ true) (λ (cell : Cell). begins_with prefix cell.key) (records_of (reverse old)) (records_rise (reverse old));
    })

pub all_under : {E : Type 0} (listed : Result (List Cell) E) (journal old : List MetaEntry) (tables : Tables) (prefix : List ℕ) → tables ≡ tables_of (reverse journal) → journal ≡ old
    → IfOk listed (λ cells. cells ≡ filter (λ (cell : Cell). begins_with prefix cell.key) tables.records) → IfOk listed (AreRecordsUnder prefix (reverse old))
all_under (Ok cells) journal old tables prefix are same is = are_under journal old tables prefix cells are same is
all_under (Err fault) journal old tables prefix are same is = tt
