-- What the entries of the metadata tell, looking back over them (etcd, as PD keeps its own records in it: a write goes through where the leader's term still holds and the key's revision is the expected one; the limits are our own choice). Each list of entries has the latest first.
use Rattle.std.specs.Prelude.{◌≡◌, ℕ, ◌+◌, nat_lt, nat_le, nat_eq, Bool, true, false, ◌&&◌, ◌||◌, not, if◌then◌else◌, List, [], ◌∷◌, ◌++◌, length, reverse, Option, Some, None}
use Rattle.std.specs.List.{count_by}
use Rattle.std.specs.Option.{is_some}
use Rattle.std.specs.Str.{bytes_eq}
use Rattle.meta_store.specs.declared.record.Cell.{Cell}
use Rattle.meta_store.specs.declared.record.MetaCall.{MetaCall}
use Rattle.meta_store.specs.declared.record.MetaCall.TheVariants as calls
use Rattle.meta_store.specs.declared.record.MetaVerdict.{MetaVerdict}
use Rattle.meta_store.specs.declared.record.MetaVerdict.TheVariants as verdicts
use Rattle.meta_store.specs.declared.record.MetaEntry.{MetaEntry}
use Rattle.meta_store.specs.declared.tables.TheConstants.{MOST_ENTRIES, MOST_KEYS}
use Rattle.meta_store.specs.declared.fault.MetaFault.{MetaFault}
use Rattle.meta_store.specs.declared.fault.MetaFault.TheVariants as faults
use Rattle.meta_store.specs.Cells.{AreRising, begins_with, cell_at, revision_in, placed, without}

-- the call was accepted
abbrev pub is_accepted : MetaVerdict → Bool
is_accepted (verdicts.Accepted revision) = true
is_accepted (verdicts.OldTerm fence) = false
is_accepted (verdicts.Conflict found) = false
is_accepted verdicts.Limit = false

-- the term that a call announces; 0 for a write
abbrev pub announced : MetaCall → ℕ
announced (calls.Lead term) = term
announced (calls.Put term key expected bytes) = 0
announced (calls.Delete term key expected) = 0

-- the greatest term of the accepted leads, or 0
abbrev pub fence_of : List MetaEntry → ℕ
fence_of [] = 0
fence_of (entry ∷ past) =
    if is_accepted entry.verdict && nat_lt (fence_of past) (announced entry.call) then announced entry.call else fence_of past

-- the call is a put or a deletion
abbrev pub is_write : MetaCall → Bool
is_write (calls.Lead term) = false
is_write (calls.Put term key expected bytes) = true
is_write (calls.Delete term key expected) = true

-- how many writes were accepted
abbrev pub counter_of : List MetaEntry → ℕ
counter_of past = count_by (λ entry. is_accepted entry.verdict && is_write entry.call) past

-- the call writes or deletes this key
abbrev pub is_of : List ℕ → MetaCall → Bool
is_of key (calls.Lead term) = false
is_of key (calls.Put term at expected bytes) = bytes_eq at key
is_of key (calls.Delete term at expected) = bytes_eq at key

-- the record that an accepted write leaves, by the counter at it; none where it deletes
abbrev pub left_by : MetaCall → ℕ → Option Cell
left_by (calls.Lead term) counter = None
left_by (calls.Put term key expected bytes) counter = Some (record { key = key; revision = counter; bytes = bytes })
left_by (calls.Delete term key expected) counter = None

-- a key's record: what its last accepted write left
abbrev pub record_of : List ℕ → List MetaEntry → Option Cell
record_of key [] = None
record_of key (entry ∷ past) =
    if is_accepted entry.verdict && is_of key entry.call then left_by entry.call (counter_of (entry ∷ past)) else record_of key past

-- a key's revision: the counter at its last accepted write, or 0 where the key is absent
abbrev pub revision_of : List ℕ → List MetaEntry → ℕ
revision_of key past = revision_in (record_of key past)

-- these are all records, by rising key
pub record AreRecords (past : List MetaEntry) (cells : List Cell) : Type 0 where
  pub exactly : (key : List ℕ) → cell_at key cells ≡ record_of key past
  pub rising : AreRising cells

-- these are all records whose keys begin with the prefix, by rising key
pub record AreRecordsUnder (prefix : List ℕ) (past : List MetaEntry) (cells : List Cell) : Type 0 where
  pub exactly : (key : List ℕ) → cell_at key cells ≡ (if begins_with prefix key then record_of key past else None)
  pub rising : AreRising cells

-- the same, computed. The records, once an accepted call came
abbrev pub records_after : MetaCall → ℕ → List Cell → List Cell
records_after (calls.Lead term) counter cells = cells
records_after (calls.Put term key expected bytes) counter cells = placed (record { key = key; revision = counter; bytes = bytes }) cells
records_after (calls.Delete term key expected) counter cells = without key cells

-- all records, by rising key
abbrev pub records_of : List MetaEntry → List Cell
records_of [] = []
records_of (entry ∷ past) =
    if is_accepted entry.verdict then records_after entry.call (counter_of (entry ∷ past)) (records_of past) else records_of past

-- the verdict on a lead
abbrev pub lead_verdict : ℕ → ℕ → ℕ → ℕ → MetaVerdict
lead_verdict fence counter entries term =
    if nat_lt term fence then verdicts.OldTerm fence else if nat_le MOST_ENTRIES entries then verdicts.Limit else verdicts.Accepted counter

-- the verdict on a write, by the revision that is found, and whether a key more would be too many
abbrev pub write_verdict : ℕ → ℕ → ℕ → ℕ → Bool → ℕ → ℕ → MetaVerdict
write_verdict fence counter entries found full term expected =
    if nat_lt term fence then verdicts.OldTerm fence else
    if nat_eq expected found then (if full || nat_le MOST_ENTRIES entries then verdicts.Limit else verdicts.Accepted (counter + 1)) else verdicts.Conflict found

-- the key would be one too many
abbrev pub is_full : Option Cell → ℕ → Bool
is_full found keys = not (is_some found) && nat_le MOST_KEYS keys

-- the first verdict that applies
abbrev pub verdict_of : List MetaEntry → MetaCall → MetaVerdict
verdict_of past (calls.Lead term) = lead_verdict (fence_of past) (counter_of past) (length past) term
verdict_of past (calls.Put term key expected bytes) =
    write_verdict (fence_of past) (counter_of past) (length past) (revision_of key past) (is_full (record_of key past) (length (records_of past))) term expected
verdict_of past (calls.Delete term key expected) =
    write_verdict (fence_of past) (counter_of past) (length past) (revision_of key past) false term expected

-- the term that a call is made at
abbrev pub term_of : MetaCall → ℕ
term_of (calls.Lead term) = term
term_of (calls.Put term key expected bytes) = term
term_of (calls.Delete term key expected) = term

-- a write expects the key's revision
abbrev pub IsExpected : List MetaEntry → MetaCall → Type 0
IsExpected past (calls.Lead term) = Unit {0}
IsExpected past (calls.Put term key expected bytes) = expected ≡ revision_of key past
IsExpected past (calls.Delete term key expected) = expected ≡ revision_of key past

-- each entry has the verdict that those before it give
abbrev pub IsLegal : List MetaEntry → Type 0
IsLegal [] = Unit {0}
IsLegal (entry ∷ past) = (entry.verdict ≡ verdict_of past entry.call) × IsLegal past

-- an entry, by its parts
abbrev pub entry_of : ℕ → MetaCall → MetaVerdict → MetaEntry
entry_of driver call verdict = record { driver = driver; call = call; verdict = verdict }

-- a journal, in its order, with the entry of one call more
abbrev pub noted : List MetaEntry → ℕ → MetaCall → List MetaEntry
noted journal driver call = journal ++ entry_of driver call (verdict_of (reverse journal) call) ∷ []

-- a call that isn't accepted: its verdict tells the fault, and it is an entry. After want of memory nothing has changed
abbrev pub Refused : List MetaEntry → List MetaEntry → ℕ → MetaCall → MetaFault → Type 0
Refused old new driver call (faults.OldTerm fence) = (verdict_of (reverse old) call ≡ verdicts.OldTerm fence) × (new ≡ noted old driver call)
Refused old new driver call (faults.Conflict found) = (verdict_of (reverse old) call ≡ verdicts.Conflict found) × (new ≡ noted old driver call)
Refused old new driver call faults.Limit = (verdict_of (reverse old) call ≡ verdicts.Limit) × (new ≡ noted old driver call)
Refused old new driver call faults.NoMemory = new ≡ old
