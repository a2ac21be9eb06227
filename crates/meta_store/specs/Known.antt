-- What a driver knows of the revisions of keys, by the answers that it heard in its term. Each list of answers has the latest first.
use Rattle.std.specs.Prelude.{ℕ, List, [], ◌∷◌, map, if◌then◌else◌}
use Rattle.std.specs.Str.{bytes_eq}
use Rattle.meta_store.specs.declared.record.Cell.{Cell}
use Rattle.meta_store.specs.declared.record.MetaAnswer.{MetaAnswer}
use Rattle.meta_store.specs.declared.record.MetaCall.{MetaCall}
use Rattle.meta_store.specs.declared.record.MetaCall.TheVariants as calls
use Rattle.meta_store.specs.declared.record.MetaVerdict.{MetaVerdict}
use Rattle.meta_store.specs.declared.record.MetaVerdict.TheVariants as verdicts
use Rattle.meta_store.specs.Cells.{cell_at, placed, revision_in, without}

-- the revision of a key after an accepted call: a lead tells that of each key, a write that of its own, and a deletion 0
abbrev pub revision_told : MetaCall → ℕ → List Cell → List ℕ → ℕ → ℕ
revision_told (calls.Lead term) revision cells key before = revision_in (cell_at key cells)
revision_told (calls.Put term at expected bytes) revision cells key before = if bytes_eq at key then revision else before
revision_told (calls.Delete term at expected) revision cells key before = if bytes_eq at key then 0 else before

-- the revision of a key after a call: a refused one tells nothing
abbrev pub revision_heard : MetaCall → MetaVerdict → List Cell → List ℕ → ℕ → ℕ
revision_heard call (verdicts.Accepted revision) cells key before = revision_told call revision cells key before
revision_heard call (verdicts.OldTerm fence) cells key before = before
revision_heard call (verdicts.Conflict found) cells key before = before
revision_heard call verdicts.Limit cells key before = before

-- the known revision of a key: that of the last accepted write of it, or the one that was handed out; 0 where that write was a deletion, and where there is neither
abbrev pub known_revision : List ℕ → List MetaAnswer → ℕ
known_revision key [] = 0
known_revision key (answer ∷ earlier) = revision_heard answer.call answer.verdict answer.cells key (known_revision key earlier)

-- the same, kept. A record without its bytes
abbrev pub bare : Cell → Cell
bare cell = record { key = cell.key; revision = cell.revision; bytes = [] }

-- the kept records after an accepted call
abbrev pub kept_told : MetaCall → ℕ → List Cell → List Cell → List Cell
kept_told (calls.Lead term) revision cells kept = map bare cells
kept_told (calls.Put term key expected bytes) revision cells kept = placed (record { key = key; revision = revision; bytes = [] }) kept
kept_told (calls.Delete term key expected) revision cells kept = without key kept

-- the kept records after a call
abbrev pub kept_heard : MetaCall → MetaVerdict → List Cell → List Cell → List Cell
kept_heard call (verdicts.Accepted revision) cells kept = kept_told call revision cells kept
kept_heard call (verdicts.OldTerm fence) cells kept = kept
kept_heard call (verdicts.Conflict found) cells kept = kept
kept_heard call verdicts.Limit cells kept = kept

-- the kept records after these answers
abbrev pub kept_of : List MetaAnswer → List Cell
kept_of [] = []
kept_of (answer ∷ earlier) = kept_heard answer.call answer.verdict answer.cells (kept_of earlier)
