-- What one call makes of the tables. Private contracts alone cite this.
use Rattle.std.specs.Prelude.{ℕ, false, List, length}
use Rattle.meta_store.specs.declared.record.MetaCall.{MetaCall}
use Rattle.meta_store.specs.declared.record.MetaCall.TheVariants as calls
use Rattle.meta_store.specs.declared.record.MetaVerdict.{MetaVerdict}
use Rattle.meta_store.specs.declared.record.MetaVerdict.TheVariants as verdicts
use Rattle.meta_store.specs.declared.record.MetaEntry.{MetaEntry}
use Rattle.meta_store.specs.declared.tables.Tables.{Tables}
use Rattle.meta_store.specs.Cells.{cell_at, revision_in, placed, without}
use Rattle.meta_store.specs.Past.{counter_of, fence_of, is_full, lead_verdict, records_of, write_verdict}

-- the tables that these entries leave
abbrev pub tables_of : List MetaEntry → Tables
tables_of past = record { records = records_of past; counter = counter_of past; fence = fence_of past }

-- the verdict on a call, read off the tables
abbrev pub verdict_by : Tables → ℕ → MetaCall → MetaVerdict
verdict_by tables entries (calls.Lead term) = lead_verdict tables.fence tables.counter entries term
verdict_by tables entries (calls.Put term key expected bytes) =
    write_verdict tables.fence tables.counter entries (revision_in (cell_at key tables.records)) (is_full (cell_at key tables.records) (length tables.records)) term expected
verdict_by tables entries (calls.Delete term key expected) =
    write_verdict tables.fence tables.counter entries (revision_in (cell_at key tables.records)) false term expected

-- the tables after an accepted call
abbrev pub accepted : Tables → MetaCall → ℕ → Tables
accepted tables (calls.Lead term) revision = record tables { fence = term }
accepted tables (calls.Put term key expected bytes) revision =
    record tables { records = placed (record { key = key; revision = revision; bytes = bytes }) tables.records; counter = revision }
accepted tables (calls.Delete term key expected) revision =
    record tables { records = without key tables.records; counter = revision }

-- the tables after a call
abbrev pub stepped : Tables → MetaCall → MetaVerdict → Tables
stepped tables call (verdicts.Accepted revision) = accepted tables call revision
stepped tables call (verdicts.OldTerm fence) = tables
stepped tables call (verdicts.Conflict found) = tables
stepped tables call verdicts.Limit = tables
