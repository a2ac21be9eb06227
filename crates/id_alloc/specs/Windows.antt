-- Windows of ids (PD's id allocator: the end of a window is saved before an id of it is used; a thousand ids a window).
use Rattle.std.specs.Prelude.{◌≡◌, ◌⊎◌, ℕ, ◌+◌, ◌^◌, nat_eq, nat_le, List, [], ◌∷◌, ◌++◌, codes, Bool, true, false, Option, Some, None}
use Rattle.std.specs.Fmt.{decimal}
use Rattle.pd_lines.specs.Numeral.{number_of}
use Rattle.meta_store.specs.declared.record.Cell.{Cell}
use Rattle.meta_store.specs.declared.record.MetaCall.{MetaCall}
use Rattle.meta_store.specs.declared.record.MetaCall.TheVariants as calls
use Rattle.meta_store.specs.declared.record.MetaVerdict.{MetaVerdict}
use Rattle.meta_store.specs.declared.record.MetaVerdict.TheVariants as verdicts
use Rattle.meta_store.specs.Cells.{cell_at, revision_in}
use Rattle.meta_store.specs.Doors.{answer_of, told_more, Spoken}
use Rattle.id_alloc.specs.declared.fault.IdFault.{IdFault}
use Rattle.id_alloc.specs.declared.fault.IdFault.TheVariants as faults
use Rattle.id_alloc.specs.declared.window.TheConstants.{FIRST_END, WINDOW}

-- a window: its ids go up to the end, and those up to `taken` are taken; the record `id` had this revision when the window was saved or found
pub record Window : Type 0 where
  pub end : ℕ
  pub revision : ℕ
  pub taken : ℕ

-- the key of the record that keeps the end of the last saved window
abbrev pub id_key : List ℕ
id_key = codes "id"

-- an end that was read; 1,000,000 where none was
abbrev pub end_or : Option ℕ → ℕ
end_or (Some end) = end
end_or None = FIRST_END

-- the end that a record tells
abbrev pub end_in : Option Cell → ℕ
end_in None = FIRST_END
end_in (Some cell) = end_or (number_of cell.bytes)

-- the window that these records tell: it is used up
abbrev pub window_in : List Cell → Window
window_in cells = record { end = end_in (cell_at id_key cells); revision = revision_in (cell_at id_key cells); taken = end_in (cell_at id_key cells) }

-- no id is left
abbrev pub is_used_up : Window → Bool
is_used_up window = nat_eq window.taken window.end

-- the next window would end at 2^63 or later, so that there is none
abbrev pub is_spent : Window → Bool
is_spent window = nat_le (2 ^ 63) (window.end + WINDOW)

-- the write that saves the next window: a thousand ids more, where the record is as it was known
abbrev pub id_call : ℕ → Window → MetaCall
id_call term window = calls.Put term id_key window.revision (decimal (window.end + WINDOW))

-- the window with its next id taken
abbrev pub with_next : Window → Window
with_next window = record { end = window.end; revision = window.revision; taken = window.taken + 1 }

-- the next window, saved at this revision, with the first of its ids taken
abbrev pub with_saved : Window → ℕ → Window
with_saved window revision = record { end = window.end + WINDOW; revision = revision; taken = window.end + 1 }

-- the next id is one that was left
pub record TakesLeft (old new : Window) (id : ℕ) : Type 0 where
  pub left : is_used_up old ≡ false
  pub next : id ≡ old.taken + 1
  pub now : new ≡ with_next old

-- the window was used up, and another of a thousand was saved at this revision; the next id is its first
pub record TakesSaved (old new : Window) (revision id : ℕ) : Type 0 where
  pub used : is_used_up old ≡ true
  pub room : is_spent old ≡ false
  pub next : id ≡ old.end + 1
  pub now : new ≡ with_saved old revision

-- nothing was asked
pub record IsQuiet (talk : Spoken) : Type 0 where
  pub said : talk.said_new ≡ talk.said_old
  pub told : talk.told_new ≡ talk.told_old

-- one call was made, and heard this verdict
pub record Hears (talk : Spoken) (driver : ℕ) (call : MetaCall) (verdict : MetaVerdict) : Type 0 where
  pub said : talk.said_new ≡ talk.said_old ++ answer_of call verdict [] ∷ []
  pub told : talk.told_new ≡ told_more talk.told_old driver call

-- an id is taken: one that was left, and nothing is asked; or the first of a window that is saved first
abbrev pub Takes : Window → Window → Spoken → ℕ → ℕ → ℕ → Type 0
Takes old new talk driver term id =
    (TakesLeft old new id × IsQuiet talk) ⊎
    ((revision : ℕ) × TakesSaved old new revision id × Hears talk driver (id_call term old) (verdicts.Accepted revision))

-- the next window was asked for, and the door answered this
pub record IsRefused (old : Window) (talk : Spoken) (driver term : ℕ) (verdict : MetaVerdict) : Type 0 where
  pub used : is_used_up old ≡ true
  pub room : is_spent old ≡ false
  pub heard : Hears talk driver (id_call term old) verdict

-- no window is left below 2^63, and nothing was asked
pub record IsSpent (old : Window) (talk : Spoken) : Type 0 where
  pub used : is_used_up old ≡ true
  pub full : is_spent old ≡ true
  pub quiet : IsQuiet talk

-- why no id is taken: the door's own answer in this call, or the number; want of memory asks nothing that is answered
abbrev pub Refuses : Window → Spoken → ℕ → ℕ → IdFault → Type 0
Refuses old talk driver term (faults.OldTerm fence) = IsRefused old talk driver term (verdicts.OldTerm fence)
Refuses old talk driver term faults.Spent = IsSpent old talk
Refuses old talk driver term (faults.Conflict found) = IsRefused old talk driver term (verdicts.Conflict found)
Refuses old talk driver term faults.Limit = IsRefused old talk driver term verdicts.Limit
Refuses old talk driver term faults.NoMemory = IsQuiet talk
