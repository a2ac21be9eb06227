-- What becomes of windows of ids over one metadata: whoever asks, and in whatever order.
use Rattle.std.specs.Prelude.{◌≡◌, ◌⊎◌, ℕ, false, ◌&&◌, List, [], ◌∷◌, ◌++◌, reverse, Some}
use Rattle.meta_store.specs.declared.record.MetaCall.TheVariants as calls
use Rattle.meta_store.specs.declared.record.MetaEntry.{MetaEntry}
use Rattle.meta_store.specs.declared.record.MetaVerdict.TheVariants as verdicts
use Rattle.meta_store.specs.Doors.{said_of, Spoken}
use Rattle.meta_store.specs.Past.{entry_of, is_accepted, is_of, records_of}
use Rattle.id_alloc.specs.Windows.{Takes, Window, id_key, window_in}

-- the entries of the metadata, the latest first; the windows that were made; and the ids that were taken, the latest first
pub record State : Type 0 where
  pub past : List MetaEntry
  pub windows : List Window
  pub ids : List ℕ

-- nothing was asked yet
abbrev pub start : State
start = record { past = []; windows = []; ids = [] }

-- a lead is accepted, and a window is made of the records that it hands out
pub record Leads (old new : State) : Type 0 where
  pub driver : ℕ
  pub term : ℕ
  pub counter : ℕ
  pub past : new.past ≡ entry_of driver (calls.Lead term) (verdicts.Accepted counter) ∷ old.past
  pub windows : new.windows ≡ old.windows ++ window_in (records_of old.past) ∷ []
  pub ids : new.ids ≡ old.ids

-- a call is made that is refused, or doesn't write the record `id`
pub record Passes (old new : State) : Type 0 where
  pub entry : MetaEntry
  pub other : (is_accepted entry.verdict && is_of id_key entry.call) ≡ false
  pub past : new.past ≡ entry ∷ old.past
  pub windows : new.windows ≡ old.windows
  pub ids : new.ids ≡ old.ids

-- what the metadata as a door said and told, by its entries before and after
abbrev pub talk_of : List MetaEntry → List MetaEntry → Spoken
talk_of old new = record { said_old = said_of old; said_new = said_of new; told_old = Some (reverse old); told_new = Some (reverse new) }

-- one of the windows takes an id, as `next` does
pub record Draws (old new : State) : Type 0 where
  pub front : List Window
  pub window : Window
  pub back : List Window
  pub then : Window
  pub driver : ℕ
  pub term : ℕ
  pub id : ℕ
  pub takes : Takes window then (talk_of old.past new.past) driver term id
  pub was : old.windows ≡ front ++ window ∷ back
  pub windows : new.windows ≡ front ++ then ∷ back
  pub ids : new.ids ≡ id ∷ old.ids

-- one of these happens
abbrev pub IsMove : State → State → Type 0
IsMove old new = Leads old new ⊎ Passes old new ⊎ Draws old new

-- the states of a run, the latest first: each comes by a move from the one before
abbrev pub IsRun : State → List State → Type 0
IsRun now [] = now ≡ start
IsRun now (before ∷ earlier) = IsMove before now × IsRun before earlier
