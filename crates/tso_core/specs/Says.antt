-- What an answer says of batches, of refused counts, of what was seen, of windows and of turns (own choice): one table, off which the rest is read.
use Rattle.std.specs.Prelude.{◌≡◌, ℕ, true, Option, None, Some}
use Rattle.pd_types.specs.declared.oracle.Batch.{Batch}
use Rattle.pd_types.specs.declared.oracle.Seen.{Seen}
use Rattle.tso_model.specs.Words.{passes}
use Rattle.tso_model.specs.Moves.{seen_of}
use Rattle.tso_core.specs.declared.reply.Due.{Due}
use Rattle.tso_core.specs.declared.reply.Reply.{Reply}
use Rattle.tso_core.specs.declared.reply.Reply.TheVariants.{Won, Moved, Got, Again, Heard, OutOfTurn, Claimed, Saved}

-- a count that was refused, at this cursor and over this end
pub record Refused : Type 0 where
  pub at : ℕ
  pub hi : ℕ
  pub n : ℕ

-- what is said of the windows: nothing; that one of this term begins, from lo to hi, or where the newest one ends, with no length; that the newest one ends here now
pub data OfWindows : Type 0 where
  Stay : OfWindows
  Begin : ℕ → ℕ → ℕ → OfWindows
  BeginEmpty : ℕ → OfWindows
  End : ℕ → OfWindows

-- What one answer says
pub record Saying : Type 0 where
  -- the batch that is granted
  pub batch : Option Batch
  -- the count that is refused
  pub refused : Option Refused
  -- the pair that the caller sees: its batch's, or a note's
  pub pair : Option Seen
  pub windows : OfWindows
  -- what is next, where the call came out of turn
  pub expected : Option Due

-- nothing of all that
abbrev pub nothing_said : Saying
nothing_said = record { batch = None; refused = None; pair = None; windows = Stay; expected = None }

-- the table
abbrev pub says : Reply → Saying
says (Got b) = record nothing_said { batch = Some b; pair = Some (seen_of b) }
says (Again at hi n) = record nothing_said { refused = Some (record { at = at; hi = hi; n = n }) }
says (Heard note) = record nothing_said { pair = Some note }
says (Won term lo hi) = record nothing_said { windows = Begin term lo hi }
says (Claimed term) = record nothing_said { windows = BeginEmpty term }
says (Saved hi) = record nothing_said { windows = End hi }
says (Moved next hi) = record nothing_said { windows = End hi }
says (OutOfTurn due) = record nothing_said { expected = Some due }
says reply = nothing_said

-- the count passed the end or the logical part
abbrev pub HasPassed : Refused → Type 0
HasPassed r = passes r.at r.hi r.n ≡ true
