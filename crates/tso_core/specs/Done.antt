-- What each step does, by the word that it finds, and what follows from it: the answer, where a driver stands, and the lists of the run.
use Rattle.std.specs.Prelude.{ℕ, ◌/◌, ◌%◌, max, true, false, List, [], ◌∷◌, ◌++◌, nat_eq, nat_lt, ◌==◌, if◌then◌else◌}
use Rattle.pd_types.specs.declared.oracle.Batch.{Batch}
use Rattle.pd_types.specs.declared.oracle.Window.{Window}
use Rattle.pd_types.specs.declared.stamp.TheConstants.{LOGICAL}
use Rattle.tso_model.specs.declared.view.View.{View}
use Rattle.tso_model.specs.declared.step.WordStep.{WordStep}
use Rattle.tso_model.specs.declared.step.WordStep.TheVariants.{LoadCell, ClaimTerm, SaveEnd, RaiseCursor, StoreLimit, ClearLimit, LoadLimit, ArmCount, AddArmed}
use Rattle.tso_model.specs.Ledger.{longer_last, place}
use Rattle.tso_model.specs.Steps.{held, hand, new_claim, batch_of}
use Rattle.tso_model.specs.Words.{packed, cell_of, cell_word, passes}
use Rattle.tso_core.specs.declared.done.Done.{Done}
use Rattle.tso_core.specs.declared.done.Done.TheVariants.{Read, Claimed, Beaten, Saved, Lost, Raised, Published, NoLimit, Stale, Looked, Armed, Refused, Granted}
use Rattle.tso_core.specs.declared.reply.Due.TheVariants.{Save, Raise, Publish}
use Rattle.tso_core.specs.declared.reply.Reply.{Reply}
use Rattle.tso_core.specs.declared.reply.Reply.TheVariants.{Beaten as IsBeaten, Lost as IsLost, Got, Again, NotLeader, Stale as IsStale, CellRead, Claimed as HasClaimed, Saved as HasSaved, Raised as HasRaised, Published as HasPublished, Looked as HasLooked, Armed as HasArmed}
use Rattle.tso_core.specs.declared.turn.Turn.{Turn}
use Rattle.tso_core.specs.Due.{at_rest}

-- what a step of this view does that finds this word
abbrev pub done_of : WordStep → ℕ → View → Done
done_of LoadCell n v = Read (cell_of n)
done_of ClaimTerm n v = if n == cell_word v.cell then Claimed (new_claim v).window else Beaten (cell_of n)
done_of (SaveEnd hi) n v = if n == packed (held v).hi (held v).term then Saved hi else Lost (cell_of n)
done_of (RaiseCursor at) n v = Raised (max n at)
done_of StoreLimit n v = Published (held v).hi
done_of ClearLimit n v = Published 0
done_of (LoadLimit d) n v =
    if nat_eq n 0 then NoLimit
    else if nat_lt (n % LOGICAL) v.seen.term then Stale v.seen.term
    else Looked (n % LOGICAL) (n / LOGICAL)
done_of (ArmCount k) n v = if passes n (hand v).hi k then Refused n (hand v).hi k else Armed n
done_of AddArmed n v = if passes n (hand v).hi v.armed then Refused n (hand v).hi v.armed else Granted (batch_of n v)

-- the answer to a step that did this
abbrev pub reply_of : Done → Reply
reply_of (Read cell) = CellRead cell
reply_of (Claimed window) = HasClaimed window.term
reply_of (Beaten found) = IsBeaten found
reply_of (Saved hi) = HasSaved hi
reply_of (Lost found) = IsLost found
reply_of (Raised cursor) = HasRaised cursor
reply_of (Published hi) = HasPublished hi
reply_of NoLimit = NotLeader
reply_of (Stale term) = IsStale term
reply_of (Looked term hi) = HasLooked term hi
reply_of (Armed at) = HasArmed at
reply_of (Refused at hi n) = Again at hi n
reply_of (Granted batch) = Got batch

-- where a driver stands that stood here and did this: a claim is followed by a save, a save by a raise, a raise that belongs to a save by a publish, and a lost save by a publish of 0
abbrev pub follow : Turn → Done → Turn
follow turn (Claimed window) = record { due = Save; next = turn.next; publishes = true }
follow turn (Saved hi) = record { due = Raise; next = turn.next; publishes = true }
follow turn (Raised cursor) = if turn.publishes then record { due = Publish; next = 0; publishes = true } else at_rest
follow turn (Lost found) = record { due = Publish; next = 0; publishes = false }
follow turn done = at_rest

-- the windows of a run after this was done
abbrev pub windows_kept : Done → List Window → List Window
windows_kept (Claimed window) ws = ws ++ window ∷ []
windows_kept (Saved hi) ws = longer_last hi ws
windows_kept done ws = ws

-- the batches of a run after this was done
abbrev pub batches_kept : Done → List Batch → List Batch
batches_kept (Granted batch) bs = place batch bs
batches_kept done bs = bs
