-- Calls of the metadata of which each may rest on the answers before it: an asking makes its calls one after another and ends in a value (own choice). What is
-- said of one is said of the answers that it is given, in turn; where these come to an end before it does, it waits for a call.
use Rattle.std.specs.Prelude.{◌≡◌, ℕ, List, [], ◌∷◌, ◌++◌, Option, Some, None}
use Rattle.meta_store.specs.declared.record.Cell.{Cell}
use Rattle.meta_store.specs.declared.record.MetaAnswer.{MetaAnswer}
use Rattle.meta_store.specs.declared.record.MetaCall.{MetaCall}
use Rattle.meta_store.specs.declared.record.MetaCall.TheVariants as calls
use Rattle.meta_store.specs.declared.record.MetaEntry.{MetaEntry}
use Rattle.meta_store.specs.declared.record.MetaVerdict.{MetaVerdict}
use Rattle.meta_store.specs.Cells.{cell_at, revision_in}
use Rattle.pd_state.specs.Heard.{known_after, known_more, told_all}

-- what is known of revisions, and the answers that are still to be heard
pub record Hearing : Type 0 where
  pub known : List Cell
  pub left : List MetaAnswer

-- the hearing of these answers, where this is known
abbrev pub hearing : List Cell → List MetaAnswer → Hearing
hearing known left = record { known = known; left = left }

-- where an asking came to: to its end, with a value and what is left to be heard; or to a call that it waits for
pub data Point (A : Type 0) : Type 0 where
  ended : A → Hearing → Point A
  waits : MetaCall → Point A

-- what is asked, by what there is to be heard
abbrev pub Asking : Type 0 → Type 0
Asking A = Hearing → Point A

-- nothing is asked
abbrev pub done : {A : Type 0} → A → Asking A
done value at = ended value at

-- where one call comes to
abbrev pub answered : MetaCall → List Cell → List MetaAnswer → Point MetaVerdict
answered call known [] = waits call
answered call known (answer ∷ left) = ended answer.verdict (hearing (known_more known answer) left)

-- one call
abbrev pub ask : MetaCall → Asking MetaVerdict
ask call at = answered call at.known at.left

-- a write of a record, at the revision that is known of its key
abbrev pub write : ℕ → List ℕ → List ℕ → Asking MetaVerdict
write term key bytes at = ask (calls.Put term key (revision_in (cell_at key at.known)) bytes) at

-- what comes next, once an asking ended
abbrev pub go_on : {A B : Type 0} → (A → Asking B) → Point A → Point B
go_on next (ended value at) = next value at
go_on next (waits call) = waits call

-- one asking, and then another by its value
abbrev pub and_then : {A B : Type 0} → Asking A → (A → Asking B) → Asking B
and_then first next at = go_on next (first at)

-- the call that is waited for
abbrev pub wanted : {A : Type 0} → Point A → Option MetaCall
wanted (ended value at) = None
wanted (waits call) = Some call

-- the value that was come to, else the other
abbrev pub value_or : {A : Type 0} → A → Point A → A
value_or other (ended value at) = value
value_or other (waits call) = other

-- each of these answers is to the call that was waited for
abbrev pub AreWanted : (List MetaAnswer → Option MetaCall) → List MetaAnswer → List MetaAnswer → Type 0
AreWanted next before [] = Unit {0}
AreWanted next before (answer ∷ answers) = (next before ≡ Some answer.call) × AreWanted next (before ++ answer ∷ []) answers

-- what a request heard so far, what is known of revisions, and what the door said and told
pub record Ear : Type 0 where
  pub answers : List MetaAnswer
  pub known : List Cell
  pub said : List MetaAnswer
  pub told : Option (List MetaEntry)

-- these, put together
abbrev pub ear : List MetaAnswer → List Cell → List MetaAnswer → Option (List MetaEntry) → Ear
ear answers known said told = record { answers = answers; known = known; said = said; told = told }

-- An asking was made over a door by a driver, and came to this value: some answers were heard, each to the call that was waited for, and whatever answers
-- follow, it ends with the value before them
pub record Talks (A : Type 0) (asking : Asking A) (value : A) (driver : ℕ) (old new : Ear) : Type 0 where
  pub heard : List MetaAnswer
  pub answers : new.answers ≡ old.answers ++ heard
  pub known : new.known ≡ known_after heard old.known
  pub said : new.said ≡ old.said ++ heard
  pub told : new.told ≡ told_all old.told driver heard
  pub ends : (more : List MetaAnswer) → asking (hearing old.known (heard ++ more)) ≡ ended value (hearing new.known more)
  pub wants : AreWanted (λ before. wanted (asking (hearing old.known before))) [] heard
