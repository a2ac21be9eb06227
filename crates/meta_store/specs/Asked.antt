-- Calls of a door in a row, with their answers.
use Rattle.std.specs.Prelude.{◌≡◌, ℕ, List, [], ◌∷◌, ◌++◌, Option, Some, None}
use Rattle.meta_store.specs.declared.record.MetaAnswer.{MetaAnswer}
use Rattle.meta_store.specs.declared.record.MetaCall.{MetaCall}
use Rattle.meta_store.specs.declared.record.MetaEntry.{MetaEntry}
use Rattle.meta_store.specs.Doors.{told_more}

-- the calls were made one after another, each the one that comes next after the answers before it, and none comes after the last
abbrev pub AreAsked : (List MetaAnswer → Option MetaCall) → List MetaAnswer → List MetaAnswer → Type 0
AreAsked next before [] = next before ≡ None
AreAsked next before (answer ∷ answers) = (next before ≡ Some answer.call) × AreAsked next (before ++ answer ∷ []) answers

-- one call of a driver was made: the door said its answer, and told its entry where it tells the journal
pub record Asks (said_old said_new : List MetaAnswer) (told_old told_new : Option (List MetaEntry)) (driver : ℕ) (call : MetaCall) (answer : MetaAnswer) : Type 0 where
  pub call_is : answer.call ≡ call
  pub said : said_new ≡ said_old ++ answer ∷ []
  pub told : told_new ≡ told_more told_old driver call
