-- What a request heard besides its own words, and what the door said and told of it.
use Rattle.std.specs.Prelude.{◌≡◌, ℕ, List, [], ◌∷◌, ◌++◌, fold, reverse, Option}
use Rattle.meta_store.specs.declared.record.Cell.{Cell}
use Rattle.meta_store.specs.declared.record.MetaAnswer.{MetaAnswer}
use Rattle.meta_store.specs.declared.record.MetaEntry.{MetaEntry}
use Rattle.meta_store.specs.Doors.{told_more}
use Rattle.meta_store.specs.Known.{kept_heard}
use Rattle.pd_state.specs.declared.entry.Entry.{Entry}
use Rattle.pd_state.specs.declared.heard.Heard.{Heard}

-- what an entry heard
abbrev pub heard_of : Entry → Heard
heard_of entry = record { answers = entry.answers; bench = entry.bench; names = entry.names }

-- what a request hears that hears these answers alone
abbrev pub hears : List MetaAnswer → Heard
hears answers = record { answers = answers; bench = []; names = [] }

-- what a request hears that makes no call
abbrev pub nothing : Heard
nothing = hears []

-- nothing was heard of a bench
pub record IsAlone (heard : Heard) : Type 0 where
  pub bench : heard.bench ≡ []
  pub names : heard.names ≡ []

-- the records that a lead handed out: those of the first answer
abbrev pub handed_out : List MetaAnswer → List Cell
handed_out [] = []
handed_out (answer ∷ answers) = answer.cells

-- all answers that these entries heard; both lists have the latest first
abbrev pub answers_of : List Entry → List MetaAnswer
answers_of [] = []
answers_of (entry ∷ entries) = reverse entry.answers ++ answers_of entries

-- what is known of revisions, once an answer was heard
abbrev pub known_more : List Cell → MetaAnswer → List Cell
known_more known answer = kept_heard answer.call answer.verdict answer.cells known

-- the same, once these answers were heard in their order
abbrev pub known_after : List MetaAnswer → List Cell → List Cell
known_after answers known = fold known_more known answers

-- the journal that a door tells, with the entries of these answers' calls
abbrev pub told_all : Option (List MetaEntry) → ℕ → List MetaAnswer → Option (List MetaEntry)
told_all told driver [] = told
told_all told driver (answer ∷ answers) = told_all (told_more told driver answer.call) driver answers
