-- What the metadata answers to the calls of a request, and what it holds then: one list of calls for all drivers, the latest first.
use Rattle.std.specs.Prelude.{ℕ, zero, suc, List, [], ◌∷◌, ◌++◌, Option, Some, None}
use Rattle.meta_store.specs.declared.record.MetaAnswer.{MetaAnswer}
use Rattle.meta_store.specs.declared.record.MetaCall.{MetaCall}
use Rattle.meta_store.specs.declared.record.MetaEntry.{MetaEntry}
use Rattle.meta_store.specs.Doors.{answer_of, handed_out, heard}
use Rattle.meta_store.specs.Past.{entry_of, verdict_of}

-- the answer to a call: the first verdict that applies over the calls before it, and the records that are handed out
abbrev pub answer_to : List MetaEntry → MetaCall → MetaAnswer
answer_to past call = answer_of call (heard call (verdict_of past call)) (handed_out past call (verdict_of past call))

-- the calls with this one of a driver
abbrev pub with_call : List MetaEntry → ℕ → MetaCall → List MetaEntry
with_call past driver call = entry_of driver call (verdict_of past call) ∷ past

-- the answers to at most n calls of a driver, of which the first is given and each next one follows from the answers before it
abbrev pub answers_from : ℕ → (List MetaAnswer → Option MetaCall) → List MetaEntry → ℕ → List MetaAnswer → Option MetaCall → List MetaAnswer
answers_from n next past driver before None = []
answers_from zero next past driver before (Some call) = []
answers_from (suc n) next past driver before (Some call) =
    answer_to past call ∷ answers_from n next (with_call past driver call) driver (before ++ answer_to past call ∷ []) (next (before ++ answer_to past call ∷ []))

-- the answers to the calls of a request, of which there are at most so many
abbrev pub answers_to : ℕ → (List MetaAnswer → Option MetaCall) → List MetaEntry → ℕ → List MetaAnswer
answers_to most next past driver = answers_from most next past driver [] (next [])

-- the calls with those that were answered so
abbrev pub with_answers : List MetaEntry → ℕ → List MetaAnswer → List MetaEntry
with_answers past driver [] = past
with_answers past driver (answer ∷ answers) = with_answers (with_call past driver answer.call) driver answers
