-- The lines that let a scheduler propose and that carry pd-ctl's commands (own choice): `schedule D NOW` and `ctl D NOW WORDS`. WORDS are the rest of the line,
-- with the spaces inside them; whether they are a command is the cluster's answer, and no fault of the line.
use Rattle.std.specs.Prelude.{ℕ, List, [], ◌∷◌, Result, Ok, Err}
use Rattle.pd_types.specs.declared.request.Request.TheVariants.{Ctl, Schedule}
use Rattle.pd_lines.specs.Words.{and_then}
use Rattle.pd_script.specs.Places.{read_place}
use Rattle.pd_script.specs.Words.{behind_word, trimmed, words}
use Rattle.pd_script.specs.declared.ask.Asked.{Asked}
use Rattle.pd_script.specs.declared.place.Place.TheVariants.{Driver, Moment}
use Rattle.pd_script.specs.declared.refusal.Reason.{Reason}
use Rattle.pd_script.specs.declared.refusal.Reason.TheVariants.{ExtraWord, MissingWord}

-- the words of `schedule`
abbrev pub schedule_of : List (List ℕ) → Result Asked Reason
schedule_of (driver ∷ moment ∷ []) = and_then (read_place Driver driver) (λ d. and_then (read_place Moment moment) (λ m. Ok (record { driver = d; request = Schedule m })))
schedule_of (driver ∷ moment ∷ more ∷ rest) = Err ExtraWord
schedule_of _ = Err MissingWord

-- these words, the last of which begins the command; any more of them are part of it
abbrev pub ctl_by : List (List ℕ) → List ℕ → Result Asked Reason
ctl_by (driver ∷ moment ∷ first ∷ more) command = and_then (read_place Driver driver) (λ d. and_then (read_place Moment moment) (λ m. Ok (record { driver = d; request = Ctl m command })))
ctl_by _ command = Err MissingWord

-- what stands behind `ctl`: the command is what stands behind the two words
abbrev pub ctl_of : List ℕ → Result Asked Reason
ctl_of rest = ctl_by (words rest) (trimmed (behind_word (behind_word rest)))
