-- The lines that have regions checked (own choice): `check D NOW R`, one region, and `patrol D NOW W`, all of them with W workers.
use Rattle.std.specs.Prelude.{ℕ, List, [], ◌∷◌, Result, Ok, Err}
use Rattle.pd_types.specs.declared.request.Request.TheVariants.{Check, Patrol}
use Rattle.pd_lines.specs.Words.{and_then}
use Rattle.pd_script.specs.Places.{read_place}
use Rattle.pd_script.specs.declared.ask.Asked.{Asked}
use Rattle.pd_script.specs.declared.place.Place.TheVariants.{Driver, Id, Moment, Workers}
use Rattle.pd_script.specs.declared.refusal.Reason.{Reason}
use Rattle.pd_script.specs.declared.refusal.Reason.TheVariants.{ExtraWord, MissingWord}

-- the words of `check`
abbrev pub check_of : List (List ℕ) → Result Asked Reason
check_of (driver ∷ moment ∷ region ∷ []) =
    and_then (read_place Driver driver) (λ d. and_then (read_place Moment moment) (λ m. and_then (read_place Id region) (λ r. Ok (record { driver = d; request = Check m r }))))
check_of (driver ∷ moment ∷ region ∷ more ∷ rest) = Err ExtraWord
check_of _ = Err MissingWord

-- the words of `patrol`
abbrev pub patrol_of : List (List ℕ) → Result Asked Reason
patrol_of (driver ∷ moment ∷ workers ∷ []) =
    and_then (read_place Driver driver) (λ d. and_then (read_place Moment moment) (λ m. and_then (read_place Workers workers) (λ w. Ok (record { driver = d; request = Patrol m w }))))
patrol_of (driver ∷ moment ∷ workers ∷ more ∷ rest) = Err ExtraWord
patrol_of _ = Err MissingWord
