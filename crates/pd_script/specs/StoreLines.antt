-- The lines by which a store speaks (own choice): `hello S D NOW ADDRESS [LABELS]` and `alive S D NOW`; a region heartbeat is of
-- BeatLines, and begins as these do.
use Rattle.std.specs.Prelude.{ℕ, List, [], ◌∷◌, Result, Ok, Err}
use Rattle.pd_types.specs.declared.request.Request.TheVariants.{Hello, Alive}
use Rattle.pd_types.specs.declared.store.Label.{Label}
use Rattle.pd_script.specs.Forms.{address_form, labels_form}
use Rattle.pd_lines.specs.Words.{and_then}
use Rattle.pd_script.specs.Places.{read_place}
use Rattle.pd_script.specs.declared.ask.Asked.{Asked}
use Rattle.pd_script.specs.declared.ask.Head.{Head}
use Rattle.pd_script.specs.declared.place.Place.TheVariants.{Driver, Id, Moment}
use Rattle.pd_script.specs.declared.refusal.Reason.{Reason}
use Rattle.pd_script.specs.declared.refusal.Reason.TheVariants.{ExtraWord, MissingWord}

-- `S D NOW`
abbrev pub head_of : List ℕ → List ℕ → List ℕ → Result Head Reason
head_of store driver moment = and_then (read_place Id store) (λ s. and_then (read_place Driver driver) (λ d. and_then (read_place Moment moment) (λ m. Ok (record { store = s; driver = d; moment = m }))))

-- the labels of a word; none without one, which is the empty word
abbrev pub labels_or : List ℕ → Result (List Label) Reason
labels_or [] = Ok []
labels_or (b ∷ bs) = labels_form (b ∷ bs)

-- a store with its address and labels
abbrev pub greeted : Result Head Reason → List ℕ → List ℕ → Result Asked Reason
greeted head address labels = and_then head (λ h. and_then (address_form address) (λ a. and_then (labels_or labels) (λ l. Ok (record { driver = h.driver; request = Hello h.store h.moment a l }))))

-- the words of `hello`
abbrev pub hello_of : List (List ℕ) → Result Asked Reason
hello_of (store ∷ driver ∷ moment ∷ address ∷ []) = greeted (head_of store driver moment) address []
hello_of (store ∷ driver ∷ moment ∷ address ∷ labels ∷ []) = greeted (head_of store driver moment) address labels
hello_of (store ∷ driver ∷ moment ∷ address ∷ labels ∷ more ∷ rest) = Err ExtraWord
hello_of _ = Err MissingWord

-- the words of `alive`
abbrev pub alive_of : List (List ℕ) → Result Asked Reason
alive_of (store ∷ driver ∷ moment ∷ []) = and_then (head_of store driver moment) (λ h. Ok (record { driver = h.driver; request = Alive h.store h.moment }))
alive_of (store ∷ driver ∷ moment ∷ more ∷ rest) = Err ExtraWord
alive_of _ = Err MissingWord
