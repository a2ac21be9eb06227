-- A step of a seat of a sound machine is ready.
use Rattle.std.proofs.Common.{◌≡◌, ℕ, ◌<◌, List, length, get_or, map, sym, subst, ap, ◌∙◌, arith}
use Rattle.std.specs.Prelude.{slice_index}
use Rattle.std.proofs.lemmas.List.{length-map}
use Rattle.tso_model.specs.declared.step.WordStep.{WordStep}
use Rattle.tso_model.specs.declared.view.View.{View}
use Rattle.tso_model.specs.Moves.{spent_view}
use Rattle.tso_model.specs.Steps.{word_of}
use Rattle.tso_core.specs.declared.machine.Machine.{Machine}
use Rattle.tso_core.specs.Machine.{whole_of}
use Rattle.tso_core.specs.Seated.{Seated, view_of}
use Rattle.tso_core.specs.Sound.{IsSound, MayMake}
use Rattle.tso_core.specs.Whole.{Whole, view_at}
use Rattle.tso_core.proofs.Bounds.{IsReady, ready_in}
use Rattle.tso_core.proofs.Places.{at_get, get_any, get_mapped}

ready : (w : Whole) (id : ℕ) (step : WordStep) (v : View) → v ≡ view_at w id → IsSound w → MayMake w id step → IsReady step w.words w.batches v
ready w id step v same s may =
    let r = s.recorded in
    subst (λ (u : View). IsReady step w.words w.batches u) (sym same)
    (ready_in w.setup w.words w.views r.history r.a r.b r.c id (view_at w id) (at_get w.views id spent_view may.inside) may.live w.batches r.batches_are may.quota step may.may)

-- the view of a seat that stands at a place
pub seat_view : (seats : List Seated) (id : ℕ) (x : Seated) → id < length (map view_of seats) → x ≡ get_or seats id x → x.view ≡ get_or (map view_of seats) id spent_view
seat_view seats id x inside is = get_mapped view_of seats id x spent_view (omega (arith, length-map seats view_of, inside)) is

-- the seat that a step of a sound machine is made by
pub seat_ready : (m : Machine) (id : ℕ) (step : WordStep) → IsSound (whole_of m) → MayMake (whole_of m) id step → (x : Seated) → x ≡ get_or m.seats.items id x
    → (x.view ≡ view_at (whole_of m) id) × IsReady step m.words.items m.run.batches x.view
seat_ready m id step s may x is =
    let same : x.view ≡ view_at (whole_of m) id = seat_view m.seats.items id x may.inside is in
    (same, ready (whole_of m) id step x.view same s may)

-- the word that it finds
pub word_found : (words : List ℕ) (step : WordStep) (v : View) (at n : ℕ) → at ≡ word_of step v → word_of step v < length words → n ≡ get_or words at n → n ≡ slice_index words (word_of step v)
word_found words step v at n place within is = is ∙ get_any words at n 0 (omega (arith, place, within)) ∙ ap (λ (p : ℕ). slice_index words p) place
