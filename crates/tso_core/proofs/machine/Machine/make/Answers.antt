use Rattle.std.proofs.Common.{ℕ, set, map, ap, ◌∙◌, arith}
use Rattle.std.proofs.lemmas.List.{map-set}
use Rattle.std.specs.Prelude.{slice_index}
use Rattle.tso_model.specs.declared.view.View.{View}
use Rattle.tso_model.specs.Steps.{word_of, word_after}
use Rattle.tso_core.specs.declared.done.Done.{Done}
use Rattle.tso_core.specs.Done.{done_of, windows_kept, batches_kept}
use Rattle.tso_core.specs.Machine.{whole_of}
use Rattle.tso_core.specs.Ran.{Ran}
use Rattle.tso_core.specs.Seated.{Seated, view_of}
use Rattle.tso_core.proofs.Doing.{windows_by, batches_by}
use Rattle.tso_core.proofs.Made.{made_is}
use Rattle.tso_core.proofs.Ready.{seat_ready, word_found}
use Rattle.tso_core.proofs.machine.Machine.make.Goals as goal

pub index-found-requires : goal.index-found-requires
index-found-requires c =
    let r = seat_ready c.args.self.now c.args.id c.args.step c.requires.sound c.requires.may c.index_mut-seat.result.now c.index_mut-seat.ensures.value in
    omega (arith, c.place-place.ensures.value, r.1.place)

pub written-requires : goal.written-requires
written-requires c =
    let r = seat_ready c.args.self.now c.args.id c.args.step c.requires.sound c.requires.may c.index_mut-seat.result.now c.index_mut-seat.ensures.value in
    record { suits = r.1.suits }

pub index_mut-requires : goal.index_mut-requires
index_mut-requires c =
    let r = seat_ready c.args.self.now c.args.id c.args.step c.requires.sound c.requires.may c.index_mut-seat.result.now c.index_mut-seat.ensures.value in
    omega (arith, c.place-place.ensures.value, r.1.place)

pub make-done-requires-clause-suits : goal.make-done-requires-clause-suits
make-done-requires-clause-suits c =
    let r = seat_ready c.args.self.now c.args.id c.args.step c.requires.sound c.requires.may c.index_mut-seat.result.now c.index_mut-seat.ensures.value in
    r.1.suits

pub make-done-requires-clause-found : goal.make-done-requires-clause-found
make-done-requires-clause-found c =
    let r = seat_ready c.args.self.now c.args.id c.args.step c.requires.sound c.requires.may c.index_mut-seat.result.now c.index_mut-seat.ensures.value in
    let found = word_found c.args.self.now.words.items c.args.step c.index_mut-seat.result.now.view c.place-place.result c.index-found.result.now c.place-place.ensures.value r.1.place c.index-found.ensures in
    omega (arith, found, r.1.found)

pub keep-requires-clause-sorted : goal.keep-requires-clause-sorted
keep-requires-clause-sorted c =
    let r = seat_ready c.args.self.now c.args.id c.args.step c.requires.sound c.requires.may c.index_mut-seat.result.now c.index_mut-seat.ensures.value in
    r.1.sorted

pub returns-clause-found : goal.returns-clause-found
returns-clause-found c =
    let r = seat_ready c.args.self.now c.args.id c.args.step c.requires.sound c.requires.may c.index_mut-seat.result.now c.index_mut-seat.ensures.value in
    let found = word_found c.args.self.now.words.items c.args.step c.index_mut-seat.result.now.view c.place-place.result c.index-found.result.now c.place-place.ensures.value r.1.place c.index-found.ensures in
    found ∙ ap (λ (u : View). slice_index c.args.self.now.words.items (word_of c.args.step u)) r.0

pub returns-clause-done : goal.returns-clause-done
returns-clause-done c =
    let r = seat_ready c.args.self.now c.args.id c.args.step c.requires.sound c.requires.may c.index_mut-seat.result.now c.index_mut-seat.ensures.value in
    let found = word_found c.args.self.now.words.items c.args.step c.index_mut-seat.result.now.view c.place-place.result c.index-found.result.now c.place-place.ensures.value r.1.place c.index-found.ensures in
    c.make-done.ensures.done
    ∙ (λ i. done_of c.args.step ((found ∙ ap (λ (u : View). slice_index c.args.self.now.words.items (word_of c.args.step u)) r.0) i) (r.0 i))

pub returns-clause-after : goal.returns-clause-after
returns-clause-after c =
    let r = seat_ready c.args.self.now c.args.id c.args.step c.requires.sound c.requires.may c.index_mut-seat.result.now c.index_mut-seat.ensures.value in
    let found = word_found c.args.self.now.words.items c.args.step c.index_mut-seat.result.now.view c.place-place.result c.index-found.result.now c.place-place.ensures.value r.1.place c.index-found.ensures in
    let w = whole_of c.args.self.now in
    let v = c.index_mut-seat.result.now.view in
    let n = c.index-found.result.now in
    let seats = c.args.self.now.seats.items in
    made_is w c.args.id c.args.step v n (set w.words c.place-place.result c.written.result) (map view_of (set seats c.args.id c.make-done.new.self)) c.keep.new.self.windows c.keep.new.self.batches r.0 found
    (ap (λ (x : ℕ). set w.words c.place-place.result x) c.written.ensures.value ∙ ap (λ (p : ℕ). set w.words p (word_after c.args.step v n)) c.place-place.ensures.value)
    (map-set view_of seats c.args.id c.make-done.new.self ∙ ap (λ (s : Seated). set (map view_of seats) c.args.id s.view) c.make-done.ensures.after)
    (ap (λ (x : Ran). x.windows) c.keep.ensures.after ∙ ap (λ (d : Done). windows_kept d w.windows) c.make-done.ensures.done ∙ windows_by c.args.step n v w.windows)
    (ap (λ (x : Ran). x.batches) c.keep.ensures.after ∙ ap (λ (d : Done). batches_kept d w.batches) c.make-done.ensures.done ∙ batches_by c.args.step n v w.batches)
