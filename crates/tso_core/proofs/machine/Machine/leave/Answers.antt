use Rattle.std.proofs.Common.{◌≡◌, ℕ, ◌<◌, List, [], ◌∷◌, ◌++◌, length, set, map, sym, subst, ap, ◌∙◌, arith}
use Rattle.std.proofs.lemmas.List.{length-map, map-set, map-append}
use Rattle.tso_model.specs.declared.view.View.{View}
use Rattle.tso_model.specs.Moves.{new_note, spent_view}
use Rattle.tso_core.specs.Machine.{whole_of, waits_in}
use Rattle.tso_core.specs.Seated.{Seated, view_of}
use Rattle.tso_core.specs.Sound.{IsSound}
use Rattle.tso_core.specs.Whole.{Whole, view_at}
use Rattle.tso_core.proofs.Drawn.{inside}
use Rattle.tso_core.proofs.Leaving.{always_err, left_is}
use Rattle.tso_core.proofs.Places.{get_mapped, map_kept}
use Rattle.tso_core.proofs.Told.{told_sound}
use Rattle.tso_core.proofs.machine.Machine.leave.Goals as goal

pub returns-in_err-leave-clause-err : goal.returns-in_err-leave-clause-err
returns-in_err-leave-clause-err c =
    let posts = c.args.self.now.posts.items in
    let within : c.args.to < length posts = omega (arith, length-map posts waits_in, c.requires.at.sound.posts, c.requires.to.low) in
    let same : map waits_in (set posts c.args.to c.leave.new.self) ≡ map waits_in posts = map_kept waits_in posts c.args.to c.leave.new.self [] (c.in_err-leave.ensures.err ∙ get_mapped waits_in posts c.args.to c.index_mut.result.now [] within c.index_mut.ensures.value) in
    let seats : map view_of c.reserve.new.self.items ≡ map view_of c.args.self.now.seats.items = ap (λ (l : List Seated). map view_of l) c.reserve.ensures.items in
    always_err c.from_residual-in_err-leave.result (λ i. record (whole_of c.args.self.now) { views = seats i; posts = same i })

pub returns-in_err-leave-clause-sound : goal.returns-in_err-leave-clause-sound
returns-in_err-leave-clause-sound c =
    let posts = c.args.self.now.posts.items in
    let within : c.args.to < length posts = omega (arith, length-map posts waits_in, c.requires.at.sound.posts, c.requires.to.low) in
    let same : map waits_in (set posts c.args.to c.leave.new.self) ≡ map waits_in posts = map_kept waits_in posts c.args.to c.leave.new.self [] (c.in_err-leave.ensures.err ∙ get_mapped waits_in posts c.args.to c.index_mut.result.now [] within c.index_mut.ensures.value) in
    let seats : map view_of c.reserve.new.self.items ≡ map view_of c.args.self.now.seats.items = ap (λ (l : List Seated). map view_of l) c.reserve.ensures.items in
    subst (λ (x : Whole). IsSound x) (λ i. record (whole_of c.args.self.now) { views = sym seats i; posts = sym same i }) c.requires.at.sound

pub returns-clause-after : goal.returns-clause-after
returns-clause-after c =
    let w = whole_of c.args.self.now in
    let posts = c.args.self.now.posts.items in
    let seats = c.args.self.now.seats.items in
    let within : c.args.to < length posts = omega (arith, length-map posts waits_in, c.requires.at.sound.posts, c.requires.to.low) in
    let own : c.place-place.result < length seats = omega (arith, length-map seats view_of, inside w c.requires.at.sound c.args.from c.requires.at.client.pos c.requires.at.client.low, c.place-place.ensures.value) in
    left_is w c.args.from c.args.to c.len.result (map view_of c.push_reserved.new.self.items) (map waits_in (set posts c.args.to c.leave.new.self)) c.note-note.result.view (waits_in c.index_mut.result.now)
    (ap (λ (l : List Seated). map view_of l) c.push_reserved.ensures.items ∙ map-append view_of c.reserve.new.self.items (c.note-note.result ∷ []) ∙ ap (λ (l : List Seated). map view_of l ++ c.note-note.result.view ∷ []) c.reserve.ensures.items)
    (c.note-note.ensures.view ∙ ap (λ (v : View). new_note v) (get_mapped view_of seats c.place-place.result c.index.result.now spent_view own c.index.ensures ∙ ap (λ (m : ℕ). view_at w m) c.place-place.ensures.value))
    (map-set waits_in posts c.args.to c.leave.new.self ∙ ap (λ (p : List ℕ). set (map waits_in posts) c.args.to p) c.in_ok-leave.ensures.ok)
    (get_mapped waits_in posts c.args.to c.index_mut.result.now [] within c.index_mut.ensures.value)
    (omega (arith, c.len.ensures, ap length c.reserve.ensures.items, length-map seats view_of))

pub returns-clause-sound : goal.returns-clause-sound
returns-clause-sound c = subst (λ (x : Whole). IsSound x) (sym (returns-clause-after c)) (told_sound (whole_of c.args.self.now) c.requires.at.sound c.args.from c.requires.at.client.pos c.requires.at.client.low c.args.to c.requires.to.low)
