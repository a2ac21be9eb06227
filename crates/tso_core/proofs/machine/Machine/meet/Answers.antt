use Rattle.std.proofs.Common.{◌≡◌, ℕ, ◌<◌, List, length, get_or, set, map, sym, subst, ap, ◌∙◌, arith}
use Rattle.std.proofs.lemmas.List.{map-set, get_or-set_other}
use Rattle.std.proofs.Math.ListN.{length-set}
use Rattle.pd_types.specs.declared.oracle.Seen.{Seen}
use Rattle.tso_model.specs.declared.view.View.{View}
use Rattle.tso_model.specs.Moves.{blank, spent_view}
use Rattle.tso_core.specs.Machine.{whole_of, waits_in}
use Rattle.tso_core.specs.Notes.{heard_from}
use Rattle.tso_core.specs.Ready.{heard}
use Rattle.tso_core.specs.Seated.{Seated, view_of, no_seat}
use Rattle.tso_core.specs.Sound.{IsSound}
use Rattle.tso_core.specs.Whole.{Whole, place_of_client, view_at}
use Rattle.tso_core.specs.declared.reply.Reply.TheVariants.{Heard}
use Rattle.tso_core.proofs.Drawn.{own}
use Rattle.tso_core.proofs.Leaving.{heard_is, met_is}
use Rattle.tso_core.proofs.Meeting.{meets, none_waits, same_posts}
use Rattle.tso_core.proofs.Places.{get_any, get_mapped}
use Rattle.tso_core.proofs.Told.{heard_sound}
use Rattle.tso_core.proofs.machine.Machine.meet.Goals as goal

pub returns-in-None-clause-answers : goal.returns-in-None-clause-answers
returns-in-None-clause-answers c =
    let w = whole_of c.args.self.now in
    let none = none_waits c.args.self.now c.args.client c.requires.at c.index_mut.result.now c.index_mut.ensures.value c.in-None.ensures.oldest in
    let same = same_posts c.args.self.now c.args.client c.requires.at c.index_mut.result.now c.index_mut.ensures.value c.take.new.self c.in-None.ensures.oldest c.in-None.ensures.none in
    record {
      reply = ap (λ (p : List ℕ). (heard_from w c.args.client p).reply) (sym none);
      after = ap (λ (p : List (List ℕ)). record w { posts = p }) same ∙ ap (λ (p : List ℕ). (heard_from w c.args.client p).after) (sym none);
    }

pub returns-in-None-clause-sound : goal.returns-in-None-clause-sound
returns-in-None-clause-sound c =
    let same = same_posts c.args.self.now c.args.client c.requires.at c.index_mut.result.now c.index_mut.ensures.value c.take.new.self c.in-None.ensures.oldest c.in-None.ensures.none in
    subst (λ (x : Whole). IsSound x) (ap (λ (p : List (List ℕ)). record (whole_of c.args.self.now) { posts = p }) (sym same)) c.requires.at.sound

pub index-requires : goal.index-requires
index-requires c =
    let m = meets c.args.self.now c.args.client c.requires.at c.index_mut.result.now c.index_mut.ensures.value c.in-Some.note c.take.new.self.notes.items c.in-Some.ensures.oldest in
    omega (arith, m.inside)

pub hear-requires : goal.hear-requires
hear-requires c =
    let m = meets c.args.self.now c.args.client c.requires.at c.index_mut.result.now c.index_mut.ensures.value c.in-Some.note c.take.new.self.notes.items c.in-Some.ensures.oldest in
    let seats = c.args.self.now.seats.items in
    let within : c.place-place.result < length seats = omega (arith, m.place, c.place-place.ensures.value) in
    let seat : c.index_mut-in-Some.result.now ≡ get_or seats (place_of_client (whole_of c.args.self.now) c.args.client) no_seat = c.index_mut-in-Some.ensures.value
    ∙ get_any seats c.place-place.result c.index_mut-in-Some.result.now no_seat within ∙ ap (λ (i : ℕ). get_or seats i no_seat) c.place-place.ensures.value in
    record { room = omega (arith, c.requires.room, ap (λ (x : Seated). x.spare) seat) }

pub index_mut-requires-in-Some-2 : goal.index_mut-requires-in-Some-2
index_mut-requires-in-Some-2 c =
    let m = meets c.args.self.now c.args.client c.requires.at c.index_mut.result.now c.index_mut.ensures.value c.in-Some.note c.take.new.self.notes.items c.in-Some.ensures.oldest in
    omega (arith, m.inside, length-set c.args.self.now.seats.items c.place-place.result c.hear.new.self)

pub end-requires : goal.end-requires
end-requires c =
    let m = meets c.args.self.now c.args.client c.requires.at c.index_mut.result.now c.index_mut.ensures.value c.in-Some.note c.take.new.self.notes.items c.in-Some.ensures.oldest in
    let seats = c.args.self.now.seats.items in
    let w = whole_of c.args.self.now in
    let n = c.in-Some.note in
    let x = c.index_mut-in-Some-2.result.now in
    let is : x.view ≡ view_at w n = get_mapped view_of (set seats c.place-place.result c.hear.new.self) n x spent_view (omega (arith, m.inside, length-set seats c.place-place.result c.hear.new.self)) c.index_mut-in-Some-2.ensures.value
    ∙ ap (λ (l : List View). get_or l n spent_view) (map-set view_of seats c.place-place.result c.hear.new.self)
    ∙ get_or-set_other (map view_of seats) c.place-place.result n c.hear.new.self.view spent_view (λ e. m.apart (e ∙ c.place-place.ensures.value)) in
    let all : x.view ≡ record (blank w.setup.cell) { seen = (view_at w n).seen } = is ∙ m.note.copy in
    record { note = all ∙ (λ i. record (blank (sym (ap (λ (v : View). v.opening) all) i)) { seen = sym (ap (λ (v : View). v.seen) is) i }) }

pub returns-in-Some-clause-answers : goal.returns-in-Some-clause-answers
returns-in-Some-clause-answers c =
    let m = meets c.args.self.now c.args.client c.requires.at c.index_mut.result.now c.index_mut.ensures.value c.in-Some.note c.take.new.self.notes.items c.in-Some.ensures.oldest in
    let seats = c.args.self.now.seats.items in
    let w = whole_of c.args.self.now in
    let n = c.in-Some.note in
    let posts = c.args.self.now.posts.items in
    let v = view_at w (place_of_client w c.args.client) in
    let mine = own w c.requires.at.sound c.args.client c.requires.at.client.pos c.requires.at.client.low in
    let is : c.index_mut-in-Some.result.now.view ≡ v = get_mapped view_of seats c.place-place.result c.index_mut-in-Some.result.now spent_view (omega (arith, m.place, c.place-place.ensures.value)) c.index_mut-in-Some.ensures.value
    ∙ ap (λ (i : ℕ). view_at w i) c.place-place.ensures.value in
    let seen : c.seen-seen.result ≡ (view_at w n).seen = c.seen-seen.ensures.value ∙ ap (λ (u : View). u.seen) (get_mapped view_of seats n c.index.result.now spent_view m.inside c.index.ensures) in
    let after = met_is w c.args.client n c.take.new.self.notes.items (map view_of (set (set seats c.place-place.result c.hear.new.self) n c.end.new.self)) (map waits_in (set posts c.args.client c.take.new.self)) c.hear.new.self.view
    (map-set view_of (set seats c.place-place.result c.hear.new.self) n c.end.new.self
    ∙ ap (λ (l : List View). set l n c.end.new.self.view) (map-set view_of seats c.place-place.result c.hear.new.self)
    ∙ ap (λ (u : View). set (set (map view_of seats) c.place-place.result c.hear.new.self.view) n u) c.end.ensures.view
    ∙ ap (λ (i : ℕ). set (set (map view_of seats) i c.hear.new.self.view) n spent_view) c.place-place.ensures.value)
    (ap (λ (x : Seated). x.view) c.hear.ensures.after ∙ ap (λ (u : View). heard c.seen-seen.result u) is ∙ ap (λ (x : Seen). heard x v) seen
    ∙ sym (heard_is v (view_at w n) w.setup.cell mine.driver mine.cell m.note.copy))
    (map-set waits_in posts c.args.client c.take.new.self) in
    record {
      reply = ap (λ (x : Seen). Heard x) seen ∙ ap (λ (p : List ℕ). (heard_from w c.args.client p).reply) (sym m.waits);
      after = after ∙ ap (λ (p : List ℕ). (heard_from w c.args.client p).after) (sym m.waits);
    }

pub returns-in-Some-clause-sound : goal.returns-in-Some-clause-sound
returns-in-Some-clause-sound c =
    let m = meets c.args.self.now c.args.client c.requires.at c.index_mut.result.now c.index_mut.ensures.value c.in-Some.note c.take.new.self.notes.items c.in-Some.ensures.oldest in
    let w = whole_of c.args.self.now in
    subst (λ (x : Whole). IsSound x) (sym ((returns-in-Some-clause-answers c).after ∙ ap (λ (p : List ℕ). (heard_from w c.args.client p).after) m.waits))
    (heard_sound w c.requires.at.sound c.args.client c.requires.at.client.pos c.requires.at.client.low c.in-Some.note c.take.new.self.notes.items m.waits c.requires.at.due)
